-- Bytes added to a page, one run after the other.
use Rattle.std.specs.Prelude.{List, [], ◌++◌, ◌∷◌, ◌≡◌, ℕ, ◌+◌, ◌≤◌, length}
use Rattle.std.proofs.Common.{ap, ◌∙◌, append_assoc, append-nil, arith, length-append, sym}
use Rattle.arrayvec.specs.ArrayVec.{ArrayVec}

-- the page has `text` more, of at most `most` bytes
pub record Adds (text : List ℕ) (most : ℕ) (old new : ArrayVec ℕ) : Type 0 where
  pub adds : new.items ≡ old.items ++ text
  pub few : length text ≤ most

-- one run after the other is one run
pub adds_then : {xs ys : List ℕ} {k l : ℕ} {old mid new : ArrayVec ℕ} → Adds xs k old mid → Adds ys l mid new → Adds (xs ++ ys) (k + l) old new
adds_then {xs} {ys} {k} {l} {old} {mid} {new} P Q =
    record {
      adds = Q.adds ∙ ap (λ (t : List ℕ). t ++ ys) P.adds ∙ append_assoc old.items xs ys;
      few = let e = length-append xs ys in omega (arith, P.few, Q.few);
    }

-- one run more, of a text that ends with it
pub adds_more : {xs ys zs : List ℕ} {k l m : ℕ} {old mid new : ArrayVec ℕ} → zs ≡ xs ++ ys → k + l ≤ m → Adds xs k old mid → Adds ys l mid new
    → Adds zs m old new
adds_more {xs} {ys} {zs} {k} {l} {m} {old} {mid} {new} e h P Q =
    let B = adds_then P Q in
    record { adds = B.adds ∙ ap (λ (t : List ℕ). old.items ++ t) (sym e); few = rw e (omega (arith, B.few)) }

-- how long the page is now
pub adds_length : {text : List ℕ} {most : ℕ} {old new : ArrayVec ℕ} → Adds text most old new → length new.items ≡ length old.items + length text
adds_length {text} {most} {old} {new} P = ap length P.adds ∙ length-append old.items text

-- nothing added
pub adds_none : (page : ArrayVec ℕ) → Adds [] 0 page page
adds_none page = record { adds = sym (append-nil page.items); few = omega arith }

-- one byte
pub adds_byte : {b : ℕ} {old new : ArrayVec ℕ} → new.items ≡ old.items ++ (b ∷ []) → Adds (b ∷ []) 1 old new
adds_byte e = record { adds = e; few = omega arith }

-- the same text by another name, and its length
pub adds_as : {xs ys : List ℕ} {k l : ℕ} {old new : ArrayVec ℕ} → xs ≡ ys → length ys ≤ l → Adds xs k old new → Adds ys l old new
adds_as {xs} {ys} {k} {l} {old} {new} e h P = record { adds = P.adds ∙ ap (λ (t : List ℕ). old.items ++ t) e; few = h }

-- the same text by another name, with a larger bound
pub adds_within : {xs ys : List ℕ} {k l : ℕ} {old new : ArrayVec ℕ} → xs ≡ ys → k ≤ l → Adds xs k old new → Adds ys l old new
adds_within {xs} {ys} {k} {l} {old} {new} e h P = let n = ap length e in adds_as e (omega (arith, P.few)) P
