-- What is written of the text of a file, and what is still to come, as `run` writes it piece by piece.
use Rattle.std.proofs.Common.{Bool, cond, List, [], ◌++◌, ◌≡◌, ℕ, Option, None, Some, refl, sym, ap, subst, ◌∙◌, append-nil, append_assoc}
use Rattle.std.specs.Io.KnownBytes.{Appends}
use Rattle.std.proofs.KnownBytes.{Appends-trans}
use Rattle.replies.specs.Pieces.{Pieces, printed_pieces, written_text}
use Rattle.replies.specs.Printed.{Part, Writes, after, first_part, next_part, printed}
use Rattle.arrayvec.specs.ArrayVec.{ArrayVec}

-- the text after a piece, where the next ones follow from `next` on
abbrev pub Rest : List ℕ → Option ℕ → List ℕ → Type 0
Rest f None rest = rest ≡ []
Rest f (Some next) rest = Pieces f (next_part f next) rest

follows : (f : List ℕ) (x : Part) (text : List ℕ) → Pieces f x text → (rest : List ℕ) × (text ≡ x.text ++ rest) × Rest f (after x) rest
follows f x text (Pieces.last y e) = ([], sym (append-nil y.text), subst (λ (b : Bool). Rest f (cond b (Some y.next) None) []) (sym e) refl)
follows f x text (Pieces.then y rest e P) = (rest, refl, subst (λ (b : Bool). Rest f (cond b (Some y.next) None) rest) (sym e) P)

-- of the text of f, `done` was appended to what the writer held, and `rest` follows
pub record Writing (f : List ℕ) (old new : Option (List ℕ)) (next : Option ℕ) : Type 0 where
  pub done : List ℕ
  pub rest : List ℕ
  pub appended : Appends old new done
  pub goes_on : Rest f next rest
  pub whole : done ++ rest ≡ printed f

module _ (f : List ℕ) {next : Option ℕ} {page : ArrayVec ℕ} where
  -- after the first piece
  pub begun : {old new : Option (List ℕ)} → {bytes : List ℕ} → Writes (first_part f) next page → bytes ≡ page.items
      → Appends old new bytes → Writing f old new next
  begun {old} {new} {bytes} W e A =
      let (rest, whole, more) = follows f (first_part f) (printed f) (printed_pieces f) in
      record {
        done = page.items;
        rest = rest;
        appended = subst (Appends old new) e A;
        goes_on = rw W.goes_on more;
        whole = ap (λ (t : List ℕ). t ++ rest) (written_text W) ∙ sym whole;
      }

  -- after one more
  pub further : {old mid new : Option (List ℕ)} {at : ℕ} {bytes : List ℕ} → Writing f old mid (Some at) → Writes (next_part f at) next page
      → bytes ≡ page.items → Appends mid new bytes → Writing f old new next
  further {old} {mid} {new} {at} {bytes} T W e A =
      let (rest, whole, more) = follows f (next_part f at) T.rest T.goes_on in
      record {
        done = T.done ++ page.items;
        rest = rest;
        appended = Appends-trans _ _ _ _ _ T.appended (subst (Appends mid new) e A);
        goes_on = rw W.goes_on more;
        whole =
            append_assoc T.done page.items rest
            ∙ ap (λ (t : List ℕ). T.done ++ (t ++ rest)) (written_text W)
            ∙ ap (λ (t : List ℕ). T.done ++ t) (sym whole)
            ∙ T.whole;
      }
