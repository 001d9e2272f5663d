-- Places and the keys by which they are told apart.
use Rattle.std.specs.Prelude.{◌≡◌, Bool, true, false, ◌||◌, List, [], ◌∷◌, ◌++◌, ℕ, suc, ◌-◌, ◌<◌, ◌≤◌, get_or, length, map, reverse, take}
use Rattle.std.specs.List.{list_any}
use Rattle.std.proofs.Common.{arith, refl, ap, sym, ◌∙◌}
use Rattle.std.proofs.Math.Seq.{take-suc}
use Rattle.std.proofs.lemmas.List.{get_or-map, reverse-append}
use Rattle.ends.specs.declared.Placing.{Placing}
use Rattle.ends.specs.declared.Advance.{Advance}
use Rattle.ends.specs.declared.Rounded.{Rounded}
use Rattle.branches.specs.Branches.{holds}
use Rattle.ends.specs.Ends.{placing_of, same_placing}
use Rattle.ends.specs.Rounded.{placing_with, rounded_of}

-- a key is held where a place is told apart by it
pub told_any : (k : Placing) (xs : List Advance) → holds same_placing k (map placing_of xs) ≡ list_any (λ a. same_placing (placing_of a) k) xs
unfolding holds
told_any k [] = refl
told_any k (x ∷ xs) = ap (λ (b : Bool). same_placing (placing_of x) k || b) (told_any k xs)

-- of the first i places the newest tells k apart, or one before it does; what was rounded of it stands beside it
module _ (k : Placing) (out : List Advance) (rounded : List Rounded) (paired : rounded ≡ map rounded_of out) (i : ℕ) (some : 0 < i)
    (within : i ≤ length out) (a : Advance) (r : Rounded) where
  abbrev told : List Advance → Bool
  told = list_any (λ x. same_placing (placing_of x) k)

  abbrev newest : Bool
  newest = same_placing (placing_with (get_or out (i - 1) a) (get_or rounded (i - 1) r)) k

  newest_is : newest ≡ same_placing (placing_of (get_or out (i - 1) a)) k
  unfolding placing_with placing_of
  newest_is =
      let is : get_or rounded (i - 1) r ≡ rounded_of (get_or out (i - 1) a) =
      ap (λ rs. get_or rs (i - 1) r) paired ∙ get_or-map rounded_of out (i - 1) a r (omega (arith, within)) in
      ap (λ q. same_placing (placing_with (get_or out (i - 1) a) q) k) is

  newest_first : told (reverse (take i out)) ≡ (newest || told (reverse (take (i - 1) out)))
  newest_first =
      let one : i ≡ suc (i - 1) = omega arith in
      let x = get_or out (i - 1) a in
      let more : take i out ≡ take (i - 1) out ++ x ∷ [] = ap (λ n. take n out) one ∙ take-suc out (i - 1) a (omega (arith, within)) in
      ap told (ap reverse more ∙ reverse-append (take (i - 1) out) (x ∷ []))
      ∙ ap (λ (b : Bool). b || told (reverse (take (i - 1) out))) (sym newest_is)

  pub told_here : newest ≡ true → true ≡ told (reverse (take i out))
  told_here e = sym (newest_first ∙ ap (λ (b : Bool). b || told (reverse (take (i - 1) out))) e)

  pub told_before : newest ≡ false → told (reverse (take (i - 1) out)) ≡ told (reverse (take i out))
  told_before e = sym (newest_first ∙ ap (λ (b : Bool). b || told (reverse (take (i - 1) out))) e)
