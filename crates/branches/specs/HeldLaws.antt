-- A list with the newest last, and the list with the newest first: one more element, the newest taken off, and whether an element is in them.
use Rattle.std.specs.Prelude.{◌≡◌, refl, Bool, ◌||◌, List, [], ◌∷◌, ◌++◌, reverse}
use Rattle.std.specs.List.{list_any}
use Rattle.std.proofs.Common.{ap}
use Rattle.std.proofs.lemmas.List.{reverse-append}
use Rattle.branches.specs.Branches.{holds}

-- a push is a cons
pub pushed : {A : Type 0} (xs : List A) (x : A) → reverse (xs ++ x ∷ []) ≡ x ∷ reverse xs
pushed xs x = reverse-append xs (x ∷ [])

-- `any` answers what `holds` does
pub holds_any : {A : Type 0} (same : A → A → Bool) (x : A) (xs : List A) → holds same x xs ≡ list_any (λ y. same y x) xs
unfolding holds
holds_any same x [] = refl
holds_any same x (y ∷ ys) = ap (λ (b : Bool). same y x || b) (holds_any same x ys)
