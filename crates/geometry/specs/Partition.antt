-- Rust's `partition_point`: how many entries at the front of a list pass a test. Definitions, and what ties them to std's.
use Rattle.std.specs.Prelude.{◌≡◌, refl, Bool, true, false, cond, T, length, get_or, Float}
use Rattle.std.proofs.Common.{sym, ap, subst, suc-le-suc, arith}
use Rattle.std.proofs.lemmas.List.{get_or_default}
use Rattle.std.proofs.lemmas.List.Sorted.{IsPartitionPoint-from_clause}
use Rattle.std.specs.Borrow.{Bor}
use Rattle.std.specs.Fn.{Called, ComputesKey}
use denote.Param.Members.{Mut}
use Rattle.std.specs.List.Sorted.{IsPartitionPoint, IsPartitionedBy}
use mathlib.Core.List.{List, [], ◌∷◌}
use Prim.Native.Nat.{ℕ, zero, suc, ◌≤◌, ◌<◌, zero-le}
use Rattle.std.specs.Float.{nan}
use Rattle.std.specs.Float.Ieee.{le}
use Rattle.geometry.specs.Order.{le_trans}

-- the number of leading entries that pass
unfoldable pub leading : (Float → Bool) → List Float → ℕ
leading passes [] = 0
leading passes (x ∷ xs) = let rest = leading passes xs in cond (passes x) (suc rest) 0

-- Rust's `|&x| x <= s`
abbrev pub at_most : Float → Float → Bool
at_most s x = le x s

-- entries that never fall, with no NaN among them
pub record Rising (xs : List Float) : Type 0 where
  pub step : (i : ℕ) → suc i < length xs → T (le (get_or xs i nan) (get_or xs (suc i) nan))

-- ---- tests that pass at the front

-- a test that what is less passes with what is more
abbrev pub Falling : (Float → Bool) → Type 0
Falling passes = (x y : Float) → T (le x y) → passes y ≡ true → passes x ≡ true

pub is_true : (b : Bool) → T b → b ≡ true
is_true true h = refl
is_true false h = absurd h

pub at_most_falling : (s : Float) → Falling (at_most s)
at_most_falling s x y h k = is_true (le x s) (le_trans x y s h (subst T (sym k) tt))

-- what `leading` makes of a list, by whether its first entry passes
counted : (b : Bool) (n k : ℕ) → n ≤ k → cond b (suc n) 0 ≤ suc k
counted true n k h = omega arith
counted false n k h = zero-le

pub rising_rest : {x : Float} {xs : List Float} → Rising (x ∷ xs) → Rising xs
rising_rest r = record { step = λ i h. r.step (suc i) (omega arith) }

module _ (passes : Float → Bool) where
  -- an entry that fails is past the leading ones
  leading_stops : (xs : List Float) (k : ℕ) → k < length xs → passes (get_or xs k nan) ≡ false → leading passes xs ≤ k
  unfolding leading
  leading_stops [] k h e = zero-le
  leading_stops (x ∷ xs) zero h e = rw e zero-le
  leading_stops (x ∷ xs) (suc k) h e = counted (passes x) (leading passes xs) k (leading_stops xs k (omega arith) e)

  -- in a rising list the entries before one that passes pass too
  module _ (falling : Falling passes) where
    first_passes : (x : Float) (xs : List Float) (k : ℕ) → Rising (x ∷ xs) → k < length xs → passes (get_or xs k nan) ≡ true → passes x ≡ true
    first_passes x [] k r h e = absurd (omega arith)
    first_passes x (y ∷ ys) zero r h e = falling x y (r.step 0 (omega arith)) e
    first_passes x (y ∷ ys) (suc k) r h e = falling x y (r.step 0 (omega arith)) (first_passes y ys k (rising_rest r) (omega arith) e)

    leading_goes_on : (xs : List Float) (k : ℕ) → Rising xs → k < length xs → passes (get_or xs k nan) ≡ true → k < leading passes xs
    unfolding leading
    leading_goes_on [] k r h e = absurd (omega arith)
    leading_goes_on (x ∷ xs) zero r h e = rw e (omega arith)
    leading_goes_on (x ∷ xs) (suc k) r h e =
        rw (first_passes x xs k r (omega arith) e) (suc-le-suc (leading_goes_on xs k (rising_rest r) (omega arith) e))

-- ---- std's `partition_point`: where entries that pass come first, it answers how many they are
pub leading_is : (passes : Float → Bool) (xs : List Float) (n : ℕ) → n ≤ length xs
    → IsPartitionPoint (λ y. passes y ≡ true) (λ y. passes y ≡ false) xs n → n ≡ leading passes xs
unfolding leading
leading_is passes [] n h p = omega arith
leading_is passes (x ∷ xs) zero h p = rw (p.1 0 nan zero-le (omega arith)) refl
leading_is passes (x ∷ xs) (suc n) h p =
    rw (p.0 0 nan zero-le (omega arith))
    (ap suc (leading_is passes xs n (omega arith)
    ((λ k d l m. p.0 (suc k) d zero-le (omega arith)), (λ k d l m. p.1 (suc k) d (omega arith) (omega arith)))))

pub rising_partitioned : (passes : Float → Bool) → Falling passes → (xs : List Float) → Rising xs → IsPartitionedBy passes xs
rising_partitioned passes falling xs rises i j d before inside passed =
    rw (get_or_default xs i d nan (omega arith)) (by (passes (get_or xs i nan)) refl)
  where
    on : j < leading passes xs
    on = leading_goes_on passes falling xs j rises inside (rw (get_or_default xs j d nan inside) at passed)

    by : (b : Bool) → passes (get_or xs i nan) ≡ b → b ≡ true
    by true e = refl
    by false e = absurd (omega (arith, on, leading_stops passes xs i (omega arith) e))

-- the answer of std's `partition_point` on a rising list, from its clause, where each call of the closure tests the entry
pub point_is : {F : Type 0} {g : Mut F (Bor Float × Unit {0}) Bool} {f : F} (passes : Float → Bool) (xs : List Float) (n : ℕ)
    → Falling passes → Rising xs → n ≤ length xs
    → ((q : Float → Bool) → ComputesKey g q f → IsPartitionedBy q xs → IsPartitionPoint (λ y. q y ≡ true) (λ y. q y ≡ false) xs n)
    → ((a : Bor Float × Unit {0}) (r : Bool) (f' : F) → Called g f a r f' → (r ≡ passes a.0.now) × (f' ≡ f)) → n ≡ leading passes xs
point_is {g = g} {f = f} passes xs n falling rises bound clause calls =
    leading_is passes xs n bound
    (IsPartitionPoint-from_clause passes xs n clause (rising_partitioned passes falling xs rises) calls)
