-- Sums of f32 that are not negative. They stop growing, but they are monotone in each summand, no smaller than the first, and within
-- each bound that rounding keeps.
-- Costs of a search: at most 2 ^ 60, or the infinity, which stands for no chain; a link's cost is at most 2 ^ 27. Since 2 ^ 60 + 2 ^ 27
-- rounds to 2 ^ 60, no sum of links, however long, leaves that range.
-- Lengths of lanes: a sum of k pieces, each at most 2 ^ 14, is at most k * 2 ^ 14, for a k up to 8,192.
use Rattle.std.specs.Prelude.{◌≡◌, ℕ, suc, ◌+◌, ◌*◌, ◌^◌, ◌≤◌, ◌<◌, false, Float}
use Rattle.std.proofs.Common.{sym, ap, ◌∙◌, subst, inl, inr, le_refl, le_trans, le_of_eq, lt_irrefl, lt_of_le_of_lt, lt_of_lt_of_le, add-le-add, le-add_right, mul-le-mul_right, suc-mul, lit≤}
use Rattle.std.specs.Float.{inf, binary32}
use Rattle.std.specs.Float.Ieee.{add}
use Rattle.std.specs.Float.Ieee.Fits.{round-fits}
use Rattle.std.specs.Float.Ieee.Exact.{HasValue}
use Rattle.std.specs.Float.Ieee.Scale.{grid}
use Rattle.exact.specs.Patterns.{round_self}
use Rattle.exact.specs.Fractions.{add_units, sum_like}
use Rattle.exact.specs.Values.{U, U_pos, mag, size_of, size_of_value, round_under, round_value}
use Rattle.exact.proofs.Values.{round_finite}
use Rattle.exact.proofs.Monotone.{grid_mono}
use Rattle.exact.specs.Sums.{UpTo, up_to, rounded, Cost, LinkCost, under_infinite, sum_of_bounds, bounds_finite, inf_sum, cost_most, Piece, Long, pieces_size, pieces_finite}

rounded_value : (n : ℕ) → n < 2 ^ 127 * U → HasValue (rounded n) false (grid binary32 n U) U
rounded_value n h = round_value false n U (round_under false n U (round_finite false n U U_pos h))

rounded_size : (n : ℕ) → n < 2 ^ 127 * U → size_of (rounded n) ≡ grid binary32 n U
rounded_size n h = size_of_value (rounded n) false (grid binary32 n U) (round-fits binary32 false n U) (rounded_value n h)

rounded_mono : (n k : ℕ) → n ≤ k → k < 2 ^ 127 * U → size_of (rounded n) ≤ size_of (rounded k)
rounded_mono n k h l =
    let m = lt_of_le_of_lt h l in
    le_trans (le_of_eq (rounded_size n m))
    (le_trans
    (grid_mono false false n U k U U_pos U_pos (round_finite false n U U_pos m) (round_finite false k U U_pos l) (mul-le-mul_right U h))
    (le_of_eq (sym (rounded_size k l))))

-- ---- a sum is the rounded sum of units
module _ (a b : ℕ) (x y : Float) (p : UpTo a x) (q : UpTo b y) where
  sum_is : add binary32 x y ≡ rounded (size_of x + size_of y)
  sum_is =
      add_units false false (size_of x) (size_of y) U U_pos binary32 x y p.value q.value
      ∙ sum_like binary32 false (size_of x) (size_of y) U

  module _ (h : a + b < 2 ^ 127 * U) where
    small : size_of x + size_of y < 2 ^ 127 * U
    small = lt_of_le_of_lt (add-le-add p.most q.most) h

    -- it is at most what the bounds' sum rounds to
    pub sum_bounded : (c : ℕ) → size_of (rounded (a + b)) ≤ c → UpTo c (add binary32 x y)
    sum_bounded c l =
        let n = size_of x + size_of y in
        let m : size_of (rounded n) ≤ c = le_trans (rounded_mono n (a + b) (add-le-add p.most q.most) h) l in
        subst (UpTo c) (sym sum_is)
        (up_to c (grid binary32 n U) (rounded n) (round-fits binary32 false n U) (rounded_value n small)
        (le_trans (le_of_eq (sym (rounded_size n small))) m))

    -- and no smaller than the first summand
    pub sum_grows : size_of x ≤ size_of (add binary32 x y)
    sum_grows =
        le_trans (le_of_eq (ap size_of (sym (round_self binary32 x false (size_of x) U U_pos p.fit p.value))))
        (le_trans (rounded_mono (size_of x) (size_of x + size_of y) (le-add_right (size_of x) (size_of y)) small)
        (le_of_eq (ap size_of (sym sum_is))))

pub sum_mono : (a b : ℕ) (x x' y y' : Float) → UpTo a x → UpTo a x' → UpTo b y → UpTo b y' → a + b < 2 ^ 127 * U → size_of x ≤ size_of x'
    → size_of y ≤ size_of y'
    → size_of (add binary32 x y) ≤ size_of (add binary32 x' y')
sum_mono a b x x' y y' p p' q q' h l m =
    le_trans (le_of_eq (ap size_of (sum_is a b x y p q)))
    (le_trans (rounded_mono (size_of x + size_of y) (size_of x' + size_of y') (add-le-add l m) (small a b x' y' p' q' h))
    (le_of_eq (ap size_of (sym (sum_is a b x' y' p' q')))))

bounds_size : size_of (rounded (2 ^ 60 * U + 2 ^ 27 * U)) ≤ 2 ^ 60 * U
unfolding size_of mag U
bounds_size = le_trans (le_of_eq (ap size_of sum_of_bounds)) (lit≤ tt)

-- ---- the sum of a cost and a link's cost
finite_sum : (a w : Float) → UpTo (2 ^ 60 * U) a → LinkCost w → UpTo (2 ^ 60 * U) (add binary32 a w)
finite_sum a w p q = sum_bounded (2 ^ 60 * U) (2 ^ 27 * U) a w p q bounds_finite (2 ^ 60 * U) bounds_size

pub add_cost : (a w : Float) → Cost a → LinkCost w → Cost (add binary32 a w)
add_cost a w (inl p) q = inl (ap (λ (x : Float). add binary32 x w) p ∙ inf_sum w q)
add_cost a w (inr p) q = inr (finite_sum a w p q)

pub add_grows : (a w : Float) → Cost a → LinkCost w → size_of a ≤ size_of (add binary32 a w)
add_grows a w (inl p) q = le_of_eq (ap size_of (p ∙ sym (ap (λ (x : Float). add binary32 x w) p ∙ inf_sum w q)))
add_grows a w (inr p) q = sum_grows (2 ^ 60 * U) (2 ^ 27 * U) a w p q bounds_finite

pub add_mono_left : (a b w : Float) → Cost a → Cost b → LinkCost w → size_of a ≤ size_of b
    → size_of (add binary32 a w) ≤ size_of (add binary32 b w)
add_mono_left a b w p (inl q) r h =
    le_trans (cost_most (add binary32 a w) (add_cost a w p r))
    (le_of_eq (ap size_of (sym (ap (λ (x : Float). add binary32 x w) q ∙ inf_sum w r))))
add_mono_left a b w (inl p) (inr q) r h =
    absurd (lt_irrefl (size_of b) (lt_of_lt_of_le (under_infinite b q) (le_trans (le_of_eq (ap size_of (sym p))) h)))
add_mono_left a b w (inr p) (inr q) r h = sum_mono (2 ^ 60 * U) (2 ^ 27 * U) a b w w p q r r bounds_finite h (le_refl (size_of w))

pub add_mono_right : (a w x : Float) → Cost a → LinkCost w → LinkCost x → size_of w ≤ size_of x
    → size_of (add binary32 a w) ≤ size_of (add binary32 a x)
add_mono_right a w x (inl p) q r h =
    le_of_eq (ap size_of (ap (λ (z : Float). add binary32 z w) p ∙ inf_sum w q ∙ sym
    (ap (λ (z : Float). add binary32 z x) p ∙ inf_sum x r)))
add_mono_right a w x (inr p) q r h = sum_mono (2 ^ 60 * U) (2 ^ 27 * U) a a w x p p q r bounds_finite (le_refl (size_of a)) h

-- a finite cost stays finite
pub add_finite : (a w : Float) → Cost a → LinkCost w → size_of a < size_of (inf false) → size_of (add binary32 a w) < size_of (inf false)
add_finite a w (inl p) q h = absurd (lt_irrefl (size_of (inf false)) (subst (λ (x : Float). size_of x < size_of (inf false)) p h))
add_finite a w (inr p) q h = under_infinite (add binary32 a w) (finite_sum a w p q)

pub long_more : (k : ℕ) (x w : Float) → suc k ≤ 8192 → Long k x → Piece w → Long (suc k) (add binary32 x w)
long_more k x w h p q =
    let P = 2 ^ 14 * U in
    let e : k * P + P ≡ suc k * P = sym (suc-mul k P) in
    sum_bounded (k * P) P x w p q (subst (λ (n : ℕ). n < 2 ^ 127 * U) (sym e) (pieces_finite (suc k) h)) (suc k * P)
    (le_of_eq (ap (λ (n : ℕ). size_of (rounded n)) e ∙ pieces_size (suc k) h))
