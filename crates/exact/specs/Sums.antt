-- Sums of f32 that are not negative (their laws are in proofs/Sums). They stop growing, but they are monotone in each summand, no smaller than the first, and within
-- each bound that rounding keeps.
-- Costs of a search: at most 2 ^ 60, or the infinity, which stands for no chain; a link's cost is at most 2 ^ 27. Since 2 ^ 60 + 2 ^ 27
-- rounds to 2 ^ 60, no sum of links, however long, leaves that range.
-- Lengths of lanes: a sum of k pieces, each at most 2 ^ 14, is at most k * 2 ^ 14, for a k up to 8,192.
use Rattle.std.specs.Prelude.{◌≡◌, refl, ◌⊎◌, ℕ, ◌+◌, ◌*◌, ◌^◌, ◌≤◌, ◌<◌, true, false, pos, T, ltb, Float}
use Rattle.std.proofs.Common.{sym, ap, ap₂, ◌∙◌, subst, inl, inr, zero-le, le_trans, le_of_eq, le_of_lt, lt_irrefl, lt_of_le_of_lt, lt_of_lt_of_le, mul-le-mul_right, arith, lit≤, lit<, lt-ltb, le-ltb}
use Rattle.std.specs.Float.{nan, inf, fin, binary32}
use Rattle.std.specs.Float.Ieee.{size, odd, units, round, add, lt, fits}
use Rattle.std.specs.Float.Ieee.Fits.{round-fits}
use Rattle.std.specs.Float.Ieee.Exact.{HasValue, round_exact}
use Rattle.exact.specs.Patterns.{one_value}
use Rattle.exact.specs.Fractions.{lt_units}
use Rattle.exact.specs.Values.{U, U_pos, mag, size_of, size_of_value}

-- ---- x is an f32 that is not negative (and not -0), and at most n units
pub record UpTo (n : ℕ) (x : Float) : Type 0 where
  pub fit : T (fits binary32 x)
  pub value : HasValue x false (size_of x) U
  pub most : size_of x ≤ n

pub up_to : (n w : ℕ) (x : Float) → T (fits binary32 x) → HasValue x false w U → w ≤ n → UpTo n x
up_to n w x t h l =
    let e = size_of_value x false w t h in
    record { fit = t; value = subst (λ (z : ℕ). HasValue x false z U) (sym e) h; most = le_trans (le_of_eq e) l }

looser : (m n : ℕ) (x : Float) → UpTo m x → m ≤ n → UpTo n x
looser m n x p h = record { fit = p.fit; value = p.value; most = le_trans p.most h }

-- n units, rounded
abbrev pub rounded : ℕ → Float
rounded n = round binary32 false n U

-- ---- costs
abbrev pub Cost : Float → Type 0
Cost x = (x ≡ inf false) ⊎ UpTo (2 ^ 60 * U) x

abbrev pub LinkCost : Float → Type 0
LinkCost x = UpTo (2 ^ 27 * U) x

infinite_size : size_of (inf false) ≡ 2 ^ 277
unfolding size_of
infinite_size = refl

-- 2 ^ 60 is below the infinity, and so is every finite cost
pub under_infinite : (x : Float) → UpTo (2 ^ 60 * U) x → size_of x < size_of (inf false)
unfolding U
under_infinite x p = lt_of_le_of_lt p.most (lt_of_lt_of_le (lit< tt) (le_of_eq (sym infinite_size)))

-- 2 ^ 60 + 2 ^ 27 = 2 ^ 60
pub sum_of_bounds : rounded (2 ^ 60 * U + 2 ^ 27 * U) ≡ fin false 1 (pos 60)
unfolding U round size units odd lib.Count.count_trailing_zeros
sum_of_bounds = refl

pub bounds_finite : 2 ^ 60 * U + 2 ^ 27 * U < 2 ^ 127 * U
unfolding U
bounds_finite = lit< tt

-- an infinite cost stays infinite
pub inf_sum : (w : Float) → LinkCost w → add binary32 (inf false) w ≡ inf false
unfolding add
inf_sum w p = go w (size_of w) p.value
  where
    go : (w : Float) (n : ℕ) → HasValue w false n U → add binary32 (inf false) w ≡ inf false
    go nan n h = absurd h
    go (inf s) n h = absurd h
    go (fin s m e) n h = refl

finite_lt_infinite : (x : Float) (n : ℕ) → HasValue x false n U → lt x (inf false) ≡ true
unfolding lt
finite_lt_infinite nan n h = absurd h
finite_lt_infinite (inf s) n h = absurd h
finite_lt_infinite (fin s m e) n h = refl

infinite_lt_finite : (x : Float) (n : ℕ) → HasValue x false n U → lt (inf false) x ≡ false
unfolding lt
infinite_lt_finite nan n h = absurd h
infinite_lt_finite (inf s) n h = absurd h
infinite_lt_finite (fin s m e) n h = refl

infinite_lt_itself : lt (inf false) (inf false) ≡ false
unfolding lt
infinite_lt_itself = refl

-- the order of costs is that of their sizes
pub cost_lt : (a b : Float) → Cost a → Cost b → lt a b ≡ ltb (size_of a) (size_of b)
cost_lt a b (inl p) (inl q) = ap₂ lt p q ∙ infinite_lt_itself ∙ sym (le-ltb (size_of a) (size_of b) (le_of_eq (ap size_of (q ∙ sym p))))
cost_lt a b (inl p) (inr q) =
    ap (λ (x : Float). lt x b) p ∙ infinite_lt_finite b (size_of b) q.value ∙ sym
    (le-ltb (size_of a) (size_of b) (le_trans (le_of_lt (under_infinite b q)) (le_of_eq (ap size_of (sym p)))))
cost_lt a b (inr p) (inl q) =
    ap (lt a) q ∙ finite_lt_infinite a (size_of a) p.value ∙ sym
    (lt-ltb (size_of a) (size_of b) (lt_of_lt_of_le (under_infinite a p) (le_of_eq (ap size_of (sym q)))))
cost_lt a b (inr p) (inr q) = lt_units false false (size_of a) (size_of b) U U_pos a b p.value q.value

-- costs of one size are one
pub cost_unique : (a b : Float) → Cost a → Cost b → size_of a ≡ size_of b → a ≡ b
cost_unique a b (inl p) (inl q) e = p ∙ sym q
cost_unique a b (inl p) (inr q) e = absurd (lt_irrefl (size_of b) (lt_of_lt_of_le (under_infinite b q) (le_of_eq (ap size_of (sym p) ∙ e))))
cost_unique a b (inr p) (inl q) e =
    absurd (lt_irrefl (size_of a) (lt_of_lt_of_le (under_infinite a p) (le_of_eq (ap size_of (sym q) ∙ sym e))))
cost_unique a b (inr p) (inr q) e =
    one_value binary32 a b false (size_of a) U U_pos p.fit q.fit p.value
    (subst (λ (n : ℕ). HasValue b false n U) (sym e) q.value)

pub cost_most : (a : Float) → Cost a → size_of a ≤ size_of (inf false)
cost_most a (inl p) = le_of_eq (ap size_of p)
cost_most a (inr p) = le_of_lt (under_infinite a p)

pub zero_up_to : (n : ℕ) → UpTo n (fin false 0 (pos 0))
unfolding fits
zero_up_to n = up_to n 0 (fin false 0 (pos 0)) tt (refl, nothing U) zero-le
  where
    nothing : (u : ℕ) → 0 * 1 * u ≡ 0 * 1
    nothing u = omega arith

pub zero_size : size_of (fin false 0 (pos 0)) ≡ 0
unfolding size_of mag U
zero_size = refl

pub link_cost : (w : Float) → LinkCost w → UpTo (2 ^ 60 * U) w
unfolding U
link_cost w p = looser (2 ^ 27 * 2 ^ 149) (2 ^ 60 * 2 ^ 149) w p (lit≤ tt)

pub link_cost_finite : (w : Float) → LinkCost w → size_of w < size_of (inf false)
link_cost_finite w p = under_infinite w (link_cost w p)

-- ---- lengths of lanes
abbrev pub Piece : Float → Type 0
Piece x = UpTo (2 ^ 14 * U) x

-- at most k pieces
abbrev pub Long : ℕ → Float → Type 0
Long k x = UpTo (k * (2 ^ 14 * U)) x

-- k * 2 ^ 14 is an f32
pub pieces_size : (k : ℕ) → k ≤ 8192 → size_of (rounded (k * (2 ^ 14 * U))) ≡ k * (2 ^ 14 * U)
unfolding U
pieces_size k h =
    let n = k * (2 ^ 14 * 2 ^ 149) in
    size_of_value (round binary32 false n (2 ^ 149)) false n (round-fits binary32 false n (2 ^ 149))
    (round_exact binary32 false n (2 ^ 149) k 163 U_pos (lt_of_le_of_lt h (lit< tt))
    (lt_of_le_of_lt (mul-le-mul_right (2 ^ 163) h) (lit< tt)) refl)

pub pieces_finite : (k : ℕ) → k ≤ 8192 → k * (2 ^ 14 * U) < 2 ^ 127 * U
unfolding U
pieces_finite k h = lt_of_le_of_lt (mul-le-mul_right (2 ^ 163) h) (lit< tt)

-- so the length of a lane is a cost of a link
pub long_link : (k : ℕ) (x : Float) → k ≤ 8192 → Long k x → LinkCost x
unfolding U
long_link k x h p = looser (k * (2 ^ 14 * 2 ^ 149)) (2 ^ 27 * 2 ^ 149) x p (le_trans (mul-le-mul_right (2 ^ 163) h) (lit≤ tt))
