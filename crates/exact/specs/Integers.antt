-- Integers as differences of two natural numbers, p - n, not reduced: equality is `◌≈◌`. It and the order `◌⊑◌` are records of one
-- equation or inequation in ℕ, so that `omega` reads them as hypotheses and proves them as goals. The operations stay shut until an
-- `unfolding` line opens them.
use Rattle.std.specs.Prelude.{◌≡◌, Bool, true, false, ℕ, ◌+◌, ◌*◌, ◌≤◌}
use Rattle.std.proofs.Common.{ap, arith}
use Rattle.std.specs.Float.Ieee.{unlike}

pub record Z : Type 0 where
  pub p : ℕ
  pub n : ℕ

infixl 6 ◌⊞◌ ◌⊟◌
infixl 7 ◌⊠◌ ◌·◌
infix 4 ◌≈◌ ◌⊑◌
unfoldable pub ι : ℕ → Z
ι k = record { p = k; n = 0 }

unfoldable pub ◌⊞◌ : Z → Z → Z
a ⊞ b = record { p = a.p + b.p; n = a.n + b.n }

unfoldable pub ⊖ : Z → Z
⊖ a = record { p = a.n; n = a.p }

unfoldable pub ◌⊟◌ : Z → Z → Z
a ⊟ b = record { p = a.p + b.n; n = a.n + b.p }

unfoldable pub ◌⊠◌ : Z → Z → Z
a ⊠ b = record { p = a.p * b.p + a.n * b.n; n = a.p * b.n + a.n * b.p }

-- k times, linear for `omega` where k is a numeral
unfoldable pub ◌·◌ : ℕ → Z → Z
k · a = record { p = k * a.p; n = k * a.n }

-- a with its sign: s is true for a negative
unfoldable pub sgn : Bool → ℕ → Z
sgn false a = record { p = a; n = 0 }
sgn true a = record { p = 0; n = a }

pub record ◌≈◌ (a b : Z) : Type 0 where
  pub eq : a.p + b.n ≡ b.p + a.n

pub record ◌⊑◌ (a b : Z) : Type 0 where
  pub le : a.p + b.n ≤ b.p + a.n

-- ---- equality
pub ≈_refl : (a : Z) → a ≈ a
≈_refl a = omega arith

pub ≈_sym : {a b : Z} → a ≈ b → b ≈ a
≈_sym h = omega arith

pub ≈_trans : {a b c : Z} → a ≈ b → b ≈ c → a ≈ c
≈_trans h k = omega arith

pub ⊞_cong : {a b c d : Z} → a ≈ b → c ≈ d → a ⊞ c ≈ b ⊞ d
unfolding ◌⊞◌
⊞_cong h k = omega arith

pub ⊖_cong : {a b : Z} → a ≈ b → ⊖ a ≈ ⊖ b
unfolding ⊖
⊖_cong h = omega arith

pub ⊟_cong : {a b c d : Z} → a ≈ b → c ≈ d → a ⊟ c ≈ b ⊟ d
unfolding ◌⊟◌
⊟_cong h k = omega arith

⊠_cong_l : {a b : Z} (c : Z) → a ≈ b → a ⊠ c ≈ b ⊠ c
unfolding ◌⊠◌
⊠_cong_l c h = omega (arith, ap (λ (t : ℕ). t * c.p) h.eq, ap (λ (t : ℕ). t * c.n) h.eq)

⊠_comm : (a b : Z) → a ⊠ b ≈ b ⊠ a
unfolding ◌⊠◌
⊠_comm a b = omega arith

pub ⊠_cong : {a b c d : Z} → a ≈ b → c ≈ d → a ⊠ c ≈ b ⊠ d
⊠_cong {a} {b} {c} {d} h k = ≈_trans (⊠_cong_l c h) (≈_trans (⊠_comm b c) (≈_trans (⊠_cong_l b k) (⊠_comm d b)))

pub ⊠_assoc : (a b c : Z) → (a ⊠ b) ⊠ c ≈ a ⊠ (b ⊠ c)
unfolding ◌⊠◌
⊠_assoc a b c = omega arith

pub ⊠_⊞ : (a b c : Z) → a ⊠ (b ⊞ c) ≈ (a ⊠ b) ⊞ (a ⊠ c)
unfolding ◌⊠◌ ◌⊞◌
⊠_⊞ a b c = omega arith

pub times_zero : (a : Z) → a ⊠ ι 0 ≈ ι 0
unfolding ◌⊠◌ ι
times_zero a = omega arith

pub zero_times : (a : Z) → ι 0 ⊠ a ≈ ι 0
unfolding ◌⊠◌ ι
zero_times a = omega arith

pub one_times : (a : Z) → ι 1 ⊠ a ≈ a
unfolding ι ◌⊠◌
one_times a = omega arith

-- ---- signs
pub ι_sgn : (k : ℕ) (s : Bool) (a : ℕ) → ι k ⊠ sgn s a ≈ sgn s (k * a)
unfolding sgn ι ◌⊠◌
ι_sgn k false a = omega arith
ι_sgn k true a = omega arith

pub sgn_mul : (s t : Bool) (a b : ℕ) → sgn s a ⊠ sgn t b ≈ sgn (unlike s t) (a * b)
unfolding sgn ◌⊠◌
sgn_mul false false a b = omega arith
sgn_mul false true a b = omega arith
sgn_mul true false a b = omega arith
sgn_mul true true a b = omega arith

pub sgn_le : (a b : ℕ) → sgn false a ⊑ sgn false b → a ≤ b
unfolding sgn
sgn_le a b h = omega arith
