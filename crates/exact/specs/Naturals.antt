-- Small facts on natural numbers: what `compare` says, one of two orders, digits.
use Rattle.std.specs.Prelude.{◌≡◌, ◌⊎◌, Bool, true, false, not, T, ltb, eqb}
use Rattle.std.proofs.Common.{subst, inl, inr, lt_of_lt_of_le, lt_of_not-le, not-le_of_lt, le_of_suc-le-suc, arith, leb→le, ltb→lt, nltb→le, eqb→eq, pow_mono}
use Prim.Native.Nat.{ℕ, ◌^◌, ◌≤◌, ◌<◌, compare, Ordering}
use Rattle.std.proofs.Math.Dec.{is_le, compare_is_eq, nleb→lt, eqb_refl}
use Rattle.std.proofs.Math.Arith.{lt_of_le-ne}
use Rattle.std.proofs.Math.Pow.{pow-lt}
use Rattle.std.specs.Float.Ieee.{size}
use Rattle.std.specs.Float.Ieee.Digits.{size-lt}

pub le_of_not_lt : {a b : ℕ} → ¬ (a < b) → b ≤ a
le_of_not_lt h = omega arith

pub lt_or_le : (a b : ℕ) → (a < b) ⊎ (b ≤ a)
lt_or_le a b = go (ltb a b) (ltb→lt a b) (nltb→le a b)
  where
    go : (t : Bool) → (T t → a < b) → (T (not t) → b ≤ a) → (a < b) ⊎ (b ≤ a)
    go true x y = inl (x tt)
    go false x y = inr (y tt)

-- ---- what an answer of `compare` says
abbrev pub Cmp : Ordering → ℕ → ℕ → Type 0
Cmp Ordering.lt a b = a < b
Cmp Ordering.eq a b = a ≡ b
Cmp Ordering.gt a b = b < a

pub cmp : (a b : ℕ) → Cmp (compare a b) a b
cmp a b = go (compare a b) (leb→le a b) (nleb→lt a b) (eqb→eq a b) (λ (e : a ≡ b). subst (λ (x : ℕ). T (eqb a x)) e (eqb_refl a))
  where
    go : (o : Ordering) → (T (is_le o) → a ≤ b) → (T (not (is_le o)) → b < a) → (T (compare_is_eq o) → a ≡ b) → (a ≡ b → T (compare_is_eq o)) → Cmp o a b
    go Ordering.lt h k e n = lt_of_le-ne (h tt) n
    go Ordering.eq h k e n = e tt
    go Ordering.gt h k e n = k tt

-- ---- powers of two and digits
pub pow_le_back : (i j : ℕ) → 2 ^ i ≤ 2 ^ j → i ≤ j
pow_le_back i j h = le_of_suc-le-suc (lt_of_not-le (λ (g : j < i). not-le_of_lt (pow-lt g) h))

pub size_gt : (n j : ℕ) → 2 ^ j ≤ n → j < size n
size_gt n j h = lt_of_not-le (λ (g : size n ≤ j). not-le_of_lt (lt_of_lt_of_le (size-lt n) (pow_mono g)) h)
