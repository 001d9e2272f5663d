-- By the exponent's field: too large, normal, subnormal, too small; each case is one of Narrowing.
use Rattle.std.proofs.Common.{◌≡◌, ℕ, ◌+◌, ◌-◌, ◌*◌, ◌/◌, ◌%◌, ◌^◌, ◌<◌, ◌≤◌, sym, ap, ◌∙◌, subst, lt_of_lt_of_le}
use Rattle.std.proofs.Common.{mod-eq_of_lt, one-mul, arith, lit≤, pow_pos, pow_mono}
use lib.Pow.{pow-lt}
use lib.Ieee.{binary32, of_bits}
use lib.Ieee.Nearest.{closest}
use Rattle.float.specs.Steps.{Narrowed}
use Rattle.float.proofs.Narrowing.{normal, normal_most, subnormal, subnormal_most, infinite, vanishes}
use Rattle.float.proofs.casts.narrowed.Goals as goal

-- ---- a normal result
normal_of : (a r : ℕ) → 897 ≤ a / 4503599627370496 → a / 4503599627370496 < 1151
    → r ≡ closest (a % 4503599627370496 + 4503599627370496) 536870912 → Narrowed a ((a / 4503599627370496 - 897) * 8388608 + r)
normal_of a r h k e =
    let most : r ≤ 16777216 = subst (λ (x : ℕ). x ≤ 16777216) (sym e) (normal_most a h (omega arith)) in
    record {
      most = omega arith;
      same = ap (λ (x : ℕ). of_bits binary32 ((a / 4503599627370496 - 897) * 8388608 + x)) e ∙ normal a h (omega arith) k;
    }

-- ---- a subnormal one
shifted : (e : ℕ) → 873 ≤ e → 1 * 2 ^ (926 - e) % 18446744073709551616 ≡ 2 ^ (926 - e)
shifted e h =
    ap (λ (x : ℕ). x % 18446744073709551616) (one-mul (2 ^ (926 - e)))
    ∙ mod-eq_of_lt (lt_of_lt_of_le (pow-lt {i = 926 - e} {j = 54} (omega arith)) (lit≤ tt))

subnormal_of : (a u r : ℕ) → 873 ≤ a / 4503599627370496 → a / 4503599627370496 < 897 → u ≡ 2 ^ (926 - a / 4503599627370496)
    → r ≡ closest (a % 4503599627370496 + 4503599627370496) u → Narrowed a r
subnormal_of a u r h k f e =
    let g : r ≡ closest (a % 4503599627370496 + 4503599627370496) (2 ^ (926 - a / 4503599627370496)) =
    e ∙ ap (closest (a % 4503599627370496 + 4503599627370496)) f in
    let most : r ≤ 16777216 = subst (λ (x : ℕ). x ≤ 16777216) (sym g) (subnormal_most a h k) in
    record { most = omega arith; same = ap (of_bits binary32) g ∙ subnormal a h k }

at_subnormal : (c : goal.After-nearest_quotient-then-e-ge873) → Narrowed c.args.a c.nearest_quotient-then-e-ge873.result
at_subnormal c =
    subnormal_of _ _ _ c.if-e-ge873.true c.if-e-ge897.false (shifted _ c.if-e-ge873.true)
    c.nearest_quotient-then-e-ge873.ensures

pub returns-then-e-ge1151 : goal.returns-then-e-ge1151
returns-then-e-ge1151 c = record { most = lit≤ tt; same = infinite _ c.if-e-ge1151.true c.requires }

pub returns-then-e-ge897 : goal.returns-then-e-ge897
returns-then-e-ge897 c = normal_of _ _ c.if-e-ge897.true c.if-e-ge1151.false c.nearest_quotient.ensures

pub nearest_quotient-requires-then-e-ge873 : goal.nearest_quotient-requires-then-e-ge873
nearest_quotient-requires-then-e-ge873 c = let e = c.args.a / 4503599627370496 in
    let s = shifted e c.if-e-ge873.true in record {
      nonzero = subst (λ (x : ℕ). 0 < x) (sym s) (pow_pos (926 - e));
      small = subst (λ (x : ℕ). x ≤ 9007199254740992) (sym s)
          (pow_mono {i = 926 - e} {j = 53} (omega arith));
    }

pub overflow_cast-result-then-e-ge873 : goal.overflow_cast-result-then-e-ge873
overflow_cast-result-then-e-ge873 c = omega (arith, (at_subnormal c).most)

pub returns-then-e-ge873 : goal.returns-then-e-ge873
returns-then-e-ge873 c = at_subnormal c

pub returns : goal.returns
returns c = record { most = lit≤ tt; same = vanishes _ c.if-e-ge873.false }
