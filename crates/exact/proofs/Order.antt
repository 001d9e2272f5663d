-- Comparison of finite f32 is the order of their values.
use Rattle.std.specs.Prelude.{◌≡◌, Bool, not, ◌||◌, Float}
use Rattle.std.proofs.Common.{sym, subst}
use Rattle.std.proofs.Math.Logic.{inl, inr}
use Rattle.std.proofs.Math.Bool.{true, false}
use Rattle.std.proofs.Math.Dec.{T}
use Rattle.std.specs.Float.Ieee.{below, level, lt, le, eq}
use Rattle.exact.specs.Integers.{Z, ◌≈◌, ◌⊑◌, ◌⊞◌, ι, sgn}
use Rattle.exact.specs.Inequalities.{lt→⊑, ≈→⊑}
use Rattle.exact.specs.Fractions.{lt_units, eq_units}
use Rattle.exact.specs.Values.{U, U_pos, val, F32, units_of_law, at_units}
use Rattle.exact.specs.Order.{below_yes, below_no, level_yes, level_of_law, antisym, or_cases}

module _ (x y : Float) (p : F32 x) (q : F32 y) where
  forth : (R : Z → Z → Type 0) → R (val x) (val y) → R (sgn (units_of_law x p).s (units_of_law x p).w) (sgn (units_of_law y q).s (units_of_law y q).w)
  forth R h =
      subst (λ (v : Z). R v (sgn (units_of_law y q).s (units_of_law y q).w)) (units_of_law x p).is
      (subst (λ (v : Z). R (val x) v) (units_of_law y q).is h)

  lt_is : lt x y ≡ below (units_of_law x p).s (units_of_law x p).w (units_of_law y q).s (units_of_law y q).w
  lt_is = let a = units_of_law x p in let b = units_of_law y q in lt_units a.s b.s a.w b.w U U_pos x y a.value b.value

  eq_is : eq x y ≡ level (units_of_law x p).s (units_of_law x p).w (units_of_law y q).s (units_of_law y q).w
  eq_is = let a = units_of_law x p in let b = units_of_law y q in eq_units a.s b.s a.w b.w U U_pos x y a.value b.value

  -- ---- x < y
  pub lt_yes : T (lt x y) → val x ⊞ ι 1 ⊑ val y
  lt_yes h =
      let a = units_of_law x p in let b = units_of_law y q in at_units x y p q (λ u v. u ⊞ ι 1 ⊑ v) (below_yes a.s a.w b.s b.w (subst T lt_is h))

  pub lt_no : T (not (lt x y)) → val y ⊑ val x
  lt_no h =
      let a = units_of_law x p in let b = units_of_law y q in at_units x y p q (λ u v. v ⊑ u)
      (below_no a.s a.w b.s b.w (subst (λ (t : Bool). T (not t)) lt_is h))

  -- ---- x = y
  pub eq_yes : T (eq x y) → val x ≈ val y
  eq_yes h = let a = units_of_law x p in let b = units_of_law y q in at_units x y p q (λ u v. u ≈ v) (level_yes a.s a.w b.s b.w (subst T eq_is h))

  pub eq_of : val x ≈ val y → T (eq x y)
  eq_of h =
      let a = units_of_law x p in let b = units_of_law y q in subst T (sym eq_is) (level_of_law a.s a.w b.s b.w (forth (λ u v. u ≈ v) h))

  -- ---- x ≤ y
  pub le_yes : T (le x y) → val x ⊑ val y
  unfolding le
  le_yes h = elim (or_cases (lt x y) (eq x y) h) [ inl t ↦ lt→⊑ (val x) (val y) (lt_yes t) | inr t ↦ ≈→⊑ (eq_yes t) ]

  pub le_of : val x ⊑ val y → T (le x y)
  unfolding le
  le_of h = go (lt x y) lt_no
    where
      go : (b : Bool) → (T (not b) → val y ⊑ val x) → T (b || eq x y)
      go true k = tt
      go false k = eq_of (antisym (val x) (val y) h (k tt))
