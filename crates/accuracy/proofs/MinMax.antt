-- `min` and `max` of two finite f32: one of the two or plus zero, and no more, or no less, than either.
use mathlib.Core.Path.{◌≡◌, refl, sym, subst, ◌∙◌}
use mathlib.Core.Logic.{inl, inr}
use mathlib.Core.Bool.{Bool, true, false, ◌&&◌}
use lib.Ieee.{Float, eq, of_bits}
use Rattle.exact.specs.Integers.{◌⊑◌}
use Rattle.exact.specs.Values.{val, F32}
use Rattle.exact.proofs.Order.{le_yes}
use Rattle.float.specs.Choose.{zero, max_of, min_of}
use Rattle.float_laws.specs.Choose.{Least, Greatest}
use Rattle.float_laws.proofs.Choose.{min_least, max_greatest}
use Rattle.coords.specs.Coords.{zero⁺}
use Rattle.accuracy.proofs.Coordinates.{zero_ok, not_nan}

zero_same : zero ≡ zero⁺
unfolding of_bits
zero_same = refl

module _ (x y : Float) (p : F32 x) (q : F32 y) where
  least : Least x y (min_of x y)
  least = min_least x y (not_nan x p) (not_nan y q)

  greatest : Greatest x y (max_of x y)
  greatest = max_greatest x y (not_nan x p) (not_nan y q)

  pub min_by : (P : Float → Type 0) → P x → P y → P zero⁺ → P (min_of x y)
  min_by P a b c = go (eq x zero && eq y zero) refl
    where
      go : (t : Bool) → (eq x zero && eq y zero) ≡ t → P (min_of x y)
      go true e = subst P (sym (least.zeros e ∙ zero_same)) c
      go false e = elim (least.one e) [ inl h ↦ subst P (sym h) a | inr h ↦ subst P (sym h) b ]

  pub max_by : (P : Float → Type 0) → P x → P y → P zero⁺ → P (max_of x y)
  max_by P a b c = go (eq x zero && eq y zero) refl
    where
      go : (t : Bool) → (eq x zero && eq y zero) ≡ t → P (max_of x y)
      go true e = subst P (sym (greatest.zeros e ∙ zero_same)) c
      go false e = elim (greatest.one e) [ inl h ↦ subst P (sym h) a | inr h ↦ subst P (sym h) b ]

  min_ok : F32 (min_of x y)
  min_ok = min_by F32 p q zero_ok

  pub max_ok : F32 (max_of x y)
  max_ok = max_by F32 p q zero_ok

  pub min_first : val (min_of x y) ⊑ val x
  min_first = le_yes (min_of x y) x min_ok p least.first

  pub min_second : val (min_of x y) ⊑ val y
  min_second = le_yes (min_of x y) y min_ok q least.second

  pub max_first : val x ⊑ val (max_of x y)
  max_first = le_yes x (max_of x y) p max_ok greatest.first

  pub max_second : val y ⊑ val (max_of x y)
  max_second = le_yes y (max_of x y) q max_ok greatest.second

  -- the first where it is no less, the second where it is no less, or plus zero
  pub max_cases : (P : Float → Type 0) → (val y ⊑ val x → P x) → (val x ⊑ val y → P y) → P zero⁺ → P (max_of x y)
  max_cases P a b c =
      max_by (λ (m : Float). val x ⊑ val m → val y ⊑ val m → P m) (λ f s. a s) (λ f s. b f) (λ f s. c) max_first max_second
