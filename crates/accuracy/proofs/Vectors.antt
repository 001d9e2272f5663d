-- Exact vectors: three integers, in units of 2^-149 m. `from a p` is the displacement from the point a to the point p.
use Rattle.exact.specs.Integers.{Z, ◌⊞◌, ◌⊟◌, ◌⊠◌}
use Rattle.exact.specs.Ring.{E, ◌:-◌, ◌:*◌}
use Rattle.exact.specs.Inequalities.{abs, dot, dot_e}
use Rattle.exact.specs.Values.{val}
use Rattle.coords.specs.declared.Point.{Point}

pub record Vec : Type 0 where
  pub x : Z
  pub y : Z
  pub z : Z

abbrev pub from : Point → Point → Vec
from a p = record { x = val p.x ⊟ val a.x; y = val p.y ⊟ val a.y; z = val p.z ⊟ val a.z }

abbrev pub inner : Vec → Vec → Z
inner v w = dot v.x v.y v.z w.x w.y w.z

-- |v|²
abbrev pub norm_sq : Vec → Z
norm_sq v = inner v v

-- |x| + |y| + |z|
abbrev pub sum_abs : Vec → Z
sum_abs v = abs v.x ⊞ abs v.y ⊞ abs v.z

-- n w - t d: for w = p - a and d = b - a, n times the displacement to p from the place at the fraction t / n from a to b
abbrev pub beyond : Z → Z → Vec → Vec → Vec
beyond n t w d = record { x = n ⊠ w.x ⊟ t ⊠ d.x; y = n ⊠ w.y ⊟ t ⊠ d.y; z = n ⊠ w.z ⊟ t ⊠ d.z }

-- its square: n² times the squared distance
abbrev pub far : Z → Z → Vec → Vec → Z
far n t w d = norm_sq (beyond n t w d)

-- n times the displacement's inner product with -d: zero where the place is the nearest of the line
abbrev pub residual : Z → Z → Vec → Vec → Z
residual n t w d = t ⊠ norm_sq d ⊟ n ⊠ inner w d

-- ---- the same as expressions of the ring solver
abbrev pub far_e : E → E → E → E → E → E → E → E → E
far_e n t wx wy wz dx dy dz =
    dot_e (n :* wx :- t :* dx) (n :* wy :- t :* dy) (n :* wz :- t :* dz) (n :* wx :- t :* dx) (n :* wy :- t :* dy) (n :* wz :- t :* dz)

abbrev pub residual_e : E → E → E → E → E → E → E → E → E
residual_e n t wx wy wz dx dy dz = t :* dot_e dx dy dz dx dy dz :- n :* dot_e wx wy wz dx dy dz
