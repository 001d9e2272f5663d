-- Squared distances of finite points are numbers: they may be infinite, but no NaN comes up. So too for the place that a point is projected
-- to, however far the point is.
use mathlib.Core.Path.{◌≡◌, refl}
use mathlib.Core.Bool.{Bool, beq, true, false, not, cond, ◌&&◌, true≢false, false≢true}
use mathlib.Core.List.{List}
use Prim.Native.Nat.{ℕ, zero, suc, ◌+◌, ◌-◌, ◌*◌}
use lib.Dec.{T, ltb}
use lib.ListN.{get_or}
use lib.Ieee.{Float, nan, inf, fin, Format, binary32, up, down, round, neg, sum, add, sub, mul, lt, is_nan}
use lib.Ieee.Fits.{and_l, and_r}
use lib.Ieee.Scale.{finite}
use Rattle.coords.specs.declared.Point.{Point}
use Rattle.coords.specs.declared.Vector.{Vector}
use Rattle.coords.specs.Coords.{finite_point, sub_of, length_squared}
use Rattle.float.specs.Sign.{is_negative}
use Rattle.float_laws.proofs.Narrow.{round_sign}
use Rattle.geometry.specs.declared.Nearer.{Nearer}
use Rattle.geometry.specs.Polyline.{point_at}
use Rattle.geometry.specs.Project.{closest_of, hit_along, hit_at, nearer_at, project_to}

abbrev Number : Float → Type 0
Number x = T (not (is_nan x))

-- ---- a difference of finite numbers
either : (a b : Bool) (u v w : Float) → Number u → Number v → Number w → Number (cond a u (cond b v w))
either true b u v w A B C = A
either false true u v w A B C = B
either false false u v w A B C = C

sum_number : (f : Format) (s : Bool) (a : ℕ) (t : Bool) (b c : ℕ) → Number (sum f s a t b c)
unfolding sum
sum_number f s a t b c =
    either (beq s t) (ltb a b) (round f s (a + b) c) (round f t (b - a) c) (round f (s && ltb b a) (a - b) c) (round_sign f s (a + b) c).1
    (round_sign f t (b - a) c).1 (round_sign f (s && ltb b a) (a - b) c).1

sub_number : (x y : Float) → T (finite x) → T (finite y) → Number (sub binary32 x y)
unfolding sub add neg
sub_number nan y h k = absurd h
sub_number (inf s) y h k = absurd h
sub_number (fin s m e) nan h k = absurd k
sub_number (fin s m e) (inf t) h k = absurd k
sub_number (fin s m e) (fin t n d) h k = sum_number binary32 s (m * up e * down d) (not t) (n * up d * down e) (down e * down d)

-- ---- squares, and their sums: no NaN, and not below zero
record Plus (x : Float) : Type 0 where
  pub number : Number x
  pub sign : is_negative x ≡ false

square_plus : (x : Float) → Number x → Plus (mul binary32 x x)
unfolding mul is_nan is_negative
square_plus nan h = absurd h
square_plus (inf true) h = record { number = tt; sign = refl }
square_plus (inf false) h = record { number = tt; sign = refl }
square_plus (fin true m e) h =
    let r = round_sign binary32 false (m * up e * (m * up e)) (down e * down e) in record { number = r.1; sign = r.0 }
square_plus (fin false m e) h =
    let r = round_sign binary32 false (m * up e * (m * up e)) (down e * down e) in record { number = r.1; sign = r.0 }

add_plus : (x y : Float) → Plus x → Plus y → Plus (add binary32 x y)
unfolding add sum is_nan is_negative
add_plus nan y X Y = absurd X.number
add_plus (inf true) y X Y = absurd (true≢false X.sign)
add_plus (fin true m e) y X Y = absurd (true≢false X.sign)
add_plus (inf false) nan X Y = absurd Y.number
add_plus (inf false) (inf true) X Y = absurd (true≢false Y.sign)
add_plus (inf false) (inf false) X Y = record { number = tt; sign = refl }
add_plus (inf false) (fin t n d) X Y = record { number = tt; sign = refl }
add_plus (fin false m e) nan X Y = absurd Y.number
add_plus (fin false m e) (inf true) X Y = absurd (true≢false Y.sign)
add_plus (fin false m e) (inf false) X Y = record { number = tt; sign = refl }
add_plus (fin false m e) (fin true n d) X Y = absurd (true≢false Y.sign)
add_plus (fin false m e) (fin false n d) X Y =
    let r = round_sign binary32 false (m * up e * down d + n * up d * down e) (down e * down d) in record { number = r.1; sign = r.0 }

length_number : (v : Vector) → Number v.x → Number v.y → Number v.z → Number (length_squared v)
length_number v x y z =
    (add_plus (add binary32 (mul binary32 v.x v.x) (mul binary32 v.y v.y)) (mul binary32 v.z v.z)
    (add_plus (mul binary32 v.x v.x) (mul binary32 v.y v.y) (square_plus v.x x) (square_plus v.y y))
    (square_plus v.z z)).number

-- ---- the squared distance of two finite points
far_number : (p a : Point) → T (finite_point p) → T (finite_point a) → Number (length_squared (sub_of p a))
far_number p a P A =
    let Q = and_l (finite p.x && finite p.y) (finite p.z) P in
    let B = and_l (finite a.x && finite a.y) (finite a.z) A in
    length_number (sub_of p a)
    (sub_number p.x a.x (and_l (finite p.x) (finite p.y) Q) (and_l (finite a.x) (finite a.y) B))
    (sub_number p.y a.y (and_r (finite p.x) (finite p.y) Q) (and_r (finite a.x) (finite a.y) B))
    (sub_number p.z a.z (and_r (finite p.x && finite p.y) (finite p.z) P)
    (and_r (finite a.x && finite a.y) (finite a.z) A))

-- ---- the place that a point is projected to: the first point, or one that was nearer than another
less_number : (x y : Float) → lt x y ≡ true → Number x
unfolding lt is_nan
less_number nan y e = absurd (false≢true e)
less_number (inf s) y e = tt
less_number (fin s m d) y e = tt

pub projected_number : (ps cs : List Float) (p : Point) (i k : ℕ) → T (finite_point p) → T (finite_point (point_at ps i))
    → Number (length_squared (sub_of p (project_to ps cs p i k).best.point))
unfolding project_to nearer_at hit_along
projected_number ps cs p i zero P A = far_number p (point_at ps i) P A
projected_number ps cs p i (suc k) P A = go (lt dist r.dist) refl (projected_number ps cs p i k P A)
  where
    r : Nearer
    r = project_to ps cs p i k

    dist : Float
    dist = length_squared (sub_of p (closest_of (point_at ps (i + k)) (point_at ps (i + k + 1)) p))

    next : Nearer
    next = record { dist = dist; best = hit_at (get_or cs (i + k) nan) (point_at ps (i + k)) (point_at ps (i + k + 1)) p }

    go : (b : Bool) → lt dist r.dist ≡ b → Number (length_squared (sub_of p r.best.point))
        → Number (length_squared (sub_of p (cond b next r).best.point))
    go true e n = less_number dist r.dist e
    go false e n = n
