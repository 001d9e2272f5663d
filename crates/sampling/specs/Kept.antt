-- route.rs, `push_dedup`: the points that are kept, and how they stand in a flat list. Definitions only.
use Rattle.std.specs.Prelude.{Bool, cond, true, List, [], ◌++◌, ◌∷◌, ℕ, ◌*◌, ◌+◌, ◌-◌, ◌/◌, ltb, Float, drop, length, set}
use Rattle.std.specs.Float.Ieee.{lt}
use Rattle.coords.specs.Coords.{distance_squared_to, zero⁺}
use Rattle.coords.specs.declared.Point.{Point}
use Rattle.geometry.specs.Locate.{micro}
use Rattle.sampling.specs.declared.Kept.{Kept}

-- kept points are listed from the last back to the first; a point within squared distance 1e-6 of the last is dropped
unfoldable pub pushed : List Point → Point → List Point
pushed [] p = p ∷ []
pushed (q ∷ qs) p = cond (lt micro (distance_squared_to q p)) (p ∷ q ∷ qs) (q ∷ qs)

-- the first n of them
unfoldable pub first_of : ℕ → List Point → List Point
first_of n ps = drop (length ps - n) ps

-- x y z of each, from the first on
unfoldable pub flat : List Point → List Float
flat [] = []
flat (p ∷ ps) = flat ps ++ (p.x ∷ p.y ∷ p.z ∷ [])

-- how many there are, and the last; the origin where there is none
abbrev pub last_of : List Point → Point
last_of [] = record { x = zero⁺; y = zero⁺; z = zero⁺ }
last_of (p ∷ ps) = p

abbrev pub kept_of : List Point → Kept
kept_of ps = record { count = length ps; last = last_of ps }

-- a list with the point p at i, where it has room
abbrev pub with_point : List Float → ℕ → Point → List Float
with_point out i p = set (set (set out (3 * i) p.x) (3 * i + 1) p.y) (3 * i + 2) p.z

abbrev pub put_at : List Float → ℕ → Point → List Float
put_at out i p = cond (ltb i (length out / 3)) (with_point out i p) out

-- a list with the points at its front, as far as they have room
unfoldable pub laid : List Point → List Float → List Float
laid [] out = out
laid (p ∷ ps) out = put_at (laid ps out) (length ps) p

-- ---- one step as the code takes it, which knows the count and the last point alone

-- whether p is kept
unfoldable pub is_fresh : Kept → Point → Bool
is_fresh k p = cond (ltb 0 k.count) (lt micro (distance_squared_to k.last p)) true

abbrev pub pushing : Kept → Point → Kept
pushing k p = cond (is_fresh k p) (record { count = k.count + 1; last = p }) k

abbrev pub putting : Kept → Point → List Float → List Float
putting k p out = cond (is_fresh k p) (put_at out k.count p) out
