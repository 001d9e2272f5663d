-- Document 01, "Taped distance", in exact whole numbers. Definitions only; proofs/Theorem.antt proves `TapedDistance` and `NoLaneDrives`,
-- proofs/Everywhere.antt `FoundEverywhere`.
-- `val x` is the exact value of a finite f32 as a whole number of units of 2 ^ -149 m, and one metre is U units. `Z` are the integers,
-- `ι n` is n among them, `◌⊞◌`, `◌⊟◌`, `◌⊠◌`, `◌⊑◌` are plus, minus, times and at most, `n · a` is n times a and `sq a` is a times a.
use Rattle.std.specs.Prelude.{◌≡◌, ◌⊎◌, Bool, false, List, [], ◌∷◌, ℕ, ◌+◌, ◌-◌, ◌*◌, ◌^◌, ◌≤◌, ◌<◌, T, Float}
use Rattle.exact.specs.Integers.{Z, ◌⊑◌, ◌⊞◌, ◌⊟◌, ◌⊠◌, ◌·◌, ι}
use Rattle.exact.specs.Inequalities.{sq}
use Rattle.exact.specs.Values.{U, val}
use Rattle.coords.specs.declared.Point.{Point}
use Rattle.coords.specs.Coords.{finite_point}
use Rattle.geometry.specs.declared.Projection.{Projection}
use Rattle.geometry.specs.Polyline.{point_at}
use Rattle.geometry_laws.specs.Range.{PointIn, PointSized}
use Rattle.network.specs.Lanes.{Lane, drives}
use Rattle.network.specs.Nearest.{none, found, nearest_lane}

-- x stands in the list
abbrev pub In : {A : Type 0} → A → List A → Type 0
In x [] = ⊥
In x (y ∷ ys) = (x ≡ y) ⊎ In x ys

-- ---- what is asked of the lanes of the plan and of the query

-- two points or more, and of each point every coordinate an f32 from -4,096 to 4,096 (`PointIn`)
pub record LaneIn (l : Lane) : Type 0 where
  pub two : 2 ≤ l.count
  pub each : (i : ℕ) → i < l.count → PointIn (point_at l.points i)

abbrev pub LanesIn : List Lane → Type 0
LanesIn ls = (l : Lane) → In l ls → LaneIn l

-- some lane drives, by the table of the types that do
abbrev pub SomeDrives : List Bool → List Lane → Type 0
SomeDrives table ls = (l : Lane) × In l ls × T (drives table l)

-- ---- places of a centre line, and exact distances

-- the place at the fraction part / whole, from 0 to 1, of the straight piece from point `piece` to the next
pub record Place (l : Lane) : Type 0 where
  pub piece : ℕ
  pub part : ℕ
  pub whole : ℕ
  pub in_lane : piece + 1 < l.count
  pub at_most : part ≤ whole
  pub some : 0 < whole

-- whole times the coordinate at part / whole from a to b
abbrev pub between : ℕ → ℕ → Float → Float → Z
between whole part a b = ι (whole - part) ⊠ val a ⊞ ι part ⊠ val b

-- whole² times the squared distance of p from the place at part / whole from a to b
abbrev pub to_fraction : ℕ → ℕ → Point → Point → Point → Z
to_fraction whole part a b p =
    sq (ι whole ⊠ val p.x ⊟ between whole part a.x b.x)
    ⊞ sq (ι whole ⊠ val p.y ⊟ between whole part a.y b.y)
    ⊞ sq (ι whole ⊠ val p.z ⊟ between whole part a.z b.z)

abbrev pub to_place : (l : Lane) → Place l → Point → Z
to_place l t p = to_fraction t.whole t.part (point_at l.points t.piece) (point_at l.points (t.piece + 1)) p

-- the squared distance of two points
abbrev pub to_point : Point → Point → Z
to_point c p = sq (val p.x ⊟ val c.x) ⊞ sq (val p.y ⊟ val c.y) ⊞ sq (val p.z ⊟ val c.z)

-- ---- the tape

-- D² - d² - e² is not positive, or its square is at most 4 d² e²; that is D ≤ d + e
abbrev pub Taped : Z → Z → Z → Type 0
Taped D² d² e² = (D² ⊟ d² ⊟ e² ⊑ ι 0) ⊎ (sq (D² ⊟ d² ⊟ e²) ⊑ 4 · (d² ⊠ e²))

-- 1 / e², for e = 0.1 m
abbrev pub inverse : ℕ
inverse = 100

-- for D from p to c and d from p to the place: each of the squares times whole² U² / e², so that all are whole numbers
abbrev pub TapedBy : Point → Point → (l : Lane) → Place l → Type 0
TapedBy p c l t = Taped (inverse · (sq (ι t.whole) ⊠ to_point c p)) (inverse · to_place l t p) (sq (ι (t.whole * U)))

-- c is within 0.1 m of the place: d² / e² ≤ 1, times whole² U²
abbrev pub Within10cm : Point → (l : Lane) → Place l → Type 0
Within10cm c l t = inverse · to_place l t c ⊑ sq (ι (t.whole * U))

-- ---- what `nearest_lane` answers

-- it finds something: a lane of the list that drives, and a place on it
pub record Found (table : List Bool) (ls : List Lane) (p : Point) : Type 0 where
  pub dist : Float
  pub number : ℕ
  pub lane : Lane
  pub proj : Projection
  pub is : nearest_lane table ls p ≡ found dist number lane proj
  pub in_plan : In lane ls
  pub lane_drives : T (drives table lane)

-- and the point is near, by the tape
pub record Answered (table : List Bool) (ls : List Lane) (p : Point) : Type 0 where
  pub chosen : Found table ls p
  -- its coordinates are finite f32, of at most 16,384 m, so that `val` is their value
  pub finite : PointSized (2 ^ 14 * U) chosen.proj.point
  -- the point is within 0.1 m of its own lane
  pub own : (t : Place chosen.lane) × Within10cm chosen.proj.point chosen.lane t
  -- and at most 0.1 m farther than any place of any lane that drives
  pub taped : (l : Lane) → In l ls → T (drives table l) → (t : Place l) → TapedBy p chosen.proj.point l t

-- where no lane drives, it answers nothing
abbrev pub NoLaneDrives : Type 0
NoLaneDrives =
    (table : List Bool) (ls : List Lane) (p : Point) → ((l : Lane) → In l ls → drives table l ≡ false) → nearest_lane table ls p ≡ none

-- where one drives, it finds one for every finite point
abbrev pub FoundEverywhere : Type 0
FoundEverywhere =
    (table : List Bool) (ls : List Lane) (p : Point) → LanesIn ls → SomeDrives table ls → T (finite_point p) → Found table ls p

-- and for a point in the range the tape holds
abbrev pub TapedDistance : Type 0
TapedDistance = (table : List Bool) (ls : List Lane) (p : Point) → LanesIn ls → SomeDrives table ls → PointIn p → Answered table ls p
