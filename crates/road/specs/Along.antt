-- road.rs, `along` and `station_at`, and `centerline_s` of network.rs: from a road station to metres along a lane, and back.
-- `ps` are the lane's points, `sts` the f64 stations of its section, one for each of the n points. Definitions only.
use Rattle.std.specs.Prelude.{Bool, cond, not, ◌&&◌, Option, None, Some, List, ◌≡◌, ℕ, ◌+◌, ◌-◌, min, length, get_or, drop, Float}
use Rattle.std.specs.Float.{nan, binary32, binary64}
use Rattle.std.specs.Float.Ieee.{add, sub, mul, div, lt, le, of_bits}
use Rattle.float.specs.Choose.{clamp_of}
use Rattle.float.specs.Narrow.{narrow_of}
use Rattle.coords.specs.Coords.{zero⁺, one⁺}
use Rattle.geometry.specs.Polyline.{Line, segment_length, arc_at, cumulative_of}
use Rattle.geometry.specs.Partition.{Rising, leading}
use Rattle.geometry.specs.Locate.{segment_of}

-- a lane's points with their arc lengths, and a station for each
pub record Stationed (ps cs sts : List Float) : Type 0 where
  pub line : Line ps cs
  pub arcs : cs ≡ cumulative_of ps (length cs)
  pub each : length sts ≡ length cs
  pub arcs_rise : Rising cs
  pub stations_rise : Rising sts

abbrev pub zero64 : Float
zero64 = of_bits binary64 0

-- 1 as an f64
abbrev pub one64 : Float
one64 = of_bits binary64 0x3ff0000000000000

-- the difference of the stations i and i + 1
abbrev pub span_at : List Float → ℕ → Float
span_at sts i = sub binary64 (get_or sts (i + 1) nan) (get_or sts i nan)

-- the fraction of the way from station i to the next at which s lies, from 0 to 1
unfoldable pub fraction_at : List Float → ℕ → Float → Float
fraction_at sts i s = clamp_of (div binary64 (sub binary64 s (get_or sts i nan)) (span_at sts i)) zero64 one64

-- `along`: the last station at or before s, never the last; the metres before it, and the fraction of its segment in f32
unfoldable pub along_of : List Float → List Float → Float → Float
along_of ps sts s =
    let i = segment_of sts s in
    add binary32 (arc_at ps i) (mul binary32 (segment_length ps i) (narrow_of (fraction_at sts i s)))

-- ---- back

-- an arc length that `arc` is past, or a NaN: Rust's `!(c >= arc)`
abbrev pub short_of : Float → Float → Bool
short_of arc c = not (le arc c)

-- the first segment that ends at or past `arc`, and the last where none does: how many segments end short of it
unfoldable pub reached_by : List Float → Float → ℕ
reached_by cs arc = min (leading (short_of arc) (drop 1 cs)) (length cs - 2)

-- the fraction of a segment of length `step`, begun at `before`, at which `arc` lies, from 0 to 1; 0 on a segment of no length
unfoldable pub part_of : Float → Float → Float → Float
part_of step before arc = cond (lt zero⁺ step) (clamp_of (div binary32 (sub binary32 arc before) step) zero⁺ one⁺) zero⁺

-- the station at the fraction f of the way from station i to the next; an f32 is an f64
unfoldable pub station_on : List Float → ℕ → Float → Float
station_on sts i f = add binary64 (get_or sts i nan) (mul binary64 (span_at sts i) f)

-- `station_at`
unfoldable pub station_of : List Float → List Float → Float → Float
station_of ps sts arc =
    let i = reached_by (cumulative_of ps (length sts)) arc in
    station_on sts i (part_of (segment_length ps i) (arc_at ps i) arc)

-- ---- `centerline_s`: both ends of the section count as within it
unfoldable pub centerline_of : Float → Float → List Float → List Float → Float → Option Float
centerline_of start end ps sts s = cond (le start s && le s end) (Some (along_of ps sts s)) None
