-- The records of a plan file, in the order of document 01, read off the bytes.
-- The record that starts at `at` has its payload's length at `at`, its kind at `at + 4` and its payload from `at + 6` on.
use Rattle.std.specs.Prelude.{cond, List, [], ◌∷◌, suc, zero, ℕ, ◌*◌, ◌+◌, ◌-◌, eqb, ltb, Float}
use Rattle.fields.specs.Fields.{f32_at, f64_at, u16_at, u32_at, u8_at}
use Rattle.plan_format.specs.declared.LaneId.{LaneId}
use Rattle.plan_format.specs.declared.Query.{Query}
use Rattle.plan_format.specs.declared.Query.TheVariants.{Advance, Beside, Route}

-- the n floats from `at` on, each of `width` bytes
unfoldable pub run : (List ℕ → ℕ → Float) → ℕ → List ℕ → ℕ → ℕ → List Float
run read width s at zero = []
run read width s at (suc n) = read s at ∷ run read width s (at + width) n

abbrev pub floats : List ℕ → ℕ → ℕ → List Float
floats s at n = run f32_at 4 s at n

abbrev pub doubles : List ℕ → ℕ → ℕ → List Float
doubles s at n = run f64_at 8 s at n

-- 1: `points` has x, y and z of each point in turn; `tangents` the start and the end tangent, nothing where `ends` is 0
pub record Lane : Type 0 where
  pub number : ℕ
  pub type : ℕ
  pub direction : ℕ
  pub ends : ℕ
  pub count : ℕ
  pub points : List Float
  pub tangents : List Float

abbrev pub lane_at : List ℕ → ℕ → Lane
lane_at s at =
    record {
      number = u16_at s (at + 6);
      type = u8_at s (at + 8);
      direction = u8_at s (at + 9);
      ends = u8_at s (at + 10);
      count = u16_at s (at + 11);
      points = floats s (at + 13) (3 * u16_at s (at + 11));
      tangents = floats s (at + 13 + 12 * u16_at s (at + 11)) (cond (eqb (u8_at s (at + 10)) 0) 0 6);
    }

-- 2
pub record Link : Type 0 where
  pub from : ℕ
  pub role : ℕ
  pub to : ℕ

abbrev pub link_at : List ℕ → ℕ → Link
link_at s at = record { from = u16_at s (at + 6); role = u8_at s (at + 8); to = u16_at s (at + 9) }

-- 3
pub record Section : Type 0 where
  pub road : ℕ
  pub index : ℕ
  pub start : Float
  pub end : Float
  pub count : ℕ
  pub stations : List Float

abbrev pub section_at : List ℕ → ℕ → Section
section_at s at =
    record {
      road = u16_at s (at + 6);
      index = u16_at s (at + 8);
      start = f64_at s (at + 10);
      end = f64_at s (at + 18);
      count = u16_at s (at + 26);
      stations = doubles s (at + 28) (u16_at s (at + 26));
    }

-- 4: `raised` is the OpenDRIVE lane number plus 2^31, so order and steps of 1 are those of naturals
pub record Place : Type 0 where
  pub lane : ℕ
  pub road : ℕ
  pub index : ℕ
  pub raised : ℕ

-- two's complement: the patterns from 2^31 on are the negative numbers
unfoldable pub raised_at : List ℕ → ℕ → ℕ
raised_at s at = cond (ltb (u32_at s at) 2147483648) (u32_at s at + 2147483648) (u32_at s at - 2147483648)

abbrev pub place_at : List ℕ → ℕ → Place
place_at s at =
    record {
      lane = u16_at s (at + 6);
      road = u16_at s (at + 8);
      index = u16_at s (at + 10);
      raised = raised_at s (at + 12);
    }

-- 16 route, 17 advance, 18 beside
abbrev pub lane_id : ℕ → LaneId
lane_id n = record { 0 = n }

abbrev pub route_at : List ℕ → ℕ → Query
route_at s at = Route (f32_at s (at + 6)) (f32_at s (at + 10)) (f32_at s (at + 14)) (f32_at s (at + 18)) (f32_at s (at + 22)) (f32_at s (at + 26))

abbrev pub advance_at : List ℕ → ℕ → Query
advance_at s at = Advance (lane_id (u16_at s (at + 6))) (f64_at s (at + 8)) (f64_at s (at + 16)) (f64_at s (at + 24))

abbrev pub beside_at : List ℕ → ℕ → Query
beside_at s at = Beside (lane_id (u16_at s (at + 6))) (f64_at s (at + 8)) (u8_at s (at + 16))

unfoldable pub query_at : List ℕ → ℕ → Query
query_at s at = cond (eqb (u16_at s (at + 4)) 16) (route_at s at) (cond (eqb (u16_at s (at + 4)) 17) (advance_at s at) (beside_at s at))
