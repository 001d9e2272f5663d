-- Laws of runs of floats that are copied from the file, and of the lengths of rows.
use Rattle.std.specs.Prelude.{Bool, cond, false, true, List, [], map, ◌∷◌, ◌≡◌, eqb, Float, get_or, length, replicate}
use Rattle.std.proofs.Math.Path.{ap, refl}
use Rattle.std.proofs.Common.{◌∙◌, length-append, ne_eqb}
use Prim.Native.Nat.{suc, zero, ℕ, ◌*◌, ◌+◌, ◌<◌}
use native.Mathlib.Omega.{arith}
use Rattle.std.specs.Float.{binary32}
use Rattle.std.specs.Float.Ieee.{of_bits}
use Rattle.fields.specs.Fields.{f32_at, f64_at, u16_at, u8_at}
use Rattle.plan_format.specs.Plan.{index_of, plan_of}
use Rattle.plan_format.specs.Records.{doubles, floats, lane_at, place_at, raised_at, run, section_at}
use Rattle.plan_format.specs.Tables.{bound_row, end_row, place_row, point_row, rows, station_row}
use Rattle.plan_scan.specs.Parts.{listed}
use Rattle.plan_scan.specs.Scan.{total}
use Rattle.plan_whole.specs.Keys.{key_at, lane_keys, pair_at, section_keys}
use Rattle.plan_whole.specs.Missing.{Searching, row_is}

module _ (read : List ℕ → ℕ → Float) (width : ℕ) (s : List ℕ) where
  pub run_length : (at n : ℕ) → length (run read width s at n) ≡ n
  unfolding run
  run_length at zero = refl
  run_length at (suc n) = ap suc (run_length (at + width) n)

  pub run_at : (at n i : ℕ) (d : Float) → i < n → get_or (run read width s at n) i d ≡ read s (at + width * i)
  unfolding run
  run_at at zero i d h = absurd (omega arith)
  run_at at (suc n) zero d h = let z : at + width * 0 ≡ at = omega arith in rw z
  run_at at (suc n) (suc i) d h =
      let z : at + width * suc i ≡ at + width + width * i = omega arith in
      rw z (run_at (at + width) n i d (omega arith))

-- the points of a lane, the stations of a section
module _ (s : List ℕ) (p : ℕ) where
  pub point_count : length (point_row (lane_at s p)) ≡ 3 * u16_at s (p + 11)
  point_count = run_length f32_at 4 s (p + 13) (3 * u16_at s (p + 11))

  pub point_at : (i : ℕ) (d : Float) → i < length (point_row (lane_at s p)) → get_or (point_row (lane_at s p)) i d ≡ f32_at s (p + 13 + 4 * i)
  point_at i d h = run_at f32_at 4 s (p + 13) (3 * u16_at s (p + 11)) i d (omega (arith, point_count))

  pub station_count : length (station_row (section_at s p)) ≡ u16_at s (p + 26)
  station_count = run_length f64_at 8 s (p + 28) (u16_at s (p + 26))

  pub station_at : (i : ℕ) (d : Float) → i < length (station_row (section_at s p))
      → get_or (station_row (section_at s p)) i d ≡ f64_at s (p + 28 + 8 * i)
  station_at i d h = run_at f64_at 8 s (p + 28) (u16_at s (p + 26)) i d (omega (arith, station_count))

pub points_length : (s qs : List ℕ) → length (rows point_row (map (lane_at s) qs)) ≡ 3 * total s 11 qs
unfolding rows total
points_length s [] = refl
points_length s (q ∷ qs) =
    let e = length-append (floats s (q + 13) (3 * u16_at s (q + 11))) (rows point_row (map (lane_at s) qs)) in
    let f = run_length f32_at 4 s (q + 13) (3 * u16_at s (q + 11)) in
    let r = points_length s qs in
    omega arith

pub stations_length : (s qs : List ℕ) → length (rows station_row (map (section_at s) qs)) ≡ total s 26 qs
unfolding rows total
stations_length s [] = refl
stations_length s (q ∷ qs) =
    let e = length-append (doubles s (q + 28) (u16_at s (q + 26))) (rows station_row (map (section_at s) qs)) in
    let f = run_length f64_at 8 s (q + 28) (u16_at s (q + 26)) in
    let r = stations_length s qs in
    omega arith

-- the row of ends: six zeros, or the two tangents
pub end_length : (s : List ℕ) (at : ℕ) → length (end_row (lane_at s at)) ≡ 6
end_length s at = go (eqb (u8_at s (at + 10)) 0)
  where
    go : (b : Bool) → length (cond b (replicate 6 (of_bits binary32 0)) (floats s (at + 13 + 12 * u16_at s (at + 11)) (cond b 0 6))) ≡ 6
    go true = refl
    go false = run_length f32_at 4 s (at + 13 + 12 * u16_at s (at + 11)) 6

pub end_some : (s : List ℕ) (at b n : ℕ) → b ≡ u8_at s (at + 10) → (b ≡ 0 → ⊥) → n ≡ u16_at s (at + 11)
    → floats s (at + 13 + 12 * n) 6 ≡ end_row (lane_at s at)
end_some s at b n e z q = rw q (simp (ne_eqb (u8_at s (at + 10)) 0 (λ (y : u8_at s (at + 10) ≡ 0). z (e ∙ y))))

-- start and end of a section stand one after the other
pub bounds_are : (s : List ℕ) (at : ℕ) → doubles s (at + 10) 2 ≡ bound_row (section_at s at)
unfolding run
bounds_are s at = let e : at + 10 + 8 ≡ at + 18 = omega arith in rw e refl

-- the row of a place, by what the code finds
pub place_found : (s ls ss m : List ℕ) (at l j r : ℕ) → Searching s ls ss m
    → (l ≡ get_or m (u16_at s (at + 6)) 0) × (u16_at s (at + 6) < 65536) → j ≡ index_of (pair_at s (at + 8)) (map (key_at s 1) ss) 0 64
    → r ≡ raised_at s (at + 12)
    → (l ∷ j ∷ r ∷ []) ≡ place_row (plan_of s (listed ls [] ss [])) (place_at s at)
place_found s ls ss m at l j r K el ej er =
    let e : at + 8 + 2 ≡ at + 10 = omega arith in
    let lane = row_is s ls m at l K.rows el in
    let section = rw e at ej in
    rw (lane_keys s ls, section_keys s ss, lane, section, er) refl
