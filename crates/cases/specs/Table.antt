-- THE TABLE of document 01's cases marked P, in one theorem: on the left what is asked, on the right the paper's answer.
-- The lines of the paper stand above their rows.
use Rattle.std.specs.Prelude.{[], ◌∷◌, ◌≡◌, refl}
use Rattle.std.specs.Float.{binary32}
use Rattle.std.specs.Float.Ieee.{neg, of_bits, of_int, round, to_bits}
use Rattle.beside.specs.Beside.{refusal as no_lane}
use Rattle.ends.specs.declared.Advance.TheVariants.{DeadEnd, Reached}
use Rattle.float.specs.Root.{sqrt_of}
use Rattle.float.specs.Whole.{round_of}
use Rattle.grid.specs.Grid.{bucket}
use Rattle.plan_format.specs.Samples.{bytes, link, made, place, section_by, wide}
use Rattle.route.specs.Route.{refusal as noRoute}
use Rattle.cases.specs.Asking.{advance, answered, beside, beside_lane, left_of, number_of, on, one_position, right_of, route}
use Rattle.cases.specs.Files.{above, alone, at, closed, either, f32, f32½, f64, f64½, fork, lane_minus_one, lane_minus_two, lane_one, lane_through}
use Rattle.cases.specs.Files.{sides, stations}

pub cases :
    -- P root of 2: bits 3FB504F3 (hexadecimal); of 0: 0.
    (sqrt_of (f32 2) ≡ of_bits binary32 0x3FB504F3)
    × (sqrt_of (f32 0) ≡ f32 0)
    -- P f64 rounding: 0.5 gives 1, -0.5 gives -1.
    × (round_of (f64½ 0) ≡ f64 1)
    × (round_of (neg (f64½ 0)) ≡ neg (f64 1))
    -- P bucket, cell 1, count 4: -1 gives 0, 3.5 gives 3, 9 gives 3.
    × (bucket (neg (f32 1)) (f32 1) 4 ≡ 0)
    × (bucket (f32½ 3) (f32 1) 4 ≡ 3)
    × (bucket (f32 9) (f32 1) 4 ≡ 3)
    -- P coordinate 4,096 passes, the next f32 above gives 5. One point gives 5.
    × (number_of (lane_through 1 (at 0 ∷ at 4096 ∷ [])) ≡ 0)
    × (number_of (lane_through 1 (at 0 ∷ above 4096 ∷ [])) ≡ 5)
    × (number_of (lane_through 1 (at 0 ∷ [])) ≡ 5)
    -- P costs 8 and 8 to lanes 2 and 3, both leading to 4: chain 1, 3, 4.
    × (route fork (at 2) (at 12) ≡ answered (1 ∷ 3 ∷ 4 ∷ []) (at 2 ∷ at 4 ∷ at 6 ∷ at 8 ∷ at 10 ∷ at 12 ∷ []) (f32 16))
    -- P a 32 m lane with the goal as successor and neighbour: cost 30.
    × (route either (at 28) (at 34) ≡ answered (1 ∷ 2 ∷ []) (at 28 ∷ at 30 ∷ at 32 ∷ at 34 ∷ []) (f32 30))
    -- P lane with itself as successor, s 6 to s 2: chain 1, 1, points 6 and 8 only. Without that link: 11.
    × (route closed (at 6) (at 2) ≡ answered (1 ∷ 1 ∷ []) (at 6 ∷ at 8 ∷ []) (f32 8))
    × (route alone (at 6) (at 2) ≡ noRoute 11)
    -- P stations 0, 8, then successor with 8, 16, s 2: distance 6 reaches s 8 on lane 1, keys 0; 6.5 reaches s 8.5 on lane 2, keys 1;
    -- 20 is dead at s 16, short 6, keys 1.
    × (advance stations (on 1 (f64 2)) (f64 6) ≡ one_position 0 (Reached (on 1 (f64 8))))
    × (advance stations (on 1 (f64 2)) (f64½ 6) ≡ one_position 1 (Reached (on 2 (f64½ 8))))
    × (advance stations (on 1 (f64 2)) (f64 20) ≡ one_position 1 (DeadEnd (on 2 (f64 16)) (f64 6)))
    -- P lanes 1 (Backward), -1, -2: left of -1 is 1, right is -2; left of 1 is -1, right is 15.
    × (left_of sides lane_minus_one ≡ beside_lane lane_one)
    × (right_of sides lane_minus_one ≡ beside_lane lane_minus_two)
    × (left_of sides lane_one ≡ beside_lane lane_minus_one)
    × (right_of sides lane_one ≡ no_lane 15)
unfolding sqrt_of round_of bucket number_of route advance beside bytes made link place section_by wide to_bits of_bits of_int round neg
cases =
    (refl, refl, refl, refl, refl, refl, refl, refl, refl, refl, refl, refl, refl, refl, refl, refl, refl, refl, refl, refl, refl)
