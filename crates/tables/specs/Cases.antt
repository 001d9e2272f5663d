-- Worked cases of number 1 for the tables of arc lengths and of tangents, which have an entry and three for each of 4,096 points. plan_format
-- has them for the other nine.
use Rattle.std.specs.Prelude.{false, true, [], ◌≡◌, refl, ℕ, replicate}
use Rattle.std.specs.Float.{binary32}
use Rattle.std.specs.Float.Ieee.{of_bits}
use Rattle.plan_format.specs.Reading.{short}
use Rattle.plan_format.specs.Tables.{tables}
use Rattle.tables.specs.LaneTables.{LaneTables, too_short}

-- the nine tables just long enough, and so many entries for arc lengths and for tangents
abbrev lent : ℕ → ℕ → LaneTables
lent arcs tangents =
    let zero = of_bits binary32 0 in
    record {
      plan =
          tables (replicate 1536 0) (replicate 12288 zero) (replicate 1536 zero) (replicate 1280 0) (replicate 4096 0) (replicate 256 0)
          (replicate 128 zero) (replicate 4096 zero) (replicate 768 0);
      cumulative = replicate arcs zero;
      tangents = replicate tangents zero;
    }

arcs : (too_short (lent 4095 12288) ≡ true) × (too_short (lent 4096 12287) ≡ true) × (too_short (lent 4096 12288) ≡ false)
unfolding too_short short
arcs = (refl, refl, refl)

-- and one of the nine too short
lanes :
    let zero = of_bits binary32 0 in
    too_short (record { plan = tables [] [] [] [] [] [] [] [] []; cumulative = replicate 4096 zero; tangents = replicate 12288 zero }) ≡ true
unfolding too_short short
lanes = refl
