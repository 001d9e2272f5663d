-- Worked cases of the range: coordinates from -4,096 to 4,096, and none beyond.
use Rattle.std.specs.Prelude.{ℕ, Float}
use Rattle.std.specs.Float.{binary32}
use Rattle.std.specs.Float.Ieee.{fits, le, of_bits}
use Rattle.geometry_laws.specs.Range.{InRange, PointIn}

abbrev f : ℕ → Float
f n = of_bits binary32 n

high : InRange (f 0x45800000)
unfolding fits le of_bits
high = record { held = tt; low = tt; high = tt }

low : InRange (f 0xc5800000)
unfolding fits le of_bits
low = record { held = tt; low = tt; high = tt }

corner : PointIn (record { x = f 0x45800000; y = f 0xc5800000; z = f 0x45800000 })
corner = record { x = high; y = low; z = high }

-- the next f32 above and below
above : InRange (f 0x45800001) → ⊥
unfolding le of_bits
above h = h.high

below : InRange (f 0xc5800001) → ⊥
unfolding le of_bits
below h = h.low
