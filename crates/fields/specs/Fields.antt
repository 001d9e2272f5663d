-- Little-endian fields of a list of bytes: the number or float that stands from a place on.
use Rattle.std.specs.Prelude.{List, ℕ, ◌+◌, ◌*◌, get_or, Float}
use Rattle.std.specs.Float.{binary32, binary64}
use Rattle.std.specs.Float.Ieee.{of_bits}

abbrev pub u8_at : List ℕ → ℕ → ℕ
u8_at s at = get_or s at 0

abbrev pub u16_at : List ℕ → ℕ → ℕ
u16_at s at = u8_at s at + u8_at s (at + 1) * 256

unfoldable pub u32_at : List ℕ → ℕ → ℕ
u32_at s at = u16_at s at + u16_at s (at + 2) * 65536

unfoldable pub u64_at : List ℕ → ℕ → ℕ
u64_at s at = u32_at s at + u32_at s (at + 4) * 4294967296

-- any bits: each pattern of a NaN is the one `nan`
abbrev pub f32_at : List ℕ → ℕ → Float
f32_at s at = of_bits binary32 (u32_at s at)

abbrev pub f64_at : List ℕ → ℕ → Float
f64_at s at = of_bits binary64 (u64_at s at)
