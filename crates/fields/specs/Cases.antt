-- Worked fields: a file's fields are little-endian, so a field's first byte is its least. Each stands after one byte of another.
use Rattle.std.specs.Prelude.{[], ◌∷◌, ◌≡◌, refl}
use Rattle.std.specs.Float.{binary32, binary64}
use Rattle.std.specs.Float.Ieee.{of_bits}
use Rattle.fields.specs.Fields.{f32_at, f64_at, u16_at, u32_at, u64_at, u8_at}

numbers :
    (u8_at (9 ∷ 1 ∷ 2 ∷ []) 1 ≡ 1)
    × (u16_at (9 ∷ 1 ∷ 2 ∷ []) 1 ≡ 0x0201)
    × (u32_at (9 ∷ 1 ∷ 2 ∷ 3 ∷ 4 ∷ []) 1 ≡ 0x04030201)
    × (u64_at (9 ∷ 1 ∷ 2 ∷ 3 ∷ 4 ∷ 5 ∷ 6 ∷ 7 ∷ 8 ∷ []) 1 ≡ 0x0807060504030201)
unfolding u32_at u64_at
numbers = (refl, refl, refl, refl)

-- 8 as an f32 and as an f64
floats :
    (f32_at (9 ∷ 0 ∷ 0 ∷ 0 ∷ 0x41 ∷ []) 1 ≡ of_bits binary32 0x41000000)
    × (f64_at (9 ∷ 0 ∷ 0 ∷ 0 ∷ 0 ∷ 0 ∷ 0 ∷ 0x20 ∷ 0x40 ∷ []) 1 ≡ of_bits binary64 0x4020000000000000)
unfolding u32_at u64_at of_bits
floats = (refl, refl)
