-- Number 7 goes by keys: fields within their widths are told apart by them.
use Rattle.std.specs.Prelude.{◌≡◌, ℕ, ◌*◌, ◌+◌, ◌<◌}
use Rattle.std.proofs.Common.{arith}
use Rattle.plan_format.specs.Plan.{place_key, place_section, section_key}
use Rattle.plan_format.specs.Records.{Place, Section}

pair_parts : (a b c d : ℕ) → b < 65536 → d < 65536 → a * 65536 + b ≡ c * 65536 + d → (a ≡ c) × (b ≡ d)
pair_parts a b c d h k e = (omega arith, omega arith)

wide_parts : (a b c d : ℕ) → b < 4294967296 → d < 4294967296 → a * 4294967296 + b ≡ c * 4294967296 + d → (a ≡ c) × (b ≡ d)
wide_parts a b c d h k e = (omega arith, omega arith)

-- sections with one key have the same road and index
pub section_parts : (x y : Section) → x.index < 65536 → y.index < 65536 → section_key x ≡ section_key y
    → (x.road ≡ y.road) × (x.index ≡ y.index)
section_parts x y h k e = pair_parts x.road x.index y.road y.index h k e

-- a place and a section with one key are of the same road and index
pub placed_parts : (x : Place) (y : Section) → x.index < 65536 → y.index < 65536 → place_section x ≡ section_key y
    → (x.road ≡ y.road) × (x.index ≡ y.index)
placed_parts x y h k e = pair_parts x.road x.index y.road y.index h k e

-- places with one key have the same road, index and lane number
pub place_parts : (x y : Place) → x.index < 65536 → y.index < 65536 → x.raised < 4294967296 → y.raised < 4294967296
    → place_key x ≡ place_key y → (x.road ≡ y.road) × (x.index ≡ y.index) × (x.raised ≡ y.raised)
place_parts x y h k l m e =
    let w = wide_parts (place_section x) x.raised (place_section y) y.raised l m e in
    let p = pair_parts x.road x.index y.road y.index h k w.0 in
    (p.0, p.1, w.1)
