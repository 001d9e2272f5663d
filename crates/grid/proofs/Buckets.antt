-- `bucket` without its `floor`: the cast drops the fraction of what is not negative, and sends the rest to 0.
use mathlib.Core.Bool.{Bool, cond, false, true, true≢false, false≢true, ◌||◌}
use mathlib.Core.Path.{ap, refl, ◌∙◌, ◌≡◌}
use Prim.Native.Nat.{ℕ, ◌-◌, min}
use native.Mathlib.Nat.{zero-mul}
use native.Mathlib.Omega.{arith}
use lib.Dec.{T, ltb}
use lib.Ieee.{Float, binary32, div, down, fin, fits, inf, is_nan, lt, nan, of_bits, to_unsigned}
use lib.Ieee.Exact.{HasValue}
use lib.Ieee.Fits.{div-fits}
use borrow.Author.Tests.{le-ltb}
use Rattle.coords.specs.Coords.{zero⁺}
use Rattle.float.specs.Sign.{is_negative}
use Rattle.float.specs.Whole.{floor_of}
use Rattle.float_laws.proofs.Casts.{unsigned_floor}
use Rattle.float_laws.proofs.Whole.{floor_is}
use Rattle.grid.specs.Grid.{bucket}

not_below : (a b : ℕ) → b ≡ 0 → ltb a b ≡ false
not_below a b e = le-ltb a b (omega arith)

-- what is not negative passes the tests, and a negative number is cast to 0
plus : (v : Float) (k : ℕ) → HasValue v false k 1 → (is_nan v || lt v zero⁺) ≡ false
unfolding is_nan lt of_bits
plus nan k h = absurd h
plus (inf s) k h = absurd h
plus (fin true m e) k h = absurd (true≢false h.0)
plus (fin false m e) k h = not_below _ _ (zero-mul (down e))

minus : (v : Float) (k : ℕ) → HasValue v true k 1 → to_unsigned 64 v ≡ 0
unfolding to_unsigned
minus nan k h = absurd h
minus (inf s) k h = absurd h
minus (fin false m e) k h = absurd (false≢true h.0)
minus (fin true m e) k h = refl

zero_least : (n : ℕ) → 0 ≡ min 0 n
zero_least n = omega arith

floored : (x : Float) (n : ℕ) → T (fits binary32 x)
    → cond (is_nan (floor_of x) || lt (floor_of x) zero⁺) 0 (min (to_unsigned 64 (floor_of x)) n) ≡ min (to_unsigned 64 x) n
unfolding is_negative
floored nan n t = unfold floor_of is_nan to_unsigned in zero_least n
floored (inf true) n t = unfold floor_of is_nan lt of_bits to_unsigned in zero_least n
floored (inf false) n t = unfold floor_of is_nan lt of_bits in refl
floored (fin true m e) n t = go (is_nan v || lt v zero⁺) ∙ (unfold to_unsigned in refl)
  where
    v : Float
    v = floor_of (fin true m e)

    go : (b : Bool) → cond b 0 (min (to_unsigned 64 v) n) ≡ min 0 n
    go true = zero_least n
    go false = let F = floor_is (fin true m e) tt t in ap (λ (u : ℕ). min u n) (minus v F.n F.is)
floored (fin false m e) n t =
    let F = floor_is (fin false m e) tt t in
    let v = floor_of (fin false m e) in
    ap (λ (b : Bool). cond b 0 (min (to_unsigned 64 v) n)) (plus v F.n F.is)
    ∙ ap (λ (u : ℕ). min u n) (unsigned_floor 64 (fin false m e) tt t refl)

pub bucket_is : (offset cell : Float) (count : ℕ) → bucket offset cell count ≡ min (to_unsigned 64 (div binary32 offset cell)) (count - 1)
unfolding bucket
bucket_is offset cell count = floored (div binary32 offset cell) (count - 1) (div-fits binary32 offset cell)
