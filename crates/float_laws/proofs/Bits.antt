-- A number has one pattern (`bits_unique`). The other way, `of_bits f (to_bits f x) ≡ x`, is the library's `of_bits-to_bits`, a NaN included.
use mathlib.Core.Path.{◌≡◌, sym, ap, ◌∙◌, subst}
use mathlib.Core.Bool.{not}
use Prim.Native.Nat.{ℕ, ◌*◌, ◌<◌}
use lib.Dec.{T}
use lib.Ieee.{Float, Format, is_nan, top, of_bits, to_bits}
use lib.Ieee.Bits.{to_bits-of_bits}

pub bits_unique : (f : Format) (x : Float) (b : ℕ) → T (not (is_nan x)) → b < 2 * top f → of_bits f b ≡ x → b ≡ to_bits f x
bits_unique f x b n h e = sym (to_bits-of_bits f b h (subst (λ (z : Float). T (not (is_nan z))) (sym e) n)) ∙ ap (to_bits f) e
