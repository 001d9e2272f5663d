-- A text as the bytes of its characters.
use Rattle.std.specs.Prelude.{List, ℕ}
use mathlib.Core.List as list
use Prim.Native.Char.{code}
use Prim.Native.String.{String, [], ◌∷◌}

-- of ASCII characters, one byte each
unfoldable pub bytes : String → List ℕ
bytes [] = list.[]
bytes (c ∷ s) = list.◌∷◌ (code c) (bytes s)
