-- Small files made of numbers, for the worked cases.
use Rattle.std.specs.Prelude.{List, [], ◌++◌, ◌∷◌, suc, zero, ℕ, ◌%◌, ◌/◌, Float, length}
use Rattle.std.specs.Float.{binary32}
use Rattle.std.specs.Float.Ieee.{of_bits}
use Rattle.plan_format.specs.Plan.{Decoded, accepted, refused}
use Rattle.plan_format.specs.Tables.{Tables, plan_rows, tables}

-- n as so many bytes
unfoldable pub bytes : ℕ → ℕ → List ℕ
bytes zero n = []
bytes (suc k) n = n % 256 ∷ bytes k (n / 256)

-- a record with its header
unfoldable pub made : ℕ → List ℕ → List ℕ
made kind payload = bytes 4 (length payload) ++ (bytes 2 kind ++ payload)

-- a point, by the bits of its three f32
unfoldable pub point : ℕ → ℕ → ℕ → List ℕ
point x y z = bytes 4 x ++ (bytes 4 y ++ bytes 4 z)

-- lane 1 with this type, direction, ends and count, and what follows them
unfoldable pub lane : ℕ → ℕ → ℕ → ℕ → List ℕ → List ℕ
lane type direction ends count rest = made 1 (bytes 2 1 ++ (type ∷ direction ∷ ends ∷ bytes 2 count ++ rest))

-- a Driving lane without ends that goes straight along x
unfoldable pub straight : ℕ → ℕ → ℕ → List ℕ
straight n from to = made 1 (bytes 2 n ++ (1 ∷ 0 ∷ 0 ∷ bytes 2 2 ++ (point from 0 0 ++ point to 0 0)))

unfoldable pub link : ℕ → ℕ → ℕ → List ℕ
link from role to = made 2 (bytes 2 from ++ (role ∷ bytes 2 to))

-- f64s by their bits
unfoldable pub wide : List ℕ → List ℕ
wide [] = []
wide (x ∷ xs) = bytes 8 x ++ wide xs

-- a section by its start, its end and its stations
unfoldable pub section_by : ℕ → ℕ → ℕ → ℕ → List ℕ → List ℕ
section_by road index start end stations =
    made 3 (bytes 2 road ++ (bytes 2 index ++ (bytes 8 start ++ (bytes 8 end ++ (bytes 2 (length stations) ++ wide stations)))))

-- stations 0 and 8
unfoldable pub section : ℕ → ℕ → List ℕ
section road index = section_by road index 0 0x4020000000000000 (0 ∷ 0x4020000000000000 ∷ [])

unfoldable pub place : ℕ → ℕ → ℕ → ℕ → List ℕ
place lane road index number = made 4 (bytes 2 lane ++ (bytes 2 road ++ (bytes 2 index ++ bytes 4 number)))

unfoldable pub advance : ℕ → ℕ → ℕ → ℕ → List ℕ
advance lane s offset distance = made 17 (bytes 2 lane ++ (bytes 8 s ++ (bytes 8 offset ++ bytes 8 distance)))

unfoldable pub beside : ℕ → ℕ → ℕ → List ℕ
beside lane s side = made 18 (bytes 2 lane ++ (bytes 8 s ++ (side ∷ [])))

-- an f32 by its bits
unfoldable pub f32_bits : ℕ → Float
f32_bits n = of_bits binary32 n

-- the number of a file, 0 for a plan
unfoldable pub number_is : Decoded → ℕ
number_is (refused n) = n
number_is (accepted p) = 0

-- the rows of its plan
unfoldable pub rows_in : Decoded → Tables
rows_in (refused n) = tables [] [] [] [] [] [] [] [] []
rows_in (accepted p) = plan_rows p
