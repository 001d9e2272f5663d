-- The lines of the front of a list are the first lines of the whole.
use Rattle.std.specs.Prelude.{List, refl, ◌≡◌, suc, zero, ℕ, ◌*◌, ◌+◌, ◌/◌, ◌<◌, ◌≤◌, Float, length, take}
use Rattle.std.specs.Float.{nan}
use Rattle.std.proofs.Common.{arith, length-take-le}
use Rattle.std.proofs.lemmas.List.{get_or-take}
use Rattle.text.specs.Lines.{advance_text, lane_lines, point_lines, position_lines, route_text}

lanes_front : (ns : List ℕ) (k j : ℕ) → j ≤ k → lane_lines (take k ns) j ≡ lane_lines ns j
unfolding lane_lines
lanes_front ns k zero h = refl
lanes_front ns k (suc j) h = let i : j < k = omega arith in rw (lanes_front ns k j (omega arith), get_or-take k ns j 0 i) refl

points_front : (xs : List Float) (k j : ℕ) → 3 * j ≤ k → point_lines (take k xs) j ≡ point_lines xs j
unfolding point_lines
points_front xs k zero h = refl
points_front xs k (suc j) h =
    rw (
      points_front xs k j (omega arith),
      get_or-take k xs (3 * j) nan (omega arith),
      get_or-take k xs (3 * j + 1) nan (omega arith),
      get_or-take k xs (3 * j + 2) nan (omega arith),
    )
    refl

positions_front : (rows : List ℕ) (metres : List Float) (k l j : ℕ) → 2 * j ≤ k → 3 * j ≤ l
    → position_lines (take k rows) (take l metres) j ≡ position_lines rows metres j
unfolding position_lines
positions_front rows metres k l zero h m = refl
positions_front rows metres k l (suc j) h m =
    rw (
      positions_front rows metres k l j (omega arith) (omega arith),
      get_or-take k rows (2 * j) 0 (omega arith),
      get_or-take k rows (2 * j + 1) 0 (omega arith),
      get_or-take l metres (3 * j) nan (omega arith),
      get_or-take l metres (3 * j + 1) nan (omega arith),
      get_or-take l metres (3 * j + 2) nan (omega arith),
    )
    refl

-- the text of what a call found, which stands at the front of the lists that it was lent

pub route_front : (number chain points : ℕ) (len : Float) (ns : List ℕ) (xs : List Float) → chain ≤ length ns → 3 * points ≤ length xs
    → route_text number (length (take chain ns)) (length (take (3 * points) xs) / 3) len (take chain ns) (take (3 * points) xs)
    ≡ route_text number chain points len ns xs
unfolding route_text
route_front number chain points len ns xs h l =
    let a = length-take-le chain ns h in
    let b = length-take-le (3 * points) xs l in
    let c : 3 * points / 3 ≡ points = omega arith in
    rw (a, b, c, lanes_front ns chain chain (omega arith), points_front xs (3 * points) points (omega arith)) refl

pub advance_front : (number keys positions : ℕ) (rows : List ℕ) (metres : List Float) → 2 * positions ≤ length rows → 3 * positions ≤ length metres
    → advance_text number keys (length (take (2 * positions) rows) / 2) (take (2 * positions) rows) (take (3 * positions) metres)
    ≡ advance_text number keys positions rows metres
unfolding advance_text
advance_front number keys positions rows metres h l =
    let a = length-take-le (2 * positions) rows h in
    let b : 2 * positions / 2 ≡ positions = omega arith in
    rw (a, b, positions_front rows metres (2 * positions) (3 * positions) positions (omega arith) (omega arith)) refl
