-- Each entry of a plan's rows is the record's field: laws for the readers of the nine tables.
use mathlib.Core.List.{List, [], append_assoc, append-nil, map, ◌++◌, ◌∷◌}
use Rattle.std.proofs.Math.Path.{ap}
use Rattle.std.specs.Prelude.{refl, ◌≡◌, Float, drop, get_or, take}
use Rattle.std.proofs.Common.{sym, ◌∙◌, le_of_suc-le-suc, not-suc-le-zero, length-drop, get_or-append-add, get_or-drop, take_at}
use Prim.Native.Nat.{suc, zero, ℕ, ◌*◌, ◌+◌, ◌<◌, ◌≤◌}
use native.Mathlib.Omega.{arith}
use Rattle.std.proofs.Math.ListN.{get_or-append, length, length-append}
use Rattle.std.proofs.lemmas.List.{length-map}
use Rattle.std.proofs.Math.Seq.{drop-append-add}
use Rattle.plan_format.specs.Plan.{Plan, lane_count, number_of, place_lane, section_count}
use Rattle.plan_format.specs.Reading.{sum}
use Rattle.plan_format.specs.Records.{Lane, Link, Place, Section}
use Rattle.lists.specs.Rows.{row_entry, rows_drop, rows_length}
use Rattle.plan_format.specs.Tables.{bound_row, end_row, fan_row, group, lane_row, link_count, link_row, linked, plan_rows}
use Rattle.plan_format.specs.Tables.{place_row, point_row, rows, rows_from, section_row, station_row}
use Rattle.plan.specs.Accepted.{Accepted}

ones_sum : {X : Type 0} (ys : List X) → sum (map (λ (x : X). 1) ys) ≡ length ys
unfolding sum
ones_sum [] = refl
ones_sum (y ∷ ys) = let r = ones_sum ys in omega arith

-- ROWS: entry k of the i-th row, after the rows before it
module _ {X A : Type 0} (row : X → List A) where
  rows_get : (xs : List X) (e : X) (i k : ℕ) (d : A) → i < length xs → k < length (row (get_or xs i e))
      → get_or (rows row xs) (length (rows row (take i xs)) + k) d ≡ get_or (row (get_or xs i e)) k d
  rows_get xs e i k d h l =
      let n = length (rows row (take i xs)) in
      let split = rows_drop row xs e i h in
      sym (get_or-drop n (rows row xs) k d)
      ∙ ap (λ (r : List A). get_or r k d) split
      ∙ get_or-append (row (get_or xs i e)) (rows row (drop (suc i) xs)) d k l

  -- the rows before the i-th, where each has w entries for each of its count
  rows_before : (w : ℕ) (count : X → ℕ) (xs : List X) (e : X)
      → ((j : ℕ) → j < length xs → length (row (get_or xs j e)) ≡ w * count (get_or xs j e))
      → (i : ℕ) → i ≤ length xs → length (rows row (take i xs)) ≡ w * sum (map count (take i xs))
  unfolding rows sum
  rows_before w count xs e s zero h = omega arith
  rows_before w count [] e s (suc i) h = absurd (not-suc-le-zero h)
  rows_before w count (x ∷ xs) e s (suc i) h =
      let r = rows_before w count xs e (λ j l. s (suc j) (omega arith)) i (le_of_suc-le-suc h) in
      let a = length-append (row x) (rows row (take i xs)) in
      let n = s 0 (omega arith) in
      omega arith

  -- rows with w entries for each of their count
  pub run_entry : (w : ℕ) (count : X → ℕ) (xs : List X) (e : X)
      → ((j : ℕ) → j < length xs → length (row (get_or xs j e)) ≡ w * count (get_or xs j e))
      → (i k : ℕ) (d : A) → i < length xs → k < w * count (get_or xs i e)
      → get_or (rows row xs) (w * sum (map count (take i xs)) + k) d ≡ get_or (row (get_or xs i e)) k d
  run_entry w count xs e s i k d h l =
      let before = rows_before w count xs e s i (omega arith) in
      let size = s i h in
      rw (← before) (rows_get xs e i k d h (omega arith))

-- all the rows
pub runs_length : {X A : Type 0} (row : X → List A) (w : ℕ) (count : X → ℕ) (xs : List X)
    → ((j : ℕ) (e : X) → j < length xs → length (row (get_or xs j e)) ≡ w * count (get_or xs j e))
    → length (rows row xs) ≡ w * sum (map count xs)
unfolding rows sum
runs_length row w count [] s = omega arith
runs_length row w count (x ∷ xs) s =
    let r = runs_length row w count xs (λ j e l. s (suc j) e (omega arith)) in
    let a = length-append (row x) (rows row xs) in
    let n = s 0 x (omega arith) in
    omega arith

rows_within : {X A : Type 0} (row : X → List A) (xs : List X) (k : ℕ) → length (rows row (take k xs)) ≤ length (rows row xs)
unfolding rows
rows_within row [] zero = omega arith
rows_within row [] (suc k) = omega arith
rows_within row (x ∷ xs) zero = omega arith
rows_within row (x ∷ xs) (suc k) =
    let r = rows_within row xs k in
    let a = length-append (row x) (rows row (take k xs)) in
    let b = length-append (row x) (rows row xs) in
    omega arith

-- the i-th row cut out, and where it ends
module _ {X A : Type 0} (row : X → List A) (w : ℕ) (count : X → ℕ) (xs : List X) (e : X)
    (s : (j : ℕ) → j < length xs → length (row (get_or xs j e)) ≡ w * count (get_or xs j e)) (i : ℕ) (h : i < length xs) where
  pub run_part : take (w * count (get_or xs i e)) (drop (w * sum (map count (take i xs))) (rows row xs)) ≡ row (get_or xs i e)
  run_part =
      rw (← rows_before row w count xs e s i (omega arith), rows_drop row xs e i h)
      (take_at (row (get_or xs i e)) (rows row (drop (suc i) xs)) (w * count (get_or xs i e)) (s i h))

  pub run_end : w * (sum (map count (take i xs)) + count (get_or xs i e)) ≤ length (rows row xs)
  run_end =
      let before = rows_before row w count xs e s i (omega arith) in
      let split = ap length (rows_drop row xs e i h) ∙ length-append (row (get_or xs i e)) (rows row (drop (suc i) xs)) in
      let rest = length-drop (length (rows row (take i xs))) (rows row xs) in
      let within = rows_within row xs i in
      let size = s i h in
      omega arith

-- the links of a lane have two entries each
group_length : (ns : List ℕ) (xs : List Link) (n : ℕ) → length (group ns xs n) ≡ 2 * link_count xs n
group_length ns xs n =
    let a = rows_length (link_row ns) 2 (λ x. refl) (linked xs n 0) in
    let b = rows_length (link_row ns) 2 (λ x. refl) (linked xs n 1) in
    let c = rows_length (link_row ns) 2 (λ x. refl) (linked xs n 2) in
    let e = length-append (rows (link_row ns) (linked xs n 0)) (rows (link_row ns) (linked xs n 1) ++ rows (link_row ns) (linked xs n 2)) in
    let f = length-append (rows (link_row ns) (linked xs n 1)) (rows (link_row ns) (linked xs n 2)) in
    omega arith

-- ROWS with the sum of the counts before them, w entries each
module _ {X : Type 0} (row : ℕ → X → List ℕ) (count : X → ℕ) (w : ℕ) (size : (n : ℕ) (x : X) → length (row n x) ≡ w) where
  from_drop : (xs : List X) (e : X) (i first : ℕ) → i < length xs
      → drop (w * i) (rows_from row count first xs)
      ≡ row (first + sum (map count (take i xs))) (get_or xs i e) ++ rows_from row count
      (first + sum (map count (take i xs)) + count (get_or xs i e)) (drop (suc i) xs)
  unfolding rows_from sum
  from_drop [] e i first h = absurd (not-suc-le-zero h)
  from_drop (x ∷ xs) e zero first h =
      let z : w * 0 ≡ 0 = omega arith in
      let f : first + 0 ≡ first = omega arith in
      rw (z, f)
  from_drop (x ∷ xs) e (suc i) first h =
      let n : w * suc i ≡ length (row first x) + w * i = (let z = size first x in omega arith) in
      let a : first + count x + sum (map count (take i xs)) ≡ first + (count x + sum (map count (take i xs))) = omega arith in
      rw n
      (drop-append-add (row first x) (rows_from row count (first + count x) xs) (w * i) ∙ rw a at
      (from_drop xs e i (first + count x) (le_of_suc-le-suc h)))

  pub from_length : (xs : List X) (first : ℕ) → length (rows_from row count first xs) ≡ w * length xs
  unfolding rows_from
  from_length [] first = omega arith
  from_length (x ∷ xs) first =
      let r = from_length xs (first + count x) in
      let a = length-append (row first x) (rows_from row count (first + count x) xs) in
      let n = size first x in
      omega arith

  pub from_entry : (xs : List X) (e : X) (i k : ℕ) → i < length xs → k < w
      → get_or (rows_from row count 0 xs) (w * i + k) 0 ≡ get_or (row (sum (map count (take i xs))) (get_or xs i e)) k 0
  from_entry xs e i k h l =
      let first = sum (map count (take i xs)) in
      let z : 0 + first ≡ first = omega arith in
      let split = rw z at (from_drop xs e i 0 h) in
      let n = size first (get_or xs i e) in
      sym (get_or-drop (w * i) (rows_from row count 0 xs) k 0)
      ∙ ap (λ (r : List ℕ). get_or r k 0) split
      ∙ get_or-append (row first (get_or xs i e)) (rows_from row count (first + count (get_or xs i e)) (drop (suc i) xs)) 0 k (omega arith)

-- THE TABLES of an accepted plan. The i-th row's entries, by their place in the row.
module _ (p : Plan) (A : Accepted p) (i k : ℕ) where
  pub lane_entry : (e : Lane) → i < length p.lanes → k < 6
      → get_or (plan_rows p).lanes (6 * i + k) 0 ≡ get_or (lane_row (sum (map lane_count (take i p.lanes))) (get_or p.lanes i e)) k 0
  unfolding plan_rows
  lane_entry e h l = from_entry lane_row lane_count 6 (λ n x. refl) p.lanes e i k h l

  -- the points of a lane start at 3 times its first point
  pub point_entry : (e : Lane) (d : Float) → i < length p.lanes → k < 3 * (get_or p.lanes i e).count
      → get_or (plan_rows p).points (3 * sum (map lane_count (take i p.lanes)) + k) d ≡ get_or (get_or p.lanes i e).points k d
  unfolding plan_rows
  point_entry e d h l = run_entry point_row 3 lane_count p.lanes e (λ j m. (A.lane j e m).size) i k d h l

  pub end_entry : (e : Lane) (d : Float) → i < length p.lanes → k < 6
      → get_or (plan_rows p).ends (6 * i + k) d ≡ get_or (end_row (get_or p.lanes i e)) k d
  unfolding plan_rows
  end_entry e d h l = row_entry end_row 6 p.lanes e (λ j m. (A.lane j e m).end_size) i k d h l

  pub section_entry : (e : Section) → i < length p.sections → k < 4
      → get_or (plan_rows p).sections (4 * i + k) 0
      ≡ get_or (section_row (sum (map section_count (take i p.sections))) (get_or p.sections i e)) k 0
  unfolding plan_rows
  section_entry e h l = from_entry section_row section_count 4 (λ n x. refl) p.sections e i k h l

  pub bound_entry : (e : Section) (d : Float) → i < length p.sections → k < 2
      → get_or (plan_rows p).bounds (2 * i + k) d ≡ get_or (bound_row (get_or p.sections i e)) k d
  unfolding plan_rows
  bound_entry e d h l = row_entry bound_row 2 p.sections e (λ j m. refl) i k d h l

  -- the stations of a section start at its first station
  pub station_entry : (e : Section) (d : Float) → i < length p.sections → k < (get_or p.sections i e).count
      → get_or (plan_rows p).stations (1 * sum (map section_count (take i p.sections)) + k) d ≡ get_or (get_or p.sections i e).stations k d
  unfolding plan_rows
  station_entry e d h l =
      run_entry station_row 1 section_count p.sections e (λ j m. let z = (A.section j e m).size in omega arith) i
      k d h (omega arith)

  pub place_entry : (e : Place) → i < length p.places → k < 3
      → get_or (plan_rows p).places (3 * i + k) 0 ≡ get_or (place_row p (get_or p.places i e)) k 0
  unfolding plan_rows
  place_entry e h l = row_entry (place_row p) 3 p.places e (λ j m. refl) i k 0 h l

-- The i-th lane's points and the i-th section's stations, cut out of their tables.
module _ (p : Plan) (A : Accepted p) (i : ℕ) where
  pub points_part : (e : Lane) → i < length p.lanes
      → take (3 * (get_or p.lanes i e).count) (drop (3 * sum (map lane_count (take i p.lanes))) (plan_rows p).points)
      ≡ (get_or p.lanes i e).points
  unfolding plan_rows
  points_part e h = run_part point_row 3 lane_count p.lanes e (λ j m. (A.lane j e m).size) i h

  pub points_end : (e : Lane) → i < length p.lanes
      → 3 * (sum (map lane_count (take i p.lanes)) + (get_or p.lanes i e).count) ≤ length (plan_rows p).points
  unfolding plan_rows
  points_end e h = run_end point_row 3 lane_count p.lanes e (λ j m. (A.lane j e m).size) i h

  pub stations_part : (e : Section) → i < length p.sections
      → take (1 * (get_or p.sections i e).count) (drop (1 * sum (map section_count (take i p.sections))) (plan_rows p).stations)
      ≡ (get_or p.sections i e).stations
  unfolding plan_rows
  stations_part e h = run_part station_row 1 section_count p.sections e (λ j m. let z = (A.section j e m).size in omega arith) i h

  pub stations_end : (e : Section) → i < length p.sections
      → 1 * (sum (map section_count (take i p.sections)) + (get_or p.sections i e).count) ≤ length (plan_rows p).stations
  unfolding plan_rows
  stations_end e h = run_end station_row 1 section_count p.sections e (λ j m. let z = (A.section j e m).size in omega arith) i h

  pub links_end : i < length (map number_of p.lanes)
      → 2 * (sum (map (link_count p.links) (take i (map number_of p.lanes))) + link_count p.links (get_or (map number_of p.lanes) i 0))
      ≤ length (plan_rows p).links
  unfolding plan_rows
  links_end h =
      let ns = map number_of p.lanes in
      run_end (group ns p.links) 2 (link_count p.links) ns 0 (λ j m. group_length ns p.links (get_or ns j 0)) i h

-- How many entries each table has.
module _ (p : Plan) (A : Accepted p) where
  pub lanes_size : length (plan_rows p).lanes ≡ 6 * length p.lanes
  unfolding plan_rows
  lanes_size = from_length lane_row lane_count 6 (λ n x. refl) p.lanes 0

  pub fans_size : length (plan_rows p).fans ≡ 5 * length p.lanes
  unfolding plan_rows
  fans_size =
      let ns = map number_of p.lanes in
      from_length (fan_row p.links (map place_lane p.places)) (link_count p.links) 5 (λ n x. refl) ns 0
      ∙ ap (λ (n : ℕ). 5 * n) (length-map p.lanes number_of)

  pub sections_size : length (plan_rows p).sections ≡ 4 * length p.sections
  unfolding plan_rows
  sections_size = from_length section_row section_count 4 (λ n x. refl) p.sections 0

  pub bounds_size : length (plan_rows p).bounds ≡ 2 * length p.sections
  unfolding plan_rows
  bounds_size = rows_length bound_row 2 (λ x. refl) p.sections

  pub places_size : length (plan_rows p).places ≡ 3 * length p.places
  unfolding plan_rows
  places_size = rows_length (place_row p) 3 (λ x. refl) p.places

  pub points_size : length (plan_rows p).points ≡ 3 * sum (map lane_count p.lanes)
  unfolding plan_rows
  points_size = runs_length point_row 3 lane_count p.lanes (λ j e m. (A.lane j e m).size)

  pub ends_size_law : length (plan_rows p).ends ≡ 6 * length p.lanes
  unfolding plan_rows
  ends_size_law =
      runs_length end_row 6 (λ (l : Lane). 1) p.lanes (λ j e m. let z = (A.lane j e m).end_size in omega arith)
      ∙ ap (λ (n : ℕ). 6 * n) (ones_sum p.lanes)

  pub stations_size : length (plan_rows p).stations ≡ sum (map section_count p.sections)
  unfolding plan_rows
  stations_size =
      let e = runs_length station_row 1 section_count p.sections (λ j e m. let z = (A.section j e m).size in omega arith) in
      omega arith

  pub links_size : length (plan_rows p).links ≡ 2 * sum (map (link_count p.links) (map number_of p.lanes))
  unfolding plan_rows
  links_size =
      let ns = map number_of p.lanes in
      runs_length (group ns p.links) 2 (link_count p.links) ns (λ j e m. group_length ns p.links (get_or ns j e))

-- FANS AND LINKS, by the number n of the i-th lane
module _ (p : Plan) (i k : ℕ) (h : i < length (map number_of p.lanes)) where
  abbrev ns : List ℕ
  ns = map number_of p.lanes

  pub fan_entry : k < 5
      → get_or (plan_rows p).fans (5 * i + k) 0
      ≡ get_or (fan_row p.links (map place_lane p.places) (sum (map (link_count p.links) (take i ns))) (get_or ns i 0)) k 0
  unfolding plan_rows
  fan_entry l = from_entry (fan_row p.links (map place_lane p.places)) (link_count p.links) 5 (λ n x. refl) ns 0 i k h l

  -- the lane's links start at its first link: successors, predecessors, neighbours, each in file order
  pub link_entry : k < 2 * link_count p.links (get_or ns i 0)
      → get_or (plan_rows p).links (2 * sum (map (link_count p.links) (take i ns)) + k) 0 ≡ get_or (group ns p.links (get_or ns i 0)) k 0
  unfolding plan_rows
  link_entry l =
      run_entry (group ns p.links) 2 (link_count p.links) ns 0 (λ j m. group_length ns p.links (get_or ns j 0))
      i k 0 h l

-- a part of a lane's links: entry j of the k-th link to the lanes ts, after other links
part_entry : (ns ts pre post : List ℕ) (k j : ℕ) → k < length ts → j < 2
    → get_or (pre ++ (rows (link_row ns) ts ++ post)) (length pre + (2 * k + j)) 0 ≡ get_or (link_row ns (get_or ts k 0)) j 0
part_entry ns ts pre post k j h l =
    let long = rows_length (link_row ns) 2 (λ x. refl) ts in
    get_or-append-add pre (rows (link_row ns) ts ++ post) (2 * k + j) 0
    ∙ get_or-append (rows (link_row ns) ts) post 0 (2 * k + j) (omega arith)
    ∙ row_entry (link_row ns) 2 ts 0 (λ m z. refl) k j 0 h l

-- THE LINKS OF A ROLE: the k-th lane led to (entry 0), in file order, and its row (entry 1). `first` is the lane's first link.
module _ (p : Plan) (i k j : ℕ) (h : i < length (map number_of p.lanes)) (b : j < 2) where
  abbrev numbers : List ℕ
  numbers = map number_of p.lanes

  abbrev n : ℕ
  n = get_or numbers i 0

  abbrev first : ℕ
  first = sum (map (link_count p.links) (take i numbers))

  abbrev part : ℕ → List ℕ
  part r = rows (link_row numbers) (linked p.links n r)

  pub successor_entry : k < length (linked p.links n 0)
      → get_or (plan_rows p).links (2 * (first + k) + j) 0 ≡ get_or (link_row numbers (get_or (linked p.links n 0) k 0)) j 0
  successor_entry l =
      let at : 2 * (first + k) + j ≡ 2 * first + (0 + (2 * k + j)) = omega arith in
      rw at (link_entry p i (0 + (2 * k + j)) h (omega arith) ∙ part_entry numbers (linked p.links n 0) [] (part 1 ++ part 2) k j l b)

  pub predecessor_entry : k < length (linked p.links n 1)
      → get_or (plan_rows p).links (2 * (first + length (linked p.links n 0) + k) + j) 0
      ≡ get_or (link_row numbers (get_or (linked p.links n 1) k 0)) j 0
  predecessor_entry l =
      let size = rows_length (link_row numbers) 2 (λ x. refl) (linked p.links n 0) in
      let at : 2 * (first + length (linked p.links n 0) + k) + j ≡ 2 * first + (length (part 0) + (2 * k + j)) = omega arith in
      rw at
      (link_entry p i (length (part 0) + (2 * k + j)) h (omega arith) ∙ part_entry numbers (linked p.links n 1) (part 0)
      (part 2) k j l b)

  pub neighbour_entry : k < length (linked p.links n 2)
      → get_or (plan_rows p).links (2 * (first + length (linked p.links n 0) + length (linked p.links n 1) + k) + j) 0
      ≡ get_or (link_row numbers (get_or (linked p.links n 2) k 0)) j 0
  neighbour_entry l =
      let size₀ = rows_length (link_row numbers) 2 (λ x. refl) (linked p.links n 0) in
      let size₁ = rows_length (link_row numbers) 2 (λ x. refl) (linked p.links n 1) in
      let both = length-append (part 0) (part 1) in
      let group_is : group numbers p.links n ≡ (part 0 ++ part 1) ++ (part 2 ++ []) =
      ap (λ (r : List ℕ). part 0 ++ (part 1 ++ r)) (sym (append-nil (part 2))) ∙ sym (append_assoc (part 0) (part 1) (part 2 ++ [])) in
      let at : 2 * (first + length (linked p.links n 0) + length (linked p.links n 1) + k) + j ≡ 2 * first +
      (length (part 0 ++ part 1) + (2 * k + j)) =
      omega arith in
      rw at
      (link_entry p i (length (part 0 ++ part 1) + (2 * k + j)) h (omega arith)
      ∙ ap (λ (r : List ℕ). get_or r (length (part 0 ++ part 1) + (2 * k + j)) 0) group_is
      ∙ part_entry numbers (linked p.links n 2) (part 0 ++ part 1) [] k j l b)
