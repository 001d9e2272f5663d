-- The index that `network::driving` builds may be asked, and answers for the lanes that drive.
use mathlib.Core.List.{List}
use mathlib.Core.Path.{ap, refl, ◌∙◌, ◌≡◌}
use Prim.Native.Nat.{ℕ, ◌*◌, ◌≤◌}
use native.Mathlib.Omega.{arith}
use lib.Ieee.{Float}
use lib.ListN.{length}
use Rattle.coords.specs.declared.Point.{Point}
use Rattle.network.proofs.Index.{built_grid, built_index, built_spans}
use Rattle.network.specs.Lanes.{Span, driving, drives_table}
use Rattle.network.specs.Nearest.{grid_for, nearest_lane, nearest_of}
use Rattle.network.specs.Tables.{Built, Index, Room, lanes_from, span_list, told}
use Rattle.network.specs.declared.LaneIndex.{LaneIndex}
use Rattle.std.specs.Prelude.{Option, ◌+◌, ◌<◌, [], drop, get_or, map, set}
use Rattle.std.proofs.lemmas.List.{drop_all, drop_more, length-map}
use Rattle.lists.specs.Filling.{Filling, fill_end, fill_one}
use Rattle.lists.specs.Over.{over_whole}
use Rattle.network.specs.declared.Nearest.{Nearest}
use Rattle.nearest.specs.Nearest.{Searchable}

-- the nearest lane to a point, of n
abbrev pub ask : List ℕ → List Float → ℕ → Point → Option Nearest
ask lanes points n p = told (nearest_lane drives_table (lanes_from lanes points n 0) p)

module _ (lanes : List ℕ) (points cumulative : List Float) (n : ℕ) (S : Searchable lanes points cumulative n) (index : LaneIndex)
    (spans₀ spans : List ℕ) (boxes₀ boxes : List Float) (ranges₀ ranges : List ℕ)
    (b : Built (driving drives_table (lanes_from lanes points n 0)) index spans₀ spans boxes₀ boxes ranges₀ ranges)
    (spans-room : 3456 ≤ length spans₀) (boxes_room_law : 4608 ≤ length boxes₀) (ranges-room : 4608 ≤ length ranges₀) where
  abbrev ss : List Span
  ss = driving drives_table (lanes_from lanes points n 0)

  room : Room ss 0 spans₀ boxes₀
  room = let few = S.few in record { in_spans = omega arith; in_boxes = omega arith }

  fits : 4 * length ss ≤ length ranges₀
  fits = let few = S.few in omega arith

  pub may_ask : Index lanes points cumulative spans boxes ranges index
      × (index.grid ≡ grid_for (span_list lanes points spans boxes index.count 0))
  may_ask = (
    built_index lanes points drives_table n S.rows index spans₀ spans boxes₀ boxes ranges₀ ranges b room fits cumulative S.arcs,
    built_grid lanes points drives_table n S.rows index spans₀ spans boxes₀ boxes ranges₀ ranges b room fits,
  )

  pub asked : (p : Point) (r : Option Nearest) → r ≡ told (nearest_of (span_list lanes points spans boxes index.count 0) p)
      → r ≡ told (nearest_lane drives_table (lanes_from lanes points n 0) p)
  unfolding nearest_lane
  asked p r e =
      e ∙ ap (λ (x : List Span). told (nearest_of x p))
      (built_spans lanes points drives_table n S.rows index spans₀ spans boxes₀ boxes ranges₀ ranges b room fits)

-- ---- an answer for each of some points

abbrev pub Answers : List ℕ → List Float → ℕ → List Point → List (Option Nearest) → List (Option Nearest) → ℕ → Type 0
Answers lanes points n ps old found i =
    Filling (Option Nearest) old found i (map (ask lanes points n) (drop i ps)) (map (ask lanes points n) ps)

module _ (lanes : List ℕ) (points : List Float) (n : ℕ) (ps : List Point) (old : List (Option Nearest)) where
  pub answered_next : (found : List (Option Nearest)) (i : ℕ) (d : Point) (r : Option Nearest) → i < length ps → length old ≡ length ps
      → r ≡ ask lanes points n (get_or ps i d) → Answers lanes points n ps old found i → Answers lanes points n ps old (set found i r) (i + 1)
  answered_next found i d r h e is F =
      let more = ap (map (ask lanes points n)) (drop_more ps i d h) in
      rw is
      (fill_one (Option Nearest) old found i (map (ask lanes points n) (drop (i + 1) ps)) (map (ask lanes points n) ps)
      (ask lanes points n (get_or ps i d)) i (rw more at F) refl (omega arith))

  pub answered_all : (found : List (Option Nearest)) (i : ℕ) → length ps ≤ i → length old ≡ length ps
      → Answers lanes points n ps old found i → found ≡ map (ask lanes points n) ps
  answered_all found i h e F =
      let rest : map (ask lanes points n) (drop i ps) ≡ [] = ap (map (ask lanes points n)) (drop_all i ps h) in
      fill_end (Option Nearest) old found i _ (map (ask lanes points n) ps) F rest
      ∙ over_whole (map (ask lanes points n) ps) old (omega (arith, length-map ps (ask lanes points n), e))
