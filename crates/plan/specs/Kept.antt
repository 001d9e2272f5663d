-- The tables of an accepted plan past its counts: each entry from the count's end on is the one that stood there before.
use Rattle.std.specs.Prelude.{◌≡◌, ℕ, ◌*◌, ◌+◌, Float, get_or}
use Rattle.std.proofs.Math.ListN.{length}
use Rattle.lists.specs.Over.{over_past}
use Rattle.plan_format.specs.Plan.{Plan}
use Rattle.plan_format.specs.Reading.{plan_counts}
use Rattle.plan_format.specs.Tables.{Tables, loaded, plan_rows}
use Rattle.plan.specs.Accepted.{Accepted}
use Rattle.plan.specs.Links.{links_all}
use Rattle.plan.specs.Rows.{bounds_size, ends_size_law, fans_size, lanes_size, places_size, points_size, sections_size, stations_size}

module _ (p : Plan) (A : Accepted p) (t : Tables) (k : ℕ) where
  pub lanes_kept : (d : ℕ)
      → get_or (loaded p t).lanes (6 * (plan_counts p).lanes + k) d ≡ get_or t.lanes (6 * (plan_counts p).lanes + k) d
  unfolding loaded
  lanes_kept d = over_past (plan_rows p).lanes t.lanes (6 * length p.lanes) k d (lanes_size p A)

  pub points_kept : (d : Float)
      → get_or (loaded p t).points (3 * (plan_counts p).points + k) d ≡ get_or t.points (3 * (plan_counts p).points + k) d
  unfolding loaded
  points_kept d = over_past (plan_rows p).points t.points (3 * (plan_counts p).points) k d (points_size p A)

  pub ends_kept : (d : Float)
      → get_or (loaded p t).ends (6 * (plan_counts p).lanes + k) d ≡ get_or t.ends (6 * (plan_counts p).lanes + k) d
  unfolding loaded
  ends_kept d = over_past (plan_rows p).ends t.ends (6 * length p.lanes) k d (ends_size_law p A)

  pub fans_kept : (d : ℕ)
      → get_or (loaded p t).fans (5 * (plan_counts p).lanes + k) d ≡ get_or t.fans (5 * (plan_counts p).lanes + k) d
  unfolding loaded
  fans_kept d = over_past (plan_rows p).fans t.fans (5 * length p.lanes) k d (fans_size p A)

  pub links_kept : (d : ℕ)
      → get_or (loaded p t).links (2 * (plan_counts p).links + k) d ≡ get_or t.links (2 * (plan_counts p).links + k) d
  unfolding loaded
  links_kept d = over_past (plan_rows p).links t.links (2 * length p.links) k d (links_all p A)

  pub sections_kept : (d : ℕ)
      → get_or (loaded p t).sections (4 * (plan_counts p).sections + k) d ≡ get_or t.sections (4 * (plan_counts p).sections + k) d
  unfolding loaded
  sections_kept d = over_past (plan_rows p).sections t.sections (4 * length p.sections) k d (sections_size p A)

  pub bounds_kept : (d : Float)
      → get_or (loaded p t).bounds (2 * (plan_counts p).sections + k) d ≡ get_or t.bounds (2 * (plan_counts p).sections + k) d
  unfolding loaded
  bounds_kept d = over_past (plan_rows p).bounds t.bounds (2 * length p.sections) k d (bounds_size p A)

  pub stations_kept : (d : Float)
      → get_or (loaded p t).stations ((plan_counts p).stations + k) d ≡ get_or t.stations ((plan_counts p).stations + k) d
  unfolding loaded
  stations_kept d = over_past (plan_rows p).stations t.stations (plan_counts p).stations k d (stations_size p A)

  pub places_kept : (d : ℕ)
      → get_or (loaded p t).places (3 * (plan_counts p).places + k) d ≡ get_or t.places (3 * (plan_counts p).places + k) d
  unfolding loaded
  places_kept d = over_past (plan_rows p).places t.places (3 * length p.places) k d (places_size p A)
