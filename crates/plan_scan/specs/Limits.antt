-- Counts within the limits, and with one record more.
use Rattle.std.specs.Prelude.{cond, true, ◌&&◌, ◌≡◌, ℕ, ◌+◌, ◌<◌, ◌≤◌, eqb, leb}
use Rattle.std.proofs.Common.{arith, leb-true}
use Rattle.plan_format.specs.Laws.{and_fst, and_snd}
use Rattle.plan_format.specs.Plan.{within}
use Rattle.plan_format.specs.declared.Counts.{Counts}

-- counts within the limits
pub record Limited (c : Counts) : Type 0 where
  pub lanes : c.lanes ≤ 256
  pub points : c.points ≤ 4096
  pub links : c.links ≤ 2048
  pub sections : c.sections ≤ 64
  pub stations : c.stations ≤ 4096
  pub places : c.places ≤ 256

abbrev counts_with : ℕ → ℕ → ℕ → ℕ → ℕ → ℕ → Counts
counts_with lanes points links sections stations places =
    record { lanes = lanes; points = points; links = links; sections = sections; stations = stations; places = places }

-- the counts after one record more, with n points or stations
abbrev pub more : ℕ → ℕ → Counts → Counts
more kind n c =
    cond (eqb kind 1) (counts_with (c.lanes + 1) (c.points + n) c.links c.sections c.stations c.places)
    (cond (eqb kind 2) (counts_with c.lanes c.points (c.links + 1) c.sections c.stations c.places)
    (cond (eqb kind 3) (counts_with c.lanes c.points c.links (c.sections + 1) (c.stations + n) c.places)
    (cond (eqb kind 4) (counts_with c.lanes c.points c.links c.sections c.stations (c.places + 1)) c)))

-- what keeping within the limits says, kind by kind
module _ (kind n : ℕ) (c : Counts) (w : within kind n c ≡ true) where
  pub lane_within : kind ≡ 1 → (c.lanes < 256) × (c.points + n ≤ 4096)
  unfolding within
  lane_within e =
      let r : (leb (c.lanes + 1) 256 && leb (c.points + n) 4096) ≡ true = rw e at w in
      let l = leb-true (c.lanes + 1) 256 (and_fst _ _ r) in
      (omega arith, leb-true (c.points + n) 4096 (and_snd (leb (c.lanes + 1) 256) _ r))

  pub link_within : kind ≡ 2 → c.links < 2048
  unfolding within
  link_within e = let l = leb-true (c.links + 1) 2048 (rw e at w) in omega arith

  pub section_within : kind ≡ 3 → (c.sections < 64) × (c.stations + n ≤ 4096)
  unfolding within
  section_within e =
      let r : (leb (c.sections + 1) 64 && leb (c.stations + n) 4096) ≡ true = rw e at w in
      let l = leb-true (c.sections + 1) 64 (and_fst _ _ r) in
      (omega arith, leb-true (c.stations + n) 4096 (and_snd (leb (c.sections + 1) 64) _ r))

  pub place_within : kind ≡ 4 → c.places < 256
  unfolding within
  place_within e = let l = leb-true (c.places + 1) 256 (rw e at w) in omega arith
