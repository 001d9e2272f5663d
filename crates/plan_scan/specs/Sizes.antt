-- What a fitting length says, kind by kind.
use Rattle.std.specs.Prelude.{true, List, ◌≡◌, ℕ, ◌*◌, ◌+◌, leb}
use borrow.Author.Tests.{eqb-true}
use Rattle.fields.specs.Fields.{u16_at, u8_at}
use Rattle.plan_format.specs.Laws.{and_snd}
use Rattle.plan_format.specs.Plan.{ends_size, fits, lane_fits, section_fits}

module _ (s : List ℕ) (at kind size : ℕ) (f : fits s at kind size ≡ true) where
  pub lane_size : kind ≡ 1 → size ≡ 7 + 12 * u16_at s (at + 11) + ends_size (u8_at s (at + 10))
  unfolding fits lane_fits
  lane_size e = eqb-true size (7 + 12 * u16_at s (at + 11) + ends_size (u8_at s (at + 10))) (and_snd (leb 7 size) _ (rw e at f))

  pub link_size : kind ≡ 2 → size ≡ 5
  unfolding fits
  link_size e = eqb-true size 5 (rw e at f)

  pub section_size : kind ≡ 3 → size ≡ 22 + 8 * u16_at s (at + 26)
  unfolding fits section_fits
  section_size e = eqb-true size (22 + 8 * u16_at s (at + 26)) (and_snd (leb 22 size) _ (rw e at f))

  pub place_size : kind ≡ 4 → size ≡ 10
  unfolding fits
  place_size e = eqb-true size 10 (rw e at f)
