-- The rows are the stations of each section.
use Rattle.std.proofs.Common.{◌≡◌, ℕ, List, Float, ◌+◌, ◌*◌, ◌∙◌, ap, sym, arith, rules, get_or, length}
use Rattle.fields.specs.Fields.{f64_at, u16_at}
use Rattle.plan_format.specs.Records.{section_at}
use Rattle.plan_format.specs.Tables.{over, station_row}
use Rattle.plan_rows.specs.Counted.{rows_map}
use Rattle.plan_rows.specs.Runs.{stations_length, station_at, station_count}
use Rattle.plan_rows.proofs.load_stations.Goals as goal

pub put_rows-requires-clause-room : goal.put_rows-requires-clause-room
put_rows-requires-clause-room c =
    let s = c.args.file.now in
    let all = ap length (rows_map station_row (section_at s) c.args.sections.now) in (
      λ (p : ℕ). station_row (section_at s p),
      λ j h n e. let m : n ≡ u16_at s (get_or c.args.sections.now j 0 + 26) = search rules in
          m ∙ sym (station_count s (get_or c.args.sections.now j 0)),
      omega (arith, all, stations_length s c.args.sections.now, c.requires.2, c.requires.3),
    )

pub returns : goal.returns
returns c =
    let s = c.args.file.now in
    c.put_rows.ensures (λ (p : ℕ). station_row (section_at s p))
    (λ j h n e. let m : n ≡ u16_at s (get_or c.args.sections.now j 0 + 26) = search rules in
    m ∙ sym (station_count s (get_or c.args.sections.now j 0)))
    (λ j h i x d l e. let v : x ≡ f64_at s (get_or c.args.sections.now j 0 + 28 + 8 * i) = search rules in
    v ∙ sym (station_at s (get_or c.args.sections.now j 0) i d l))
    ∙ ap (λ (r : List Float). over r c.args.out.now) (sym (rows_map station_row (section_at s) c.args.sections.now))
