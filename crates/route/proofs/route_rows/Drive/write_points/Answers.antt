-- All points fit, so the pass writes them all.
use Rattle.route.specs.Steps.{all_written}
use Rattle.route.proofs.route_rows.Drive.write_points.Goals as goal

pub returns : goal.returns
returns c = all_written _ _ _ _ (rw c.of.ensures at c.sample.ensures) c.requires
