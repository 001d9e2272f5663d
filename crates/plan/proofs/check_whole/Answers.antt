-- The starts of the records of each kind, as slices.
use Rattle.plan.specs.Checking.{parts_in}
use Rattle.plan.proofs.check_whole.Goals as goal

pub invariant_of-records : goal.invariant_of-records
invariant_of-records c =
    record {
      parts =
          rw (c.as_slice.ensures.value, c.as_slice-2.ensures.value, c.as_slice-3.ensures.value, c.as_slice-4.ensures.value)
          (parts_in c.args.file.now c.args.starts.now c.requires.0);
    }
