-- `put` writes a row of three, which is three entries set one after the other.
use Rattle.std.specs.Prelude.{◌≡◌, ◌*◌, ◌+◌, ◌/◌, suc, ltb, true, length}
use Rattle.std.proofs.Common.{add-one, arith, lt-ltb}
use Rattle.sampling.proofs.put.Goals as goal

pub returns : goal.returns
returns c =
    let a = c.args in
    let two : 3 * a.i + 2 ≡ suc (suc (3 * a.i)) = omega arith in
    let fits : ltb a.i (length a.out.now / 3) ≡ true = lt-ltb a.i (length a.out.now / 3) (omega arith) in
    rw (fits, add-one, two) c.put_row.ensures
