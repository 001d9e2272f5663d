-- The part that is written is the row.
use Rattle.std.proofs.Common.{◌≡◌, ◌+◌, ◌-◌, ◌≤◌, length, take, drop, arith, append_assoc}
use Rattle.std.proofs.lemmas.List.{drop-drop}
use Rattle.std.proofs.lemmas.List.Edits.{sets-eq}
use Rattle.lists.proofs.put_row.Goals as goal

pub returns : goal.returns
returns g c =
    let a = c.args in
    let k : a.start + length a.row.now - a.start ≡ length a.row.now = omega arith in
    let room : a.start + length a.row.now ≤ length a.out.now = omega arith in
    rw (
      k,
      c.copy_from_slice.ensures.after,
      sets-eq a.row.now a.out.now a.start room,
      drop-drop (length a.row.now) a.start a.out.now,
      append_assoc (take a.start a.out.now) a.row.now (drop (a.start + length a.row.now) a.out.now),
    )
