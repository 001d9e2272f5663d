-- `write_cumulative` writes front to back: at each turn the arc lengths up to point i stand there, and `acc` is the one at i.
use Rattle.std.proofs.Common.{◌≡◌, ◌+◌, refl, ap, ap₂, ◌∙◌, arith, length, set, length-set}
use Rattle.std.specs.Prelude.{Float}
use Rattle.std.specs.Float.Ieee.{binary32, add}
use Rattle.coords.specs.Coords.{zero⁺}
use Rattle.geometry.specs.Polyline.{arc_at, cumulative_of}
use Rattle.geometry.specs.PolylineLaws.{length_cumulative, arc_next, cumulative_next}
use Rattle.geometry.specs.Over.{over_first, over_whole}
use Rattle.geometry.proofs.write_cumulative.Goals as goal

pub loop-i-init : goal.loop-i-init
unfolding arc_at cumulative_of
loop-i-init c = record { sum = refl; written = over_first c.args.cumulative.now zero⁺ (omega arith) }

pub loop-i-preserved : goal.loop-i-preserved
loop-i-preserved c =
    let ps = c.args.points.now in
    let l = c.loop-i in
    let sum = ap₂ (add binary32) l.invariant.sum c.segment_length-acc.ensures ∙ arc_next ps l.i in
    record {
      sum = sum;
      written = cumulative_next ps (set c.args.cumulative.now 0 zero⁺) l.cumulative (l.i + 1) _
          (simp length-set (omega (arith, length-set {A = Float}))) l.invariant.written sum;
    }

pub returns : goal.returns
returns c =
    let ps = c.args.points.now in
    let l = c.loop-i in
    let n : l.i + 1 ≡ length c.args.cumulative.now = omega (arith, length-set {A = Float}) in
    let long = length_cumulative ps (l.i + 1) in
    l.invariant.written
    ∙ over_whole (cumulative_of ps (l.i + 1)) (set c.args.cumulative.now 0 zero⁺) (simp length-set (omega arith))
    ∙ ap (cumulative_of ps) n
