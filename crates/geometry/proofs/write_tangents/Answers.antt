-- `write_tangents` writes front to back, and hands the direction of each segment on from the point where it starts to the one where it ends.
use Rattle.std.proofs.Common.{◌≡◌, refl, ap, ap₂, ◌∙◌, arith}
use Rattle.coords.specs.declared.Vector.{Vector}
use Rattle.coords.specs.Coords.{plus_of, normalize_or, zero_vector}
use Rattle.geometry.specs.Polyline.{chord_at, end_or, tangents_to}
use Rattle.geometry.specs.PolylineLaws.{length_tangents, incoming_next, tangents_next}
use Rattle.geometry.specs.Over.{over_whole}
use Rattle.geometry.proofs.write_tangents.Goals as goal

pub loop-i-init : goal.loop-i-init
unfolding tangents_to
loop-i-init c = record { handed_on = λ _. refl; written = refl }

pub loop-i-preserved : goal.loop-i-preserved
unfolding chord_at
loop-i-preserved c =
    let a = c.args in
    let l = c.loop-i in
    let ps = a.points.now in
    let sum = c.add.ensures ∙ ap₂ plus_of (l.invariant.handed_on c.loop-i-test.true) c.outgoing-out.ensures in
    let chord : c.normalize_or_zero-chord.result ≡ chord_at ps a.n l.i =
    c.normalize_or_zero-chord.ensures ∙ ap (λ (v : Vector). normalize_or v zero_vector) sum in
    let tangent = c.end_or.ensures ∙ ap (λ (v : Vector). end_or v a.ends a.n l.i) chord in
    record {
      handed_on = λ h. c.outgoing-out.ensures ∙ incoming_next ps a.n l.i h;
      written = c.write_vector.ensures
          ∙ tangents_next ps a.n a.ends a.tangents.now l.tangents l.i c.end_or.result (omega arith) l.invariant.written tangent;
    }

pub returns : goal.returns
returns c =
    let a = c.args in
    let l = c.loop-i in
    let ps = a.points.now in
    let n : l.i ≡ a.n = omega arith in
    let long = length_tangents ps a.n a.ends l.i in
    l.invariant.written ∙ over_whole (tangents_to ps a.n a.ends l.i) a.tangents.now (omega arith) ∙ ap (tangents_to ps a.n a.ends) n
