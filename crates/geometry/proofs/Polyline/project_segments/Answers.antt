-- `Polyline::project_segments` takes the segments one after the other, as the definition does; none where `end` is before `first`.
use Rattle.std.proofs.Common.{◌≡◌, ◌-◌, ap, ◌∙◌, arith}
use Rattle.geometry.specs.declared.Nearer.{Nearer}
use Rattle.geometry.specs.Project.{project_to, project_segments}
use Rattle.geometry.specs.ProjectLaws.{one_over_zero, project_none, project_next}
use Rattle.geometry.proofs.Polyline.project_segments.Goals as goal

pub loop-i-init : goal.loop-i-init
loop-i-init c =
    let a = c.args in
    record {
      so_far = omega arith;
      nearest = project_none a.self.points.now a.self.cumulative.now a.p a.first _ _ one_over_zero c.vertex.ensures;
    }

pub loop-i-preserved : goal.loop-i-preserved
loop-i-preserved c =
    let a = c.args in
    let l = c.loop-i in
    record {
      so_far = omega arith;
      nearest = project_next a.self.points.now a.self.cumulative.now a.p a.first l.i l.best _ (omega arith) l.invariant.nearest
          c.nearer_at-best.ensures;
    }

pub returns : goal.returns
unfolding project_segments
returns c =
    let a = c.args in
    let l = c.loop-i in
    let all : l.i - a.first ≡ a.end - a.first = omega arith in
    ap (λ (r : Nearer). r.best) (l.invariant.nearest ∙ ap (project_to a.self.points.now a.self.cumulative.now a.p a.first) all)
