-- `is_before` is `precedes`, with the test first that most lanes fail: what is closed or farther does not go before, and what is nearer
-- than the best has an entry.
use Rattle.std.proofs.Common.{Bool, true, false, ◌||◌, ◌≡◌, ◌∙◌, ℕ, refl, sym}
use Rattle.std.proofs.Math.Dec.{ltb}
use Rattle.std.specs.Float.Ieee.{Float, fin, inf, lt, nan}
use Rattle.float_laws.specs.Compare.{less_not_more}
use Rattle.plan_format.specs.Laws.{and_right, or_fst, or_snd}
use Rattle.search.specs.LaneGraph.{f32_costs}
use Rattle.search.specs.Loops.{unreached_is}
use Rattle.search.specs.Search.{precedes}
use Rattle.search.specs.Structs.{mark}
use Rattle.search.proofs.is_before.Goals as goal

-- what is less than anything is less than the infinity
less_finite : (d e : Float) → lt d e ≡ true → lt d (inf false) ≡ true
unfolding lt
less_finite nan e h = h
less_finite (inf true) e h = refl
less_finite (inf false) nan h = h
less_finite (inf false) (inf t) h = h
less_finite (inf false) (fin t n k) h = h
less_finite (fin s m k) e h = refl

module _ (closed : Bool) (d : Float) (x : ℕ) (e : Float) (y : ℕ) where
  abbrev goes_before : Bool
  goes_before = precedes f32_costs (mark closed) d x e y

  closed_or_farther : (closed || lt e d) ≡ true → goes_before ≡ false
  closed_or_farther h = go closed (lt e d) refl h
    where
      go : (a b : Bool) → lt e d ≡ b → (a || b) ≡ true → precedes f32_costs (mark a) d x e y ≡ false
      go true b p h = refl
      go false true p h = rw (less_not_more e d p, p) (and_right (lt d (inf false)) false refl)
      go false false p h = cc

  module _ (h : (closed || lt e d) ≡ false) where
    open_lane : closed ≡ false
    open_lane = or_fst closed (lt e d) h

    no_farther : lt e d ≡ false
    no_farther = or_snd closed (lt e d) h

    nearer : lt d e ≡ true → goes_before ≡ true
    nearer p = rw (open_lane, less_finite d e p, p) refl

    module _ (p : lt d e ≡ false) where
      unreached_lane : lt d (inf false) ≡ false → goes_before ≡ false
      unreached_lane q = rw (open_lane, q) refl

      level : lt d (inf false) ≡ true → goes_before ≡ ltb y x
      level q = rw (open_lane, no_farther, p, q) refl

pub returns-then-closed-cost : goal.returns-then-closed-cost
returns-then-closed-cost c = let a = c.args in sym (closed_or_farther a.closed a.d a.x a.cost a.number c.if-closed-cost.true)

pub returns-then-d-cost : goal.returns-then-d-cost
returns-then-d-cost c =
    let a = c.args in
    sym (nearer a.closed a.d a.x a.cost a.number c.if-closed-cost.false c.if-d-cost.true)

pub returns-then-d : goal.returns-then-d
returns-then-d c =
    let a = c.args in
    sym (level a.closed a.d a.x a.cost a.number c.if-closed-cost.false c.if-d-cost.false (rw unreached_is at c.if-d.true))

pub returns-else-d : goal.returns-else-d
returns-else-d c =
    let a = c.args in
    let far : lt a.d (inf false) ≡ false = rw unreached_is at c.if-d.false in
    (rw unreached_is far) ∙ (sym (unreached_lane a.closed a.d a.x a.cost a.number c.if-closed-cost.false c.if-d-cost.false far))
