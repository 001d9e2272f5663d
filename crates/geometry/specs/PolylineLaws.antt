-- What stands in the lists of arc lengths and of tangents.
use Rattle.std.specs.Prelude.{◌≡◌, refl, Option, List, [], ◌∷◌, ◌++◌, ℕ, zero, suc, ◌+◌, ◌-◌, ◌*◌, ◌<◌, length, get_or, set, Float}
use Rattle.std.proofs.Common.{sym, ap, ◌∙◌, ⊎_elim, arith, add-one, length-append}
use borrow.Author.Tests.{lt-ltb}
use Rattle.std.proofs.Math.ListN.{get_or-append}
use Rattle.std.proofs.lemmas.List.{get_or_at}
use Rattle.std.specs.Float.{nan, binary32}
use Rattle.std.specs.Float.Ieee.{add}
use Rattle.exact.specs.Naturals.{lt_or_le}
use Rattle.coords.specs.declared.Vector.{Vector}
use Rattle.geometry.specs.declared.Ends.{Ends}
use Rattle.geometry.specs.Polyline.{segment_length, arc_at, cumulative_of}
use Rattle.geometry.specs.Polyline.{incoming_at, outgoing_at, with_vector, tangent_at, tangents_to}
use Rattle.geometry.specs.Over.{over, over_next, over_three}

pub length_cumulative : (ps : List Float) (n : ℕ) → length (cumulative_of ps n) ≡ n
unfolding cumulative_of
length_cumulative ps zero = refl
length_cumulative ps (suc k) = simp length-append (omega (arith, length_cumulative ps k))

-- what stands at i is the arc length at point i
pub cumulative_at : (ps : List Float) (n i : ℕ) → i < n → get_or (cumulative_of ps n) i nan ≡ arc_at ps i
unfolding cumulative_of
cumulative_at ps zero i h = absurd (omega arith)
cumulative_at ps (suc k) i h =
    let long = length_cumulative ps k in
    ⊎_elim
    (λ l. get_or-append (cumulative_of ps k) (arc_at ps k ∷ []) nan i (omega arith) ∙ cumulative_at ps k i l)
    (λ l. get_or_at (cumulative_of ps k) (arc_at ps k) [] nan i (omega arith) ∙ ap (arc_at ps) (omega arith))
    (lt_or_le i k)

pub arc_next : (ps : List Float) (k : ℕ) → add binary32 (arc_at ps k) (segment_length ps k) ≡ arc_at ps (k + 1)
unfolding arc_at
arc_next ps k = sym (ap (arc_at ps) (add-one k))

-- the first k arc lengths stand in `out`, and the next is written
pub cumulative_next : (ps old out : List Float) (k : ℕ) (v : Float) → k < length old → out ≡ over (cumulative_of ps k) old
    → v ≡ arc_at ps k → set out k v ≡ over (cumulative_of ps (k + 1)) old
unfolding cumulative_of
cumulative_next ps old out k v h e is =
    rw (add-one k)
    (ap (λ (o : List Float). set o k v) e ∙ over_next (cumulative_of ps k) old k v (length_cumulative ps k) h
    ∙ ap (λ (a : Float). over (cumulative_of ps k ++ (a ∷ [])) old) is)

pub length_tangents : (ps : List Float) (n : ℕ) (e : Option Ends) (k : ℕ) → length (tangents_to ps n e k) ≡ 3 * k
unfolding tangents_to
length_tangents ps n e zero = refl
length_tangents ps n e (suc k) = simp length-append (omega (arith, length_tangents ps n e k))

-- the segment that starts at point i ends at point i + 1
pub incoming_next : (ps : List Float) (n i : ℕ) → i + 1 < n → outgoing_at ps n i ≡ incoming_at ps (i + 1)
incoming_next ps n i h =
    let here : i + 1 - 1 ≡ i = omega arith in
    rw (lt-ltb (i + 1) n h, lt-ltb 0 (i + 1) (omega arith), here)

-- the first k tangents stand in `out`, and the next is written
pub tangents_next : (ps : List Float) (n : ℕ) (e : Option Ends) (old out : List Float) (k : ℕ) (t : Vector) → 3 * k + 2 < length old
    → out ≡ over (tangents_to ps n e k) old
    → t ≡ tangent_at ps n e k → with_vector out k t ≡ over (tangents_to ps n e (k + 1)) old
unfolding tangents_to
tangents_next ps n e old out k t h same is =
    ap (λ (l : List Float). with_vector l k t) same ∙ over_three (tangents_to ps n e k) old (3 * k) t.x t.y t.z
    (length_tangents ps n e k) h
    ∙ ap (λ (v : Vector). over (tangents_to ps n e k ++ (v.x ∷ v.y ∷ v.z ∷ [])) old) is ∙ ap
    (λ (j : ℕ). over (tangents_to ps n e j) old) (sym (add-one k))
