-- What the functions write are the pieces: the plan line from what `check` answers, then the reply to the query found.
use Rattle.std.specs.Prelude.{List, [], ◌++◌, Option, None, Some, Err, Ok, ◌≡◌, ℕ, ◌≤◌}
use Rattle.std.proofs.Math.Bool.{false}
use Rattle.std.proofs.Math.Path.{ap, refl}
use Rattle.std.proofs.Common.{ap₂, subst, sym, ◌∙◌, arith}
use Rattle.std.proofs.Math.ListN.{length}
use Rattle.plan_format.specs.Laws.{Bytes}
use Rattle.plan_format.specs.Plan.{Decoded, accepted, decode, refused}
use Rattle.plan_format.specs.Queries.{next_query}
use Rattle.plan_format.specs.Reading.{opened, read_of}
use Rattle.plan_format.specs.Refusals.{number_of, read_by, refusal_number}
use Rattle.plan_format.specs.declared.Counts.{Counts}
use Rattle.plan_format.specs.declared.Query.{Query}
use Rattle.plan_format.specs.declared.Refusal.{Refusal}
use Rattle.tables.specs.Opening.{has_none, has_plan}
use Rattle.text.specs.Lines.{plan_line}
use Rattle.text.specs.Page.{Adds}
use Rattle.arrayvec.specs.ArrayVec.{ArrayVec}
use Rattle.replies.specs.Printed.{Writes, first_by, first_part, next_by, next_part, reply_to, room}

-- a text added to a page with nothing on it is all that the page has
alone : {text : List ℕ} {most : ℕ} {old new : ArrayVec ℕ} → old.items ≡ [] → Adds text most old new → new.items ≡ text
alone {text} e P = P.adds ∙ ap (λ (t : List ℕ). t ++ text) e

-- ---- the first piece, from what `check` answers

module _ (f : List ℕ) (B : Bytes f) {old new : ArrayVec ℕ} (none : old.items ≡ []) where
  first_as : (d : Decoded) → decode 0 f ≡ d → (next : Option ℕ) → Writes (first_by d) next new → Writes (first_part f) next new
  first_as d q next W = subst (λ (x : Decoded). Writes (first_by x) next new) (sym q) W

  few : {line : List ℕ} → Adds line 68 old new → length new.items ≤ room
  few P = let l = ap length (alone none P) in omega (arith, P.few)

  pub first_plan : (c : Counts) → read_by (Ok c) ≡ read_of (decode 0 f) → Adds (plan_line 0 c.lanes c.links) 68 old new
      → Writes (first_part f) (Some 0) new
  unfolding first_by opened
  first_plan c e P =
      let H = has_plan false 0 f B (read_by (Ok c)) e refl in
      let lanes : c.lanes ≡ length H.plan.lanes = ap (λ (c : Counts). c.lanes) H.counts in
      let links : c.links ≡ length H.plan.links = ap (λ (c : Counts). c.links) H.counts in
      let line = ap₂ (plan_line 0) lanes links in
      first_as (accepted H.plan) H.is (Some 0) (record { text = alone none P ∙ line; few = few P; goes_on = refl })

  pub first_refused : (x : Refusal) → read_by (Err x) ≡ read_of (decode 0 f) → {n : ℕ} → n ≡ number_of x → Adds (plan_line n 0 0) 68 old new
      → Writes (first_part f) None new
  unfolding first_by opened
  first_refused x e q P =
      let d = has_none false 0 f B (read_by (Err x)) e (refusal_number x) in
      let line = ap (λ (n : ℕ). plan_line n 0 0) q in
      first_as (refused (number_of x)) d None (record { text = alone none P ∙ line; few = few P; goes_on = refl })

-- ---- the next piece

module _ (f : List ℕ) (at : ℕ) where
  next_as : (n : Option (Query × ℕ)) → next_query f at ≡ n → {r : Option ℕ} {new : ArrayVec ℕ} → Writes (next_by f at n) r new
      → Writes (next_part f at) r new
  next_as n q {r} {new} W = subst (λ (x : Option (Query × ℕ)). Writes (next_by f at x) r new) (sym q) W

  pub next_written : (q : Query) (next : ℕ) → next_query f at ≡ Some (q, next) → {old new : ArrayVec ℕ} → old.items ≡ []
      → Adds (reply_to f q) room old new → Writes (next_part f at) (Some next) new
  unfolding next_by
  next_written q next e none P =
      let l = ap length (alone none P) in
      next_as (Some (q, next)) e (record { text = alone none P; few = omega (arith, P.few); goes_on = refl })

  pub next_none : next_query f at ≡ None → {new : ArrayVec ℕ} → new.items ≡ [] → Writes (next_part f at) None new
  unfolding next_by
  next_none e none = let l = ap length none in next_as None e (record { text = none; few = omega arith; goes_on = refl })
