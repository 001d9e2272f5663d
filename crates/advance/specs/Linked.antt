-- The lanes that a branch may go on to are those that the plan's link records of its lane name, in file order.
use Rattle.std.specs.Prelude.{Bool, cond, false, true, List, [], map, ◌∷◌, refl, ◌≡◌, suc, ℕ, ◌*◌, ◌+◌, ◌-◌, ◌<◌, get_or, length, take}
use Rattle.std.proofs.Common.{subst, sym, ap₂, arith}
use Rattle.std.proofs.lemmas.List.{length-map}
use Rattle.plan.specs.Rows.{fan_entry, predecessor_entry, successor_entry}
use Rattle.plan_format.specs.Plan.{Plan, lane_of, number_of}
use Rattle.plan_format.specs.Reading.{sum}
use Rattle.plan_format.specs.Tables.{link_count, linked, plan_rows}
use Rattle.rows.specs.Rows.{first_link, leads_to, predecessors, successors}
use Rattle.branches.specs.Branches.{linked_of}
use Rattle.branches.specs.Tables.{led_to}
use Rattle.advance.specs.InPlan.{plan_tables}

-- rows that lead to the lanes ts, from row `first` on
led_to_are : (links : List ℕ) (row : ℕ → ℕ) (ts : List ℕ) (first : ℕ) → ((k : ℕ) → k < length ts → leads_to links (first + k) ≡ row (get_or ts k 0))
    → led_to links (first + length ts) (length ts) ≡ map row ts
unfolding led_to
led_to_are links row [] first h = refl
led_to_are links row (t ∷ ts) first h =
    let at : first + suc (length ts) - suc (length ts) ≡ first + 0 = omega arith in
    let end : first + suc (length ts) ≡ suc first + length ts = omega arith in
    let rest = led_to_are links row ts (suc first) (λ k l. let z : suc first + k ≡ first + suc k = omega arith in rw z (h (suc k) (omega arith))) in
    ap₂ ◌∷◌ (rw at (h 0 (omega arith))) (subst (λ (n : ℕ). led_to links n (length ts) ≡ map row ts) (sym end) rest)

module _ (p : Plan) (i : ℕ) (h : i < length p.lanes) where
  abbrev numbers : List ℕ
  numbers = map number_of p.lanes

  abbrev number : ℕ
  number = get_or numbers i 0

  abbrev fans : List ℕ
  fans = (plan_rows p).fans

  -- the links of the lanes before
  abbrev before : ℕ
  before = sum (map (link_count p.links) (take i numbers))

  abbrev to : ℕ → List ℕ
  to role = linked p.links number role

  in_numbers : i < length numbers
  in_numbers = omega (arith, length-map p.lanes number_of)

  pub first_link_law : first_link fans i ≡ before
  first_link_law = let z : 5 * i ≡ 5 * i + 0 = omega arith in rw z (fan_entry p i 0 in_numbers (omega arith))

  pub successor_count : successors fans i ≡ length (to 0)
  successor_count = fan_entry p i 1 in_numbers (omega arith)

  pub predecessor_count : predecessors fans i ≡ length (to 1)
  predecessor_count = fan_entry p i 2 in_numbers (omega arith)

  -- successors ahead, predecessors back; a lane that is missing has the row 256
  pub linked_records : (ahead : Bool) → linked_of (plan_tables p) ahead i ≡ map (lane_of p) (linked p.links number (cond ahead 0 1))
  linked_records true =
      rw (first_link_law, successor_count)
      (led_to_are (plan_rows p).links (lane_of p) (to 0) before (λ k l. successor_entry p i k 1 in_numbers (omega arith) l))
  linked_records false =
      rw (first_link_law, successor_count, predecessor_count)
      (led_to_are (plan_rows p).links (lane_of p) (to 1) (before + length (to 0)) (λ k l. predecessor_entry p i k 1 in_numbers (omega arith) l))
