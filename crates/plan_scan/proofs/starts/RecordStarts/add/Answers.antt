-- There is room, as the limits say; each kind has its own list.
use Rattle.std.proofs.Common.{ap, refl, ◌≡◌, ◌∙◌, ◌∷◌, ◌++◌, [], List, ℕ, ◌+◌, arith}
use Rattle.plan_format.specs.Kinds.{kind_number}
use Rattle.plan_format.specs.Plan.{Starts, with_record}
use Rattle.plan_scan.specs.Limits.{lane_within, link_within, place_within, section_within}
use Rattle.plan_format.specs.declared.Kind.{Kind}
use Rattle.plan_format.specs.declared.Kind.TheVariants.{Lane, Link, Section, Place, Route, Advance, Beside}
use Rattle.plan_scan.specs.Scan.{Kept, counts_in}
use Rattle.plan_scan.specs.declared.starts.RecordStarts.{RecordStarts}
use Rattle.plan_scan.proofs.starts.RecordStarts.add.Goals as goal

pub push-requires : goal.push-requires
push-requires c =
    (omega arith, (lane_within _ _ (counts_in c.args.self.now) c.requires (ap kind_number c.in-Lane.is)).0)

pub overflow_add-self : goal.overflow_add-self
overflow_add-self c =
    omega (arith, (lane_within _ _ (counts_in c.args.self.now) c.requires (ap kind_number c.in-Lane.is)).1)

pub invariant_of-self-clause-few_points : goal.invariant_of-self-clause-few_points
invariant_of-self-clause-few_points c =
    (lane_within _ _ (counts_in c.args.self.now) c.requires (ap kind_number c.in-Lane.is)).1

pub push-requires-in-Link : goal.push-requires-in-Link
push-requires-in-Link c =
    (omega arith, link_within _ _ (counts_in c.args.self.now) c.requires (ap kind_number c.in-Link.is))

pub push-requires-in-Section : goal.push-requires-in-Section
push-requires-in-Section c =
    (omega arith, (section_within _ _ (counts_in c.args.self.now) c.requires (ap kind_number c.in-Section.is)).0)

pub overflow_add-self-in-Section : goal.overflow_add-self-in-Section
overflow_add-self-in-Section c =
    omega (arith, (section_within _ _ (counts_in c.args.self.now) c.requires (ap kind_number c.in-Section.is)).1)

pub invariant_of-self-in-Section-clause-few_stations : goal.invariant_of-self-in-Section-clause-few_stations
invariant_of-self-in-Section-clause-few_stations c =
    (section_within _ _ (counts_in c.args.self.now) c.requires (ap kind_number c.in-Section.is)).1

pub push-requires-in-Place : goal.push-requires-in-Place
push-requires-in-Place c =
    (omega arith, place_within _ _ (counts_in c.args.self.now) c.requires (ap kind_number c.in-Place.is))

pub returns-in-Lane : goal.returns-in-Lane
unfolding with_record
returns-in-Lane c = λ a K.
    rw (ap kind_number c.in-Lane.is)
    (record {
      lanes = c.push.ensures.items ∙ ap (λ (xs : List ℕ). xs ++ c.args.at ∷ []) K.lanes;
      links = K.links;
      sections = K.sections;
      places = K.places;
      points = ap (λ (n : ℕ). n + c.args.found.items) K.points;
      stations = K.stations;
    })

pub returns-in-Link : goal.returns-in-Link
unfolding with_record
returns-in-Link c = λ a K.
    rw (ap kind_number c.in-Link.is)
    (record {
      lanes = K.lanes;
      links = c.push-in-Link.ensures.items ∙ ap (λ (xs : List ℕ). xs ++ c.args.at ∷ []) K.links;
      sections = K.sections;
      places = K.places;
      points = K.points;
      stations = K.stations;
    })

pub returns-in-Section : goal.returns-in-Section
unfolding with_record
returns-in-Section c = λ a K.
    rw (ap kind_number c.in-Section.is)
    (record {
      lanes = K.lanes;
      links = K.links;
      sections = c.push-in-Section.ensures.items ∙ ap (λ (xs : List ℕ). xs ++ c.args.at ∷ []) K.sections;
      places = K.places;
      points = K.points;
      stations = ap (λ (n : ℕ). n + c.args.found.items) K.stations;
    })

pub returns-in-Place : goal.returns-in-Place
unfolding with_record
returns-in-Place c = λ a K.
    rw (ap kind_number c.in-Place.is)
    (record {
      lanes = K.lanes;
      links = K.links;
      sections = K.sections;
      places = c.push-in-Place.ensures.items ∙ ap (λ (xs : List ℕ). xs ++ c.args.at ∷ []) K.places;
      points = K.points;
      stations = K.stations;
    })

query_kept : (h : RecordStarts) (a : Starts) (at n : ℕ) (k : Kind) → (k ≡ Lane → ⊥) → (k ≡ Link → ⊥) → (k ≡ Section → ⊥) → (k ≡ Place → ⊥)
    → Kept h a → Kept h (with_record at (kind_number k) n a)
unfolding with_record
query_kept h a at n Lane x y z w K = absurd (x refl)
query_kept h a at n Link x y z w K = absurd (y refl)
query_kept h a at n Section x y z w K = absurd (z refl)
query_kept h a at n Place x y z w K = absurd (w refl)
query_kept h a at n Route x y z w K =
    record { lanes = K.lanes; links = K.links; sections = K.sections; places = K.places; points = K.points; stations = K.stations }
query_kept h a at n Advance x y z w K =
    record { lanes = K.lanes; links = K.links; sections = K.sections; places = K.places; points = K.points; stations = K.stations }
query_kept h a at n Beside x y z w K =
    record { lanes = K.lanes; links = K.links; sections = K.sections; places = K.places; points = K.points; stations = K.stations }

pub returns-in_default : goal.returns-in_default
returns-in_default c = λ a K.
    let d = c.in_default in
    query_kept c.args.self.now a c.args.at c.args.found.items c.args.found.kind d.not-Lane d.not-Link d.not-Section d.not-Place K
