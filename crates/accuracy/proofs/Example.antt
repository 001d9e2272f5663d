-- The hypotheses can be met: one lane from (0, 0, 0) to (8, 0, 0), asked at (3, 2, 0). And the conclusion rules out the first span as every
-- nearest lane: where a lane from (0, 8, 0) to (8, 8, 0) stands first, its point is not within the tape.
use mathlib.Core.Path.{◌≡◌, refl, sym, subst, ◌∙◌}
use mathlib.Core.Logic.{inl, inr}
use mathlib.Core.List.{List, [], ◌∷◌}
use Prim.Native.Nat.{ℕ, zero, suc, ◌+◌, ◌<◌}
use native.Mathlib.Omega.{arith}
use lib.Dec.{lit<}
use lib.Ieee.{Float, binary32, add, div, lt, eq, le, fits, mul, of_bits, round, sub}
use Rattle.exact.specs.Integers.{Z, ◌⊑◌, ◌⊞◌, ◌⊟◌, ◌⊠◌, ◌·◌, sgn, ι}
use Rattle.exact.specs.Values.{U, mag, val}
use Rattle.coords.specs.declared.Point.{Point}
use Rattle.geometry.specs.Polyline.{cumulative_of, point_at}
use Rattle.geometry.specs.Project.{fraction_along, hit_along, nearer_at, project_segments, project_to}
use Rattle.network.specs.Lanes.{Lane, Span, cut_from, driving, drives_table, span_at, spans_of}
use Rattle.network.specs.Nearest.{projected}
use Rattle.geometry_laws.specs.Range.{InRange, PointIn}
use Rattle.accuracy.specs.Taped.{In, LaneIn, Answered, Place, TapedBy}
use Rattle.accuracy.proofs.Theorem.{taped_distance}

abbrev f : ℕ → Float
f = of_bits binary32

abbrev line : Lane
line = record { row = 0; number = 1; kind = 1; count = 2; points = f 0 ∷ f 0 ∷ f 0 ∷ f 0x41000000 ∷ f 0 ∷ f 0 ∷ [] }

abbrev query : Point
query = record { x = f 0x40400000; y = f 0x40000000; z = f 0 }

zero_in : InRange (f 0)
unfolding fits le lt eq of_bits
zero_in = record { held = tt; low = tt; high = tt }

two_in : InRange (f 0x40000000)
unfolding fits le lt eq of_bits
two_in = record { held = tt; low = tt; high = tt }

three_in : InRange (f 0x40400000)
unfolding fits le lt eq of_bits
three_in = record { held = tt; low = tt; high = tt }

eight_in : InRange (f 0x41000000)
unfolding fits le lt eq of_bits
eight_in = record { held = tt; low = tt; high = tt }

each : (i : ℕ) → i < 2 → PointIn (point_at line.points i)
unfolding point_at
each zero h = record { x = zero_in; y = zero_in; z = zero_in }
each (suc zero) h = record { x = eight_in; y = zero_in; z = zero_in }
each (suc (suc i)) h = absurd (none i h)
  where
    none : (i : ℕ) → suc (suc i) < 2 → ⊥
    none i h = omega arith

lane_in : (l : Lane) → In l (line ∷ []) → LaneIn l
lane_in l (inl e) = subst LaneIn (sym e) (record { two = omega arith; each = each })
lane_in l (inr h) = absurd h

pub example : Answered drives_table (line ∷ []) query
example = taped_distance drives_table (line ∷ []) query lane_in (line, inl refl, tt) (record { x = three_in; y = two_in; z = zero_in })

-- ---- the first span
abbrev away : Lane
away = record
    { row = 0; number = 2; kind = 1; count = 2; points = f 0 ∷ f 0x41000000 ∷ f 0 ∷ f 0x41000000 ∷ f 0x41000000 ∷ f 0 ∷ [] }

abbrev lanes : List Lane
lanes = away ∷ line ∷ []

-- the point of span 0
abbrev first_point : Point → List Span → Point
first_point p [] = p
first_point p (s ∷ ss) = (projected p s).point

-- here (3, 8, 0), 6 m off
abbrev far : Point
far = record { x = f 0x40400000; y = f 0x41000000; z = f 0 }

first_is : first_point query (driving drives_table lanes) ≡ far
unfolding driving spans_of cut_from span_at projected project_segments project_to nearer_at fraction_along hit_along cumulative_of point_at
    add sub mul div lt round of_bits
first_is = refl

-- the other lane is 2 m off, at 3 / 8
abbrev near : Place line
near = record { piece = 0; part = 3; whole = 8; in_lane = omega arith; at_most = omega arith; some = omega arith }

above : (a b : Z) → b.p + a.n < a.p + b.n → a ⊑ b → ⊥
above a b h k = omega arith

not_taped : TapedBy query far line near → ⊥
unfolding U val mag ι ◌⊞◌ ◌⊟◌ ◌⊠◌ ◌·◌ sgn of_bits point_at
not_taped (inl h) = above _ _ (lit< tt) h
not_taped (inr h) = above _ _ (lit< tt) h

pub not_the_first : (a : Answered drives_table lanes query) → a.chosen.proj.point ≡ first_point query (driving drives_table lanes) → ⊥
not_the_first a e =
    not_taped (subst (λ (c : Point). TapedBy query c line near) (e ∙ first_is) (a.taped line (inr (inl refl)) tt near))
