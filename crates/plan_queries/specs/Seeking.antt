-- The walk to the next query, as a loop: what is left of it gives what the whole gives.
use Rattle.std.specs.Prelude.{Bool, Some, None, cond, false, true, List, refl, ◌≡◌, suc, zero, ℕ, ◌+◌, ◌-◌, ◌≤◌, leb, length}
use Rattle.std.proofs.Common.{arith, leb-true}
use Rattle.fields.specs.Fields.{u16_at, u32_at}
use Rattle.plan_format.specs.Laws.{and_snd}
use Rattle.plan_format.specs.Plan.{fits}
use Rattle.plan_format.specs.Queries.{first_query, is_query, next_query, whole}
use Rattle.plan_format.specs.Records.{query_at}
use Rattle.plan_format.specs.declared.Query.{Query}

pub whole_room : (s : List ℕ) (at : ℕ) → whole s at ≡ true → at + 6 + u32_at s at ≤ length s
unfolding whole
whole_room s at e = leb-true (at + 6 + u32_at s at) (length s) (and_snd (leb (at + 6) (length s)) _ e)

pub record Seeking (s : List ℕ) (first at : ℕ) : Type 0 where
  pub fuel : ℕ
  pub enough : length s ≤ at + fuel
  pub same : first_query fuel (whole s at) s at ≡ next_query s first

pub seek_start : (s : List ℕ) (first : ℕ) → Seeking s first first
unfolding next_query
seek_start s first = record { fuel = length s; enough = omega arith; same = refl }

first_zero : (b : Bool) (s : List ℕ) (at : ℕ) → first_query zero b s at ≡ None
unfolding first_query
first_zero b s at = refl

first_end : (k : ℕ) (s : List ℕ) (at : ℕ) → first_query (suc k) false s at ≡ None
unfolding first_query
first_end k s at = refl

first_step : (k : ℕ) (s : List ℕ) (at : ℕ)
    → first_query (suc k) true s at
    ≡ cond (is_query (u16_at s (at + 4)))
    (cond (fits s at (u16_at s (at + 4)) (u32_at s at)) (Some (query_at s at, at + 6 + u32_at s at)) None)
    (first_query k (whole s (at + 6 + u32_at s at)) s (at + 6 + u32_at s at))
unfolding first_query
first_step k s at = refl

module _ (s : List ℕ) (first at : ℕ) (S : Seeking s first at) where
  end_by : (k : ℕ) → whole s at ≡ false → first_query k (whole s at) s at ≡ next_query s first → None ≡ next_query s first
  end_by zero e p = simp first_zero at p
  end_by (suc k) e p = simp (e, first_end) at p

  pub seek_end : whole s at ≡ false → None ≡ next_query s first
  seek_end e = end_by S.fuel e S.same

  module _ (w : whole s at ≡ true) (kind size : ℕ) (ek : kind ≡ u16_at s (at + 4)) (es : size ≡ u32_at s at) where
    step_by : (k : ℕ) → length s ≤ at + k → first_query k (whole s at) s at ≡ next_query s first
        → cond (is_query kind) (cond (fits s at kind size) (Some (query_at s at, at + 6 + size)) None)
        (first_query (k - 1) (whole s (at + 6 + size)) s (at + 6 + size)) ≡ next_query s first
    step_by zero l p = let r = whole_room s at w in absurd (omega arith)
    step_by (suc k) l p = let z : suc k - 1 ≡ k = omega arith in rw (z, ek, es) (simp (w, first_step) at p)

    step : cond (is_query kind) (cond (fits s at kind size) (Some (query_at s at, at + 6 + size)) None)
        (first_query (S.fuel - 1) (whole s (at + 6 + size)) s (at + 6 + size)) ≡ next_query s first
    step = step_by S.fuel S.enough S.same

    pub seek_found : is_query kind ≡ true → fits s at kind size ≡ true → (q : Query) → q ≡ query_at s at
        → Some (q, at + 6 + size) ≡ next_query s first
    seek_found e f q eq = rw eq (rw (e, f) at step)

    pub seek_misfit : is_query kind ≡ true → fits s at kind size ≡ false → None ≡ next_query s first
    seek_misfit e f = rw (e, f) at step

    pub seek_next : is_query kind ≡ false → Seeking s first (at + 6 + size)
    seek_next e = record { fuel = S.fuel - 1; enough = omega (arith, S.enough); same = rw e at step }
