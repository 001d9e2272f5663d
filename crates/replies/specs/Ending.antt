-- Each piece begins farther on in the file, so that they end: for a loop that writes them.
use Rattle.std.specs.Prelude.{Bool, IfSome, List, None, Option, Some}
use Rattle.std.proofs.Math.Bool.{cond, false, true}
use Rattle.std.proofs.Math.Path.{refl, ◌≡◌}
use Rattle.std.proofs.Common.{ap, subst, sym}
use Prim.Native.Nat.{suc, zero, ℕ, ◌+◌, ◌-◌, ◌<◌, ◌≤◌}
use native.Mathlib.Omega.{arith}
use Rattle.std.proofs.Math.ListN.{length}
use Rattle.fields.specs.Fields.{u16_at, u32_at}
use Rattle.plan_format.specs.Plan.{Decoded, accepted, decode, fits, refused}
use Rattle.plan_format.specs.Queries.{first_query, is_query, next_query, whole}
use Rattle.plan_format.specs.Records.{query_at}
use Rattle.plan_format.specs.declared.Query.{Query}
use Rattle.plan_queries.specs.Seeking.{whole_room}
use Rattle.arrayvec.specs.ArrayVec.{ArrayVec}
use Rattle.replies.specs.Printed.{Writes, after, first_by, first_part, next_by, next_part}

found_same : (x y : Query × ℕ) → Some x ≡ Some y → x ≡ y
found_same x y e = cc

module _ (s : List ℕ) (q : Query) (next : ℕ) where
  -- a query found stands from `at` on, whole, in the file
  first_past : (k at : ℕ) (b : Bool) → whole s at ≡ b → first_query k b s at ≡ Some (q, next) → (at < next) × (next ≤ length s)
  unfolding first_query
  first_past zero at b w e = let z : ◌≡◌ {A = ℕ} 0 1 = cc in absurd (omega arith)
  first_past (suc k) at false w e = let z : ◌≡◌ {A = ℕ} 0 1 = cc in absurd (omega arith)
  first_past (suc k) at true w e =
      go (is_query (u16_at s (at + 4))) (fits s at (u16_at s (at + 4)) (u32_at s at)) e
      (first_past k (at + 6 + u32_at s at) (whole s (at + 6 + u32_at s at)) refl)
    where
      go : (a c : Bool)
          → cond a (cond c (Some (query_at s at, at + 6 + u32_at s at)) None)
          (first_query k (whole s (at + 6 + u32_at s at)) s (at + 6 + u32_at s at)) ≡ Some (q, next)
          → (first_query k (whole s (at + 6 + u32_at s at)) s (at + 6 + u32_at s at) ≡ Some (q, next)
          → (at + 6 + u32_at s at < next) × (next ≤ length s))
          → (at < next) × (next ≤ length s)
      go true true f rest =
          let n : at + 6 + u32_at s at ≡ next = ap (λ (x : Query × ℕ). x.1) (found_same _ _ f) in
          let r = whole_room s at w in omega arith
      go true false f rest = let z : ◌≡◌ {A = ℕ} 0 1 = cc in absurd (omega arith)
      go false c f rest = let r = rest f in omega arith

  next_past : (at : ℕ) → next_query s at ≡ Some (q, next) → (at < next) × (next ≤ length s)
  unfolding next_query
  next_past at e = first_past (length s) at (whole s at) refl e

-- how much may be left after a piece of a file of n bytes
abbrev pub left : ℕ → Bool → ℕ → ℕ
left n more next = cond more 1 0 + (n - next)

next_left : (f : List ℕ) (at : ℕ) → at ≤ length f
    → ((next_part f at).next ≤ length f) × (left (length f) (next_part f at).more (next_part f at).next < left (length f) true at)
unfolding next_by
next_left f at h = by (next_query f at) refl
  where
    by : (n : Option (Query × ℕ)) → next_query f at ≡ n
        → ((next_by f at n).next ≤ length f) × (left (length f) (next_by f at n).more (next_by f at n).next < left (length f) true at)
    by (Some (q, next)) e = let r = next_past f q next at e in omega arith
    by None e = omega arith

-- ---- what a loop over the pieces finds

-- how much may be left of a file of n bytes where the pieces follow from `next` on
abbrev pub to_come : ℕ → Option ℕ → ℕ
to_come n None = 0
to_come n (Some at) = left n true at

-- these begin in the file
abbrev pub Begins : ℕ → Option ℕ → Type 0
Begins n next = IfSome next (λ at. at ≤ n)

-- the first begin in the file
pub first_start : (f : List ℕ) {next : Option ℕ} {page : ArrayVec ℕ} → Writes (first_part f) next page → Begins (length f) next
unfolding first_by
first_start f {next} W = subst (Begins (length f)) (sym W.goes_on) (by (decode 0 f))
  where
    by : (d : Decoded) → Begins (length f) (after (first_by d))
    by (refused n) = tt
    by (accepted p) = omega arith

by_option : (n at : ℕ) (more : Bool) (next : ℕ) → next ≤ n → left n more next < left n true at
    → Begins n (cond more (Some next) None) × (to_come n (cond more (Some next) None) < left n true at)
by_option n at true next h l = (h, l)
by_option n at false next h l = (tt, omega arith)

-- after each less is left
pub next_less : (f : List ℕ) (at : ℕ) {next : Option ℕ} {page : ArrayVec ℕ} → Writes (next_part f at) next page → at ≤ length f
    → Begins (length f) next × (to_come (length f) next < left (length f) true at)
next_less f at {next} W h =
    let L = next_left f at h in
    let x = next_part f at in
    subst (λ (r : Option ℕ). Begins (length f) r × (to_come (length f) r < left (length f) true at)) (sym W.goes_on)
    (by_option (length f) at x.more x.next L.0 L.1)
