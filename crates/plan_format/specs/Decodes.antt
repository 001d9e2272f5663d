-- What an accepted file is: its walk ended, its plan is that of the starts, and neither 7 nor 8 applies. The walk ends at the file's end.
use Rattle.std.specs.Prelude.{Bool, cond, false, true, List, refl, ◌≡◌, suc, zero, ℕ, ◌+◌, ◌≤◌, eqb, ltb, length}
use Rattle.std.proofs.Common.{ap, arith, le-ltb}
use Rattle.fields.specs.Fields.{u16_at, u32_at}
use Rattle.plan_format.specs.Plan.{Plan, Starts, Walked, accepted, counts_of, decode, ended, items_at, judged, lacks, none, plan_of}
use Rattle.plan_format.specs.Plan.{record_number, refused, settled, stopped, twice, walk, walked, with_record}

pub record Decodes (s : List ℕ) (p : Plan) : Type 0 where
  pub starts : Starts
  pub is : walked s ≡ ended starts
  pub plan : plan_of s starts ≡ p
  pub once : twice (plan_of s starts) ≡ false
  pub full : lacks (plan_of s starts) ≡ false

never : (n : ℕ) (p : Plan) → refused n ≡ accepted p → ⊥
never n p e = let z : ◌≡◌ {A = ℕ} 0 1 = cc in omega arith

pub decodes : (side : ℕ) (s : List ℕ) (p : Plan) → decode side s ≡ accepted p → Decodes s p
unfolding decode settled judged
decodes side s p e = size (ltb 65536 (length s)) (walked s) refl e
  where
    free : (a : Starts) → walked s ≡ ended a → (b c d : Bool) → twice (plan_of s a) ≡ c → lacks (plan_of s a) ≡ d
        → cond b (refused 5) (cond c (refused 7) (cond d (refused 8) (accepted (plan_of s a)))) ≡ accepted p → Decodes s p
    free a is true c d ec ed e = absurd (never 5 p e)
    free a is false true d ec ed e = absurd (never 7 p e)
    free a is false false true ec ed e = absurd (never 8 p e)
    free a is false false false ec ed e = let same : plan_of s a ≡ p = cc in record { starts = a; is = is; plan = same; once = ec; full = ed }

    size : (b : Bool) (w : Walked) → walked s ≡ w → cond b (refused 2) (settled side s w) ≡ accepted p → Decodes s p
    size true w is e = absurd (never 2 p e)
    size false (stopped n) is e = absurd (never n p e)
    size false (ended a) is e = free a is (ltb 1 side) (twice (plan_of s a)) (lacks (plan_of s a)) refl refl e

-- THE WALK ends at the file's end: its count of records, the file's bytes, never runs out before it, so any greater count gives the same
walk_none : (k : ℕ) (s : List ℕ) (at : ℕ) (a : Starts) → walk k false s at a ≡ ended a
unfolding walk
walk_none zero s at a = refl
walk_none (suc k) s at a = refl

pub walk_any : (k n : ℕ) (s : List ℕ) (at : ℕ) (a : Starts) → length s ≤ at + k → length s ≤ at + n
    → walk k (ltb at (length s)) s at a ≡ walk n (ltb at (length s)) s at a
unfolding walk
walk_any zero n s at a h g = let e = le-ltb at (length s) (omega arith) in rw (e, walk_none n s at a, walk_none 0 s at a)
walk_any (suc k) zero s at a h g = let e = le-ltb at (length s) (omega arith) in rw (e, walk_none (suc k) s at a, walk_none 0 s at a)
walk_any (suc k) (suc n) s at a h g =
    by (ltb at (length s))
    (walk_any k n s (at + 6 + u32_at s at) (with_record at (u16_at s (at + 4)) (items_at s at (u16_at s (at + 4))) a) (omega arith) (omega arith))
  where
    next : ℕ
    next = at + 6 + u32_at s at

    after : Starts
    after = with_record at (u16_at s (at + 4)) (items_at s at (u16_at s (at + 4))) a

    by : (b : Bool) → walk k (ltb next (length s)) s next after ≡ walk n (ltb next (length s)) s next after
        → walk (suc k) b s at a ≡ walk (suc n) b s at a
    by false same = refl
    by true same =
        ap (λ (w : Walked). cond (eqb (record_number s at (counts_of a)) 0) w (stopped (record_number s at (counts_of a)))) same

pub walked_any : (n : ℕ) (s : List ℕ) → length s ≤ n → walk n (ltb 0 (length s)) s 0 none ≡ walked s
unfolding walked
walked_any n s h = walk_any n (length s) s 0 none (omega arith) (omega arith)
