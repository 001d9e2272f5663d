-- Asking for the next query again and again gives the queries of an accepted plan, in file order, then the end.
use Rattle.std.specs.Prelude.{Bool, Some, None, cond, ◌||◌, List, [], map, ◌++◌, ◌∷◌, ◌≡◌, eqb, leb, ltb, length}
use Rattle.std.proofs.Math.Bool.{false, true}
use Rattle.std.proofs.Common.{append_assoc, append-nil, ap, subst, sym, ◌∙◌, arith}
use Rattle.std.proofs.Math.Path.{refl}
use Prim.Native.Nat.{suc, zero, ℕ, ◌+◌, ◌≤◌}
use borrow.Author.Tests.{eqb-true, le-leb, lt-leb, ltb-false}
use Rattle.fields.specs.Fields.{u16_at, u32_at}
use Rattle.plan_format.specs.Decodes.{decodes}
use Rattle.plan_format.specs.Laws.{and_both, and_left}
use Rattle.plan_format.specs.Plan.{Plan, Starts, accepted, counts_of, decode, ended, fits, items_at, none, record_number, stopped}
use Rattle.plan_format.specs.Plan.{walk, walked, with_lane, with_link, with_place, with_query, with_record, with_section}
use Rattle.plan_format.specs.Queries.{first_query, is_query, next_query, whole}
use Rattle.plan_format.specs.Records.{query_at}
use Rattle.plan_format.specs.declared.Query.{Query}
use Rattle.plan_queries.specs.Seeking.{seek_end, seek_found, seek_next, seek_start, whole_room}
use Rattle.plan_scan.specs.Scan.{Passes, passed}

pub data Follows (s : List ℕ) : ℕ → List Query → Type 0 where
  done : (at : ℕ) → next_query s at ≡ None → Follows s at []
  then : (at next : ℕ) (q : Query) (qs : List Query) → next_query s at ≡ Some (q, next) → Follows s next qs → Follows s at (q ∷ qs)

-- from a place with the same next query
same_follows : (s : List ℕ) (at next : ℕ) (qs : List Query) → next_query s at ≡ next_query s next → Follows s next qs → Follows s at qs
same_follows s at next [] e (done m f) = done at (e ∙ f)
same_follows s at next (q ∷ qs) e (then m n r rs f F) = then at n q qs (e ∙ f) F

-- a walk among more records than there are finds the same
fuel_step : (k m : ℕ) (s : List ℕ) (at : ℕ) → whole s at ≡ true
    → first_query k (whole s (at + 6 + u32_at s at)) s (at + 6 + u32_at s at)
    ≡ first_query m (whole s (at + 6 + u32_at s at)) s (at + 6 + u32_at s at)
    → first_query (suc k) (whole s at) s at ≡ first_query (suc m) (whole s at) s at
unfolding first_query
fuel_step k m s at w e = rw (w, e)

fuel_none : (k : ℕ) (s : List ℕ) (at : ℕ) → whole s at ≡ false → first_query k (whole s at) s at ≡ None
unfolding first_query
fuel_none zero s at e = refl
fuel_none (suc k) s at e = rw e

no_room : (s : List ℕ) (at : ℕ) → length s ≤ at → whole s at ≡ false
unfolding whole
no_room s at h = and_left _ (leb (at + 6 + u32_at s at) (length s)) (lt-leb (at + 6) (length s) (omega arith))

fuel_any : (k m : ℕ) (s : List ℕ) (at : ℕ) → length s ≤ at + k → length s ≤ at + m
    → first_query k (whole s at) s at ≡ first_query m (whole s at) s at
fuel_any zero m s at h l = fuel_none zero s at (no_room s at (omega arith)) ∙ sym (fuel_none m s at (no_room s at (omega arith)))
fuel_any (suc k) m s at h l = go (whole s at) refl m l (λ j p q. fuel_any k j s (at + 6 + u32_at s at) p q)
  where
    go : (b : Bool) → whole s at ≡ b → (m : ℕ) → length s ≤ at + m
        → ((j : ℕ) → length s ≤ at + 6 + u32_at s at + k → length s ≤ at + 6 + u32_at s at + j
        → first_query k (whole s (at + 6 + u32_at s at)) s (at + 6 + u32_at s at)
        ≡ first_query j (whole s (at + 6 + u32_at s at)) s (at + 6 + u32_at s at))
        → first_query (suc k) (whole s at) s at ≡ first_query m (whole s at) s at
    go false e m l r = fuel_none (suc k) s at e ∙ sym (fuel_none m s at e)
    go true e zero l r = let z = whole_room s at e in absurd (omega arith)
    go true e (suc j) l r = fuel_step k j s at e (r j (omega arith) (omega arith))

-- a record that is no query is passed over
pub skip_query : (s : List ℕ) (at : ℕ) → whole s at ≡ true → is_query (u16_at s (at + 4)) ≡ false
    → next_query s at ≡ next_query s (at + 6 + u32_at s at)
unfolding next_query
skip_query s at w e =
    let S = seek_next s at at (seek_start s at) w (u16_at s (at + 4)) (u32_at s at) refl refl e in
    sym S.same ∙ fuel_any S.fuel (length s) s (at + 6 + u32_at s at) S.enough (omega arith)

-- kinds 1 to 4 are no queries; what fits and is none of them is one
other_kind : (s : List ℕ) (at kind size : ℕ) → fits s at kind size ≡ true → eqb kind 1 ≡ false → eqb kind 2 ≡ false → eqb kind 3 ≡ false
    → eqb kind 4 ≡ false
    → is_query kind ≡ true
unfolding fits
other_kind s at kind size f e₁ e₂ e₃ e₄ = go (eqb kind 16) (eqb kind 17) (eqb kind 18) (simp (e₁, e₂, e₃, e₄) at f)
  where
    go : (a b c : Bool) → cond a (eqb size 24) (cond b (eqb size 26) (cond c (eqb size 11) false)) ≡ true → (a || (b || c)) ≡ true
    go true b c h = refl
    go false true c h = refl
    go false false true h = refl
    go false false false h = h

room_whole : (s : List ℕ) (at : ℕ) → at + 6 + u32_at s at ≤ length s → whole s at ≡ true
unfolding whole
room_whole s at h = and_both _ _ (le-leb (at + 6) (length s) (omega arith)) (le-leb (at + 6 + u32_at s at) (length s) h)

never : (n : ℕ) (b : Starts) → stopped n ≡ ended b → ⊥
never n b e = let z : ◌≡◌ {A = ℕ} 0 1 = cc in omega arith

-- what is left of a walk that ends: its queries, one after the other
record Rest (s : List ℕ) (at : ℕ) (a b : Starts) : Type 0 where
  starts : List ℕ
  all : b.queries ≡ a.queries ++ starts
  follows : Follows s at (map (query_at s) starts)

module _ (s : List ℕ) (b : Starts) where
  rest_end : (at : ℕ) (a : Starts) → length s ≤ at → ended a ≡ ended b → Rest s at a b
  rest_end at a h e =
      let same : a ≡ b = cc in
      record {
        starts = [];
        all = ap (λ (x : Starts). x.queries) (sym same) ∙ sym (append-nil a.queries);
        follows = done at (sym (seek_end s at at (seek_start s at) (no_room s at h)));
      }

  rest_one : (at : ℕ) (a : Starts) → Passes s (u16_at s (at + 4)) at
      → Rest s (at + 6 + u32_at s at) (with_record at (u16_at s (at + 4)) (items_at s at (u16_at s (at + 4))) a) b → Rest s at a b
  unfolding with_record
  rest_one at a o R =
      go (eqb (u16_at s (at + 4)) 1) (eqb (u16_at s (at + 4)) 2) (eqb (u16_at s (at + 4)) 3) (eqb (u16_at s (at + 4)) 4) refl refl
      refl refl R.all
    where
      w : whole s at ≡ true
      w = room_whole s at o.room

      skipped : is_query (u16_at s (at + 4)) ≡ false → b.queries ≡ a.queries ++ R.starts → Rest s at a b
      skipped e q =
          record {
            starts = R.starts;
            all = q;
            follows = same_follows s at (at + 6 + u32_at s at) (map (query_at s) R.starts) (skip_query s at w e) R.follows;
          }

      go : (b₁ b₂ b₃ b₄ : Bool) → eqb (u16_at s (at + 4)) 1 ≡ b₁ → eqb (u16_at s (at + 4)) 2 ≡ b₂ → eqb (u16_at s (at + 4)) 3 ≡ b₃
          → eqb (u16_at s (at + 4)) 4 ≡ b₄
          → b.queries
          ≡ (cond b₁ (with_lane at (items_at s at (u16_at s (at + 4))) a)
          (cond b₂ (with_link at a)
          (cond b₃ (with_section at (items_at s at (u16_at s (at + 4))) a) (cond b₄ (with_place at a) (with_query at a))))
          ).queries ++ R.starts
          → Rest s at a b
      go true b₂ b₃ b₄ e₁ e₂ e₃ e₄ q = skipped (ap is_query (eqb-true (u16_at s (at + 4)) 1 e₁)) q
      go false true b₃ b₄ e₁ e₂ e₃ e₄ q = skipped (ap is_query (eqb-true (u16_at s (at + 4)) 2 e₂)) q
      go false false true b₄ e₁ e₂ e₃ e₄ q = skipped (ap is_query (eqb-true (u16_at s (at + 4)) 3 e₃)) q
      go false false false true e₁ e₂ e₃ e₄ q = skipped (ap is_query (eqb-true (u16_at s (at + 4)) 4 e₄)) q
      go false false false false e₁ e₂ e₃ e₄ q =
          let query = other_kind s at (u16_at s (at + 4)) (u32_at s at) o.fit e₁ e₂ e₃ e₄ in
          record {
            starts = at ∷ R.starts;
            all = q ∙ append_assoc a.queries (at ∷ []) R.starts;
            follows =
                then at (at + 6 + u32_at s at) (query_at s at) (map (query_at s) R.starts)
                (sym
                (seek_found s at at (seek_start s at) w (u16_at s (at + 4)) (u32_at s at) refl refl query o.fit (query_at s at)
                refl))
                R.follows;
          }

  rest_step : (k at : ℕ) (a : Starts)
      → ((at : ℕ) (a : Starts) → length s ≤ at + k → walk k (ltb at (length s)) s at a ≡ ended b → Rest s at a b)
      → length s ≤ at + suc k → (m z : Bool) → ltb at (length s) ≡ m → eqb (record_number s at (counts_of a)) 0 ≡ z
      → walk (suc k) m s at a ≡ ended b → Rest s at a b
  unfolding walk
  rest_step k at a go h false z e f p = rest_end at a (ltb-false at (length s) e) p
  rest_step k at a go h true true e f p =
      let v = eqb-true (record_number s at (counts_of a)) 0 f in
      let P = passed s at (counts_of a) v in
      rest_one at a P.ok
      (go (at + 6 + u32_at s at) (with_record at (u16_at s (at + 4)) (items_at s at (u16_at s (at + 4))) a) (omega arith)
      (simp f at p))
  rest_step k at a go h true false e f p = absurd (never (record_number s at (counts_of a)) b (simp f at p))

  rest : (k at : ℕ) (a : Starts) → length s ≤ at + k → walk k (ltb at (length s)) s at a ≡ ended b → Rest s at a b
  unfolding walk
  rest zero at a h p = rest_end at a (omega arith) p
  rest (suc k) at a h p = rest_step k at a (rest k) h (ltb at (length s)) (eqb (record_number s at (counts_of a)) 0) refl refl p

-- THE LAW
ended_follow : (s : List ℕ) (a : Starts) → walked s ≡ ended a → Follows s 0 (map (query_at s) a.queries)
unfolding walked
ended_follow s a e =
    let R = rest s a (length s) 0 none (omega arith) e in
    rw R.all R.follows

pub queries_follow : (side : ℕ) (s : List ℕ) (p : Plan) → decode side s ≡ accepted p → Follows s 0 p.queries
queries_follow side s p e =
    let D = decodes side s p e in
    subst (λ (x : Plan). Follows s 0 x.queries) D.plan (ended_follow s D.starts D.is)
