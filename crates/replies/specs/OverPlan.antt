-- Each query of a file is answered over the file's one plan: the law `printed_over`, at the end. By `printed` every reply decodes the file for
-- itself, a beside query's with its own side; number 5 lets a file have the sides 0 and 1 only, and with these it decodes to the same plan.
use Rattle.std.specs.Prelude.{Bool, leb, ltb, length}
use Rattle.std.proofs.Math.Bool.{cond, false, true}
use Rattle.std.proofs.Common.{true≢false, ap, ap₂, subst, sym, ◌∙◌}
use mathlib.Core.List.{List, [], map, ◌++◌, ◌∷◌}
use Rattle.std.proofs.Math.Path.{refl, ◌≡◌}
use Prim.Native.Nat.{suc, zero, ℕ, ◌+◌, ◌≤◌}
use native.Mathlib.Omega.{arith}
use Rattle.std.proofs.Math.Dec.{eqb}
use borrow.Author.Tests.{eqb-true, le-leb, le-ltb, leb-true}
use Rattle.advance.specs.InPlan.{advance_of}
use Rattle.beside.specs.InPlan.{beside_of}
use Rattle.calling.specs.Calling.{point}
use Rattle.fields.specs.Fields.{u16_at, u32_at, u8_at}
use Rattle.lanes_advance.specs.Advance.{position}
use Rattle.lanes_beside.specs.Beside.{centerline}
use Rattle.lanes_route.specs.Route.{route_of}
use Rattle.plan_format.specs.Decodes.{decodes}
use Rattle.plan_format.specs.Laws.{and_both, and_fst, and_snd}
use Rattle.plan_format.specs.Plan.{Decoded, Plan, Starts, Walked, accepted, counts_of, decode, ended, every, fits, in_range, items_at, judged, none}
use Rattle.plan_format.specs.Plan.{record_number, refused, settled, stopped, walk, walked, with_lane, with_link, with_place}
use Rattle.plan_format.specs.Plan.{with_query, with_record, with_section}
use Rattle.plan_format.specs.Records.{advance_at, beside_at, query_at, route_at}
use Rattle.plan_format.specs.Tables.{rows}
use Rattle.plan_format.specs.declared.Query.{Query}
use Rattle.plan_format.specs.declared.Query.TheVariants.{Advance, Beside, Route}
use Rattle.plan_scan.specs.Scan.{Passes, passed}
use Rattle.text.specs.Lines.{plan_line}
use Rattle.replies.specs.Printed.{advance_text_of, beside_text_of, chain_list, metre_list, printed, printed_by, replies_to, reply_to, route_text_of}
use Rattle.replies.specs.Printed.{row_list, waypoint_list}

-- the reply to a query, over the plan p
unfoldable pub reply_over : Plan → Query → List ℕ
reply_over p (Route x y z u v w) = route_text_of (route_of (accepted p) (point x y z) (point u v w) chain_list waypoint_list)
reply_over p (Advance lane s offset distance) = advance_text_of (advance_of (accepted p) (position lane s offset) distance row_list metre_list)
reply_over p (Beside lane s side) = beside_text_of (beside_of (accepted p) (centerline lane s) side)

-- ---- with a side of 0 or 1 a file decodes as it does with 0, and the reply is the one over its plan

-- the side that a query decodes with
side_of : Query → ℕ
side_of (Route x y z u v w) = 0
side_of (Advance lane s offset distance) = 0
side_of (Beside lane s side) = side

settled_sided : (side : ℕ) (s : List ℕ) → side ≤ 1 → (w : Walked) → settled side s w ≡ settled 0 s w
unfolding settled judged
settled_sided side s h (stopped n) = refl
settled_sided side s h (ended a) = rw (le-ltb 1 side h)

decode_sided : (side : ℕ) (s : List ℕ) → side ≤ 1 → decode side s ≡ decode 0 s
unfolding decode
decode_sided side s h = ap (λ (d : Decoded). cond (ltb 65536 (length s)) (refused 2) d) (settled_sided side s h (walked s))

module _ (f : List ℕ) (p : Plan) (e : decode 0 f ≡ accepted p) where
  reply_over_law : (q : Query) → side_of q ≤ 1 → reply_to f q ≡ reply_over p q
  unfolding reply_to reply_over side_of
  reply_over_law (Route x y z u v w) h = rw e
  reply_over_law (Advance lane s offset distance) h = rw e
  reply_over_law (Beside lane s side) h = rw (decode_sided side f h ∙ e)

-- ---- a walk that ends has met sides of 0 and 1 only

abbrev small : Query → Bool
small q = leb (side_of q) 1

module _ (s : List ℕ) where
  -- one query, by its fit and its range
  query_side : (at kind size : ℕ) → fits s at kind size ≡ true → in_range s at kind ≡ true → eqb kind 1 ≡ false → eqb kind 2 ≡ false
      → eqb kind 3 ≡ false → eqb kind 4 ≡ false
      → side_of (cond (eqb kind 16) (route_at s at) (cond (eqb kind 17) (advance_at s at) (beside_at s at))) ≤ 1
  unfolding fits in_range side_of
  query_side at kind size f r e₁ e₂ e₃ e₄ =
      go (eqb kind 16) (eqb kind 17) (eqb kind 18) (simp (e₁, e₂, e₃, e₄) at f) (simp (e₁, e₂, e₃) at r)
    where
      go : (a b c : Bool) → cond a (eqb size 24) (cond b (eqb size 26) (cond c (eqb size 11) false)) ≡ true
          → cond c (leb (u8_at s (at + 16)) 1) true ≡ true
          → side_of (cond a (route_at s at) (cond b (advance_at s at) (beside_at s at))) ≤ 1
      go true b c f r = omega arith
      go false true c f r = omega arith
      go false false true f r = leb-true (u8_at s (at + 16)) 1 r
      go false false false f r = absurd (true≢false (sym f))

  -- one query more
  every_last : (xs : List ℕ) (x : ℕ) → every small (map (query_at s) xs) ≡ true → small (query_at s x) ≡ true
      → every small (map (query_at s) (xs ++ (x ∷ []))) ≡ true
  unfolding every
  every_last [] x e h = and_both (small (query_at s x)) true h refl
  every_last (y ∷ ys) x e h =
      and_both (small (query_at s y)) (every small (map (query_at s) (ys ++ (x ∷ [])))) (and_fst (small (query_at s y)) _ e)
      (every_last ys x (and_snd (small (query_at s y)) _ e) h)

  -- the queries met so far
  abbrev Sided : Starts → Type 0
  Sided a = every small (map (query_at s) a.queries) ≡ true

  -- one record more, which has passed
  sided_one : (at n : ℕ) (a : Starts) → Passes s (u16_at s (at + 4)) at → Sided a → Sided (with_record at (u16_at s (at + 4)) n a)
  unfolding with_record query_at
  sided_one at n a o S =
      go (eqb (u16_at s (at + 4)) 1) (eqb (u16_at s (at + 4)) 2) (eqb (u16_at s (at + 4)) 3) (eqb (u16_at s (at + 4)) 4) refl refl refl refl
    where
      go : (b₁ b₂ b₃ b₄ : Bool) → eqb (u16_at s (at + 4)) 1 ≡ b₁ → eqb (u16_at s (at + 4)) 2 ≡ b₂ → eqb (u16_at s (at + 4)) 3 ≡ b₃
          → eqb (u16_at s (at + 4)) 4 ≡ b₄
          → Sided (cond b₁ (with_lane at n a) (cond b₂ (with_link at a) (cond b₃ (with_section at n a)
          (cond b₄ (with_place at a) (with_query at a)))))
      go true b₂ b₃ b₄ e₁ e₂ e₃ e₄ = S
      go false true b₃ b₄ e₁ e₂ e₃ e₄ = S
      go false false true b₄ e₁ e₂ e₃ e₄ = S
      go false false false true e₁ e₂ e₃ e₄ = S
      go false false false false e₁ e₂ e₃ e₄ =
          every_last a.queries at S
          (le-leb (side_of (query_at s at)) 1 (query_side at (u16_at s (at + 4)) (u32_at s at) o.fit o.range e₁ e₂ e₃ e₄))

  -- the walk, record by record
  sided_end : (a b : Starts) → ended a ≡ ended b → Sided a → Sided b
  sided_end a b e S = let same : a ≡ b = cc in subst Sided same S

  sided_step : (k at : ℕ) (a b : Starts)
      → ((at : ℕ) (a : Starts) → Sided a → walk k (ltb at (length s)) s at a ≡ ended b → Sided b)
      → (m z : Bool) → eqb (record_number s at (counts_of a)) 0 ≡ z → Sided a → walk (suc k) m s at a ≡ ended b → Sided b
  unfolding walk
  sided_step k at a b go false z f S p = sided_end a b p S
  sided_step k at a b go true true f S p =
      let v = eqb-true (record_number s at (counts_of a)) 0 f in
      let P = passed s at (counts_of a) v in
      go (at + 6 + u32_at s at) (with_record at (u16_at s (at + 4)) (items_at s at (u16_at s (at + 4))) a)
      (sided_one at (items_at s at (u16_at s (at + 4))) a P.ok S) (simp f at p)
  sided_step k at a b go true false f S p =
      let q : stopped (record_number s at (counts_of a)) ≡ ended b = simp f at p in
      let z : ◌≡◌ {A = ℕ} 0 1 = cc in
      absurd (omega arith)

  sided : (k at : ℕ) (a b : Starts) → Sided a → walk k (ltb at (length s)) s at a ≡ ended b → Sided b
  unfolding walk
  sided zero at a b S p = sided_end a b p S
  sided (suc k) at a b S p =
      sided_step k at a b (λ x c. sided k x c b) (ltb at (length s)) (eqb (record_number s at (counts_of a)) 0) refl S p

  walked_sided : (b : Starts) → walked s ≡ ended b → Sided b
  unfolding walked every
  walked_sided b e = sided (length s) 0 none b refl e

-- ---- the queries of a plan

queries_sided : (f : List ℕ) (p : Plan) → decode 0 f ≡ accepted p → every small p.queries ≡ true
queries_sided f p e =
    let D = decodes 0 f p e in
    subst (λ (x : Plan). every small x.queries ≡ true) D.plan (walked_sided f D.starts D.is)

replies_over : (f : List ℕ) (p : Plan) → decode 0 f ≡ accepted p → (qs : List Query) → every small qs ≡ true
    → replies_to f qs ≡ rows (reply_over p) qs
unfolding every replies_to rows
replies_over f p e [] h = refl
replies_over f p e (q ∷ qs) h =
    ap₂ (λ (l m : List ℕ). l ++ m) (reply_over_law f p e q (leb-true (side_of q) 1 (and_fst (small q) (every small qs) h)))
    (replies_over f p e qs (and_snd (small q) (every small qs) h))

-- ---- THE LAW: a file that is the plan p prints its plan line, then the reply over p to each of its queries

pub printed_over : (f : List ℕ) (p : Plan) → decode 0 f ≡ accepted p
    → printed f ≡ plan_line 0 (length p.lanes) (length p.links) ++ rows (reply_over p) p.queries
unfolding printed_by
printed_over f p e =
    ap (printed_by f) e
    ∙ ap (λ (l : List ℕ). plan_line 0 (length p.lanes) (length p.links) ++ l) (replies_over f p e p.queries (queries_sided f p e))
