-- Every link record of an accepted plan stands in the table of links: the links of the lanes are as many as the plan's.
use Rattle.std.specs.Prelude.{Bool, ◌&&◌, ◌≡◌, get_or, length}
use Rattle.std.proofs.Math.Bool.{cond, false, true}
use mathlib.Core.List.{List, [], map, ◌∷◌}
use Rattle.std.proofs.Common.{ap, sym, ◌∙◌, le_of_suc-le-suc, not-suc-le-zero, eq-eqb, eqb-true}
use Rattle.std.proofs.Math.Path.{refl}
use Prim.Native.Nat.{suc, zero, ℕ, ◌*◌, ◌+◌, ◌<◌, ◌≤◌}
use native.Mathlib.Omega.{arith}
use Rattle.std.proofs.Math.Dec.{eqb}
use Rattle.std.proofs.lemmas.List.{length-map}
use Rattle.plan_format.specs.Lookup.{distinct, index_get}
use Rattle.plan_format.specs.Plan.{Plan, index_of, number_of, repeats}
use Rattle.plan_format.specs.Reading.{sum}
use Rattle.plan_format.specs.Records.{Link}
use Rattle.plan_format.specs.Tables.{link_count, linked, plan_rows}
use Rattle.plan.specs.Accepted.{Accepted}
use Rattle.plan.specs.Rows.{links_size}

-- 1 for the number f, 0 for another
unfoldable mark : ℕ → ℕ → ℕ
mark f n = cond (eqb f n) 1 0

-- a list without f has no mark, one that has it in one place has one
module _ (f : ℕ) where
  marks_none : (ns : List ℕ) → ((j : ℕ) → j < length ns → get_or ns j 0 ≡ f → ⊥) → sum (map (mark f) ns) ≡ 0
  unfolding sum mark
  marks_none [] h = refl
  marks_none (n ∷ ns) h = go (eqb f n) refl (marks_none ns (λ j l. h (suc j) (omega arith)))
    where
      go : (b : Bool) → eqb f n ≡ b → sum (map (mark f) ns) ≡ 0 → cond b 1 0 + sum (map (mark f) ns) ≡ 0
      go true e r = absurd (h 0 (omega arith) (sym (eqb-true f n e)))
      go false e r = omega arith

  marks_one : (ns : List ℕ) (k : ℕ) → k < length ns → get_or ns k 0 ≡ f → ((j : ℕ) → j < length ns → get_or ns j 0 ≡ f → j ≡ k)
      → sum (map (mark f) ns) ≡ 1
  unfolding sum mark
  marks_one [] k l e h = absurd (not-suc-le-zero l)
  marks_one (n ∷ ns) zero l e h =
      let r = marks_none ns (λ j m q. let z = h (suc j) (omega arith) q in absurd (omega arith)) in
      rw (eq-eqb f n (sym e), r)
  marks_one (n ∷ ns) (suc k) l e h =
      go (eqb f n) refl
      (marks_one ns k (le_of_suc-le-suc l) e (λ j m q. let z = h (suc j) (omega arith) q in omega arith))
    where
      go : (b : Bool) → eqb f n ≡ b → sum (map (mark f) ns) ≡ 1 → cond b 1 0 + sum (map (mark f) ns) ≡ 1
      go true q r = let z = h 0 (omega arith) (sym (eqb-true f n q)) in absurd (omega arith)
      go false q r = omega arith

-- one more link counts once, for the lane that it leaves
count_next : (x : Link) (xs : List Link) (n : ℕ) → x.role ≤ 2 → link_count (x ∷ xs) n ≡ mark x.from n + link_count xs n
unfolding linked mark
count_next x xs n h = go (eqb x.from n) x.role h
  where
    go : (b : Bool) (role : ℕ) → role ≤ 2
        → length (cond (b && eqb role 0) (x.to ∷ linked xs n 0) (linked xs n 0))
        + length (cond (b && eqb role 1) (x.to ∷ linked xs n 1) (linked xs n 1))
        + length (cond (b && eqb role 2) (x.to ∷ linked xs n 2) (linked xs n 2))
        ≡ cond b 1 0 + link_count xs n
    go false role h = omega arith
    go true zero h = omega arith
    go true (suc zero) h = omega arith
    go true (suc (suc zero)) h = omega arith
    go true (suc (suc (suc role))) h = absurd (omega arith)

counts_next : (x : Link) (xs : List Link) → x.role ≤ 2 → (ns : List ℕ)
    → sum (map (link_count (x ∷ xs)) ns) ≡ sum (map (mark x.from) ns) + sum (map (link_count xs) ns)
unfolding sum
counts_next x xs h [] = refl
counts_next x xs h (n ∷ ns) =
    let one = count_next x xs n h in
    let r = counts_next x xs h ns in
    omega arith

no_counts_law : (ns : List ℕ) → sum (map (link_count []) ns) ≡ 0
unfolding sum linked
no_counts_law [] = refl
no_counts_law (n ∷ ns) = let r = no_counts_law ns in omega arith

-- links in one of the three roles from lanes that are there, where no number stands twice
module _ (ns : List ℕ) (once : repeats ns ≡ false) (few : length ns ≤ 256) where
  from_one : (f : ℕ) → index_of f ns 0 256 < length ns → sum (map (mark f) ns) ≡ 1
  from_one f h =
      let k = index_of f ns 0 256 in
      let e = index_get f ns 0 k 256 (omega arith) (λ (y : 0 + k ≡ 256). absurd (omega arith)) in
      marks_one f ns k h e (λ j l q. distinct ns once j k l h (q ∙ sym e))

  all_counted : (xs : List Link)
      → ((i : ℕ) (d : Link) → i < length xs → ((get_or xs i d).role ≤ 2) × (index_of (get_or xs i d).from ns 0 256 < length ns))
      → sum (map (link_count xs) ns) ≡ length xs
  all_counted [] h = no_counts_law ns
  all_counted (x ∷ xs) h =
      let r = all_counted xs (λ i d l. h (suc i) d (omega arith)) in
      let x-ok = h 0 x (omega arith) in
      let one = from_one x.from x-ok.1 in
      let next = counts_next x xs x-ok.0 ns in
      omega arith

-- THE LAWS
module _ (p : Plan) (A : Accepted p) where
  pub links_counted : sum (map (link_count p.links) (map number_of p.lanes)) ≡ length p.links
  links_counted =
      let ns = map number_of p.lanes in
      let n = length-map p.lanes number_of in
      all_counted ns A.numbers_once (omega (arith, A.limited.lanes)) p.links
      (λ i d h. ((A.link i d h).role, (let z = (A.link i d h).from in omega arith)))

  pub links_all : length (plan_rows p).links ≡ 2 * length p.links
  links_all = links_size p A ∙ ap (λ (n : ℕ). 2 * n) links_counted
