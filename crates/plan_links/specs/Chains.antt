-- Links as chains: for each lane and role the links in file order, each with the next one.
use Rattle.std.specs.Prelude.{Bool, cond, false, true, refl, ◌≡◌, eqb, drop, replicate, set}
use Rattle.std.specs.Prelude.{Option, Some, None}
use mathlib.Core.List.{List, [], map, ◌∷◌}
use Rattle.std.proofs.Math.Path.{ap}
use Rattle.std.proofs.Common.{subst, sym, ◌∙◌, get_or-set_other, get_or-set_same, eqb-true, ne_eqb}
use Prim.Native.Nat.{suc, zero, ℕ, ◌*◌, ◌+◌, ◌-◌, ◌<◌, ◌≤◌}
use native.Mathlib.Omega.{arith}
use Rattle.std.proofs.Math.ListN.{get_or, get_or-map, length}
use Rattle.std.proofs.lemmas.List.{length-map, map-set}
use Rattle.std.proofs.Math.Seq.{length-sets}
use Rattle.std.proofs.lemmas.List.Edits.{sets}
use Rattle.std.proofs.lemmas.Bool.{eqb-false}
use Rattle.std.proofs.Props.{props}
use Rattle.fields.specs.Fields.{u16_at, u8_at}
use Rattle.plan_format.specs.Laws.{Each, Room, map_next, map_none}
use Rattle.plan_format.specs.Tables.{rows}

-- a link's lane and role as one number, by the row m of each lane number
abbrev pub link_key : List ℕ → List ℕ → ℕ → ℕ
link_key s m p = 3 * get_or m (u16_at s (p + 6)) 0 + u8_at s (p + 8)

abbrev pub Keyed : List ℕ → List ℕ → ℕ → Type 0
Keyed s m p = link_key s m p < 768

-- a link of a chain as a number: 0 for none, else 1 + its place
abbrev pub head : Option ℕ → ℕ
head None = 0
head (Some j) = j + 1

abbrev pub heads : List (Option ℕ) → List ℕ
heads os = map head os

-- the places, from j on, at which q stands among the keys
unfoldable pub picks : ℕ → List ℕ → ℕ → List ℕ
picks q [] j = []
picks q (k ∷ ks) j = cond (eqb k q) (j ∷ picks q ks (j + 1)) (picks q ks (j + 1))

-- following `nx` from h on passes these places, below n, and ends
unfoldable pub Chain : ℕ → List ℕ → ℕ → List ℕ → Type 0
Chain n nx h [] = h ≡ 0
Chain n nx h (j ∷ l) = (h ≡ j + 1) × (j < n) × Chain n nx (get_or nx j 0) l

-- it does so in one way
pub chain_prop : (n : ℕ) (nx : List ℕ) (h : ℕ) (l : List ℕ) → IsProp (Chain n nx h l)
unfolding Chain
chain_prop n nx h [] = hlevel props
chain_prop n nx h (j ∷ l) = let r = chain_prop n nx (get_or nx j 0) l in hlevel (props, r)

abbrev pub Chains : ℕ → List ℕ → List ℕ → List ℕ → ℕ → Type 0
Chains n first nx ks j = (q : ℕ) → q < 768 → Chain n nx (get_or first q 0) (picks q ks j)

keep : (n : ℕ) (nx : List ℕ) (j v q : ℕ) (ks : List ℕ) (i h : ℕ) → j < i → Chain n nx h (picks q ks i) → Chain n (set nx j v) h (picks q ks i)
unfolding picks Chain
keep n nx j v q [] i h l C = C
keep n nx j v q (k ∷ ks) i h l C =
    go (eqb k q) (λ (g : ℕ) (D : Chain n nx g (picks q ks (i + 1))). keep n nx j v q ks (i + 1) g (omega arith) D) C
  where
    go : (b : Bool) → ((g : ℕ) → Chain n nx g (picks q ks (i + 1)) → Chain n (set nx j v) g (picks q ks (i + 1)))
        → Chain n nx h (cond b (i ∷ picks q ks (i + 1)) (picks q ks (i + 1)))
        → Chain n (set nx j v) h (cond b (i ∷ picks q ks (i + 1)) (picks q ks (i + 1)))
    go true r D = (D.0, D.1, rw (get_or-set_other nx j i v 0 (λ (y : i ≡ j). absurd (omega arith))) (r (get_or nx i 0) D.2))
    go false r D = r h D

pub chains_none : (n : ℕ) (first nx : List ℕ) (j : ℕ) → ((q : ℕ) → get_or first q 0 ≡ 0) → Chains n first nx [] j
unfolding picks Chain
chains_none n first nx j h q l = h q

pub chains_step : (n : ℕ) (first nx ks : List ℕ) (j k : ℕ) → Chains n first nx ks (j + 1) → j < n → j < length nx → k < 768
    → length first ≡ 768
    → Chains n (set first k (j + 1)) (set nx j (get_or first k 0)) (k ∷ ks) j
unfolding picks Chain
chains_step n first nx ks j k C l m h e q b = go (eqb k q) refl
  where
    go : (t : Bool) → eqb k q ≡ t
        → Chain n (set nx j (get_or first k 0)) (get_or (set first k (j + 1)) q 0)
        (cond (eqb k q) (j ∷ picks q ks (j + 1)) (picks q ks (j + 1)))
    go true t =
        let same = eqb-true k q t in
        let at : get_or (set first k (j + 1)) q 0 ≡ j + 1 =
        ap (λ (z : ℕ). get_or (set first k (j + 1)) z 0) (sym same) ∙ get_or-set_same first k (j + 1) 0 (omega arith) in
        let old : get_or (set nx j (get_or first k 0)) j 0 ≡ get_or first q 0 =
        get_or-set_same nx j (get_or first k 0) 0 m ∙ ap (λ (z : ℕ). get_or first z 0) same in
        rw t (at, l, rw old (keep n nx j (get_or first k 0) q ks (j + 1) (get_or first q 0) (omega arith) (C q b)))
    go false t =
        let at : get_or (set first k (j + 1)) q 0 ≡ get_or first q 0 =
        get_or-set_other first k q (j + 1) 0 (λ (y : q ≡ k). eqb-false k q t (sym y)) in
        rw (t, at) (keep n nx j (get_or first k 0) q ks (j + 1) (get_or first q 0) (omega arith) (C q b))

pub chains_start : (s m links first nx : List ℕ) (n : ℕ) → ((q : ℕ) → get_or first q 0 ≡ 0)
    → Chains n first nx (map (link_key s m) (drop (length links) links)) (length links)
chains_start s m links first nx n h = rw (map_none (link_key s m) links (length links) (omega arith)) (chains_none n first nx (length links) h)

pub chains_next : (s m links first nx : List ℕ) (j k : ℕ) → Chains (length links) first nx (map (link_key s m) (drop j links)) j → 0 < j
    → j ≤ length links → length links ≤ length nx → length first ≡ 768
    → k ≡ link_key s m (get_or links (j - 1) 0) → k < 768
    → Chains (length links) (set first k (j - 1 + 1)) (set nx (j - 1) (get_or first k 0)) (map (link_key s m) (drop (j - 1) links)) (j - 1)
chains_next s m links first nx j k C h l w e q b =
    let z : j ≡ j - 1 + 1 = omega arith in
    let under : j - 1 < length links = omega arith in
    rw (map_next (link_key s m) links (j - 1) under, ← q)
    (chains_step (length links) first nx (map (link_key s m) (drop (j - 1 + 1) links)) (j - 1) k
    (subst (λ (i : ℕ). Chains (length links) first nx (map (link_key s m) (drop i links)) i) z C) under (omega arith) b e)

-- HOW MANY links the keys below q have: at most all
unfoldable pub tally : ℕ → List ℕ → ℕ
tally zero ks = 0
tally (suc q) ks = tally q ks + length (picks q ks 0)

pick_count : (q : ℕ) (ks : List ℕ) (i j : ℕ) → length (picks q ks i) ≡ length (picks q ks j)
unfolding picks
pick_count q [] i j = refl
pick_count q (k ∷ ks) i j = go (eqb k q) (pick_count q ks (i + 1) (j + 1))
  where
    go : (b : Bool) → length (picks q ks (i + 1)) ≡ length (picks q ks (j + 1))
        → length (cond b (i ∷ picks q ks (i + 1)) (picks q ks (i + 1))) ≡ length (cond b (j ∷ picks q ks (j + 1)) (picks q ks (j + 1)))
    go true r = ap suc r
    go false r = r

count_other : (q k : ℕ) (ks : List ℕ) → (k ≡ q → ⊥) → length (picks q (k ∷ ks) 0) ≡ length (picks q ks 0)
unfolding picks
count_other q k ks h = rw (ne_eqb k q h) (pick_count q ks (0 + 1) 0)

count_same : (q k : ℕ) (ks : List ℕ) → length (picks q (k ∷ ks) 0) ≤ length (picks q ks 0) + 1
unfolding picks
count_same q k ks = go (eqb k q) (pick_count q ks (0 + 1) 0)
  where
    go : (b : Bool) → length (picks q ks (0 + 1)) ≡ length (picks q ks 0)
        → length (cond b (0 ∷ picks q ks (0 + 1)) (picks q ks (0 + 1))) ≤ length (picks q ks 0) + 1
    go true r = omega arith
    go false r = omega arith

tally_above : (q k : ℕ) (ks : List ℕ) → q ≤ k → tally q (k ∷ ks) ≡ tally q ks
unfolding tally
tally_above zero k ks h = refl
tally_above (suc q) k ks h =
    let r = tally_above q k ks (omega arith) in let c = count_other q k ks (λ (y : k ≡ q). absurd (omega arith)) in omega arith

tally_cons : (q k : ℕ) (ks : List ℕ) → tally q (k ∷ ks) ≤ tally q ks + 1
unfolding tally
tally_cons zero k ks = omega arith
tally_cons (suc q) k ks = go (eqb k q) refl (tally_cons q k ks)
  where
    go : (b : Bool) → eqb k q ≡ b → tally q (k ∷ ks) ≤ tally q ks + 1
        → tally q (k ∷ ks) + length (picks q (k ∷ ks) 0) ≤ tally q ks + length (picks q ks 0) + 1
    go true e r = let s = eqb-true k q e in let t = tally_above q k ks (omega arith) in let c = count_same q k ks in omega arith
    go false e r = let c = count_other q k ks (eqb-false k q e) in omega arith

tally_none : (q : ℕ) → tally q [] ≡ 0
unfolding tally picks
tally_none zero = refl
tally_none (suc q) = let r = tally_none q in omega arith

pub tally_le : (q : ℕ) (ks : List ℕ) → tally q ks ≤ length ks
tally_le q [] = let r = tally_none q in omega arith
tally_le q (k ∷ ks) = let r = tally_le q ks in let c = tally_cons q k ks in omega arith

pub tally_three : (i : ℕ) (ks : List ℕ)
    → tally (3 * (i + 1)) ks
    ≡ tally (3 * i) ks + length (picks (3 * i) ks 0) + length (picks (3 * i + 1) ks 0) + length (picks (3 * i + 2) ks 0)
unfolding tally
tally_three i ks =
    let e : 3 * (i + 1) ≡ suc (suc (suc (3 * i))) = omega arith in
    let a : suc (3 * i) ≡ 3 * i + 1 = omega arith in
    let b : suc (suc (3 * i)) ≡ 3 * i + 2 = omega arith in
    ap (λ (n : ℕ). tally n ks) e ∙ ap
    (λ (n : ℕ). tally (3 * i) ks + length (picks (3 * i) ks 0) + length (picks n ks 0) + length (picks (suc (suc (3 * i))) ks 0))
    a
    ∙ ap (λ (n : ℕ). tally (3 * i) ks + length (picks (3 * i) ks 0) + length (picks (3 * i + 1) ks 0) + length (picks n ks 0)) b

-- ONE LANE AND ROLE: the links with the key q by their places among the links, and their rows
abbrev pub start_at : List ℕ → ℕ → ℕ
start_at links j = get_or links j 0

abbrev pub row_by : List ℕ → List ℕ → ℕ → List ℕ
row_by s m p = u16_at s (p + 9) ∷ get_or m (u16_at s (p + 9)) 0 ∷ []

abbrev pub links_of : List ℕ → List ℕ → List ℕ → ℕ → List ℕ
links_of s m links q = picks q (map (link_key s m) links) 0

abbrev pub rows_of : List ℕ → List ℕ → List ℕ → ℕ → List ℕ
rows_of s m links q = rows (row_by s m) (map (start_at links) (links_of s m links q))

-- what the code knows of the chains it follows
pub record Chained (s m links first nx : List ℕ) : Type 0 where
  pub link : Each (Room 11 s) links
  pub links_count : length links ≤ 2048
  pub index : length m ≡ 65536
  pub first_size : length first ≡ 768
  pub next_size : length links ≤ length nx
  pub chains : Chains (length links) first nx (map (link_key s m) links) 0

pub chained_prop : (s m links first nx : List ℕ) → IsProp (Chained s m links first nx)
chained_prop s m links first nx = hlevel (props, chain_prop (length links) nx)

-- what is left of a chain, with n links written
pub record Writing (s m links nx : List ℕ) (start : ℕ) (all old out : List ℕ) (h n : ℕ) : Type 0 where
  pub rest : List ℕ
  pub chain : Chain (length links) nx h rest
  pub count : n + length rest ≡ length all
  pub same : sets out (2 * (start + n)) (rows (row_by s m) (map (start_at links) rest))
      ≡ sets old (2 * start) (rows (row_by s m) (map (start_at links) all))
  pub size : length out ≡ length old

module _ (s m links nx : List ℕ) (start : ℕ) (all old : List ℕ) where
  module _ (out : List ℕ) (h n : ℕ) (P : Writing s m links nx start all old out h n) where
    in_by : (l : List ℕ) → Chain (length links) nx h l → n + length l ≡ length all → 0 < h → (h - 1 < length links) × (n < length all)
    unfolding Chain
    in_by [] C e p = absurd (omega arith)
    in_by (j ∷ l) C e p = let z = C.0 in let y = C.1 in (omega arith, omega arith)

    pub write_in : 0 < h → (h - 1 < length links) × (n < length all)
    write_in = in_by P.rest P.chain P.count

    next_by_law : (l : List ℕ) → Chain (length links) nx h l → n + length l ≡ length all
        → sets out (2 * (start + n)) (rows (row_by s m) (map (start_at links) l))
        ≡ sets old (2 * start) (rows (row_by s m) (map (start_at links) all))
        → 0 < h
        → (t v : ℕ) (next : List ℕ) → t ≡ u16_at s (get_or links (h - 1) 0 + 9) → v ≡ get_or m t 0 → next ≡ sets out (2 * (start + n)) (t ∷ v ∷ [])
        → Writing s m links nx start all old next (get_or nx (h - 1) 0) (n + 1)
    unfolding Chain rows
    next_by_law [] C e q p t v next et ev en = absurd (omega arith)
    next_by_law (j ∷ l) C e q p t v next et ev en =
        let z : h - 1 ≡ j = (let y = C.0 in omega arith) in
        let k : 2 * (start + (n + 1)) ≡ suc (suc (2 * (start + n))) = omega arith in
        let tj : t ≡ u16_at s (get_or links j 0 + 9) = et ∙ ap (λ (i : ℕ). u16_at s (get_or links i 0 + 9)) z in
        let vj : v ≡ get_or m (u16_at s (get_or links j 0 + 9)) 0 = ev ∙ ap (λ (i : ℕ). get_or m i 0) tj in
        record {
          rest = l;
          chain = rw z C.2;
          count = omega arith;
          same = rw (en, k, vj, tj) q;
          size = ap length en ∙ length-sets out (2 * (start + n)) (t ∷ v ∷ []) ∙ P.size;
        }

    pub write_next : 0 < h → (t v : ℕ) (next : List ℕ) → t ≡ u16_at s (get_or links (h - 1) 0 + 9) → v ≡ get_or m t 0
        → next ≡ sets out (2 * (start + n)) (t ∷ v ∷ [])
        → Writing s m links nx start all old next (get_or nx (h - 1) 0) (n + 1)
    write_next = next_by_law P.rest P.chain P.count P.same

    end_by : (l : List ℕ) → Chain (length links) nx h l → n + length l ≡ length all
        → sets out (2 * (start + n)) (rows (row_by s m) (map (start_at links) l))
        ≡ sets old (2 * start) (rows (row_by s m) (map (start_at links) all))
        → h ≤ 0
        → (n ≡ length all) × (out ≡ sets old (2 * start) (rows (row_by s m) (map (start_at links) all)))
    unfolding Chain rows
    end_by [] C e q p = (omega arith, q)
    end_by (j ∷ l) C e q p = let y = C.0 in absurd (omega arith)

    pub write_end : h ≤ 0 → (n ≡ length all) × (out ≡ sets old (2 * start) (rows (row_by s m) (map (start_at links) all)))
    write_end = end_by P.rest P.chain P.count P.same

pub heads_none : (n q : ℕ) → get_or (heads (replicate n None)) q 0 ≡ 0
heads_none zero q = refl
heads_none (suc n) zero = refl
heads_none (suc n) (suc q) = heads_none n q

pub heads_at : (os : List (Option ℕ)) (i : ℕ) → get_or (heads os) i 0 ≡ head (get_or os i None)
heads_at os i = get_or-map head os i None

-- a link is put in front of its chain, as the code writes it
pub chains_push : (s m links : List ℕ) (first nx : List (Option ℕ)) (j k : ℕ)
    → Chains (length links) (heads first) (heads nx) (map (link_key s m) (drop j links)) j → 0 < j → j ≤ length links
    → length links ≤ length nx → length first ≡ 768 → k ≡ link_key s m (get_or links (j - 1) 0) → k < 768
    → Chains (length links) (heads (set first k (Some (j - 1)))) (heads (set nx (j - 1) (get_or first k None)))
    (map (link_key s m) (drop (j - 1) links)) (j - 1)
chains_push s m links first nx j k C p l w e q b =
    let firsts : length (heads first) ≡ 768 = length-map first head ∙ e in
    let nexts : length links ≤ length (heads nx) = omega (arith, length-map nx head) in
    rw (map-set head first k (Some (j - 1)), map-set head nx (j - 1) (get_or first k None), ← heads_at first k)
    (chains_next s m links (heads first) (heads nx) j k C p l nexts firsts q b)

-- a chain followed by its links: there is one more, or none
module _ (s m links : List ℕ) (nx : List (Option ℕ)) (start : ℕ) (all old out : List ℕ) (o : Option ℕ) (n : ℕ)
    (P : Writing s m links (heads nx) start all old out (head o) n) where
  pub link_in : (j : ℕ) → o ≡ Some j → (j < length links) × (n < length all)
  link_in j e =
      let z = ap head e in
      let h = write_in s m links (heads nx) start all old out (head o) n P (omega arith) in
      (omega arith, h.1)

  pub link_next : (j : ℕ) → o ≡ Some j → (t : ℕ) (next : List ℕ) → t ≡ u16_at s (get_or links j 0 + 9)
      → next ≡ sets out (2 * (start + n)) (t ∷ get_or m t 0 ∷ [])
      → Writing s m links (heads nx) start all old next (head (get_or nx j None)) (n + 1)
  link_next j e t next et en =
      let z : head o - 1 ≡ j = (let y = ap head e in omega arith) in
      let more =
      write_next s m links (heads nx) start all old out (head o) n P (let y = ap head e in omega arith) t (get_or m t 0) next
      (rw z et) refl en in
      rw (z, heads_at nx j) at more

  pub link_last : o ≡ None → (n ≡ length all) × (out ≡ sets old (2 * start) (rows (row_by s m) (map (start_at links) all)))
  link_last e = write_end s m links (heads nx) start all old out (head o) n P (let z = ap head e in omega arith)
