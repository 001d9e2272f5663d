-- The links and fans that the code writes are those of the definition.
use Rattle.std.specs.Prelude.{Bool, cond, ◌&&◌, ◌≡◌, eqb, drop, get_or}
use Rattle.std.proofs.Math.Bool.{false, true}
use mathlib.Core.List.{List, [], append_assoc, map, ◌++◌, ◌∷◌}
use Rattle.std.proofs.Math.Path.{ap, refl}
use Rattle.std.proofs.Common.{subst, sym, ◌∙◌, length-append, length-drop, eq-eqb, eqb-true}
use Prim.Native.Nat.{suc, ℕ, ◌*◌, ◌+◌, ◌<◌, ◌≤◌}
use native.Mathlib.Omega.{arith}
use Rattle.std.proofs.Math.ListN.{length}
use Rattle.std.proofs.lemmas.List.{length-map}
use Rattle.std.proofs.Math.Seq.{get_or-append_seam}
use Rattle.std.proofs.lemmas.Bool.{eqb-false}
use Rattle.fields.specs.Fields.{u16_at, u8_at}
use Rattle.plan_format.specs.Laws.{Bytes, Each, Room, any_none, drop_next, get_or_map_in, word_below}
use Rattle.plan_format.specs.Lookup.{index_below, index_same}
use Rattle.plan_format.specs.Plan.{any, from_missing, repeats}
use Rattle.plan_format.specs.Records.{Link, link_at}
use Rattle.plan_format.specs.Tables.{fan_row, group, link_count, link_row, linked, rows, rows_from}
use Rattle.plan_links.specs.Chains.{Keyed, link_key, links_of, picks, row_by, rows_of, start_at}
use Rattle.plan_links.specs.Groups.{fans_in, groups_in}
use Rattle.plan_scan.specs.Parts.{Roled}
use Rattle.plan_whole.specs.ByNumber.{ByNumber}
use Rattle.plan_whole.specs.Keys.{Listed, key_at}

-- lanes, links and places of a file without number: no lane stands twice, no from-lane is missing; m has the row of each number
pub record Linkable (s ls ks ps m : List ℕ) : Type 0 where
  pub lane : Listed s ls 256
  pub link : Each (Room 11 s) ks
  pub links : length ks ≤ 2048
  pub role : Each (Roled s) ks
  pub place : Listed s ps 256
  pub once : repeats (map (key_at s 0) ls) ≡ false
  pub from : any (from_missing (map (key_at s 0) ls)) (map (link_at s) ks) ≡ false
  pub index : ByNumber m (map (key_at s 0) ls) 0

-- the starts of the links with the key q
unfoldable chosen : (ℕ → ℕ) → ℕ → List ℕ → List ℕ
chosen f q [] = []
chosen f q (p ∷ ps) = cond (eqb (f p) q) (p ∷ chosen f q ps) (chosen f q ps)

starts_by : (f : ℕ → ℕ) (q : ℕ) (pre suf : List ℕ) → map (start_at (pre ++ suf)) (picks q (map f suf) (length pre)) ≡ chosen f q suf
unfolding picks chosen
starts_by f q pre [] = refl
starts_by f q pre (p ∷ suf) =
    go (eqb (f p) q) (rw (append_assoc pre (p ∷ []) suf, length-append pre (p ∷ [])) at (starts_by f q (pre ++ (p ∷ [])) suf))
  where
    go : (b : Bool) → map (start_at (pre ++ p ∷ suf)) (picks q (map f suf) (length pre + 1)) ≡ chosen f q suf
        → map (start_at (pre ++ p ∷ suf)) (cond b (length pre ∷ picks q (map f suf) (length pre + 1)) (picks q (map f suf) (length pre + 1)))
        ≡ cond b (p ∷ chosen f q suf) (chosen f q suf)
    go true r = rw (get_or-append_seam pre p suf 0, r)
    go false r = r

-- a lane's row and a role as one number
key_test : (a b i r : ℕ) → b ≤ 2 → r ≤ 2 → (eqb a i && eqb b r) ≡ eqb (3 * a + b) (3 * i + r)
key_test a b i r hb hr = go (eqb (3 * a + b) (3 * i + r)) refl
  where
    go : (t : Bool) → eqb (3 * a + b) (3 * i + r) ≡ t → (eqb a i && eqb b r) ≡ eqb (3 * a + b) (3 * i + r)
    go true e =
        let z = eqb-true (3 * a + b) (3 * i + r) e in
        let x : a ≡ i = omega arith in
        let y : b ≡ r = omega arith in
        rw (e, eq-eqb a i x, eq-eqb b r y)
    go false e = rw e (no (eqb a i) (eqb b r) refl refl)
      where
        no : (u v : Bool) → eqb a i ≡ u → eqb b r ≡ v → (u && v) ≡ false
        no true true p q =
            let x = eqb-true a i p in
            let y = eqb-true b r q in
            absurd (eqb-false (3 * a + b) (3 * i + r) e (omega arith))
        no true false p q = refl
        no false v p q = refl

module _ (s m ns : List ℕ) (B : Bytes s) (M : ByNumber m ns 0) (once : repeats ns ≡ false) (few : length ns ≤ 256) (i r : ℕ)
    (hi : i < length ns) (hr : r ≤ 2) where
  abbrev n : ℕ
  n = get_or ns i 0

  -- a link is from the i-th lane exactly when its key says so
  test : (p : ℕ) → u8_at s (p + 8) ≤ 2 → (eqb (u16_at s (p + 6)) n && eqb (u8_at s (p + 8)) r) ≡ eqb (link_key s m p) (3 * i + r)
  test p h =
      rw (index_same ns (u16_at s (p + 6)) i once hi few, ← M.at (u16_at s (p + 6)) (word_below s (p + 6) B))
      (key_test (get_or m (u16_at s (p + 6)) 0) (u8_at s (p + 8)) i r h hr)

  chosen_rows : (ps : List ℕ) → Each (Roled s) ps
      → rows (row_by s m) (chosen (link_key s m) (3 * i + r) ps) ≡ rows (link_row ns) (linked (map (link_at s) ps) n r)
  unfolding chosen rows linked
  chosen_rows [] E = refl
  chosen_rows (p ∷ ps) E =
      rw (test p (E 0 (omega arith))) (go (eqb (link_key s m p) (3 * i + r)) (chosen_rows ps (λ j l. E (suc j) (omega arith))))
    where
      go : (b : Bool) → rows (row_by s m) (chosen (link_key s m) (3 * i + r) ps) ≡ rows (link_row ns) (linked (map (link_at s) ps) n r)
          → rows (row_by s m) (cond b (p ∷ chosen (link_key s m) (3 * i + r) ps) (chosen (link_key s m) (3 * i + r) ps))
          ≡ rows (link_row ns) (cond b (u16_at s (p + 9) ∷ linked (map (link_at s) ps) n r) (linked (map (link_at s) ps) n r))
      go true e = rw (M.at (u16_at s (p + 9)) (word_below s (p + 9) B), e)
      go false e = e

  chosen_count : (ps : List ℕ) → Each (Roled s) ps → length (chosen (link_key s m) (3 * i + r) ps) ≡ length (linked (map (link_at s) ps) n r)
  unfolding chosen linked
  chosen_count [] E = refl
  chosen_count (p ∷ ps) E =
      rw (test p (E 0 (omega arith))) (go (eqb (link_key s m p) (3 * i + r)) (chosen_count ps (λ j l. E (suc j) (omega arith))))
    where
      go : (b : Bool) → length (chosen (link_key s m) (3 * i + r) ps) ≡ length (linked (map (link_at s) ps) n r)
          → length (cond b (p ∷ chosen (link_key s m) (3 * i + r) ps) (chosen (link_key s m) (3 * i + r) ps))
          ≡ length (cond b (u16_at s (p + 9) ∷ linked (map (link_at s) ps) n r) (linked (map (link_at s) ps) n r))
      go true e = ap suc e
      go false e = e

  rows_is : (links : List ℕ) → Each (Roled s) links → rows (link_row ns) (linked (map (link_at s) links) n r) ≡ rows_of s m links (3 * i + r)
  rows_is links E = sym (ap (rows (row_by s m)) (starts_by (link_key s m) (3 * i + r) [] links) ∙ chosen_rows links E)

  count_is : (links : List ℕ) → Each (Roled s) links → length (linked (map (link_at s) links) n r) ≡ length (links_of s m links (3 * i + r))
  count_is links E =
      sym (sym (length-map (links_of s m links (3 * i + r)) (start_at links))
      ∙ ap length (starts_by (link_key s m) (3 * i + r) [] links) ∙ chosen_count links E)

-- the lanes from the i-th on
module _ (s m ls : List ℕ) (B : Bytes s) (links : List ℕ) (E : Each (Roled s) links) (M : ByNumber m (map (key_at s 0) ls) 0)
    (once : repeats (map (key_at s 0) ls) ≡ false) (few : length (map (key_at s 0) ls) ≤ 256) where
  abbrev ns : List ℕ
  ns = map (key_at s 0) ls

  abbrev xs : List Link
  xs = map (link_at s) links

  head_is : (i : ℕ) (p : ℕ) (more : List ℕ) → drop i ns ≡ map (key_at s 0) (p ∷ more)
      → (i < length ns) × (key_at s 0 p ≡ get_or ns i 0) × (drop (i + 1) ns ≡ map (key_at s 0) more)
  head_is i p more e =
      let l = ap length e in
      let long = length-drop i ns in
      let at : i < length ns = omega arith in
      let split = sym (drop_next ns i 0 at) ∙ e in
      (at, cc, cc)

  role_is : (i r : ℕ) → i < length ns → r ≤ 2 → rows (link_row ns) (linked xs (get_or ns i 0) r) ≡ rows_of s m links (3 * i + r)
  role_is i r hi hr = rows_is s m ns B M once few i r hi hr links E

  size_is : (i r : ℕ) → i < length ns → r ≤ 2 → length (linked xs (get_or ns i 0) r) ≡ length (links_of s m links (3 * i + r))
  size_is i r hi hr = count_is s m ns B M once few i r hi hr links E

  groups_is : (i : ℕ) (rest : List ℕ) → drop i ns ≡ map (key_at s 0) rest
      → rows (group ns xs) (map (key_at s 0) rest) ≡ groups_in s m links i rest
  unfolding rows groups_in
  groups_is i [] e = refl
  groups_is i (p ∷ rest) e =
      let h = head_is i p rest e in
      let z : 3 * i + 0 ≡ 3 * i = omega arith in
      let r₀ = rw z at (role_is i 0 h.0 (omega arith)) in
      rw (h.1, r₀, role_is i 1 h.0 (omega arith), role_is i 2 h.0 (omega arith), groups_is (i + 1) rest h.2)

  fans_is : (ps placed : List ℕ) → ByNumber placed ps 0 → (i : ℕ) (rest : List ℕ) (first : ℕ) → drop i ns ≡ map (key_at s 0) rest
      → rows_from (fan_row xs ps) (link_count xs) first (map (key_at s 0) rest) ≡ fans_in s m links placed i rest first
  unfolding rows_from fans_in key_at
  fans_is ps placed P i [] first e = refl
  fans_is ps placed P i (p ∷ rest) first e =
      let h = head_is i p rest e in
      let z : 3 * i + 0 ≡ 3 * i = omega arith in
      let c₀ = rw z at (size_is i 0 h.0 (omega arith)) in
      let c₁ = size_is i 1 h.0 (omega arith) in
      let c₂ = size_is i 2 h.0 (omega arith) in
      let place = P.at (get_or ns i 0) (subst (λ (k : ℕ). k < 65536) h.1 (word_below s (p + 6) B)) in
      let a = length (links_of s m links (3 * i)) in
      let b = length (links_of s m links (3 * i + 1)) in
      let c = length (links_of s m links (3 * i + 2)) in
      let sum : first + (a + b + c) ≡ first + a + b + c = omega arith in
      rw (h.1, c₀, c₁, c₂, sum, fans_is ps placed P (i + 1) rest (first + a + b + c) h.2, place)

module _ (s ls ks ps m : List ℕ) (B : Bytes s) (L : Linkable s ls ks ps m) where
  abbrev numbers : List ℕ
  numbers = map (key_at s 0) ls

  few : length numbers ≤ 256
  few = omega (arith, length-map ls (key_at s 0), L.lane.count)

  pub all_groups : rows (group numbers (map (link_at s) ks)) numbers ≡ groups_in s m ks 0 ls
  all_groups = groups_is s m ls B ks L.role L.index L.once few 0 ls refl

  pub all_fans : (placed : List ℕ) → ByNumber placed (map (key_at s 0) ps) 0
      → rows_from (fan_row (map (link_at s) ks) (map (key_at s 0) ps)) (link_count (map (link_at s) ks)) 0 numbers ≡ fans_in s m ks placed 0 ls 0
  all_fans placed P = fans_is s m ls B ks L.role L.index L.once few (map (key_at s 0) ps) placed P 0 ls 0 refl

-- each link's key is below 768: its from-lane is there
pub keyed : (s ls ks ps m : List ℕ) → Bytes s → Linkable s ls ks ps m → Each (Keyed s m) ks
keyed s ls ks ps m B L j h =
    let ns = map (key_at s 0) ls in
    let p = get_or ks j 0 in
    let there = any_none (from_missing ns) (map (link_at s) ks) (link_at s 0) L.from j (omega (arith, length-map ks (link_at s))) in
    let found = rw (get_or_map_in (link_at s) ks j 0 (link_at s 0) h) at there in
    let below = index_below (u16_at s (p + 6)) ns 0 256 (eqb-false _ _ found) in
    let row = L.index.at (u16_at s (p + 6)) (word_below s (p + 6) B) in
    let role = L.role j h in
    omega (arith, length-map ls (key_at s 0), L.lane.count)
