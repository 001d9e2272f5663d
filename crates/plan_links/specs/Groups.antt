-- The links of all lanes, and the fans, as the code writes them: by the keys of the links. `ps` has the row of the place of each number.
use Rattle.std.specs.Prelude.{List, [], map, ◌++◌, ◌∷◌, refl, ◌≡◌, drop}
use Rattle.std.proofs.Common.{append_assoc, ap, subst, sym, ◌∙◌}
use Prim.Native.Nat.{ℕ, ◌*◌, ◌+◌, ◌<◌, ◌≤◌}
use native.Mathlib.Omega.{arith}
use Rattle.std.proofs.Math.ListN.{get_or, length}
use Rattle.std.proofs.lemmas.List.{length-map}
use Rattle.std.proofs.lemmas.List.Edits.{sets}
use Rattle.fields.specs.Fields.{u16_at}
use Rattle.lists.specs.Filling.{Filling, fill_many}
use Rattle.plan_format.specs.Laws.{drop_next, drop_none}
use Rattle.lists.specs.Rows.{rows_length}
use Rattle.plan_links.specs.Chains.{link_key, links_of, row_by, rows_of, start_at, tally, tally_le, tally_three}

module _ (s m links : List ℕ) where
  unfoldable pub groups_in : ℕ → List ℕ → List ℕ
  groups_in i [] = []
  groups_in i (p ∷ ls) = (rows_of s m links (3 * i) ++ (rows_of s m links (3 * i + 1) ++ rows_of s m links (3 * i + 2))) ++ groups_in (i + 1) ls

  unfoldable pub fans_in : List ℕ → ℕ → List ℕ → ℕ → List ℕ
  fans_in ps i [] first = []
  fans_in ps i (p ∷ ls) first =
      first ∷ length (links_of s m links (3 * i)) ∷ length (links_of s m links (3 * i + 1)) ∷ length
      (links_of s m links (3 * i + 2)) ∷ get_or ps (u16_at s (p + 6)) 0
      ∷ fans_in ps (i + 1) ls
      (first + length (links_of s m links (3 * i)) + length (links_of s m links (3 * i + 1)) + length
      (links_of s m links (3 * i + 2)))

  rows_of_length : (q : ℕ) → length (rows_of s m links q) ≡ 2 * length (links_of s m links q)
  rows_of_length q =
      rows_length (row_by s m) 2 (λ p. refl) (map (start_at links) (links_of s m links q)) ∙ ap (λ (n : ℕ). 2 * n)
      (length-map (links_of s m links q) (start_at links))

  -- there is room for the links of the i-th lane
  pub group_room : (i : ℕ) → length links ≤ 2048
      → tally (3 * i) (map (link_key s m) links) + length (links_of s m links (3 * i)) + length (links_of s m links (3 * i + 1)) +
      length (links_of s m links (3 * i + 2)) ≤ 2048
  group_room i h =
      let e = tally_three i (map (link_key s m) links) in
      let l = tally_le (3 * (i + 1)) (map (link_key s m) links) in
      let n = length-map links (link_key s m) in
      omega arith

  module _ (old out₀ : List ℕ) (i k : ℕ) (rest whole : List ℕ) where
    pub group_next : Filling ℕ old out₀ (2 * k)
        ((rows_of s m links (3 * i) ++ (rows_of s m links (3 * i + 1) ++ rows_of s m links (3 * i + 2))) ++ rest) whole
        → k + length (links_of s m links (3 * i)) + length (links_of s m links (3 * i + 1)) + length (links_of s m links (3 * i + 2)) ≤ 2048
        → 4096 ≤ length old
        → (a b c : ℕ) (out₁ out₂ out₃ : List ℕ) → a ≡ length (links_of s m links (3 * i)) → b ≡ length (links_of s m links (3 * i + 1))
        → c ≡ length (links_of s m links (3 * i + 2))
        → out₁ ≡ sets out₀ (2 * k) (rows_of s m links (3 * i)) → out₂ ≡ sets out₁ (2 * (k + a)) (rows_of s m links (3 * i + 1))
        → out₃ ≡ sets out₂ (2 * (k + a + b)) (rows_of s m links (3 * i + 2))
        → Filling ℕ old out₃ (2 * (k + a + b + c)) rest whole
    group_next F room long a b c out₁ out₂ out₃ ea eb ec e₁ e₂ e₃ =
        let la = rows_of_length (3 * i) in
        let lb = rows_of_length (3 * i + 1) in
        let lc = rows_of_length (3 * i + 2) in
        let pa : 2 * k + length (rows_of s m links (3 * i)) ≡ 2 * (k + a) = omega arith in
        let pb : 2 * (k + a) + length (rows_of s m links (3 * i + 1)) ≡ 2 * (k + a + b) = omega arith in
        let pc : 2 * (k + a + b) + length (rows_of s m links (3 * i + 2)) ≡ 2 * (k + a + b + c) = omega arith in
        let F₀ =
        rw (
          append_assoc (rows_of s m links (3 * i)) (rows_of s m links (3 * i + 1) ++ rows_of s m links (3 * i + 2)) rest,
          append_assoc (rows_of s m links (3 * i + 1)) (rows_of s m links (3 * i + 2)) rest,
        )
        at F in
        let F₁ =
        fill_many ℕ old (rows_of s m links (3 * i)) out₀ (2 * k)
        (rows_of s m links (3 * i + 1) ++ (rows_of s m links (3 * i + 2) ++ rest)) whole F₀ (omega arith) in
        let G₁ =
        subst
        (λ (o : List ℕ). Filling ℕ old o (2 * (k + a))
        (rows_of s m links (3 * i + 1) ++ (rows_of s m links (3 * i + 2) ++ rest)) whole)
        (sym e₁)
        (subst
        (λ (j : ℕ). Filling ℕ old (sets out₀ (2 * k) (rows_of s m links (3 * i))) j
        (rows_of s m links (3 * i + 1) ++ (rows_of s m links (3 * i + 2) ++ rest)) whole)
        pa F₁) in
        let F₂ =
        fill_many ℕ old (rows_of s m links (3 * i + 1)) out₁ (2 * (k + a)) (rows_of s m links (3 * i + 2) ++ rest) whole G₁
        (omega arith) in
        let G₂ =
        subst (λ (o : List ℕ). Filling ℕ old o (2 * (k + a + b)) (rows_of s m links (3 * i + 2) ++ rest) whole) (sym e₂)
        (subst
        (λ (j : ℕ). Filling ℕ old (sets out₁ (2 * (k + a)) (rows_of s m links (3 * i + 1))) j
        (rows_of s m links (3 * i + 2) ++ rest) whole)
        pb F₂) in
        let F₃ = fill_many ℕ old (rows_of s m links (3 * i + 2)) out₂ (2 * (k + a + b)) rest whole G₂ (omega arith) in
        subst (λ (o : List ℕ). Filling ℕ old o (2 * (k + a + b + c)) rest whole) (sym e₃)
        (subst (λ (j : ℕ). Filling ℕ old (sets out₂ (2 * (k + a + b)) (rows_of s m links (3 * i + 2))) j rest whole) pc F₃)

  pub groups_next : (ls old out₀ : List ℕ) (i k : ℕ) → Filling ℕ old out₀ (2 * k) (groups_in i (drop i ls)) (groups_in 0 ls) → i < length ls
      → k ≡ tally (3 * i) (map (link_key s m) links) → length links ≤ 2048 → 4096 ≤ length old
      → (a b c : ℕ) (out₁ out₂ out₃ : List ℕ) → a ≡ length (links_of s m links (3 * i)) → b ≡ length (links_of s m links (3 * i + 1))
      → c ≡ length (links_of s m links (3 * i + 2))
      → out₁ ≡ sets out₀ (2 * k) (rows_of s m links (3 * i)) → out₂ ≡ sets out₁ (2 * (k + a)) (rows_of s m links (3 * i + 1))
      → out₃ ≡ sets out₂ (2 * (k + a + b)) (rows_of s m links (3 * i + 2))
      → Filling ℕ old out₃ (2 * (k + a + b + c)) (groups_in (i + 1) (drop (i + 1) ls)) (groups_in 0 ls)
  unfolding groups_in
  groups_next ls old out₀ i k F h t l long =
      group_next old out₀ i k (groups_in (i + 1) (drop (i + 1) ls)) (groups_in 0 ls) (rw (drop_next ls i 0 h) at F)
      (let r = group_room i l in omega arith) long

  pub groups_end : (ls : List ℕ) (i : ℕ) → length ls ≤ i → groups_in i (drop i ls) ≡ []
  unfolding groups_in
  groups_end ls i h = rw (drop_none ls i h)

  pub tally_next : (i k a b c : ℕ) → k ≡ tally (3 * i) (map (link_key s m) links) → a ≡ length (links_of s m links (3 * i))
      → b ≡ length (links_of s m links (3 * i + 1)) → c ≡ length (links_of s m links (3 * i + 2))
      → k + a + b + c ≡ tally (3 * (i + 1)) (map (link_key s m) links)
  tally_next i k a b c e ea eb ec = let t = tally_three i (map (link_key s m) links) in omega arith

  pub fans_next : (ps ls old out : List ℕ) (i k : ℕ) → Filling ℕ old out (5 * i) (fans_in ps i (drop i ls) k) (fans_in ps 0 ls 0)
      → i < length ls → 5 * i + 5 ≤ length old
      → (a b c d : ℕ) (next : List ℕ) → a ≡ length (links_of s m links (3 * i)) → b ≡ length (links_of s m links (3 * i + 1))
      → c ≡ length (links_of s m links (3 * i + 2)) → d ≡ get_or ps (u16_at s (get_or ls i 0 + 6)) 0
      → next ≡ sets out (5 * i) (k ∷ a ∷ b ∷ c ∷ d ∷ [])
      → Filling ℕ old next (5 * (i + 1)) (fans_in ps (i + 1) (drop (i + 1) ls) (k + a + b + c)) (fans_in ps 0 ls 0)
  unfolding fans_in
  fans_next ps ls old out i k F h l a b c d next ea eb ec ed e =
      let G = rw (drop_next ls i 0 h) at F in
      let n : 5 * (i + 1) ≡ 5 * i + 5 = omega arith in
      rw (e, n, ea, eb, ec, ed)
      (fill_many ℕ old
      (k ∷ length (links_of s m links (3 * i)) ∷ length (links_of s m links (3 * i + 1)) ∷ length (links_of s m links (3 * i + 2)) ∷
      get_or ps (u16_at s (get_or ls i 0 + 6)) 0 ∷ [])
      out (5 * i)
      (fans_in ps (i + 1) (drop (i + 1) ls)
      (k + length (links_of s m links (3 * i)) + length (links_of s m links (3 * i + 1)) + length (links_of s m links (3 * i + 2))))
      (fans_in ps 0 ls 0) G l)

  pub fans_end : (ps ls : List ℕ) (i k : ℕ) → length ls ≤ i → fans_in ps i (drop i ls) k ≡ []
  unfolding fans_in
  fans_end ps ls i k h = rw (drop_none ls i h)
