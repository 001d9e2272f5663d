-- One line more, for the loops that print a list.
use Rattle.std.specs.Prelude.{List, [], ◌++◌, refl, ◌≡◌, suc, zero, ℕ, ◌*◌, ◌+◌, ◌<◌, Float, get_or, drop}
use Rattle.std.specs.Float.{nan}
use Rattle.std.specs.Simd.{first_chunks}
use Rattle.std.proofs.Common.{ap, sym, ◌∙◌, add-one, arith}
use Rattle.std.proofs.lemmas.List.{get_or-drop, get_or-take}
use Rattle.text.specs.Lines.{lane_line, lane_lines, point_line, point_lines, position_line, position_lines}

pub lane_lines_more : (ns : List ℕ) (i : ℕ) → lane_lines ns (i + 1) ≡ lane_lines ns i ++ lane_line (get_or ns i 0)
unfolding lane_lines
lane_lines_more ns i = rw add-one refl

-- the entries of the chunk i are those of the list from n * i on
chunk_at : {X : Type 0} (d : X) (n k : ℕ) (xs : List X) (i j : ℕ) → i < k → j < n
    → get_or (get_or (first_chunks n k xs) i []) j d ≡ get_or xs (n * i + j) d
chunk_at d n zero xs i j h l = absurd (omega arith)
chunk_at d n (suc k) xs zero j h l = let e : n * 0 + j ≡ j = omega arith in rw e (get_or-take n xs j d l)
chunk_at d n (suc k) xs (suc i) j h l =
    let e : n * suc i + j ≡ n + (n * i + j) = omega arith in
    chunk_at d n k (drop n xs) i j (omega arith) l ∙ get_or-drop n xs (n * i + j) d ∙ ap (λ (m : ℕ). get_or xs m d) (sym e)

-- the list `ps` has the first k chunks of n entries of `xs`
module _ {X : Type 0} (d : X) (n k : ℕ) (xs : List X) (ps : List (List X)) (e : ps ≡ first_chunks n k xs) (i : ℕ) (h : i < k) where
  entry : (j : ℕ) → j < n → get_or (get_or ps i []) j d ≡ get_or xs (n * i + j) d
  entry j l = ap (λ (qs : List (List X)). get_or (get_or qs i []) j d) e ∙ chunk_at d n k xs i j h l

pub point_lines_more : (xs : List Float) (k : ℕ) (ps : List (List Float)) → ps ≡ first_chunks 3 k xs → (i : ℕ) → i < k
    → point_lines xs (i + 1)
    ≡ point_lines xs i ++ point_line (get_or (get_or ps i []) 0 nan) (get_or (get_or ps i []) 1 nan) (get_or (get_or ps i []) 2 nan)
unfolding point_lines
point_lines_more xs k ps e i h =
    let at = entry nan 3 k xs ps e i h in
    let z : 3 * i + 0 ≡ 3 * i = omega arith in
    rw (add-one, at 0 (omega arith), at 1 (omega arith), at 2 (omega arith), z) refl

pub position_lines_more : (rows : List ℕ) (metres : List Float) (k l : ℕ) (rs : List (List ℕ)) (ms : List (List Float))
    → rs ≡ first_chunks 2 k rows → ms ≡ first_chunks 3 l metres → (i j : ℕ) → j ≡ i + 1 → i < k → i < l → (r : List ℕ) (m : List Float)
    → r ≡ get_or rs i [] → m ≡ get_or ms i []
    → position_lines rows metres j
    ≡ position_lines rows metres i ++ position_line (get_or r 0 0) (get_or r 1 0) (get_or m 0 nan) (get_or m 1 nan) (get_or m 2 nan)
unfolding position_lines
position_lines_more rows metres k l rs ms e f i j next h h' r m p q =
    let row = entry 0 2 k rows rs e i h in
    let metre = entry nan 3 l metres ms f i h' in
    let y : 2 * i + 0 ≡ 2 * i = omega arith in
    let z : 3 * i + 0 ≡ 3 * i = omega arith in
    let r₁ = row 1 (omega arith) in
    let m₁ = metre 1 (omega arith) in
    rw (next, add-one, p, q, row 0 (omega arith), r₁, metre 0 (omega arith), m₁, metre 2 (omega arith), y, z) refl
