-- A solver for equations of commutative rings over the integers, by reflection: `ring 3 (λ a b c. l := r) tt a b c`.
-- It holds where the normal form of l - r is zero. A polynomial is a list of terms, (k - l) times a monomial; a monomial is the sorted
-- list of the places of its variables in ρ.
use Rattle.std.specs.Prelude.{◌≡◌, refl, List, [], ◌∷◌, Bool, true, ◌&&◌, T, eqb}
use Rattle.std.proofs.Common.{sym, ap, ap₂, subst, arith, eqb→eq}
use Prim.Native.Nat.{ℕ, zero, suc, ◌+◌, ◌*◌, compare, Ordering}
use Rattle.std.proofs.Math.Dec.{compare_is_eq}
use Rattle.std.specs.Float.Ieee.Fits.{and_l, and_r}
use Rattle.exact.specs.Integers.{Z, ◌≈◌, ◌⊞◌, ◌⊟◌, ◌⊠◌, ◌·◌, ⊖, ι, ≈_refl, ≈_sym, ≈_trans, times_zero, zero_times, one_times, ⊞_cong}
use Rattle.exact.specs.Integers.{⊟_cong, ⊖_cong, ⊠_cong, ⊠_assoc, ⊠_⊞}

infixl 6 ◌:+◌ ◌:-◌
infixl 7 ◌:*◌ ◌:·◌
pub data E : Type 0 where
  var : ℕ → E
  lit : ℕ → E
  ◌:+◌ : E → E → E
  ◌:-◌ : E → E → E
  ◌:*◌ : E → E → E
  neg : E → E
  ◌:·◌ : ℕ → E → E

abbrev nth : List Z → ℕ → Z
nth [] i = ι 0
nth (x ∷ ρ) zero = x
nth (x ∷ ρ) (suc i) = nth ρ i

abbrev den : E → List Z → Z
den (var i) ρ = nth ρ i
den (lit k) ρ = ι k
den (a :+ b) ρ = den a ρ ⊞ den b ρ
den (a :- b) ρ = den a ρ ⊟ den b ρ
den (a :* b) ρ = den a ρ ⊠ den b ρ
den (neg a) ρ = ⊖ (den a ρ)
den (k :· a) ρ = k · den a ρ

-- ---- monomials
abbrev cmpm : List ℕ → List ℕ → Ordering
cmpm [] [] = Ordering.eq
cmpm [] (j ∷ n) = Ordering.lt
cmpm (i ∷ m) [] = Ordering.gt
cmpm (i ∷ m) (j ∷ n) =
    elim (compare i j) as (λ _. Ordering) [ Ordering.lt ↦ Ordering.lt | Ordering.eq ↦ cmpm m n | Ordering.gt ↦ Ordering.gt ]

abbrev pickl : Ordering → List ℕ → List ℕ → List ℕ
pickl Ordering.lt x y = x
pickl Ordering.eq x y = x
pickl Ordering.gt x y = y

abbrev insm : ℕ → List ℕ → List ℕ
insm i [] = i ∷ []
insm i (j ∷ m) = let r = j ∷ insm i m in pickl (compare i j) (i ∷ j ∷ m) r

abbrev join : List ℕ → List ℕ → List ℕ
join [] n = n
join (i ∷ m) n = insm i (join m n)

-- ---- polynomials
pub data Poly : Type 0 where
  nil : Poly
  term : ℕ → ℕ → List ℕ → Poly → Poly

abbrev choose : Ordering → Poly → Poly → Poly → Poly
choose Ordering.lt a b c = a
choose Ordering.eq a b c = b
choose Ordering.gt a b c = c

abbrev ins : ℕ → ℕ → List ℕ → Poly → Poly
ins k l m nil = term k l m nil
ins k l m (term k' l' m' q) =
    let a = term k l m (term k' l' m' q) in
    let b = term (k + k') (l + l') m' q in
    let c = term k' l' m' (ins k l m q) in
    choose (cmpm m m') a b c

abbrev padd : Poly → Poly → Poly
padd nil q = q
padd (term k l m p) q = ins k l m (padd p q)

abbrev tmul : ℕ → ℕ → List ℕ → Poly → Poly → Poly
tmul k l m nil r = r
tmul k l m (term k' l' m' q) r = ins (k * k' + l * l') (k * l' + l * k') (join m m') (tmul k l m q r)

abbrev pmul : Poly → Poly → Poly
pmul nil q = nil
pmul (term k l m p) q = tmul k l m q (pmul p q)

abbrev pneg : Poly → Poly
pneg nil = nil
pneg (term k l m p) = term l k m (pneg p)

abbrev pscale : ℕ → Poly → Poly
pscale j nil = nil
pscale j (term k l m p) = term (j * k) (j * l) m (pscale j p)

abbrev norm : E → Poly
norm (var i) = term 1 0 (i ∷ []) nil
norm (lit k) = term k 0 [] nil
norm (a :+ b) = padd (norm a) (norm b)
norm (a :- b) = padd (pneg (norm b)) (norm a)
norm (a :* b) = pmul (norm a) (norm b)
norm (neg a) = pneg (norm a)
norm (k :· a) = pscale k (norm a)

abbrev is_zero : Poly → Bool
is_zero nil = true
is_zero (term k l m p) = eqb k l && is_zero p

-- ---- what they mean
mon : List ℕ → List Z → Z
mon [] ρ = ι 1
mon (i ∷ m) ρ = nth ρ i ⊠ mon m ρ

c : ℕ → ℕ → Z
c k l = record { p = k; n = l }

ev : Poly → List Z → Z
ev nil ρ = ι 0
ev (term k l m p) ρ = c k l ⊠ mon m ρ ⊞ ev p ρ

-- ---- laws
swap_l : (a b d : Z) → a ⊠ (b ⊠ d) ≈ b ⊠ (a ⊠ d)
unfolding ◌⊠◌
swap_l a b d = omega arith

one_r : (a : Z) → a ⊠ ι 1 ≈ a
unfolding ◌⊠◌ ι
one_r a = omega arith

zero_r : (a : Z) → a ⊞ ι 0 ≈ a
unfolding ◌⊞◌ ι
zero_r a = omega arith

zero_l : (a : Z) → ι 0 ⊞ a ≈ a
unfolding ◌⊞◌ ι
zero_l a = omega arith

-- ---- soundness
cmpm_eq : (m n : List ℕ) → T (compare_is_eq (cmpm m n)) → m ≡ n
cmpm_eq [] [] t = refl
cmpm_eq [] (j ∷ n) t = absurd t
cmpm_eq (i ∷ m) [] t = absurd t
cmpm_eq (i ∷ m) (j ∷ n) t = go (compare i j) (eqb→eq i j) (cmpm_eq m n) t
  where
    go : (o : Ordering) → (T (compare_is_eq o) → i ≡ j) → (T (compare_is_eq (cmpm m n)) → m ≡ n)
        → T (compare_is_eq (elim o as (λ _. Ordering) [ Ordering.lt ↦ Ordering.lt | Ordering.eq ↦ cmpm m n | Ordering.gt ↦ Ordering.gt ]))
        → ◌≡◌ {A = List ℕ} (i ∷ m) (j ∷ n)
    go Ordering.lt e ih t = absurd t
    go Ordering.eq e ih t = ap₂ (λ (x : ℕ) (y : List ℕ). x ∷ y) (e tt) (ih t)
    go Ordering.gt e ih t = absurd t

mon_pick : (o : Ordering) (x y : List ℕ) (ρ : List Z) (v : Z) → mon x ρ ≈ v → mon y ρ ≈ v → mon (pickl o x y) ρ ≈ v
mon_pick Ordering.lt x y ρ v p q = p
mon_pick Ordering.eq x y ρ v p q = p
mon_pick Ordering.gt x y ρ v p q = q

mon_insm : (i : ℕ) (m : List ℕ) (ρ : List Z) → mon (insm i m) ρ ≈ nth ρ i ⊠ mon m ρ
unfolding mon
mon_insm i [] ρ = ≈_refl (nth ρ i ⊠ ι 1)
mon_insm i (j ∷ m) ρ =
    mon_pick (compare i j) (i ∷ j ∷ m) (j ∷ insm i m) ρ (nth ρ i ⊠ (nth ρ j ⊠ mon m ρ)) (≈_refl (nth ρ i ⊠ (nth ρ j ⊠ mon m ρ)))
    (≈_trans (⊠_cong (≈_refl (nth ρ j)) (mon_insm i m ρ)) (swap_l (nth ρ j) (nth ρ i) (mon m ρ)))

mon_join : (m n : List ℕ) (ρ : List Z) → mon (join m n) ρ ≈ mon m ρ ⊠ mon n ρ
unfolding mon
mon_join [] n ρ = ≈_sym (one_times (mon n ρ))
mon_join (i ∷ m) n ρ =
    ≈_trans (mon_insm i (join m n) ρ) (≈_trans (⊠_cong (≈_refl (nth ρ i)) (mon_join m n ρ)) (≈_sym (⊠_assoc (nth ρ i) (mon m ρ) (mon n ρ))))

choose_ok : (o : Ordering) (x y z : Poly) (ρ : List Z) (v : Z) → ev x ρ ≈ v → (T (compare_is_eq o) → ev y ρ ≈ v) → ev z ρ ≈ v
    → ev (choose o x y z) ρ ≈ v
choose_ok Ordering.lt x y z ρ v p q r = p
choose_ok Ordering.eq x y z ρ v p q r = q tt
choose_ok Ordering.gt x y z ρ v p q r = r

merge_ok : (k l k' l' : ℕ) (x r : Z) → c (k + k') (l + l') ⊠ x ⊞ r ≈ c k l ⊠ x ⊞ (c k' l' ⊠ x ⊞ r)
unfolding c ◌⊠◌ ◌⊞◌
merge_ok k l k' l' x r = omega arith

past_ok : (x y r s : Z) → r ≈ y ⊞ s → x ⊞ r ≈ y ⊞ (x ⊞ s)
unfolding ◌⊞◌
past_ok x y r s h = omega arith

ins_ok : (k l : ℕ) (m : List ℕ) (q : Poly) (ρ : List Z) → ev (ins k l m q) ρ ≈ c k l ⊠ mon m ρ ⊞ ev q ρ
unfolding ev
ins_ok k l m nil ρ = ≈_refl (c k l ⊠ mon m ρ ⊞ ι 0)
ins_ok k l m (term k' l' m' q) ρ =
    choose_ok (cmpm m m') (term k l m (term k' l' m' q)) (term (k + k') (l + l') m' q) (term k' l' m' (ins k l m q)) ρ
    (c k l ⊠ mon m ρ ⊞ (c k' l' ⊠ mon m' ρ ⊞ ev q ρ))
    (≈_refl (c k l ⊠ mon m ρ ⊞ (c k' l' ⊠ mon m' ρ ⊞ ev q ρ)))
    (λ t. subst (λ (x : List ℕ). c (k + k') (l + l') ⊠ mon m' ρ ⊞ ev q ρ ≈ c k l ⊠ mon x ρ ⊞ (c k' l' ⊠ mon m' ρ ⊞ ev q ρ))
    (sym (cmpm_eq m m' t)) (merge_ok k l k' l' (mon m' ρ) (ev q ρ)))
    (past_ok (c k' l' ⊠ mon m' ρ) (c k l ⊠ mon m ρ) (ev (ins k l m q) ρ) (ev q ρ) (ins_ok k l m q ρ))

add3 : (x a b d e : Z) → d ≈ x ⊞ e → e ≈ a ⊞ b → d ≈ x ⊞ a ⊞ b
unfolding ◌⊞◌
add3 x a b d e h k = omega arith

padd_ok : (p q : Poly) (ρ : List Z) → ev (padd p q) ρ ≈ ev p ρ ⊞ ev q ρ
unfolding ev
padd_ok nil q ρ = ≈_sym (zero_l (ev q ρ))
padd_ok (term k l m p) q ρ =
    add3 (c k l ⊠ mon m ρ) (ev p ρ) (ev q ρ) (ev (ins k l m (padd p q)) ρ) (ev (padd p q) ρ) (ins_ok k l m (padd p q) ρ) (padd_ok p q ρ)

four : (a b x y : Z) → (a ⊠ b) ⊠ (x ⊠ y) ≈ (a ⊠ x) ⊠ (b ⊠ y)
four a b x y = ≈_trans (⊠_assoc a b (x ⊠ y)) (≈_trans (⊠_cong (≈_refl a) (swap_l b x y)) (≈_sym (⊠_assoc a x (b ⊠ y))))

c_c : (k l k' l' : ℕ) → c (k * k' + l * l') (k * l' + l * k') ≈ c k l ⊠ c k' l'
unfolding c ◌⊠◌
c_c k l k' l' = omega arith

c_mul : (k l k' l' : ℕ) (x y : Z) → c (k * k' + l * l') (k * l' + l * k') ⊠ (x ⊠ y) ≈ (c k l ⊠ x) ⊠ (c k' l' ⊠ y)
c_mul k l k' l' x y = ≈_trans (⊠_cong (c_c k l k' l') (≈_refl (x ⊠ y))) (four (c k l) (c k' l') x y)

lin : (y z w r u v : Z) → u ≈ y ⊞ v → v ≈ z ⊞ r → w ≈ y ⊞ z → u ≈ w ⊞ r
unfolding ◌⊞◌
lin y z w r u v h k e = omega arith

step : (a x s r u v : Z) → u ≈ a ⊠ x ⊞ v → v ≈ a ⊠ s ⊞ r → u ≈ a ⊠ (x ⊞ s) ⊞ r
step a x s r u v h k = lin (a ⊠ x) (a ⊠ s) (a ⊠ (x ⊞ s)) r u v h k (⊠_⊞ a x s)

tmul_ok : (k l : ℕ) (m : List ℕ) (q r : Poly) (ρ : List Z) → ev (tmul k l m q r) ρ ≈ (c k l ⊠ mon m ρ) ⊠ ev q ρ ⊞ ev r ρ
unfolding ev
tmul_ok k l m nil r ρ = ≈_sym (≈_trans (⊞_cong (times_zero (c k l ⊠ mon m ρ)) (≈_refl (ev r ρ))) (zero_l (ev r ρ)))
tmul_ok k l m (term k' l' m' q) r ρ =
    step (c k l ⊠ mon m ρ) (c k' l' ⊠ mon m' ρ) (ev q ρ) (ev r ρ)
    (ev (ins (k * k' + l * l') (k * l' + l * k') (join m m') (tmul k l m q r)) ρ) (ev (tmul k l m q r) ρ)
    (≈_trans (ins_ok (k * k' + l * l') (k * l' + l * k') (join m m') (tmul k l m q r) ρ)
    (⊞_cong (≈_trans (⊠_cong (≈_refl (c (k * k' + l * l') (k * l' + l * k'))) (mon_join m m' ρ)) (c_mul k l k' l' (mon m ρ) (mon m' ρ)))
    (≈_refl (ev (tmul k l m q r) ρ))))
    (tmul_ok k l m q r ρ)

⊞_⊠ : (a b d : Z) → (a ⊞ b) ⊠ d ≈ (a ⊠ d) ⊞ (b ⊠ d)
unfolding ◌⊠◌ ◌⊞◌
⊞_⊠ a b d = omega arith

pmul_ok : (p q : Poly) (ρ : List Z) → ev (pmul p q) ρ ≈ ev p ρ ⊠ ev q ρ
unfolding ev
pmul_ok nil q ρ = ≈_sym (zero_times (ev q ρ))
pmul_ok (term k l m p) q ρ =
    ≈_trans (tmul_ok k l m q (pmul p q) ρ)
    (≈_trans (⊞_cong (≈_refl ((c k l ⊠ mon m ρ) ⊠ ev q ρ)) (pmul_ok p q ρ)) (≈_sym (⊞_⊠ (c k l ⊠ mon m ρ) (ev p ρ) (ev q ρ))))

zz : ι 0 ≈ ⊖ (ι 0)
unfolding ι ⊖
zz = omega arith

flip : (k l : ℕ) (x : Z) → c l k ⊠ x ≈ ⊖ (c k l ⊠ x)
unfolding c ◌⊠◌ ⊖
flip k l x = omega arith

neg_add : (a b : Z) → ⊖ (a ⊞ b) ≈ ⊖ a ⊞ ⊖ b
unfolding ◌⊞◌ ⊖
neg_add a b = omega arith

pneg_ok : (p : Poly) (ρ : List Z) → ev (pneg p) ρ ≈ ⊖ (ev p ρ)
unfolding ev
pneg_ok nil ρ = zz
pneg_ok (term k l m p) ρ = ≈_trans (⊞_cong (flip k l (mon m ρ)) (pneg_ok p ρ)) (≈_sym (neg_add (c k l ⊠ mon m ρ) (ev p ρ)))

zero_sc : (j : ℕ) → ι 0 ≈ j · ι 0
unfolding ι ◌·◌
zero_sc j = omega arith

sc_term : (j k l : ℕ) (x y : Z) → c (j * k) (j * l) ⊠ x ⊞ j · y ≈ j · (c k l ⊠ x ⊞ y)
unfolding c ◌⊠◌ ◌⊞◌ ◌·◌
sc_term j k l x y = omega arith

pscale_ok : (j : ℕ) (p : Poly) (ρ : List Z) → ev (pscale j p) ρ ≈ j · ev p ρ
unfolding ev
pscale_ok j nil ρ = zero_sc j
pscale_ok j (term k l m p) ρ = ≈_trans (⊞_cong (≈_refl (c (j * k) (j * l) ⊠ mon m ρ)) (pscale_ok j p ρ)) (sc_term j k l (mon m ρ) (ev p ρ))

·_cong : (j : ℕ) {a b : Z} → a ≈ b → j · a ≈ j · b
unfolding ◌·◌
·_cong j {a} {b} h = omega (arith, ap (λ (t : ℕ). j * t) h.eq)

sub_is : (a b : Z) → ⊖ b ⊞ a ≈ a ⊟ b
unfolding ◌⊞◌ ◌⊟◌ ⊖
sub_is a b = omega arith

one_c : (x : Z) → c 1 0 ⊠ x ≈ x
unfolding c ◌⊠◌
one_c x = omega arith

c_ι : (k : ℕ) → c k 0 ≈ ι k
unfolding c ι
c_ι k = omega arith

norm_ok : (e : E) (ρ : List Z) → ev (norm e) ρ ≈ den e ρ
unfolding ev mon
norm_ok (var i) ρ = ≈_trans (zero_r (c 1 0 ⊠ (nth ρ i ⊠ ι 1))) (≈_trans (one_c (nth ρ i ⊠ ι 1)) (one_r (nth ρ i)))
norm_ok (lit k) ρ = ≈_trans (zero_r (c k 0 ⊠ ι 1)) (≈_trans (one_r (c k 0)) (c_ι k))
norm_ok (a :+ b) ρ = ≈_trans (padd_ok (norm a) (norm b) ρ) (⊞_cong (norm_ok a ρ) (norm_ok b ρ))
norm_ok (a :- b) ρ =
    ≈_trans (padd_ok (pneg (norm b)) (norm a) ρ)
    (≈_trans (⊞_cong (≈_trans (pneg_ok (norm b) ρ) (⊖_cong (norm_ok b ρ))) (norm_ok a ρ)) (sub_is (den a ρ) (den b ρ)))
norm_ok (a :* b) ρ = ≈_trans (pmul_ok (norm a) (norm b) ρ) (⊠_cong (norm_ok a ρ) (norm_ok b ρ))
norm_ok (neg a) ρ = ≈_trans (pneg_ok (norm a) ρ) (⊖_cong (norm_ok a ρ))
norm_ok (k :· a) ρ = ≈_trans (pscale_ok k (norm a) ρ) (·_cong k (norm_ok a ρ))

cancel : (k l : ℕ) (x : Z) → k ≡ l → c k l ⊠ x ≈ ι 0
unfolding c ◌⊠◌ ι
cancel k l x e = omega (arith, ap (λ (t : ℕ). t * x.p) e, ap (λ (t : ℕ). t * x.n) e)

zero_ok : (q : Poly) (ρ : List Z) → T (is_zero q) → ev q ρ ≈ ι 0
unfolding ev
zero_ok nil ρ t = ≈_refl (ι 0)
zero_ok (term k l m p) ρ t =
    ≈_trans (⊞_cong (cancel k l (mon m ρ) (eqb→eq k l (and_l (eqb k l) (is_zero p) t))) (zero_ok p ρ (and_r (eqb k l) (is_zero p) t)))
    (zero_r (ι 0))

done : (x y : Z) → x ⊟ y ≈ ι 0 → x ≈ y
unfolding ◌⊟◌ ι
done x y h = omega arith

-- ---- the solver
infix 4 ◌:=◌
pub record Eqn : Type 0 where
  pub lhs : E
  pub rhs : E

abbrev pub ◌:=◌ : E → E → Eqn
a := b = record { lhs = a; rhs = b }

-- an equation in n variables; its variables by their places, the last one first
abbrev Open : ℕ → Type 0
Open zero = Eqn
Open (suc n) = E → Open n

abbrev close : (n : ℕ) → Open n → Eqn
close zero q = q
close (suc n) f = close n (f (var n))

abbrev Solved : Eqn → Type 0
Solved q = T (is_zero (norm (q.lhs :- q.rhs)))

abbrev Holds : ℕ → List Z → Eqn → Type 0
Holds zero ρ q = den q.lhs ρ ≈ den q.rhs ρ
Holds (suc n) ρ q = (x : Z) → Holds n (x ∷ ρ) q

holds : (n : ℕ) (ρ : List Z) (q : Eqn) → Solved q → Holds n ρ q
holds zero ρ q t =
    done (den q.lhs ρ) (den q.rhs ρ) (≈_trans (≈_sym (norm_ok (q.lhs :- q.rhs) ρ)) (zero_ok (norm (q.lhs :- q.rhs)) ρ t))
holds (suc n) ρ q t = λ x. holds n (x ∷ ρ) q t

pub ring : (n : ℕ) (f : Open n) → Solved (close n f) → Holds n [] (close n f)
ring n f t = holds n [] (close n f) t

-- ---- congruence: the value of an expression respects ≈ of its variables
data Same : List Z → List Z → Type 0 where
  same_nil : Same [] []
  same_cons : {x y : Z} {ρ σ : List Z} → x ≈ y → Same ρ σ → Same (x ∷ ρ) (y ∷ σ)

nth_cong : (ρ σ : List Z) → Same ρ σ → (i : ℕ) → nth ρ i ≈ nth σ i
nth_cong ρ σ same_nil i = ≈_refl (ι 0)
nth_cong ρ σ (same_cons h s) zero = h
nth_cong ρ σ (same_cons {ρ = ρ'} {σ = σ'} h s) (suc i) = nth_cong ρ' σ' s i

den_cong : (e : E) (ρ σ : List Z) → Same ρ σ → den e ρ ≈ den e σ
den_cong (var i) ρ σ s = nth_cong ρ σ s i
den_cong (lit k) ρ σ s = ≈_refl (ι k)
den_cong (a :+ b) ρ σ s = ⊞_cong (den_cong a ρ σ s) (den_cong b ρ σ s)
den_cong (a :- b) ρ σ s = ⊟_cong (den_cong a ρ σ s) (den_cong b ρ σ s)
den_cong (a :* b) ρ σ s = ⊠_cong (den_cong a ρ σ s) (den_cong b ρ σ s)
den_cong (neg a) ρ σ s = ⊖_cong (den_cong a ρ σ s)
den_cong (k :· a) ρ σ s = ·_cong k (den_cong a ρ σ s)

same_refl : (ρ : List Z) → Same ρ ρ
same_refl [] = same_nil
same_refl (x ∷ ρ) = same_cons (≈_refl x) (same_refl ρ)

-- in the first variable: `in_first (λ t. e) ρ h`, with e over var 1, var 2, .. for ρ
pub in_first : (f : E → E) {x y : Z} (ρ : List Z) → x ≈ y → den (f (var 0)) (x ∷ ρ) ≈ den (f (var 0)) (y ∷ ρ)
in_first f {x} {y} ρ h = den_cong (f (var 0)) (x ∷ ρ) (y ∷ ρ) (same_cons h (same_refl ρ))
