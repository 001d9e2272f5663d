-- `min_of`, `max_of` and `clamp_of` of numbers are what specs/Choose says, and nothing else is; `total_of` is the numeric order where nothing
-- is negative.
use mathlib.Core.Path.{◌≡◌, refl, sym, ap, ◌∙◌, subst}
use mathlib.Core.Logic.{◌⊎◌, inl, inr}
use mathlib.Core.Bool.{Bool, true, false, not, ◌&&◌, cond, true≢false, false≢true}
use lib.Dec.{T}
use lib.Ieee.{Float, nan, inf, fin, Format, lt, le, eq, fits, is_nan}
use lib.Ieee.Bits.{is_false}
use Rattle.std.specs.declared.cmp.Ordering.TheVariants.{Less, Equal, Greater}
use Rattle.float.specs.Sign.{is_negative}
use Rattle.float.specs.Choose.{zero, level_of, min_of, max_of, clamp_of, pick, compare_bools, total_of}
use Rattle.float_laws.specs.Choose.{Least, Greatest, Clamped}
use Rattle.float_laws.specs.Compare.{less_le, equal_le, eq_self, eq_turn, neither_less, not_less, less_no_le, equal_same}
use Rattle.float_laws.specs.Compare.{zero_equal, zeros_equal}

and_true : (a b : Bool) → (a && b) ≡ true → (a ≡ true) × (b ≡ true)
and_true true b h = (refl, h)
and_true false b h = absurd (false≢true h)

-- ---- two numbers
module _ (x y : Float) (X : T (not (is_nan x))) (Y : T (not (is_nan y))) where
  -- a number that is less is not a zero beside a zero
  apart : lt x y ≡ true → (eq x zero && eq y zero) ≡ true → ⊥
  apart h z =
      let b = and_true (eq x zero) (eq y zero) z in
      less_no_le x y h (equal_le y x (eq_turn x y (zeros_equal x y b.0 b.1)))

  -- where neither is less: both are zeros and plus zero is taken, or x is
  level_cases : lt x y ≡ false → lt y x ≡ false
      → (((eq x zero && eq y zero) ≡ true) × (level_of x y ≡ zero)) ⊎ (((eq x zero && eq y zero) ≡ false) × (level_of x y ≡ x))
  level_cases p q = go (eq x zero) refl
    where
      picks : (b : Bool) → eq x zero ≡ b → level_of x y ≡ cond b zero x
      picks b r = simp (is_false (is_nan x) X, is_false (is_nan y) Y, r)

      go : (b : Bool) → eq x zero ≡ b
          → (((eq x zero && eq y zero) ≡ true) × (level_of x y ≡ zero)) ⊎ (((eq x zero && eq y zero) ≡ false) × (level_of x y ≡ x))
      go true r = inl (ap (λ (b : Bool). b && eq y zero) r ∙ zero_equal x y r (neither_less x y X Y p q), picks true r)
      go false r = inr (ap (λ (b : Bool). b && eq y zero) r, picks false r)

-- ---- the lesser
module _ (x y : Float) (X : T (not (is_nan x))) (Y : T (not (is_nan y))) where
  abbrev z : Bool
  z = eq x zero && eq y zero

  pub min_least : Least x y (min_of x y)
  min_least = go (lt x y) (lt y x) refl refl
    where
      level : lt x y ≡ false → lt y x ≡ false → Least x y (level_of x y)
      level p q = by (level_cases x y X Y p q)
        where
          by : ((z ≡ true) × (level_of x y ≡ zero)) ⊎ ((z ≡ false) × (level_of x y ≡ x)) → Least x y (level_of x y)
          by (inl (h, e)) =
              let b = and_true (eq x zero) (eq y zero) h in
              subst (Least x y) (sym e) (record {
                first = equal_le zero x (eq_turn x zero b.0);
                second = equal_le zero y (eq_turn y zero b.1);
                one = λ n. absurd (true≢false (sym h ∙ n));
                zeros = λ n. refl;
              })
          by (inr (h, e)) =
              subst (Least x y) (sym e) (record {
                first = equal_le x x (eq_self x X);
                second = equal_le x y (neither_less x y X Y p q);
                one = λ n. inl refl;
                zeros = λ n. absurd (true≢false (sym n ∙ h));
              })

      go : (a b : Bool) → lt x y ≡ a → lt y x ≡ b → Least x y (cond a x (cond b y (level_of x y)))
      go true b p q =
          record {
            first = equal_le x x (eq_self x X);
            second = less_le x y p;
            one = λ n. inl refl;
            zeros = λ n. absurd (apart x y X Y p n);
          }
      go false true p q =
          record {
            first = less_le y x q;
            second = equal_le y y (eq_self y Y);
            one = λ n. inr refl;
            zeros = λ n. absurd (apart y x Y X q (turned n));
          }
        where
          turned : z ≡ true → (eq y zero && eq x zero) ≡ true
          turned n = let b = and_true (eq x zero) (eq y zero) n in ap (λ (t : Bool). t && eq x zero) b.1 ∙ b.0
      go false false p q = level p q

  pub max_greatest : Greatest x y (max_of x y)
  max_greatest = go (lt y x) (lt x y) refl refl
    where
      turned : z ≡ true → (eq y zero && eq x zero) ≡ true
      turned n = let b = and_true (eq x zero) (eq y zero) n in ap (λ (t : Bool). t && eq x zero) b.1 ∙ b.0

      level : lt x y ≡ false → lt y x ≡ false → Greatest x y (level_of x y)
      level p q = by (level_cases x y X Y p q)
        where
          by : ((z ≡ true) × (level_of x y ≡ zero)) ⊎ ((z ≡ false) × (level_of x y ≡ x)) → Greatest x y (level_of x y)
          by (inl (h, e)) =
              let b = and_true (eq x zero) (eq y zero) h in
              subst (Greatest x y) (sym e)
              (record {
                first = equal_le x zero b.0;
                second = equal_le y zero b.1;
                one = λ n. absurd
                    (true≢false (sym h ∙ n));
                zeros = λ n. refl;
              })
          by (inr (h, e)) =
              subst (Greatest x y) (sym e) (record {
                first = equal_le x x (eq_self x X);
                second = equal_le y x (eq_turn x y (neither_less x y X Y p q));
                one = λ n. inl refl;
                zeros = λ n. absurd (true≢false (sym n ∙ h));
              })

      go : (a b : Bool) → lt y x ≡ a → lt x y ≡ b → Greatest x y (cond a x (cond b y (level_of x y)))
      go true b p q =
          record {
            first = equal_le x x (eq_self x X);
            second = less_le y x p;
            one = λ n. inl refl;
            zeros = λ n. absurd (apart y x Y X p (turned n));
          }
      go false true p q =
          record {
            first = less_le x y q;
            second = equal_le y y (eq_self y Y);
            one = λ n. inr refl;
            zeros = λ n. absurd (apart x y X Y q n);
          }
      go false false p q = level q p

  -- ---- of values of one format there is one such r
  module _ (f : Format) (fx : T (fits f x)) (fy : T (fits f y)) where
    same_ends : z ≡ false → T (le x y) → T (le y x) → x ≡ y
    same_ends n h k = go (equal_same f x y fx fy (neither_less x y X Y (no_less x y k) (no_less y x h)))
      where
        no_less : (u v : Float) → T (le v u) → lt u v ≡ false
        no_less u v l = by (lt u v) refl
          where
            by : (b : Bool) → lt u v ≡ b → b ≡ false
            by true i = absurd (less_no_le u v i l)
            by false i = refl

        go : (z ≡ true) ⊎ (x ≡ y) → x ≡ y
        go (inl i) = absurd (true≢false (sym i ∙ n))
        go (inr i) = i

    one_of : (r r' : Float) → z ≡ false → (T (le x y) → T (le y x) → x ≡ y) → (r ≡ x) ⊎ (r ≡ y) → (r' ≡ x) ⊎ (r' ≡ y)
        → (r ≡ x → r' ≡ y → T (le x y) × T (le y x)) → (r ≡ y → r' ≡ x → T (le x y) × T (le y x)) → r ≡ r'
    one_of r r' n s (inl a) (inl b) h k = a ∙ sym b
    one_of r r' n s (inr a) (inr b) h k = a ∙ sym b
    one_of r r' n s (inl a) (inr b) h k = let l = h a b in a ∙ s l.0 l.1 ∙ sym b
    one_of r r' n s (inr a) (inl b) h k = let l = k a b in a ∙ sym (s l.0 l.1) ∙ sym b

    pub min_unique : (r r' : Float) → Least x y r → Least x y r' → r ≡ r'
    min_unique r r' L L' = go z refl
      where
        go : (b : Bool) → z ≡ b → r ≡ r'
        go true n = L.zeros n ∙ sym (L'.zeros n)
        go false n =
            one_of r r' n (same_ends n) (L.one n) (L'.one n)
            (λ a b. (subst (λ (u : Float). T (le u y)) a L.second, subst (λ (u : Float). T (le u x)) b L'.first))
            (λ a b. (subst (λ (u : Float). T (le u y)) b L'.second, subst (λ (u : Float). T (le u x)) a L.first))

    pub max_unique : (r r' : Float) → Greatest x y r → Greatest x y r' → r ≡ r'
    max_unique r r' G G' = go z refl
      where
        go : (b : Bool) → z ≡ b → r ≡ r'
        go true n = G.zeros n ∙ sym (G'.zeros n)
        go false n =
            one_of r r' n (same_ends n) (G.one n) (G'.one n)
            (λ a b. (subst (λ (u : Float). T (le x u)) b G'.first, subst (λ (u : Float). T (le y u)) a G.second))
            (λ a b. (subst (λ (u : Float). T (le x u)) a G.first, subst (λ (u : Float). T (le y u)) b G'.second))

-- ---- a NaN gives the other, and is not clamped
pub min_nan : (x : Float) → (min_of nan x ≡ x) × (min_of x nan ≡ x)
unfolding lt is_nan
min_nan nan = (refl, refl)
min_nan (inf s) = (refl, refl)
min_nan (fin s m e) = (refl, refl)

pub max_nan : (x : Float) → (max_of nan x ≡ x) × (max_of x nan ≡ x)
unfolding lt is_nan
max_nan nan = (refl, refl)
max_nan (inf s) = (refl, refl)
max_nan (fin s m e) = (refl, refl)

pub clamp_nan : (lo : Float) (hi : Float) → clamp_of nan lo hi ≡ nan
unfolding lt
clamp_nan lo nan = refl
clamp_nan lo (inf s) = refl
clamp_nan lo (fin s m e) = refl

-- ---- clamp
pub clamp_is : (x lo hi : Float) → T (not (is_nan x)) → T (not (is_nan lo)) → T (not (is_nan hi)) → T (le lo hi)
    → Clamped x lo hi (clamp_of x lo hi)
clamp_is x lo hi X L H h = go (lt x lo) refl
  where
    low : (b : Bool) → lt hi lo ≡ b → lt x lo ≡ true → Clamped x lo hi (cond b hi lo)
    low true p q = absurd (less_no_le hi lo p h)
    low false p q =
        record {
          from = equal_le lo lo (eq_self lo L);
          to = h;
          kept = λ a b. absurd (true≢false (sym q ∙ a));
          low = λ a. refl;
          high = λ a b. absurd (true≢false (sym q ∙ a));
        }

    mid : (b : Bool) → lt hi x ≡ b → lt x lo ≡ false → Clamped x lo hi (cond b hi x)
    mid true p q =
        record {
          from = h;
          to = equal_le hi hi (eq_self hi H);
          kept = λ a b. absurd (true≢false (sym p ∙ b));
          low = λ a. absurd (true≢false (sym a ∙ q));
          high = λ a b. refl;
        }
    mid false p q =
        record {
          from = not_less x lo X L q;
          to = not_less hi x H X p;
          kept = λ a b. refl;
          low = λ a. absurd (true≢false (sym a ∙ q));
          high = λ a b. absurd (true≢false (sym b ∙ p));
        }

    go : (b : Bool) → lt x lo ≡ b → Clamped x lo hi (clamp_of x lo hi)
    go true p = rw p (low (lt hi lo) refl p)
    go false p = rw p (mid (lt hi x) refl p)

pub clamp_unique : (x lo hi r r' : Float) → Clamped x lo hi r → Clamped x lo hi r' → r ≡ r'
clamp_unique x lo hi r r' C C' = go (lt x lo) (lt hi x) refl refl
  where
    go : (a b : Bool) → lt x lo ≡ a → lt hi x ≡ b → r ≡ r'
    go true b p q = C.low p ∙ sym (C'.low p)
    go false true p q = C.high p q ∙ sym (C'.high p q)
    go false false p q = C.kept p q ∙ sym (C'.kept p q)

-- ---- the total order
pub total_numeric : (x y : Float) → T (not (is_nan x)) → T (not (is_nan y)) → is_negative x ≡ false → is_negative y ≡ false
    → total_of x y ≡ pick (lt x y) Less (pick (eq x y) Equal Greater)
total_numeric x y X Y p q = go (lt x y) (lt y x) (eq x y) refl refl refl
  where
    go : (a b c : Bool) → lt x y ≡ a → lt y x ≡ b → eq x y ≡ c
        → pick a Less (pick b Greater (pick c (compare_bools (is_negative y) (is_negative x)) (compare_bools (is_nan x) (is_nan y))))
        ≡ pick a Less (pick c Equal Greater)
    go true b c h k l = refl
    go false true true h k l = absurd (less_no_le y x k (equal_le x y l))
    go false true false h k l = refl
    go false false true h k l = ap (λ (t : Bool). compare_bools t (is_negative x)) q ∙ ap (compare_bools false) p
    go false false false h k l = absurd (true≢false (sym (neither_less x y X Y h k) ∙ l))

-- the NaN is above every number, and level with itself
pub total_nan : (x : Float) → T (not (is_nan x)) → (total_of x nan ≡ Less) × (total_of nan x ≡ Greater) × (total_of nan nan ≡ Equal)
unfolding lt eq is_nan
total_nan nan X = absurd X
total_nan (inf s) X = (refl, refl, refl)
total_nan (fin s m e) X = (refl, refl, refl)
