-- The number of each kind of record, which stands in its head.
use Rattle.std.specs.Prelude.{Bool, true, false, ◌≡◌, ℕ, Result, Ok, Err, cond, eqb, List, refl}
use Rattle.std.proofs.Common.{eqb-true, sym, ap, ◌∙◌}
use Rattle.plan_format.specs.Plan.{fits}
use Rattle.plan_format.specs.declared.Kind.{Kind}
use Rattle.plan_format.specs.declared.Refusal.{Refusal}
use Rattle.plan_format.specs.declared.Refusal.TheVariants.{WrongRecord}
use Rattle.plan_format.specs.declared.Kind.TheVariants.{Lane, Link, Section, Place, Route, Advance, Beside}

abbrev pub kind_number : Kind → ℕ
kind_number Lane = 1
kind_number Link = 2
kind_number Section = 3
kind_number Place = 4
kind_number Route = 16
kind_number Advance = 17
kind_number Beside = 18

abbrev pub kind_of : ℕ → Result Kind Refusal
kind_of n =
    cond (eqb n 1) (Ok Lane)
    (cond (eqb n 2) (Ok Link)
    (cond (eqb n 3) (Ok Section)
    (cond (eqb n 4) (Ok Place)
    (cond (eqb n 16) (Ok Route)
    (cond (eqb n 17) (Ok Advance)
    (cond (eqb n 18) (Ok Beside) (Err WrongRecord)))))))

ok_is : (k k' : Kind) → ◌≡◌ {A = Result Kind Refusal} (Ok k) (Ok k') → k ≡ k'
ok_is k k' e = cc

pub kind_known : (n : ℕ) (k : Kind) → kind_of n ≡ Ok k → kind_number k ≡ n
kind_known n k = go (eqb n 1) (eqb n 2) (eqb n 3) (eqb n 4) (eqb n 16) (eqb n 17) (eqb n 18) refl refl refl refl refl refl refl
  where
    at : (k' : Kind) (m : ℕ) → kind_number k' ≡ m → eqb n m ≡ true → ◌≡◌ {A = Result Kind Refusal} (Ok k') (Ok k)
        → kind_number k ≡ n
    at k' m q e s = ap kind_number (sym (ok_is k' k s)) ∙ q ∙ sym (eqb-true n m e)

    go : (b₁ b₂ b₃ b₄ b₅ b₆ b₇ : Bool) → eqb n 1 ≡ b₁ → eqb n 2 ≡ b₂ → eqb n 3 ≡ b₃ → eqb n 4 ≡ b₄ → eqb n 16 ≡ b₅ → eqb n 17 ≡ b₆
        → eqb n 18 ≡ b₇
        → cond b₁ (Ok Lane)
        (cond b₂ (Ok Link) (cond b₃ (Ok Section) (cond b₄ (Ok Place) (cond b₅ (Ok Route) (cond b₆ (Ok Advance) (cond b₇ (Ok Beside) (Err WrongRecord)))))))
        ≡ Ok k
        → kind_number k ≡ n
    go true b₂ b₃ b₄ b₅ b₆ b₇ e₁ e₂ e₃ e₄ e₅ e₆ e₇ s = at Lane 1 refl e₁ s
    go false true b₃ b₄ b₅ b₆ b₇ e₁ e₂ e₃ e₄ e₅ e₆ e₇ s = at Link 2 refl e₂ s
    go false false true b₄ b₅ b₆ b₇ e₁ e₂ e₃ e₄ e₅ e₆ e₇ s = at Section 3 refl e₃ s
    go false false false true b₅ b₆ b₇ e₁ e₂ e₃ e₄ e₅ e₆ e₇ s = at Place 4 refl e₄ s
    go false false false false true b₆ b₇ e₁ e₂ e₃ e₄ e₅ e₆ e₇ s = at Route 16 refl e₅ s
    go false false false false false true b₇ e₁ e₂ e₃ e₄ e₅ e₆ e₇ s = at Advance 17 refl e₆ s
    go false false false false false false true e₁ e₂ e₃ e₄ e₅ e₆ e₇ s = at Beside 18 refl e₇ s
    go false false false false false false false e₁ e₂ e₃ e₄ e₅ e₆ e₇ s = cc

-- no length fits an unknown kind, which is refused as such
pub kind_unknown : (s : List ℕ) (at n size : ℕ) (e : Refusal) → kind_of n ≡ Err e
    → (fits s at n size ≡ false) × (e ≡ WrongRecord)
unfolding fits
kind_unknown s at n size e = go (eqb n 1) (eqb n 2) (eqb n 3) (eqb n 4) (eqb n 16) (eqb n 17) (eqb n 18) _ _ _ _ _ _ _
  where
    go : (b₁ b₂ b₃ b₄ b₅ b₆ b₇ x₁ x₂ x₃ x₄ x₅ x₆ x₇ : Bool)
        → cond b₁ (Ok Lane)
        (cond b₂ (Ok Link) (cond b₃ (Ok Section) (cond b₄ (Ok Place) (cond b₅ (Ok Route) (cond b₆ (Ok Advance) (cond b₇ (Ok Beside) (Err WrongRecord)))))))
        ≡ Err e
        → (cond b₁ x₁ (cond b₂ x₂ (cond b₃ x₃ (cond b₄ x₄ (cond b₅ x₅ (cond b₆ x₆ (cond b₇ x₇ false)))))) ≡ false)
        × (e ≡ WrongRecord)
    go true b₂ b₃ b₄ b₅ b₆ b₇ x₁ x₂ x₃ x₄ x₅ x₆ x₇ q = cc
    go false true b₃ b₄ b₅ b₆ b₇ x₁ x₂ x₃ x₄ x₅ x₆ x₇ q = cc
    go false false true b₄ b₅ b₆ b₇ x₁ x₂ x₃ x₄ x₅ x₆ x₇ q = cc
    go false false false true b₅ b₆ b₇ x₁ x₂ x₃ x₄ x₅ x₆ x₇ q = cc
    go false false false false true b₆ b₇ x₁ x₂ x₃ x₄ x₅ x₆ x₇ q = cc
    go false false false false false true b₇ x₁ x₂ x₃ x₄ x₅ x₆ x₇ q = cc
    go false false false false false false true x₁ x₂ x₃ x₄ x₅ x₆ x₇ q = cc
    go false false false false false false false x₁ x₂ x₃ x₄ x₅ x₆ x₇ q = (refl, cc)
