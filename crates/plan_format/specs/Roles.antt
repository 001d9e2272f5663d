-- The number of each role of a link, which stands in its record.
use Rattle.std.specs.Prelude.{◌≡◌, ℕ, Result, Ok, Err, cond, eqb, refl, suc, zero, ◌<◌}
use Rattle.std.proofs.Common.{arith, ne_eqb}
use Rattle.plan_format.specs.declared.Refusal.{Refusal}
use Rattle.plan_format.specs.declared.Refusal.TheVariants.{OutOfRange}
use Rattle.plan_format.specs.declared.Role.{Role}
use Rattle.plan_format.specs.declared.Role.TheVariants.{Successor, Predecessor, Neighbour}

abbrev pub role_number : Role → ℕ
role_number Successor = 0
role_number Predecessor = 1
role_number Neighbour = 2

abbrev pub role_of : ℕ → Result Role Refusal
role_of n = cond (eqb n 0) (Ok Successor) (cond (eqb n 1) (Ok Predecessor) (cond (eqb n 2) (Ok Neighbour) (Err OutOfRange)))

no_role : (n : ℕ) → 2 < n → role_of n ≡ Err OutOfRange
no_role n h =
    rw (
      ne_eqb n 0 (λ (e : n ≡ 0). absurd (omega arith)),
      ne_eqb n 1 (λ (e : n ≡ 1). absurd (omega arith)),
      ne_eqb n 2 (λ (e : n ≡ 2). absurd (omega arith)),
    )
    refl

pub role_known : (n : ℕ) (r : Role) → role_of n ≡ Ok r → role_number r ≡ n
role_known zero r e = cc
role_known (suc zero) r e = cc
role_known (suc (suc zero)) r e = cc
role_known (suc (suc (suc n))) r e = let z = no_role (suc (suc (suc n))) (omega arith) in cc
