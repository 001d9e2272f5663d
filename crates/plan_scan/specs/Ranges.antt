-- Laws of the tests that go over a run of floats, one for each branch of the code.
use Rattle.std.specs.Prelude.{Bool, false, true, ◌&&◌, List, ◌≡◌, Float}
use Rattle.std.proofs.Math.Bool.{and_assoc}
use Rattle.std.proofs.Math.Path.{ap, refl}
use Rattle.std.specs.List.{list_all, range_with_len}
use Prim.Native.Nat.{suc, zero, ℕ, ◌*◌, ◌+◌, ◌-◌, ◌<◌, ◌≤◌}
use native.Mathlib.Omega.{arith}
use Rattle.std.specs.Float.Ieee.{lt}
use Rattle.fields.specs.Fields.{f64_at}
use Rattle.plan_format.specs.Laws.{and_left, and_right}
use Rattle.plan_format.specs.Plan.{every, rises, rises_from, station}
use Rattle.plan_format.specs.Records.{doubles, run}

module _ (test : Float → Bool) (read : List ℕ → ℕ → Float) (width : ℕ) (s : List ℕ) (at : ℕ) where
  pub every_bad : (n : ℕ) → 0 < n → test (read s at) ≡ false → every test (run read width s at n) ≡ false
  unfolding every run
  every_bad zero h e = absurd (omega arith)
  every_bad (suc n) h e = and_left _ (every test (run read width s (at + width) n)) e

-- a test of the floats one by one, by their places
every_run : (test : Float → Bool) (read : List ℕ → ℕ → Float) (width : ℕ) (s : List ℕ) (first j n : ℕ)
    → list_all (λ k. test (read s (first + width * k))) (range_with_len j n) ≡ every test (run read width s (first + width * j) n)
unfolding every run
every_run test read width s first j zero = refl
every_run test read width s first j (suc n) =
    let next : first + width * (j + 1) ≡ first + width * j + width = omega arith in
    let r = every_run test read width s first (j + 1) n in
    ap (λ (b : Bool). test (read s (first + width * j)) && b) (rw next at r)

pub every_placed : (test : Float → Bool) (read : List ℕ → ℕ → Float) (width : ℕ) (s : List ℕ) (first n : ℕ)
    → list_all (λ k. test (read s (first + width * k))) (range_with_len 0 n) ≡ every test (run read width s first n)
every_placed test read width s first n =
    let zero_on : first + width * 0 ≡ first = omega arith in
    rw zero_on at (every_run test read width s first 0 n)

-- stations that rise from `last` on
abbrev pub rising : Float → List Float → Bool
rising last xs = every station xs && rises_from last xs

module _ (s : List ℕ) (at : ℕ) (last : Float) where
  pub rising_none : (n : ℕ) → n ≤ 0 → rising last (doubles s at n) ≡ true
  unfolding every rises_from run
  rising_none zero h = refl
  rising_none (suc n) h = absurd (omega arith)

  pub rising_out : (n : ℕ) → 0 < n → station (f64_at s at) ≡ false → rising last (doubles s at n) ≡ false
  rising_out n h e = and_left _ (rises_from last (doubles s at n)) (every_bad station f64_at 8 s at n h e)

  pub rising_back : (n : ℕ) → 0 < n → lt last (f64_at s at) ≡ false → rising last (doubles s at n) ≡ false
  unfolding rises_from run
  rising_back zero h e = absurd (omega arith)
  rising_back (suc n) h e =
      and_right (every station (doubles s at (suc n))) _ (and_left _ (rises_from (f64_at s at) (doubles s (at + 8) n)) e)

  pub rising_good : (n : ℕ) → 0 < n → station (f64_at s at) ≡ true → lt last (f64_at s at) ≡ true
      → rising (f64_at s at) (doubles s (at + 8) (n - 1)) ≡ rising last (doubles s at n)
  unfolding every rises_from run
  rising_good zero h e f = absurd (omega arith)
  rising_good (suc n) h e f = let z : suc n - 1 ≡ n = omega arith in rw (z, e, f)

-- the stations of a section of one or more: the first, then those that rise from it on
pub stations_split : (s : List ℕ) (at n : ℕ) → 0 < n
    → (every station (doubles s at n) && rises (doubles s at n)) ≡ (station (f64_at s at) && rising (f64_at s at) (doubles s (at + 8) (n - 1)))
unfolding every rises run
stations_split s at zero h = absurd (omega arith)
stations_split s at (suc n) h =
    let z : suc n - 1 ≡ n = omega arith in
    rw z (and_assoc (station (f64_at s at)) (every station (doubles s (at + 8) n)) (rises_from (f64_at s at) (doubles s (at + 8) n)))
