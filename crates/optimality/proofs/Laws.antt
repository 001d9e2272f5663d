-- What the search asks of costs, and that f32 costs meet it. Nothing here asks that a sum grows: rounded sums stop growing.
use mathlib.Core.Logic.{inl, inr}
use mathlib.Core.Path.{refl, ◌≡◌}
use Prim.Native.Nat.{ℕ, ◌<◌, ◌≤◌}
use lib.Dec.{ltb}
use lib.Ieee.{of_bits}
use Rattle.exact.specs.Sums.{cost_lt, cost_most, cost_unique, link_cost}
use Rattle.exact.proofs.Sums.{add_cost, add_finite, add_grows, add_mono_left, add_mono_right}
use Rattle.exact.specs.Sums.{link_cost_finite, zero_size, zero_up_to}
use Rattle.exact.specs.Sums as sums
use Rattle.exact.specs.Values.{size_of}
use Rattle.search.specs.LaneGraph.{f32_costs}
use Rattle.search.specs.Search.{Costs}

-- a `Cost` is what a chain can cost, or the infinity; a `LinkCost` what a link can. Costs are ordered by `size`
pub record Laws {C : Type 0} (K : Costs C) : Type 1 where
  pub Cost : C → Type 0
  pub LinkCost : C → Type 0
  pub size : C → ℕ
  pub lt_size : (a b : C) → Cost a → Cost b → K.lt a b ≡ ltb (size a) (size b)
  pub unique : (a b : C) → Cost a → Cost b → size a ≡ size b → a ≡ b
  pub none_cost : Cost K.none
  pub none_size : size K.none ≡ 0
  pub none_finite : size K.none < size K.infinite
  pub infinite_cost : Cost K.infinite
  pub most : (a : C) → Cost a → size a ≤ size K.infinite
  pub link_cost : (w : C) → LinkCost w → Cost w
  pub link_finite : (w : C) → LinkCost w → size w < size K.infinite
  -- a sum is a cost, no smaller than its first summand, monotone in both, and finite where that is
  pub add_cost : (a w : C) → Cost a → LinkCost w → Cost (K.add a w)
  pub add_grows : (a w : C) → Cost a → LinkCost w → size a ≤ size (K.add a w)
  pub add_mono_left : (a b w : C) → Cost a → Cost b → LinkCost w → size a ≤ size b → size (K.add a w) ≤ size (K.add b w)
  pub add_mono_right : (a w x : C) → Cost a → LinkCost w → LinkCost x → size w ≤ size x → size (K.add a w) ≤ size (K.add a x)
  pub add_finite : (a w : C) → Cost a → LinkCost w → size a < size K.infinite → size (K.add a w) < size K.infinite

unfoldable pub f32_laws : Laws f32_costs
unfolding of_bits
f32_laws =
    record {
      Cost = sums.Cost;
      LinkCost = sums.LinkCost;
      size = size_of;
      lt_size = cost_lt;
      unique = cost_unique;
      none_cost = inr (zero_up_to _);
      none_size = zero_size;
      none_finite = link_cost_finite _ (zero_up_to _);
      infinite_cost = inl refl;
      most = cost_most;
      link_cost = λ w p. inr (link_cost w p);
      link_finite = link_cost_finite;
      add_cost = add_cost;
      add_grows = add_grows;
      add_mono_left = add_mono_left;
      add_mono_right = add_mono_right;
      add_finite = add_finite;
    }
