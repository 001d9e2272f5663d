-- The links of a lane followed from the last to the first in one go, as the code does it: the lanes that follow are entered, and whether
-- there is one is kept. `follow` of the crate `advance` has it in two, as the Rust does; `links_are` shows that it is the same.
use Rattle.std.specs.Prelude.{◌≡◌, Bool, cond, ℕ, ◌+◌, ◌-◌, ◌*◌, get_or, Float}
use Rattle.std.proofs.Math.Path.{refl, ap}
use Rattle.std.proofs.Common.{◌∙◌, add-one}
use Rattle.std.proofs.Math.Bool.{true, false, not}
use mathlib.Core.List.{List, [], ◌∷◌}
use Rattle.branches.specs.declared.Leaving.{Leaving}
use Rattle.branches.specs.Tables.{led_to}
use Rattle.branches.specs.Branches.{is_next, kept, branch_onto}
use Rattle.branches.specs.Front.{Front, enter, enter_all, is_empty}

pub record LinkFront : Type 0 where
  pub front : Front
  pub any : Bool

abbrev pub pick_link_front : Bool → LinkFront → LinkFront → LinkFront
pick_link_front b x y = cond b x y

module _ (lanes : List ℕ) (n : ℕ) (points cumulative : List Float) (ahead : Bool) (l : Leaving) where
  unfoldable pub enter_link : ℕ → LinkFront → LinkFront
  enter_link next e =
      pick_link_front (is_next lanes n points cumulative l.lane l.up next)
      (record { front = enter lanes (branch_onto lanes points cumulative ahead l next) e.front; any = true })
      e

  unfoldable pub enter_links : List ℕ → Front → LinkFront
  enter_links [] f = record { front = f; any = false }
  enter_links (x ∷ xs) f = enter_link x (enter_links xs f)

  -- the two ways to say it
  abbrev follows : List ℕ → List ℕ
  follows xs = kept (is_next lanes n points cumulative l.lane l.up) xs

  pub links_are : (xs : List ℕ) (f : Front)
      → enter_links xs f ≡ record { front = enter_all lanes points cumulative ahead l (follows xs) f; any = not (is_empty (follows xs)) }
  unfolding enter_links enter_link enter_all kept
  links_are [] f = refl
  links_are (x ∷ xs) f = by (is_next lanes n points cumulative l.lane l.up x) (enter_links xs f) (links_are xs f)
    where
      by : (b : Bool) (e : LinkFront)
          → e ≡ record { front = enter_all lanes points cumulative ahead l (follows xs) f; any = not (is_empty (follows xs)) }
          → pick_link_front b (record { front = enter lanes (branch_onto lanes points cumulative ahead l x) e.front; any = true }) e
          ≡ record {
            front = enter_all lanes points cumulative ahead l (cond b (x ∷ follows xs) (follows xs)) f;
            any = not (is_empty (cond b (x ∷ follows xs) (follows xs)));
          }
      by true e h = rw h
      by false e h = h

  -- the steps of the code
  module _ (links : List ℕ) (end k : ℕ) (f : Front) where
    pub links_none : record { front = f; any = false } ≡ enter_links (led_to links end 0) f
    unfolding led_to enter_links
    links_none = refl

    pub links_next : (e r : LinkFront) → e ≡ enter_links (led_to links end k) f → r ≡ enter_link (get_or links (2 * (end - (k + 1)) + 1) 0) e
        → r ≡ enter_links (led_to links end (k + 1)) f
    unfolding led_to enter_links
    links_next e r h g = rw (add-one k) (rw (add-one k) at (g ∙ ap (enter_link (get_or links (2 * (end - (k + 1)) + 1) 0)) h))
