-- The query records of a file one by one, in file order. Of bytes that are no plan too: the walk ends where no whole record follows.
use Rattle.std.specs.Prelude.{Bool, cond, false, true, ◌&&◌, ◌||◌, Option, Some, None, List, suc, zero, ℕ, ◌+◌, eqb, leb, length}
use Rattle.fields.specs.Fields.{u16_at, u32_at}
use Rattle.plan_format.specs.Plan.{fits}
use Rattle.plan_format.specs.Records.{query_at}
use Rattle.plan_format.specs.declared.Query.{Query}

abbrev pub is_query : ℕ → Bool
is_query kind = eqb kind 16 || (eqb kind 17 || eqb kind 18)

-- whether a whole record starts at `at`
unfoldable pub whole : List ℕ → ℕ → Bool
whole s at = leb (at + 6) (length s) && leb (at + 6 + u32_at s at) (length s)

-- among at most so many records; the Bool says whether a whole record starts at `at`. A query whose length does not fit ends the walk.
unfoldable pub first_query : ℕ → Bool → List ℕ → ℕ → Option (Query × ℕ)
first_query zero more s at = None
first_query (suc k) false s at = None
first_query (suc k) true s at =
    let next = at + 6 + u32_at s at in
    let kind = u16_at s (at + 4) in
    let rest = first_query k (whole s next) s next in
    cond (is_query kind) (cond (fits s at kind (u32_at s at)) (Some (query_at s at, next)) None) rest

-- the first query from `at` on, with the place after it
unfoldable pub next_query : List ℕ → ℕ → Option (Query × ℕ)
next_query s at = first_query (length s) (whole s at) s at
