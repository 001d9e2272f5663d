-- The pieces that the program writes, one after the other, are the whole text of the file: each call leaves its piece on the page that the
-- program then writes, and the pieces' texts joined are the file's.
use Rattle.std.specs.Prelude.{Some, None, false, true, Option, ◌≡◌, ℕ}
use Rattle.std.proofs.Common.{true≢false, ap, sym, ◌∙◌}
use mathlib.Core.List.{List, [], ◌++◌, ◌∷◌}
use Rattle.std.proofs.Math.Path.{refl, subst}
use Rattle.plan_format.specs.Plan.{Decoded, accepted, decode, refused}
use Rattle.plan_format.specs.declared.Query.{Query}
use Rattle.plan_queries.specs.Followed.{Follows, queries_follow}
use Rattle.arrayvec.specs.ArrayVec.{ArrayVec}
use Rattle.replies.specs.Printed.{Part, Writes, first_by, first_part, next_by, next_part, printed, printed_by, replies_to, reply_to}

-- ---- the bytes of a piece

-- THE LAW of a call: the page, which `plan-run` writes after it, has the bytes of the piece's text
pub written_text : {x : Part} {next : Option ℕ} {page : ArrayVec ℕ} → Writes x next page → page.items ≡ x.text
written_text W = W.text

-- ---- the pieces, one after the other

-- the text that a piece and those after it make
pub data Pieces (f : List ℕ) : Part → List ℕ → Type 0 where
  last : (x : Part) → x.more ≡ false → Pieces f x x.text
  then : (x : Part) (rest : List ℕ) → x.more ≡ true → Pieces f (next_part f x.next) rest → Pieces f x (x.text ++ rest)

module _ (f : List ℕ) where
  follow : (at : ℕ) (qs : List Query) → Follows f at qs → Pieces f (next_part f at) (replies_to f qs)
  unfolding replies_to next_by
  follow at [] (Follows.done m e) = subst (λ (n : Option (Query × ℕ)). Pieces f (next_by f at n) []) (sym e) (last (next_by f at None) refl)
  follow at (q ∷ qs) (Follows.then m next r rs e F) =
      subst (λ (n : Option (Query × ℕ)). Pieces f (next_by f at n) (reply_to f q ++ replies_to f qs)) (sym e)
      (then (next_by f at (Some (q, next))) (replies_to f qs) refl (follow next qs F))

  pieces_by : (d : Decoded) → decode 0 f ≡ d → Pieces f (first_by d) (printed_by f d)
  unfolding first_by printed_by
  pieces_by (refused n) e = last (first_by (refused n)) refl
  pieces_by (accepted p) e = then (first_by (accepted p)) (replies_to f p.queries) refl (follow 0 p.queries (queries_follow 0 f p e))

  -- THE LAW of the pieces: from the first on they make the whole text
  pub printed_pieces : Pieces f (first_part f) (printed f)
  printed_pieces = pieces_by (decode 0 f) refl

-- they make one text only
pub pieces_one : (f : List ℕ) (x : Part) (a b : List ℕ) → Pieces f x a → Pieces f x b → a ≡ b
pieces_one f x a b (last y e) (last z g) = refl
pieces_one f x a b (last y e) (then z rest g P) = absurd (true≢false (sym g ∙ e))
pieces_one f x a b (then y rest e P) (last z g) = absurd (true≢false (sym e ∙ g))
pieces_one f x a b (then y r e P) (then z t g Q) = ap (λ (l : List ℕ). x.text ++ l) (pieces_one f (next_part f x.next) r t P Q)
