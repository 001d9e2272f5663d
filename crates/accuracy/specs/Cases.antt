-- Worked cases of the tape: e is 0.1 m, and D may be d + e and no more. On both sides of 0.1 m, at fractions of a lane from (0,0,0) to (1,0,0).
use Rattle.std.specs.Prelude.{[], ◌∷◌, ℕ, ◌+◌, ◌<◌, ◌≤◌, Float}
use Rattle.std.specs.Float.{binary32}
use Rattle.std.specs.Float.Ieee.{of_bits}
use Rattle.std.proofs.Common.{inl, inr, le_trans, arith, lit<, lit≤}
use Rattle.coords.specs.declared.Point.{Point}
use Rattle.exact.specs.Integers.{Z, ◌⊑◌, ◌⊞◌, ◌⊟◌, ◌⊠◌, ◌·◌, sgn, ι}
use Rattle.exact.specs.Values.{U, mag, val}
use Rattle.geometry.specs.Polyline.{point_at}
use Rattle.network.specs.Lanes.{Lane}
use Rattle.accuracy.specs.Taped.{Place, TapedBy, Within10cm}

abbrev f : ℕ → Float
f n = of_bits binary32 n

abbrev metre : Lane
metre = record { row = 0; number = 1; kind = 1; count = 2; points = f 0 ∷ f 0 ∷ f 0 ∷ f 0x3f800000 ∷ f 0 ∷ f 0 ∷ [] }

abbrev start : Point
start = record { x = f 0; y = f 0; z = f 0 }

abbrev end : Point
end = record { x = f 0x3f800000; y = f 0; z = f 0 }

-- so many millionths of a metre from the start
abbrev at : (n : ℕ) → n ≤ 1000000 → Place metre
at n h = record { piece = 0; part = n; whole = 1000000; in_lane = omega arith; at_most = le_trans h (lit≤ tt); some = omega arith }

above : (a b : Z) → b.p + a.n < a.p + b.n → a ⊑ b → ⊥
above a b h k = omega arith

-- the start is within 0.1 m of the place 0.1 m on, and not of the next millionth
within : Within10cm start metre (at 100000 (lit≤ tt))
unfolding U val mag ι ◌⊞◌ ◌⊟◌ ◌⊠◌ ◌·◌ sgn of_bits point_at
within = record { le = lit≤ tt }

not_within : Within10cm start metre (at 100001 (lit≤ tt)) → ⊥
unfolding U val mag ι ◌⊞◌ ◌⊟◌ ◌⊠◌ ◌·◌ sgn of_bits point_at
not_within h = above _ _ (lit< tt) h

-- from the start, the end is 1 m off: by the tape where a place is 0.9 m off, and not where one is a millionth nearer
taped : TapedBy start end metre (at 900000 (lit≤ tt))
unfolding U val mag ι ◌⊞◌ ◌⊟◌ ◌⊠◌ ◌·◌ sgn of_bits point_at
taped = inr (record { le = lit≤ tt })

not_taped : TapedBy start end metre (at 899999 (lit≤ tt)) → ⊥
unfolding U val mag ι ◌⊞◌ ◌⊟◌ ◌⊠◌ ◌·◌ sgn of_bits point_at
not_taped (inl h) = above _ _ (lit< tt) h
not_taped (inr h) = above _ _ (lit< tt) h

-- and where a place is as far, or farther, by the first of its two tests; both ends of a piece are places of it
taped_farther : TapedBy start start metre (at 1000000 (lit≤ tt))
unfolding U val mag ι ◌⊞◌ ◌⊟◌ ◌⊠◌ ◌·◌ sgn of_bits point_at
taped_farther = inl (record { le = lit≤ tt })

taped_here : TapedBy start start metre (at 0 (lit≤ tt))
unfolding U val mag ι ◌⊞◌ ◌⊟◌ ◌⊠◌ ◌·◌ sgn of_bits point_at
taped_here = inl (record { le = lit≤ tt })
