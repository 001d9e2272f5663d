-- The chain of the search is a cheapest one. In the order of the modules:
-- * What the search asks of costs, and that f32 costs meet it (Laws).
-- * What a turn of the search does, and what holds between turns (Relaxing, Least, Invariant).
-- * What it finds is a cheapest walk along its links, and it refuses only where there is none (Walks, Correct).
-- * The heap form pops by `Ord for State` (HeapOrder) and rebuilds its chain (HeapChain). Its maps and its heap agree with the search's state
--   on each lane that is there (HeapMatch); it ends, and answers the same (HeapSame).
-- * Over tables that hold lanes and link records the answer is a chain of link records, no other chain costs less, and it is refused exactly
--   where there is none (Rows, Optimality); the tables of an accepted plan are such (Theorem).
-- * Worked cases (Cases).
pub mod Laws
pub mod Relaxing
pub mod Least
pub mod Invariant
pub mod Walks
pub mod Correct
pub mod HeapOrder
pub mod HeapChain
pub mod HeapMatch
pub mod HeapSame
pub mod Rows
pub mod Optimality
pub mod Theorem
pub mod Cases
