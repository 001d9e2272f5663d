-- What a cheapest chain is, and what is proved of the search: the reader's chains of document 01 and what they cost (Chains), the search as
-- route.rs has it, with maps and a heap (Heap), and the two theorems over accepted plans (Plans). Definitions only; proofs/ has the proofs.
pub mod Chains
pub mod Heap
pub mod Plans
