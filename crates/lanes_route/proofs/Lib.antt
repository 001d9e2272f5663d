-- What the public call rests on.
-- the tables of an accepted file
pub mod Fronts
