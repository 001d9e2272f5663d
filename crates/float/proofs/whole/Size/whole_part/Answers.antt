-- The truncating cast is asked nothing more than `Small` says, and gives the whole part.
use Rattle.std.proofs.Common.{lit≤}
use Rattle.float.proofs.Wholes.{truncates, whole_part}
use Rattle.float.proofs.whole.Size.whole_part.Goals as goal

pub truncating_f32_to_u64-requires : goal.truncating_f32_to_u64-requires
truncating_f32_to_u64-requires c = let h = truncates 23 (lit≤ tt) c.args.self.a c.args.self.small in record { lower_bound = h.0; upper_bound = h.1 }

pub returns : goal.returns
returns c = whole_part 23 (lit≤ tt) _ c.args.self.small c.truncating_f32_to_u64.result c.truncating_f32_to_u64.ensures
