use Rattle.std.proofs.Common.{arith}
use Rattle.device_merge.proofs.Few.{never_wider}
use Rattle.device_merge.proofs.merged.merge_narrow.Goals as goal

pub unreachable-requires : goal.unreachable-requires
unreachable-requires c = never_wider c.args.c.now c.in_ok-merged.field-0 c.requires (let long = c.len.ensures in let few = c.in_ok-number.ensures.few in omega (arith, long, few)) c.in_default.is c.in_ok-merged.ensures
