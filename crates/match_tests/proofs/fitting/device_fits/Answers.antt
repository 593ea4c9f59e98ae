use Rattle.std.proofs.Common.{List, ℕ, subst}
use Rattle.match_parts.specs.Rows.{AreBelow}
use Rattle.match_tests.proofs.Rows.{listed_below}
use Rattle.match_tests.proofs.fitting.device_fits.Goals as goal

pub returns : goal.returns
returns c t m i = listed_below _ _ m (subst (λ (ns : List ℕ). AreBelow ns c.args.count) c.terminal_nets.ensures (c.are_below.ensures t)) i
