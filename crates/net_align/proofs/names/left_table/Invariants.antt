use Rattle.std.proofs.Common.{◌≡◌, take}
use Rattle.net_align.specs.Names.{left_names}
use Rattle.net_align.proofs.names.left_table.Given as goal

abbrev pub invariant-loop-line : goal.invariant-loop-line
invariant-loop-line l = l.table ≡ left_names (take l.line-index l.same)
