use Rattle.std.proofs.Common.{◌≡◌, take}
use Rattle.net_align.specs.Names.{right_names}
use Rattle.net_align.proofs.names.right_table.Given as goal

abbrev pub invariant-loop-line : goal.invariant-loop-line
invariant-loop-line l = l.table ≡ right_names (take l.line-index l.same)
