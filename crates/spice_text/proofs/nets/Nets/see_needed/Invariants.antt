use Rattle.std.proofs.Common.{◌≡◌, length}
use Rattle.spice_text.specs.Needs.{HaveBytes, first_seen}
use Rattle.spice_text.specs.Table.{picked}
use Rattle.spice_text.proofs.nets.Nets.see_needed.Given as goal

abbrev pub invariant-numbers : goal.invariant-numbers
invariant-numbers l = HaveBytes l.self.table × (first_seen l.self.table (picked l.rest l.globals) ≡ first_seen l.fn.self.table (picked l.row l.globals))

abbrev pub decreases-numbers : goal.decreases-numbers
decreases-numbers l = length l.rest
