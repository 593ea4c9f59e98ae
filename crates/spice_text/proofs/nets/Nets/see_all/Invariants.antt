use Rattle.std.proofs.Common.{◌≡◌, length}
use Rattle.spice_text.specs.Needs.{HaveBytes, first_seen}
use Rattle.spice_text.proofs.nets.Nets.see_all.Given as goal

abbrev pub invariant-names : goal.invariant-names
invariant-names l = HaveBytes l.self.table × (first_seen l.self.table l.rest ≡ first_seen l.fn.self.table l.names)

abbrev pub decreases-names : goal.decreases-names
decreases-names l = length l.rest
