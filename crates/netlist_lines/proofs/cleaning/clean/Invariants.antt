use Rattle.std.proofs.Common.{◌≡◌, length}
use Rattle.netlist_lines.specs.Cleaning.{cleaned, is_cut}
use Rattle.netlist_lines.specs.declared.cleaning.At.TheVariants.{Before}
use Rattle.netlist_lines.proofs.cleaning.clean.Given as goal

abbrev pub invariant-bytes : goal.invariant-bytes
invariant-bytes l = (cleaned l.out.items l.at l.rest ≡ cleaned l.fn.out.items Before l.bytes) × (is_cut l.at l.rest ≡ is_cut Before l.bytes)

abbrev pub decreases-bytes : goal.decreases-bytes
decreases-bytes l = length l.rest
