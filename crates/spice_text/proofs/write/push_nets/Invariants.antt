use Rattle.std.proofs.Common.{◌≡◌, ◌++◌, length}
use Rattle.spice_text.specs.Written.{nets_text}
use Rattle.spice_text.proofs.write.push_nets.Given as goal

abbrev pub invariant-nets : goal.invariant-nets
invariant-nets l = l.out.items ++ nets_text l.nets l.rest ≡ l.initial.out.items ++ nets_text l.nets l.numbers

abbrev pub decreases-nets : goal.decreases-nets
decreases-nets l = length l.rest
