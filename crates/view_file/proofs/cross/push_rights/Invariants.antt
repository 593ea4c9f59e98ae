use Rattle.std.proofs.Common.{◌≡◌, ◌++◌, length, map}
use Rattle.net_model.specs.Rows.{plain_circuit}
use Rattle.view_file.specs.Cross.{right_texts}
use Rattle.view_file.proofs.cross.push_rights.Given as goal

abbrev pub invariant-circuits : goal.invariant-circuits
invariant-circuits l = l.out.items ++ right_texts (map plain_circuit l.rest) ≡ l.initial.out.items ++ right_texts (map plain_circuit l.rights)

abbrev pub decreases-circuits : goal.decreases-circuits
decreases-circuits l = length l.rest
