use Rattle.std.proofs.Common.{◌≡◌, length, map}
use Rattle.net_model.specs.Rows.{plain_circuit}
use Rattle.view_pairs.specs.Added.{rows_in}
use Rattle.view_pairs.specs.Proposals.{AreShown}
use Rattle.view_pairs.specs.Sure.{AreAllSure}
use Rattle.view_pairs.proofs.pairs.proposals.Given as goal

abbrev pub invariant-loop-k : goal.invariant-loop-k
invariant-loop-k g l =
    AreShown (map plain_circuit l.lefts) (map plain_circuit l.rights) l.same_pins l.out.proposals.items (rows_in l.out)
    × (length l.out.proposals.items ≡ l.k)
    × AreAllSure (map plain_circuit l.lefts) (map plain_circuit l.rights) (g.R.Reads.value l.answers) (rows_in l.out)
