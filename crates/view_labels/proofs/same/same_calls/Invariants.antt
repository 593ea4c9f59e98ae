use Rattle.std.proofs.Common.{◌↔◌, length, map}
use Rattle.net_model.specs.Rows.{plain_call}
use Rattle.view_labels.specs.Same.{AreSameCalls}
use Rattle.view_labels.proofs.same.same_calls.Given as goal

abbrev pub invariant-calls : goal.invariant-calls
invariant-calls l = AreSameCalls l.shown (map plain_call l.rest) (map plain_call l.behind) ↔ AreSameCalls l.shown (map plain_call l.some) (map plain_call l.others)

abbrev pub decreases-calls : goal.decreases-calls
decreases-calls l = length l.rest
