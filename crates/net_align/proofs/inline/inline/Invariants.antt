use Rattle.std.proofs.Common.{◌≡◌, map, take}
use Rattle.net_model.specs.Rows.{plain_call, plain_circuit}
use Rattle.net_align.specs.Laid.{all_laid, own_part, goes_of}
use Rattle.net_align.proofs.inline.inline.Given as goal

abbrev pub invariant-loop-k : goal.invariant-loop-k
invariant-loop-k g l = plain_circuit l.flat ≡ all_laid (goes_of l.goes) g.f 0 (map plain_call (take l.k l.given.calls.items)) (own_part (goes_of l.goes) (plain_circuit l.given))

abbrev pub ghost-lay_call : goal.ghost-lay_call
ghost-lay_call g a = g.f
