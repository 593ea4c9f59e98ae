use Rattle.std.proofs.Common.{◌≡◌, max, drop, get_or, map}
use Rattle.rule_layers.specs.Formulas.{greatest}
use Rattle.layout_shapes.proofs.reach.furthest.Given as goal

abbrev pub invariant-loop-line : goal.invariant-loop-line
invariant-loop-line l = max l.most (greatest (map (λ o. get_or l.reaches o.layer 0) (drop l.line-index l.lines))) ≡ greatest (map (λ o. get_or l.reaches o.layer 0) l.lines)
