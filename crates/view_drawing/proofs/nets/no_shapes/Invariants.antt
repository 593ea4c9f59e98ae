use Rattle.view_drawing.specs.Nets.{HasNone}
use Rattle.view_drawing.proofs.nets.no_shapes.Given as goal

abbrev pub invariant-counts : goal.invariant-counts
invariant-counts l = HasNone l.counter l.lists.items
