use Rattle.std.proofs.Common.{◌++◌, ◌∷◌, [], List, Option, None, ap, arith, ◌∙◌}
use Rattle.std.proofs.Math.ListN.{replicate}
use Rattle.cell_graph.specs.declared.bounds.Bounds.{Bounds}
use Rattle.cell_graph.proofs.Rounds.{replicate_last}
use Rattle.cell_graph.proofs.extents.nothing.Goals as goal

pub loop-preserved : goal.loop-preserved
loop-preserved c = (c.in_ok-push.ensures {u = tt}).items ∙ ap (λ (xs : List (Option Bounds)). xs ++ None ∷ []) c.loop.invariant ∙ replicate_last c.loop.counter None

pub returns : goal.returns
returns c = c.loop.invariant ∙ ap (λ k. replicate k None) (let le = c.loop-test.false in let ge = c.loop.auto.counter-end in omega arith)
