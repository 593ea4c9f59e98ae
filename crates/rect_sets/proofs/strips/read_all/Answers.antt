use Rattle.std.proofs.Common.{rules, arith, pos, get_or, ◌≤ℤ◌, w64}
use mir.Val.{SFits}
use Rattle.std.proofs.lemmas.Int.{ints}
use Rattle.std.proofs.lemmas.List.{take_all}
use Rattle.std.proofs.lemmas.List.Elements.{All-more}
use Rattle.rect_sets.specs.Actives.{leftmost}
use Rattle.rect_sets.specs.declared.row.Edge.{Edge}
use Rattle.rect_sets.proofs.strips.read_all.Goals as goal

pub loop-edge-preserved : goal.loop-edge-preserved
loop-edge-preserved c =
    let zero : Edge = record { x = pos 0; y1 = pos 0; y2 = pos 0; first = pos 0; second = pos 0 } in
    let f : SFits w64 (get_or c.args.edges.now c.loop-edge.edge-index zero).x = search rules in
    let m = f.sfits in
    All-more (λ (e : Edge). leftmost ≤ℤ e.x) c.args.edges.now c.loop-edge.edge-index zero (omega arith) c.loop-edge.invariant (omega (arith, ints))

pub returns : goal.returns
returns c = rw (take_all c.loop-edge.edge-index c.args.edges.now (omega arith)) at c.loop-edge.invariant
