use Rattle.std.proofs.Common.{◌≡◌, ap, subst, sym}
use Rattle.rect_sets.specs.EdgeCuts.{AreSides, edges_below, edges_above}
use Rattle.rect_sets.specs.declared.cuts.Axis.{Axis}
use Rattle.rect_sets.specs.declared.cuts.Axis.TheVariants.{Y}
use Rattle.rect_sets.specs.declared.cuts.Cut.{Cut}
use Rattle.rect_sets.proofs.Halving.{level}
use Rattle.rect_sets.proofs.edge_cuts.sides_of.Goals as goal

pub returns-in_ok-low-in-Y : goal.returns-in_ok-low-in-Y
returns-in_ok-low-in-Y c =
    let cut = c.args.cut.now in
    let same : record { axis = Y; at = cut.at } ≡ cut = ap (λ (a : Axis). let k : Cut = record { axis = a; at = cut.at } in k) (sym c.in-Y.is) in
    rw (c.in_ok-low-in-Y.ensures.low, c.in_ok-low-in-Y.ensures.high) (subst (λ (k : Cut). AreSides k c.args.edges.now (edges_below cut.at c.args.edges.now) (edges_above cut.at c.args.edges.now)) same (level cut.at c.args.edges.now c.requires.edges c.requires.balanced))
