use Rattle.std.proofs.Common.{sym, ap, ◌∙◌, subst, List}
use Rattle.rect_sets.specs.declared.row.Edge.{Edge}
use Rattle.std.specs.List.{All}
use Rattle.geo_base.specs.declared.layer.Op.TheVariants.{Or}
use Rattle.rect_sets.specs.Edges.{IsEdge, IsBalanced, set_of}
use Rattle.poly_fill.proofs.EdgeSums.{sound_along, balanced_along, set_along}
use Rattle.poly_fill.proofs.boundary.fill_boundary.Goals as goal

pub sweep-requires-clause-edges : goal.sweep-requires-clause-edges
sweep-requires-clause-edges c = subst (λ (q : List Edge). All IsEdge q) (sym c.in_ok-edges.ensures) (sound_along c.args.points.now)

pub sweep-requires-clause-balanced : goal.sweep-requires-clause-balanced
sweep-requires-clause-balanced c = subst IsBalanced (sym c.in_ok-edges.ensures) (balanced_along c.args.points.now c.requires)

pub returns : goal.returns
returns c = λ s. c.in_ok-set-2.ensures s ∙ ap (λ (q : List Edge). set_of Or q s) c.in_ok-edges.ensures ∙ set_along c.args.points.now s
