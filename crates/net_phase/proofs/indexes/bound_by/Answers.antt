use Rattle.std.proofs.Common.{◌^◌, subst, arith}
use Rattle.cell_context.proofs.Visiting.{wider_rect}
use Rattle.cell_graph.specs.Linked.{HullIsSound, IsHull}
use Rattle.net_phase.proofs.indexes.bound_by.Goals as goal

pub grown-requires : goal.grown-requires
grown-requires c =
    let h : IsHull c.in-Some.hull = subst HullIsSound c.in-Some.is c.requires in
    wider_rect (2 ^ 36) (2 ^ 39) c.in-Some.hull (omega arith) h.near
