use Rattle.std.proofs.Common.{◌≡◌, drop}
use Rattle.std.specs.List.{All}
use Rattle.rect_sets.specs.Edges.{first_of, second_of, IsEdge}
use Rattle.rect_sets.specs.Sums.{first_change, second_change, AreFrom, IsBegun, IsSummed}
use Rattle.rect_sets.proofs.sums.sums.Given as goal

abbrev pub invariant-loop-end : goal.invariant-loop-end
invariant-loop-end l = record {
  from : AreFrom l.begun.edge.y2 (drop l.end-index l.end-items);
  begun : IsBegun l.begun;
  at : l.begun.edge.x ≡ l.cut.at;
  sound : All IsEdge l.out.items;
  line : All (λ e. e.x ≡ l.cut.at) l.out.items;
  first : IsSummed first_of first_change l.end-items (drop l.end-index l.end-items) l.out.items l.begun.edge l.begun.first;
  second : IsSummed second_of second_change l.end-items (drop l.end-index l.end-items) l.out.items l.begun.edge l.begun.second;
}
