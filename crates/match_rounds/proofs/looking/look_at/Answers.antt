use Rattle.std.proofs.Common.{◌<◌, ℕ, List, length, sym, subst}
use Rattle.std.specs.List.{flat_map}
use Rattle.std.specs.List.Sorted.{IsPermutation}
use Rattle.match_graph.specs.declared.graph.End.{End}
use Rattle.match_graph.specs.Graph.{ends_at, nodes_of}
use Rattle.match_rounds.specs.Touching.{AreInOrder, end_at}
use Rattle.match_rounds.specs.Looking.{ArePartedByEnds}
use Rattle.match_rounds.proofs.PortsDone.{moved}
use Rattle.match_rounds.proofs.TouchedNodes.{nodes_below}
use Rattle.match_rounds.proofs.looking.look_at.Goals as goal

pub part_by_ends-requires-clause-order : goal.part_by_ends-requires-clause-order
part_by_ends-requires-clause-order c = subst AreInOrder (sym c.deref.ensures.value) c.sort_ends.ensures.sorted

pub part_by_ends-requires-clause-nodes : goal.part_by_ends-requires-clause-nodes
part_by_ends-requires-clause-nodes c =
    subst (λ (m : ℕ). (k : ℕ) → k < length c.deref.result.now → (end_at c.deref.result.now k).node < m) (sym c.requires.partition.classes.long)
    (nodes_below c.args.graph.now c.args.members.now c.deref.result.now c.requires.graph c.requires.members
    (subst (λ (xs : List End). IsPermutation xs c.deref.result.now) c.in_ok-list_touched.ensures
    (subst (λ (xs : List End). IsPermutation c.list_touched.new.touched.items xs) (sym c.deref.ensures.value) c.sort_ends.ensures.permutation)))

pub returns-clause-parted : goal.returns-clause-parted
returns-clause-parted c =
    moved c.args.classes.now c.part_by_ends.new.classes (flat_map (ends_at c.args.graph.now) c.args.members.now) c.deref.result.now (nodes_of c.args.graph.now)
    (subst (λ (xs : List End). IsPermutation xs c.deref.result.now) c.in_ok-list_touched.ensures
    (subst (λ (xs : List End). IsPermutation c.list_touched.new.touched.items xs) (sym c.deref.ensures.value) c.sort_ends.ensures.permutation))
    (subst (λ (m : ℕ). ArePartedByEnds c.args.classes.now c.part_by_ends.new.classes c.deref.result.now m) c.requires.partition.classes.long c.in_ok-part_by_ends.ensures.parted)
