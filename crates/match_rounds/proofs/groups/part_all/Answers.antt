use Rattle.std.proofs.Common.{◌≡◌, ℕ, List, length, sym, subst, arith}
use Rattle.match_rounds.specs.Classes.{AreAlike, IsPartition, IsPartedOff, KeepsFresh, node_count}
use Rattle.match_rounds.specs.Pieces.{ArePartedBy, AreNodesOf}
use Rattle.match_rounds.proofs.Grouped.{step, fresh_on, group_alike, grown_on}
use Rattle.match_rounds.proofs.groups.part_all.Goals as goal

pub loop-i-preserved : goal.loop-i-preserved
loop-i-preserved c =
    let long = c.loop-i.invariant.0.classes.long in
    let nodes = subst (λ (xs : List ℕ). AreNodesOf c.args.parts.now c.loop-i.i c.group_end-end.result xs) (sym c.deref.ensures.value) c.in_ok-list_nodes.ensures in (
      subst (λ (m : ℕ). IsPartition c.part.new.self c.args.left_count m) long c.in_ok-part.ensures.partition,
      fresh_on c.args.classes.now c.loop-i.classes c.part.new.self (node_count c.args.classes.now) c.loop-i.invariant.1
          (subst (λ (m : ℕ). KeepsFresh c.loop-i.classes c.part.new.self m) long c.in_ok-part.ensures.fresh),
      step c.args.classes.now.class_of.items c.loop-i.classes c.part.new.self c.args.parts.now c.loop-i.i c.group_end-end.result (node_count c.args.classes.now) c.deref.result.now
          c.requires.parts c.group_end-end.ensures nodes c.loop-i.invariant.2 c.loop-i.invariant.0.classes
          (subst (λ (m : ℕ). IsPartedOff c.loop-i.classes c.part.new.self c.deref.result.now m) long c.in_ok-part.ensures.parted),
      grown_on c.args.classes.now c.loop-i.classes c.part.new.self c.loop-i.invariant.3 c.in_ok-part.ensures.grown,
    )

pub returns-clause-parted : goal.returns-clause-parted
returns-clause-parted c =
    let fits = c.loop-i.invariant.2.fits in
    let e : c.loop-i.i ≡ length c.args.parts.now = omega arith in
    subst (λ (i : ℕ). ArePartedBy c.args.classes.now.class_of.items c.loop-i.classes.class_of.items c.args.parts.now i (node_count c.args.classes.now)) e c.loop-i.invariant.2.parted

pub part-requires-clause-nodes : goal.part-requires-clause-nodes
part-requires-clause-nodes c =
    let nodes = subst (λ (xs : List ℕ). AreNodesOf c.args.parts.now c.loop-i.i c.group_end-end.result xs) (sym c.deref.ensures.value) c.in_ok-list_nodes.ensures in
    subst (λ (m : ℕ). AreAlike c.loop-i.classes.class_of.items c.deref.result.now m) (sym c.loop-i.invariant.0.classes.long)
    (group_alike c.args.classes.now.class_of.items c.loop-i.classes.class_of.items c.args.parts.now c.loop-i.i c.group_end-end.result (node_count c.args.classes.now) c.deref.result.now
    c.requires.parts c.group_end-end.ensures nodes c.loop-i.invariant.2)
