use Rattle.std.proofs.Common.{ℕ, length, sym, subst, arith}
use Rattle.match_rounds.specs.Classes.{IsPartition, KeepsFresh, node_count}
use Rattle.match_rounds.specs.Pieces.{AreLoose, ArePartedBy}
use Rattle.match_rounds.proofs.Grouped.{fresh_on, grown_on}
use Rattle.match_rounds.proofs.PortsDone.{step, loose, all_ports}
use Rattle.match_rounds.proofs.looking.part_by_ends.Goals as goal

pub part_by-requires-clause-parts : goal.part_by-requires-clause-parts
part_by-requires-clause-parts c =
    subst (λ (m : ℕ). AreLoose c.loop-i.classes.class_of.items c.list_parts.new.parts.items m) (sym c.loop-i.invariant.0.classes.long)
    (loose c.loop-i.classes c.args.touched.now c.loop-i.i c.port_end-end.result (node_count c.args.classes.now) c.list_parts.new.parts.items c.in_ok-list_parts.ensures c.port_end-end.ensures.fits c.requires.nodes)

pub loop-i-preserved : goal.loop-i-preserved
loop-i-preserved c =
    let long = c.loop-i.invariant.0.classes.long in (
      subst (λ (m : ℕ). IsPartition c.part_by.new.classes c.args.left_count m) long c.in_ok-part_by.ensures.partition,
      fresh_on c.args.classes.now c.loop-i.classes c.part_by.new.classes (node_count c.args.classes.now) c.loop-i.invariant.1
          (subst (λ (m : ℕ). KeepsFresh c.loop-i.classes c.part_by.new.classes m) long c.in_ok-part_by.ensures.fresh),
      step c.args.classes.now c.loop-i.classes c.part_by.new.classes c.args.touched.now c.loop-i.i c.port_end-end.result (node_count c.args.classes.now) c.list_parts.new.parts.items
          c.requires.order c.loop-i-test.true c.port_end-end.ensures c.loop-i.invariant.2 c.in_ok-list_parts.ensures
          (subst (λ (m : ℕ). ArePartedBy c.loop-i.classes.class_of.items c.part_by.new.classes.class_of.items c.list_parts.new.parts.items (length c.list_parts.new.parts.items) m) long c.in_ok-part_by.ensures.parted),
      grown_on c.args.classes.now c.loop-i.classes c.part_by.new.classes c.loop-i.invariant.3 c.in_ok-part_by.ensures.grown,
    )

pub returns-clause-parted : goal.returns-clause-parted
returns-clause-parted c = all_ports c.args.classes.now c.loop-i.classes c.args.touched.now c.loop-i.i (node_count c.args.classes.now) (let e = c.loop-i-test.false in omega arith) c.loop-i.invariant.2
