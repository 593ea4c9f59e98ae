use Rattle.std.proofs.Common.{◌↔◌, List, arith, sym, subst}
use Rattle.cell_graph.specs.Linked.{plain}
use Rattle.flat_layout.specs.Regions.{IsGrounded, IsJoined}
use Rattle.net_link_laws.proofs.Standing.{items_long}
use Rattle.net_phase.proofs.Linking.{all_of}
use Rattle.net_phase.proofs.linked.cell_links.Goals as goal
use Rattle.net_phase.specs.Below.{tables_seen, wiring_seen}
use Rattle.net_walk.specs.Globals.{IsGroundedBy}
use Rattle.net_walk.specs.declared.globals.Grounded.{Grounded}
use Rattle.touching_pieces.specs.Pairs.{AreJoined}
use Rattle.touching_pieces.specs.declared.conductors.Joined.{Joined}

pub all_links-requires-clause-joins : goal.all_links-requires-clause-joins
all_links-requires-clause-joins g c = λ x e.
    subst (λ (l : List Joined). AreJoined l x e ↔ IsJoined (wiring_seen c.args.below.now) x e) (sym c.deref.ensures.value) (c.requires.wires.joins x e)

pub all_links-requires-clause-lines : goal.all_links-requires-clause-lines
all_links-requires-clause-lines g c = λ x n.
    subst (λ (l : List Grounded). IsGroundedBy l x n ↔ IsGrounded (wiring_seen c.args.below.now) x n) (sym c.deref-then-not-is_large.ensures.value) (c.requires.wires.grounds x n)

pub square_links-requires : goal.square_links-requires
square_links-requires g c =
    let v = c.args.below.now in
    record {
      site = record {
        right = c.requires.right;
        firsts = rw c.deref-2.ensures.value c.in_ok-firsts.ensures;
        room = (let long = items_long (plain v.design) (wiring_seen v) (tables_seen v) c.args.cell in let count = c.requires.count in omega (arith, long, count));
        joins = λ x e. subst (λ (l : List Joined). AreJoined l x e ↔ IsJoined (wiring_seen v) x e) (sym c.deref-3.ensures.value) (c.requires.wires.joins x e);
      };
    }

pub global_links-requires-clause-lines : goal.global_links-requires-clause-lines
global_links-requires-clause-lines g c = λ x n.
    subst (λ (l : List Grounded). IsGroundedBy l x n ↔ IsGrounded (wiring_seen c.args.below.now) x n) (sym c.deref-5.ensures.value) (c.requires.wires.grounds x n)

pub overflow_sub-globals : goal.overflow_sub-globals
overflow_sub-globals g c =
    let v = c.args.below.now in
    let long = items_long (plain v.design) (wiring_seen v) (tables_seen v) c.args.cell in
    let count = c.requires.count in
    let globals = c.requires.wires.globals in
    omega (arith, long, count, globals)

pub global_links-requires-clause-globals : goal.global_links-requires-clause-globals
global_links-requires-clause-globals g c =
    let v = c.args.below.now in
    let long = items_long (plain v.design) (wiring_seen v) (tables_seen v) c.args.cell in
    let count = c.requires.count in
    let globals = c.requires.wires.globals in
    record { count = globals; at = omega (arith, long, count, globals); room = omega (arith, long, count) }

pub returns : goal.returns
returns g c =
    let v = c.args.below.now in
    all_of (plain v.design) (wiring_seen v) (tables_seen v) c.args.cell c.in_ok-links.links.items c.global_links.new.out.items c.in_ok-links.ensures c.in_ok-global_links.ensures
