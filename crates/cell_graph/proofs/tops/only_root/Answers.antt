use Rattle.std.proofs.Common.{subst, List, Bool, length, ◌+◌}
use Rattle.cell_graph.specs.Tops.{AreMarkedFrom, IsFree}
use Rattle.cell_graph.proofs.Looking.{parts_resolved}
use Rattle.cell_graph.proofs.Roots.{all_marked_none, two_free, only_free, free_root}
use Rattle.cell_graph.proofs.tops.only_root.Goals as goal

pub placed_of-requires : goal.placed_of-requires
placed_of-requires c = parts_resolved c.args.cells.now c.args.parts.now c.requires.sound.few c.requires.parts

pub returns-in_default-clause-fault : goal.returns-in_default-clause-fault
returns-in_default-clause-fault c =
    let marks = c.in_ok-placed.placed.items in
    let all : AreMarkedFrom marks 0 (length marks) = subst (λ (ms : List Bool). AreMarkedFrom ms 0 (length ms)) c.deref.ensures.value (c.in_default.ensures {u = tt}) in
    (c.requires.sound, all_marked_none c.args.cells.now c.args.parts.now marks c.requires.parts (c.in_ok-placed.ensures {u = tt}) all c.requires.sound.no_deep)

pub returns-in-Some-next_free-clause-fault : goal.returns-in-Some-next_free-clause-fault
returns-in-Some-next_free-clause-fault c =
    let marks = c.in_ok-placed.placed.items in
    let one : IsFree marks 0 c.in-Some.i = subst (λ (ms : List Bool). IsFree ms 0 c.in-Some.i) c.deref.ensures.value (c.in-Some.ensures {u = tt}) in
    let other : IsFree marks (c.in-Some.i + 1) c.in-Some-next_free.j = subst (λ (ms : List Bool). IsFree ms (c.in-Some.i + 1) c.in-Some-next_free.j) c.deref-2.ensures.value (c.in-Some-next_free.ensures {u = tt}) in (
      c.requires.sound,
      c.in-Some.i,
      c.in-Some-next_free.j,
      c.in_ok-one.ensures {u = tt},
      c.in_ok-other.ensures {u = tt},
      two_free c.args.cells.now c.args.parts.now marks c.in-Some.i c.in-Some-next_free.j c.requires.sound.once c.requires.parts (c.in_ok-placed.ensures {u = tt}) one other,
    )

pub returns-clause-tops : goal.returns-clause-tops
returns-clause-tops c =
    let marks = c.in_ok-placed.placed.items in
    let i = c.in-Some.i in
    let one : IsFree marks 0 i = subst (λ (ms : List Bool). IsFree ms 0 i) c.deref.ensures.value (c.in-Some.ensures {u = tt}) in
    let rest : AreMarkedFrom marks (i + 1) (length marks) = subst (λ (ms : List Bool). AreMarkedFrom ms (i + 1) (length ms)) c.deref-2.ensures.value (c.in_default-next_free.ensures {u = tt}) in
    let placed = c.in_ok-placed.ensures {u = tt} in (
      free_root c.args.cells.now c.args.parts.now marks i c.requires.sound.once c.requires.parts placed one.there one.free,
      only_free c.args.cells.now c.args.parts.now marks i c.requires.sound.once c.requires.parts placed one rest,
    )
