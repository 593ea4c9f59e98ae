use Rattle.std.proofs.Common.{◌++◌}
use Rattle.rect_sets.specs.Divided.{kept}
use Rattle.rect_sets.specs.Edges.{set_of}
use Rattle.rect_sets.specs.Sweeps.{AreBlocks}
use Rattle.rect_sets.proofs.Halved.{touching_rects, halved, levelled}
use Rattle.rect_sets.proofs.halves.+blocks_by.Goals as goal
use Rattle.rect_sets.proofs.halves.+blocks_by.Goals.{in-X+in_ok-edges-in-X+in_ok-joined-in-X, in-Y+in_ok-joined-in-Y}

pub touching-requires-clause-high : goal.touching-requires-clause-high
touching-requires-clause-high t c =
    rw (c.in_ok-done.ensures.high, c.deref-4.ensures.value)
    (touching_rects (set_of c.args.op c.in-Some-2.field-0.high.items) c.in-Some.cut c.in_ok-high.high.items c.in_ok-high.ensures)

pub touching-requires-clause-low : goal.touching-requires-clause-low
touching-requires-clause-low t c =
    rw (c.deref-in-X.ensures.value, c.in_ok-done.ensures.low, c.deref-3.ensures.value)
    (touching_rects (set_of c.args.op c.in-Some-2.field-0.low.items) c.in-Some.cut c.in_ok-low-2.low.items c.in_ok-low-2.ensures)

pub returns : goal.returns
returns t c =
    let cut = c.in-Some.cut in
    let low = c.in_ok-low-2.low.items in
    let high = c.in_ok-high.high.items in
    let sides = rw (c.in-Some-2.is, c.deref-2.ensures.value) at c.in_ok-low.ensures in
    let whole : AreBlocks (set_of c.args.op c.args.edges.items) ((kept cut high ++ kept cut low) ++ c.match-cut.joined.items) = elim c.match-cut.branch [
      | in-X+in_ok-edges-in-X+in_ok-joined-in-X w ↦ rw w.joined-is (
          halved c.args.op cut c.args.edges.items _ _ w.in_ok-edges-in-X.edges.items low high w.in_ok-joined-in-X.joined.items sides c.in_ok-low-2.ensures c.in_ok-high.ensures
          (λ s. rw (w.deref-in-X.ensures.value, c.in_ok-done.ensures.high, c.in_ok-done.ensures.low, c.deref-3.ensures.value, c.deref-4.ensures.value) at (w.in_ok-edges-in-X.ensures.set s))
          w.in_ok-joined-in-X.ensures)
      | in-Y+in_ok-joined-in-Y w ↦ (let joined = rw (c.in_ok-done.ensures.high, c.in_ok-done.ensures.low, c.deref-3.ensures.value, c.deref-4.ensures.value) at w.in_ok-joined-in-Y.ensures in
          rw w.joined-is (levelled c.args.op cut c.args.edges.items _ _ low high w.in_ok-joined-in-Y.joined.items w.in-Y.is sides c.in_ok-low-2.ensures c.in_ok-high.ensures joined))
    ] in
    rw (c.in_ok-extend_from_slice.ensures.items, c.deref-5.ensures.value, c.in_ok-done.ensures.done, c.deref-3.ensures.value, c.deref-4.ensures.value) whole
