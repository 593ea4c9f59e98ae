use Rattle.std.proofs.Common.{◌≡◌, length, take}
use Rattle.rect_sets.specs.Stripes.{lists_of, AreAdded}
use Rattle.rect_sets.proofs.parts.split.Given as goal

abbrev pub invariant-loop-rect : goal.invariant-loop-rect
invariant-loop-rect l = record {
  count : length (lists_of l.parts.items) ≡ length (lists_of l.fn.parts.items);
  lists : AreAdded l.lines l.fn.parts.items l.parts.items (take l.rect-index l.rects);
}
