use Rattle.std.proofs.Common.{◌≡◌, ◌++◌, drop, map}
use Rattle.std.specs.List.{All}
use Rattle.view_words.specs.Numbers.{IsSmallRect}
use Rattle.view_drawing.specs.Devices.{seen_from}
use Rattle.view_drawing.proofs.regions.rects_from.Given as goal

abbrev pub invariant-rects : goal.invariant-rects
invariant-rects l =
    (l.out.items ++ map (seen_from l.p) (drop l.k l.rects) ≡ map (seen_from l.p) l.rects)
    × All IsSmallRect l.out.items
