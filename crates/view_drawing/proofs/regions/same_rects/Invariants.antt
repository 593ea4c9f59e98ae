use Rattle.std.proofs.Common.{◌≡◌, length}
use Rattle.view_drawing.proofs.regions.same_rects.Given as goal

abbrev pub invariant-rects : goal.invariant-rects
invariant-rects l = l.rest ≡ l.behind → l.some ≡ l.others

abbrev pub decreases-rects : goal.decreases-rects
decreases-rects l = length l.rest
