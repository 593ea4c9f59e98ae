use Rattle.std.proofs.Common.{sym}
use Rattle.rect_sets.proofs.Unique.{all_rects, rect_of}
use Rattle.rect_sets.proofs.set.RectSet.rects.Goals as goal

pub returns-clause-sound : goal.returns-clause-sound
returns-clause-sound c = rw (sym c.self.view_is) (all_rects c.self.inside.rects.items (λ r h. rect_of _ r ((c.self.invariant.each r).0 h)))
