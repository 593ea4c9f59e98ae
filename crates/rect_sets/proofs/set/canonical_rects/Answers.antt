use Rattle.rect_sets.proofs.Unique.{all_rects, rect_of}
use Rattle.rect_sets.proofs.set.canonical_rects.Goals as goal

pub returns : goal.returns
returns c = λ rects h. all_rects rects (λ r i. rect_of _ r ((h.each r).0 i))
