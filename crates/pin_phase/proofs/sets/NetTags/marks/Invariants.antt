use Rattle.std.proofs.Common.{Global, List, Vec, ◌≡◌, ℕ, map, take}
use Rattle.pin_phase.proofs.Marking.{has_some}
use Rattle.pin_phase.proofs.sets.NetTags.marks.Given as goal

abbrev pub invariant-loop-tags : goal.invariant-loop-tags
invariant-loop-tags l = l.marks.items ≡ map (λ (v : Vec (List ℕ) Global). has_some v.items) (take l.tags-index l.tags-items)
