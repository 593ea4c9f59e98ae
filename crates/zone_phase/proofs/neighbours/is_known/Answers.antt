use Rattle.zone_phase.proofs.neighbours.is_known.Goals as goal

pub returns-in-Some : goal.returns-in-Some
returns-in-Some c = λ e. rw c.deref.ensures.value at (c.lies_so.ensures e)
