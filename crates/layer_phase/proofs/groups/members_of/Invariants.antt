use Rattle.std.proofs.Common.{◌≡◌, ◌↔◌, ◌<◌, ℕ, false, true, get_or, length}
use Rattle.layer_phase.specs.Groups.{IsMember}
use Rattle.layer_phase.proofs.groups.members_of.Given as goal

abbrev pub invariant-loop-name : goal.invariant-loop-name
invariant-loop-name l = (length l.members.items ≡ l.name) × ((k : ℕ) → k < l.name → (get_or l.members.items k false ≡ true) ↔ IsMember l.names l.far k)
