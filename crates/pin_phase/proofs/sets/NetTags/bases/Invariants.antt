use Rattle.std.proofs.Common.{Global, List, Vec, ℕ, map}
use Rattle.deep_tables.specs.Pins.{name_in}
use Rattle.pin_phase.proofs.Marking.{AreBasesTo}
use Rattle.pin_phase.proofs.sets.NetTags.bases.Given as goal

abbrev pub invariant-loop-tags : goal.invariant-loop-tags
invariant-loop-tags l = AreBasesTo l.fn.self (map (λ (v : Vec (List ℕ) Global). v.items) l.tags-iterator.rest.items) (map name_in l.names.items)
