use Rattle.std.proofs.Common.{Global, List, Vec, map, ℕ}
use Rattle.pin_phase.specs.Sets.{HaveNone}
use Rattle.pin_phase.proofs.sets.NetTags.new.Given as goal

abbrev pub invariant-loop : goal.invariant-loop
invariant-loop l = HaveNone l.counter (map (λ (v : Vec (List ℕ) Global). v.items) l.lists.items)
