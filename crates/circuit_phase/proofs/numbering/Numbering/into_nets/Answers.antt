use Rattle.std.proofs.Common.{ℕ, List, ap, subst}
use Rattle.plain_netlist.specs.Lists.{AreApart}
use Rattle.circuit_phase.specs.Numbering.{Numbered}
use Rattle.circuit_phase.proofs.Counting.{numbers_apart}
use Rattle.circuit_phase.proofs.numbering.Numbering.into_nets.Goals as goal

pub returns-clause-apart : goal.returns-clause-apart
returns-clause-apart c =
    let a = c.self.inside in
    subst (λ (l : List ℕ). AreApart l) (ap (λ (v : Numbered). v.nets) c.self.view_is) (numbers_apart a.numbers.items a.nets.items c.self.invariant)
