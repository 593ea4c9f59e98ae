use Rattle.std.proofs.Common.{◌∙◌, ap, refl, map, List}
use Rattle.spice_text.specs.Seen.{circuit_seen, some_circuit, cards_seen}
use Rattle.spice_text.specs.declared.gather.CircuitCards.{CircuitCards}
use Rattle.spice_text.proofs.CallLemmas.{whole_fault}
use Rattle.spice_text.proofs.ordered.order_cards.Goals as goal

pub returns-in-Some-clause-fault : goal.returns-in-Some-clause-fault
returns-in-Some-clause-fault c = (circuit_seen c.in-Some.open, ap some_circuit c.in-Some.is, refl)

pub returns-in-Err-clause-fault : goal.returns-in-Err-clause-fault
returns-in-Err-clause-fault c = whole_fault (cards_seen c.args.all) (map circuit_seen c.deref.result.now) c.in-Err.e (ap some_circuit c.in_default.is) (ap (λ (xs : List CircuitCards). map circuit_seen xs) c.deref.ensures.value ∙ c.in_ok-circuits.ensures) c.in-Err.ensures.fault
