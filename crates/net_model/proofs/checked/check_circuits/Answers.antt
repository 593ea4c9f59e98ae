use Rattle.std.proofs.Common.{◌≡◌, ◌∙◌, sym, ap, subst, map, length, List, ℕ, Some, None, Option}
use Rattle.std.proofs.lemmas.List.{length-map}
use Rattle.plain_netlist.specs.Netlist.{Netlist}
use Rattle.net_model.specs.Rows.{plain_circuit}
use Rattle.net_model.specs.Faults.{called_by, FindsCycle}
use Rattle.net_model.specs.Tests.{first_of, calls_none}
use Rattle.net_model.specs.declared.netlist.Circuit.{Circuit}
use Rattle.net_model.proofs.CheckLemmas.{no_clash, no_terminal, no_missing, no_other, clash, terminal, missed, other_count, cycle, is_sound, in_range}
use Rattle.net_model.proofs.checked.check_circuits.Goals as goal

abbrev plain : List Circuit → Netlist
plain cs = record { circuits = map plain_circuit cs }

-- the test for calls of none counts the code's circuits
missing_is : (cs : List Circuit) (o : Option ℕ) → first_of (calls_none (length cs)) (map plain_circuit cs) ≡ o → first_of (calls_none (length (map plain_circuit cs))) (map plain_circuit cs) ≡ o
missing_is cs o e = ap (λ n. first_of (calls_none n) (map plain_circuit cs)) (length-map cs plain_circuit) ∙ e

pub returns-in-Some-clause-fault : goal.returns-in-Some-clause-fault
returns-in-Some-clause-fault c = clash (plain c.args.circuits.now) c.in-Some.k (sym c.in_ok-k.ensures ∙ c.in-Some.is)

pub returns-in-Some-first_bad_terminal-clause-fault :
    goal.returns-in-Some-first_bad_terminal-clause-fault
returns-in-Some-first_bad_terminal-clause-fault c =
    let nl = plain c.args.circuits.now in
    terminal nl c.in-Some-first_bad_terminal.k (no_clash nl (sym c.in_ok-k.ensures ∙ c.in_default.is)) (sym c.first_bad_terminal.ensures ∙ c.in-Some-first_bad_terminal.is)

pub returns-in-Some-first_missing-clause-fault : goal.returns-in-Some-first_missing-clause-fault
returns-in-Some-first_missing-clause-fault c =
    let nl = plain c.args.circuits.now in
    missed nl c.in-Some-first_missing.k (no_clash nl (sym c.in_ok-k.ensures ∙ c.in_default.is)) (no_terminal nl (sym c.first_bad_terminal.ensures ∙ c.in_default-first_bad_terminal.is))
    (missing_is c.args.circuits.now (Some c.in-Some-first_missing.k) (sym c.first_missing.ensures ∙ c.in-Some-first_missing.is))

pub returns-in-Some-first_other_count-clause-fault :
    goal.returns-in-Some-first_other_count-clause-fault
returns-in-Some-first_other_count-clause-fault c =
    let nl = plain c.args.circuits.now in
    other_count nl c.in-Some-first_other_count.k (no_clash nl (sym c.in_ok-k.ensures ∙ c.in_default.is)) (no_terminal nl (sym c.first_bad_terminal.ensures ∙ c.in_default-first_bad_terminal.is))
    (no_missing nl (missing_is c.args.circuits.now None (sym c.first_missing.ensures ∙ c.in_default-first_missing.is)))
    (sym c.first_other_count.ensures ∙ c.in-Some-first_other_count.is)

pub first_cycle-requires-clause-range : goal.first_cycle-requires-clause-range
first_cycle-requires-clause-range c =
    let nl = plain c.args.circuits.now in
    in_range nl (no_missing nl (missing_is c.args.circuits.now None (sym c.first_missing.ensures ∙ c.in_default-first_missing.is)))

pub returns-in-Some-2-clause-fault : goal.returns-in-Some-2-clause-fault
returns-in-Some-2-clause-fault c =
    let nl = plain c.args.circuits.now in
    let found = subst (λ (o : Option ℕ). FindsCycle (map called_by nl.circuits) o) c.in-Some-2.is c.in_ok-k-2.ensures in
    cycle nl c.in-Some-2.k (no_clash nl (sym c.in_ok-k.ensures ∙ c.in_default.is)) (no_terminal nl (sym c.first_bad_terminal.ensures ∙ c.in_default-first_bad_terminal.is))
    (no_missing nl (missing_is c.args.circuits.now None (sym c.first_missing.ensures ∙ c.in_default-first_missing.is)))
    (no_other nl (sym c.first_other_count.ensures ∙ c.in_default-first_other_count.is)) found

pub returns-clause-sound : goal.returns-clause-sound
returns-clause-sound c =
    let nl = plain c.args.circuits.now in
    let found = subst (λ (o : Option ℕ). FindsCycle (map called_by nl.circuits) o) c.in_default-2.is c.in_ok-k-2.ensures in
    is_sound nl (no_clash nl (sym c.in_ok-k.ensures ∙ c.in_default.is)) (no_terminal nl (sym c.first_bad_terminal.ensures ∙ c.in_default-first_bad_terminal.is))
    (no_missing nl (missing_is c.args.circuits.now None (sym c.first_missing.ensures ∙ c.in_default-first_missing.is)))
    (no_other nl (sym c.first_other_count.ensures ∙ c.in_default-first_other_count.is)) found
