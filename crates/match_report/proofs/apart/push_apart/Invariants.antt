use Rattle.std.proofs.Common.{◌≡◌, ◌++◌, map, drop}
use Rattle.match_types.specs.Plain.{plain_answer}
use Rattle.net_model.specs.Rows.{plain_circuit}
use Rattle.match_report.specs.Apart.{apart_texts}
use Rattle.match_report.proofs.apart.push_apart.Given as goal

abbrev pub invariant-pairs : goal.invariant-pairs
invariant-pairs l =
    l.out.items ++ apart_texts (map plain_circuit l.lefts) (map plain_circuit l.rights) l.k (drop l.k l.goes) (map plain_answer (drop l.k l.answers))
    ≡ l.initial.out.items ++ apart_texts (map plain_circuit l.lefts) (map plain_circuit l.rights) 0 l.goes (map plain_answer l.answers)
