use Rattle.std.proofs.Common.{◌≡◌, ◌++◌, drop, map}
use Rattle.match_types.specs.Plain.{plain_answer}
use Rattle.view_file.specs.Shown.{pairs_from}
use Rattle.view_file.proofs.cross.push_answers.Given as goal

abbrev pub invariant-pairs : goal.invariant-pairs
invariant-pairs l =
    l.out.items ++ pairs_from l.names l.shown l.k (map plain_answer (drop l.k l.answers)) ≡ l.initial.out.items ++ pairs_from l.names l.shown 0 (map plain_answer l.answers)
