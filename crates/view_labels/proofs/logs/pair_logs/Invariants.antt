use Rattle.std.proofs.Common.{◌≡◌, ◌++◌, drop, map}
use Rattle.match_report.specs.Report.{answers_of, lefts_of}
use Rattle.view_labels.specs.Logs.{gate_log, pair_logs, texts_of}
use Rattle.view_labels.proofs.logs.pair_logs.Given as goal

abbrev pub invariant-pairs : goal.invariant-pairs
invariant-pairs l = map (λ log. texts_of log.items) l.logs.items ++ pair_logs (lefts_of l.found) (gate_log l.design l.top l.bad) (drop l.k (answers_of l.found)) ≡ pair_logs (lefts_of l.found) (gate_log l.design l.top l.bad) (answers_of l.found)
