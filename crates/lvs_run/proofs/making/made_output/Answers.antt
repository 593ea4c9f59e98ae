use Rattle.std.proofs.Common.{ℕ, List, ap, ◌∙◌, refl, length}
use Rattle.std.proofs.lemmas.Result.{err_from_is_err_and}
use Rattle.net_model.specs.Rows.{plain_netlist}
use Rattle.lvs_run.specs.Answers.{Compared, made}
use Rattle.lvs_run.proofs.Adding.{verdict_line}
use Rattle.lvs_run.proofs.MadeChips.{chip_apart}
use Rattle.lvs_run.proofs.making.made_output.Goals as goal

pub returns-clause-made : goal.returns-clause-made
returns-clause-made g c = λ n seed prefix same.
    let found = c.in_ok-found.found in
    let nl = plain_netlist found.netlist in
    let report = c.in_ok-report.report in
    let cells = c.order.result.now in
    let counts = Compared (length cells) (length nl.circuits) report.pairs (length found.bad.items) in
    let done = made n seed prefix counts in
    record {
      done = done;
      files = same;
      apart = chip_apart n seed prefix;
      is = record {
        spelled = found.text.items;
        report = report.text.items;
        counts = counts;
        reported = record {
          netlist = nl;
          top = found.top;
          bad = found.bad.items;
          netlist_file = c.in_ok-found.ensures.file;
          pairs = report.pairs;
          verdict = report.verdict;
          comparable = c.in_ok-report.ensures.comparable;
          narrow = c.in_ok-report.ensures.narrow;
          report_file = c.in_ok-report.ensures.report;
          answer = c.comparison_verdict-verdict.ensures;
          counted = ap (λ (ks : List ℕ). Compared (length ks) (length nl.circuits) report.pairs (length found.bad.items)) c.order.ensures;
        };
        whole = refl;
      };
      line = c.in_ok-line.ensures ∙ verdict_line c.comparison_verdict-verdict.result done;
    }

pub returns-in_err-found-clause-refused : goal.returns-in_err-found-clause-refused
returns-in_err-found-clause-refused g c = let e = err_from_is_err_and c.from_residual.result c.from_residual.ensures.1 in rw (e.1, e.2) tt

pub returns-in_err-report-clause-refused : goal.returns-in_err-report-clause-refused
returns-in_err-report-clause-refused g c = let e = err_from_is_err_and c.from_residual-in_err-report.result c.from_residual-in_err-report.ensures.1 in rw (e.1, e.2) c.in_err-report.ensures.refused

pub returns-in_err-line-clause-refused : goal.returns-in_err-line-clause-refused
returns-in_err-line-clause-refused g c = let e = err_from_is_err_and c.from_residual-in_err-line.result c.from_residual-in_err-line.ensures.1 in rw (e.1, e.2) tt
