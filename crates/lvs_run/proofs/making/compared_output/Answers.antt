use Rattle.std.proofs.Common.{[], ◌∷◌, ◌∙◌, refl, length, string_bytes}
use Rattle.std.proofs.lemmas.Result.{err_from_is_err_and}
use Rattle.net_model.specs.Rows.{plain_netlist}
use Rattle.lvs_run.specs.Answers.{Compared, compared}
use Rattle.lvs_run.specs.Words.{file_at}
use Rattle.lvs_run.proofs.Adding.{first_file, next_file, verdict_line}
use Rattle.lvs_run.proofs.making.compared_output.Goals as goal

pub returns-clause-made : goal.returns-clause-made
returns-clause-made g c = λ path.
    let found = c.args.found in
    let file = found.file in
    let nl = plain_netlist file.netlist in
    let report = c.in_ok-report.report in
    let one = file_at (string_bytes c.args.paths.shapes) found.shapes.text.items in
    let two = file_at (string_bytes c.args.paths.netlist) file.text.items in
    let three = file_at (string_bytes c.args.paths.report) report.text.items in
    let counts = Compared found.shapes.cells (length nl.circuits) report.pairs (length file.bad.items) in
    let done = compared one.path one.text two.path two.text three.path three.text counts in
    record {
      done = done;
      files = next_file _ _ (one ∷ two ∷ []) three
          (next_file _ _ (one ∷ []) two (first_file _ _ one c.new-files.ensures.items c.in_ok-push_file.ensures) c.in_ok-push_file-2.ensures) c.in_ok-push_file-3.ensures;
      apart = c.requires.apart path;
      is = record {
        text = found.shapes.text.items;
        cells = found.shapes.cells;
        rectangles = found.shapes.rectangles;
        file = c.requires.found.shapes;
        spelled = file.text.items;
        report = report.text.items;
        counts = counts;
        reported = record {
          netlist = nl;
          top = file.top;
          bad = file.bad.items;
          netlist_file = c.requires.found.netlist.file;
          pairs = report.pairs;
          verdict = report.verdict;
          comparable = c.in_ok-report.ensures.comparable;
          narrow = c.in_ok-report.ensures.narrow;
          report_file = c.in_ok-report.ensures.report;
          answer = c.comparison_verdict-verdict.ensures;
          counted = refl;
        };
        whole = refl;
      };
      line = c.in_ok-line.ensures ∙ verdict_line c.comparison_verdict-verdict.result done;
    }

pub returns-in_err-report-clause-refused : goal.returns-in_err-report-clause-refused
returns-in_err-report-clause-refused g c = let e = err_from_is_err_and c.from_residual.result c.from_residual.ensures.1 in rw (e.1, e.2) c.in_err-report.ensures.refused

pub returns-in_err-line-clause-refused : goal.returns-in_err-line-clause-refused
returns-in_err-line-clause-refused g c = let e = err_from_is_err_and c.from_residual-in_err-line.result c.from_residual-in_err-line.ensures.1 in rw (e.1, e.2) tt

pub returns-in_err-push_file-clause-refused : goal.returns-in_err-push_file-clause-refused
returns-in_err-push_file-clause-refused g c = let e = err_from_is_err_and c.from_residual-in_err-push_file.result c.from_residual-in_err-push_file.ensures.1 in rw (e.1, e.2) tt

pub returns-in_err-push_file-2-clause-refused : goal.returns-in_err-push_file-2-clause-refused
returns-in_err-push_file-2-clause-refused g c = let e = err_from_is_err_and c.from_residual-in_err-push_file-2.result c.from_residual-in_err-push_file-2.ensures.1 in rw (e.1, e.2) tt

pub returns-in_err-push_file-3-clause-refused : goal.returns-in_err-push_file-3-clause-refused
returns-in_err-push_file-3-clause-refused g c = let e = err_from_is_err_and c.from_residual-in_err-push_file-3.result c.from_residual-in_err-push_file-3.ensures.1 in rw (e.1, e.2) tt
