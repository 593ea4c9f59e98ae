use Rattle.std.proofs.Common.{[], ◌∷◌, ◌∙◌, ap, refl, length, string_bytes}
use Rattle.net_model.specs.Rows.{plain_netlist}
use Rattle.lvs_run.specs.Answers.{Extracted, extracted}
use Rattle.lvs_run.specs.Lines.{verdict_word}
use Rattle.lvs_run.specs.Outcomes.{gates_answer}
use Rattle.lvs_run.specs.Words.{file_at}
use Rattle.lvs_run.proofs.Adding.{first_file, next_file, verdict_line}
use Rattle.lvs_run.proofs.making.netlist_output.Goals as goal

pub returns : goal.returns
returns c = λ l r files.
    let found = c.args.found in
    let nl = plain_netlist found.file.netlist in
    let one = file_at (string_bytes c.args.path) found.shapes.text.items in
    let two = file_at (string_bytes c.args.netlist) found.file.text.items in
    let done = extracted (string_bytes c.args.path) found.shapes.text.items (string_bytes c.args.netlist) found.file.text.items
    (Extracted found.shapes.cells (length nl.circuits) (length found.file.bad.items)) in
    record {
      done = done;
      files = next_file _ _ (one ∷ []) two (first_file _ _ one c.new-files.ensures.items c.in_ok-push_file.ensures) c.in_ok-push_file-2.ensures;
      apart = ((c.requires.apart, tt), (tt, tt));
      is = record {
        text = found.shapes.text.items;
        cells = found.shapes.cells;
        rectangles = found.shapes.rectangles;
        file = files.shapes;
        netlist = nl;
        top = found.file.top;
        bad = found.file.bad.items;
        spelled = found.file.text.items;
        netlist_file = files.netlist.file;
        answer = c.gates_verdict-verdict.ensures ∙ ap gates_answer c.as_slice.ensures.value;
        whole = refl;
      };
      line = c.in_ok-line.ensures (verdict_word c.gates_verdict-verdict.result) ∙ verdict_line c.gates_verdict-verdict.result done;
    }
