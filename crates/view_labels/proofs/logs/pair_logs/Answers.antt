use Rattle.std.proofs.Common.{◌≡◌, ◌++◌, ◌∷◌, ◌∙◌, ◌+◌, [], ℕ, List, Some, ap, drop, length, map, nat_eq, slice_get, sym}
use Rattle.base_laws.proofs.Lists.{map_last}
use Rattle.base_laws.proofs.Items.{map_to}
use Rattle.std.proofs.lemmas.List.{length-map}
use Rattle.std.specs.Global.{Vec}
use Rattle.match_report.specs.Report.{answers_of, lefts_of}
use Rattle.match_types.specs.Plain.{plain_answer}
use Rattle.net_model.specs.Rows.{plain_circuit}
use Rattle.net_model.specs.declared.netlist.Circuit.{Circuit}
use Rattle.view_labels.specs.Logs.{gate_log, pair_log, pair_logs, texts_of}
use Rattle.view_labels.proofs.Logging.{log_here, push_on}
use Rattle.view_labels.proofs.logs.pair_logs.Goals as goal

pub pairs-preserved : goal.pairs-preserved
pairs-preserved c =
    let f = c.args.found.now in
    let lefts = lefts_of f in
    let gates = gate_log c.args.design.now c.args.top.now c.args.bad.now in
    let xs = answers_of f in
    let k = c.pairs.k in
    let n = c.in_ok-count.count in
    let a = plain_answer c.get-answer.result.now in
    let text = λ (log : Vec (Vec ℕ)). texts_of log.items in
    let at : slice_get xs k ≡ Some a = map_to plain_answer f.answers k c.get-answer.result.now c.get-answer.ensures in
    let count : n ≡ length xs = c.in_ok-count.ensures.ok ∙ (c.len.ensures ∙ sym (length-map f.answers plain_answer)) in
    let here = log_here lefts gates xs k n a at count in
    let told : text c.in_ok-log.log ≡ pair_log lefts gates (nat_eq (k + 1) n) a =
    c.in_ok-log.ensures ∙ ap (λ (cs : List Circuit). pair_log (map plain_circuit cs) gates (nat_eq (k + 1) n) a) c.deref.ensures.value in
    let pushed : map text c.push.new.self.items ≡ map text c.pairs.logs.items ++ pair_log lefts gates (nat_eq (k + 1) n) a ∷ [] =
    ap (λ (l : List (Vec (Vec ℕ))). map text l) c.in_ok-push.ensures.items ∙ map_last text c.pairs.logs.items c.in_ok-log.log ∙ ap (λ (l : List (List ℕ)). map text c.pairs.logs.items ++ l ∷ []) told in
    push_on (map text c.pairs.logs.items) (map text c.push.new.self.items) (pair_log lefts gates (nat_eq (k + 1) n) a) (pair_logs lefts gates (drop k xs)) (pair_logs lefts gates (drop (k + 1) xs)) _ pushed here c.pairs.invariant
