use Rattle.std.proofs.Common.{◌≡◌, ◌++◌, ◌∙◌, ℕ, List, ap, drop, length, take}
use Rattle.rule_lines.specs.Lines.{lines_of}
use Rattle.std.specs.Global.{Vec}
use Rattle.view_labels.specs.Logs.{texts_of}
use Rattle.view_labels.proofs.logs.push_gate_log.Goals as goal

pub returns : goal.returns
returns c =
    let n = length c.args.bad.now in
    let old = texts_of c.args.log.now.items in
    let text = c.deref.result.now in
    let lines : texts_of c.push_lines.new.lines.items ≡ lines_of text = c.in_ok-push_lines.ensures ∙ ap (λ (l : List (Vec ℕ)). texts_of l ++ lines_of text) c.new-all.ensures.items in
    let all : texts_of c.deref-2.result.now ≡ lines_of text = ap (λ (l : List (Vec ℕ)). texts_of l) c.deref-2.ensures.value ∙ lines in
    c.in_ok-push_some.ensures ∙ ap (λ (ls : List (List ℕ)). old ++ take n (drop 3 ls)) (all ∙ ap lines_of (c.deref.ensures.value ∙ c.in_ok-text.ensures))
