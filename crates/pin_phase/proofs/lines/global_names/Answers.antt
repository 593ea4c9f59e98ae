use Rattle.std.proofs.Common.{◌≡◌, ◌∙◌, ℕ, List, get_or, length, ap, subst, arith}
use Rattle.rule_text.specs.Seen.{rules_seen}
use Rattle.gate_phase.proofs.Results.{if_ok}
use Rattle.pin_phase.proofs.Lining.{globals_all, globals_more}
use Rattle.pin_phase.proofs.lines.global_names.Goals as goal

pub loop-line-preserved : goal.loop-line-preserved
loop-line-preserved c =
    let is : c.line-item.result ≡ get_or c.args.rules.now.globals.items c.loop-line.line-index c.line-item.result =
    subst (λ (l : List (ℕ × List ℕ)). c.line-item.result ≡ get_or l c.loop-line.line-index c.line-item.result) c.deref-line-items.ensures.value c.line-item.is in
    globals_more c.args.rules.now.globals.items c.loop-line.line-index c.line-item.result c.bytes.result.now c.loop-line.names c.number.new.self (omega arith) is c.bytes.ensures.same c.loop-line.invariant c.in_ok-number.ensures.texts

pub returns : goal.returns
returns c =
    let past = c.loop-line-test.false in let long = ap (λ (l : List (ℕ × List ℕ)). length l) c.deref-line-items.ensures.value in
    if_ok _ _ c.into_texts.result (λ v e. e ∙ globals_all (rules_seen c.args.rules.now) c.loop-line.line-index c.loop-line.names (omega arith) c.loop-line.invariant) c.into_texts.ensures
