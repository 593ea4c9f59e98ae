use Rattle.std.proofs.Common.{◌≡◌, ◌<◌, ℕ, List, map, get_or, length, ap, subst, arith}
use Rattle.net_phase.proofs.Listing.{any_default}
use Rattle.rule_text.specs.Seen.{rules_seen}
use Rattle.pin_phase.specs.Lines.{label}
use Rattle.pin_phase.proofs.Lining.{labels_all, labels_more}
use Rattle.pin_phase.proofs.lines.text_lines.Goals as goal

pub loop-line-preserved : goal.loop-line-preserved
loop-line-preserved c =
    let r = rules_seen c.args.rules.now in
    let xs = c.deref-line-items.result.now in let n = c.loop-line.line-index in
    let lt : n < length xs = omega arith in
    let long = ap (λ (l : List (ℕ × ℕ)). length l) c.deref-line-items.ensures.value in
    let line = get_or xs n (0, 0) in
    let is : line ≡ get_or c.args.rules.now.connects.items n line = subst (λ (l : List (ℕ × ℕ)). line ≡ get_or l n line) c.deref-line-items.ensures.value (any_default xs n (0, 0) line lt) in
    labels_more r c.args.rules.now.connects.items n line (map label c.loop-line.lines.items) (map label c.push_label.new.lines.items) (map label c.push_label-in-loop-line.new.lines.items) (omega (arith, long, lt)) is
    c.loop-line.invariant c.in_ok-push_label.ensures c.in_ok-push_label-2.ensures

pub returns : goal.returns
returns c =
    let past = c.loop-line-test.false in let long = ap (λ (l : List (ℕ × ℕ)). length l) c.deref-line-items.ensures.value in
    labels_all (rules_seen c.args.rules.now) c.loop-line.line-index (map label c.loop-line.lines.items) (omega arith) c.loop-line.invariant
