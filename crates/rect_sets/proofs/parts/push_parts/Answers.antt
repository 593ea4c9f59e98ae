use Rattle.std.proofs.Common.{rules, w64, arith, ◌≡◌, ◌∙◌, sym, ap, true, false}
use mir.Val.{SFits}
use Rattle.std.proofs.lemmas.Int.{to_z-of_z}
use Rattle.rect_sets.specs.Divided.{ends_after}
use Rattle.rect_sets.specs.Stripes.{line_at}
use Rattle.rect_sets.specs.declared.cuts.Cut.{Cut}
use Rattle.rect_sets.proofs.Striping.{none_added, one_added, last_added, all_added}
use Rattle.rect_sets.proofs.parts.push_parts.Goals as goal

pub loop-i-init : goal.loop-i-init
loop-i-init c =
    let f : SFits w64 c.low_end.result = search rules in
    let q = rw (to_z-of_z w64 c.low_end.result f) at c.passed_lines-i.ensures in
    let p = rw c.low_end.ensures at q in
    none_added c.args.lines.now c.args.parts.now.items c.args.rect.now c.passed_lines-i.result c.requires.rect p

pub returns-then-not-ends_after-clause-lists : goal.returns-then-not-ends_after-clause-lists
returns-then-not-ends_after-clause-lists c =
    let cut = line_at c.args.lines.now.axis c.args.lines.now.at.items c.loop-i.i in
    let push = rw c.line-cut.ensures at c.in_ok-push_low.ensures.lists in
    let e : ends_after cut c.loop-i.rest ≡ false = ap (λ (q : Cut). ends_after q c.loop-i.rest) (sym c.line-cut.ensures) ∙ sym c.ends_after.ensures ∙ c.if-not-ends_after.true in
    last_added c.args.lines.now c.args.parts.now.items c.loop-i.parts.items c.push_low.new.parts.items c.args.rect.now c.loop-i.i c.loop-i.rest (omega arith) c.loop-i.invariant push e

pub loop-i-preserved : goal.loop-i-preserved
loop-i-preserved c =
    let cut = line_at c.args.lines.now.axis c.args.lines.now.at.items c.loop-i.i in
    let push = rw c.line-cut.ensures at c.in_ok-push_low.ensures.lists in
    let e : ends_after cut c.loop-i.rest ≡ true = ap (λ (q : Cut). ends_after q c.loop-i.rest) (sym c.line-cut.ensures) ∙ sym c.ends_after.ensures ∙ c.if-not-ends_after.false in
    rw (c.high_part-rest.ensures, c.line-cut.ensures)
    (one_added c.args.lines.now c.args.parts.now.items c.loop-i.parts.items c.push_low.new.parts.items c.args.rect.now c.loop-i.i c.loop-i.rest (omega arith) c.loop-i.invariant c.in_ok-push_low.ensures.count push e)

pub returns-clause-lists : goal.returns-clause-lists
returns-clause-lists c =
    all_added c.args.lines.now c.args.parts.now.items c.loop-i.parts.items c.push_at.new.parts.items c.args.rect.now c.loop-i.i c.loop-i.rest (omega arith) c.loop-i.invariant c.in_ok-push_at.ensures.lists
