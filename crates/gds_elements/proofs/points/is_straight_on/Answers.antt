use Rattle.std.proofs.Common.{Bool, false, sym, ap, ◌∙◌}
use Rattle.std.specs.Prelude.{◌&&◌}
use Rattle.gds_elements.specs.Data.{is_straight}
use Rattle.gds_elements.proofs.Lines.{none_before, none_behind, some_both}
use Rattle.gds_elements.proofs.points.is_straight_on.Goals as goal

pub returns-then-is_empty : goal.returns-then-is_empty
returns-then-is_empty c = λ h. c.is_straight.ensures ∙ none_before c.args.before.now c.args.points.now (sym c.is_empty.ensures ∙ c.if-is_empty.true)

pub returns-then-is_empty-2 : goal.returns-then-is_empty-2
returns-then-is_empty-2 c = λ h. none_behind c.args.before.now c.args.points.now (sym c.is_empty-2.ensures ∙ c.if-is_empty-2.true) h

pub returns-then-is_led : goal.returns-then-is_led
returns-then-is_led c = λ h.
    c.is_straight-then-is_led.ensures ∙ sym (ap (λ (b : Bool). b && is_straight c.args.points.now) (sym c.is_led.ensures ∙ c.if-is_led.true))
    ∙ sym (some_both c.args.before.now c.args.points.now (sym c.is_empty.ensures ∙ c.if-is_empty.false) (sym c.is_empty-2.ensures ∙ c.if-is_empty-2.false) h)

pub returns-else-is_led : goal.returns-else-is_led
returns-else-is_led c = λ h.
    c.if-is_led.false ∙ sym (ap (λ (b : Bool). b && is_straight c.args.points.now) (sym c.is_led.ensures ∙ c.if-is_led.false))
    ∙ sym (some_both c.args.before.now c.args.points.now (sym c.is_empty.ensures ∙ c.if-is_empty.false) (sym c.is_empty-2.ensures ∙ c.if-is_empty-2.false) h)
