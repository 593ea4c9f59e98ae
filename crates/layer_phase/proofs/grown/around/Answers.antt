use Rattle.std.proofs.Common.{◌≡◌, ◌∙◌, ◌+◌, ℕ, List, ap, arith, subst, sym}
use Rattle.geo_base.specs.declared.shapes.Rect.{Rect}
use Rattle.rect_sets.specs.Rects.{covers}
use Rattle.sized_layers.specs.Sizes.{IsSetWithin}
use Rattle.layer_phase.specs.Around.{around}
use Rattle.layer_phase.proofs.Around.{around_none, wider_set}
use Rattle.layer_phase.proofs.grown.around.Goals as goal

pub returns-then-by-eq0-clause-squares : goal.returns-then-by-eq0-clause-squares
returns-then-by-eq0-clause-squares c = λ q.
    let t = c.if-by-eq0.true in
    let e : c.args.by ≡ 0 = omega arith in
    ap (λ (l : List Rect). covers l q) c.lent.ensures ∙ sym (around_none c.args.set.now q) ∙ ap (λ (n : ℕ). covers (around n c.args.set.now) q) (sym e)

pub returns-then-by-eq0-clause-range : goal.returns-then-by-eq0-clause-range
returns-then-by-eq0-clause-range c = λ n h. wider_set n (n + c.args.by) c.lent.result (omega arith) (subst (IsSetWithin n) (sym c.lent.ensures) h)
