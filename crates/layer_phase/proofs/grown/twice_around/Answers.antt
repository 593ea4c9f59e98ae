use Rattle.std.proofs.Common.{◌≡◌, ◌∙◌, ◌+◌, ◌^◌, List, ap, arith, subst, sym}
use Rattle.geo_base.specs.declared.shapes.Rect.{Rect}
use Rattle.rect_sets.specs.Rects.{covers}
use Rattle.sized_layers.specs.Sizes.{IsSetWithin}
use Rattle.layer_phase.proofs.Around.{around_twice, none_twice, wider_set}
use Rattle.layer_phase.proofs.grown.twice_around.Goals as goal

pub sized-requires-2-clause-within : goal.sized-requires-2-clause-within
sized-requires-2-clause-within c =
    let le = c.requires.by in
    wider_set ((2 ^ 38) + c.args.by) (2 ^ 39) c.in_ok-once.once (omega arith) (c.in_ok-once.ensures.range (2 ^ 38) c.requires.within)

pub returns-clause-squares : goal.returns-clause-squares
returns-clause-squares c = λ q. ap (λ (l : List Rect). covers l q) c.own.ensures ∙ around_twice c.args.by c.args.set.now c.in_ok-once.once c.in_ok-twice.twice q c.rects-rects.ensures.sound c.rects-once_rects.ensures.sound c.in_ok-once.ensures.squares c.in_ok-twice.ensures.squares

pub returns-clause-range : goal.returns-clause-range
returns-clause-range c = λ n h. subst (IsSetWithin ((n + c.args.by) + c.args.by)) (sym c.own.ensures) (c.in_ok-twice.ensures.range (n + c.args.by) (c.in_ok-once.ensures.range n h))

pub returns-then-by-eq0-clause-squares : goal.returns-then-by-eq0-clause-squares
returns-then-by-eq0-clause-squares c = λ q.
    let t = c.if-by-eq0.true in
    let e : c.args.by ≡ 0 = omega arith in
    none_twice c.args.by c.args.set.now c.lent.result q e c.lent.ensures

pub returns-then-by-eq0-clause-range : goal.returns-then-by-eq0-clause-range
returns-then-by-eq0-clause-range c = λ n h. wider_set n ((n + c.args.by) + c.args.by) c.lent.result (omega arith) (subst (IsSetWithin n) (sym c.lent.ensures) h)
