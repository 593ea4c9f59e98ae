use Rattle.std.proofs.Common.{◌≡◌, ◌∙◌, ◌^◌, ◌&&◌, not, ℕ, List, arith, ap, sym}
use Rattle.geo_base.specs.Rects.{has, grown}
use Rattle.geo_base.specs.declared.shapes.Rect.{Rect}
use Rattle.rect_sets.specs.Rects.{covers}
use Rattle.layer_phase.specs.Around.{around}
use Rattle.layer_phase.proofs.Around.{around_none, around_same, grown_within, set_within}
use Rattle.layer_phase.proofs.Results.{if_ok}
use Rattle.layer_phase.proofs.parts.cut_near.Goals as goal

pub returns-then-reach-eq0 : goal.returns-then-reach-eq0
returns-then-reach-eq0 c =
    let t = c.if-reach-eq0.true in
    let e : c.args.reach ≡ 0 = omega arith in
    if_ok _ _ c.cut.result
    (λ r h q. h q ∙ ap (λ (l : List Rect). has c.args.window.now q && not (covers l q)) c.deref.ensures.value
    ∙ ap (λ b. has c.args.window.now q && not b) (sym (around_none c.args.there.items q) ∙ ap (λ (n : ℕ). covers (around n c.args.there.items) q) (sym e)))
    c.cut.ensures

pub sized-requires-clause-within : goal.sized-requires-clause-within
sized-requires-clause-within c =
    let le = c.requires.reach in
    set_within (2 ^ 39) (grown c.args.reach c.args.window.now) c.in_ok-set.set (grown_within (2 ^ 37) c.args.reach (2 ^ 39) c.args.window.now (omega arith) c.requires.window.near)
    (λ q e. c.requires.held q (sym (c.in_ok-set.ensures q) ∙ e))

pub returns : goal.returns
returns c =
    if_ok _ _ c.cut-2.result
    (λ r h q. h q ∙ ap (λ (l : List Rect). has c.args.window.now q && not (covers l q)) c.rects.ensures.list
    ∙ ap (λ b. has c.args.window.now q && not b)
    (c.in_ok-stirred.ensures.squares q ∙ around_same c.args.reach c.in_ok-set.set c.args.there.items q c.rects-rects.ensures.sound c.requires.rects c.in_ok-set.ensures))
    c.cut-2.ensures
