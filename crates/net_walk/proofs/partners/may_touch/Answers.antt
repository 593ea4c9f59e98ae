use Rattle.std.proofs.Common.{arith}
use Rattle.std.proofs.lemmas.Bool.{false≢true}
use Rattle.net_walk.proofs.Partnering.{none_touch, none_touch_more}
use Rattle.net_walk.proofs.partners.may_touch.Goals as goal

pub loop-one-init : goal.loop-one-init
loop-one-init c = λ o h t. absurd h

pub loop-one-preserved : goal.loop-one-preserved
loop-one-preserved c =
    λ o h t. none_touch_more c.args.ones.now c.loop-one.one-index c.args.span.now.rect (omega arith) c.loop-one.invariant (λ e. false≢true (c.if-touches.ensures.1 e)) o h t

pub returns : goal.returns
returns c = λ same o h t. none_touch c.args.ones.now c.loop-one.one-index c.args.span.now.rect (omega arith) c.loop-one.invariant o h t
