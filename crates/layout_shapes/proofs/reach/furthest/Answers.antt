use Rattle.std.proofs.Common.{ℕ, get_or}
use Rattle.rule_text.specs.declared.rules.Output.{Output}
use Rattle.layout_shapes.proofs.Furthest.{none_left, one_more}
use Rattle.layout_shapes.proofs.reach.furthest.Goals as goal

abbrev none : Output
none = record { layer = 0; key = record { layer = 0; datatype = 0 } }

pub loop-line-preserved : goal.loop-line-preserved
loop-line-preserved c =
    let f : Output → ℕ = λ o. get_or c.args.reaches.now o.layer 0 in
    let e = c.max-most.ensures in
    let h = one_more f c.args.lines.now c.loop-line.line-index none c.loop-line.most c.reach_of.result _ c.loop-line-test.true c.reach_of.ensures c.loop-line.invariant in
    cc

pub returns : goal.returns
returns c =
    let f : Output → ℕ = λ o. get_or c.args.reaches.now o.layer 0 in
    none_left f c.args.lines.now c.loop-line.line-index c.loop-line.most _ c.loop-line-test.false c.loop-line.invariant
