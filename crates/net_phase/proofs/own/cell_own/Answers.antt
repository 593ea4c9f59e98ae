use Rattle.std.proofs.Common.{◌≡◌, false, get_or, arith, sym}
use Rattle.std.proofs.lemmas.Option.{slice_get-get_or}
use Rattle.cell_graph.specs.Linked.{plain}
use Rattle.rule_text.specs.Reading.{is_conductor}
use Rattle.rule_text.specs.Seen.{rules_seen}
use Rattle.net_phase.proofs.Layering.{by_kind, layer_there, no_own, own_all, own_more}
use Rattle.net_phase.proofs.own.cell_own.Goals as goal

pub loop-conductor-init : goal.loop-conductor-init
loop-conductor-init c = rw c.new-own.ensures.items (no_own (plain c.args.design.now) (rules_seen c.args.rules.now) c.args.cell)

pub own_rects-requires : goal.own_rects-requires
own_rects-requires c =
    let all = c.requires.all in
    layer_there (plain c.args.design.now) (rules_seen c.args.rules.now) c.args.layers.now c.args.cell c.loop-conductor.conductor c.requires.layers c.requires.reached (omega (arith, all))

pub loop-conductor-preserved : goal.loop-conductor-preserved
loop-conductor-preserved c =
    let d = plain c.args.design.now in
    let r = rules_seen c.args.rules.now in
    let k = c.loop-conductor.conductor in
    let known = get_or c.args.known.now k false in
    let told : known ≡ is_conductor k r = c.requires.known.each k known (slice_get-get_or c.args.known.now k false (omega arith)) in
    let here = by_kind d r c.args.layers.now c.args.cell k c.requires.layers c.requires.reached known (sym told) in
    rw c.in_ok-push.ensures.items (own_more d r c.args.cell k c.loop-conductor.own.items c.own_rects.result c.loop-conductor.invariant (rw c.own_rects.ensures here))

pub returns : goal.returns
returns c =
    let all = c.requires.all in
    own_all (plain c.args.design.now) (rules_seen c.args.rules.now) c.args.cell c.loop-conductor.conductor _ (omega (arith, all)) c.loop-conductor.invariant
