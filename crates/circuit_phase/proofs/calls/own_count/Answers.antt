use Rattle.std.proofs.Common.{◌∙◌, map, sym, arith}
use Rattle.deep_tables.specs.Nets.{plain_item}
use Rattle.circuit_phase.specs.Calls.{own_count}
use Rattle.circuit_phase.proofs.Calling.{own_end, own_step, own_stop}
use Rattle.circuit_phase.proofs.calls.own_count.Goals as goal

pub loop-i-preserved : goal.loop-i-preserved
loop-i-preserved c =
    let raw = c.args.items.now in
    own_step raw c.loop-i.i (own_count (map plain_item raw)) _ c.loop-i-test.true (sym c.if-not-is_own.false ∙ c.is_own.ensures) c.loop-i.invariant

pub returns-then-not-is_own : goal.returns-then-not-is_own
returns-then-not-is_own c =
    let raw = c.args.items.now in
    own_stop raw c.loop-i.i (own_count (map plain_item raw)) _ c.loop-i-test.true (sym c.if-not-is_own.true ∙ c.is_own.ensures) c.loop-i.invariant

pub returns : goal.returns
returns c =
    let raw = c.args.items.now in
    let end = c.loop-i-test.false in
    own_end raw c.loop-i.i (own_count (map plain_item raw)) (omega (arith, end)) c.loop-i.invariant
