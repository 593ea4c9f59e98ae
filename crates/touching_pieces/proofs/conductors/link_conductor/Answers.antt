use Rattle.std.proofs.Common.{arith, sym, ◌∙◌}
use Rattle.touching_pieces.proofs.Joining.{no_line, none_held, none_of, line_at, lines_all, no_line_at}
use Rattle.touching_pieces.proofs.conductors.link_conductor.Goals as goal

pub loop-join-init : goal.loop-join-init
loop-join-init c =
    let h = rw (c.deref.ensures.value, c.in_ok-own.ensures) at c.in_ok-own_chains.ensures in
    no_line c.args.pieces.now c.args.conductor c.args.out.now.items _ h

pub link_line-requires : goal.link_line-requires
link_line-requires c = c.deref-in-loop-join.ensures.value ∙ c.in_ok-own.ensures

pub loop-join-preserved : goal.loop-join-preserved
loop-join-preserved c =
    line_at c.args.joins.now c.loop-join.join-index no_line_at c.args.pieces.now c.args.conductor c.args.out.now.items c.loop-join.out.items c.link_line.new.out.items (omega arith) c.loop-join.invariant c.in_ok-link_line.ensures.line c.in_ok-link_line.ensures.other

pub returns : goal.returns
returns c = lines_all c.args.joins.now c.loop-join.join-index c.args.pieces.now c.args.conductor c.args.out.now.items c.loop-join.out.items (omega arith) c.loop-join.invariant

pub returns-then-is_empty : goal.returns-then-is_empty
returns-then-is_empty c = none_of c.args.joins.now c.args.pieces.now c.args.conductor c.args.out.now.items
    (sym c.in_ok-own.ensures ∙ none_held c.in_ok-own.own.items c.in_ok-own.own.len c.is_empty.result c.in_ok-own.own.ok.0 c.is_empty.ensures c.if-is_empty.true)
