use Rattle.std.proofs.Common.{ℕ, ◌==◌, ◌||◌, false, List, get_or, ◌∙◌, sym, ap, arith}
use Rattle.std.specs.List.{list_any}
use Rattle.deep_tables.specs.Gates.{plain_state}
use Rattle.deep_tables.specs.declared.gates.Gate.{Gate}
use Rattle.net_marks.specs.Marks.{is_terminal}
use Rattle.net_marks.proofs.Terminals.{marked_more, terminal_of}
use Rattle.net_marks.proofs.marks.mark_gates.Goals as goal

pub mark_nets-requires : goal.mark_nets-requires
mark_nets-requires c = λ x h.
    let long = c.loop-gate.invariant.count in
    let here = ap (λ (g : Gate). is_terminal x (plain_state g.state)) (sym c.gate-item.is) ∙ ap (λ (l : List ℕ). list_any (λ k. x == k) l) (sym c.terminal_nets.ensures) ∙ h in
    let lt = c.requires x (terminal_of x c.args.gates.now c.loop-gate.gate-index c.gate-item.result c.loop-gate-test.true here) in
    omega (arith, lt, long)

pub loop-gate-preserved : goal.loop-gate-preserved
loop-gate-preserved c =
    let mid = c.loop-gate.marks in
    marked_more c.args.marks.now mid c.mark_nets.new.marks c.args.gates.now c.loop-gate.gate-index c.gate-item.result c.loop-gate-test.true c.gate-item.is c.mark_nets.ensures.count
    (λ x. c.mark_nets.ensures.marked x ∙ ap (λ (l : List ℕ). list_any (λ k. x == k) l || get_or mid x false) c.terminal_nets.ensures) c.loop-gate.invariant
