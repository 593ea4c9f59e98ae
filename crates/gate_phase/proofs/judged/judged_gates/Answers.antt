use Rattle.std.proofs.Common.{◌≡◌, ◌∷◌, [], ◌++◌, ◌∙◌, List, length, refl, sym, ap, subst, append-nil, append_assoc, arith}
use Rattle.std.specs.Vec.Iter.{into_iter_items}
use Rattle.deep_tables.specs.declared.gates.Gate.{Gate}
use Rattle.gate_phase.specs.Judged.{AreGatesOf, IsGateOf}
use Rattle.gate_phase.specs.Terminals.{grounds_seen}
use Rattle.gate_phase.specs.declared.own.OwnGate.{OwnGate}
use Rattle.gate_phase.proofs.Judging.{push_both}
use Rattle.gate_phase.proofs.Owning.{item_here, nothing_left}
use Rattle.gate_phase.proofs.judged.judged_gates.Goals as goal

pub state_of-requires-clause-held : goal.state_of-requires-clause-held
state_of-requires-clause-held g c =
    let at = c.loop-gate in let x = c.in-Some.gate in
    let rest = into_iter_items c.next.new.self in
    let steps : into_iter_items at.gate-iterator ≡ x ∷ rest = c.in-Some.ensures.steps.0 in
    let whole : at.yielded ++ (x ∷ rest) ≡ c.args.own.items = ap (λ (l : List OwnGate). at.yielded ++ l) (sym steps) ∙ at.invariant.whole ∙ c.into_iter-gate-iterator.ensures.into_iter_gives.0 in
    c.requires.held (length at.yielded) x (item_here at.yielded rest c.args.own.items x whole)

pub loop-gate-preserved : goal.loop-gate-preserved
loop-gate-preserved g c =
    let at = c.loop-gate in let x = c.in-Some.gate in
    let rest = into_iter_items c.next.new.self in
    let steps : into_iter_items at.gate-iterator ≡ x ∷ rest = c.in-Some.ensures.steps.0 in
    let whole : at.yielded ++ (x ∷ rest) ≡ into_iter_items c.into_iter-gate-iterator.result = ap (λ (l : List OwnGate). at.yielded ++ l) (sym steps) ∙ at.invariant.whole in
    let is = IsGateOf (g.C.Cells.design c.args.at.now.cells.now) (g.C.Cells.wiring c.args.at.now.cells.now) (g.C.Cells.tables c.args.at.now.cells.now) c.args.at.now.device (grounds_seen c.args.at.now.grounds) c.args.number c.args.at.now.cell in
    let made : Gate = record { device = c.args.number; area = x.area; least = x.least; state = c.in_ok-state.state } in
    record {
      whole = append_assoc at.yielded (x ∷ []) rest ∙ whole;
      left = let was = at.invariant.left in let gone = c.in-Some.ensures.steps.1 in let short = ap length steps in omega arith;
      gates = rw c.in_ok-push.ensures.items (push_both is at.yielded at.gates.items x made at.invariant.gates (record { device = refl; area = refl; least = refl; state = c.in_ok-state.ensures }));
    }

pub returns : goal.returns
returns g c =
    let at = c.loop-gate in
    let is = IsGateOf (g.C.Cells.design c.args.at.now.cells.now) (g.C.Cells.wiring c.args.at.now.cells.now) (g.C.Cells.tables c.args.at.now.cells.now) c.args.at.now.device (grounds_seen c.args.at.now.grounds) c.args.number c.args.at.now.cell in
    let empty : into_iter_items at.gate-iterator ≡ [] = nothing_left _ (sym at.invariant.left ∙ c.in-None.ensures.steps.0) in
    let all : at.yielded ≡ c.args.own.items = sym (append-nil at.yielded) ∙ ap (λ (l : List OwnGate). at.yielded ++ l) (sym empty) ∙ at.invariant.whole ∙ c.into_iter-gate-iterator.ensures.into_iter_gives.0 in
    subst (λ (l : List OwnGate). AreGatesOf is l at.gates.items) all at.invariant.gates
