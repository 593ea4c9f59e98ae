use Rattle.std.proofs.Common.{◌≡◌, ◌∷◌, [], ◌++◌, ◌∙◌, List, length, sym, ap, append-nil, append_assoc, arith}
use Rattle.std.specs.Vec.Iter.{into_iter_items}
use Rattle.deep_tables.specs.declared.gates.Gate.{Gate}
use Rattle.gate_phase.proofs.Owning.{nothing_left}
use Rattle.gate_phase.proofs.list.push_all.Goals as goal

pub loop-gate-preserved : goal.loop-gate-preserved
loop-gate-preserved c =
    let at = c.loop-gate in let x = c.in-Some.gate in
    let rest = into_iter_items c.next.new.self in
    let steps : into_iter_items at.gate-iterator ≡ x ∷ rest = c.in-Some.ensures.steps.0 in
    let whole : at.yielded ++ (x ∷ rest) ≡ into_iter_items c.into_iter-gate-iterator.result = ap (λ (l : List Gate). at.yielded ++ l) (sym steps) ∙ at.invariant.whole in
    record {
      whole = append_assoc at.yielded (x ∷ []) rest ∙ whole;
      left = let was = at.invariant.left in let gone = c.in-Some.ensures.steps.1 in let short = ap length steps in omega arith;
      gates = c.in_ok-push.ensures.items ∙ ap (λ (l : List Gate). l ++ x ∷ []) at.invariant.gates ∙ append_assoc c.args.gates.now.items at.yielded (x ∷ []);
    }

pub returns : goal.returns
returns c =
    let at = c.loop-gate in
    let empty : into_iter_items at.gate-iterator ≡ [] = nothing_left _ (sym at.invariant.left ∙ c.in-None.ensures.steps.0) in
    let all : at.yielded ≡ c.args.more.items = sym (append-nil at.yielded) ∙ ap (λ (l : List Gate). at.yielded ++ l) (sym empty) ∙ at.invariant.whole ∙ c.into_iter-gate-iterator.ensures.into_iter_gives.0 in
    at.invariant.gates ∙ ap (λ (l : List Gate). c.args.gates.now.items ++ l) all
