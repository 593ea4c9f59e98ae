use Rattle.std.proofs.Common.{◌≡◌, ◌+◌, ◌<◌, ◌≤◌, ℕ, Bool, false, List, Some, map, length, replicate, slice_get, sym, subst, ap, ◌∙◌, rules, arith}
use Rattle.base_laws.proofs.Items.{item_at, map_to}
use Rattle.std.specs.List.{All}
use Rattle.std.proofs.lemmas.List.{length-map}
use Rattle.match_types.specs.Plain.{plain_answer}
use Rattle.net_model.specs.Rows.{plain_circuit, plain_netlist}
use Rattle.net_model.specs.declared.netlist.CallRow.{CallRow}
use Rattle.pair_jobs.specs.Answers.{is_difference}
use Rattle.pair_turns.proofs.Marked.{IsGoingBelow, all_marked, begun, differing, staying}
use Rattle.pair_turns.proofs.Sides.{circuit_at, low_calls, same_count}
use Rattle.pair_turns.proofs.marks.going.Goals.{then-is_difference, else-is_difference}
use Rattle.pair_turns.proofs.marks.going.Goals as goal

pub pairs-init : goal.pairs-init
pairs-init c =
    let vs = map plain_answer c.args.answers.now in
    let long = length-map c.args.answers.now plain_answer in
    let none : c.in_ok-goes.goes.items ≡ replicate (length c.args.answers.now) false = search rules in
    subst (λ (m : List Bool). IsGoingBelow (plain_netlist c.args.left.now) (plain_netlist c.args.right.now) vs 0 m) (sym (none ∙ ap (λ (n : ℕ). replicate n false) (sym long)))
    (begun (plain_netlist c.args.left.now) (plain_netlist c.args.right.now) vs)

pub index-requires-then-is_difference : goal.index-requires-then-is_difference
index-requires-then-is_difference c =
    let n = same_count (plain_netlist c.args.left.now) (plain_netlist c.args.right.now) c.requires.sides in
    let a = length-map c.args.left.now.circuits.items plain_circuit in
    let b = length-map c.args.right.now.circuits.items plain_circuit in
    let g = c.requires.count in
    let below : c.pairs.k < length c.args.answers.now = search rules in
    let l : c.pairs.k < length c.args.right.now.circuits.items = omega (arith, n, a, b, g, below) in
    search rules

pub mark_apart-requires-clause-lefts : goal.mark_apart-requires-clause-lefts
mark_apart-requires-clause-lefts c =
    let xs = c.args.left.now.circuits.items in
    let x = c.index.result.now in
    let below : c.pairs.k < length c.args.answers.now = search rules in
    let g = c.requires.count in
    let at = circuit_at c.args.left.now c.pairs.k x (omega (arith, below, g)) c.index.ensures in
    let m = length-map c.args.answers.now plain_answer in
    let long : length c.pairs.goes.items ≡ length xs = c.pairs.invariant.long ∙ m ∙ g in
    subst (λ (n : ℕ). All (λ (r : CallRow). r.circuit < n) x.calls.items) (sym long)
    (low_calls c.args.left.now c.requires.sides.left_good.0 c.requires.sides.left_good.1 c.pairs.k x at)

pub mark_apart-requires-clause-rights : goal.mark_apart-requires-clause-rights
mark_apart-requires-clause-rights c =
    let x = c.index-then-is_difference.result.now in
    let n = same_count (plain_netlist c.args.left.now) (plain_netlist c.args.right.now) c.requires.sides in
    let a = length-map c.args.left.now.circuits.items plain_circuit in
    let b = length-map c.args.right.now.circuits.items plain_circuit in
    let below : c.pairs.k < length c.args.answers.now = search rules in
    let g = c.requires.count in
    let at = circuit_at c.args.right.now c.pairs.k x (omega (arith, below, g, n, a, b)) c.index-then-is_difference.ensures in
    let m = length-map c.args.answers.now plain_answer in
    let i = c.pairs.invariant.long in
    let long : length c.pairs.goes.items ≡ length c.args.right.now.circuits.items = omega (arith, m, g, n, a, b, i) in
    subst (λ (n : ℕ). All (λ (r : CallRow). r.circuit < n) x.calls.items) (sym long)
    (low_calls c.args.right.now c.requires.sides.right_good.0 c.requires.sides.right_good.1 c.pairs.k x at)

pub pairs-preserved : goal.pairs-preserved
pairs-preserved c =
    let left = plain_netlist c.args.left.now in
    let right = plain_netlist c.args.right.now in
    let vs = map plain_answer c.args.answers.now in
    let k = c.pairs.k in
    let n = same_count left right c.requires.sides in
    let a = length-map c.args.left.now.circuits.items plain_circuit in
    let b = length-map c.args.right.now.circuits.items plain_circuit in
    let below : k < length c.args.answers.now = search rules in
    let g = c.requires.count in
    let x = item_at left.circuits k (omega (arith, below, g, a)) in
    let y = item_at right.circuits k (omega (arith, below, g, a, b, n)) in
    let v = plain_answer c.get.result.now in
    let answer : slice_get vs k ≡ Some v = map_to plain_answer c.args.answers.now k c.get.result.now c.get.ensures in
    let tells : c.is_difference.result ≡ is_difference v = c.is_difference.ensures in
    elim c.if-is_difference.branch [
      | then-is_difference w ↦
          let p = w.index.result.now in
          let q = w.index-then-is_difference.result.now in
          let p_at = circuit_at c.args.left.now k p (omega (arith, below, g)) w.index.ensures in
          let q_at = circuit_at c.args.right.now k q (omega (arith, below, g, a, b, n)) w.index-then-is_difference.ensures in
          let new : c.if-is_difference.goes.items ≡ w.mark_apart.new.marks.items = ap (λ (m : _). m.items) w.goes-is in
          subst (λ (m : List Bool). IsGoingBelow left right vs (k + 1) m) (sym new)
          (differing left right vs k c.pairs.goes.items c.pairs.invariant (plain_circuit p) (plain_circuit q) v p_at q_at answer w.mark_apart.new.marks.items (sym tells ∙ w.if-is_difference.true)
          w.mark_apart.ensures.long w.mark_apart.ensures.each)
      | else-is_difference w ↦
          let new : c.if-is_difference.goes.items ≡ c.pairs.goes.items = ap (λ (m : _). m.items) w.goes-is in
          subst (λ (m : List Bool). IsGoingBelow left right vs (k + 1) m) (sym new)
          (staying left right vs k c.pairs.goes.items c.pairs.invariant x.0 y.0 v x.1 y.1 answer (sym tells ∙ w.if-is_difference.false))
    ]

pub returns : goal.returns
returns c =
    let left = plain_netlist c.args.left.now in
    let right = plain_netlist c.args.right.now in
    let vs = map plain_answer c.args.answers.now in
    let m = length-map c.args.answers.now plain_answer in
    let past : length c.args.answers.now ≤ c.pairs.k = search rules in
    all_marked left right vs c.pairs.k c.pairs.goes.items (omega (arith, m, past)) c.pairs.invariant
