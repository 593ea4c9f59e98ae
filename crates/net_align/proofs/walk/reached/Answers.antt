use Rattle.std.proofs.Common.{◌≡◌, ◌<◌, ◌≤◌, ◌+◌, ◌-◌, ℕ, Bool, true, false, List, Some, map, replicate, length, slice_get, slice_set, slice_index_or, refl, sym, subst, ap, ◌∙◌, rules, arith}
use Rattle.base_laws.proofs.Items.{map_to}
use Rattle.std.proofs.lemmas.List.{length-map}
use Rattle.net_model.specs.Faults.{called_by}
use Rattle.net_model.specs.Rows.{plain_netlist, plain_circuit, plain_call}
use Rattle.net_model.specs.declared.netlist.CallRow.{CallRow}
use Rattle.net_model.proofs.CheckLemmas.{called_same}
use Rattle.net_align.specs.Marks.{marked}
use Rattle.net_align.specs.Walked.{IsReaching}
use Rattle.net_align.proofs.Placed.{low_in, stands_at}
use Rattle.net_align.proofs.Walking.{first_reached, reach_step, reach_stays, all_reached}
use Rattle.net_align.proofs.walk.reached.Goals.{then-is_marked, else-is_marked}
use Rattle.net_align.proofs.walk.reached.Goals as goal

pub loop-i-init : goal.loop-i-init
loop-i-init c =
    let nl = plain_netlist c.args.netlist.now in
    let xs = c.args.netlist.now.circuits.items in
    let k = length-map xs plain_circuit in
    let low = low_in c.args.netlist.now c.args.top c.requires.top in
    let none : c.in_ok-marks.marks.items ≡ replicate (length xs) false = search rules in
    let all : c.in_ok-marks.marks.items ≡ replicate (length nl.circuits) false = none ∙ ap (λ (n : ℕ). replicate n false) (sym k) in
    first_reached nl c.args.order.now c.requires.order c.args.top 0 (slice_set c.in_ok-marks.marks.items c.args.top true) low (ap (λ (m : List Bool). slice_set m c.args.top true) all) refl

pub mark_called-requires : goal.mark_called-requires
mark_called-requires c j r e =
    let nl = plain_netlist c.args.netlist.now in
    let order = c.args.order.now in
    let i = c.loop-i.i in
    let below : i < length order = search rules in
    let p = length order - 1 - i in
    let a = slice_index_or order p 0 in
    let it = stands_at c.args.netlist.now c.requires.order p (omega (arith, below)) in
    let x = c.index.result.now in
    let circuit = it.circuit x c.index.ensures in
    let row : slice_get x.calls.items j ≡ Some r = subst (λ (t : List CallRow). slice_get t j ≡ Some r) c.deref-then-is_marked.ensures.value e in
    let l = c.requires.calls a j (plain_call r) (plain_circuit x, circuit, map_to plain_call x.calls.items j r row) in
    let m = c.loop-i.invariant.long in
    omega (arith, l, m)

pub loop-i-preserved : goal.loop-i-preserved
loop-i-preserved c =
    let nl = plain_netlist c.args.netlist.now in
    let order = c.args.order.now in
    let i = c.loop-i.i in
    let top = c.args.top in
    let marks = c.loop-i.marks.items in
    let below : i < length order = search rules in
    let p = length order - 1 - i in
    let a = slice_index_or order p 0 in
    let count : p + i + 1 ≡ length order = omega (arith, below) in
    let it = stands_at c.args.netlist.now c.requires.order p (omega (arith, below)) in
    let tells : c.is_marked.result ≡ slice_index_or marks a false = c.is_marked.ensures ∙ ap (λ (t : List Bool). slice_index_or t a false) c.deref.ensures.value in
    elim c.if-is_marked.branch [
      | then-is_marked w ↦
          let x = w.index.result.now in
          let circuit = it.circuit x w.index.ensures in
          let ids : map (λ (r : CallRow). r.circuit) w.deref-then-is_marked.result.now ≡ called_by (plain_circuit x) = ap (λ (t : List CallRow). map (λ (r : CallRow). r.circuit) t) w.deref-then-is_marked.ensures.value ∙ called_same x.calls.items in
          let new : c.if-is_marked.marks.items ≡ marked (called_by (plain_circuit x)) marks = ap (λ (v : _). v.items) w.marks-is ∙ (w.mark_called.ensures ∙ ap (λ (t : List ℕ). marked t marks) ids) in
          reach_step nl order c.requires.order top i p a marks c.if-is_marked.marks.items (plain_circuit x) count it.at circuit c.requires.calls c.loop-i.invariant (sym tells ∙ w.if-is_marked.true) new
      | else-is_marked w ↦
          let new : c.if-is_marked.marks.items ≡ marks = ap (λ (v : _). v.items) w.marks-is in
          subst (λ (m : List Bool). IsReaching nl top order (i + 1) m) (sym new) (reach_stays nl order c.requires.order top i p a marks count it.at c.loop-i.invariant (sym tells ∙ w.if-is_marked.false))
    ]

pub returns : goal.returns
returns c =
    let nl = plain_netlist c.args.netlist.now in
    let order = c.args.order.now in
    let low = low_in c.args.netlist.now c.args.top c.requires.top in
    let long : length order ≤ c.loop-i.i = search rules in
    all_reached nl order c.requires.order c.args.top c.loop-i.i c.loop-i.marks.items long low c.loop-i.invariant
