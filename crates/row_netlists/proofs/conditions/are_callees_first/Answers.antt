use Rattle.std.proofs.Common.{◌≡◌, ◌<◌, ◌≤◌, false, List, Some, length, slice_get, refl, sym, ap, ◌∙◌, rules, arith}
use Rattle.std.specs.Prelude.{nat_lt, not}
use Rattle.std.specs.List.{list_any}
use Rattle.std.proofs.lemmas.Option.{slice_get_read, slice_get_within}
use Rattle.std.proofs.lemmas.List.{length-map}
use Rattle.net_model.specs.Rows.{plain_circuit, plain_netlist}
use Rattle.net_model.specs.declared.netlist.CallRow.{CallRow}
use Rattle.row_netlists.proofs.Tested.{calls_low, first_more}
use Rattle.row_netlists.proofs.conditions.are_callees_first.Goals as goal

pub loop-i-preserved : goal.loop-i-preserved
loop-i-preserved c =
    let n = c.args.n.now in
    let xs = n.circuits.items in
    let i = c.loop-i.i in
    let x = c.index.result.now in
    let low : i < length xs = search rules in
    let at : slice_get xs i ≡ Some x = slice_get_read xs (length xs) i x refl low c.index.ensures in
    let none : list_any (λ (r : CallRow). not (nat_lt r.circuit i)) x.calls.items ≡ false
    = ap (λ (t : List CallRow). list_any (λ (r : CallRow). not (nat_lt r.circuit i)) t) (sym c.deref.ensures.value) ∙ (sym c.calls_from.ensures ∙ c.if-calls_from.false) in
    first_more (plain_netlist n) i c.loop-i.invariant (calls_low n i x at none)

pub returns : goal.returns
returns c e a k row call =
    let xs = c.args.n.now.circuits.items in
    let long : length xs ≤ c.loop-i.i = search rules in
    let l = slice_get_within (plain_netlist c.args.n.now).circuits a call.0 call.1 in
    let m = length-map xs plain_circuit in
    c.loop-i.invariant a k row (omega (arith, l, m, long)) call
