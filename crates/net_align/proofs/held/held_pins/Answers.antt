use Rattle.std.proofs.Common.{◌≡◌, ◌<◌, ◌≤◌, ◌+◌, ℕ, List, Option, Some, length, refl, sym, subst, ap, ◌∙◌, rules}
use Rattle.std.specs.Prelude.{slice_get, slice_set, slice_index_or, is_some, IfSome}
use Rattle.std.proofs.lemmas.List.{length-map}
use Rattle.std.proofs.lemmas.Option.{slice_get-get_or}
use Rattle.std.specs.Global.{Vec}
use Rattle.align_laws.specs.Lists.{plain}
use Rattle.call_order.specs.Order.{lists}
use Rattle.net_model.specs.Rows.{plain_circuit}
use Rattle.net_model.specs.declared.netlist.Circuit.{Circuit}
use Rattle.net_align.specs.Laid.{AreBelow, AreCircuitsBelow}
use Rattle.net_align.specs.Kept.{AreHeldBelow}
use Rattle.net_align.specs.Sights.{is_kept, inner_sights, own_pins}
use Rattle.net_align.proofs.Holding.{none_held, held_more, held_stays, held_all, pins_before, row_calls, row_nets, lists_set, read_is}
use Rattle.net_align.proofs.held.held_pins.Goals.{then-is_some+in_ok-held-2, else-is_some}
use Rattle.net_align.proofs.held.held_pins.Goals as goal

pub loop-circuit-init : goal.loop-circuit-init
loop-circuit-init g c =
    let k = length-map c.in_ok-held.held.items (λ (v : Vec ℕ). v.items) in
    let l : length c.in_ok-held.held.items ≡ length c.args.flats.now = search rules in
    none_held g.given.netlist g.given.flattening.flats c.args.numbers.now c.args.order.now 0 (lists c.in_ok-held.held.items) (k ∙ (l ∙ c.requires.1.1.1.1.long)) refl

pub own_pins-requires-clause-circuits : goal.own_pins-requires-clause-circuits
own_pins-requires-clause-circuits g c =
    let order = c.args.order.now in
    let n = c.loop-circuit.circuit-index in
    let a = slice_index_or order n 0 in
    let tells : c.is_some.result ≡ is_kept c.args.numbers.now a = c.is_some.ensures ∙ ap (λ (o : Option ℕ). is_some o) c.entry.ensures in
    let kept = c.requires.1.1.1.0 a (sym tells ∙ c.if-is_some.true) in
    let has = c.requires.1.1.1.1.each a kept.0 kept.1 in
    let is : c.index-flats-circuit.result ≡ Some has.inner = read_is c.args.flats.now a c.index-flats-circuit.result (Some has.inner) has.there c.index-flats-circuit.is in
    let long : length c.deref.result.now ≡ length g.given.netlist.circuits =
    ap (λ (t : List (Vec ℕ)). length t) c.deref.ensures.value ∙ (sym (length-map c.loop-circuit.held.items (λ (v : Vec ℕ). v.items)) ∙ c.loop-circuit.invariant.long) in
    subst (λ (o : Option Circuit). IfSome o (λ x. AreCircuitsBelow x.calls.items (length c.deref.result.now))) (sym is)
    (subst (λ (k : ℕ). AreCircuitsBelow has.inner.calls.items k) (sym long) (row_calls g.given.netlist g.given.goes g.given.flattening c.requires.0 a has.inner kept.0 has.is))

pub own_pins-requires-clause-nets : goal.own_pins-requires-clause-nets
own_pins-requires-clause-nets g c =
    let nl = g.given.netlist in
    let f = g.given.flattening in
    let numbers = c.args.numbers.now in
    let order = c.args.order.now in
    let n = c.loop-circuit.circuit-index in
    let a = slice_index_or order n 0 in
    let below : n < length order = search rules in
    let at : slice_get order n ≡ Some a = slice_get-get_or order n 0 below in
    let tells : c.is_some.result ≡ is_kept numbers a = c.is_some.ensures ∙ ap (λ (o : Option ℕ). is_some o) c.entry.ensures in
    let kept = c.requires.1.1.1.0 a (sym tells ∙ c.if-is_some.true) in
    let has = c.requires.1.1.1.1.each a kept.0 kept.1 in
    let is : c.index-flats-circuit.result ≡ Some has.inner = read_is c.args.flats.now a c.index-flats-circuit.result (Some has.inner) has.there c.index-flats-circuit.is in
    let held = lists c.loop-circuit.held.items in
    let pins = pins_before nl g.given.goes f c.requires.0 order c.requires.1.0 c.requires.1.1.0 numbers n a held c.loop-circuit.invariant at in
    subst (λ (o : Option Circuit). IfSome o (λ x. AreBelow (inner_sights numbers (lists c.deref.result.now) (plain_circuit x)) (length x.nets.items))) (sym is)
    (subst (λ (t : List (Vec ℕ)). AreBelow (inner_sights numbers (lists t) (plain_circuit has.inner)) (length has.inner.nets.items)) (sym c.deref.ensures.value)
    (row_nets nl g.given.goes f c.requires.0 numbers held a has.inner kept.0 has.is pins))

pub loop-circuit-preserved : goal.loop-circuit-preserved
loop-circuit-preserved g c =
    let nl = g.given.netlist in
    let f = g.given.flattening in
    let numbers = c.args.numbers.now in
    let order = c.args.order.now in
    let n = c.loop-circuit.circuit-index in
    let a = slice_index_or order n 0 in
    let below : n < length order = search rules in
    let at : slice_get order n ≡ Some a = slice_get-get_or order n 0 below in
    let tells : c.is_some.result ≡ is_kept numbers a = c.is_some.ensures ∙ ap (λ (o : Option ℕ). is_some o) c.entry.ensures in
    let held = lists c.loop-circuit.held.items in
    elim c.if-is_some.branch [
      | then-is_some+in_ok-held-2 w ↦
          let kept = c.requires.1.1.1.0 a (sym tells ∙ w.if-is_some.true) in
          let has = c.requires.1.1.1.1.each a kept.0 kept.1 in
          let is : w.index-flats-circuit.result ≡ Some has.inner = read_is c.args.flats.now a w.index-flats-circuit.result (Some has.inner) has.there w.index-flats-circuit.is in
          let v = w.in_ok-held-2.field-0 in
          let told : IfSome (Some has.inner) (λ x. v.items ≡ own_pins numbers (lists w.deref.result.now) (plain_circuit x)) =
          subst (λ (o : Option Circuit). IfSome o (λ x. v.items ≡ own_pins numbers (lists w.deref.result.now) (plain_circuit x))) is w.in_ok-held-2.ensures in
          let own : v.items ≡ own_pins numbers held (plain (f.flats a)) = told ∙ (ap (λ (t : List (Vec ℕ)). own_pins numbers (lists t) (plain_circuit has.inner)) w.deref.ensures.value ∙ ap (own_pins numbers held) has.is) in
          let new : lists c.if-is_some.held.items ≡ slice_set held a v.items = ap (λ (t : _). lists t.items) w.held-is ∙ lists_set c.loop-circuit.held.items a v in
          held_more nl g.given.goes f c.requires.0 order c.requires.1.0 c.requires.1.1.0 numbers n a held (lists c.if-is_some.held.items) v.items at c.loop-circuit.invariant new own
      | else-is_some w ↦
          let new : lists c.if-is_some.held.items ≡ held = ap (λ (t : _). lists t.items) w.held-is in
          subst (λ (t : List (List ℕ)). AreHeldBelow nl f.flats numbers order (n + 1) t) (sym new)
          (held_stays nl g.given.goes f c.requires.0 order c.requires.1.0 c.requires.1.1.0 numbers n a held at (sym tells ∙ w.if-is_some.false) c.loop-circuit.invariant)
    ]

pub returns : goal.returns
returns g c =
    let order = c.args.order.now in
    let long : length order ≤ c.loop-circuit.circuit-index = search rules in
    held_all g.given.netlist g.given.goes g.given.flattening c.requires.0 order c.requires.1.0 c.requires.1.1.0 c.args.numbers.now c.loop-circuit.circuit-index (lists c.loop-circuit.held.items) long
    (λ a kept. (c.requires.1.1.1.0 a kept).0) c.loop-circuit.invariant
