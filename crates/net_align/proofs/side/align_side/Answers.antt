use Rattle.std.proofs.Common.{◌≡◌, ℕ, Bool, true, List, Option, map, length, sym, subst, ap₂, ◌∙◌, rules, arith}
use Rattle.std.specs.Prelude.{slice_index}
use Rattle.std.specs.Global.{Vec}
use Rattle.std.proofs.lemmas.List.{length-map}
use Rattle.std.proofs.lemmas.Option.{slice_get-get_or}
use Rattle.call_order.specs.Order.{lists, IsCallOrder}
use Rattle.plain_netlist.specs.Netlist.{Netlist}
use Rattle.net_model.specs.Faults.{call_lists}
use Rattle.net_model.specs.Rows.{plain_circuit, plain_netlist}
use Rattle.net_align.specs.Flattened.{IsFlattening}
use Rattle.net_align.specs.Kept.{AreHeldPins, cut_of}
use Rattle.net_align.specs.Laid.{goes_of}
use Rattle.net_align.specs.Side.{AreGoing}
use Rattle.net_align.specs.Sights.{IsNumbering, is_kept}
use Rattle.net_align.proofs.Sides.{numbers_are, listed_kept, kept_marked, goes_same, side_made, flats_to, marked_to}
use Rattle.net_align.proofs.side.align_side.Goals as goal

pub of-requires : goal.of-requires
of-requires g c i low =
    let xs = c.args.netlist.now.circuits.items in
    let circuits = c.args.circuits.now in
    let m = (c.requires.1.1.1.1.0 i (slice_index circuits i) (slice_get-get_or circuits i 0 low)).0 in
    let k = length-map xs plain_circuit in
    let n : c.len.result ≡ length xs = search rules in
    omega (arith, m, k, n)

pub flatten-requires : goal.flatten-requires
flatten-requires g c =
    let nl = plain_netlist c.args.netlist.now in
    let xs = c.args.netlist.now.circuits.items in
    let marks = c.args.marks.now in
    let holds = c.args.holds.now in
    let circuits = c.args.circuits.now in
    let r = c.requires.0 in
    let f = g.given.flattening in
    let numbers = c.in_ok-numbers.numbers in
    let places = numbers.places.items in
    let is : IsNumbering circuits c.len.result places = numbers_are circuits c.len.result places c.requires.1.1.1.1.1 (subst (λ (t : List ℕ). IsNumbering t c.len.result places) c.in_ok-numbers.ensures.list c.in_ok-numbers.ensures.places) in
    let going : AreGoing places holds (length holds) c.deref-2.result.now =
    subst (λ (t : List Bool). AreGoing places holds (length holds) t) (sym c.deref-2.ensures.value)
    (subst (λ (t : List (Option ℕ)). AreGoing t holds (length holds) c.in_ok-goes.goes.items) c.deref.ensures.value c.in_ok-goes.ensures) in
    let goes : goes_of c.deref-2.result.now ≡ g.given.goes = goes_same circuits c.len.result places is g.given.goes holds c.deref-2.result.now r.goes_are going in
    let a = going.long in
    let b = c.requires.1.1.1.0.long in
    let k = length-map xs plain_circuit in (
      subst (λ (n : Netlist). IsFlattening n (goes_of c.deref-2.result.now) f) r.netlist (subst (λ (t : ℕ → Bool). IsFlattening g.given.netlist t f) (sym goes) r.flattened),
      (c.requires.1.0, (c.requires.1.1.0, omega (arith, a, b, k))),
    )

pub held_pins-requires : goal.held_pins-requires
held_pins-requires g c =
    let nl = plain_netlist c.args.netlist.now in
    let xs = c.args.netlist.now.circuits.items in
    let marks = c.args.marks.now in
    let holds = c.args.holds.now in
    let circuits = c.args.circuits.now in
    let r = c.requires.0 in
    let f = g.given.flattening in
    let numbers = c.in_ok-numbers.numbers in
    let places = numbers.places.items in
    let is : IsNumbering circuits c.len.result places = numbers_are circuits c.len.result places c.requires.1.1.1.1.1 (subst (λ (t : List ℕ). IsNumbering t c.len.result places) c.in_ok-numbers.ensures.list c.in_ok-numbers.ensures.places) in (
      r.flattened,
      (
        subst (λ (n : Netlist). IsCallOrder (call_lists n) c.args.order.now) (sym r.netlist) c.requires.1.0,
        (
          r.heights,
          (
            marked_to nl g.given.netlist marks g.given.marks c.deref-4.result.now places r.netlist r.marks_are c.deref-4.ensures.value (kept_marked circuits c.len.result places is nl marks c.requires.1.1.1.1.0),
            flats_to nl g.given.netlist f.flats marks g.given.marks c.deref-3.result.now c.in_ok-flats.flats.items r.netlist r.marks_are c.deref-3.ensures.value c.in_ok-flats.ensures,
          ),
        ),
      ),
    )

pub cut_kept-requires : goal.cut_kept-requires
cut_kept-requires g c =
    let nl = plain_netlist c.args.netlist.now in
    let xs = c.args.netlist.now.circuits.items in
    let marks = c.args.marks.now in
    let holds = c.args.holds.now in
    let circuits = c.args.circuits.now in
    let r = c.requires.0 in
    let f = g.given.flattening in
    let numbers = c.in_ok-numbers.numbers in
    let places = numbers.places.items in
    let is : IsNumbering circuits c.len.result places = numbers_are circuits c.len.result places c.requires.1.1.1.1.1 (subst (λ (t : List ℕ). IsNumbering t c.len.result places) c.in_ok-numbers.ensures.list c.in_ok-numbers.ensures.places) in
    let same : c.deref-6.result.now ≡ places = c.deref-6.ensures.value in
    let pins : AreHeldPins g.given.netlist f.flats c.deref-6.result.now (lists c.deref-7.result.now) =
    subst (λ (t : List (Option ℕ)). AreHeldPins g.given.netlist f.flats t (lists c.deref-7.result.now)) (c.deref-4.ensures.value ∙ sym same)
    (subst (λ (t : List (Vec ℕ)). AreHeldPins g.given.netlist f.flats c.deref-4.result.now (lists t)) (sym c.deref-7.ensures.value) c.in_ok-held.ensures) in (
      r.flattened,
      (
        marked_to nl g.given.netlist marks g.given.marks c.deref-6.result.now places r.netlist r.marks_are same (kept_marked circuits c.len.result places is nl marks c.requires.1.1.1.1.0),
        (
          flats_to nl g.given.netlist f.flats marks g.given.marks c.deref-5.result.now c.in_ok-flats.flats.items r.netlist r.marks_are c.deref-5.ensures.value c.in_ok-flats.ensures,
          (
            pins,
            λ i d at. subst (λ (t : List (Option ℕ)). is_kept t d ≡ true) (sym same) (listed_kept circuits c.len.result places is i d at).0,
          ),
        ),
      ),
    )

pub returns : goal.returns
returns g c =
    let nl = plain_netlist c.args.netlist.now in
    let xs = c.args.netlist.now.circuits.items in
    let marks = c.args.marks.now in
    let holds = c.args.holds.now in
    let circuits = c.args.circuits.now in
    let r = c.requires.0 in
    let f = g.given.flattening in
    let numbers = c.in_ok-numbers.numbers in
    let places = numbers.places.items in
    let is : IsNumbering circuits c.len.result places = numbers_are circuits c.len.result places c.requires.1.1.1.1.1 (subst (λ (t : List ℕ). IsNumbering t c.len.result places) c.in_ok-numbers.ensures.list c.in_ok-numbers.ensures.places) in
    let held = lists c.in_ok-held.held.items in
    let pins : AreHeldPins nl f.flats places held =
    subst (λ (n : Netlist). AreHeldPins n f.flats places held) r.netlist (subst (λ (t : List (Option ℕ)). AreHeldPins g.given.netlist f.flats t held) c.deref-4.ensures.value c.in_ok-held.ensures) in
    let made : map plain_circuit c.in_ok-kept.kept.items ≡ map (cut_of f.flats places held) circuits =
    c.in_ok-kept.ensures ∙ ap₂ (λ (p : List (Option ℕ)) (t : List (Vec ℕ)). map (cut_of f.flats p (lists t)) circuits) c.deref-6.ensures.value c.deref-7.ensures.value in
    side_made nl g.given.goes f (subst (λ (n : Netlist). IsFlattening n g.given.goes f) r.netlist r.flattened) marks holds circuits c.len.result places held (plain_netlist (record { circuits = c.in_ok-kept.kept }))
    is c.requires.1.1.1.1.0 c.requires.1.1.1.0 r.goes_are pins made
