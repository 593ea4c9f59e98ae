use Rattle.std.proofs.Common.{arith, length, Bool, ◌≡◌, ℕ, List, subst, sym, ◌∙◌, ap}
use Rattle.net_model.specs.Rows.{plain_circuit}
use Rattle.match_types.specs.Children.{children_of, is_told}
use Rattle.pairing_check.specs.Parts.{AreNamesKept, ArePinsKept, AreDeviceImages, AreCallImages}
use Rattle.match_parts.specs.Rows.{AreBelow}
use Rattle.pairing_check.proofs.Whole.{whole, pins_of, names_of, below, devices_on, calls_on, refuse, as_many}
use Rattle.pairing_check.proofs.check.check_pairing.Goals as goal

pub pins_kept-requires-clause-onto : goal.pins_kept-requires-clause-onto
pins_kept-requires-clause-onto c =
    let m = c.maps_onto.ensures.exact.0 c.if-not-maps_onto.false in
    let room = c.maps_onto.ensures.room in
    let e : length c.args.right.now.nets.items ≡ length c.deref_mut-2.result.now = sym room.nets ∙ ap length (sym c.deref_mut-2.ensures.value) in
    subst (λ (n : ℕ). AreBelow c.deref.result.now n) e (subst (λ (xs : List ℕ). AreBelow xs (length c.args.right.now.nets.items)) (sym c.deref.ensures.value) (below _ _ _ m.nets))

pub pins_kept-requires-clause-same : goal.pins_kept-requires-clause-same
pins_kept-requires-clause-same c =
    let m = c.maps_onto.ensures.exact.0 c.if-not-maps_onto.false in
    ap length c.deref_mut.ensures.value ∙ (c.maps_onto.ensures.room.pins ∙ sym (as_many _ _ _ m.nets) ∙ ap length (sym c.deref.ensures.value))

pub returns-then-not-pins_kept-clause-exact : goal.returns-then-not-pins_kept-clause-exact
returns-then-not-pins_kept-clause-exact c =
    let m = c.maps_onto.ensures.exact.0 c.if-not-maps_onto.false in
    refuse _ c.pins_kept.ensures c.if-not-pins_kept.true
    (λ h. subst (λ (xs : List ℕ). ArePinsKept (plain_circuit c.args.left.now) (plain_circuit c.args.right.now) xs) (sym c.deref.ensures.value) (pins_of c.args.left.now c.args.right.now c.args.children.now c.args.pairing.now m h))

pub names_kept-requires-clause-count : goal.names_kept-requires-clause-count
names_kept-requires-clause-count c =
    let m = c.maps_onto.ensures.exact.0 c.if-not-maps_onto.false in
    ap length c.deref-2.ensures.value ∙ m.nets.count

pub names_kept-requires-clause-onto : goal.names_kept-requires-clause-onto
names_kept-requires-clause-onto c =
    let m = c.maps_onto.ensures.exact.0 c.if-not-maps_onto.false in
    subst (λ (xs : List ℕ). AreBelow xs (length c.args.right.now.nets.items)) (sym c.deref-2.ensures.value) (below _ _ _ m.nets)

pub names_kept-requires-clause-same : goal.names_kept-requires-clause-same
names_kept-requires-clause-same c =
    let m = c.maps_onto.ensures.exact.0 c.if-not-maps_onto.false in
    let long = as_many _ _ _ m.nets in
    let room = c.maps_onto.ensures.room.pins in
    let one = c.deref_mut.ensures.len in
    let two = c.deref_mut-3.ensures.len in
    let three = ap length c.deref_mut-3.ensures.value in
    let four = c.pins_kept.auto.left_marks in
    let six = ap length c.deref-2.ensures.value in
    let seven = ap length c.deref_mut.ensures.value in
    omega (arith, long, room, one, two, three, four, six, seven)

pub names_kept-requires-clause-pins : goal.names_kept-requires-clause-pins
names_kept-requires-clause-pins c =
    subst (λ (xs : List ℕ). ArePinsKept (plain_circuit c.args.left.now) (plain_circuit c.args.right.now) xs) (c.deref.ensures.value ∙ sym c.deref-2.ensures.value) (c.pins_kept.ensures.0 c.if-not-pins_kept.false)

pub returns-then-not-names_kept-clause-exact : goal.returns-then-not-names_kept-clause-exact
returns-then-not-names_kept-clause-exact c =
    let m = c.maps_onto.ensures.exact.0 c.if-not-maps_onto.false in
    refuse _ c.names_kept.ensures c.if-not-names_kept.true
    (λ h. subst (λ (b : Bool). AreNamesKept b (plain_circuit c.args.left.now) (plain_circuit c.args.right.now) c.deref-2.result.now) (sym c.told.ensures)
    (subst (λ (xs : List ℕ). AreNamesKept (is_told c.args.children.now) (plain_circuit c.args.left.now) (plain_circuit c.args.right.now) xs) (sym c.deref-2.ensures.value) (names_of c.args.left.now c.args.right.now c.args.children.now c.args.pairing.now m h)))

pub devices_kept-requires-clause-nets : goal.devices_kept-requires-clause-nets
devices_kept-requires-clause-nets c =
    let m = c.maps_onto.ensures.exact.0 c.if-not-maps_onto.false in
    devices_on c.args.left.now c.args.right.now c.args.children.now (length c.deref-3.result.now) c.requires.left (sym m.nets.count ∙ ap length (sym c.deref-3.ensures.value))

pub devices_kept-requires-clause-onto : goal.devices_kept-requires-clause-onto
devices_kept-requires-clause-onto c =
    let m = c.maps_onto.ensures.exact.0 c.if-not-maps_onto.false in
    subst (λ (xs : List ℕ). AreBelow xs (length c.args.right.now.devices.items)) (sym c.deref-4.ensures.value) (below _ _ _ m.devices)

pub returns-then-not-devices_kept-clause-exact : goal.returns-then-not-devices_kept-clause-exact
returns-then-not-devices_kept-clause-exact c =
    refuse _ c.devices_kept.ensures c.if-not-devices_kept.true
    (λ h. subst (λ (xs : List ℕ). AreDeviceImages (plain_circuit c.args.left.now) (plain_circuit c.args.right.now) xs c.deref-4.result.now) (sym c.deref-3.ensures.value)
    (subst (λ (xs : List ℕ). AreDeviceImages (plain_circuit c.args.left.now) (plain_circuit c.args.right.now) c.args.pairing.now.nets.items xs) (sym c.deref-4.ensures.value) h.device))

pub calls_kept-requires-clause-nets : goal.calls_kept-requires-clause-nets
calls_kept-requires-clause-nets c =
    let m = c.maps_onto.ensures.exact.0 c.if-not-maps_onto.false in
    calls_on c.args.left.now c.args.right.now c.args.children.now (length c.deref-5.result.now) c.requires.left (sym m.nets.count ∙ ap length (sym c.deref-5.ensures.value))

pub calls_kept-requires-clause-onto : goal.calls_kept-requires-clause-onto
calls_kept-requires-clause-onto c =
    let m = c.maps_onto.ensures.exact.0 c.if-not-maps_onto.false in
    subst (λ (xs : List ℕ). AreBelow xs (length c.args.right.now.calls.items)) (sym c.deref-6.ensures.value) (below _ _ _ m.calls)

pub returns-clause-exact : goal.returns-clause-exact
returns-clause-exact c =
    let l = c.args.left.now in
    let r = c.args.right.now in
    let m = c.maps_onto.ensures.exact.0 c.if-not-maps_onto.false in
    let pins = subst (λ (xs : List ℕ). ArePinsKept (plain_circuit c.args.left.now) (plain_circuit c.args.right.now) xs) c.deref.ensures.value (c.pins_kept.ensures.0 c.if-not-pins_kept.false) in
    let names = subst (λ (xs : List ℕ). AreNamesKept (is_told c.args.children.now) (plain_circuit c.args.left.now) (plain_circuit c.args.right.now) xs) c.deref-2.ensures.value
    (subst (λ (b : Bool). AreNamesKept b (plain_circuit c.args.left.now) (plain_circuit c.args.right.now) c.deref-2.result.now) c.told.ensures (c.names_kept.ensures.0 c.if-not-names_kept.false)) in
    let devices = subst (λ (xs : List ℕ). AreDeviceImages (plain_circuit c.args.left.now) (plain_circuit c.args.right.now) c.args.pairing.now.nets.items xs) c.deref-4.ensures.value
    (subst (λ (xs : List ℕ). AreDeviceImages (plain_circuit c.args.left.now) (plain_circuit c.args.right.now) xs c.deref-4.result.now) c.deref-3.ensures.value (c.devices_kept.ensures.0 c.if-not-devices_kept.false)) in (
      (λ e.
          let calls = subst (λ (xs : List ℕ). AreCallImages (children_of c.args.children.now) (plain_circuit c.args.left.now) (plain_circuit c.args.right.now) c.args.pairing.now.nets.items xs) c.deref-6.ensures.value
          (subst (λ (xs : List ℕ). AreCallImages (children_of c.args.children.now) (plain_circuit c.args.left.now) (plain_circuit c.args.right.now) xs c.deref-6.result.now) c.deref-5.ensures.value (c.calls_kept.ensures.0 e)) in
          whole c.args.left.now c.args.right.now c.args.children.now c.args.pairing.now m pins names devices calls),
      (λ h. c.calls_kept.ensures.1
          (subst (λ (xs : List ℕ). AreCallImages (children_of c.args.children.now) (plain_circuit c.args.left.now) (plain_circuit c.args.right.now) xs c.deref-6.result.now) (sym c.deref-5.ensures.value)
          (subst (λ (xs : List ℕ). AreCallImages (children_of c.args.children.now) (plain_circuit c.args.left.now) (plain_circuit c.args.right.now) c.args.pairing.now.nets.items xs) (sym c.deref-6.ensures.value) h.call))),
    )
