use Rattle.std.proofs.Common.{◌≡◌, ◌∙◌, ◌<◌, ℕ, List, [], map, take, get_or, length, subst, sym, ap, refl, arith}
use Rattle.std.proofs.Math.Seq.{take-length}
use Rattle.std.proofs.lemmas.Option.{slice_get-get_or, slice_get_within}
use Rattle.deep_tables.specs.Pins.{plain_pins}
use Rattle.deep_tables.specs.Positions.{AreApartBelow}
use Rattle.circuit_phase.proofs.Naming.{get_same, map_next, named_at, place_in_names, places_by, places_few}
use Rattle.circuit_phase.proofs.named.circuit_net_names.Goals as goal

pub positions-requires-clause-numbers : goal.positions-requires-clause-numbers
positions-requires-clause-numbers c =
    let marks = c.args.drawn.now in
    subst (λ (l : List ℕ). AreApartBelow (length marks) l) (sym (c.deref.ensures.value ∙ c.in_ok-order.ensures)) (places_by (length marks) marks refl)

pub positions-requires-clause-few : goal.positions-requires-clause-few
positions-requires-clause-few c =
    let low = places_few 0 c.args.drawn.now in
    let few = c.requires.few in
    let e = ap (λ (l : List ℕ). length l) (c.deref.ensures.value ∙ c.in_ok-order.ensures) in
    omega (arith, low, few, e)

pub index-place-requires : goal.index-place-requires
index-place-requires c =
    let n = c.loop-net.net-index in
    let x = get_or c.args.nets.now n 0 in
    let lt = slice_get_within c.args.drawn.now x _ (c.requires.drawn n x (slice_get-get_or c.args.nets.now n 0 c.loop-net-test.true)) in
    let long = c.in_ok-places.ensures.count in
    omega (arith, lt, long)

pub index-requires : goal.index-requires
index-requires c =
    let n = c.loop-net.net-index in
    let x = get_or c.args.nets.now n 0 in
    let told = c.requires.drawn n x (slice_get-get_or c.args.nets.now n 0 c.loop-net-test.true) in
    let places = c.in_ok-places.places.items in
    let low = slice_get_within c.args.drawn.now x _ told in
    let long = c.in_ok-places.ensures.count in
    let inside : x < length places = omega (arith, low, long) in
    let p = c.index-place.result.now in
    let at : p ≡ get_or places x 0 = c.index-place.ensures ∙ get_same places x p 0 inside in
    let lt = place_in_names (plain_pins c.args.pins.now) c.args.drawn.now c.deref.result.now places c.in_ok-names.names.items (c.deref.ensures.value ∙ c.in_ok-order.ensures) c.in_ok-places.ensures.places c.in_ok-names.ensures x p told at in
    omega (arith, lt)

pub loop-net-preserved : goal.loop-net-preserved
loop-net-preserved c =
    let n = c.loop-net.net-index in
    let x = get_or c.args.nets.now n 0 in
    let told = c.requires.drawn n x (slice_get-get_or c.args.nets.now n 0 c.loop-net-test.true) in
    let places = c.in_ok-places.places.items in
    let names : List (List ℕ) = c.in_ok-names.names.items in
    let low = slice_get_within c.args.drawn.now x _ told in
    let long = c.in_ok-places.ensures.count in
    let inside : x < length places = omega (arith, low, long) in
    let p = c.index-place.result.now in
    let at : p ≡ get_or places x 0 = c.index-place.ensures ∙ get_same places x p 0 inside in
    let lt = place_in_names (plain_pins c.args.pins.now) c.args.drawn.now c.deref.result.now places names (c.deref.ensures.value ∙ c.in_ok-order.ensures) c.in_ok-places.ensures.places c.in_ok-names.ensures x p told at in
    let f : ℕ → List ℕ = λ y. get_or names (get_or places y 0) [] in
    let name : c.index.result.now ≡ f x = c.index.ensures ∙ get_same names p c.index.result.now [] lt ∙ ap (λ k. get_or names k []) at in
    map_next f c.args.nets.now n c.loop-net.out.items c.push.new.self.items c.in_ok-try_clone.field-0 c.loop-net-test.true (c.in_ok-try_clone.ensures ∙ name) c.in_ok-push.ensures.items c.loop-net.invariant

pub returns-clause-named : goal.returns-clause-named
returns-clause-named c =
    let nets = c.args.nets.now in
    let places = c.in_ok-places.places.items in
    let names : List (List ℕ) = c.in_ok-names.names.items in
    let f : ℕ → List ℕ = λ y. get_or names (get_or places y 0) [] in
    let high = c.loop-net-test.false in
    let low = c.loop-net.auto.net-index-end in
    let end : c.loop-net.net-index ≡ length nets = omega (arith, high, low) in
    named_at (plain_pins c.args.pins.now) c.args.drawn.now c.deref.result.now places nets names c.loop-net.out.items (c.deref.ensures.value ∙ c.in_ok-order.ensures) c.in_ok-places.ensures.places c.in_ok-names.ensures
    (c.loop-net.invariant ∙ ap (λ k. map f (take k nets)) end ∙ ap (λ l. map f l) (take-length nets))
