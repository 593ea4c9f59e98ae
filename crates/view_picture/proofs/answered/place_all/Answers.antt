use Rattle.std.proofs.Common.{◌≡◌, ◌∷◌, ◌-◌, List, ap, arith, drop, length, map, subst, sym, take}
use Rattle.std.proofs.lemmas.List.Elements.{All-head, All-same, All-tail}
use Rattle.net_model.specs.Rows.{plain_circuit}
use Rattle.plain_netlist.specs.Netlist.{Circuit}
use Rattle.view_drawing.proofs.Placing.{front, nil_of}
use Rattle.view_netlist.specs.Drawing.{Drawn, IsSmallDrawing, plain_drawing}
use Rattle.view_netlist.specs.declared.drawing.Drawing.{Drawing}
use Rattle.view_picture.specs.Picture.{plain_drawings}
use Rattle.view_picture.proofs.Placed.{PlacesOn, no_drawing, no_left, no_other, places_next}
use Rattle.view_picture.proofs.answered.place_all.Goals as goal

pub place-requires : goal.place-requires
place-requires c =
    let step : c.drawings.drawing-iterator.rest.items ≡ c.in-Some.drawing ∷ c.next.new.self.rest.items = c.in-Some.ensures.steps.0 in
    All-head (λ (d : Drawing). IsSmallDrawing (plain_drawing d)) c.in-Some.drawing c.next.new.self.rest.items (All-same (λ (d : Drawing). IsSmallDrawing (plain_drawing d)) _ _ (sym step) c.drawings.invariant.1)

pub drawings-preserved : goal.drawings-preserved
drawings-preserved c =
    let step : c.drawings.drawing-iterator.rest.items ≡ c.in-Some.drawing ∷ c.next.new.self.rest.items = c.in-Some.ensures.steps.0 in
    let ds = plain_drawings c.drawings.drawing-iterator.rest.items in
    let tail = plain_drawings c.next.new.self.rest.items in
    let rest = c.drawings.rest.now in
    let others = c.drawings.others.now in
    let left = c.left-item.result in
    let other = c.other-item.result in
    let more = map plain_circuit (take (length rest - 1) (drop 1 rest)) in
    let further = map plain_circuit (take (length others - 1) (drop 1 others)) in
    let out = plain_drawings c.drawings.out.items in
    let all_ms = map plain_circuit c.args.answered.now in
    let all_cs = map plain_circuit c.args.lefts.now in
    let all_ds = plain_drawings c.args.drawings.items in
    let one = subst (λ (l : List Circuit). PlacesOn l (map plain_circuit rest) ds out all_ms all_cs all_ds) (front plain_circuit others other c.in-len1-up-others.len_at_least c.other-item.is) c.drawings.invariant.0 in
    let two = subst (λ (l : List Circuit). PlacesOn (plain_circuit other ∷ further) l ds out all_ms all_cs all_ds) (front plain_circuit rest left c.in-len1-up.len_at_least c.left-item.is) one in
    let three = subst (λ (l : List Drawn). PlacesOn (plain_circuit other ∷ further) (plain_circuit left ∷ more) l out all_ms all_cs all_ds) (ap plain_drawings step) two in
    let next = places_next (plain_circuit other) further (plain_circuit left) more (plain_drawing c.in-Some.drawing) tail (plain_drawing c.in_ok-placed.placed) out all_ms all_cs all_ds c.in_ok-placed.ensures.placed three in (
      subst (λ (l : List Drawn). PlacesOn further more tail l all_ms all_cs all_ds) (sym c.in_ok-keep.ensures.kept) next,
      All-tail (λ (d : Drawing). IsSmallDrawing (plain_drawing d)) c.in-Some.drawing c.next.new.self.rest.items (All-same (λ (d : Drawing). IsSmallDrawing (plain_drawing d)) _ _ (sym step) c.drawings.invariant.1),
      c.in_ok-keep.ensures.small c.drawings.invariant.2,
    )

pub returns-in_default-clause-placed : goal.returns-in_default-clause-placed
returns-in_default-clause-placed c =
    no_left (map plain_circuit c.drawings.others.now) (map plain_circuit c.drawings.rest.now) (plain_drawings c.drawings.drawing-iterator.rest.items) (plain_drawings c.drawings.out.items)
    (map plain_circuit c.args.answered.now) (map plain_circuit c.args.lefts.now) (plain_drawings c.args.drawings.items) (nil_of plain_circuit c.drawings.rest.now c.in_default.len_below) c.drawings.invariant.0

pub returns-in_default-others-clause-placed : goal.returns-in_default-others-clause-placed
returns-in_default-others-clause-placed c =
    no_other (map plain_circuit c.drawings.others.now) (map plain_circuit c.drawings.rest.now) (plain_drawings c.drawings.drawing-iterator.rest.items) (plain_drawings c.drawings.out.items)
    (map plain_circuit c.args.answered.now) (map plain_circuit c.args.lefts.now) (plain_drawings c.args.drawings.items) (nil_of plain_circuit c.drawings.others.now c.in_default-others.len_below) c.drawings.invariant.0

pub returns-clause-placed : goal.returns-clause-placed
returns-clause-placed c =
    let long = c.drawings.drawing-iterator.rest.ok.0 in
    let none = c.in-None.ensures.steps.0 in
    no_drawing (map plain_circuit c.drawings.others.now) (map plain_circuit c.drawings.rest.now) (plain_drawings c.drawings.drawing-iterator.rest.items) (plain_drawings c.drawings.out.items)
    (map plain_circuit c.args.answered.now) (map plain_circuit c.args.lefts.now) (plain_drawings c.args.drawings.items) (nil_of plain_drawing c.drawings.drawing-iterator.rest.items (omega (arith, long, none))) c.drawings.invariant.0
