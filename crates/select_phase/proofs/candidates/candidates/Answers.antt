use Rattle.std.proofs.Common.{◌≡◌, ◌≤◌, List, length, refl, sym, ◌∙◌, arith, subst, slice_index_or}
use Rattle.std.specs.List.{All}
use Rattle.std.specs.Option.{IsSome}
use Rattle.geo_base.specs.declared.shapes.Rect.{Rect}
use Rattle.cell_context.specs.Over.{IsPiece}
use Rattle.cell_context.proofs.Collecting.{item_at}
use Rattle.cell_graph.specs.Linked.{cell_at, places_at}
use Rattle.deep_tables.specs.Layers.{layer_of}
use Rattle.flat_layout.specs.Values.{IsLocalLayer}
use Rattle.gate_phase.specs.Own.{IsHeldPart}
use Rattle.gate_phase.specs.Site.{layout_at}
use Rattle.gate_phase.proofs.Keeping.{local_pieces, one_layer}
use Rattle.gate_shapes.specs.Sets.{in_set}
use Rattle.select_phase.specs.Found.{rest_in}
use Rattle.select_phase.specs.Selections.{meant_at}
use Rattle.select_phase.proofs.Lifting.{are_candidates, more_lifted, no_place, none_lifted, rest_held}
use Rattle.select_phase.proofs.Readiness.{region_locals}
use Rattle.select_phase.proofs.candidates.candidates.Goals as goal

pub local-local-requires : goal.local-local-requires
local-local-requires c = let l = region_locals c.args.site.now c.args.selection.now c.sound.ensures c.requires.ready c.args.site.now.cell c.requires.ready.site.reached in subst IsSome (sym l.1) refl

pub loop-place-init : goal.loop-place-init
loop-place-init c =
    let site = c.args.site.now in let x = meant_at site c.args.selection.now in
    let layer = c.local-local.result.now in
    let l = region_locals site c.args.selection.now c.sound.ensures c.requires.ready site.cell c.requires.ready.site.reached in
    let is = subst (IsLocalLayer (layout_at site) x.region site.cell) (one_layer (layer_of site.layers.now.table site.cell c.args.selection.now.region) l.0 layer l.1 c.local-local.ensures) l.2 in
    let same : c.in_ok-out.out.items ≡ layer = c.in_ok-out.ensures.items_if_clones_equal (λ x y e. e) ∙ c.rects.ensures.list in
    record {
      pieces = subst (All (IsPiece c.plane-plane.result)) (sym same) (local_pieces site.design.now x.region site.cell layer layer c.plane-plane.result c.sound.ensures l.3.most is c.plane-plane.ensures.all (λ r e. e));
      local = λ q. ((λ e. (is.each q).0 (subst (λ (r : List Rect). in_set r q) same e)), (λ h. subst (λ (r : List Rect). in_set r q) (sym same) ((is.each q).1 h)));
      lifted = none_lifted (places_at (cell_at site.design.now site.cell)) (rest_in c.args.below.now) c.in_ok-out.out.items;
    }

pub push_rest-requires-clause-reach : goal.push_rest-requires-clause-reach
push_rest-requires-clause-reach c =
    let l = region_locals c.args.site.now c.args.selection.now c.sound.ensures c.requires.ready c.args.site.now.cell c.requires.ready.site.reached in
    let known = c.reach-reach.ensures ∙ l.3.is in
    let most = l.3.most in
    omega (arith, known, most)

pub push_rest-requires-clause-place : goal.push_rest-requires-clause-place
push_rest-requires-clause-place c = (
  c.loop-place.place-index,
  item_at c.places-place-items.result.now (places_at (cell_at c.args.site.now.design.now c.args.site.now.cell)) c.loop-place.place-index no_place c.places-place-items.ensures c.loop-place-test.true,
)

pub push_rest-requires-clause-held : goal.push_rest-requires-clause-held
push_rest-requires-clause-held c =
    let site = c.args.site.now in let d = site.design.now in let x = meant_at site c.args.selection.now in
    let l = region_locals site c.args.selection.now c.sound.ensures c.requires.ready site.cell c.requires.ready.site.reached in
    let p = slice_index_or c.places-place-items.result.now c.loop-place.place-index no_place in
    let there = item_at c.places-place-items.result.now (places_at (cell_at d site.cell)) c.loop-place.place-index no_place c.places-place-items.ensures c.loop-place-test.true in
    subst (λ n. IsHeldPart n d p.cell (rest_in c.args.below.now p.cell)) (sym (c.reach-reach.ensures ∙ l.3.is))
    (rest_held d x site.cell c.sound.ensures c.args.below.now c.requires.below c.loop-place.place-index p there)

pub loop-place-preserved : goal.loop-place-preserved
loop-place-preserved c =
    let site = c.args.site.now in let places = places_at (cell_at site.design.now site.cell) in let i = c.loop-place.place-index in
    record {
      pieces = c.in_ok-push_rest.ensures.pieces;
      local = c.loop-place.invariant.local;
      lifted = more_lifted places (rest_in c.args.below.now) c.in_ok-out.out.items i (slice_index_or c.places-place-items.result.now i no_place) c.loop-place.out.items c.push_rest.new.out.items
          (item_at c.places-place-items.result.now places i no_place c.places-place-items.ensures c.loop-place-test.true) c.in_ok-push_rest.ensures.lifts c.loop-place.invariant.lifted;
    }

pub returns : goal.returns
returns c = λ q.
    let site = c.args.site.now in let d = site.design.now in let places = places_at (cell_at d site.cell) in
    let end : length places ≤ c.loop-place.place-index = subst (λ l. length l ≤ c.loop-place.place-index) c.places-place-items.ensures c.loop-place-test.false in
    let law = are_candidates d (meant_at site c.args.selection.now) site.cell c.sound.ensures c.args.below.now c.requires.below c.in_ok-out.out.items c.loop-place.out.items c.loop-place.invariant.local c.loop-place.place-index end c.loop-place.invariant.lifted q in
    ((λ e. law.0 (sym (c.in_ok-set.ensures q) ∙ e)), (λ k. c.in_ok-set.ensures q ∙ law.1 k))
