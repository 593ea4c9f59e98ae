use Rattle.std.proofs.Common.{◌≡◌, ◌≤◌, Some, pos, subst, arith, length, slice_get, slice_index_or}
use Rattle.std.proofs.Math.Decide.{ℕ_discrete}
use Rattle.std.proofs.lemmas.Option.{slice_get_within}
use Rattle.geo_base.specs.declared.motion.Turn.TheVariants.{R0}
use Rattle.cell_graph.specs.declared.cells.Place.{Place}
use Rattle.cell_graph.specs.Linked.{cell_at, places_at}
use Rattle.cell_context.proofs.Collecting.{item_at, one_place}
use Rattle.layer_phase.specs.Looks.{BringsExposed}
use Rattle.layer_phase.proofs.looks.push_references.Goals as goal

abbrev no_place : Place
no_place = record { cell = 0; motion = record { turn = R0; dx = pos 0; dy = pos 0 }; columns = 0; rows = 0; column_step = record { x = pos 0; y = pos 0 }; row_step = record { x = pos 0; y = pos 0 } }

pub push_reference-requires-clause-entries : goal.push_reference-requires-clause-entries
push_reference-requires-clause-entries c =
    c.requires.entries c.loop-place.place-index (slice_index_or c.places-place-items.result.now c.loop-place.place-index no_place)
    (item_at c.places-place-items.result.now (places_at (cell_at c.args.view.now.design.now c.args.cell)) c.loop-place.place-index no_place c.places-place-items.ensures c.loop-place-test.true)

pub push_reference-requires-clause-there : goal.push_reference-requires-clause-there
push_reference-requires-clause-there c = record {
  cell = c.args.cell;
  index = c.loop-place.place-index;
  there = item_at c.places-place-items.result.now (places_at (cell_at c.args.view.now.design.now c.args.cell)) c.loop-place.place-index no_place c.places-place-items.ensures c.loop-place-test.true;
}

pub loop-place-preserved : goal.loop-place-preserved
loop-place-preserved c =
    let d = c.args.view.now.design.now in let places = places_at (cell_at d c.args.cell) in let i = c.loop-place.place-index in
    let there = item_at c.places-place-items.result.now places i no_place c.places-place-items.ensures c.loop-place-test.true in
    let place = slice_index_or c.places-place-items.result.now i no_place in
    let e = c.in_ok-push_reference.ensures in
    record {
      lists = e.lists;
      pieces = e.pieces;
      brings = λ k p lt at. elim (ℕ_discrete k i) [
        | yes same ↦ subst (λ (x : Place). BringsExposed c.args.view.now.reach d c.args.view.now.zones.now c.args.view.now.names.now x c.args.window.now c.push_reference.new.out.items)
            (one_place (slice_get places i) place p there (subst (λ n. slice_get places n ≡ Some p) same at)) e.brings
        | no not ↦ λ row column s a b h met. e.grows _ (c.loop-place.invariant.brings k p (omega arith) at row column s a b h met)
      ];
    }

pub returns-clause-brings : goal.returns-clause-brings
returns-clause-brings c = λ i p at.
    let lt = slice_get_within (places_at (cell_at c.args.view.now.design.now c.args.cell)) i p at in
    let past : length (places_at (cell_at c.args.view.now.design.now c.args.cell)) ≤ c.loop-place.place-index = subst (λ l. length l ≤ c.loop-place.place-index) c.places-place-items.ensures c.loop-place-test.false in
    c.loop-place.invariant.brings i p (omega arith) at
