use Rattle.std.proofs.Common.{◌≡◌, ◌≤◌, Some, pos, subst, arith, length, slice_get, slice_index_or}
use Rattle.std.proofs.Math.Decide.{ℕ_discrete}
use Rattle.std.proofs.lemmas.Option.{slice_get_within}
use Rattle.geo_base.specs.declared.motion.Turn.TheVariants.{R0}
use Rattle.cell_graph.specs.declared.cells.Place.{Place}
use Rattle.cell_graph.specs.Linked.{cell_at, places_at}
use Rattle.cell_context.proofs.Collecting.{item_at, one_place}
use Rattle.gate_phase.specs.Seeding.{BringsLone, BringsOpen}
use Rattle.gate_phase.proofs.Ready.{open_there}
use Rattle.gate_phase.proofs.seeds.push_references.Goals as goal

abbrev no_place : Place
no_place = record { cell = 0; motion = record { turn = R0; dx = pos 0; dy = pos 0 }; columns = 0; rows = 0; column_step = record { x = pos 0; y = pos 0 }; row_step = record { x = pos 0; y = pos 0 } }

pub push_reference-requires-clause-entry : goal.push_reference-requires-clause-entry
push_reference-requires-clause-entry c =
    open_there c.args.at.now c.sound.ensures c.requires.ready c.loop-i.i (slice_index_or c.places-place-items.result.now c.loop-i.i no_place)
    (item_at c.places-place-items.result.now (places_at (cell_at c.args.at.now.site.design.now c.args.at.now.site.cell)) c.loop-i.i no_place c.places-place-items.ensures c.loop-i-test.true)

pub loop-i-preserved : goal.loop-i-preserved
loop-i-preserved c =
    let d = c.args.at.now.site.design.now in let places = places_at (cell_at d c.args.at.now.site.cell) in let i = c.loop-i.i in
    let there = item_at c.places-place-items.result.now places i no_place c.places-place-items.ensures c.loop-i-test.true in
    let place = slice_index_or c.places-place-items.result.now i no_place in
    let e = c.in_ok-push_reference.ensures in let z = c.args.at.now.site.zones.now in let n = c.args.at.now.number in let plane = c.args.plane.now in let new = c.push_reference.new.out.items in
    record {
      pieces = e.pieces;
      brings = λ k p lt at. elim (ℕ_discrete k i) [
        | yes same ↦ subst (λ (x : Place). BringsOpen c.args.by d z n x plane new × BringsLone c.args.by d z n x plane new) (one_place (slice_get places i) place p there (subst (λ m. slice_get places m ≡ Some p) same at)) (e.brings, e.lone)
        | no not ↦
            (let was = c.loop-i.invariant.brings k p (omega arith) at in (
              (λ zone row column s entry a b held covered met. e.grows _ (was.0 zone row column s entry a b held covered met)),
              (λ set row column s entry a b held covered met. e.grows _ (was.1 set row column s entry a b held covered met)),
            ))
      ];
    }

pub returns-clause-brings : goal.returns-clause-brings
returns-clause-brings c = λ i p at.
    let lt = slice_get_within (places_at (cell_at c.args.at.now.site.design.now c.args.at.now.site.cell)) i p at in
    let past : length (places_at (cell_at c.args.at.now.site.design.now c.args.at.now.site.cell)) ≤ c.loop-i.i = subst (λ l. length l ≤ c.loop-i.i) c.places-place-items.ensures c.loop-i-test.false in
    c.loop-i.invariant.brings i p (omega arith) at
