use Rattle.std.proofs.Common.{◌≡◌, Some, slice_get, map, take, List, ap, sym, subst, ◌∙◌}
use Rattle.std.proofs.lemmas.Option.{slice_get-get_or}
use Rattle.gds_elements.specs.Fillable.{IsFillable}
use Rattle.gds_elements.specs.Meaning.{Shape}
use Rattle.gds_elements.specs.Reading.{shape_seen}
use Rattle.gds_layout.specs.Layering.{AreLaid}
use Rattle.gds_layout.proofs.Yielded.{one_seen, all_seen, seen_at}
use Rattle.gds_layout.proofs.Layering.{Covers, covers_more, laid}
use Rattle.gds_layout.proofs.layers.piles_of.Goals as goal

pub loop-shape-preserved : goal.loop-shape-preserved
loop-shape-preserved c =
    let inv = c.loop-shape.invariant in
    let told = c.in_ok-add.ensures in
    let shapes = c.args.shapes.now in
    let n = c.loop-shape.shape-index in
    let shape = c.shape-item.result in
    let there : slice_get shapes n ≡ Some shape = slice_get-get_or shapes n shape c.loop-shape-test.true ∙ ap Some (sym c.shape-item.is) in (
      told.piles,
      subst (λ (ss : List Shape). Covers ss c.add.new.self.list.items) (sym (one_seen shape_seen shapes n shape there))
          (covers_more (map shape_seen (take n shapes)) (shape_seen shape) c.loop-shape.piles.list.items c.add.new.self.list.items inv.1 told.covers told.has told.keys),
    )

pub add-requires-clause-fillable : goal.add-requires-clause-fillable
add-requires-clause-fillable c =
    let shapes = c.args.shapes.now in
    let n = c.loop-shape.shape-index in
    let shape = c.shape-item.result in
    let there : slice_get shapes n ≡ Some shape = slice_get-get_or shapes n shape c.loop-shape-test.true ∙ ap Some (sym c.shape-item.is) in
    seen_at (λ (s : Shape). IsFillable s.form) shape_seen shapes n shape c.requires there

pub returns : goal.returns
returns c =
    let inv = c.loop-shape.invariant in
    let list = c.loop-shape.piles.list.items in
    let all : map shape_seen (take c.loop-shape.shape-index c.args.shapes.now) ≡ map shape_seen c.args.shapes.now = ap (map shape_seen) (all_seen c.args.shapes.now c.loop-shape.shape-index c.loop-shape-test.false) in
    subst (λ (ss : List Shape). AreLaid ss list) all (laid (map shape_seen (take c.loop-shape.shape-index c.args.shapes.now)) c.loop-shape.piles inv.0 inv.1)
