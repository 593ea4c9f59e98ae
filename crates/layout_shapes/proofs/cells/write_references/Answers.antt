-- One reference more.
use Rattle.std.proofs.Common.{List, map, ◌++◌, ◌∙◌, ap, pos}
use Rattle.std.specs.List.{flat_map}
use Rattle.std.proofs.lemmas.List.{map_more, take_all}
use Rattle.geo_base.specs.declared.motion.Turn.TheVariants.{R0}
use Rattle.cell_graph.specs.declared.cells.Place.{Place}
use Rattle.gds_records.specs.Records.{record_bytes}
use Rattle.gds_shapes.specs.References.{reference}
use Rattle.gds_shapes.proofs.More.{texts_push}
use Rattle.layout_shapes.specs.Written.{ref_of}
use Rattle.layout_shapes.proofs.cells.write_references.Goals as goal

abbrev none : Place
none = record { cell = 0; motion = record { turn = R0; dx = pos 0; dy = pos 0 }; columns = 0; rows = 0; column_step = record { x = pos 0; y = pos 0 }; row_step = record { x = pos 0; y = pos 0 } }

pub loop-place-preserved : goal.loop-place-preserved
loop-place-preserved c =
    let more = map_more (ref_of c.args.design.now) c.places-place-items.result.now c.loop-place.place-index none c.loop-place-test.true in
    texts_push reference _ _ _ _ _ _ more c.loop-place.invariant c.in_ok-write_place.ensures

pub returns : goal.returns
returns c =
    let all = take_all c.loop-place.place-index c.places-place-items.result.now c.loop-place-test.false ∙ c.places-place-items.ensures in
    c.loop-place.invariant ∙ ap (λ (ps : List Place). c.args.out.now.items ++ flat_map record_bytes (flat_map reference (map (ref_of c.args.design.now) ps))) all
