use Rattle.std.proofs.Common.{refl}
use Rattle.chip_maker.specs.Layout.{drawn, wells, actives, polys, contacts, metals, ties}
use Rattle.chip_maker.specs.Stream.{layer_bytes}
use Rattle.std.proofs.lemmas.Result.{IfOk-equal}
use Rattle.chip_maker.proofs.Joined.{first, last}
use Rattle.chip_maker.proofs.cells.write_inverter_layers.Goals as goal

pub returns : goal.returns
returns c =
    IfOk-equal c.write_rectangles-5.result _ _ _ c.write_rectangles-5.ensures
    (first (layer_bytes (drawn 1, wells)) _ _ _ _ c.in_ok-write_rectangles.ensures (
    first (layer_bytes (drawn 2, actives c.args.kind)) _ _ _ _ c.in_ok-write_actives.ensures (
    first (layer_bytes (drawn 3, polys)) _ _ _ _ c.in_ok-write_rectangles-2.ensures (
    first (layer_bytes (drawn 4, contacts)) _ _ _ _ c.in_ok-write_rectangles-3.ensures (
    first (layer_bytes (drawn 5, metals)) _ _ _ _ c.in_ok-write_rectangles-4.ensures (
    last (layer_bytes (drawn 6, ties)) _ _ refl))))))
