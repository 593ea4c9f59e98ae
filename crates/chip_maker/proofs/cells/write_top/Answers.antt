use Rattle.std.proofs.Common.{◌++◌, [], refl}
use Rattle.std.specs.Prelude.{codes}
use Rattle.std.specs.List.{flat_map}
use Rattle.chip_maker.specs.Inverters.{by_number}
use Rattle.chip_maker.specs.Layout.{drawn, supply, top_texts, row_ref}
use Rattle.chip_maker.specs.Stream.{block_bytes, layer_bytes, start_bytes, text_bytes, ref_bytes}
use Rattle.std.proofs.lemmas.Result.{IfOk-equal}
use Rattle.chip_maker.proofs.Joined.{first, last}
use Rattle.chip_maker.proofs.cells.write_top.Goals as goal

pub returns : goal.returns
unfolding block_bytes
returns c =
    IfOk-equal c.write_cell_end.result _ _ _ c.write_cell_end.ensures
    (first (start_bytes (codes "TOP")) _ _ _ _ c.in_ok-write_cell_start.ensures (
    first (layer_bytes (drawn 5, supply c.args.rows.now) ++ []) _ _ _ _ (last (layer_bytes (drawn 5, supply c.args.rows.now)) _ _ c.in_ok-write_supply.ensures) (
    first (flat_map text_bytes (top_texts c.args.rows.now)) _ _ _ _ c.in_ok-write_pins.ensures (
    first (flat_map ref_bytes (by_number row_ref 0 c.args.rows.now)) _ _ _ _ c.in_ok-write_row_refs.ensures (
    refl)))))
