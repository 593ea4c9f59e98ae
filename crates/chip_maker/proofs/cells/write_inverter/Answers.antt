use Rattle.std.proofs.Common.{◌∙◌, ℕ, List, ◌++◌, ap, refl}
use Rattle.std.specs.List.{flat_map}
use Rattle.chip_maker.specs.Inverters.{kind_name}
use Rattle.chip_maker.specs.Layout.{inverter_layers}
use Rattle.chip_maker.specs.Stream.{block_bytes, layer_bytes, start_bytes}
use Rattle.std.proofs.lemmas.Result.{IfOk-equal}
use Rattle.chip_maker.proofs.Joined.{first}
use Rattle.chip_maker.proofs.cells.write_inverter.Goals as goal

pub returns : goal.returns
unfolding block_bytes
returns c =
    IfOk-equal c.write_cell_end.result _ _ _ c.write_cell_end.ensures
    (first (start_bytes (kind_name c.args.kind)) _ _ _ _ (c.in_ok-write_cell_start.ensures ∙ ap (λ (name : List ℕ). c.args.out.now.items ++ start_bytes name) c.kind_name.ensures) (
    first (flat_map layer_bytes (inverter_layers c.args.kind)) _ _ _ _ c.in_ok-write_inverter_layers.ensures (
    refl)))
