use Rattle.std.proofs.Common.{◌++◌, ◌+◌}
use Rattle.std.specs.Prelude.{codes, decimal}
use Rattle.chip_maker.specs.Schematic.{row_line, pin_words}
use Rattle.chip_maker.specs.Inverters.{row_name}
use Rattle.chip_maker.proofs.Joined.{first}
use Rattle.chip_maker.proofs.schematic.push_call.Goals as goal

pub returns : goal.returns
unfolding row_line
returns c =
    first (codes "X" ++ decimal (c.args.i + 1)) _ _ _ _ c.in_ok-push_numbered.ensures (
    first (codes " ") _ _ _ _ c.in_ok-extend_from_slice.ensures.items (
    first (pin_words c.args.i) _ _ _ _ c.in_ok-push_pins.ensures (
    first (codes "VDD VSS ") _ _ _ _ c.in_ok-extend_from_slice-2.ensures.items (
    first (row_name c.args.i) _ _ _ _ c.in_ok-push_numbered-2.ensures (
    c.in_ok-push.ensures.items)))))
