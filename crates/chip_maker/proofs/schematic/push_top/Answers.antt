use Rattle.std.specs.Prelude.{codes}
use Rattle.chip_maker.specs.Schematic.{top_text, row_line, pin_words}
use Rattle.chip_maker.specs.Inverters.{by_number}
use Rattle.chip_maker.proofs.Joined.{first}
use Rattle.chip_maker.proofs.schematic.push_top.Goals as goal

pub returns : goal.returns
unfolding top_text
returns c =
    first (codes ".SUBCKT TOP ") _ _ _ _ c.in_ok-extend_from_slice.ensures.items (
    first (by_number (λ i row. pin_words i) 0 c.args.rows.now) _ _ _ _ c.in_ok-push_all_pins.ensures (
    first (codes "VDD VSS\n") _ _ _ _ c.in_ok-extend_from_slice-2.ensures.items (
    first (by_number (λ i row. row_line i) 0 c.args.rows.now) _ _ _ _ c.in_ok-push_calls.ensures (
    c.in_ok-extend_from_slice-3.ensures.items))))
