use Rattle.std.proofs.Common.{◌++◌, ◌∙◌, List, length, ap}
use Rattle.std.specs.Prelude.{codes}
use Rattle.chip_maker.specs.declared.inverters.Kind.{Kind}
use Rattle.chip_maker.specs.Schematic.{row_text, inverter_line}
use Rattle.chip_maker.specs.Inverters.{by_number, row_name}
use Rattle.chip_maker.proofs.Joined.{first}
use Rattle.chip_maker.proofs.schematic.push_row.Goals as goal

pub returns : goal.returns
unfolding row_text
returns c =
    first (codes ".SUBCKT ") _ _ _ _ c.in_ok-extend_from_slice.ensures.items (
    first (row_name c.args.i) _ _ _ _ c.in_ok-push_numbered.ensures (
    first (codes " IN OUT VDD VSS\n") _ _ _ _ c.in_ok-extend_from_slice-2.ensures.items (
    first (by_number (inverter_line (length c.args.row.now)) 0 c.args.row.now) _ _ _ _ (c.in_ok-push_inverters.ensures ∙ ap (λ (k : List Kind). c.extend_from_slice-2.new.self.items ++ by_number (inverter_line (length k)) 0 k) c.kinds.ensures.same) (
    first (codes ".ENDS ") _ _ _ _ c.in_ok-extend_from_slice-3.ensures.items (
    first (row_name c.args.i) _ _ _ _ c.in_ok-push_numbered-2.ensures (
    c.in_ok-push.ensures.items))))))
