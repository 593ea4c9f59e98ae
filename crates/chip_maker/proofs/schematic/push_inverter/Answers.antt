use Rattle.std.proofs.Common.{◌++◌, ◌+◌}
use Rattle.std.specs.Prelude.{codes, decimal}
use Rattle.chip_maker.specs.Schematic.{inverter_line, net_before, net_behind}
use Rattle.chip_maker.specs.Inverters.{kind_name}
use Rattle.chip_maker.proofs.Joined.{first}
use Rattle.chip_maker.proofs.schematic.push_inverter.Goals as goal

pub returns : goal.returns
unfolding inverter_line
returns c =
    first (codes "X" ++ decimal (c.args.j + 1)) _ _ _ _ c.in_ok-push_numbered.ensures (
    first (codes " ") _ _ _ _ c.in_ok-extend_from_slice.ensures.items (
    first (net_before c.args.j) _ _ _ _ c.in_ok-push_net_before.ensures (
    first (codes " ") _ _ _ _ c.in_ok-extend_from_slice-2.ensures.items (
    first (net_behind c.args.m c.args.j) _ _ _ _ c.in_ok-push_net_behind.ensures (
    first (codes " VDD VSS ") _ _ _ _ c.in_ok-extend_from_slice-3.ensures.items (
    first (kind_name c.args.kind) _ _ _ _ c.in_ok-push_kind_name.ensures (
    c.in_ok-push.ensures.items)))))))
