use Rattle.std.proofs.Common.{codes}
use Rattle.view_page.proofs.Texts.{three_pieces}
use Rattle.view_page.proofs.remarks.push_left_line.Goals as goal

pub returns : goal.returns
returns c =
    three_pieces c.args.out.now.items (codes "  ") c.args.name.now (codes ": none in the schematic\n") _ _ _
    c.in_ok-extend_from_slice.ensures.items c.in_ok-extend_from_slice-2.ensures.items c.in_ok-extend_from_slice-3.ensures.items
