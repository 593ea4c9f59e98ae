use Rattle.std.proofs.Common.{codes}
use Rattle.view_page.proofs.Texts.{four_pieces}
use Rattle.view_page.proofs.notes.push_head.Goals as goal

pub returns : goal.returns
returns c =
    four_pieces c.args.out.now.items (codes "  ") c.args.name.now (codes ": in the layout two parts,") c.args.place.now _ _ _ _
    c.in_ok-extend_from_slice.ensures.items c.in_ok-extend_from_slice-2.ensures.items c.in_ok-extend_from_slice-3.ensures.items c.in_ok-extend_from_slice-4.ensures.items
