use Rattle.std.proofs.Common.{codes, map}
use Rattle.view_page.specs.Notes.{names_text}
use Rattle.view_page.proofs.Texts.{three_pieces}
use Rattle.view_page.proofs.notes.push_joined.Goals as goal

pub returns : goal.returns
returns c =
    three_pieces c.args.out.now.items (codes ": joins nets") (names_text (map (λ text. text.items) c.args.texts.now)) (codes " of the schematic\n") _ _ _
    c.in_ok-extend_from_slice.ensures.items c.in_ok-push_names.ensures c.in_ok-extend_from_slice-2.ensures.items
