use Rattle.std.proofs.Common.{◌≡◌, get_or, sym, ◌∙◌, false}
use Rattle.std.proofs.lemmas.List.{get_or_default}
use Rattle.cell_graph.proofs.Walks.{mark_new}
use Rattle.cell_graph.proofs.walking.mark.Goals as goal

pub returns-in_ok-push : goal.returns-in_ok-push
returns-in_ok-push c =
    let ms = c.args.marks.now.items in
    let r = c.index.result.now in
    let off : r ≡ false = c.if-not-index.true in
    let free : get_or ms c.args.cell false ≡ false = get_or_default ms c.args.cell false r c.requires ∙ sym c.index.ensures ∙ off in
    rw (c.in_ok-push.ensures {u = tt}).items (mark_new ms c.args.stack.now.items c.args.cell c.requires free)
