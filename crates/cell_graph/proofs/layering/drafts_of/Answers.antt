use Rattle.std.proofs.Common.{◌≡◌, ◌<◌, ◌+◌, ◌∷◌, [], List, Some, slice_get, get_or, set, length, length-append, sym, ap, subst, arith, ◌∙◌}
use Rattle.std.proofs.lemmas.Option.{slice_get-get_or, slice_get_within}
use Rattle.cell_graph.specs.declared.drafts.CellDraft.{CellDraft}
use Rattle.cell_graph.specs.Layering.{IsDraftOf}
use Rattle.cell_graph.proofs.Finishes.{at_middle, one_yielded}
use Rattle.cell_graph.proofs.LayeredDrafts.{DraftedTo, one_drafted}
use Rattle.cell_graph.proofs.layering.drafts_of.Goals as goal

pub loop-cell-preserved : goal.loop-cell-preserved
loop-cell-preserved c =
    let cells = c.args.cells.items in
    let inv = c.loop-cell.invariant in
    let i = c.loop-cell.i in
    let steps = (c.in-Some.ensures {u = tt}).steps.0 in
    let cell = c.in-Some.cell in
    let at_len = at_middle cells c.loop-cell.yielded c.next.new.self.rest.items c.loop-cell.cell-iterator.rest.items cell inv.0 steps in
    let at : slice_get cells i ≡ Some cell = subst (λ k. slice_get cells k ≡ Some cell) (sym inv.1) at_len in
    let in_cells : i < length cells = slice_get_within cells i cell at in
    let further = c.loop-cell.further.items in
    let in_further : i < length further = (let a = inv.2.count in let b = c.requires.further in omega arith) in
    let more = c.replace-more.result in
    let value : more ≡ get_or further i c.index_mut.result.now = c.replace-more.ensures.value ∙ c.index_mut.ensures.value in
    let more_at : slice_get further i ≡ Some more = slice_get-get_or further i c.index_mut.result.now in_further ∙ ap Some (sym value) in
    let made : IsDraftOf c.args.names.now c.args.keys.now more.items cell c.in_ok-draft.draft = c.in_ok-draft.ensures {u = tt} in
    let next = one_drafted c.args.names.now cells c.args.keys.now c.args.further.items i further c.loop-cell.drafts.items cell more c.replace-more.new.dest c.in_ok-draft.draft at more_at made inv.2 in
    let items = (c.in_ok-push.ensures {u = tt}).items in (
      one_yielded cells c.loop-cell.yielded c.next.new.self.rest.items c.loop-cell.cell-iterator.rest.items cell inv.0 steps,
      ap (λ k. k + 1) inv.1 ∙ sym (length-append c.loop-cell.yielded (cell ∷ [])),
      subst (λ (ds : List CellDraft). DraftedTo c.args.names.now cells c.args.keys.now c.args.further.items (i + 1) (set further i c.replace-more.new.dest) ds) (sym items) next,
    )

pub draft_of-requires : goal.draft_of-requires
draft_of-requires c =
    let cells = c.args.cells.items in
    let inv = c.loop-cell.invariant in
    let steps = (c.in-Some.ensures {u = tt}).steps.0 in
    let cell = c.in-Some.cell in
    c.requires.inside (length c.loop-cell.yielded) cell (at_middle cells c.loop-cell.yielded c.next.new.self.rest.items c.loop-cell.cell-iterator.rest.items cell inv.0 steps)
