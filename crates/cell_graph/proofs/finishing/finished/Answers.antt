use Rattle.std.proofs.Common.{◌≡◌, ◌<◌, ◌+◌, ◌∷◌, [], List, Some, slice_get, get_or, set, length, length-append, sym, ap, subst, arith, ◌∙◌}
use Rattle.std.proofs.lemmas.Option.{slice_get-get_or, slice_get_within}
use Rattle.cell_graph.specs.declared.cells.CellPart.{CellPart}
use Rattle.cell_graph.specs.Extents.{found_at}
use Rattle.cell_graph.specs.Finished.{IsMade}
use Rattle.cell_graph.specs.Rising.{height_in}
use Rattle.cell_graph.proofs.Finishes.{FinishedTo, one_finished, at_middle, one_yielded}
use Rattle.cell_graph.proofs.finishing.finished.Goals as goal

pub loop-draft-preserved : goal.loop-draft-preserved
loop-draft-preserved c =
    let drafts = c.args.drafts.items in
    let inv = c.loop-draft.invariant in
    let i = c.loop-draft.i in
    let steps = (c.in-Some.ensures {u = tt}).steps.0 in
    let d = c.in-Some.draft in
    let at_len = at_middle drafts c.loop-draft.yielded c.next.new.self.rest.items c.loop-draft.draft-iterator.rest.items d inv.0 steps in
    let at : slice_get drafts i ≡ Some d = subst (λ k. slice_get drafts k ≡ Some d) (sym inv.1) at_len in
    let in_drafts : i < length drafts = slice_get_within drafts i d at in
    let parts = c.loop-draft.parts.items in
    let in_parts : i < length parts = (let a = inv.2.count in let b = c.requires.parts in omega arith) in
    let part = c.replace-places.result in
    let value : part ≡ get_or parts i c.index_mut.result.now = c.replace-places.ensures.value ∙ c.index_mut.ensures.value in
    let part_at : slice_get parts i ≡ Some part = slice_get-get_or parts i c.index_mut.result.now in_parts ∙ ap Some (sym value) in
    let made : IsMade d part.items (found_at c.args.bounds.now i) (height_in c.args.heights.now i) c.part_of.result = c.part_of.ensures in
    let next = one_finished drafts c.args.parts.items c.args.bounds.now c.args.heights.now i parts c.loop-draft.cells.items d part c.replace-places.new.dest c.part_of.result at part_at made inv.2 in
    let items = (c.in_ok-push.ensures {u = tt}).items in (
      one_yielded drafts c.loop-draft.yielded c.next.new.self.rest.items c.loop-draft.draft-iterator.rest.items d inv.0 steps,
      ap (λ k. k + 1) inv.1 ∙ sym (length-append c.loop-draft.yielded (d ∷ [])),
      subst (λ (cs : List CellPart). FinishedTo drafts c.args.parts.items c.args.bounds.now c.args.heights.now (i + 1) (set parts i c.replace-places.new.dest) cs) (sym items) next,
    )
