use Rattle.std.proofs.Common.{◌≡◌, ◌<◌, ◌∙◌, [], Some, ap, length, slice_get, sym, subst, arith}
use Rattle.std.specs.Global.{Vec}
use Rattle.std.proofs.lemmas.Option.{slice_get-get_or}
use Rattle.net_phase.proofs.Listing.{any_default, got_some}
use Rattle.net_phase.proofs.indexes.span_indexes.Goals as goal
use Rattle.net_walk.specs.Walk.{AreClose}
use Rattle.net_walk.specs.declared.cells.Element.{Element}

pub spans_of-requires-clause-close : goal.spans_of-requires-clause-close
spans_of-requires-clause-close c =
    let es = c.args.elements.now in let k = c.loop-cell.cell in let v = c.index-elements-cell.result in
    let lt : k < length es = omega arith in
    let at : slice_get es k ≡ Some v = slice_get-get_or es k v lt ∙ ap Some (any_default es k v _ lt ∙ sym c.index-elements-cell.is) in
    let same = got_some (λ (x : Vec Element). x.items) es k v [] at in
    rw c.deref.ensures.value (subst AreClose same (c.requires.elements k).close)
