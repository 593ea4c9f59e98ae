use Rattle.std.proofs.Common.{List, [], subst}
use Rattle.net_walk.proofs.Ordering.{lain_sorted, same_pairs}
use Rattle.net_walk.proofs.Results.{if_ok}
use Rattle.net_walk.proofs.lyings.alike_together.Goals as goal
use Rattle.net_walk.specs.Alike.{IsLain}
use Rattle.net_walk.specs.declared.lyings.Lying.{Lying}
use Rattle.touching_pieces.specs.Pairs.{AddsLinks}

pub returns : goal.returns
returns c =
    let sorted = c.sort_lyings.new.lyings.items in
    let lain = lain_sorted c.args.pairs.now c.in_ok-lyings.lyings.items sorted c.sort_lyings.ensures c.in_ok-lyings.ensures in
    if_ok _ _ c.unlike_last.result (λ v once.
    same_pairs c.args.pairs.now sorted v.items lain (subst (λ (l : List Lying). AddsLinks (IsLain l) [] v.items) c.deref.ensures.value once)) c.unlike_last.ensures
