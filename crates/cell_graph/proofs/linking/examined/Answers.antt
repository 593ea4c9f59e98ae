use Rattle.std.proofs.Common.{◌≡◌, ◌<◌, ℕ, List, Some, slice_get, length, sym, subst}
use Rattle.std.proofs.lemmas.Result.{err_from_is_err_and}
use Rattle.cell_graph.specs.Ordering.{AreOrdered}
use Rattle.cell_graph.specs.Parts.{Part, AreResolved}
use Rattle.cell_graph.specs.Tops.{now_of}
use Rattle.cell_graph.proofs.Looking.{parts_resolved}
use Rattle.cell_graph.proofs.Rounds.{order_in}
use Rattle.cell_graph.proofs.Sound.{top_inside}
use Rattle.cell_graph.proofs.linking.examined.Goals as goal

pub returns-in_err-names-clause-fault : goal.returns-in_err-names-clause-fault
returns-in_err-names-clause-fault c =
    let p = err_from_is_err_and c.from_residual.result c.from_residual.ensures.1 in
    rw (p.1, p.2) (c.in_err-names.ensures.fault (now_of c.args.top))

pub returns-in_err-parts-clause-fault : goal.returns-in_err-parts-clause-fault
returns-in_err-parts-clause-fault c =
    let p = err_from_is_err_and c.from_residual-in_err-parts.result c.from_residual-in_err-parts.ensures.1 in
    rw (p.1, p.2) (c.in_err-parts.ensures.fault (now_of c.args.top))

pub returns-in_err-heights-clause-fault : goal.returns-in_err-heights-clause-fault
returns-in_err-heights-clause-fault c =
    let p = err_from_is_err_and c.from_residual-in_err-heights.result c.from_residual-in_err-heights.ensures.1 in
    rw (p.1, p.2) (c.in_err-heights.ensures.fault (now_of c.args.top))

pub reached-requires-clause-resolved : goal.reached-requires-clause-resolved
reached-requires-clause-resolved c =
    let parts = c.in_ok-parts.parts.items in
    subst (λ (ps : List Part). AreResolved ps) (sym c.deref-7.ensures.value) (parts_resolved c.args.cells.now parts (c.in_ok-heights.ensures {u = tt}).sound.few (c.in_ok-parts.ensures {u = tt}).parts)

pub reached-requires-clause-top : goal.reached-requires-clause-top
reached-requires-clause-top c =
    let lt = top_inside c.args.cells.now (now_of c.args.top) c.in_ok-top.top (c.in_ok-top.ensures {u = tt}).tops in
    subst (λ (ps : List Part). c.in_ok-top.top < length ps) (sym c.deref-7.ensures.value) (subst (λ n. c.in_ok-top.top < n) (sym (c.in_ok-parts.ensures {u = tt}).parts.count) lt)

pub reached-requires-clause-inside : goal.reached-requires-clause-inside
reached-requires-clause-inside c k i at =
    let hs = c.in_ok-heights.heights.items in
    let all = c.in_ok-all.all.items in
    let on : slice_get all k ≡ Some i = subst (λ (xs : List ℕ). slice_get xs k ≡ Some i) c.deref-8.ensures.value at in
    let ordered = subst (λ (h : List ℕ). AreOrdered h 65 0 all) c.deref-3.ensures.value (c.in_ok-all.ensures {u = tt}) in
    let lt = order_in c.args.cells.now hs all k i (c.in_ok-heights.ensures {u = tt}).heights ordered on in
    subst (λ (ps : List Part). i < length ps) (sym c.deref-7.ensures.value) (subst (λ n. i < n) (sym (c.in_ok-parts.ensures {u = tt}).parts.count) lt)
