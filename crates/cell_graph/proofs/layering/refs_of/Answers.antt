use Rattle.std.proofs.Common.{◌≡◌, ◌+◌, List, length, sym, subst, arith}
use Rattle.std.proofs.lemmas.Option.{slice_get-get_or}
use Rattle.cell_graph.specs.declared.drafts.DraftRef.{DraftRef}
use Rattle.cell_graph.specs.Layering.{AreRefsTo}
use Rattle.cell_graph.proofs.LayeredDrafts.{refs_more, refs_none}
use Rattle.cell_graph.proofs.layering.refs_of.Goals as goal

pub loop-place-init : goal.loop-place-init
loop-place-init c = subst (λ (rs : List DraftRef). AreRefsTo c.args.names.now c.args.places.now 0 rs) (sym c.new-refs.ensures.items) (refs_none c.args.names.now c.args.places.now)

pub ref_of-requires : goal.ref_of-requires
ref_of-requires c = c.requires c.loop-place.place-index _ (slice_get-get_or c.args.places.now c.loop-place.place-index _ c.loop-place-test.true)

pub loop-place-preserved : goal.loop-place-preserved
loop-place-preserved c =
    let items = c.args.places.now in
    let n = c.loop-place.place-index in
    subst (λ (rs : List DraftRef). AreRefsTo c.args.names.now items (n + 1) rs) (sym (c.in_ok-push.ensures {u = tt}).items)
    (refs_more c.args.names.now items n c.loop-place.refs.items _ c.in_ok-named.named (slice_get-get_or items n _ c.loop-place-test.true) (c.in_ok-named.ensures {u = tt}) c.loop-place.invariant)

pub returns : goal.returns
returns c =
    let e : c.loop-place.place-index ≡ length c.args.places.now = omega arith in
    subst (λ n. AreRefsTo c.args.names.now c.args.places.now n c.loop-place.refs.items) e c.loop-place.invariant
