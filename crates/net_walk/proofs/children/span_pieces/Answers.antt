use Rattle.std.proofs.Common.{◌≡◌, ℕ, Some, slice_get, get_or, length, arith, subst}
use Rattle.flat_layout.specs.Layout.{Place}
use Rattle.net_link_laws.specs.Places.{places_of}
use Rattle.net_walk.proofs.Spanning.{no_spans, spans_more}
use Rattle.net_walk.proofs.Walking.{close_at, element_at, as_long, no_element}
use Rattle.net_walk.proofs.children.span_pieces.Goals as goal
use Rattle.net_walk.specs.Pairs.{AreSpanPieces}
use Rattle.net_walk.specs.Walk.{place_of}

pub loop-k-init : goal.loop-k-init
loop-k-init g c = rw c.new-out.ensures.items (no_spans (g.C.Cells.design c.args.cells.now) (g.C.Cells.tables c.args.cells.now) c.args.cell)

pub push_span-requires : goal.push_span-requires
push_span-requires g c = close_at c.places-elements.result.now c.loop-k.k c.places-elements.ensures.close (omega arith)

pub loop-k-preserved : goal.loop-k-preserved
loop-k-preserved g c =
    let d = g.C.Cells.design c.args.cells.now in
    let t = g.C.Cells.tables c.args.cells.now in
    let es = c.places-elements.result.now in
    let p : Place = place_of (get_or es c.loop-k.k no_element) in
    let there : slice_get (places_of d c.args.cell) c.loop-k.k ≡ Some p = element_at es (places_of d c.args.cell) c.loop-k.k c.places-elements.ensures.all (omega arith) in
    spans_more d t c.args.cell c.loop-k.k p c.loop-k.out.items c.push_span.new.out.items there c.loop-k.invariant c.in_ok-push_span.ensures

pub returns : goal.returns
returns g c =
    let d = g.C.Cells.design c.args.cells.now in
    let t = g.C.Cells.tables c.args.cells.now in
    let long = as_long c.places-elements.result.now (places_of d c.args.cell) c.places-elements.ensures.all in
    let end : c.loop-k.k ≡ length (places_of d c.args.cell) = omega arith in
    subst (λ (n : ℕ). AreSpanPieces d t c.args.cell n c.loop-k.out.items) end c.loop-k.invariant
