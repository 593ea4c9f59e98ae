use Rattle.std.proofs.Common.{◌≡◌, ◌^◌, true, false, pos, length, refl, sym, subst, arith}
use Rattle.std.specs.List.{All}
use Rattle.geo_base.specs.declared.shapes.Rect.{Rect}
use Rattle.tile_index.specs.Windows.{ArePositions}
use Rattle.cell_graph.specs.Linked.{IsRectWithin}
use Rattle.gate_shapes.proofs.Meeting.{none_in, some_in}
use Rattle.gate_phase.proofs.Apart.{apart_all, apart_next, apart_none, near_at, rect_at}
use Rattle.gate_phase.proofs.close.misses.Goals as goal

abbrev nowhere : Rect
nowhere = record { x1 = pos 0; y1 = pos 0; x2 = pos 0; y2 = pos 0 }

pub loop-rect-init : goal.loop-rect-init
loop-rect-init c = apart_none c.args.reach c.rects-rect-items.result.now c.args.other.now

pub grown-requires : goal.grown-requires
grown-requires c = subst (All (IsRectWithin (2 ^ 39))) (sym c.rects-rect-items.ensures.list) c.requires c.loop-rect.rect-index nowhere c.loop-rect-test.true

pub returns-then-not-is_empty : goal.returns-then-not-is_empty
returns-then-not-is_empty c =
    let rects = c.rects-rect-items.result.now in let i = c.loop-rect.rect-index in
    let near = subst (λ (w : Rect). ArePositions c.args.other.now w c.in_ok-near.near.items) c.grown.ensures c.in_ok-near.ensures in
    let some = some_in (length c.in_ok-near.near.items) c.in_ok-near.near.len c.is_empty.result c.in_ok-near.near.ok.0 c.is_empty.ensures c.if-not-is_empty.true in
    let both = near_at c.args.reach c.args.set.now rects c.args.other.now c.in_ok-near.near.items i nowhere c.rects-rect-items.ensures.list
    (rect_at c.args.set.now rects i nowhere c.rects-rect-items.ensures.list c.rects-rect-items.ensures.canonical c.loop-rect-test.true) c.loop-rect-test.true near some in
    ((λ e. absurd (let f : false ≡ true = e in let z : ⊥ = cc in z)), (λ apart. absurd (apart both.square both.here both.near)))

pub loop-rect-preserved : goal.loop-rect-preserved
loop-rect-preserved c =
    let near = subst (λ (w : Rect). ArePositions c.args.other.now w c.in_ok-near.near.items) c.grown.ensures c.in_ok-near.ensures in
    apart_next c.args.reach c.rects-rect-items.result.now c.args.other.now c.in_ok-near.near.items c.loop-rect.rect-index nowhere c.loop-rect-test.true near
    (none_in (length c.in_ok-near.near.items) c.in_ok-near.near.len c.is_empty.result c.in_ok-near.near.ok.0 c.is_empty.ensures c.if-not-is_empty.false) c.loop-rect.invariant

pub returns : goal.returns
returns c = (
  (λ e. apart_all c.args.reach c.args.set.now c.rects-rect-items.result.now c.args.other.now c.loop-rect.rect-index c.rects-rect-items.ensures.list (omega arith) c.loop-rect.invariant),
  (λ apart. refl),
)
