use Rattle.std.proofs.Common.{rules, arith, ◌≡◌, ◌+◌, ◌-◌, pos, length, get_or, true, false, subst}
use Rattle.std.proofs.lemmas.List.{get_or_read}
use Rattle.geo_base.specs.declared.shapes.Rect.{Rect}
use Rattle.rect_sets.specs.Orders.{begins_with}
use Rattle.rect_sets.proofs.Ordering.{join_same, join_new, begins_from, begins_not}
use Rattle.rect_sets.proofs.order.join.Goals as goal

pub returns-then-begins_with : goal.returns-then-begins_with
returns-then-begins_with c =
    let d : Rect = record { x1 = pos 0; y1 = pos 0; x2 = pos 0; y2 = pos 0 } in
    let k = c.len-count.result - 1 in
    let count : k + 1 ≡ length c.args.out.now.items = omega (arith, c.args.out.now.ok.0) in
    let read : c.index.result.now ≡ get_or c.args.out.now.items k d = get_or_read c.args.out.now.items k c.index.result.now (omega arith) c.index.ensures d in
    let same : begins_with c.index.result.now c.args.rect ≡ true = search rules in
    let e = begins_from (get_or c.args.out.now.items k d) c.args.rect (subst (λ (q : Rect). begins_with q c.args.rect ≡ true) read same) in
    join_same c.args.out.now.items k d c.args.rect count c.requires e.0 e.1

pub returns : goal.returns
returns c =
    let d : Rect = record { x1 = pos 0; y1 = pos 0; x2 = pos 0; y2 = pos 0 } in
    let k = c.len-count.result - 1 in
    let count : k + 1 ≡ length c.args.out.now.items = omega (arith, c.args.out.now.ok.0) in
    let read : c.index.result.now ≡ get_or c.args.out.now.items k d = get_or_read c.args.out.now.items k c.index.result.now (omega arith) c.index.ensures d in
    let other : begins_with c.index.result.now c.args.rect ≡ false = search rules in
    let e = begins_not (get_or c.args.out.now.items k d) c.args.rect (subst (λ (q : Rect). begins_with q c.args.rect ≡ false) read other) in
    rw c.in_ok-push-2.ensures.items (join_new c.args.out.now.items k d c.args.rect count c.requires e)
