use Rattle.std.proofs.Common.{◌≡◌, ◌∙◌, subst, arith, ℕ, List, Option, length}
use Rattle.geo_base.specs.declared.shapes.Rect.{Rect}
use Rattle.gate_shapes.specs.Shapes.{AreKept, IsFirstFault, sheets_of}
use Rattle.gate_shapes.proofs.Groups.{all_groups}
use Rattle.gate_shapes.proofs.Judging.{kept_in, judged, bad_law, good_law, some_first, some_second, below_groups}
use Rattle.gate_shapes.proofs.shape.ring_shape.Goals as goal
use Rattle.flat_layout.specs.declared.cause.GateCause.{GateCause}

pub returns-then-len-ne2 : goal.returns-then-len-ne2
returns-then-len-ne2 c =
    let kept = c.in_ok-places.places.items in
    let hold = kept_in c.deref.ensures.value c.in_ok-places.ensures in
    let all = all_groups c.args.part.now c.args.around.now.ends.now c.in_ok-sides.sides c.in_ok-border.border.touched
    c.in_ok-groups.groups.items kept c.in_ok-sides.ensures c.in_ok-border.ensures.touched c.in_ok-groups.ensures hold in
    let long : length kept ≡ c.len-then-len-ne2.result = omega arith in
    (all.0, all.1, all.2 ∙ long, λ e. absurd (omega (arith, e)))

pub index-one-requires : goal.index-one-requires
index-one-requires c =
    let count : length c.in_ok-places.places.items ≡ 2 = omega arith in
    let below = below_groups (kept_in c.deref.ensures.value c.in_ok-places.ensures) (omega (arith, count)) c.index.ensures in
    omega (arith, below)

pub index-other-requires : goal.index-other-requires
index-other-requires c =
    let count : length c.in_ok-places.places.items ≡ 2 = omega arith in
    let below = below_groups (kept_in c.deref.ensures.value c.in_ok-places.ensures) (omega (arith, count)) c.index-2.ensures in
    omega (arith, below)

pub returns-in-Some : goal.returns-in-Some
returns-in-Some c =
    let count : length c.in_ok-places.places.items ≡ 2 = omega arith in
    let hold = kept_in c.deref.ensures.value c.in_ok-places.ensures in
    let they = judged c.args.part.now c.args.around.now.ends.now c.in_ok-sides.ensures c.in_ok-border.ensures.touched
    c.in_ok-groups.ensures hold count c.index.ensures c.index-2.ensures c.index-one.ensures c.index-other.ensures in
    let on = c.args.around.now in let border = c.in_ok-border.border in
    bad_law they on.on_ends.now on.on_gate.now on.on_bulk.now on.loose border.wide border.long
    c.in_ok-border.ensures.wide c.in_ok-border.ensures.long c.in-Some.cause
    (subst (λ (o : Option GateCause). IsFirstFault (sheets_of on.ends.now on.on_ends.now on.on_gate.now on.on_bulk.now on.loose)
    c.args.part.now c.index-one.result.now c.index-other.result.now border.long o) c.in-Some.is c.in_ok-cause.ensures)

pub first_square-requires : goal.first_square-requires
first_square-requires c =
    let count : length c.in_ok-places.places.items ≡ 2 = omega arith in
    let hold = kept_in c.deref.ensures.value c.in_ok-places.ensures in
    let they = judged c.args.part.now c.args.around.now.ends.now c.in_ok-sides.ensures c.in_ok-border.ensures.touched
    c.in_ok-groups.ensures hold count c.index.ensures c.index-2.ensures c.index-one.ensures c.index-other.ensures in
    some_first they

pub first_square-requires-in-None : goal.first_square-requires-in-None
first_square-requires-in-None c =
    let count : length c.in_ok-places.places.items ≡ 2 = omega arith in
    let hold = kept_in c.deref.ensures.value c.in_ok-places.ensures in
    let they = judged c.args.part.now c.args.around.now.ends.now c.in_ok-sides.ensures c.in_ok-border.ensures.touched
    c.in_ok-groups.ensures hold count c.index.ensures c.index-2.ensures c.index-one.ensures c.index-other.ensures in
    some_second they

pub returns : goal.returns
returns c =
    let count : length c.in_ok-places.places.items ≡ 2 = omega arith in
    let hold = kept_in c.deref.ensures.value c.in_ok-places.ensures in
    let they = judged c.args.part.now c.args.around.now.ends.now c.in_ok-sides.ensures c.in_ok-border.ensures.touched
    c.in_ok-groups.ensures hold count c.index.ensures c.index-2.ensures c.index-one.ensures c.index-other.ensures in
    let on = c.args.around.now in let border = c.in_ok-border.border in
    good_law they on.on_ends.now on.on_gate.now on.on_bulk.now on.loose border.wide border.long
    c.in_ok-border.ensures.wide c.in_ok-border.ensures.long c.first_square.result c.first_square-in-None.result
    (subst (λ (o : Option GateCause). IsFirstFault (sheets_of on.ends.now on.on_ends.now on.on_gate.now on.on_bulk.now on.loose)
    c.args.part.now c.index-one.result.now c.index-other.result.now border.long o) c.in-None.is c.in_ok-cause.ensures)
    c.first_square.ensures c.first_square-in-None.ensures
