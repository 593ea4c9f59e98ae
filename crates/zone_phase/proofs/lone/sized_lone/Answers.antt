use Rattle.std.proofs.Common.{◌≡◌, ◌↔◌, ◌+◌, rules, w32, w64, true, get_or, subst, sym}
use mir.Val.{SFits}
use Rattle.std.proofs.lemmas.Int.{to_z-of_z}
use Rattle.geo_base.specs.declared.shapes.Square.{Square}
use Rattle.rect_sets.specs.Rects.{covers}
use Rattle.flat_layout.specs.Layers.{Empty}
use Rattle.flat_layout.specs.Plane.{IsSized}
use Rattle.sized_layers.specs.Sizes.{IsSetWithin, growth}
use Rattle.zone_phase.specs.Lone.{IsLoneIn}
use Rattle.zone_phase.proofs.Loning.{lone_of_sized}
use Rattle.zone_phase.proofs.lone.sized_lone.Goals as goal

pub returns : goal.returns
returns c = λ n d cell trees h canonical.
    let x = get_or trees c.args.a Empty in
    let operand = c.set_at-operand.result.now in let set = c.in_ok-set.set in
    let f : SFits w64 c.from.result = search rules in
    let g : SFits w32 c.args.by = search rules in
    let same = simp to_z-of_z at c.from.ensures in
    let squares = simp to_z-of_z at c.in_ok-set.ensures.squares in
    let range = simp to_z-of_z at c.in_ok-set.ensures.range in
    lone_of_sized n d cell c.args.by x operand set
    (λ s. subst (λ by. (covers set s ≡ true) ↔ IsSized by (λ (q : Square). covers operand q ≡ true) s) same (squares s))
    (λ m near. subst (λ by. IsSetWithin (m + growth by) set) same (range m near))
    canonical
    (subst (IsLoneIn n d cell x) (sym c.set_at-operand.ensures) (h c.args.a))
