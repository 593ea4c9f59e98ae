use Rattle.std.proofs.Common.{◌≡◌, ◌↔◌, ◌+◌, ◌^◌, rules, w32, w64, true, get_or, subst, sym}
use mir.Val.{SFits}
use Rattle.std.proofs.lemmas.Int.{to_z-of_z}
use Rattle.geo_base.specs.declared.shapes.Square.{Square}
use Rattle.rect_sets.specs.Rects.{covers}
use Rattle.flat_layout.specs.Layers.{Empty, Sized}
use Rattle.flat_layout.specs.Plane.{IsSized}
use Rattle.sized_layers.specs.Sizes.{IsSetWithin, growth}
use Rattle.layer_phase.specs.Names.{IsFlatIn}
use Rattle.layer_phase.proofs.Flattening.{sized_flats}
use Rattle.layer_phase.proofs.flats.sized_flat.Goals as goal

pub size-requires-clause-within : goal.size-requires-clause-within
size-requires-clause-within c = subst (IsSetWithin (2 ^ 39)) (sym c.set_at-operand.ensures) c.requires.within

pub returns : goal.returns
returns c = λ d cell looks trees h.
    let x = get_or trees c.args.a Empty in
    let operand = c.set_at-operand.result.now in let set = c.in_ok-set.set in
    let f : SFits w64 c.from.result = search rules in
    let g : SFits w32 c.args.by = search rules in
    let same = simp to_z-of_z at c.from.ensures in
    let squares = simp to_z-of_z at c.in_ok-set.ensures.squares in
    let range = simp to_z-of_z at c.in_ok-set.ensures.range in
    subst (IsFlatIn d cell looks (Sized c.args.by x)) (sym c.own.ensures)
    (sized_flats d cell looks c.args.by x operand set
    (λ s. subst (λ by. (covers set s ≡ true) ↔ IsSized by (λ (q : Square). covers operand q ≡ true) s) same (squares s))
    (λ n near. subst (λ by. IsSetWithin (n + growth by) set) same (range n near))
    (subst (IsFlatIn d cell looks x) (sym c.set_at-operand.ensures) (h c.args.a)))
