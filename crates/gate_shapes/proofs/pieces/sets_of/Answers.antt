use Rattle.std.proofs.Common.{◌≡◌, ◌+◌, ◌∙◌, sym, ap, subst, arith, List, Some, take}
use Rattle.std.specs.Prelude.{slice_get, Vec}
use Rattle.std.specs.Global.{Global}
use Rattle.std.specs.List.{All}
use Rattle.std.proofs.lemmas.List.{take_all}
use Rattle.std.proofs.lemmas.Option.{slice_get-get_or}
use Rattle.geo_base.specs.Rects.{IsRect}
use Rattle.geo_base.specs.declared.shapes.Rect.{Rect}
use Rattle.geo_base.specs.declared.shapes.Square.{Square}
use Rattle.rect_sets.specs.Rects.{covers}
use Rattle.gate_shapes.specs.Sorted.{AreSetsOf}
use Rattle.gate_shapes.proofs.PartsOf.{sets_none, sets_more}
use Rattle.gate_shapes.proofs.pieces.sets_of.Goals as goal

pub loop-list-init : goal.loop-list-init
loop-list-init c = subst (λ (l : List (List Rect)). AreSetsOf (take 0 c.args.lists.now) l) (sym c.new-sets.ensures.items) (sets_none c.args.lists.now)

pub set_of-requires : goal.set_of-requires
set_of-requires c =
    let list : Vec Rect Global = c.list-item.result in
    let at : slice_get c.args.lists.now c.loop-list.list-index ≡ Some list = slice_get-get_or c.args.lists.now c.loop-list.list-index list (omega arith) ∙ ap (λ (v : Vec Rect Global). Some v) (sym c.list-item.is) in
    subst (λ (l : List Rect). All IsRect l) (sym c.deref.ensures.value) (c.requires c.loop-list.list-index list at)

pub loop-list-preserved : goal.loop-list-preserved
loop-list-preserved c =
    let list : Vec Rect Global = c.list-item.result in
    let at : slice_get c.args.lists.now c.loop-list.list-index ≡ Some list = slice_get-get_or c.args.lists.now c.loop-list.list-index list (omega arith) ∙ ap (λ (v : Vec Rect Global). Some v) (sym c.list-item.is) in
    let same : (q : Square) → covers c.in_ok-set.set q ≡ covers list.items q = λ q. c.in_ok-set.ensures q ∙ ap (λ (l : List Rect). covers l q) c.deref.ensures.value in
    subst (λ (l : List (List Rect)). AreSetsOf (take (c.loop-list.list-index + 1) c.args.lists.now) l) (sym c.in_ok-push.ensures.items)
    (sets_more c.args.lists.now c.loop-list.sets.items c.loop-list.list-index list c.in_ok-set.set (omega arith) at same c.loop-list.invariant)

pub returns : goal.returns
returns c = subst (λ (l : List (Vec Rect Global)). AreSetsOf l c.loop-list.sets.items) (take_all c.loop-list.list-index c.args.lists.now (omega arith)) c.loop-list.invariant
