use Rattle.std.proofs.Common.{◌≡◌, ◌∙◌, ℕ, sym, ap, subst, pos, arith, List, [], ◌+◌, Some, get_or}
use Rattle.std.specs.Prelude.{slice_get, Vec}
use Rattle.std.specs.Global.{Global}
use Rattle.std.proofs.lemmas.Option.{slice_get-get_or}
use Rattle.geo_base.specs.declared.shapes.Rect.{Rect}
use Rattle.gate_shapes.specs.Sorted.{AreSortedOut}
use Rattle.gate_shapes.proofs.Members.{sorted_none, sorted_empty, sorted_more, sorted_all}
use Rattle.gate_shapes.proofs.pieces.sorted_out.Goals as goal

pub loop-n-init : goal.loop-n-init
loop-n-init c = subst (λ (l : List (Vec Rect Global)). AreSortedOut [] [] 0 l) (sym c.new-lists.ensures.items) sorted_none

pub loop-n-preserved : goal.loop-n-preserved
loop-n-preserved c = subst (λ (l : List (Vec Rect Global)). AreSortedOut [] [] (c.loop-n._n + 1) l) (sym c.in_ok-push.ensures.items) (sorted_empty c.loop-n._n c.loop-n.lists.items c.new.result c.new.ensures.items c.loop-n.invariant)

pub loop-i-init : goal.loop-i-init
loop-i-init c =
    let e : c.loop-n._n ≡ c.args.count = omega arith in
    subst (λ (n : ℕ). AreSortedOut [] [] n c.loop-n.lists.items) e c.loop-n.invariant

pub loop-i-preserved : goal.loop-i-preserved
loop-i-preserved c =
    let zero : Rect = record { x1 = pos 0; y1 = pos 0; x2 = pos 0; y2 = pos 0 } in
    let rects = c.args.rects.now in let cs = c.args.class_of.now in let lists = c.loop-i.lists.items in
    let old : Vec Rect Global = c.index_mut-list.result.now in
    let below = c.requires.below c.loop-i.i (omega arith) in
    let long = c.loop-i.invariant.long in
    let at : slice_get lists (get_or cs c.loop-i.i 0) ≡ Some old = slice_get-get_or lists (get_or cs c.loop-i.i 0) old (omega (arith, below, long)) ∙ ap (λ (v : Vec Rect Global). Some v) (sym c.index_mut-list.ensures.value) in
    sorted_more rects cs c.args.count c.loop-i.i zero lists old c.push-in-loop-i.new.self (omega arith) c.requires.long at c.in_ok-push-2.ensures.items c.loop-i.invariant

pub returns : goal.returns
returns c = sorted_all c.args.rects.now c.args.class_of.now c.args.count c.loop-i.i c.loop-i.lists.items (omega arith) c.requires.long c.loop-i.invariant
