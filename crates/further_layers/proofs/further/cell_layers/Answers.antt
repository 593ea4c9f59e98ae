use Rattle.std.proofs.Common.{◌≡◌, ◌<◌, ◌+◌, ◌∙◌, List, Some, [], ap, arith, get_or, length, refl, slice_get, subst, sym}
use Rattle.std.specs.Global.{Vec}
use Rattle.std.proofs.lemmas.Option.{get_or_from_slice_get, slice_get_read, slice_get-get_or}
use Rattle.base_laws.proofs.Items.{map_to}
use Rattle.geo_base.specs.declared.shapes.Rect.{Rect}
use Rattle.further_layers.specs.Further.{AreLayersBy, lists_of, set_at}
use Rattle.further_layers.proofs.Building.{built_more}
use Rattle.further_layers.proofs.further.cell_layers.Goals as goal

pub loop-k-preserved : goal.loop-k-preserved
loop-k-preserved c =
    let keys = c.args.keys.now in let sets = c.args.sets.now in let lists = lists_of sets in let k = c.loop-k.k in let cell = c.args.cell in
    let list = c.index-sets-k.result in let test = c.loop-k-test.true in let same_long = c.requires in
    let lt : k < length sets = omega (arith, test, same_long) in
    let at : slice_get sets k ≡ Some list = slice_get_read sets (length sets) k list refl lt c.index-sets-k.is in
    let here : get_or lists k [] ≡ list.items = get_or_from_slice_get lists k list.items [] (map_to (λ (v : Vec (List Rect)). v.items) sets k list at) in
    let set_is : c.in_ok-set.set ≡ set_at lists k cell =
    c.in_ok-set.ensures
    ∙ ap (λ (l : List (List Rect)). get_or l cell []) (c.deref.ensures.value ∙ sym here) in
    subst (AreLayersBy keys lists cell (k + 1)) (sym c.in_ok-push.ensures.items)
    (built_more keys lists cell k _ c.loop-k.layers.items (slice_get-get_or keys k _ test) set_is c.rects-canonical.ensures.canonical c.loop-k.invariant)
