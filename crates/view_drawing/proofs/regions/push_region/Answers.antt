use Rattle.std.proofs.Common.{◌≡◌, ◌++◌, ◌∷◌, ◌∙◌, [], ℕ, List, Some, ap, length, slice_get, subst, sym}
use Rattle.base_laws.proofs.Items.{get_last}
use Rattle.base_laws.proofs.Lists.{map_last}
use Rattle.std.proofs.lemmas.List.{length-map}
use Rattle.std.specs.List.{All}
use Rattle.view_words.specs.Numbers.{IsSmallRect}
use Rattle.view_netlist.specs.Kinds.{class_seen}
use Rattle.view_drawing.specs.Devices.{Area, AreSmallRegions, area_of, areas_of}
use Rattle.view_drawing.specs.declared.regions.Region.{Region}
use Rattle.view_drawing.proofs.Placing.{all_one}
use Rattle.view_drawing.proofs.regions.push_region.Goals as goal

pub returns-clause-added : goal.returns-clause-added
returns-clause-added c =
    let old = c.args.regions.now.items in
    let a : Area = record { class = class_seen c.args.class; rects = c.args.rects.items } in
    let same = c.in_ok-name.ensures.items_if_clones_equal (λ x y e. e) in
    let new : areas_of c.push.new.self.items ≡ areas_of old ++ a ∷ [] =
    ap (λ (l : List Region). areas_of l) c.in_ok-push.ensures.items ∙ map_last area_of old _ ∙ ap (λ (l : List ℕ). areas_of old ++ record { class = record { kind = c.args.class.kind; name = l }; rects = c.args.rects.items } ∷ []) same in
    (a ∷ [], new)

pub returns-clause-listed : goal.returns-clause-listed
returns-clause-listed c =
    let old = c.args.regions.now.items in
    let a : Area = record { class = class_seen c.args.class; rects = c.args.rects.items } in
    let same = c.in_ok-name.ensures.items_if_clones_equal (λ x y e. e) in
    let new : areas_of c.push.new.self.items ≡ areas_of old ++ a ∷ [] =
    ap (λ (l : List Region). areas_of l) c.in_ok-push.ensures.items ∙ map_last area_of old _ ∙ ap (λ (l : List ℕ). areas_of old ++ record { class = record { kind = c.args.class.kind; name = l }; rects = c.args.rects.items } ∷ []) same in
    let at : length (areas_of old) ≡ c.in_ok-next.next = length-map old area_of ∙ (sym c.args.regions.now.ok.0 ∙ (sym c.len.ensures ∙ sym c.in_ok-next.ensures.ok)) in
    subst (λ (l : List Area). slice_get l c.in_ok-next.next ≡ Some a) (sym new) (subst (λ n. slice_get (areas_of old ++ a ∷ []) n ≡ Some a) at (get_last (areas_of old) a))

pub returns-clause-small : goal.returns-clause-small
returns-clause-small c h s =
    let old = c.args.regions.now.items in
    let a : Area = record { class = class_seen c.args.class; rects = c.args.rects.items } in
    let same = c.in_ok-name.ensures.items_if_clones_equal (λ x y e. e) in
    let new : areas_of c.push.new.self.items ≡ areas_of old ++ a ∷ [] =
    ap (λ (l : List Region). areas_of l) c.in_ok-push.ensures.items ∙ map_last area_of old _ ∙ ap (λ (l : List ℕ). areas_of old ++ record { class = record { kind = c.args.class.kind; name = l }; rects = c.args.rects.items } ∷ []) same in
    subst (λ (l : List Area). AreSmallRegions l) (sym new) (all_one (λ (x : Area). All IsSmallRect x.rects) (areas_of old) a h s)
