-- What outlines of rectangles cover.
use Rattle.std.proofs.Common.{◌≡◌, ◌↔◌, inl, inr, Bool, true, false, ◌&&◌, ◌||◌, ℤ, ◌<ℤ◌, List, [], ◌∷◌, map, refl, sym, ap, subst, ◌∙◌, arith}
use Rattle.std.proofs.lemmas.Bool.{or_cases, or_left, or_right, and_parts, and_from}
use Rattle.std.specs.Int.{int_min, int_max}
use Rattle.std.specs.List.{All, AllByRecursion as ByRecursion, flat_map}
use Rattle.std.proofs.lemmas.Int.{ints}
use Rattle.std.proofs.lemmas.List.Elements.{recursion_from_All}
use Rattle.std.proofs.lemmas.List.Folds.{list_any-append}
use Rattle.geo_base.specs.Layers.{is_same_key}
use Rattle.geo_base.specs.Rects.{has, is_between, IsRect}
use Rattle.geo_base.specs.declared.layer.LayerKey.{LayerKey}
use Rattle.geo_base.specs.declared.shapes.Rect.{Rect}
use Rattle.geo_base.specs.declared.shapes.Square.{Square}
use Rattle.rect_sets.specs.Rects.{covers}
use Rattle.poly_fill.specs.Fills.{in_boundary}
use Rattle.poly_fill.specs.Outlines.{UprightLaw}
use Rattle.flat_layout.specs.Layout.{Some_of}
use Rattle.cell_graph.proofs.Bridge.{covers_some, some_covers}
use Rattle.gds_layout.specs.Shapes.{is_covering, shapes_cover}
use Rattle.gds_shapes.specs.Accepted.{layer_shapes, rect_shape}
use Rattle.gds_shapes.specs.Stream.{corners}
use Rattle.shapes_file.proofs.Drawn.{layer_drawn}
use Rattle.shapes_file.proofs.Held.{IsOn}

-- ---- one rectangle

min_is : (a b : ℤ) → a <ℤ b → int_min a b ≡ a
min_is a b h = grind (arith, ints)

max_is : (a b : ℤ) → a <ℤ b → int_max a b ≡ b
max_is a b h = grind (arith, ints)

same_range : (a b x : ℤ) → a <ℤ b → is_between (int_min a b) x (int_max a b) ≡ is_between a x b
same_range a b x h = ap (λ (z : ℤ). is_between z x (int_max a b)) (min_is a b h) ∙ ap (λ (z : ℤ). is_between a x z) (max_is a b h)

outline : UprightLaw → (r : Rect) → IsRect r → (s : Square) → in_boundary (corners r) s ≡ has r s
outline upright r sound s =
    upright (record { x = r.x1; y = r.y1 }) (record { x = r.x1; y = r.y2 }) (record { x = r.x2; y = r.y2 }) (record { x = r.x2; y = r.y1 }) (record { x = r.x1; y = r.y1 }) s refl refl refl
    ∙ ap (λ (b : Bool). b && is_between (int_min r.y1 r.y2) s.y (int_max r.y1 r.y2)) (same_range r.x1 r.x2 s.x sound.wide)
    ∙ ap (λ (b : Bool). is_between r.x1 s.x r.x2 && b) (same_range r.y1 r.y2 s.y sound.high)

-- ---- one layer

none_covers : (k : Bool) → false ≡ (k && false)
none_covers true = refl
none_covers false = refl

both_cover : (k a b : Bool) → ((k && a) || (k && b)) ≡ (k && (a || b))
both_cover true a b = refl
both_cover false a b = refl

same_or : (a b c d : Bool) → a ≡ b → c ≡ d → (a || c) ≡ (b || d)
same_or a b c d e f = ap (λ x. x || c) e ∙ ap (λ x. b || x) f

layer_covers : UprightLaw → (k key : LayerKey) (s : Square) (rects : List Rect) → ByRecursion IsRect rects → shapes_cover (map (λ r. rect_shape k r) rects) key s ≡ (is_same_key k key && covers rects s)
layer_covers upright k key s [] h = none_covers (is_same_key k key)
layer_covers upright k key s (r ∷ rects) h =
    same_or (is_same_key k key && in_boundary (corners r) s) (is_same_key k key && has r s) (shapes_cover (map (λ q. rect_shape k q) rects) key s) (is_same_key k key && covers rects s)
    (ap (λ b. is_same_key k key && b) (outline upright r h.0 s)) (layer_covers upright k key s rects h.1)
    ∙ both_cover (is_same_key k key) (has r s) (covers rects s)

-- ---- keys

same_key : (k m : LayerKey) → is_same_key k m ≡ true → k ≡ m
same_key k m h =
    let a : k.layer ≡ m.layer = grind (arith) in
    let b : k.datatype ≡ m.datatype = grind (arith) in
    ap (λ n. let q : LayerKey = record { layer = n; datatype = k.datatype } in q) a ∙ ap (λ n. let q : LayerKey = record { layer = m.layer; datatype = n } in q) b

itself : (k : LayerKey) → is_same_key k k ≡ true
itself k = grind (arith)

on_covers : (l : LayerKey × List Rect) (key : LayerKey) (q : Square) → IsOn key q (layer_drawn l) → (is_same_key l.0 key && covers l.1 q) ≡ true
on_covers l key q h = and_from (is_same_key l.0 key) (covers l.1 q) (subst (λ k. is_same_key l.0 k ≡ true) h.0 (itself l.0)) (some_covers l.1 q h.1)

covers_on : (l : LayerKey × List Rect) (key : LayerKey) (q : Square) → (is_same_key l.0 key && covers l.1 q) ≡ true → IsOn key q (layer_drawn l)
covers_on l key q e = (same_key l.0 key ((and_parts (is_same_key l.0 key) (covers l.1 q) e).0), covers_some l.1 q ((and_parts (is_same_key l.0 key) (covers l.1 q) e).1))

-- ---- all layers: their shapes cover what they have

split : UprightLaw → (l : LayerKey × List Rect) (ls : List (LayerKey × List Rect)) (key : LayerKey) (q : Square) → All IsRect l.1
    → shapes_cover (flat_map layer_shapes (l ∷ ls)) key q ≡ ((is_same_key l.0 key && covers l.1 q) || shapes_cover (flat_map layer_shapes ls) key q)
split upright l ls key q sound =
    list_any-append (is_covering key q) (layer_shapes l) (flat_map layer_shapes ls)
    ∙ ap (λ b. b || shapes_cover (flat_map layer_shapes ls) key q) (layer_covers upright l.0 key q l.1 (recursion_from_All IsRect l.1 sound))

pub drawn_covers : UprightLaw → (ls : List (LayerKey × List Rect)) (key : LayerKey) (q : Square) → ByRecursion (λ l. All IsRect l.1) ls
    → Some_of (IsOn key q) (map layer_drawn ls) ↔ (shapes_cover (flat_map layer_shapes ls) key q ≡ true)
drawn_covers upright [] key q sound = ((λ h. absurd h), (λ e. absurd (let f : false ≡ true = e in let z : ⊥ = cc in z)))
drawn_covers upright (l ∷ ls) key q sound =
    let e = split upright l ls key q sound.0 in
    let more = drawn_covers upright ls key q sound.1 in
    let here = is_same_key l.0 key && covers l.1 q in
    let others = shapes_cover (flat_map layer_shapes ls) key q in (
      (λ h. elim h [ inl s ↦ e ∙ or_left here others (on_covers l key q s) | inr s ↦ e ∙ or_right here others (more.0 s) ]),
      (λ f. elim (or_cases here others (sym e ∙ f)) [ inl s ↦ inl (covers_on l key q s) | inr s ↦ inr (more.1 s) ]),
    )
