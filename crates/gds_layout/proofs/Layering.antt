-- Piles that cover what shapes do, as layers.
use Rattle.std.proofs.Common.{◌≡◌, inl, inr, Bool, true, false, List, [], ◌∷◌, ◌++◌, refl, sym, ap, subst, ◌∙◌}
use Rattle.base_laws.proofs.Tests.{or_false}
use Rattle.std.proofs.lemmas.Bool.{or_parts, or_right}
use Rattle.std.specs.Prelude.{◌||◌, ◌&&◌}
use Rattle.std.specs.List.{AllByRecursion, list_any}
use Rattle.std.proofs.lemmas.List.Folds.{list_any-append}
use Rattle.std.proofs.lemmas.List.Elements.{All-from_recursion}
use Rattle.geo_base.specs.Layers.{is_same_key}
use Rattle.geo_base.specs.declared.layer.LayerKey.{LayerKey}
use Rattle.geo_base.specs.declared.shapes.Square.{Square}
use Rattle.rect_sets.specs.Rects.{covers}
use Rattle.cell_graph.specs.declared.cells.OwnLayer.{OwnLayer}
use Rattle.cell_graph.specs.Linked.{layer_keys}
use Rattle.plain_netlist.specs.Lists.{IsListed, AreApart}
use Rattle.gds_elements.specs.Meaning.{Shape}
use Rattle.gds_layout.specs.declared.piles.Pile.{Pile}
use Rattle.gds_layout.specs.declared.piles.Piles.{Piles}
use Rattle.gds_layout.specs.Shapes.{is_covering, shapes_cover, is_drawn, with_key, keys_behind}
use Rattle.gds_layout.specs.Piles.{rects_of, keys_of, AreDifferent, ArePiles, has_pile, piles_cover}
use Rattle.gds_layout.specs.Layering.{AreLaid, IsFilled, AreFilled}
use Rattle.gds_layout.specs.Drafts.{IsLayerOf, AreLayersOf}
use Rattle.gds_layout.proofs.Piling.{itself, other_key}

-- ---- shapes

-- the piles cover these shapes
pub record Covers (shapes : List Shape) (piles : List Pile) : Type 0 where
  pub covers_same : (k : LayerKey) (s : Square) → piles_cover piles k s ≡ shapes_cover shapes k s
  pub has_same : (k : LayerKey) → has_pile piles k ≡ is_drawn shapes k
  pub keys_same : keys_of piles ≡ keys_behind [] shapes

keys_more : (keys : List LayerKey) (shapes : List Shape) (shape : Shape) → keys_behind keys (shapes ++ shape ∷ []) ≡ with_key (keys_behind keys shapes) shape.key
keys_more keys [] shape = refl
keys_more keys (s ∷ shapes) shape = keys_more (with_key keys s.key) shapes shape

pub covers_none : (piles : List Pile) → piles ≡ [] → Covers [] piles
covers_none piles e = record { keys_same = ap keys_of e; covers_same = λ k s. ap (λ (ps : List Pile). piles_cover ps k s) e; has_same = λ k. ap (λ (ps : List Pile). has_pile ps k) e }

pub covers_more : (shapes : List Shape) (shape : Shape) (old new : List Pile) → Covers shapes old
    → ((k : LayerKey) (s : Square) → piles_cover new k s ≡ (piles_cover old k s || is_covering k s shape))
    → ((k : LayerKey) → has_pile new k ≡ (has_pile old k || is_same_key shape.key k))
    → keys_of new ≡ with_key (keys_of old) shape.key
    → Covers (shapes ++ shape ∷ []) new
covers_more shapes shape old new c f h keys = record {
  keys_same = keys ∙ ap (λ (ks : List LayerKey). with_key ks shape.key) c.keys_same ∙ sym (keys_more [] shapes shape);
  covers_same = λ k s.
      f k s ∙ ap (λ (b : Bool). b || is_covering k s shape) (c.covers_same k s)
      ∙ ap (λ (b : Bool). shapes_cover shapes k s || b) (sym (or_false (is_covering k s shape)))
      ∙ sym (list_any-append (is_covering k s) shapes (shape ∷ []));
  has_same = λ k.
      h k ∙ ap (λ (b : Bool). b || is_same_key shape.key k) (c.has_same k)
      ∙ ap (λ (b : Bool). is_drawn shapes k || b) (sym (or_false (is_same_key shape.key k)))
      ∙ sym (list_any-append (λ (t : Shape). is_same_key t.key k) shapes (shape ∷ []));
}

pub laid : (shapes : List Shape) (p : Piles) → ArePiles p → Covers shapes p.list.items → AreLaid shapes p.list.items
laid shapes p a c = record { keys = c.keys_same; different = subst AreDifferent (sym a.keys_are) a.different; sound = a.sound; covers_same = c.covers_same; has_same = c.has_same }

-- ---- layers

pub filled_more : (ps : List Pile) (ls : List OwnLayer) (p : Pile) (l : OwnLayer) → AreFilled ps ls → IsFilled p l → AreFilled (ps ++ p ∷ []) (ls ++ l ∷ [])
filled_more [] [] p l f h = (h, tt)
filled_more (q ∷ ps) [] p l f h = absurd f
filled_more [] (m ∷ ls) p l f h = absurd f
filled_more (q ∷ ps) (m ∷ ls) p l f h = (f.0, filled_more ps ls p l f.1 h)

has_none : (key : LayerKey) (ps : List Pile) (ls : List OwnLayer) → AreFilled ps ls → list_any (is_same_key key) (keys_of ps) ≡ false → IsListed key (layer_keys ls) → ⊥
has_none key [] [] f e h = h
has_none key (p ∷ ps) [] f e h = f
has_none key [] (l ∷ ls) f e h = f
has_none key (p ∷ ps) (l ∷ ls) f e (inl h) =
    let parts = or_parts (is_same_key key p.key) (list_any (is_same_key key) (keys_of ps)) e in
    let same : key ≡ p.key = h ∙ f.0.key_is in
    let bad : true ≡ false = sym (itself key) ∙ ap (λ (q : LayerKey). is_same_key key q) same ∙ parts.0 in
    absurd (let z : ⊥ = cc in z)
has_none key (p ∷ ps) (l ∷ ls) f e (inr h) =
    has_none key ps ls f.1 (or_parts (is_same_key key p.key) (list_any (is_same_key key) (keys_of ps)) e).1 h

apart : (ps : List Pile) (ls : List OwnLayer) → AreFilled ps ls → AreDifferent (keys_of ps) → AreApart (layer_keys ls)
apart [] [] f d = tt
apart (p ∷ ps) [] f d = absurd f
apart [] (l ∷ ls) f d = absurd f
apart (p ∷ ps) (l ∷ ls) f d =
    (subst (λ (k : LayerKey). IsListed k (layer_keys ls) → ⊥) (sym f.0.key_is) (has_none p.key ps ls f.1 d.0), apart ps ls f.1 d.1)

-- each pile of the second list alone covers what the first covers on its layer
abbrev Owns : List Pile → List Pile → Type 0
Owns all ps = AllByRecursion (λ (p : Pile). ((s : Square) → piles_cover all p.key s ≡ covers (rects_of p) s) × (has_pile all p.key ≡ true)) ps

other_first : (a b c : Bool) → a ≡ false → ((a && b) || c) ≡ c
other_first a b c e = rw e refl

owns_more : (p : Pile) (ps qs : List Pile) → list_any (is_same_key p.key) (keys_of qs) ≡ false → Owns ps qs → Owns (p ∷ ps) qs
owns_more p ps [] e h = tt
owns_more p ps (q ∷ qs) e h =
    let parts = or_parts (is_same_key p.key q.key) (list_any (is_same_key p.key) (keys_of qs)) e in (
      (
        λ s. other_first (is_same_key p.key q.key) (covers (rects_of p) s) (piles_cover ps q.key s) parts.0 ∙ h.0.0 s,
        or_right (is_same_key p.key q.key) (has_pile ps q.key) h.0.1,
      ),
      owns_more p ps qs parts.1 h.1,
    )

no_other : (key : LayerKey) (ps : List Pile) (s : Square) → list_any (is_same_key key) (keys_of ps) ≡ false → piles_cover ps key s ≡ false
no_other key [] s e = refl
no_other key (p ∷ ps) s e =
    let parts = or_parts (is_same_key key p.key) (list_any (is_same_key key) (keys_of ps)) e in
    other_first (is_same_key p.key key) (covers (rects_of p) s) (piles_cover ps key s) (other_key key p.key parts.0) ∙ no_other key ps s parts.1

alone : (a b c : Bool) → a ≡ true → c ≡ false → ((a && b) || c) ≡ b
alone a b c e f = rw (e, f) (or_false b)

owns : (ps : List Pile) → AreDifferent (keys_of ps) → Owns ps ps
owns [] d = tt
owns (p ∷ ps) d = (
  (
    λ s. alone (is_same_key p.key p.key) (covers (rects_of p) s) (piles_cover ps p.key s) (itself p.key) (no_other p.key ps s d.0),
    ap (λ (b : Bool). b || has_pile ps p.key) (itself p.key),
  ),
  owns_more p ps ps d.0 (owns ps d.1),
)

each_layer : (shapes : List Shape) (all ps : List Pile) (ls : List OwnLayer) → ((k : LayerKey) (s : Square) → piles_cover all k s ≡ shapes_cover shapes k s) → ((k : LayerKey) → has_pile all k ≡ is_drawn shapes k)
    → Owns all ps → AreFilled ps ls → AllByRecursion (IsLayerOf shapes) ls
each_layer shapes all [] [] c h o f = tt
each_layer shapes all (p ∷ ps) [] c h o f = absurd f
each_layer shapes all [] (l ∷ ls) c h o f = absurd f
each_layer shapes all (p ∷ ps) (l ∷ ls) c h o f = (
  record {
    drawn = ap (is_drawn shapes) f.0.key_is ∙ sym (h p.key) ∙ o.0.1;
    canonical = f.0.canonical;
    squares = λ s. f.0.squares s ∙ sym (o.0.0 s) ∙ c p.key s ∙ ap (λ (k : LayerKey). shapes_cover shapes k s) (sym f.0.key_is);
  },
  each_layer shapes all ps ls c h o.1 f.1,
)

has_layer : (key : LayerKey) (ps : List Pile) (ls : List OwnLayer) → AreFilled ps ls → list_any (λ (l : OwnLayer). is_same_key l.key key) ls ≡ has_pile ps key
has_layer key [] [] f = refl
has_layer key (p ∷ ps) [] f = absurd f
has_layer key [] (l ∷ ls) f = absurd f
has_layer key (p ∷ ps) (l ∷ ls) f =
    ap (λ (k : LayerKey). is_same_key k key || list_any (λ (m : OwnLayer). is_same_key m.key key) ls) f.0.key_is ∙ ap (λ (b : Bool). is_same_key p.key key || b) (has_layer key ps ls f.1)

same_keys : (ps : List Pile) (ls : List OwnLayer) → AreFilled ps ls → layer_keys ls ≡ keys_of ps
same_keys [] [] f = refl
same_keys (p ∷ ps) [] f = absurd f
same_keys [] (l ∷ ls) f = absurd f
same_keys (p ∷ ps) (l ∷ ls) f = ap (λ (k : LayerKey). k ∷ layer_keys ls) f.0.key_is ∙ ap (λ (ks : List LayerKey). p.key ∷ ks) (same_keys ps ls f.1)

pub layered : (shapes : List Shape) (ps : List Pile) (ls : List OwnLayer) → AreLaid shapes ps → AreFilled ps ls → AreLayersOf shapes ls
layered shapes ps ls a f = record {
  keys = same_keys ps ls f ∙ a.keys;
  apart = apart ps ls f a.different;
  each = All-from_recursion (IsLayerOf shapes) ls (each_layer shapes ps ps ls a.covers_same a.has_same (owns ps a.different) f);
  all = λ key e. has_layer key ps ls f ∙ a.has_same key ∙ e;
}
