-- Selections behind others.
use Rattle.std.proofs.Common.{◌⊎◌, inl, inr, List, [], ◌∷◌, ◌++◌, map, sym, ◌∙◌, ap, subst}
use Rattle.std.specs.List.{All, AllByRecursion}
use Rattle.std.proofs.lemmas.List.{append_assoc, map-append}
use Rattle.std.proofs.lemmas.List.Elements.{All-from_recursion, recursion_from_All}
use Rattle.geo_base.specs.declared.layer.LayerKey.{LayerKey}
use Rattle.rect_sets.specs.Rects.{IsCanonical}
use Rattle.flat_layout.specs.Layout.{Design}
use Rattle.cell_graph.specs.Linked.{plain}
use Rattle.cell_graph.specs.declared.cells.CellPart.{CellPart}
use Rattle.cell_graph.specs.declared.cells.OwnLayer.{OwnLayer}
use Rattle.cell_graph.proofs.Bridge.{key_is, key_same}
use Rattle.cell_graph.proofs.Resolving.{at_too}
use Rattle.select_laws.specs.Staged.{IsKeyOf, IsStaged, Stage}
use Rattle.staged_layouts.specs.Staged.{IsStagedCell, StagedOnLaw}
use Rattle.staged_layouts.proofs.Agreeing.{differs}
use Rattle.staged_layouts.proofs.Stages.{reached_back, staged_own}

staged_on : (ss ts : List Stage) (d m e : Design) → IsStaged d ss m → IsStaged m ts e → IsStaged d (ss ++ ts) e
staged_on [] ts d m e one two = subst (λ (x : Design). IsStaged x ts e) (sym one) two
staged_on (s ∷ ss) ts d m e one two = (one.0, one.1, one.2, staged_on ss ts one.0 m e one.3 two)

recursion_on : {A : Type 0} (P : A → Type 0) (xs ys : List A) → AllByRecursion P xs → AllByRecursion P ys → AllByRecursion P (xs ++ ys)
recursion_on P [] ys f g = g
recursion_on P (x ∷ xs) ys f g = (f.0, recursion_on P xs ys f.1 g)

all_on : {A : Type 0} (P : A → Type 0) (xs ys : List A) → All P xs → All P ys → All P (xs ++ ys)
all_on P xs ys f g = All-from_recursion P (xs ++ ys) (recursion_on P xs ys (recursion_from_All P xs f) (recursion_from_All P ys g))

cell_on : (ss ts : List Stage) (c b p : CellPart) → IsStagedCell ss c b → IsStagedCell ts b p → IsStagedCell (ss ++ ts) c p
cell_on ss ts c b p x y = record {
  name = y.name ∙ x.name;
  texts = y.texts ∙ x.texts;
  places = y.places ∙ x.places;
  further = x.further ++ y.further;
  layers = y.layers ∙ ap (λ (ls : List OwnLayer). ls ++ y.further) x.layers ∙ append_assoc c.layers.items x.further y.further;
  keys = map-append (λ (l : OwnLayer). l.key) x.further y.further
      ∙ ap (λ (ks : List LayerKey). ks ++ map (λ (l : OwnLayer). l.key) y.further) x.keys
      ∙ ap (λ (ks : List LayerKey). map (λ (s : Stage). s.key) ss ++ ks) y.keys
      ∙ sym (map-append (λ (s : Stage). s.key) ss ts);
  canonical = all_on (λ l. IsCanonical l.set) x.further y.further x.canonical y.canonical;
}

key_known : (ts : List Stage) (key : LayerKey) → IsKeyOf ts key ⊎ (IsKeyOf ts key → ⊥)
key_known [] key = inr (λ h. h)
key_known (t ∷ ts) key = elim (key_is t.key key) [
  | inl is ↦ inl (inl (key_same t.key key is))
  | inr other ↦ elim (key_known ts key) [
    | inl h ↦ inl (inr h)
    | inr apart_from ↦ inr (λ h. elim h [ inl same ↦ differs t.key key other same | inr k ↦ apart_from k ])
  ]
]

key_in : (ss ts : List Stage) (key : LayerKey) → IsKeyOf (ss ++ ts) key → (IsKeyOf ts key → ⊥) → IsKeyOf ss key
key_in [] ts key h apart_from = absurd (apart_from h)
key_in (s ∷ ss) ts key (inl e) apart_from = inl e
key_in (s ∷ ss) ts key (inr h) apart_from = inr (key_in ss ts key h apart_from)

pub on_law : StagedOnLaw
on_law ss ts d m e x y = record {
  top = y.top ∙ x.top;
  way = y.way ∙ x.way;
  sound = y.sound;
  count = y.count ∙ x.count;
  cells = λ i c p at there.
      let b = at_too d.cells m.cells i c (sym x.count) at in
      cell_on ss ts c b.0 p (x.cells i c b.0 at b.1) (y.cells i b.0 p b.1 there);
  staged = staged_on ss ts (plain d) (plain m) (plain e) x.staged y.staged;
  only = λ cell key q is own. elim (key_known ts key) [
    | inl k ↦ reached_back ss (plain d) (plain m) x.staged cell (y.only cell key q k own)
    | inr apart_from ↦ x.only cell key q (key_in ss ts key is apart_from) ((staged_own ts (plain m) (plain e) key y.staged apart_from cell q).0 own)
  ];
}
