-- How far alike layouts reach.
use Rattle.std.proofs.Common.{◌≡◌, inl, inr, ℕ, ◌<◌, List, map, length, Option, Some, None, slice_get, refl, sym, ◌∙◌, ap, subst, arith}
use Rattle.std.proofs.lemmas.Bool.{cases_lt}
use Rattle.base_laws.proofs.Items.{map_to, one_entry}
use Rattle.base_laws.proofs.Lists.{map_count}
use Rattle.flat_layout.specs.Layout as flat
use Rattle.cell_graph.specs.Linked.{cell_at, plain}
use Rattle.cell_graph.specs.declared.cells.CellPart.{CellPart}
use Rattle.cell_graph.specs.declared.cells.Place.{Place}
use Rattle.cell_graph.proofs.Resolving.{at_too}
use Rattle.gds_layout.specs.Once.{IsAlike, contents}
use Rattle.gds_layout.specs.declared.layout.Layout.{Layout}
use Rattle.gds_layout.proofs.SamePlain.{same_plain}
use Rattle.layout_shapes.specs.Wide.{IsFarOut}
use Rattle.layout_shapes.specs.Written.{name_of}
use Rattle.rule_text.specs.Rules.{Rules}
use Rattle.run_layout.specs.Far.{IsFirstFar, IsNear}
use Rattle.selection_hulls.specs.Near.{selects_reach}

cells_count : (xs ys : List CellPart) → map contents xs ≡ map contents ys → length xs ≡ length ys
cells_count xs ys e = sym (map_count contents xs) ∙ ap (λ (cs : List (flat.Cell × List Place)). length cs) e ∙ map_count contents ys

name_alike : (xs ys : List CellPart) (i : ℕ) → map contents xs ≡ map contents ys → name_of (slice_get xs i) ≡ name_of (slice_get ys i)
name_alike xs ys i e = by (slice_get xs i) (slice_get ys i) refl refl
  where
    by : (o p : Option CellPart) → slice_get xs i ≡ o → slice_get ys i ≡ p → name_of o ≡ name_of p
    by None None f g = refl
    by None (Some c) f g =
        let p = at_too ys xs i c (sym (cells_count xs ys e)) g in
        absurd (let h : None ≡ Some p.0 = sym f ∙ p.1 in let z : ⊥ = cc in z)
    by (Some p) None f g =
        let c = at_too xs ys i p (cells_count xs ys e) f in
        absurd (let h : None ≡ Some c.0 = sym g ∙ c.1 in let z : ⊥ = cc in z)
    by (Some p) (Some c) f g =
        let h : contents p ≡ contents c = one_entry (slice_get (map contents xs) i) (contents p) (contents c) (map_to contents xs i p f)
        (subst (λ (cs : List (flat.Cell × List Place)). slice_get cs i ≡ Some (contents c)) (sym e) (map_to contents ys i c g)) in
        ap (λ (z : flat.Cell × List Place). z.0.name) h

apart : (a b : ℕ) → (a < b → ⊥) → (b < a → ⊥) → a ≡ b
apart a b f g = elim (cases_lt a b) [ inl lt ↦ absurd (f lt) | inr le ↦ elim (cases_lt b a) [ inl lt ↦ absurd (g lt) | inr more ↦ omega (arith, le, more) ] ]

module _ (r : Rules) (l k : Layout) (alike : IsAlike l k) where
  far_there : (cell : ℕ) → IsFarOut (plain k.design) (selects_reach r) cell → IsFarOut (plain l.design) (selects_reach r) cell
  far_there cell h = subst (λ (f : flat.Design). IsFarOut f (selects_reach r) cell) (sym (same_plain l.design k.design alike.same.cells alike.same.top alike.way)) h

  far_here : (cell : ℕ) → IsFarOut (plain l.design) (selects_reach r) cell → IsFarOut (plain k.design) (selects_reach r) cell
  far_here cell h = subst (λ (f : flat.Design). IsFarOut f (selects_reach r) cell) (same_plain l.design k.design alike.same.cells alike.same.top alike.way) h

  -- the first such cell is one
  pub one_far : (a b : List ℕ) → IsFirstFar r l a → IsFirstFar r k b → a ≡ b
  one_far a b x y =
      let same = apart x.cell y.cell (λ lt. y.first.1.before x.cell lt (far_here x.cell x.first.1.here)) (λ lt. x.first.1.before y.cell lt (far_there y.cell y.first.1.here)) in
      x.named ∙ name_alike l.design.cells k.design.cells x.cell alike.same.cells ∙ ap (λ (i : ℕ). name_of (cell_at k.design i)) same ∙ sym y.named

  -- and there is none where there is none
  pub none_far : (b : List ℕ) → IsNear r l → IsFirstFar r k b → ⊥
  none_far b near y = near y.cell (subst (λ (n : ℕ). y.cell < n) (sym (cells_count l.design.cells k.design.cells alike.same.cells)) y.first.0) (far_there y.cell y.first.1.here)
