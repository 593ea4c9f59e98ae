-- What lies near a cell's own squares.
use Rattle.std.proofs.Common.{◌≡◌, ◌∙◌, inl, inr, ℕ, ◌^◌, true, false, List, [], ◌++◌, Option, Some, None, arith, ap, length, subst, sym}
use Rattle.std.proofs.lemmas.Bool.{or_cases, or_left, or_right}
use Rattle.std.specs.List.{All}
use Rattle.std.proofs.lemmas.Option.{slice_get_within}
use Rattle.geo_base.specs.Rects.{IsRect}
use Rattle.geo_base.specs.declared.shapes.Rect.{Rect}
use Rattle.geo_base.specs.declared.shapes.Square.{Square}
use Rattle.rect_sets.specs.Rects.{covers}
use Rattle.flat_layout.specs.Plane.{AreWithin}
use Rattle.flat_laws.proofs.Moves.{within_back, within_none}
use Rattle.sized_layers.specs.Sizes.{IsSetWithin}
use Rattle.cell_graph.specs.Linked.{Linked, HullIsSound}
use Rattle.cell_graph.proofs.Growing.{grown_none, within_grown}
use Rattle.cell_context.proofs.Collecting.{covers_append}
use Rattle.rule_text.specs.declared.rules.LayerRule.{LayerRule}
use Rattle.layer_phase.specs.Around.{around}
use Rattle.layer_phase.specs.Looks.{AreHeld, BringsOwn, HoldsOwn}
use Rattle.cell_context.specs.Placed.{Grows}
use Rattle.layer_phase.proofs.Around.{covered_near, near_covered, set_within}
use Rattle.cell_context.proofs.Visiting.{wider_rect}

-- within nothing of an own square lies the square itself
pub own_here : (n : ℕ) (d : Linked) (names : List LayerRule) (cell : ℕ) (out : List Rect) → n ≡ 0 → BringsOwn d cell names (length names) out → HoldsOwn n d names cell out
own_here n d names cell out e brings name key is s q own near =
    let same : s ≡ q = within_none s q (subst (λ m. AreWithin m s q) e near) in
    subst (λ x. covers out x ≡ true) same (brings name key (slice_get_within names name is.0 is.1) is s own)

pub grows_left : (old more new : List Rect) → new ≡ old ++ more → Grows old new
grows_left old more new e q h = ap (λ l. covers l q) e ∙ covers_append old more q ∙ or_left (covers old q) (covers more q) h

pub own_none : (o : Option Rect) (out : List Rect) → out ≡ [] → AreHeld 0 o out
own_none o out e q h = absurd (let f : false ≡ true = sym (ap (λ (l : List Rect). covers l q) e) ∙ h in let z : ⊥ = cc in z)

-- own squares lie in the hull
pub own_within : (o : Option Rect) (own set : List Rect) → HullIsSound o → AreHeld 0 o own → ((q : Square) → covers set q ≡ covers own q) → IsSetWithin (2 ^ 39) set
own_within None own set sound held same = λ q e. absurd (held q (sym (same q) ∙ e))
own_within (Some w) own set sound held same =
    set_within (2 ^ 39) w set (wider_rect (2 ^ 36) (2 ^ 39) w (omega arith) sound.near) (λ q e. (grown_none (Some w) q).0 (held q (sym (same q) ∙ e)))

pub held_behind : (n : ℕ) (o : Option Rect) (old own set wide new : List Rect) → AreHeld n o old → AreHeld 0 o own → All IsRect set → ((q : Square) → covers set q ≡ covers own q) → ((q : Square) → covers wide q ≡ covers (around n set) q)
    → new ≡ old ++ wide → AreHeld n o new
held_behind n o old own set wide new before here some same grows is q e = elim (or_cases (covers old q) (covers wide q) (sym (ap (λ l. covers l q) is ∙ covers_append old wide q) ∙ e)) [
  | inl h ↦ before q h
  | inr h ↦
      let z = covered_near n set q some (sym (grows q) ∙ h) in
      within_grown n o q z.0 ((grown_none o z.0).0 (here z.0 (sym (same z.0) ∙ z.1))) z.2
]

pub own_near : (n : ℕ) (d : Linked) (names : List LayerRule) (cell : ℕ) (old own set wide new : List Rect) → BringsOwn d cell names (length names) own → ((q : Square) → covers set q ≡ covers own q)
    → ((q : Square) → covers wide q ≡ covers (around n set) q) → new ≡ old ++ wide → HoldsOwn n d names cell new
own_near n d names cell old own set wide new brings same grows is name key named s q here near =
    let there : covers set s ≡ true = same s ∙ brings name key (slice_get_within names name named.0 named.1) named s here in
    ap (λ l. covers l q) is ∙ covers_append old wide q ∙ or_right (covers old q) (covers wide q) (grows q ∙ near_covered n set q s there (within_back n s q near))
