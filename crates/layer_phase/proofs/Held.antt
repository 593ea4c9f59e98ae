-- Rectangles that a hull holds.
use Rattle.std.proofs.Common.{◌≡◌, inl, inr, ℕ, zero, suc, ◌<◌, ◌+◌, ◌^◌, pos, ◌-ℤ◌, true, false, ◌&&◌, List, [], ◌∷◌, ◌++◌, Option, Some, slice_get, slice_index_or, length, sym, ◌∙◌, ap, subst, arith}
use Rattle.std.proofs.lemmas.Bool.{and_parts, or_cases, or_left, or_right}
use Rattle.std.specs.List.{All}
use Rattle.std.proofs.Math.Decide.{ℕ_discrete}
use Rattle.std.proofs.lemmas.Int.{ints}
use Rattle.geo_base.specs.Near.{IsNearRect}
use Rattle.geo_base.specs.Rects.{has, IsRect}
use Rattle.geo_base.specs.declared.layer.LayerKey.{LayerKey}
use Rattle.geo_base.specs.declared.shapes.Rect.{Rect}
use Rattle.geo_base.specs.declared.shapes.Square.{Square}
use Rattle.rect_sets.specs.Rects.{covers}
use Rattle.cell_graph.specs.Grown.{IsInGrown}
use Rattle.cell_graph.specs.Linked.{Linked, IsSound, IsFrame, IsRectWithin, HullHas, hull_of, cell_at, own_of}
use Rattle.cell_graph.proofs.Bridge.{in_has, inside_has, own_in_hull}
use Rattle.cell_graph.proofs.Growing.{grown_none, wider_grown}
use Rattle.cell_context.specs.Over.{IsPiece}
use Rattle.cell_context.proofs.Collecting.{covers_append}
use Rattle.cell_context.proofs.Visiting.{inside_from, within_inside, near_rect, wider_rect}
use Rattle.sized_layers.specs.Sizes.{IsSetWithin, IsSquareWithin}
use Rattle.rule_text.specs.declared.rules.LayerForm.TheVariants as form
use Rattle.rule_text.specs.declared.rules.LayerRule.{LayerRule}
use Rattle.layer_phase.specs.Looks.{AreHeld, AreNear, IsInput}

pub listed_has : (rects : List Rect) (k : ℕ) (r : Rect) (q : Square) → k < length rects → has (slice_index_or rects k r) q ≡ true → covers rects q ≡ true
listed_has [] k r q lt e = absurd (let z : ⊥ = omega arith in z)
listed_has (x ∷ xs) zero r q lt e = or_left (has x q) (covers xs q) e
listed_has (x ∷ xs) (suc k) r q lt e = or_right (has x q) (covers xs q) (listed_has xs k r q (omega arith) e)

-- pieces of a window lie in it
pub held_pieces : (w : Rect) (rs : List Rect) → All (IsPiece w) rs → (q : Square) → covers rs q ≡ true → has w q ≡ true
held_pieces w [] h q e = let f : false ≡ true = e in absurd (let z : ⊥ = cc in z)
held_pieces w (x ∷ xs) h q e = elim (or_cases (has x q) (covers xs q) e) [
  | inl f ↦ inside_has x w q (h 0 x (omega arith)).inside f
  | inr f ↦ held_pieces w xs (λ k d lt. h (suc k) d (omega arith)) q f
]

within : (w : Rect) (rs : List Rect) → IsFrame w → All IsRect rs → ((q : Square) → covers rs q ≡ true → has w q ≡ true) → AreNear rs
within w rs hull some h = λ k r lt.
    let x = slice_index_or rs k r in
    within_inside (2 ^ 39) x w (some k r lt) (inside_from x w (some k r lt) (λ q e. h q (listed_has rs k r q lt e))) (wider_rect (2 ^ 37) (2 ^ 39) w (omega arith) hull.near)

-- the corners of a rectangle tell how far it reaches
corners : (m : ℕ) (r : Rect) → IsRect r → ((q : Square) → has r q ≡ true → IsSquareWithin m q) → IsRectWithin m r
corners m r some h =
    let wide = some.wide in let high = some.high in
    let low : Square = record { x = r.x1; y = r.y1 } in
    let top : Square = record { x = r.x2 -ℤ pos 1; y = r.y2 -ℤ pos 1 } in
    let a = h low (in_has r low ((omega (arith, ints)), (omega (arith, ints)), (omega (arith, ints)), (omega (arith, ints)))) in
    let b = h top (in_has r top ((omega (arith, ints)), (omega (arith, ints)), (omega (arith, ints)), (omega (arith, ints)))) in
    let a1 = a.left in let a2 = a.right in let a3 = a.low in let a4 = a.high in
    let b1 = b.left in let b2 = b.right in let b3 = b.low in let b4 = b.high in
    record {
      x1 = record { low = omega (arith, ints); high = omega (arith, ints) };
      y1 = record { low = omega (arith, ints); high = omega (arith, ints) };
      x2 = record { low = omega (arith, ints); high = omega (arith, ints) };
      y2 = record { low = omega (arith, ints); high = omega (arith, ints) };
    }

-- the rectangles of a set reach no further than its squares
pub rects_within : (m : ℕ) (rs : List Rect) → All IsRect rs → IsSetWithin m rs → All (IsRectWithin m) rs
rects_within m rs some h = λ k r lt. corners m (slice_index_or rs k r) (some k r lt) (λ q e. h q (listed_has rs k r q lt e))

-- a hull's square lies in the grown hull
pub in_grown : (n : ℕ) (o : Option Rect) (q : Square) → HullHas o q → IsInGrown n o q
in_grown n o q h = wider_grown 0 n o q (omega arith) ((grown_none o q).1 h)

-- the part of a set in a frame is near
pub part_near : (w : Rect) (zone part : List Rect) → IsFrame w → All IsRect part → ((s : Square) → covers part s ≡ (covers zone s && has w s)) → All IsNearRect part
part_near w zone part hull some is =
    let near = within w part hull some (λ q e. (and_parts (covers zone q) (has w q) (sym (is q) ∙ e)).1) in λ k r lt. near_rect (slice_index_or part k r) (near k r lt)

-- own squares behind others
pub own_held : (n : ℕ) (d : Linked) (cell : ℕ) (key : LayerKey) (old new : List Rect) → IsSound d → new ≡ old ++ own_of (cell_at d cell) key → AreHeld n (hull_of (cell_at d cell)) old → AreHeld n (hull_of (cell_at d cell)) new
own_held n d cell key old new sound e held q f = elim (or_cases (covers old q) (covers (own_of (cell_at d cell) key) q) (sym (ap (λ l. covers l q) e ∙ covers_append old (own_of (cell_at d cell) key) q) ∙ f)) [
  | inl g ↦ held q g
  | inr g ↦ in_grown n (hull_of (cell_at d cell)) q (own_in_hull d cell key q sound g)
]

one_rule : (o : Option LayerRule) (a b : LayerRule) → o ≡ Some a → o ≡ Some b → a ≡ b
one_rule o a b e f = let g : Some a ≡ Some b = sym e ∙ f in cc

-- what holds of the first input layers, one name on
pub inputs_more : (names : List LayerRule) (i : ℕ) (rule : LayerRule) (P : ℕ → LayerKey → Type 0) → slice_get names i ≡ Some rule
    → ((name : ℕ) (key : LayerKey) → name < i → IsInput names name key → P name key) → ((key : LayerKey) → rule.form ≡ form.Input key → P i key)
    → (name : ℕ) (key : LayerKey) → name < i + 1 → IsInput names name key → P name key
inputs_more names i rule P at had here name key lt is = elim (ℕ_discrete name i) [
  | yes e ↦
      let same : is.0 ≡ rule = one_rule (slice_get names i) is.0 rule (subst (λ n. slice_get names n ≡ Some is.0) e is.1) at in
      subst (λ n. P n key) (sym e) (here key (ap (λ (r : LayerRule). r.form) (sym same) ∙ is.2))
  | no n ↦ had name key (omega arith) is
]
