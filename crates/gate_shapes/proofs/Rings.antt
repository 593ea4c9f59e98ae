-- The squares around a set.
use Rattle.std.proofs.Common.{◌≡◌, ◌↔◌, inl, inr, ℕ, ◌+◌, ◌<◌, ℤ, pos, ◌+ℤ◌, ◌-ℤ◌, ◌≤ℤ◌, ◌<ℤ◌, List, [], ◌∷◌, ◌++◌, true, ◌&&◌, not, map, length, get_or, take, refl, sym, ◌∙◌, ap, subst, arith}
use Rattle.std.proofs.lemmas.Bool.{and_from, and_parts}
use Rattle.std.proofs.lemmas.Int.{ints, by_lt_z}
use Rattle.std.proofs.lemmas.List.{take_more}
use Rattle.std.specs.List.{All}
use Rattle.geo_base.specs.Rects.{has, IsRect}
use Rattle.geo_base.specs.declared.shapes.Rect.{Rect}
use Rattle.geo_base.specs.declared.shapes.Square.{Square}
use Rattle.rect_sets.specs.Rects.{covers, IsListed, IsCanonical}
use Rattle.rect_sets.proofs.Blocking.{listed_covers, covers_listed}
use Rattle.rect_sets.proofs.Splitting.{inside_from}
use Rattle.rect_sets.proofs.Unique.{all_rects, rect_of}
use Rattle.flat_layout.specs.Parts.{IsCloseTo, InSideOf}
use Rattle.gate_shapes.specs.Borders.{grown_rect}
use Rattle.gate_shapes.specs.Sets.{in_set}
use Rattle.gate_shapes.proofs.Areas.{inside_has}
use Rattle.gate_shapes.proofs.Borders.{not_true, from_not}

listed_grown : (r : Rect) (rects : List Rect) → IsListed r rects → IsListed (grown_rect r) (map grown_rect rects)
listed_grown r [] l = l
listed_grown r (s ∷ rects) (inl e) = inl (ap grown_rect e)
listed_grown r (s ∷ rects) (inr l) = inr (listed_grown r rects l)

grown_listed : (g : Rect) (rects : List Rect) → IsListed g (map grown_rect rects) → (r : Rect) × IsListed r rects × (g ≡ grown_rect r)
grown_listed g [] l = absurd l
grown_listed g (s ∷ rects) (inl e) = (s, inl refl, e)
grown_listed g (s ∷ rects) (inr l) = let r = grown_listed g rects l in (r.0, inr r.1, r.2)

-- of a range, a number within one of x
record IsNext (a b x v : ℤ) : Type 0 where
  low : a ≤ℤ v
  high : v <ℤ b
  left : x ≤ℤ (v +ℤ pos 1)
  right : v ≤ℤ (x +ℤ pos 1)

next_in : (a b x : ℤ) → a <ℤ b → (a -ℤ pos 1) ≤ℤ x → x <ℤ (b +ℤ pos 1) → (v : ℤ) × IsNext a b x v
next_in a b x lt low high =
    by_lt_z x a
    (λ below. (a, record { low = omega (arith, ints); high = lt; left = omega (arith, ints); right = omega (arith, ints) }))
    (λ from. by_lt_z x b
    (λ before. (x, record { low = from; high = before; left = omega (arith, ints); right = omega (arith, ints) }))
    (λ past. (b -ℤ pos 1, record { low = omega (arith, ints); high = omega (arith, ints); left = omega (arith, ints); right = omega (arith, ints) })))

pub close_same : (rects : List Rect) → ((r : Rect) → IsListed r rects → IsRect r) → (q : Square) → (covers (map grown_rect rects) q ≡ true) ↔ IsCloseTo (in_set rects) q
close_same rects good q = (
  (λ e.
      let g = covers_listed (map grown_rect rects) q e in
      let r = grown_listed g.one rects g.listed in
      let i = inside_from (grown_rect r.0) q (subst (λ (s : Rect). has s q ≡ true) r.2 g.inside) in
      let fits = good r.0 r.1 in
      let x = next_in r.0.x1 r.0.x2 q.x fits.wide i.x1 i.x2 in
      let y = next_in r.0.y1 r.0.y2 q.y fits.high i.y1 i.y2 in
      let p : Square = record { x = x.0; y = y.0 } in
      record {
        square = p;
        in_part = listed_covers rects p r.0 r.1 (inside_has r.0 p (record { x1 = x.1.low; x2 = x.1.high; y1 = y.1.low; y2 = y.1.high }));
        around = record { left = x.1.left; right = x.1.right; low = y.1.left; high = y.1.right };
      }),
  (λ h.
      let r = covers_listed rects h.square h.in_part in
      let i = inside_from r.one h.square r.inside in
      let a = h.around in
      let x1 = i.x1 in let x2 = i.x2 in let y1 = i.y1 in let y2 = i.y2 in
      let l = a.left in let t = a.right in let o = a.low in let g = a.high in
      listed_covers (map grown_rect rects) q (grown_rect r.one) (listed_grown r.one rects r.listed)
      (inside_has (grown_rect r.one) q (record { x1 = omega (arith, ints); x2 = omega (arith, ints); y1 = omega (arith, ints); y2 = omega (arith, ints) }))),
)

listed_rects : (rects : List Rect) → IsCanonical rects → (r : Rect) → IsListed r rects → IsRect r
listed_rects rects h r l = rect_of (covers rects) r ((h.each r).0 l)

pub grown_rects : (rects : List Rect) → IsCanonical rects → All IsRect (map grown_rect rects)
grown_rects rects h = all_rects (map grown_rect rects) (λ g l.
    let r = grown_listed g rects l in
    let fits = listed_rects rects h r.0 r.1 in
    let w = fits.wide in let t = fits.high in
    subst (λ (s : Rect). IsRect s) (sym r.2) (record { wide = omega (arith, ints); high = omega (arith, ints) }))

pub sides_law : (part ends near sides : List Rect) → IsCanonical part → ((q : Square) → covers near q ≡ (covers (map grown_rect part) q && covers ends q)) → ((q : Square) → covers sides q ≡ (covers near q && not (covers part q)))
    → (q : Square) → in_set sides q ↔ InSideOf (in_set part) (in_set ends) q
sides_law part ends near sides good cut rest q = (
  (λ e.
      let p = and_parts (covers near q) (not (covers part q)) (sym (rest q) ∙ e) in
      let n = and_parts (covers (map grown_rect part) q) (covers ends q) (sym (cut q) ∙ p.0) in
      record { ring = record { close = (close_same part (listed_rects part good) q).0 n.0; outside = not_true (covers part q) p.1 }; sd = n.1 }),
  (λ h.
      rest q ∙ and_from (covers near q) (not (covers part q))
      (cut q ∙ and_from (covers (map grown_rect part) q) (covers ends q) ((close_same part (listed_rects part good) q).1 h.ring.close) h.sd)
      (from_not (covers part q) h.ring.outside)),
)

map_push : (xs : List Rect) (r : Rect) → map grown_rect (xs ++ r ∷ []) ≡ map grown_rect xs ++ grown_rect r ∷ []
map_push [] r = refl
map_push (x ∷ xs) r = ap (λ (l : List Rect). grown_rect x ∷ l) (map_push xs r)

pub grown_more : (rects : List Rect) (i : ℕ) (d : Rect) (out : List Rect) → i < length rects → out ≡ map grown_rect (take i rects) → out ++ grown_rect (get_or rects i d) ∷ [] ≡ map grown_rect (take (i + 1) rects)
grown_more rects i d out lt h = ap (λ (l : List Rect). l ++ grown_rect (get_or rects i d) ∷ []) h ∙ sym (map_push (take i rects) (get_or rects i d)) ∙ ap (map grown_rect) (sym (take_more rects i d lt))
