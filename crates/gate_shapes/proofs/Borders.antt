-- The boundary edges of a part, side by side.
use Rattle.std.proofs.Common.{◌≡◌, ◌⊎◌, ◌↔◌, inl, inr, ℕ, ◌+◌, ℤ, List, Bool, true, false, ◌&&◌, ◌||◌, not, refl, sym, ◌∙◌, ap, subst, arith}
use Rattle.std.proofs.lemmas.Int.{ints}
use Rattle.std.proofs.lemmas.Bool.{false≢true, or_left, or_right, and_from, or_cases, and_parts}
use Rattle.geo_base.specs.Motions.{moved_square}
use Rattle.geo_base.specs.declared.motion.Motion.{Motion}
use Rattle.geo_base.specs.declared.motion.Turn.TheVariants.{R0}
use Rattle.geo_base.specs.declared.shapes.Rect.{Rect}
use Rattle.geo_base.specs.declared.shapes.Square.{Square}
use Rattle.rect_sets.specs.Rects.{covers}
use Rattle.flat_layout.specs.Parts.{Edge, IsBorderOf, IsWideOf, IsLongOf, Counts}
use Rattle.flat_layout.specs.Plane.{SharesEdge}
use Rattle.gate_shapes.specs.Borders.{step_x, step_y, behind, IsOnSide, IsFlank, IsBorder}
use Rattle.gate_shapes.specs.Sets.{in_set}
use Rattle.gate_shapes.specs.declared.border.Flank.{Flank}
use Rattle.gate_shapes.specs.declared.border.Side.{Side}
use Rattle.gate_shapes.specs.declared.border.Side.TheVariants.{Right, Up, Left, Down}
use Rattle.gate_shapes.proofs.Areas.{same_square}
use Rattle.gate_shapes.proofs.Counting.{counts_same, counts_or, counts_image}

abbrev shift : ℤ → ℤ → Motion
shift dx dy = record { turn = R0; dx = dx; dy = dy }

moved_behind : (side : Side) (dx dy : ℤ) (q : Square) → dx ≡ step_x side → dy ≡ step_y side → moved_square (shift dx dy) (behind side q) ≡ q
moved_behind side dx dy q ex ey = same_square (moved_square (shift dx dy) (behind side q)) q (omega (arith, ints, ex)) (omega (arith, ints, ey))

pub beside_law : (side : Side) (dx dy : ℤ) (part image out : List Rect) → dx ≡ step_x side → dy ≡ step_y side → ((s : Square) → covers image (moved_square (shift dx dy) s) ≡ covers part s)
    → ((s : Square) → covers out s ≡ (covers image s && not (covers part s))) → (q : Square) → covers out q ≡ (covers part (behind side q) && not (covers part q))
beside_law side dx dy part image out ex ey moves cut q =
    let here : covers image q ≡ covers part (behind side q) = ap (covers image) (sym (moved_behind side dx dy q ex ey)) ∙ moves (behind side q) in
    cut q ∙ ap (λ (b : Bool). b && not (covers part q)) here

pub not_true : (b : Bool) → not b ≡ true → b ≡ true → ⊥
not_true true e f = false≢true e
not_true false e f = false≢true f

pub from_not : (b : Bool) → (b ≡ true → ⊥) → not b ≡ true
from_not true h = absurd (h refl)
from_not false h = refl

pub behind_edge : (side : Side) (q : Square) → SharesEdge (behind side q) q
behind_edge Right q = inr (omega (arith, ints), inl (omega (arith, ints)))
behind_edge Up q = inl (omega (arith, ints), inl (omega (arith, ints)))
behind_edge Left q = inr (omega (arith, ints), inr (omega (arith, ints)))
behind_edge Down q = inl (omega (arith, ints), inr (omega (arith, ints)))

abbrev edge_at : Side → Square → Edge
edge_at side q = record { inner = behind side q; outer = q }

edge_is : (side : Side) (e : Edge) → IsOnSide side e → e ≡ edge_at side e.outer
edge_is side e h = ap (λ (v : Square). let x : Edge = record { inner = v; outer = e.outer } in x) h

module _ (side : Side) (part ends out : List Rect) (beside : (q : Square) → covers out q ≡ (covers part (behind side q) && not (covers part q))) where
  border_at : (q : Square) → covers out q ≡ true → IsBorderOf (in_set part) (edge_at side q)
  border_at q h =
      let p = and_parts (covers part (behind side q)) (not (covers part q)) (sym (beside q) ∙ h) in
      record { inside = p.0; outside = not_true (covers part q) p.1; edge = behind_edge side q }

  out_at : (q : Square) → IsBorderOf (in_set part) (edge_at side q) → covers out q ≡ true
  out_at q h = beside q ∙ and_from (covers part (behind side q)) (not (covers part q)) h.inside (from_not (covers part q) h.outside)

  module _ (touched : List Rect) (cut : (q : Square) → covers touched q ≡ (covers out q && covers ends q)) where
    wide_at : (q : Square) → in_set touched q → IsWideOf (in_set part) (in_set ends) (edge_at side q)
    wide_at q h = let p = and_parts (covers out q) (covers ends q) (sym (cut q) ∙ h) in record { border = border_at q p.0; sd = p.1 }

    touched_at : (q : Square) → IsWideOf (in_set part) (in_set ends) (edge_at side q) → in_set touched q
    touched_at q h = cut q ∙ and_from (covers out q) (covers ends q) (out_at q h.border) h.sd

    wide_same : (e : Edge) → ((q : Square) × in_set touched q × (e ≡ edge_at side q)) ↔ (IsWideOf (in_set part) (in_set ends) e × IsOnSide side e)
    wide_same e = (
      (λ h. subst (λ (x : Edge). IsWideOf (in_set part) (in_set ends) x × IsOnSide side x) (sym h.2) (wide_at h.0 h.1, refl)),
      (λ h. let is = edge_is side e h.1 in (e.outer, touched_at e.outer (subst (λ (x : Edge). IsWideOf (in_set part) (in_set ends) x) is h.0), is)),
    )

    touched_same : (q : Square) → in_set touched q ↔ ((e : Edge) × IsWideOf (in_set part) (in_set ends) e × IsOnSide side e × (e.outer ≡ q))
    touched_same q = (
      (λ h. (edge_at side q, wide_at q h, refl, refl)),
      (λ h. let t = (wide_same h.0).1 (h.1, h.2) in subst (λ (s : Square). in_set touched s) (sym (ap (λ (x : Edge). x.outer) t.2) ∙ h.3) t.1),
    )

  module _ (others : List Rect) (cut : (q : Square) → covers others q ≡ (covers out q && not (covers ends q))) where
    long_same : (e : Edge) → ((q : Square) × in_set others q × (e ≡ edge_at side q)) ↔ (IsLongOf (in_set part) (in_set ends) e × IsOnSide side e)
    long_same e = (
      (λ h.
          let p = and_parts (covers out h.0) (not (covers ends h.0)) (sym (cut h.0) ∙ h.1) in
          let here : IsLongOf (in_set part) (in_set ends) (edge_at side h.0) = record { border = border_at h.0 p.0; other = not_true (covers ends h.0) p.1 } in
          subst (λ (x : Edge). IsLongOf (in_set part) (in_set ends) x × IsOnSide side x) (sym h.2) (here, refl)),
      (λ h.
          let is = edge_is side e h.1 in
          let g = subst (λ (x : Edge). IsLongOf (in_set part) (in_set ends) x) is h.0 in
          (e.outer, cut e.outer ∙ and_from (covers out e.outer) (not (covers ends e.outer)) (out_at e.outer g.border) (from_not (covers ends e.outer) g.other), is)),
    )

pub flank_law : (side : Side) (part ends out touched others : List Rect) (wide long : ℕ) → ((q : Square) → covers out q ≡ (covers part (behind side q) && not (covers part q)))
    → ((q : Square) → covers touched q ≡ (covers out q && covers ends q)) → ((q : Square) → covers others q ≡ (covers out q && not (covers ends q)))
    → Counts (in_set touched) wide → Counts (in_set others) long → IsFlank part ends side (record { wide = wide; long = long; touched = touched })
flank_law side part ends out touched others wide long beside cut rest c d = record {
  wide = counts_same (λ e. (q : Square) × in_set touched q × (e ≡ edge_at side q)) (λ e. IsWideOf (in_set part) (in_set ends) e × IsOnSide side e) wide (wide_same side part ends out beside touched cut)
      (counts_image (edge_at side) (λ a b e. ap (λ (x : Edge). x.outer) e) (in_set touched) wide c);
  long = counts_same (λ e. (q : Square) × in_set others q × (e ≡ edge_at side q)) (λ e. IsLongOf (in_set part) (in_set ends) e × IsOnSide side e) long (long_same side part ends out beside others rest)
      (counts_image (edge_at side) (λ a b e. ap (λ (x : Edge). x.outer) e) (in_set others) long d);
  touched = touched_same side part ends out beside touched cut;
}

-- each edge lies on one side

side_of : (p q : Square) → SharesEdge p q → (side : Side) × (p ≡ behind side q)
side_of p q (inl (e, inl f)) = (Up, same_square p (behind Up q) (omega (arith, ints)) (omega (arith, ints)))
side_of p q (inl (e, inr f)) = (Down, same_square p (behind Down q) (omega (arith, ints)) (omega (arith, ints)))
side_of p q (inr (e, inl f)) = (Right, same_square p (behind Right q) (omega (arith, ints)) (omega (arith, ints)))
side_of p q (inr (e, inr f)) = (Left, same_square p (behind Left q) (omega (arith, ints)) (omega (arith, ints)))

module _ (q : Square) where
  by_x : (s t : Side) → behind s q ≡ behind t q → step_x s ≡ step_x t
  by_x s t e = let f = ap (λ (p : Square). p.x) e in omega (arith, ints, f)

  by_y : (s t : Side) → behind s q ≡ behind t q → step_y s ≡ step_y t
  by_y s t e = let f = ap (λ (p : Square). p.y) e in omega (arith, ints, f)

-- of a fact that each edge on a side has, the four counts add up
pub four_counts : (P : Edge → Type 0) → ((e : Edge) → P e → SharesEdge e.inner e.outer) → (a b c d : ℕ)
    → Counts (λ e. P e × IsOnSide Right e) a → Counts (λ e. P e × IsOnSide Up e) b → Counts (λ e. P e × IsOnSide Left e) c → Counts (λ e. P e × IsOnSide Down e) d → (n : ℕ) → ((a + b) + c) + d ≡ n → Counts P n
four_counts P shares a b c d ca cb cc' cd n sum =
    let R : Edge → Type 0 = λ e. P e × IsOnSide Right e in
    let U : Edge → Type 0 = λ e. P e × IsOnSide Up e in
    let L : Edge → Type 0 = λ e. P e × IsOnSide Left e in
    let D : Edge → Type 0 = λ e. P e × IsOnSide Down e in
    let two = counts_or R U a b (a + b) refl (λ e h g. let f = by_x e.outer Right Up (sym h.1 ∙ g.1) in absurd (omega (arith, ints, f))) ca cb in
    let three = counts_or (λ e. R e ⊎ U e) L (a + b) c ((a + b) + c) refl
    (λ e h g. elim h [
      | inl k ↦ (let f = by_x e.outer Right Left (sym k.1 ∙ g.1) in absurd (omega (arith, ints, f)))
      | inr k ↦ (let f = by_x e.outer Up Left (sym k.1 ∙ g.1) in absurd (omega (arith, ints, f)))
    ]) two cc' in
    let four = counts_or (λ e. (R e ⊎ U e) ⊎ L e) D ((a + b) + c) d n sum
    (λ e h g. elim h [
      | inl i ↦ elim i [
        | inl k ↦ (let f = by_x e.outer Right Down (sym k.1 ∙ g.1) in absurd (omega (arith, ints, f)))
        | inr k ↦ (let f = by_y e.outer Up Down (sym k.1 ∙ g.1) in absurd (omega (arith, ints, f)))
      ]
      | inr k ↦ (let f = by_x e.outer Left Down (sym k.1 ∙ g.1) in absurd (omega (arith, ints, f)))
    ]) three cd in
    counts_same (λ e. ((R e ⊎ U e) ⊎ L e) ⊎ D e) P n
    (λ e. (
      (λ h. elim h [ inl i ↦ elim i [ inl j ↦ elim j [ inl k ↦ k.0 | inr k ↦ k.0 ] | inr k ↦ k.0 ] | inr k ↦ k.0 ]),
      (λ p. placed P e p (side_of e.inner e.outer (shares e p))),
    ))
    four
  where
    placed : (P : Edge → Type 0) (e : Edge) → P e → (side : Side) × (e.inner ≡ behind side e.outer) → (((P e × IsOnSide Right e) ⊎ (P e × IsOnSide Up e)) ⊎ (P e × IsOnSide Left e)) ⊎ (P e × IsOnSide Down e)
    placed P e p (Right, h) = inl (inl (inl (p, h)))
    placed P e p (Up, h) = inl (inl (inr (p, h)))
    placed P e p (Left, h) = inl (inr (p, h))
    placed P e p (Down, h) = inr (p, h)

pub border_law : (part ends touched : List Rect) (r u l d : Flank) (wide long : ℕ) → IsFlank part ends Right r → IsFlank part ends Up u → IsFlank part ends Left l → IsFlank part ends Down d
    → ((r.wide + u.wide) + l.wide) + d.wide ≡ wide → ((r.long + u.long) + l.long) + d.long ≡ long
    → ((q : Square) → in_set touched q ↔ (((in_set r.touched q ⊎ in_set u.touched q) ⊎ in_set l.touched q) ⊎ in_set d.touched q))
    → IsBorder part ends (record { wide = wide; long = long; touched = touched })
border_law part ends touched r u l d wide long fr fu fl fd ew el same = record {
  wide = four_counts (IsWideOf (in_set part) (in_set ends)) (λ e h. h.border.edge) r.wide u.wide l.wide d.wide fr.wide fu.wide fl.wide fd.wide wide ew;
  long = four_counts (IsLongOf (in_set part) (in_set ends)) (λ e h. h.border.edge) r.long u.long l.long d.long fr.long fu.long fl.long fd.long long el;
  touched = λ q. (
    (λ h. elim ((same q).0 h) [
      | inl i ↦ elim i [
        | inl j ↦ elim j [
          | inl k ↦ (let x = (fr.touched q).0 k in (x.0, x.1, x.3))
          | inr k ↦ (let x = (fu.touched q).0 k in (x.0, x.1, x.3))
        ]
        | inr k ↦ (let x = (fl.touched q).0 k in (x.0, x.1, x.3))
      ]
      | inr k ↦ (let x = (fd.touched q).0 k in (x.0, x.1, x.3))
    ]),
    (λ h. (same q).1 (on q h (side_of h.0.inner h.0.outer h.1.border.edge))),
  );
}
  where
    on : (q : Square) (h : (e : Edge) × IsWideOf (in_set part) (in_set ends) e × (e.outer ≡ q)) → (side : Side) × (h.0.inner ≡ behind side h.0.outer)
        → ((in_set r.touched q ⊎ in_set u.touched q) ⊎ in_set l.touched q) ⊎ in_set d.touched q
    on q h (Right, g) = inl (inl (inl ((fr.touched q).1 (h.0, h.1, g, h.2))))
    on q h (Up, g) = inl (inl (inr ((fu.touched q).1 (h.0, h.1, g, h.2))))
    on q h (Left, g) = inl (inr ((fl.touched q).1 (h.0, h.1, g, h.2)))
    on q h (Down, g) = inr ((fd.touched q).1 (h.0, h.1, g, h.2))

pub from_or : (a b c d r : List Rect) → ((q : Square) → covers r q ≡ (((covers a q || covers b q) || covers c q) || covers d q)) → (q : Square) → in_set r q ↔ (((in_set a q ⊎ in_set b q) ⊎ in_set c q) ⊎ in_set d q)
from_or a b c d r h q = (
  (λ e. elim (or_cases ((covers a q || covers b q) || covers c q) (covers d q) (sym (h q) ∙ e)) [
    | inl f ↦ elim (or_cases (covers a q || covers b q) (covers c q) f) [
      | inl g ↦ inl (inl (or_cases (covers a q) (covers b q) g))
      | inr g ↦ inl (inr g)
    ]
    | inr f ↦ inr f
  ]),
  (λ e. h q ∙ elim e [
    | inl f ↦ or_left ((covers a q || covers b q) || covers c q) (covers d q) (elim f [
      | inl g ↦ or_left (covers a q || covers b q) (covers c q) (elim g [ inl k ↦ or_left (covers a q) (covers b q) k | inr k ↦ or_right (covers a q) (covers b q) k ])
      | inr g ↦ or_right (covers a q || covers b q) (covers c q) g
    ])
    | inr f ↦ or_right ((covers a q || covers b q) || covers c q) (covers d q) f
  ]),
)
