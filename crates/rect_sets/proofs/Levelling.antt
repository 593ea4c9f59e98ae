-- The blocks of a set, from those below a level line and those above it.
use Rattle.std.proofs.Common.{◌≡◌, inl, inr, ℤ, pos, ◌-ℤ◌, ◌≤ℤ◌, ◌<ℤ◌, List, [], ◌∷◌, ◌++◌, Bool, true, sym, ◌∙◌, subst, arith, int_lt, int_le}
use Rattle.base_laws.proofs.Tests.{same_truth, if_true, if_false, lt_to, le_to}
use Rattle.std.proofs.lemmas.Bool.{cases_Bool, or_left, or_right, or_cases}
use Rattle.std.proofs.lemmas.Int.{ints, by_lt_z}
use Rattle.std.proofs.lemmas.Bool.Decides.{Decides-int_eq}
use Rattle.std.specs.Ordering.{int_eq}
use Rattle.geo_base.specs.declared.shapes.Rect.{Rect}
use Rattle.geo_base.specs.declared.shapes.Square.{Square}
use Rattle.rect_sets.specs.Rects.{covers, IsRun, IsBlock, IsListed}
use Rattle.rect_sets.specs.Sweeps.{AreBlocks}
use Rattle.rect_sets.specs.Divided.{touches, kept, cut_off}
use Rattle.rect_sets.specs.Halves.{low_half, high_half}
use Rattle.rect_sets.specs.Levels.{HasRange, up_to, GoesOn, AreJoinedAcross}
use Rattle.rect_sets.specs.declared.cuts.Axis.TheVariants.{Y}
use Rattle.rect_sets.specs.declared.cuts.Cut.{Cut}
use Rattle.rect_sets.proofs.Blocking.{covers_listed, within_block}
use Rattle.rect_sets.proofs.Dividing.{and_one, cut_from, run_near, low_side, high_side, parted}
use Rattle.rect_sets.proofs.Splitting.{covers_append, covers_at, IsInside, inside_from, listed_either, run_to, shared, shared_block}

abbrev level_at : ℤ → Cut
level_at at = record { axis = Y; at = at }

abbrev below_line : (Square → Bool) → ℤ → Square → Bool
below_line set at = low_half set (level_at at)

abbrev above_line : (Square → Bool) → ℤ → Square → Bool
above_line set at = high_half set (level_at at)

-- each row is in one half, as it is in the set

low_run : (set : Square → Bool) (at y a b : ℤ) → y <ℤ at → IsRun (below_line set at) y a b → IsRun set y a b
low_run set at y a b lt h = run_near (below_line set at) set y a b (λ x l r. and_one (set (record { x = x; y = y })) (int_lt y at) (lt_to y at lt)) h

run_low : (set : Square → Bool) (at y a b : ℤ) → y <ℤ at → IsRun set y a b → IsRun (below_line set at) y a b
run_low set at y a b lt h = run_near set (below_line set at) y a b (λ x l r. sym (and_one (set (record { x = x; y = y })) (int_lt y at) (lt_to y at lt))) h

high_run : (set : Square → Bool) (at y a b : ℤ) → at ≤ℤ y → IsRun (above_line set at) y a b → IsRun set y a b
high_run set at y a b le h = run_near (above_line set at) set y a b (λ x l r. and_one (set (record { x = x; y = y })) (int_le at y) (le_to at y le)) h

run_high : (set : Square → Bool) (at y a b : ℤ) → at ≤ℤ y → IsRun set y a b → IsRun (above_line set at) y a b
run_high set at y a b le h = run_near set (above_line set at) y a b (λ x l r. sym (and_one (set (record { x = x; y = y })) (int_le at y) (le_to at y le))) h

-- what touches the line lies on it

low_top : (set : Square → Bool) (at : ℤ) (p : Rect) → IsBlock (below_line set at) p → touches (level_at at) p ≡ true → p.y2 ≡ at
low_top set at p h t =
    let side : p.y2 ≤ℤ at = low_side set Y at p h in
    let some = h.some in
    elim (or_cases (int_eq p.y1 at) (int_eq p.y2 at) t) [
      | inl e ↦ (let same = (Decides-int_eq p.y1 at).0 e in absurd (omega (arith, ints)))
      | inr e ↦ (Decides-int_eq p.y2 at).0 e
    ]

high_bottom : (set : Square → Bool) (at : ℤ) (q : Rect) → IsBlock (above_line set at) q → touches (level_at at) q ≡ true → q.y1 ≡ at
high_bottom set at q h t =
    let side : at ≤ℤ q.y1 = high_side set Y at q h in
    let some = h.some in
    elim (or_cases (int_eq q.y1 at) (int_eq q.y2 at) t) [
      | inl e ↦ (Decides-int_eq q.y1 at).0 e
      | inr e ↦ (let same = (Decides-int_eq q.y2 at).0 e in absurd (omega (arith, ints)))
    ]

cut_into : (cut : Cut) (rects : List Rect) (r : Rect) → IsListed r rects → touches cut r ≡ true → IsListed r (cut_off cut rects)
cut_into cut [] r h t = absurd h
cut_into cut (q ∷ rects) r (inl e) t =
    let u : touches cut q ≡ true = subst (λ (z : Rect). touches cut z ≡ true) e t in
    subst (λ (xs : List Rect). IsListed r xs) (sym (if_true (touches cut q) (q ∷ cut_off cut rects) (cut_off cut rects) u)) (inl e)
cut_into cut (q ∷ rects) r (inr h) t = elim (cases_Bool (touches cut q)) [
  | inl u ↦ subst (λ (xs : List Rect). IsListed r xs) (sym (if_true (touches cut q) (q ∷ cut_off cut rects) (cut_off cut rects) u)) (inr (cut_into cut rects r h t))
  | inr u ↦ subst (λ (xs : List Rect). IsListed r xs) (sym (if_false (touches cut q) (q ∷ cut_off cut rects) (cut_off cut rects) u)) (cut_into cut rects r h t)
]

-- a run of the row at the line is that of a block that touches it

run_above : (set : Square → Bool) (at : ℤ) (high : List Rect) (p : Rect) → AreBlocks (above_line set at) high → p.y2 ≡ at → IsRun set p.y2 p.x1 p.x2 → HasRange (cut_off (level_at at) high) p
run_above set at high p k top run =
    let h : IsRun (above_line set at) p.y2 p.x1 p.x2 = run_high set at p.y2 p.x1 p.x2 (omega (arith, ints)) run in
    let some = h.some in
    let s : Square = record { x = p.x1; y = p.y2 } in
    let l = covers_listed high s (k.same s ∙ h.inside p.x1 (omega (arith, ints)) some) in
    let i = inside_from l.one s l.inside in
    let i1 = i.y1 in
    let block = (k.each l.one).0 l.listed in
    let same = shared (above_line set at) p.y2 l.one.x1 l.one.x2 p.x1 p.x2 p.x1 (block.rows p.y2 i.y1 i.y2) h i.x1 i.x2 (omega (arith, ints)) some in
    let side : at ≤ℤ l.one.y1 = high_side set Y at l.one block in
    let bottom : l.one.y1 ≡ at = omega (arith, ints) in
    (l.one, record { listed = cut_into (level_at at) high l.one l.listed (or_left (int_eq l.one.y1 at) (int_eq l.one.y2 at) ((Decides-int_eq l.one.y1 at).1 bottom)); x1 = same.0; x2 = same.1 })

run_below : (set : Square → Bool) (at : ℤ) (low : List Rect) (q : Rect) → AreBlocks (below_line set at) low → q.y1 ≡ at → IsRun set (q.y1 -ℤ pos 1) q.x1 q.x2 → HasRange (cut_off (level_at at) low) q
run_below set at low q k bottom run =
    let y = q.y1 -ℤ pos 1 in
    let h : IsRun (below_line set at) y q.x1 q.x2 = run_low set at y q.x1 q.x2 (omega (arith, ints)) run in
    let some = h.some in
    let s : Square = record { x = q.x1; y = y } in
    let l = covers_listed low s (k.same s ∙ h.inside q.x1 (omega (arith, ints)) some) in
    let i = inside_from l.one s l.inside in
    let i2 = i.y2 in
    let block = (k.each l.one).0 l.listed in
    let same = shared (below_line set at) y l.one.x1 l.one.x2 q.x1 q.x2 q.x1 (block.rows y i.y1 i.y2) h i.x1 i.x2 (omega (arith, ints)) some in
    let side : l.one.y2 ≤ℤ at = low_side set Y at l.one block in
    let top : l.one.y2 ≡ at = omega (arith, ints) in
    (l.one, record { listed = cut_into (level_at at) low l.one l.listed (or_right (int_eq l.one.y1 at) (int_eq l.one.y2 at) ((Decides-int_eq l.one.y2 at).1 top)); x1 = same.0; x2 = same.1 })

-- blocks of the halves as blocks of the set

grown_block : (set : Square → Bool) (at : ℤ) (p q : Rect) → IsBlock (below_line set at) p → IsBlock (above_line set at) q → p.y2 ≡ at → q.y1 ≡ at → q.x1 ≡ p.x1 → q.x2 ≡ p.x2 → IsBlock set (up_to p q)
grown_block set at p q h k top bottom e f =
    let hs = h.some in let ks = k.some in
    record {
      some = omega (arith, ints);
      rows = λ y from to. by_lt_z y at
          (λ lt. low_run set at y p.x1 p.x2 lt (h.rows y from (omega (arith, ints))))
          (λ le. run_to set y q.x1 q.x2 p.x1 p.x2 e f (high_run set at y q.x1 q.x2 le (k.rows y (omega (arith, ints)) to)));
      below = λ run. h.below (run_low set at (p.y1 -ℤ pos 1) p.x1 p.x2 (omega (arith, ints)) run);
      above = λ run. k.above (run_high set at q.y2 q.x1 q.x2 (omega (arith, ints)) (run_to set q.y2 p.x1 p.x2 q.x1 q.x2 (sym e) (sym f) run));
    }

low_alone : (set : Square → Bool) (at : ℤ) (p : Rect) → IsBlock (below_line set at) p → p.y2 ≡ at → (IsRun set p.y2 p.x1 p.x2 → ⊥) → IsBlock set p
low_alone set at p h top none =
    let hs = h.some in
    record {
      some = h.some;
      rows = λ y from to. low_run set at y p.x1 p.x2 (omega (arith, ints)) (h.rows y from to);
      below = λ run. h.below (run_low set at (p.y1 -ℤ pos 1) p.x1 p.x2 (omega (arith, ints)) run);
      above = none;
    }

high_alone : (set : Square → Bool) (at : ℤ) (q : Rect) → IsBlock (above_line set at) q → q.y1 ≡ at → (IsRun set (q.y1 -ℤ pos 1) q.x1 q.x2 → ⊥) → IsBlock set q
high_alone set at q k bottom none =
    let ks = k.some in
    record {
      some = k.some;
      rows = λ y from to. high_run set at y q.x1 q.x2 (omega (arith, ints)) (k.rows y from to);
      below = none;
      above = λ run. k.above (run_high set at q.y2 q.x1 q.x2 (omega (arith, ints)) run);
    }

-- a rectangle that lies on the line is a block of its half

module _ (set : Square → Bool) (at : ℤ) (low high : List Rect) (h : AreBlocks (below_line set at) low) (k : AreBlocks (above_line set at) high) where
  abbrev touching_low : List Rect
  touching_low = cut_off (level_at at) low

  abbrev touching_high : List Rect
  touching_high = cut_off (level_at at) high

  low_of : (p : Rect) → IsListed p touching_low → IsBlock (below_line set at) p × (p.y2 ≡ at)
  low_of p l =
      let c = cut_from (level_at at) low p l in
      let b = (h.each p).0 c.0 in (b, low_top set at p b c.1)

  high_of : (q : Rect) → IsListed q touching_high → IsBlock (above_line set at) q × (q.y1 ≡ at)
  high_of q l =
      let c = cut_from (level_at at) high q l in
      let b = (k.each q).0 c.0 in (b, high_bottom set at q b c.1)

  grown_is : (p r : Rect) → IsListed p touching_low → GoesOn touching_high p r → IsBlock set r
  grown_is p r l (inl g) =
      let a = low_of p l in
      let b = high_of g.0 g.1.listed in
      subst (λ (z : Rect). IsBlock set z) (sym g.2) (grown_block set at p g.0 a.0 b.0 a.1 b.1 g.1.x1 g.1.x2)
  grown_is p r l (inr g) =
      let a = low_of p l in
      subst (λ (z : Rect). IsBlock set z) (sym g.1) (low_alone set at p a.0 a.1 (λ run. g.0 (run_above set at high p k a.1 run)))

  joined_is : (joined : List Rect) (r : Rect) → AreJoinedAcross touching_low touching_high joined → IsListed r joined → IsBlock set r
  joined_is joined r j l = elim (j.from r l) [
    | inl f ↦ grown_is f.one r f.listed f.is
    | inr n ↦ (let b = high_of r n.0 in high_alone set at r b.0 b.1 (λ run. n.1 (run_below set at low r h b.1 run)))
  ]

  -- the joined cover what touches the line

  covers_low : (joined : List Rect) (p r : Rect) (s : Square) → IsListed p touching_low → IsInside p s → IsListed r joined → GoesOn touching_high p r → covers joined s ≡ true
  covers_low joined p r s l i m (inl g) =
      let a = low_of p l in let b = high_of g.0 g.1.listed in
      let top = a.1 in let bottom = b.1 in let some = b.0.some in let i2 = i.y2 in
      covers_at joined (up_to p g.0) s.x s.y (subst (λ (z : Rect). IsListed z joined) g.2 m) i.x1 i.x2 i.y1 (omega (arith, ints))
  covers_low joined p r s l i m (inr g) = covers_at joined p s.x s.y (subst (λ (z : Rect). IsListed z joined) g.1 m) i.x1 i.x2 i.y1 i.y2

  covers_high : (joined : List Rect) (p q r : Rect) (s : Square) → IsListed p touching_low → IsListed q touching_high → p.x1 ≡ q.x1 → p.x2 ≡ q.x2 → IsInside q s → IsListed r joined → GoesOn touching_high p r → covers joined s ≡ true
  covers_high joined p q r s l n e f i m (inr g) = absurd (g.0 (q, record { listed = n; x1 = sym e; x2 = sym f }))
  covers_high joined p q r s l n e f i m (inl g) =
      let a = low_of p l in let b = high_of g.0 g.1.listed in let c = high_of q n in
      let top = a.1 in let bottom = b.1 in let own = c.1 in let hs = a.0.some in let some = b.0.some in let cs = c.0.some in
      let x1 = g.1.x1 in let x2 = g.1.x2 in
      let i1 = i.y1 in let ix1 = i.x1 in let ix2 = i.x2 in
      let corner : Square = record { x = s.x; y = at } in
      let same : q ≡ g.0 = shared_block (above_line set at) q g.0 corner c.0 b.0
      (record { x1 = i.x1; x2 = i.x2; y1 = omega (arith, ints); y2 = omega (arith, ints) })
      (record { x1 = omega (arith, ints); x2 = omega (arith, ints); y1 = omega (arith, ints); y2 = omega (arith, ints) }) in
      let end : s.y <ℤ g.0.y2 = subst (λ (z : Rect). s.y <ℤ z.y2) same i.y2 in
      covers_at joined (up_to p g.0) s.x s.y (subst (λ (z : Rect). IsListed z joined) g.2 m) (omega (arith, ints)) (omega (arith, ints)) (omega (arith, ints)) end

  covered : (joined : List Rect) (s : Square) → AreJoinedAcross touching_low touching_high joined → covers (touching_high ++ touching_low) s ≡ true → covers joined s ≡ true
  covered joined s j e = elim (or_cases (covers touching_high s) (covers touching_low s) (sym (covers_append touching_high touching_low s) ∙ e)) [
    | inl a ↦ (let l = covers_listed touching_high s a in let i = inside_from l.one s l.inside in
        elim (j.high l.one l.listed) [
          | inl n ↦ (let g = j.low n.0 n.1.listed in covers_high joined n.0 l.one g.one s n.1.listed l.listed n.1.x1 n.1.x2 i g.listed g.is)
          | inr n ↦ covers_at joined l.one s.x s.y n i.x1 i.x2 i.y1 i.y2
        ])
    | inr a ↦ (let l = covers_listed touching_low s a in let i = inside_from l.one s l.inside in
        let g = j.low l.one l.listed in covers_low joined l.one g.one s l.listed i g.listed g.is)
  ]

-- blocks that cover a set are all its blocks
blocks_covering : (set : Square → Bool) (rects : List Rect) → ((r : Rect) → IsListed r rects → IsBlock set r) → ((s : Square) → set s ≡ true → covers rects s ≡ true) → AreBlocks set rects
blocks_covering set rects are all = record {
  each = λ r. (
    are r,
    λ b.
        let some = b.some in
        let run = b.rows r.y1 (omega (arith, ints)) some in
        let wide = run.some in
        let s : Square = record { x = r.x1; y = r.y1 } in
        let l = covers_listed rects s (all s (run.inside r.x1 (omega (arith, ints)) wide)) in
        let same : l.one ≡ r = shared_block set l.one r s (are l.one l.listed) b (inside_from l.one s l.inside) (record { x1 = omega (arith, ints); x2 = wide; y1 = omega (arith, ints); y2 = some }) in
        subst (λ (z : Rect). IsListed z rects) same l.listed,
  );
  same = λ s. same_truth (covers rects s) (set s)
      (λ e. let l = covers_listed rects s e in within_block set l.one s (are l.one l.listed) l.inside)
      (all s);
}

pub levels : (set : Square → Bool) (at : ℤ) (low high joined : List Rect) → AreBlocks (below_line set at) low → AreBlocks (above_line set at) high → AreJoinedAcross (cut_off (level_at at) low) (cut_off (level_at at) high) joined → AreBlocks set ((kept (level_at at) high ++ kept (level_at at) low) ++ joined)
levels set at low high joined h k j =
    let done = kept (level_at at) high ++ kept (level_at at) low in
    let p = parted set (level_at at) low high h k in
    blocks_covering set (done ++ joined)
    (λ r l. elim (listed_either r done joined l) [ inl a ↦ p.blocks r a | inr a ↦ joined_is set at low high h k joined r j a ])
    (λ s e. covers_append done joined s ∙ elim (or_cases (covers done s) (covers (cut_off (level_at at) high ++ cut_off (level_at at) low) s) (sym (p.same s) ∙ e)) [
      | inl a ↦ or_left (covers done s) (covers joined s) a
      | inr a ↦ or_right (covers done s) (covers joined s) (covered set at low high h k joined s j a)
    ])
