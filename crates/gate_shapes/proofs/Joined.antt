-- Squares are joined exactly where the rectangles that have them are linked.
use Rattle.std.proofs.Common.{◌≡◌, ◌⊎◌, inl, inr, ℕ, zero, suc, ℤ, pos, negsuc, ◌+ℤ◌, ◌-ℤ◌, ◌≤ℤ◌, ◌<ℤ◌, List, [], ◌∷◌, Some, refl, sym, ◌∙◌, subst, arith}
use Rattle.std.specs.Prelude.{slice_get}
use Rattle.std.proofs.lemmas.Int.{ints, by_lt_z}
use Rattle.geo_base.specs.declared.shapes.Rect.{Rect}
use Rattle.geo_base.specs.declared.shapes.Square.{Square}
use Rattle.link_classes.specs.Classes.{IsOf, IsLinked}
use Rattle.link_classes.specs.declared.classes.Link.{Link}
use Rattle.plain_netlist.specs.Chains.{IsChain, Reaches}
use Rattle.plain_netlist.proofs.Links.{stays, single, prepend, both, back, along}
use Rattle.rect_sets.specs.Rects.{covers, IsListed, IsBlock, IsCanonical}
use Rattle.rect_sets.proofs.Blocking.{listed_covers, covers_listed}
use Rattle.rect_sets.proofs.Splitting.{IsInside, inside_from, shared_block}
use Rattle.flat_layout.specs.Parts.{Joint, Edges, Corners, IsJoint, AreAdjacent, IsStep}
use Rattle.flat_layout.specs.Plane.{SharesEdge, IsAround}
use Rattle.flat_laws.proofs.Joints.{adjacent_back, joint_around, joint_back}
use Rattle.flat_laws.proofs.Moves.{edge_around}
use Rattle.gate_shapes.specs.Contacts.{IsUpTo, IsOver, IsContact, AreContacts}
use Rattle.gate_shapes.specs.Sets.{in_set}
use Rattle.gate_shapes.proofs.Areas.{same_square, inside_has}
use Rattle.gate_shapes.proofs.Touching.{listed_at, place_of, one_place, row_apart}

pub step_back : (S : Square → Type 0) (p q : Square) → IsStep S p q → IsStep S q p
step_back S p q h = adjacent_back Edges S p q h

of_back : (l : Link) (i j : ℕ) → IsOf l i j → IsOf l j i
of_back l i j (inl p) = inr p
of_back l i j (inr p) = inl p

linked_back : (ls : List Link) (i j : ℕ) → IsLinked ls i j → IsLinked ls j i
linked_back [] i j h = h
linked_back (l ∷ ls) i j (inl h) = inl (of_back l i j h)
linked_back (l ∷ ls) i j (inr h) = inr (linked_back ls i j h)

how_far : (a b : ℤ) → a ≤ℤ b → (n : ℕ) × ((a +ℤ pos n) ≡ b)
how_far a b h = let p = natural (b -ℤ a) (omega (arith, ints)) in (p.0, let e = p.1 in omega (arith, ints))
  where
    natural : (z : ℤ) → pos 0 ≤ℤ z → (n : ℕ) × (pos n ≡ z)
    natural (pos n) h = (n, refl)
    natural (negsuc n) h = absurd (omega (arith, ints))

-- squares that share an edge are joined
joint_of_edge : (j : Joint) (p q : Square) → SharesEdge p q → IsJoint j p q
joint_of_edge Edges p q h = h
joint_of_edge Corners p q h = edge_around p q h

-- columns of joined squares, the one square above the other
abbrev IsBetween : Joint → ℤ → ℤ → Type 0
IsBetween Edges a b = a ≡ b
IsBetween Corners a b = (b ≤ℤ (a +ℤ pos 1)) × (a ≤ℤ (b +ℤ pos 1))

above : (j : Joint) (a b c d : ℤ) → IsBetween j a b → c +ℤ pos 1 ≡ d → IsJoint j (record { x = a; y = c }) (record { x = b; y = d })
above Edges a b c d same up = inl (same, inl up)
above Corners a b c d same up = record { left = same.0; right = same.1; low = omega (arith, ints); high = omega (arith, ints) }

-- numbers of two ranges that are one, or one beside the other
record AreClose (j : Joint) (a b c d : ℤ) : Type 0 where
  one : ℤ
  other : ℤ
  one_from : a ≤ℤ one
  one_to : one <ℤ b
  other_from : c ≤ℤ other
  other_to : other <ℤ d
  same : IsBetween j one other

close_in : (j : Joint) (a b c d : ℤ) → a <ℤ b → c <ℤ d → IsUpTo j a d → IsUpTo j c b → AreClose j a b c d
close_in Edges a b c d w v left right = by_lt_z a c
    (λ lt. record { one = c; other = c; one_from = omega (arith, ints); one_to = right; other_from = omega (arith, ints); other_to = v; same = refl })
    (λ le. record { one = a; other = a; one_from = omega (arith, ints); one_to = w; other_from = le; other_to = left; same = refl })
close_in Corners a b c d w v left right = by_lt_z a d
    (λ one. by_lt_z c b
    (λ two. by_lt_z a c
    (λ lt. record { one = c; other = c; one_from = omega (arith, ints); one_to = two; other_from = omega (arith, ints); other_to = v; same = (omega (arith, ints), omega (arith, ints)) })
    (λ le. record { one = a; other = a; one_from = omega (arith, ints); one_to = w; other_from = le; other_to = one; same = (omega (arith, ints), omega (arith, ints)) }))
    (λ two. record { one = b -ℤ pos 1; other = c; one_from = omega (arith, ints); one_to = omega (arith, ints); other_from = omega (arith, ints); other_to = v; same = (omega (arith, ints), omega (arith, ints)) }))
    (λ one. record { one = a; other = d -ℤ pos 1; one_from = omega (arith, ints); one_to = w; other_from = omega (arith, ints); other_to = omega (arith, ints); same = (omega (arith, ints), omega (arith, ints)) })

-- columns of joined squares in rectangles that have them
up_to : (j : Joint) (p q : Square) (a b : ℤ) → IsJoint j p q → p.y <ℤ q.y → a ≤ℤ p.x → q.x <ℤ b → IsUpTo j a b
up_to Edges p q a b (inl (same, beside)) lt from to = omega (arith, ints)
up_to Edges p q a b (inr (same, beside)) lt from to = absurd (omega (arith, ints))
up_to Corners p q a b h lt from to = let l = h.right in omega (arith, ints)

up_back : (j : Joint) (p q : Square) (a b : ℤ) → IsJoint j p q → p.y <ℤ q.y → a ≤ℤ q.x → p.x <ℤ b → IsUpTo j a b
up_back Edges p q a b (inl (same, beside)) lt from to = omega (arith, ints)
up_back Edges p q a b (inr (same, beside)) lt from to = absurd (omega (arith, ints))
up_back Corners p q a b h lt from to = let l = h.left in omega (arith, ints)

module _ (rects : List Rect) where
  abbrev S : Square → Type 0
  S = in_set rects

  covered : (r : Rect) (s : Square) → IsListed r rects → IsInside r s → S s
  covered r s l h = listed_covers rects s r l (inside_has r s h)

  right : (r : Rect) (n : ℕ) (x y : ℤ) → IsListed r rects → r.x1 ≤ℤ x → (x +ℤ pos n) <ℤ r.x2 → r.y1 ≤ℤ y → y <ℤ r.y2 → Reaches (IsStep S) (record { x = x; y = y }) (record { x = x +ℤ pos n; y = y })
  right r zero x y l a b c d =
      let p : Square = record { x = x; y = y } in
      let q : Square = record { x = x +ℤ pos zero; y = y } in
      stays (IsStep S) p q (same_square p q (omega (arith, ints)) refl)
  right r (suc n) x y l a b c d =
      let p : Square = record { x = x; y = y } in
      let m : Square = record { x = x +ℤ pos 1; y = y } in
      let t : Square = record { x = (x +ℤ pos 1) +ℤ pos n; y = y } in
      let q : Square = record { x = x +ℤ pos (suc n); y = y } in
      let one : IsStep S p m = record {
        from = covered r p l (record { x1 = a; x2 = omega (arith, ints); y1 = c; y2 = d });
        to = covered r m l (record { x1 = omega (arith, ints); x2 = omega (arith, ints); y1 = c; y2 = d });
        edge = inr (refl, inl refl);
      } in
      let rest : Reaches (IsStep S) m t = right r n (x +ℤ pos 1) y l (omega (arith, ints)) (omega (arith, ints)) c d in
      prepend (IsStep S) p m q one (subst (λ (v : Square). Reaches (IsStep S) m v) (same_square t q (omega (arith, ints)) refl) rest)

  up : (r : Rect) (n : ℕ) (x y : ℤ) → IsListed r rects → r.x1 ≤ℤ x → x <ℤ r.x2 → r.y1 ≤ℤ y → (y +ℤ pos n) <ℤ r.y2 → Reaches (IsStep S) (record { x = x; y = y }) (record { x = x; y = y +ℤ pos n })
  up r zero x y l a b c d =
      let p : Square = record { x = x; y = y } in
      let q : Square = record { x = x; y = y +ℤ pos zero } in
      stays (IsStep S) p q (same_square p q refl (omega (arith, ints)))
  up r (suc n) x y l a b c d =
      let p : Square = record { x = x; y = y } in
      let m : Square = record { x = x; y = y +ℤ pos 1 } in
      let t : Square = record { x = x; y = (y +ℤ pos 1) +ℤ pos n } in
      let q : Square = record { x = x; y = y +ℤ pos (suc n) } in
      let one : IsStep S p m = record {
        from = covered r p l (record { x1 = a; x2 = b; y1 = c; y2 = omega (arith, ints) });
        to = covered r m l (record { x1 = a; x2 = b; y1 = omega (arith, ints); y2 = omega (arith, ints) });
        edge = inl (refl, inl refl);
      } in
      let rest : Reaches (IsStep S) m t = up r n x (y +ℤ pos 1) l a b (omega (arith, ints)) (omega (arith, ints)) in
      prepend (IsStep S) p m q one (subst (λ (v : Square). Reaches (IsStep S) m v) (same_square t q refl (omega (arith, ints))) rest)

  row_to : (r : Rect) (x z y : ℤ) → IsListed r rects → r.x1 ≤ℤ x → x ≤ℤ z → z <ℤ r.x2 → r.y1 ≤ℤ y → y <ℤ r.y2 → Reaches (IsStep S) (record { x = x; y = y }) (record { x = z; y = y })
  row_to r x z y l a le b c d =
      let n = how_far x z le in
      let e = n.1 in
      subst (λ (v : ℤ). Reaches (IsStep S) (record { x = x; y = y }) (record { x = v; y = y })) e (right r n.0 x y l a (omega (arith, ints, e)) c d)

  column_to : (r : Rect) (x y z : ℤ) → IsListed r rects → r.x1 ≤ℤ x → x <ℤ r.x2 → r.y1 ≤ℤ y → y ≤ℤ z → z <ℤ r.y2 → Reaches (IsStep S) (record { x = x; y = y }) (record { x = x; y = z })
  column_to r x y z l a b c le d =
      let n = how_far y z le in
      let e = n.1 in
      subst (λ (v : ℤ). Reaches (IsStep S) (record { x = x; y = y }) (record { x = x; y = v })) e (up r n.0 x y l a b c (omega (arith, ints, e)))

  -- the squares of one rectangle are joined
  pub walk : (r : Rect) (p q : Square) → IsListed r rects → IsInside r p → IsInside r q → Reaches (IsStep S) p q
  walk r p q l h g =
      let m : Square = record { x = q.x; y = p.y } in
      let a = h.x1 in let b = h.x2 in let c = h.y1 in let d = h.y2 in
      let a' = g.x1 in let b' = g.x2 in let c' = g.y1 in let d' = g.y2 in
      let first : Reaches (IsStep S) p m = by_lt_z q.x p.x
      (λ lt. back (IsStep S) (step_back S) m p (row_to r q.x p.x p.y l a' (omega (arith, ints)) b c d))
      (λ le. row_to r p.x q.x p.y l a le b' c d) in
      let second : Reaches (IsStep S) m q = by_lt_z q.y p.y
      (λ lt. back (IsStep S) (step_back S) q m (column_to r q.x q.y p.y l a' b' c' (omega (arith, ints)) d))
      (λ le. column_to r q.x p.y q.y l a' b' c le d') in
      both (IsStep S) p m q first second

  -- a contact is a step between the two rectangles
  record IsBridge (j : Joint) (r s : Rect) : Type 0 where
    from : Square
    to : Square
    low : IsInside r from
    high : IsInside s to
    step : AreAdjacent j S from to

  bridge : (good : IsCanonical rects) (j : Joint) (r s : Rect) → IsListed r rects → IsListed s rects → IsOver j r s → IsBridge j r s
  bridge good j r s l m over =
      let br = (good.each r).0 l in let bs = (good.each s).0 m in
      let hr = br.some in let hs = bs.some in
      let wr = (br.rows r.y1 (omega (arith, ints)) hr).some in
      let ws = (bs.rows s.y1 (omega (arith, ints)) hs).some in
      let row = over.row in
      let x = close_in j r.x1 r.x2 s.x1 s.x2 wr ws over.left over.right in
      let p : Square = record { x = x.one; y = r.y2 -ℤ pos 1 } in
      let q : Square = record { x = x.other; y = s.y1 } in
      let low : IsInside r p = record { x1 = x.one_from; x2 = x.one_to; y1 = omega (arith, ints); y2 = omega (arith, ints) } in
      let high : IsInside s q = record { x1 = x.other_from; x2 = x.other_to; y1 = omega (arith, ints); y2 = hs } in
      record { from = p; to = q; low = low; high = high; step = record { from = covered r p l low; to = covered s q m high; edge = above j x.one x.other (r.y2 -ℤ pos 1) s.y1 x.same (omega (arith, ints)) } }

  module _ (j : Joint) (good : IsCanonical rects) (links : List Link) (are : AreContacts j rects links) where
    abbrev L : ℕ → ℕ → Type 0
    L = IsLinked links

    abbrev R : Square → Square → Type 0
    R = AreAdjacent j S

    stroll : (r : Rect) (p q : Square) → IsListed r rects → IsInside r p → IsInside r q → Reaches R p q
    stroll r p q l h g = along (IsStep S) R (λ v. v) (λ a b k. single R a b (record { from = k.from; to = k.to; edge = joint_of_edge j a b k.edge })) p q (walk r p q l h g)

    block : (r : Rect) → IsListed r rects → IsBlock (covers rects) r
    block r l = (good.each r).0 l

    same_at : (i : ℕ) (r s : Rect) → slice_get rects i ≡ Some r → slice_get rects i ≡ Some s → r ≡ s
    same_at i r s e f = let g : Some r ≡ Some s = sym e ∙ f in cc

    over_contact : (i k : ℕ) (r : Rect) → slice_get rects i ≡ Some r → IsContact j rects i k → (s : Rect) × (slice_get rects k ≡ Some s) × IsOver j r s
    over_contact i k r e c = (c.other, c.second, subst (λ (q : Rect). IsOver j q c.other) (same_at i c.one r c.first e) c.over)

    under_contact : (i k : ℕ) (r : Rect) → slice_get rects i ≡ Some r → IsContact j rects k i → (s : Rect) × (slice_get rects k ≡ Some s) × IsOver j s r
    under_contact i k r e c = (c.one, c.first, subst (λ (q : Rect). IsOver j c.one q) (same_at i c.other r c.second e) c.over)

    -- along a link
    cross : (i k : ℕ) (r : Rect) (p : Square) → slice_get rects i ≡ Some r → IsInside r p → L i k → (s : Rect) × (q : Square) × (slice_get rects k ≡ Some s) × IsInside s q × Reaches R p q
    cross i k r p e h l = elim (are.sound i k l) [
      | inl c ↦
          let o = over_contact i k r e c in
          let lr = listed_at rects i r e in
          let b = bridge good j r o.0 lr (listed_at rects k o.0 o.1) o.2 in
          (o.0, b.to, o.1, b.high, both R p b.from b.to (stroll r p b.from lr h b.low) (single R b.from b.to b.step))
      | inr c ↦
          let o = under_contact i k r e c in
          let lr = listed_at rects i r e in
          let b = bridge good j o.0 r (listed_at rects k o.0 o.1) lr o.2 in
          (o.0, b.from, o.1, b.low, both R p b.to b.from (stroll r p b.to lr h b.high) (single R b.to b.from (adjacent_back j S b.from b.to b.step)))
    ]

    squares_chain : (i k : ℕ) (via : List ℕ) (r s : Rect) (p q : Square) → slice_get rects i ≡ Some r → slice_get rects k ≡ Some s → IsInside r p → IsInside s q → IsChain L i via k → Reaches R p q
    squares_chain i k [] r s p q e f h g chain =
        let same : r ≡ s = same_at k r s (subst (λ (n : ℕ). slice_get rects n ≡ Some r) chain e) f in
        stroll s p q (listed_at rects k s f) (subst (λ (t : Rect). IsInside t p) same h) g
    squares_chain i k (n ∷ via) r s p q e f h g chain =
        let c = cross i n r p e h chain.0 in
        both R p c.1 q c.4 (squares_chain n k via c.0 s c.1 q c.2 f c.3 g chain.1)

    pub squares_joined : (i k : ℕ) (r s : Rect) (p q : Square) → slice_get rects i ≡ Some r → slice_get rects k ≡ Some s → IsInside r p → IsInside s q → Reaches L i k → Reaches R p q
    squares_joined i k r s p q e f h g way = squares_chain i k way.via r s p q e f h g way.chain

    one : (i k : ℕ) (r t : Rect) → slice_get rects i ≡ Some r → slice_get rects k ≡ Some t → r ≡ t → Reaches L i k
    one i k r t e f same = stays L i k (one_place rects i k r good.ordered e (subst (λ (q : Rect). slice_get rects k ≡ Some q) (sym same) f))

    shared : (i k : ℕ) (r t : Rect) (s : Square) → slice_get rects i ≡ Some r → slice_get rects k ≡ Some t → IsInside r s → IsInside t s → Reaches L i k
    shared i k r t s e f h g = one i k r t e f (shared_block (covers rects) r t s (block r (listed_at rects i r e)) (block t (listed_at rects k t f)) h g)

    -- near squares of rectangles that share a row
    level : (i k : ℕ) (r t : Rect) (p x : Square) (y : ℤ) → slice_get rects i ≡ Some r → slice_get rects k ≡ Some t → IsInside r p → IsInside t x → IsAround p x
        → r.y1 ≤ℤ y → y <ℤ r.y2 → t.y1 ≤ℤ y → y <ℤ t.y2 → Reaches L i k
    level i k r t p x y e f h g around c d c' d' =
        let a = h.x1 in let b = h.x2 in let a' = g.x1 in let b' = g.x2 in
        let u = around.left in let v = around.right in
        elim (row_apart (covers rects) r t y (block r (listed_at rects i r e)) (block t (listed_at rects k t f)) c d c' d') [
          | inl same ↦ one i k r t e f same
          | inr apart ↦ absurd (elim apart [ inl lt ↦ omega (arith, ints) | inr lt ↦ omega (arith, ints) ])
        ]

    -- x stands on p
    upward : (i k : ℕ) (r t : Rect) (p x : Square) → slice_get rects i ≡ Some r → slice_get rects k ≡ Some t → IsInside r p → IsInside t x → IsAround p x → IsUpTo j r.x1 t.x2 → IsUpTo j t.x1 r.x2
        → p.y <ℤ x.y → Reaches L i k
    upward i k r t p x e f h g around left right above =
        let c = h.y1 in let d = h.y2 in let c' = g.y1 in let d' = g.y2 in
        let low = around.low in
        by_lt_z x.y r.y2
        (λ lt. level i k r t p x x.y e f h g around (omega (arith, ints)) lt c' d')
        (λ le. by_lt_z t.y1 x.y
        (λ lt. level i k r t p x p.y e f h g around c d (omega (arith, ints)) (omega (arith, ints)))
        (λ le'. single L i k (are.complete i k (record { one = r; other = t; first = e; second = f; over = record { row = omega (arith, ints); left = left; right = right } }))))

    step_linked : (i k : ℕ) (r t : Rect) (p x : Square) → slice_get rects i ≡ Some r → slice_get rects k ≡ Some t → IsInside r p → IsInside t x → IsJoint j p x → Reaches L i k
    step_linked i k r t p x e f h g joint =
        let around = joint_around j p x joint in
        let back_around = joint_around j x p (joint_back j p x joint) in
        let a = h.x1 in let b = h.x2 in let a' = g.x1 in let b' = g.x2 in
        by_lt_z p.y x.y
        (λ lt. upward i k r t p x e f h g around (up_to j p x r.x1 t.x2 joint lt a b') (up_back j p x t.x1 r.x2 joint lt a' b) lt)
        (λ le. by_lt_z x.y p.y
        (λ lt. back L (linked_back links) k i (upward k i t r x p f e g h back_around (up_to j x p t.x1 r.x2 (joint_back j p x joint) lt a' b) (up_back j x p r.x1 t.x2 (joint_back j p x joint) lt a b') lt))
        (λ le'. let c = h.y1 in let d = h.y2 in let c' = g.y1 in let d' = g.y2 in level i k r t p x p.y e f h g around c d (omega (arith, ints)) (omega (arith, ints))))

    places_chain : (p q : Square) (via : List Square) (i k : ℕ) (r s : Rect) → slice_get rects i ≡ Some r → slice_get rects k ≡ Some s → IsInside r p → IsInside s q → IsChain R p via q → Reaches L i k
    places_chain p q [] i k r s e f h g chain = shared i k r s q e f (subst (λ (v : Square). IsInside r v) chain h) g
    places_chain p q (x ∷ via) i k r s e f h g chain =
        let t = covers_listed rects x chain.0.to in
        let n = place_of rects t.one t.listed in
        let here = inside_from t.one x t.inside in
        both L i n.0 k (step_linked i n.0 r t.one p x e n.1 h here chain.0.edge) (places_chain x q via n.0 k t.one s n.1 f here g chain.1)

    pub places_joined : (i k : ℕ) (r s : Rect) (p q : Square) → slice_get rects i ≡ Some r → slice_get rects k ≡ Some s → IsInside r p → IsInside s q → Reaches R p q → Reaches L i k
    places_joined i k r s p q e f h g way = places_chain p q way.via i k r s e f h g way.chain
