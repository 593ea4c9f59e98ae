-- Blocks of a set that was cut in two.
use Rattle.std.proofs.Common.{◌≡◌, ◌⊎◌, inl, inr, ℤ, pos, ◌-ℤ◌, ◌≤ℤ◌, ◌<ℤ◌, List, [], ◌∷◌, ◌++◌, Bool, true, false, ◌||◌, sym, ap, ◌∙◌, subst, arith}
use Rattle.std.proofs.lemmas.Int.{ints, by_lt_z}
use Rattle.std.proofs.lemmas.Bool.{false≢true, or_right, or_cases, and_parts, and_from, false_from_ne_true}
use Rattle.std.proofs.lemmas.List.Folds.{list_any-append}
use Rattle.geo_base.specs.Rects.{is_between, has}
use Rattle.rect_sets.specs.Rects.{covers, IsRun, IsBlock, IsListed}
use Rattle.rect_sets.specs.Sweeps.{AreBlocks}
use Rattle.rect_sets.specs.Halves.{AreParted}
use Rattle.rect_sets.proofs.Blocking.{listed_covers, covers_listed}
use Rattle.rect_sets.proofs.Ordering.{one_block}
use Rattle.geo_base.specs.declared.shapes.Rect.{Rect}
use Rattle.geo_base.specs.declared.shapes.Square.{Square}

-- tests

out_low : (low x high : ℤ) → x <ℤ low → is_between low x high ≡ false
out_low low x high h = grind (arith, ints)

out_high : (low x high : ℤ) → high ≤ℤ x → is_between low x high ≡ false
out_high low x high h = grind (arith, ints)

between : (low x high : ℤ) → low ≤ℤ x → x <ℤ high → is_between low x high ≡ true
between low x high h g = grind (arith, ints)

between_low : (low x high : ℤ) → is_between low x high ≡ true → low ≤ℤ x
between_low low x high e = by_lt_z x low (λ lt. absurd (false≢true (sym (out_low low x high lt) ∙ e))) (λ le. le)

between_high : (low x high : ℤ) → is_between low x high ≡ true → x <ℤ high
between_high low x high e = by_lt_z x high (λ lt. lt) (λ le. absurd (false≢true (sym (out_high low x high le) ∙ e)))

pub record IsInside (r : Rect) (s : Square) : Type 0 where
  pub x1 : r.x1 ≤ℤ s.x
  pub x2 : s.x <ℤ r.x2
  pub y1 : r.y1 ≤ℤ s.y
  pub y2 : s.y <ℤ r.y2

pub inside_from : (r : Rect) (s : Square) → has r s ≡ true → IsInside r s
inside_from r s e = let p = and_parts (is_between r.x1 s.x r.x2) (is_between r.y1 s.y r.y2) e in record {
  x1 = between_low r.x1 s.x r.x2 p.0;
  x2 = between_high r.x1 s.x r.x2 p.0;
  y1 = between_low r.y1 s.y r.y2 p.1;
  y2 = between_high r.y1 s.y r.y2 p.1;
}

has_at : (r : Rect) (x y : ℤ) → r.x1 ≤ℤ x → x <ℤ r.x2 → r.y1 ≤ℤ y → y <ℤ r.y2 → has r (record { x = x; y = y }) ≡ true
has_at r x y a b c d = and_from (is_between r.x1 x r.x2) (is_between r.y1 y r.y2) (between r.x1 x r.x2 a b) (between r.y1 y r.y2 c d)

pub covers_at : (rects : List Rect) (r : Rect) (x y : ℤ) → IsListed r rects → r.x1 ≤ℤ x → x <ℤ r.x2 → r.y1 ≤ℤ y → y <ℤ r.y2 → covers rects (record { x = x; y = y }) ≡ true
covers_at rects r x y l a b c d = listed_covers rects (record { x = x; y = y }) r l (has_at r x y a b c d)

-- runs of one row

not_left : (set : Square → Bool) (y a b c d x : ℤ) → IsRun set y a b → IsRun set y c d → a ≤ℤ x → x <ℤ d → c <ℤ a → ⊥
not_left set y a b c d x h g low high lt = false≢true (sym h.before ∙ g.inside (a -ℤ pos 1) (omega (arith, ints)) (omega (arith, ints)))

one_right : (set : Square → Bool) (y a b d : ℤ) → IsRun set y a b → IsRun set y a d → b <ℤ d → ⊥
one_right set y a b d h g lt = let hs = h.some in false≢true (sym h.after ∙ g.inside b (omega (arith, ints)) lt)

-- two runs that share a number are one
pub shared : (set : Square → Bool) (y a b c d x : ℤ) → IsRun set y a b → IsRun set y c d → a ≤ℤ x → x <ℤ b → c ≤ℤ x → x <ℤ d → (a ≡ c) × (b ≡ d)
shared set y a b c d x h g a1 b1 c1 d1 =
    let e : a ≡ c = by_lt_z a c (λ lt. absurd (not_left set y c d a b x g h c1 b1 lt)) (λ le. by_lt_z c a (λ lt. absurd (not_left set y a b c d x h g a1 d1 lt)) (λ le'. omega (arith, ints))) in
    let g' : IsRun set y a d = subst (λ (q : ℤ). IsRun set y q d) (sym e) g in
    (e, by_lt_z b d (λ lt. absurd (one_right set y a b d h g' lt)) (λ le. by_lt_z d b (λ lt. absurd (one_right set y a d b g' h lt)) (λ le'. omega (arith, ints))))

pub run_to : (set : Square → Bool) (y a b c d : ℤ) → a ≡ c → b ≡ d → IsRun set y a b → IsRun set y c d
run_to set y a b c d e f h = subst (λ (q : ℤ). IsRun set y q d) e (subst (λ (q : ℤ). IsRun set y a q) f h)

not_lower : (set : Square → Bool) (u r : Rect) (y : ℤ) → IsBlock set u → IsBlock set r → u.x1 ≡ r.x1 → u.x2 ≡ r.x2 → y <ℤ u.y2 → r.y1 ≤ℤ y → u.y1 <ℤ r.y1 → ⊥
not_lower set u r y h k e f high low lt = k.below (run_to set (r.y1 -ℤ pos 1) u.x1 u.x2 r.x1 r.x2 e f (h.rows (r.y1 -ℤ pos 1) (omega (arith, ints)) (omega (arith, ints))))

-- two blocks of one run that share a row are one
same_block : (set : Square → Bool) (u r : Rect) (y : ℤ) → IsBlock set u → IsBlock set r → u.x1 ≡ r.x1 → u.x2 ≡ r.x2 → u.y1 ≤ℤ y → y <ℤ u.y2 → r.y1 ≤ℤ y → y <ℤ r.y2 → u ≡ r
same_block set u r y h k e f a b c d =
    let g : u.y1 ≡ r.y1 = by_lt_z u.y1 r.y1 (λ lt. absurd (not_lower set u r y h k e f b c lt)) (λ le. by_lt_z r.y1 u.y1 (λ lt. absurd (not_lower set r u y k h (sym e) (sym f) d a lt)) (λ le'. omega (arith, ints))) in
    one_block set u r h k g e

pub shared_block : (set : Square → Bool) (u r : Rect) (s : Square) → IsBlock set u → IsBlock set r → IsInside u s → IsInside r s → u ≡ r
shared_block set u r s h k a b =
    let e = shared set s.y u.x1 u.x2 r.x1 r.x2 s.x (h.rows s.y a.y1 a.y2) (k.rows s.y b.y1 b.y2) a.x1 a.x2 b.x1 b.x2 in
    same_block set u r s.y h k e.0 e.1 a.y1 a.y2 b.y1 b.y2

-- parted sets

in_set : (set : Square → Bool) (done rest : List Rect) (s : Square) → AreParted set done rest → covers rest s ≡ true → set s ≡ true
in_set set done rest s p e = p.same s ∙ or_right (covers done s) (covers rest s) e

side : (set : Square → Bool) (done rest : List Rect) (s : Square) → AreParted set done rest → set s ≡ true → (covers done s ≡ true) ⊎ (covers rest s ≡ true)
side set done rest s p e = or_cases (covers done s) (covers rest s) (sym (p.same s) ∙ e)

out_set : (set : Square → Bool) (done rest : List Rect) (s : Square) → AreParted set done rest → set s ≡ false → covers rest s ≡ false
out_set set done rest s p e = false_from_ne_true (covers rest s) (λ t. false≢true (sym e ∙ in_set set done rest s p t))

run_up : (set : Square → Bool) (done rest : List Rect) (y a b : ℤ) → AreParted set done rest → IsRun (covers rest) y a b → IsRun set y a b
run_up set done rest y a b p h =
    let some = h.some in
    let at_a : covers rest (record { x = a; y = y }) ≡ true = h.inside a (omega (arith, ints)) some in
    let at_b : covers rest (record { x = b -ℤ pos 1; y = y }) ≡ true = h.inside (b -ℤ pos 1) (omega (arith, ints)) (omega (arith, ints)) in
    record {
      some = h.some;
      inside = λ x low high. in_set set done rest (record { x = x; y = y }) p (h.inside x low high);
      before = false_from_ne_true (set (record { x = a -ℤ pos 1; y = y })) (λ t. elim (side set done rest (record { x = a -ℤ pos 1; y = y }) p t) [
        | inl e ↦ (let l = covers_listed done (record { x = a -ℤ pos 1; y = y }) e in
            let i = inside_from l.one (record { x = a -ℤ pos 1; y = y }) l.inside in
            let i1 = i.x1 in let i2 = i.x2 in
            let k = p.blocks l.one l.listed in
            by_lt_z a l.one.x2
            (λ lt. p.apart (record { x = a; y = y }) (covers_at done l.one a y l.listed (omega (arith, ints)) lt i.y1 i.y2) at_a)
            (λ le. let e2 : l.one.x2 ≡ a = omega (arith, ints) in
            false≢true (sym (subst (λ (q : ℤ). set (record { x = q; y = y }) ≡ false) e2 (k.rows y i.y1 i.y2).after) ∙ in_set set done rest (record { x = a; y = y }) p at_a)))
        | inr e ↦ false≢true (sym h.before ∙ e)
      ]);
      after = false_from_ne_true (set (record { x = b; y = y })) (λ t. elim (side set done rest (record { x = b; y = y }) p t) [
        | inl e ↦ (let l = covers_listed done (record { x = b; y = y }) e in
            let i = inside_from l.one (record { x = b; y = y }) l.inside in
            let i1 = i.x1 in let i2 = i.x2 in
            let k = p.blocks l.one l.listed in
            by_lt_z l.one.x1 b
            (λ lt. p.apart (record { x = b -ℤ pos 1; y = y }) (covers_at done l.one (b -ℤ pos 1) y l.listed (omega (arith, ints)) (omega (arith, ints)) i.y1 i.y2) at_b)
            (λ le. let e2 : l.one.x1 ≡ b = omega (arith, ints) in
            false≢true (sym (subst (λ (q : ℤ). set (record { x = q -ℤ pos 1; y = y }) ≡ false) e2 (k.rows y i.y1 i.y2).before) ∙ in_set set done rest (record { x = b -ℤ pos 1; y = y }) p at_b)))
        | inr e ↦ false≢true (sym h.after ∙ e)
      ]);
    }

record IsDone (done : List Rect) (y a b : ℤ) : Type 0 where
  one : Rect
  listed : IsListed one done
  x1 : one.x1 ≡ a
  x2 : one.x2 ≡ b
  y1 : one.y1 ≤ℤ y
  y2 : y <ℤ one.y2

-- each run of the set is a run of one that is done, or of the rest
done_at : (set : Square → Bool) (done rest : List Rect) (y a b x : ℤ) → AreParted set done rest → IsRun set y a b → a ≤ℤ x → x <ℤ b → covers done (record { x = x; y = y }) ≡ true → IsDone done y a b
done_at set done rest y a b x p h low high e =
    let l = covers_listed done (record { x = x; y = y }) e in
    let i = inside_from l.one (record { x = x; y = y }) l.inside in
    let k = p.blocks l.one l.listed in
    let q = shared set y l.one.x1 l.one.x2 a b x (k.rows y i.y1 i.y2) h i.x1 i.x2 low high in
    record { one = l.one; listed = l.listed; x1 = q.0; x2 = q.1; y1 = i.y1; y2 = i.y2 }

run_down : (set : Square → Bool) (done rest : List Rect) (y a b : ℤ) → AreParted set done rest → IsRun set y a b → IsRun (covers rest) y a b ⊎ IsDone done y a b
run_down set done rest y a b p h =
    let some = h.some in
    elim (side set done rest (record { x = a; y = y }) p (h.inside a (omega (arith, ints)) some)) [
      | inl e ↦ inr (done_at set done rest y a b a p h (omega (arith, ints)) some e)
      | inr e ↦ inl (record {
        some = h.some;
        inside = λ x low high. elim (side set done rest (record { x = x; y = y }) p (h.inside x low high)) [
          | inl f ↦ (let d = done_at set done rest y a b x p h low high f in let d1 = d.x1 in let d2 = d.x2 in
              absurd (p.apart (record { x = a; y = y }) (covers_at done d.one a y d.listed (omega (arith, ints)) (omega (arith, ints)) d.y1 d.y2) e))
          | inr f ↦ f
        ];
        before = out_set set done rest (record { x = a -ℤ pos 1; y = y }) p h.before;
        after = out_set set done rest (record { x = b; y = y }) p h.after;
      })
    ]

block_up : (set : Square → Bool) (done rest : List Rect) (r : Rect) → AreParted set done rest → IsBlock (covers rest) r → IsBlock set r
block_up set done rest r p k =
    let some = k.some in
    record {
      some = k.some;
      rows = λ y low high. run_up set done rest y r.x1 r.x2 p (k.rows y low high);
      below = λ run. elim (run_down set done rest (r.y1 -ℤ pos 1) r.x1 r.x2 p run) [
        | inl w ↦ k.below w
        | inr d ↦ (let d1 = d.x1 in let d2 = d.x2 in let d3 = d.y1 in let d4 = d.y2 in
            let own = k.rows r.y1 (omega (arith, ints)) some in
            let wide = own.some in
            by_lt_z r.y1 d.one.y2
            (λ lt. p.apart (record { x = r.x1; y = r.y1 }) (covers_at done d.one r.x1 r.y1 d.listed (omega (arith, ints)) (omega (arith, ints)) (omega (arith, ints)) lt) (own.inside r.x1 (omega (arith, ints)) wide))
            (λ le. let e : r.y1 ≡ d.one.y2 = omega (arith, ints) in
            (p.blocks d.one d.listed).above (subst (λ (q : ℤ). IsRun set q d.one.x1 d.one.x2) e (run_to set r.y1 r.x1 r.x2 d.one.x1 d.one.x2 (sym d.x1) (sym d.x2) (run_up set done rest r.y1 r.x1 r.x2 p own)))))
      ];
      above = λ run. elim (run_down set done rest r.y2 r.x1 r.x2 p run) [
        | inl w ↦ k.above w
        | inr d ↦ (let d1 = d.x1 in let d2 = d.x2 in let d3 = d.y1 in let d4 = d.y2 in
            let own = k.rows (r.y2 -ℤ pos 1) (omega (arith, ints)) (omega (arith, ints)) in
            let wide = own.some in
            by_lt_z d.one.y1 r.y2
            (λ lt. p.apart (record { x = r.x1; y = r.y2 -ℤ pos 1 }) (covers_at done d.one r.x1 (r.y2 -ℤ pos 1) d.listed (omega (arith, ints)) (omega (arith, ints)) (omega (arith, ints)) (omega (arith, ints))) (own.inside r.x1 (omega (arith, ints)) wide))
            (λ le. let e : r.y2 ≡ d.one.y1 = omega (arith, ints) in
            (p.blocks d.one d.listed).below (subst (λ (q : ℤ). IsRun set (q -ℤ pos 1) d.one.x1 d.one.x2) e (run_to set (r.y2 -ℤ pos 1) r.x1 r.x2 d.one.x1 d.one.x2 (sym d.x1) (sym d.x2) (run_up set done rest (r.y2 -ℤ pos 1) r.x1 r.x2 p own)))))
      ];
    }

block_down : (set : Square → Bool) (done rest : List Rect) (r : Rect) → AreParted set done rest → IsBlock set r → IsListed r done ⊎ IsBlock (covers rest) r
block_down set done rest r p k =
    let some = k.some in
    let first = k.rows r.y1 (omega (arith, ints)) some in
    let wide = first.some in
    elim (run_down set done rest r.y1 r.x1 r.x2 p first) [
      | inr d ↦ inl (subst (λ (q : Rect). IsListed q done) (same_block set d.one r r.y1 (p.blocks d.one d.listed) k d.x1 d.x2 d.y1 d.y2 (omega (arith, ints)) some) d.listed)
      | inl w ↦ inr (record {
        some = k.some;
        rows = λ y low high. elim (run_down set done rest y r.x1 r.x2 p (k.rows y low high)) [
          | inl v ↦ v
          | inr d ↦ (let e : d.one ≡ r = same_block set d.one r y (p.blocks d.one d.listed) k d.x1 d.x2 d.y1 d.y2 low high in
              absurd (p.apart (record { x = r.x1; y = r.y1 }) (covers_at done r r.x1 r.y1 (subst (λ (q : Rect). IsListed q done) e d.listed) (omega (arith, ints)) wide (omega (arith, ints)) some) (w.inside r.x1 (omega (arith, ints)) wide)))
        ];
        below = λ run. k.below (run_up set done rest (r.y1 -ℤ pos 1) r.x1 r.x2 p run);
        above = λ run. k.above (run_up set done rest r.y2 r.x1 r.x2 p run);
      })
    ]

pub listed_either : (r : Rect) (xs ys : List Rect) → IsListed r (xs ++ ys) → IsListed r xs ⊎ IsListed r ys
listed_either r [] ys h = inr h
listed_either r (x ∷ xs) ys (inl e) = inl (inl e)
listed_either r (x ∷ xs) ys (inr h) = elim (listed_either r xs ys h) [ inl a ↦ inl (inr a) | inr b ↦ inr b ]

pub listed_first : (r : Rect) (xs ys : List Rect) → IsListed r xs → IsListed r (xs ++ ys)
listed_first r [] ys h = absurd h
listed_first r (x ∷ xs) ys (inl e) = inl e
listed_first r (x ∷ xs) ys (inr h) = inr (listed_first r xs ys h)

pub listed_second : (r : Rect) (xs ys : List Rect) → IsListed r ys → IsListed r (xs ++ ys)
listed_second r [] ys h = h
listed_second r (x ∷ xs) ys h = inr (listed_second r xs ys h)

pub covers_append : (xs ys : List Rect) (s : Square) → covers (xs ++ ys) s ≡ (covers xs s || covers ys s)
covers_append xs ys s = list_any-append (λ r. has r s) xs ys

pub parted_blocks : (set : Square → Bool) (done rest joined : List Rect) → AreParted set done rest → AreBlocks (covers rest) joined → AreBlocks set (done ++ joined)
parted_blocks set done rest joined p h = record {
  each = λ r. (
    λ l. elim (listed_either r done joined l) [ inl a ↦ p.blocks r a | inr b ↦ block_up set done rest r p ((h.each r).0 b) ],
    λ k. elim (block_down set done rest r p k) [ inl a ↦ listed_first r done joined a | inr b ↦ listed_second r done joined ((h.each r).1 b) ],
  );
  same = λ s. covers_append done joined s ∙ ap (λ b. covers done s || b) (h.same s) ∙ sym (p.same s);
}
