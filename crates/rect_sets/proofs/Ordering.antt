-- Rectangles in order.
use Rattle.std.proofs.Common.{◌≡◌, ◌⊎◌, inl, inr, ℕ, ℤ, suc, zero, ◌<ℤ◌, ◌≤◌, ◌<◌, ◌+◌, List, [], ◌∷◌, ◌++◌, Bool, true, false, length, take, refl, sym, ◌∙◌, ap, subst, arith, get_or}
use Rattle.base_laws.proofs.Tests.{same_truth}
use Rattle.std.proofs.lemmas.Int.{ints, by_lt_z}
use Rattle.std.proofs.lemmas.Bool.{false≢true, and_parts, and_from}
use Rattle.std.proofs.lemmas.List.{take_more, take_all, get_or_default, same_from_push}
use Rattle.std.proofs.lemmas.Bool.Decides.{Decides-int_eq}
use Rattle.std.specs.Ordering.{int_eq}
use Rattle.std.specs.List.{Contains}
use Rattle.std.specs.List.Sorted.{IsPermutation}
use Rattle.std.proofs.lemmas.List.Sorted.{Contains-permutation, IsPermutation-sym}
use Rattle.rect_sets.specs.Rects.{covers, IsRun, IsBlock, IsBelow, AreAbove, IsOrdered, IsListed, IsCanonical}
use Rattle.rect_sets.specs.Sweeps.{AreBlocks}
use Rattle.rect_sets.specs.Orders.{IsNotAfter, AreSortedRects, LastNotAfter, IsRoom, HasPlace, Joins, IsInOrder, OrderSoFar, begins_with}
use Rattle.rect_sets.proofs.Unique.{block_of}
use Rattle.rect_sets.proofs.Blocking.{listed_covers, covers_listed, within_block}
use Rattle.geo_base.specs.declared.shapes.Rect.{Rect}
use Rattle.geo_base.specs.declared.shapes.Square.{Square}

pub begins_from : (a b : Rect) → begins_with a b ≡ true → (a.y1 ≡ b.y1) × (a.x1 ≡ b.x1)
begins_from a b h = let p = and_parts (int_eq a.y1 b.y1) (int_eq a.x1 b.x1) h in ((Decides-int_eq a.y1 b.y1).0 p.0, (Decides-int_eq a.x1 b.x1).0 p.1)

pub begins_not : (a b : Rect) → begins_with a b ≡ false → a.y1 ≡ b.y1 → a.x1 ≡ b.x1 → ⊥
begins_not a b h e f = false≢true (sym h ∙ and_from (int_eq a.y1 b.y1) (int_eq a.x1 b.x1) ((Decides-int_eq a.y1 b.y1).1 e) ((Decides-int_eq a.x1 b.x1).1 f))

-- members of lists

pub listed_contains : (r : Rect) (xs : List Rect) → IsListed r xs → Contains xs r
listed_contains r [] h = absurd h
listed_contains r (x ∷ xs) (inl e) = (zero, omega arith, sym e)
listed_contains r (x ∷ xs) (inr h) = let c = listed_contains r xs h in let lt = c.1 in (suc c.0, omega arith, c.2)

at_listed : (xs : List Rect) (k : ℕ) (d : Rect) → k < length xs → IsListed (get_or xs k d) xs
at_listed [] k d lt = absurd (omega arith)
at_listed (x ∷ xs) zero d lt = inl refl
at_listed (x ∷ xs) (suc k) d lt = inr (at_listed xs k d (omega arith))

contains_listed : (r : Rect) (xs : List Rect) → Contains xs r → IsListed r xs
contains_listed r xs c = subst (λ (q : Rect). IsListed q xs) c.2 (at_listed xs c.0 r c.1)

pub listed_permuted : (xs ys : List Rect) (r : Rect) → IsPermutation xs ys → IsListed r xs → IsListed r ys
listed_permuted xs ys r p h = contains_listed r ys (Contains-permutation xs ys r p (listed_contains r xs h))

pub listed_push : (q r : Rect) (xs : List Rect) → IsListed q (xs ++ r ∷ []) → IsListed q xs ⊎ (q ≡ r)
listed_push q r [] (inl e) = inr e
listed_push q r [] (inr h) = absurd h
listed_push q r (x ∷ xs) (inl e) = inl (inl e)
listed_push q r (x ∷ xs) (inr h) = elim (listed_push q r xs h) [ inl a ↦ inl (inr a) | inr e ↦ inr e ]

pub push_old : (q r : Rect) (xs : List Rect) → IsListed q xs → IsListed q (xs ++ r ∷ [])
push_old q r [] h = absurd h
push_old q r (x ∷ xs) (inl e) = inl e
push_old q r (x ∷ xs) (inr h) = inr (push_old q r xs h)

pub push_new : (r : Rect) (xs : List Rect) → IsListed r (xs ++ r ∷ [])
push_new r [] = inl refl
push_new r (x ∷ xs) = inr (push_new r xs)

-- order

below_later : (a b c : Rect) → IsBelow a b → IsBelow b c → IsBelow a c
below_later a b c (inl h) (inl g) = inl (omega (arith, ints))
below_later a b c (inl h) (inr g) = let g0 = g.0 in inl (omega (arith, ints))
below_later a b c (inr h) (inl g) = let h0 = h.0 in inl (omega (arith, ints))
below_later a b c (inr h) (inr g) = let h0 = h.0 in let h1 = h.1 in let g0 = g.0 in let g1 = g.1 in inr (omega (arith, ints), omega (arith, ints))

above_push : (q r : Rect) (xs : List Rect) → AreAbove q xs → IsBelow q r → AreAbove q (xs ++ r ∷ [])
above_push q r [] h b = (b, tt)
above_push q r (x ∷ xs) h b = (h.0, above_push q r xs h.1 b)

ordered_push : (xs : List Rect) (r : Rect) → IsOrdered xs → ((q : Rect) → IsListed q xs → IsBelow q r) → IsOrdered (xs ++ r ∷ [])
ordered_push [] r h f = (tt, tt)
ordered_push (x ∷ xs) r h f = (above_push x r xs h.0 (f x (inl refl)), ordered_push xs r h.1 (λ q g. f q (inr g)))

above_each : (q : Rect) (xs : List Rect) (r : Rect) → AreAbove q xs → IsListed r xs → IsBelow q r
above_each q [] r h g = absurd g
above_each q (x ∷ xs) r h (inl e) = subst (λ (p : Rect). IsBelow q p) (sym e) h.0
above_each q (x ∷ xs) r h (inr g) = above_each q xs r h.1 g

-- all come before what the last comes before
all_below : (front : List Rect) (last r : Rect) → IsOrdered (front ++ last ∷ []) → IsBelow last r → (q : Rect) → IsListed q (front ++ last ∷ []) → IsBelow q r
all_below [] last r h b q (inl e) = subst (λ (p : Rect). IsBelow p r) (sym e) b
all_below [] last r h b q (inr g) = absurd g
all_below (x ∷ front) last r h b q (inl e) = subst (λ (p : Rect). IsBelow p r) (sym e) (below_later x last r (above_each x (front ++ last ∷ []) last h.0 (push_new last front)) b)
all_below (x ∷ front) last r h b q (inr g) = all_below front last r h.1 b q g

pub with_last : (xs : List Rect) (k : ℕ) (d : Rect) → k + 1 ≡ length xs → xs ≡ take k xs ++ get_or xs k d ∷ []
with_last xs k d e = sym (take_all (k + 1) xs (omega arith)) ∙ take_more xs k d (omega arith)

last_is : (xs : List Rect) (x s : Rect) → IsNotAfter x s → LastNotAfter (xs ++ x ∷ []) s
last_is xs x s h = λ front last e. let p = same_from_push xs front x last e in subst (λ (q : Rect). IsNotAfter q s) p.1 h

no_last : (front : List Rect) (last : Rect) → [] ≡ front ++ last ∷ [] → ⊥
no_last [] last e = cc
no_last (x ∷ front) last e = cc

pub join_first : (old : List Rect) (r : Rect) → old ≡ [] → Joins old (old ++ r ∷ []) r
join_first old r e = subst (λ (xs : List Rect). Joins xs (xs ++ r ∷ []) r) (sym e) (record {
  ordered = (tt, tt);
  last = λ s h. last_is [] r s h;
  from = λ q h. listed_push q r [] h;
  kept = λ q h. absurd h;
  place = record { one = r; listed = inl refl; same_y = refl; same_x = refl };
})

joined_new : (front : List Rect) (last r : Rect) → IsOrdered (front ++ last ∷ []) → IsBelow last r → Joins (front ++ last ∷ []) ((front ++ last ∷ []) ++ r ∷ []) r
joined_new front last r h b = record {
  ordered = ordered_push (front ++ last ∷ []) r h (all_below front last r h b);
  last = λ s g. last_is (front ++ last ∷ []) r s g;
  from = λ q g. listed_push q r (front ++ last ∷ []) g;
  kept = λ q g. push_old q r (front ++ last ∷ []) g;
  place = record { one = r; listed = push_new r (front ++ last ∷ []); same_y = refl; same_x = refl };
}

below_from : (a b : Rect) → IsNotAfter a b → ((a.y1 ≡ b.y1) → (a.x1 ≡ b.x1) → ⊥) → IsBelow a b
below_from a b (inl h) f = inl h
below_from a b (inr h) f = by_lt_z a.x1 b.x1 (λ lt. inr (h.0, lt)) (λ le. let h1 = h.1 in absurd (f h.0 (omega (arith, ints))))

pub join_new : (old : List Rect) (k : ℕ) (d r : Rect) → k + 1 ≡ length old → IsRoom old r → (((get_or old k d).y1 ≡ r.y1) → ((get_or old k d).x1 ≡ r.x1) → ⊥) → Joins old (old ++ r ∷ []) r
join_new old k d r e room other =
    let cut = with_last old k d e in
    let ordered = subst (λ (xs : List Rect). IsOrdered xs) cut room.ordered in
    subst (λ (xs : List Rect). Joins xs (xs ++ r ∷ []) r) (sym cut) (joined_new (take k old) (get_or old k d) r ordered (below_from (get_or old k d) r (room.last (take k old) (get_or old k d) cut) other))

later_from : (a r s : Rect) → a.y1 ≡ r.y1 → a.x1 ≡ r.x1 → IsNotAfter r s → IsNotAfter a s
later_from a r s ey ex (inl h) = inl (omega (arith, ints))
later_from a r s ey ex (inr h) = let h0 = h.0 in let h1 = h.1 in inr (omega (arith, ints), omega (arith, ints))

pub join_same : (old : List Rect) (k : ℕ) (d r : Rect) → k + 1 ≡ length old → IsRoom old r → (get_or old k d).y1 ≡ r.y1 → (get_or old k d).x1 ≡ r.x1 → Joins old old r
join_same old k d r e room ey ex =
    let cut = with_last old k d e in
    record {
      ordered = room.ordered;
      last = λ s h. subst (λ (xs : List Rect). LastNotAfter xs s) (sym cut) (last_is (take k old) (get_or old k d) s (later_from (get_or old k d) r s ey ex h));
      from = λ q h. inl h;
      kept = λ q h. h;
      place = record { one = get_or old k d; listed = at_listed old k d (omega arith); same_y = ey; same_x = ex };
    }

place_kept : (old new : List Rect) (q : Rect) → ((p : Rect) → IsListed p old → IsListed p new) → HasPlace old q → HasPlace new q
place_kept old new q f h = record { one = h.one; listed = f h.one h.listed; same_y = h.same_y; same_x = h.same_x }

pub order_none : (sorted : List Rect) → OrderSoFar sorted 0 []
order_none sorted = record {
  ordered = tt;
  last = λ d lt front last e. absurd (no_last front last e);
  from = λ q h. absurd h;
  place = λ q h. absurd h;
}

pub order_room : (sorted : List Rect) (i : ℕ) (d : Rect) (out : List Rect) → i < length sorted → OrderSoFar sorted i out → IsRoom out (get_or sorted i d)
order_room sorted i d out lt h = record { ordered = h.ordered; last = h.last d lt }

pub order_more : (sorted : List Rect) (i : ℕ) (d : Rect) (out new : List Rect) → AreSortedRects sorted → i < length sorted → OrderSoFar sorted i out → Joins out new (get_or sorted i d) → OrderSoFar sorted (i + 1) new
order_more sorted i d out new up lt h j =
    let more = take_more sorted i d lt in
    let r : Rect = get_or sorted i d in
    record {
      ordered = j.ordered;
      last = λ e lt'. j.last (get_or sorted (i + 1) e) (subst (λ (q : Rect). IsNotAfter q (get_or sorted (i + 1) e)) (get_or_default sorted i e d lt) (up i e lt'));
      from = λ q g. subst (λ (xs : List Rect). IsListed q xs) (sym more) (elim (j.from q g) [
        | inl a ↦ push_old q (get_or sorted i d) (take i sorted) (h.from q a)
        | inr e ↦ subst (λ (p : Rect). IsListed p (take i sorted ++ get_or sorted i d ∷ [])) (sym e) (push_new (get_or sorted i d) (take i sorted))
      ]);
      place = λ q g. elim (listed_push q (get_or sorted i d) (take i sorted) (subst (λ (xs : List Rect). IsListed q xs) more g)) [
        | inl a ↦ place_kept out new q j.kept (h.place q a)
        | inr e ↦ subst (λ (p : Rect). HasPlace new p) (sym e) j.place
      ];
    }

pub order_all : (sorted : List Rect) (i : ℕ) (out : List Rect) → length sorted ≤ i → OrderSoFar sorted i out → IsInOrder sorted out
order_all sorted i out le h =
    let all = take_all i sorted le in
    record {
      ordered = h.ordered;
      from = λ q g. subst (λ (xs : List Rect). IsListed q xs) all (h.from q g);
      place = λ q g. h.place q (subst (λ (xs : List Rect). IsListed q xs) (sym all) g);
    }

pub order_permuted : (xs ys out : List Rect) → IsPermutation xs ys → IsInOrder ys out → IsInOrder xs out
order_permuted xs ys out p h = record {
  ordered = h.ordered;
  from = λ q g. listed_permuted ys xs q (IsPermutation-sym xs ys p) (h.from q g);
  place = λ q g. h.place q (listed_permuted xs ys q p g);
}

-- two blocks that begin at one place are one

one_end : (set : Square → Bool) (y a b c : ℤ) → IsRun set y a b → IsRun set y a c → b <ℤ c → ⊥
one_end set y a b c h g lt = let hs = h.some in false≢true (sym h.after ∙ g.inside b (omega (arith, ints)) lt)

same_run : (set : Square → Bool) (y a b c : ℤ) → IsRun set y a b → IsRun set y a c → b ≡ c
same_run set y a b c h g = by_lt_z b c (λ lt. absurd (one_end set y a b c h g lt)) (λ le. by_lt_z c b (λ lt. absurd (one_end set y a c b g h lt)) (λ le'. omega (arith, ints)))

run_moved : (set : Square → Bool) (y a b c d : ℤ) → a ≡ c → b ≡ d → IsRun set y a b → IsRun set y c d
run_moved set y a b c d e f h = subst (λ (q : ℤ). IsRun set y q d) e (subst (λ (q : ℤ). IsRun set y a q) f h)

not_higher : (set : Square → Bool) (r s : Rect) → IsBlock set r → IsBlock set s → r.x1 ≡ s.x1 → r.x2 ≡ s.x2 → r.y1 ≡ s.y1 → r.y2 <ℤ s.y2 → ⊥
not_higher set r s h k ex fx ey lt =
    let hs = h.some in
    h.above (run_moved set r.y2 s.x1 s.x2 r.x1 r.x2 (sym ex) (sym fx) (k.rows r.y2 (omega (arith, ints)) lt))

same_rect_all : (r s : Rect) → r.x1 ≡ s.x1 → r.y1 ≡ s.y1 → r.x2 ≡ s.x2 → r.y2 ≡ s.y2 → r ≡ s
same_rect_all r s a b c d =
    ap (λ (v : ℤ). let q : Rect = record { x1 = v; y1 = r.y1; x2 = r.x2; y2 = r.y2 } in q) a ∙
    ap (λ (v : ℤ). let q : Rect = record { x1 = s.x1; y1 = v; x2 = r.x2; y2 = r.y2 } in q) b ∙
    ap (λ (v : ℤ). let q : Rect = record { x1 = s.x1; y1 = s.y1; x2 = v; y2 = r.y2 } in q) c ∙
    ap (λ (v : ℤ). let q : Rect = record { x1 = s.x1; y1 = s.y1; x2 = s.x2; y2 = v } in q) d

pub one_block : (set : Square → Bool) (r s : Rect) → IsBlock set r → IsBlock set s → r.y1 ≡ s.y1 → r.x1 ≡ s.x1 → r ≡ s
one_block set r s h k ey ex =
    let hs = h.some in let ks = k.some in
    let run_r = h.rows r.y1 (omega (arith, ints)) hs in
    let run_s : IsRun set r.y1 r.x1 s.x2 = run_moved set r.y1 s.x1 s.x2 r.x1 s.x2 (sym ex) refl (k.rows r.y1 (omega (arith, ints)) (omega (arith, ints))) in
    let fx : r.x2 ≡ s.x2 = same_run set r.y1 r.x1 r.x2 s.x2 run_r run_s in
    let fy : r.y2 ≡ s.y2 = by_lt_z r.y2 s.y2 (λ lt. absurd (not_higher set r s h k ex fx ey lt)) (λ le. by_lt_z s.y2 r.y2 (λ lt. absurd (not_higher set s r k h (sym ex) (sym fx) (sym ey) lt)) (λ le'. omega (arith, ints))) in
    same_rect_all r s ex ey fx fy

-- blocks in order are the canonical list

still_listed : (set : Square → Bool) (rects out : List Rect) (r : Rect) → AreBlocks set rects → IsInOrder rects out → IsListed r rects → IsListed r out
still_listed set rects out r b o h =
    let p = o.place r h in
    let e : p.one ≡ r = one_block set p.one r ((b.each p.one).0 (o.from p.one p.listed)) ((b.each r).0 h) p.same_y p.same_x in
    subst (λ (q : Rect). IsListed q out) e p.listed

-- the blocks of a set in order are its canonical list
pub blocks_law : (set : Square → Bool) (rects out : List Rect) → AreBlocks set rects → IsInOrder rects out → IsCanonical out × ((s : Square) → covers out s ≡ set s)
blocks_law set rects out b o =
    let same : (s : Square) → covers out s ≡ set s = λ (s : Square). same_truth (covers out s) (set s)
    (λ e. let l = covers_listed out s e in within_block set l.one s ((b.each l.one).0 (o.from l.one l.listed)) l.inside)
    (λ e. let l = covers_listed rects s (b.same s ∙ e) in listed_covers out s l.one (still_listed set rects out l.one b o l.listed) l.inside) in (
      record {
        each = λ r. (
          λ l. block_of set (covers out) r (λ s. sym (same s)) ((b.each r).0 (o.from r l)),
          λ k. still_listed set rects out r b o ((b.each r).1 (block_of (covers out) set r same k)),
        );
        ordered = o.ordered;
      },
      same,
    )
