-- Shifts and windows of sets.
use Rattle.std.proofs.Common.{◌≡◌, inl, inr, suc, ℤ, pos, ◌+ℤ◌, ◌-ℤ◌, List, [], ◌∷◌, ◌++◌, Bool, true, false, ◌||◌, ◌&&◌, get_or, refl, sym, ap, ◌∙◌, subst, arith, if◌then◌else◌}
use Rattle.base_laws.proofs.Tests.{if_true, if_false}
use Rattle.std.proofs.lemmas.Int.{ints}
use Rattle.std.proofs.lemmas.Bool.{false≢true, and_cases, cases_Bool}
use Rattle.std.specs.List.{All}
use Rattle.geo_base.specs.Rects.{has, is_between, IsRect, overlap, meets}
use Rattle.geo_base.specs.Near.{IsNearRect}
use Rattle.geo_base.specs.declared.shapes.Rect.{Rect}
use Rattle.geo_base.specs.declared.shapes.Square.{Square}
use Rattle.rect_sets.specs.Rects.{covers, IsRun, IsBlock, IsBelow, AreAbove, IsOrdered, IsListed, IsCanonical}
use Rattle.rect_sets.specs.Near.{IsNearSet}
use Rattle.rect_sets.specs.Moves.{shift, shifted, meeting}
use Rattle.rect_sets.proofs.Unique.{listed_get}
use Rattle.rect_sets.proofs.Splitting.{inside_from}
use Rattle.rect_sets.proofs.Dividing.{first_in, last_in, if_append, with_first}

-- sets that differ by a shift
abbrev IsShift : ℤ → ℤ → (Square → Bool) → (Square → Bool) → Type 0
IsShift dx dy f g = (x y : ℤ) → g (record { x = x; y = y }) ≡ f (record { x = x -ℤ dx; y = y -ℤ dy })

at_shift : (dx dy : ℤ) (f g : Square → Bool) → IsShift dx dy f g → (u v x y : ℤ) → u ≡ x +ℤ dx → v ≡ y +ℤ dy → g (record { x = u; y = v }) ≡ f (record { x = x; y = y })
at_shift dx dy f g h u v x y eu ev =
    let ex : u -ℤ dx ≡ x = omega (arith, ints) in
    let ey : v -ℤ dy ≡ y = omega (arith, ints) in
    h u v ∙ ap (λ (p : ℤ). f (record { x = p; y = v -ℤ dy })) ex ∙ ap (λ (p : ℤ). f (record { x = x; y = p })) ey

back : (dx dy : ℤ) (f g : Square → Bool) → IsShift dx dy f g → IsShift (pos 0 -ℤ dx) (pos 0 -ℤ dy) g f
back dx dy f g h x y = sym (at_shift dx dy f g h (x -ℤ (pos 0 -ℤ dx)) (y -ℤ (pos 0 -ℤ dy)) x y (omega (arith, ints)) (omega (arith, ints)))

run_shift : (dx dy : ℤ) (f g : Square → Bool) → IsShift dx dy f g → (y a b v c d : ℤ) → v ≡ y +ℤ dy → c ≡ a +ℤ dx → d ≡ b +ℤ dx → IsRun f y a b → IsRun g v c d
run_shift dx dy f g h y a b v c d ev ec ed run =
    let some = run.some in
    record {
      some = omega (arith, ints);
      inside = λ x low high. at_shift dx dy f g h x v (x -ℤ dx) y (omega (arith, ints)) ev ∙ run.inside (x -ℤ dx) (omega (arith, ints)) (omega (arith, ints));
      before = at_shift dx dy f g h (c -ℤ pos 1) v (a -ℤ pos 1) y (omega (arith, ints)) ev ∙ run.before;
      after = at_shift dx dy f g h d v b y ed ev ∙ run.after;
    }

block_shift : (dx dy : ℤ) (f g : Square → Bool) → IsShift dx dy f g → (r : Rect) → IsBlock f r → IsBlock g (shift dx dy r)
block_shift dx dy f g h r k =
    let some = k.some in
    record {
      some = omega (arith, ints);
      rows = λ y low high. run_shift dx dy f g h (y -ℤ dy) r.x1 r.x2 y (r.x1 +ℤ dx) (r.x2 +ℤ dx) (omega (arith, ints)) refl refl (k.rows (y -ℤ dy) (omega (arith, ints)) (omega (arith, ints)));
      below = λ run. k.below (run_shift (pos 0 -ℤ dx) (pos 0 -ℤ dy) g f (back dx dy f g h) ((r.y1 +ℤ dy) -ℤ pos 1) (r.x1 +ℤ dx) (r.x2 +ℤ dx) (r.y1 -ℤ pos 1) r.x1 r.x2 (omega (arith, ints)) (omega (arith, ints)) (omega (arith, ints)) run);
      above = λ run. k.above (run_shift (pos 0 -ℤ dx) (pos 0 -ℤ dy) g f (back dx dy f g h) (r.y2 +ℤ dy) (r.x1 +ℤ dx) (r.x2 +ℤ dx) r.y2 r.x1 r.x2 (omega (arith, ints)) (omega (arith, ints)) (omega (arith, ints)) run);
    }

-- a shift and its opposite
pub same_rect : (r s : Rect) → r.x1 ≡ s.x1 → r.y1 ≡ s.y1 → r.x2 ≡ s.x2 → r.y2 ≡ s.y2 → r ≡ s
same_rect r s a b c d =
    ap (λ (v : ℤ). let q : Rect = record { x1 = v; y1 = r.y1; x2 = r.x2; y2 = r.y2 } in q) a ∙
    ap (λ (v : ℤ). let q : Rect = record { x1 = s.x1; y1 = v; x2 = r.x2; y2 = r.y2 } in q) b ∙
    ap (λ (v : ℤ). let q : Rect = record { x1 = s.x1; y1 = s.y1; x2 = v; y2 = r.y2 } in q) c ∙
    ap (λ (v : ℤ). let q : Rect = record { x1 = s.x1; y1 = s.y1; x2 = s.x2; y2 = v } in q) d

there_back : (dx dy : ℤ) (r : Rect) → shift dx dy (shift (pos 0 -ℤ dx) (pos 0 -ℤ dy) r) ≡ r
there_back dx dy r = same_rect (shift dx dy (shift (pos 0 -ℤ dx) (pos 0 -ℤ dy) r)) r (omega (arith, ints)) (omega (arith, ints)) (omega (arith, ints)) (omega (arith, ints))

back_there : (dx dy : ℤ) (r : Rect) → shift (pos 0 -ℤ dx) (pos 0 -ℤ dy) (shift dx dy r) ≡ r
back_there dx dy r = same_rect (shift (pos 0 -ℤ dx) (pos 0 -ℤ dy) (shift dx dy r)) r (omega (arith, ints)) (omega (arith, ints)) (omega (arith, ints)) (omega (arith, ints))

between_shift : (a x b d : ℤ) → is_between (a +ℤ d) x (b +ℤ d) ≡ is_between a (x -ℤ d) b
between_shift a x b d = grind (arith, ints)

covers_shift : (dx dy : ℤ) (rects : List Rect) → IsShift dx dy (covers rects) (covers (shifted dx dy rects))
covers_shift dx dy [] x y = refl
covers_shift dx dy (r ∷ rects) x y =
    ap (λ b. (b && is_between (r.y1 +ℤ dy) y (r.y2 +ℤ dy)) || covers (shifted dx dy rects) (record { x = x; y = y })) (between_shift r.x1 x r.x2 dx) ∙
    ap (λ b. (is_between r.x1 (x -ℤ dx) r.x2 && b) || covers (shifted dx dy rects) (record { x = x; y = y })) (between_shift r.y1 y r.y2 dy) ∙
    ap (λ b. has r (record { x = x -ℤ dx; y = y -ℤ dy }) || b) (covers_shift dx dy rects x y)

listed_shift : (dx dy : ℤ) (rects : List Rect) (r : Rect) → IsListed r rects → IsListed (shift dx dy r) (shifted dx dy rects)
listed_shift dx dy [] r h = absurd h
listed_shift dx dy (q ∷ rects) r (inl e) = inl (ap (shift dx dy) e)
listed_shift dx dy (q ∷ rects) r (inr h) = inr (listed_shift dx dy rects r h)

listed_back : (dx dy : ℤ) (rects : List Rect) (r : Rect) → IsListed r (shifted dx dy rects) → IsListed (shift (pos 0 -ℤ dx) (pos 0 -ℤ dy) r) rects
listed_back dx dy [] r h = absurd h
listed_back dx dy (q ∷ rects) r (inl e) = inl (ap (shift (pos 0 -ℤ dx) (pos 0 -ℤ dy)) e ∙ back_there dx dy q)
listed_back dx dy (q ∷ rects) r (inr h) = inr (listed_back dx dy rects r h)

below_shift : (dx dy : ℤ) (r s : Rect) → IsBelow r s → IsBelow (shift dx dy r) (shift dx dy s)
below_shift dx dy r s (inl h) = inl (omega (arith, ints))
below_shift dx dy r s (inr h) = let a = h.0 in let b = h.1 in inr (omega (arith, ints), omega (arith, ints))

above_shift : (dx dy : ℤ) (r : Rect) (rects : List Rect) → AreAbove r rects → AreAbove (shift dx dy r) (shifted dx dy rects)
above_shift dx dy r [] h = tt
above_shift dx dy r (s ∷ rects) h = (below_shift dx dy r s h.0, above_shift dx dy r rects h.1)

ordered_shift : (dx dy : ℤ) (rects : List Rect) → IsOrdered rects → IsOrdered (shifted dx dy rects)
ordered_shift dx dy [] h = tt
ordered_shift dx dy (r ∷ rects) h = (above_shift dx dy r rects h.0, ordered_shift dx dy rects h.1)

-- a canonical list that is shifted is canonical
pub canonical_shift : (dx dy : ℤ) (rects : List Rect) → IsCanonical rects → IsCanonical (shifted dx dy rects)
canonical_shift dx dy rects h =
    let there = covers_shift dx dy rects in
    let here = back dx dy (covers rects) (covers (shifted dx dy rects)) there in
    record {
      each = λ r. (
        λ l. subst (λ (q : Rect). IsBlock (covers (shifted dx dy rects)) q) (there_back dx dy r) (block_shift dx dy (covers rects) (covers (shifted dx dy rects)) there (shift (pos 0 -ℤ dx) (pos 0 -ℤ dy) r) ((h.each (shift (pos 0 -ℤ dx) (pos 0 -ℤ dy) r)).0 (listed_back dx dy rects r l))),
        λ k. subst (λ (q : Rect). IsListed q (shifted dx dy rects)) (there_back dx dy r) (listed_shift dx dy rects (shift (pos 0 -ℤ dx) (pos 0 -ℤ dy) r) ((h.each (shift (pos 0 -ℤ dx) (pos 0 -ℤ dy) r)).1 (block_shift (pos 0 -ℤ dx) (pos 0 -ℤ dy) (covers (shifted dx dy rects)) (covers rects) here r k))),
      );
      ordered = ordered_shift dx dy rects h.ordered;
    }

pub covers_shifted : (dx dy : ℤ) (rects : List Rect) (x y : ℤ) → covers (shifted dx dy rects) (record { x = x +ℤ dx; y = y +ℤ dy }) ≡ covers rects (record { x = x; y = y })
covers_shifted dx dy rects x y = at_shift dx dy (covers rects) (covers (shifted dx dy rects)) (covers_shift dx dy rects) (x +ℤ dx) (y +ℤ dy) x y refl refl

pub shifted_append : (dx dy : ℤ) (xs ys : List Rect) → shifted dx dy (xs ++ ys) ≡ shifted dx dy xs ++ shifted dx dy ys
shifted_append dx dy [] ys = refl
shifted_append dx dy (r ∷ xs) ys = ap (λ (q : List Rect). shift dx dy r ∷ q) (shifted_append dx dy xs ys)

-- the rectangles of a near set are near
near_rect : (rects : List Rect) (r : Rect) → IsNearSet rects → IsBlock (covers rects) r → IsNearRect r
near_rect rects r near k =
    let a = near (record { x = r.x1; y = r.y1 }) (first_in (covers rects) r k) in
    let b = near (record { x = r.x2 -ℤ pos 1; y = r.y2 -ℤ pos 1 }) (last_in (covers rects) r k) in
    let x : (r.x2 -ℤ pos 1) +ℤ pos 1 ≡ r.x2 = omega (arith, ints) in
    let y : (r.y2 -ℤ pos 1) +ℤ pos 1 ≡ r.y2 = omega (arith, ints) in
    record { x1 = a.low.x; y1 = a.low.y; x2 = rw x at b.high.x; y2 = rw y at b.high.y }

pub near_rects : (rects : List Rect) → IsCanonical rects → IsNearSet rects → All IsNearRect rects
near_rects rects h near k d lt = near_rect rects (get_or rects k d) near ((h.each (get_or rects k d)).0 (listed_get rects k d lt))

-- windows

pub meeting_append : (w : Rect) (xs ys : List Rect) → meeting w (xs ++ ys) ≡ meeting w xs ++ meeting w ys
meeting_append w [] ys = refl
meeting_append w (r ∷ xs) ys = ap (λ (q : List Rect). if meets r w then r ∷ q else q) (meeting_append w xs ys) ∙ sym (if_append (meets r w) (r ∷ meeting w xs) (meeting w xs) (meeting w ys))

both_between : (a b c d x : ℤ) → overlap a b c d ≡ false → (is_between a x b && is_between c x d) ≡ false
both_between a b c d x h = grind (arith, ints)

four_first : (a b c d : Bool) → (a && c) ≡ false → ((a && b) && (c && d)) ≡ false
four_first true true false d e = refl
four_first true false false d e = refl
four_first true b true d e = absurd (false≢true (sym e))
four_first false b c d e = refl

four_second : (a b c d : Bool) → (b && d) ≡ false → ((a && b) && (c && d)) ≡ false
four_second true true true d e = e
four_second true true false d e = refl
four_second true false c d e = refl
four_second false b c d e = refl

misses : (w r : Rect) (s : Square) → meets r w ≡ false → (has r s && has w s) ≡ false
misses w r s h = elim (and_cases (overlap r.x1 r.x2 w.x1 w.x2) (overlap r.y1 r.y2 w.y1 w.y2) h) [
  | inl e ↦ four_first (is_between r.x1 s.x r.x2) (is_between r.y1 s.y r.y2) (is_between w.x1 s.x w.x2) (is_between w.y1 s.y w.y2) (both_between r.x1 r.x2 w.x1 w.x2 s.x e)
  | inr e ↦ four_second (is_between r.x1 s.x r.x2) (is_between r.y1 s.y r.y2) (is_between w.x1 s.x w.x2) (is_between w.y1 s.y w.y2) (both_between r.y1 r.y2 w.y1 w.y2 s.y e)
]

pub meeting_covers : (w : Rect) (rects : List Rect) (s : Square) → (covers (meeting w rects) s && has w s) ≡ (covers rects s && has w s)
meeting_covers w [] s = refl
meeting_covers w (r ∷ rects) s =
    let rest = meeting_covers w rects s in
    elim (cases_Bool (meets r w)) [
      | inl t ↦ ap (λ xs. covers xs s && has w s) (if_true (meets r w) (r ∷ meeting w rects) (meeting w rects) t) ∙ joined (has r s) (covers (meeting w rects) s) (covers rects s) (has w s) rest
      | inr f ↦ ap (λ xs. covers xs s && has w s) (if_false (meets r w) (r ∷ meeting w rects) (meeting w rects) f) ∙ rest ∙ skipped (has r s) (covers rects s) (has w s) (misses w r s f)
    ]
  where
    joined : (h c d i : Bool) → (c && i) ≡ (d && i) → ((h || c) && i) ≡ ((h || d) && i)
    joined true c d i e = refl
    joined false c d i e = e

    skipped : (h c i : Bool) → (h && i) ≡ false → (c && i) ≡ ((h || c) && i)
    skipped true true i e = refl
    skipped true false i e = sym e
    skipped false c i e = refl

pub meeting_rects : (w : Rect) (rects : List Rect) → All IsRect rects → All IsRect (meeting w rects)
meeting_rects w [] h = h
meeting_rects w (r ∷ rects) h = one (meets r w) r (meeting w rects) (h 0 r (omega arith)) (meeting_rects w rects (λ k d lt. h (suc k) d (omega arith)))
  where
    one : (b : Bool) (r : Rect) (rest : List Rect) → IsRect r → All IsRect rest → All IsRect (if b then r ∷ rest else rest)
    one true r rest own h = with_first r rest own h
    one false r rest own h = h

pub window_covers : (w : Rect) (rects : List Rect) (s : Square) → (covers (meeting w rects) s && covers (w ∷ []) s) ≡ (covers rects s && has w s)
window_covers w rects s = ap (λ b. covers (meeting w rects) s && b) (one (has w s)) ∙ meeting_covers w rects s
  where
    one : (b : Bool) → (b || false) ≡ b
    one true = refl
    one false = refl

-- a set within a rectangle that is near is near
pub near_within : (w : Rect) (rects : List Rect) → IsNearRect w → ((s : Square) → covers rects s ≡ true → has w s ≡ true) → IsNearSet rects
near_within w rects near h s e =
    let i = inside_from w s (h s e) in
    let a = i.x1 in let b = i.x2 in let c = i.y1 in let d = i.y2 in
    let p1 = near.x1.low in let p2 = near.x2.high in let q1 = near.y1.low in let q2 = near.y2.high in
    record {
      low = record { x = record { low = omega (arith, ints); high = omega (arith, ints) }; y = record { low = omega (arith, ints); high = omega (arith, ints) } };
      high = record { x = record { low = omega (arith, ints); high = omega (arith, ints) }; y = record { low = omega (arith, ints); high = omega (arith, ints) } };
    }
