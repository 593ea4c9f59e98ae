-- Runs grown or shrunk at both ends, and a set grown or shrunk row by row and column by column.
use Rattle.std.proofs.Common.{◌≡◌, ◌↔◌, inl, inr, ℕ, suc, ◌+◌, ◌≤◌, ℤ, pos, negsuc, ◌+ℤ◌, ◌-ℤ◌, ◌≤ℤ◌, ◌<ℤ◌, int_lt, List, [], ◌∷◌, ◌++◌, true, false, refl, sym, ap, ◌∙◌, subst, arith, if◌then◌else◌}
use Rattle.base_laws.proofs.Tests.{if_true, if_false, lt_to, lt_from}
use Rattle.std.proofs.lemmas.Int.{ints, by_lt_z}
use Rattle.std.proofs.lemmas.Bool.{false≢true, cases_Bool, or_left, or_right, or_cases, and_from}
use Rattle.std.specs.List.{All}
use Rattle.geo_base.specs.Rects.{has, is_between, IsRect}
use Rattle.geo_base.specs.declared.shapes.Rect.{Rect}
use Rattle.geo_base.specs.declared.shapes.Square.{Square}
use Rattle.rect_sets.specs.Near.{IsNearSet}
use Rattle.rect_sets.specs.Rects.{covers, IsBlock, IsListed, IsCanonical}
use Rattle.rect_sets.proofs.Blocking.{listed_covers, covers_listed}
use Rattle.rect_sets.proofs.Dividing.{if_append, with_first}
use Rattle.rect_sets.proofs.Splitting.{inside_from}
use Rattle.flat_layout.specs.Plane.{IsSized}
use Rattle.sized_layers.specs.Sizes.{IsSize, AreBeside, IsReachedAlong, IsSizedAlong, flip, sized_rect, sized_rects, IsSquareWithin, IsSetWithin, growth, ShrinkLaw}

-- lists

pub sized_append : (d : ℤ) (xs ys : List Rect) → sized_rects d (xs ++ ys) ≡ sized_rects d xs ++ sized_rects d ys
sized_append d [] ys = refl
sized_append d (r ∷ xs) ys =
    let b = int_lt (r.x1 -ℤ d) (r.x2 +ℤ d) in
    ap (λ (q : List Rect). if b then sized_rect d r ∷ q else q) (sized_append d xs ys) ∙ sym (if_append b (sized_rect d r ∷ sized_rects d xs) (sized_rects d xs) (sized_rects d ys))

pub sized_are : (d : ℤ) (rects : List Rect) → All IsRect rects → All IsRect (sized_rects d rects)
sized_are d [] h = h
sized_are d (r ∷ rects) h =
    let rest = sized_are d rects (λ k e lt. h (suc k) e (omega arith)) in
    elim (cases_Bool (int_lt (r.x1 -ℤ d) (r.x2 +ℤ d))) [
      | inl t ↦ subst (λ (q : List Rect). All IsRect q) (sym (if_true (int_lt (r.x1 -ℤ d) (r.x2 +ℤ d)) (sized_rect d r ∷ sized_rects d rects) (sized_rects d rects) t))
          (with_first (sized_rect d r) (sized_rects d rects) (record { wide = lt_from (r.x1 -ℤ d) (r.x2 +ℤ d) t; high = (h 0 r (omega arith)).high }) rest)
      | inr f ↦ subst (λ (q : List Rect). All IsRect q) (sym (if_false (int_lt (r.x1 -ℤ d) (r.x2 +ℤ d)) (sized_rect d r ∷ sized_rects d rects) (sized_rects d rects) f)) rest
    ]

-- one of the rectangles, sized, has the square
pub record HasSized (d : ℤ) (rects : List Rect) (s : Square) : Type 0 where
  pub one : Rect
  pub listed : IsListed one rects
  pub has : has (sized_rect d one) s ≡ true

some_has : (d : ℤ) (r : Rect) (s : Square) → has (sized_rect d r) s ≡ true → int_lt (r.x1 -ℤ d) (r.x2 +ℤ d) ≡ true
some_has d r s e =
    let i = inside_from (sized_rect d r) s e in
    let a = i.x1 in let b = i.x2 in
    lt_to (r.x1 -ℤ d) (r.x2 +ℤ d) (omega (arith, ints))

pub to_sized : (d : ℤ) (rects : List Rect) (s : Square) → covers (sized_rects d rects) s ≡ true → HasSized d rects s
to_sized d [] s e = absurd (false≢true e)
to_sized d (r ∷ rects) s e = elim (cases_Bool (int_lt (r.x1 -ℤ d) (r.x2 +ℤ d))) [
  | inl t ↦
      elim (or_cases (has (sized_rect d r) s) (covers (sized_rects d rects) s) (subst (λ (q : List Rect). covers q s ≡ true) (if_true (int_lt (r.x1 -ℤ d) (r.x2 +ℤ d)) (sized_rect d r ∷ sized_rects d rects) (sized_rects d rects) t) e)) [
        | inl g ↦ record { one = r; listed = inl refl; has = g }
        | inr g ↦ (let h = to_sized d rects s g in record { one = h.one; listed = inr h.listed; has = h.has })
      ]
  | inr f ↦
      (let h = to_sized d rects s (subst (λ (q : List Rect). covers q s ≡ true) (if_false (int_lt (r.x1 -ℤ d) (r.x2 +ℤ d)) (sized_rect d r ∷ sized_rects d rects) (sized_rects d rects) f) e) in
      record { one = h.one; listed = inr h.listed; has = h.has })
]

pub from_sized : (d : ℤ) (rects : List Rect) (s : Square) (r : Rect) → IsListed r rects → has (sized_rect d r) s ≡ true → covers (sized_rects d rects) s ≡ true
from_sized d [] s r l e = absurd l
from_sized d (q ∷ rects) s r (inl f) e =
    let here : has (sized_rect d q) s ≡ true = subst (λ (p : Rect). has (sized_rect d p) s ≡ true) f e in
    let t = some_has d q s here in
    subst (λ (p : List Rect). covers p s ≡ true) (sym (if_true (int_lt (q.x1 -ℤ d) (q.x2 +ℤ d)) (sized_rect d q ∷ sized_rects d rects) (sized_rects d rects) t)) (or_left (has (sized_rect d q) s) (covers (sized_rects d rects) s) here)
from_sized d (q ∷ rects) s r (inr l) e =
    let rest = from_sized d rects s r l e in
    elim (cases_Bool (int_lt (q.x1 -ℤ d) (q.x2 +ℤ d))) [
      | inl t ↦ subst (λ (p : List Rect). covers p s ≡ true) (sym (if_true (int_lt (q.x1 -ℤ d) (q.x2 +ℤ d)) (sized_rect d q ∷ sized_rects d rects) (sized_rects d rects) t)) (or_right (has (sized_rect d q) s) (covers (sized_rects d rects) s) rest)
      | inr f ↦ subst (λ (p : List Rect). covers p s ≡ true) (sym (if_false (int_lt (q.x1 -ℤ d) (q.x2 +ℤ d)) (sized_rect d q ∷ sized_rects d rects) (sized_rects d rects) f)) rest
    ]

-- rows

between : (low x high : ℤ) → low ≤ℤ x → x <ℤ high → is_between low x high ≡ true
between low x high h g = grind (arith, ints)

has_at : (r : Rect) (x y : ℤ) → r.x1 ≤ℤ x → x <ℤ r.x2 → r.y1 ≤ℤ y → y <ℤ r.y2 → has r (record { x = x; y = y }) ≡ true
has_at r x y a b c d = and_from (is_between r.x1 x r.x2) (is_between r.y1 y r.y2) (between r.x1 x r.x2 a b) (between r.y1 y r.y2 c d)

-- the nearest square of the rectangle in the row of a square of the grown one
nearest : (n : ℕ) (r : Rect) (s : Square) → IsRect r → has (sized_rect (pos n) r) s ≡ true → (q : Square) × AreBeside n q s × (has r q ≡ true)
nearest n r s is e =
    let i = inside_from (sized_rect (pos n) r) s e in
    let a = i.x1 in let b = i.x2 in let w = is.wide in
    by_lt_z s.x r.x1
    (λ lt. (record { x = r.x1; y = s.y }, record { left = omega (arith, ints); right = omega (arith, ints); row = refl }, has_at r r.x1 s.y (omega (arith, ints)) w i.y1 i.y2))
    (λ le. by_lt_z s.x r.x2
    (λ lt. (record { x = s.x; y = s.y }, record { left = omega (arith, ints); right = omega (arith, ints); row = refl }, has_at r s.x s.y le lt i.y1 i.y2))
    (λ ge. (record { x = r.x2 -ℤ pos 1; y = s.y }, record { left = omega (arith, ints); right = omega (arith, ints); row = refl }, has_at r (r.x2 -ℤ pos 1) s.y (omega (arith, ints)) (omega (arith, ints)) i.y1 i.y2)))

grown_has : (n : ℕ) (r : Rect) (q s : Square) → AreBeside n q s → has r q ≡ true → has (sized_rect (pos n) r) s ≡ true
grown_has n r q s near e =
    let i = inside_from r q e in
    let a = i.x1 in let b = i.x2 in let c = i.y1 in let d = i.y2 in
    let l = near.left in let h = near.right in let row = near.row in
    has_at (sized_rect (pos n) r) s.x s.y (omega (arith, ints)) (omega (arith, ints)) (omega (arith, ints)) (omega (arith, ints))

pub grown : (n : ℕ) (rects : List Rect) (s : Square) → ((r : Rect) → IsListed r rects → IsRect r) → (covers (sized_rects (pos n) rects) s ≡ true) ↔ IsReachedAlong n (λ q. covers rects q ≡ true) s
grown n rects s are = (
  (λ e.
      let h = to_sized (pos n) rects s e in
      let near = nearest n h.one s (are h.one h.listed) h.has in
      record { square = near.0; beside = near.1; has = listed_covers rects near.0 h.one h.listed near.2 }),
  (λ h.
      let l = covers_listed rects h.square h.has in
      from_sized (pos n) rects s l.one l.listed (grown_has n l.one h.square s h.beside l.inside)),
)

shrunk_has : (n : ℕ) (r : Rect) (q s : Square) → AreBeside (suc n) q s → has (sized_rect (negsuc n) r) s ≡ true → has r q ≡ true
shrunk_has n r q s near e =
    let i = inside_from (sized_rect (negsuc n) r) s e in
    let a = i.x1 in let b = i.x2 in let c = i.y1 in let d = i.y2 in
    let l = near.left in let h = near.right in let row = near.row in
    has_at r q.x q.y (omega (arith, ints)) (omega (arith, ints)) (omega (arith, ints)) (omega (arith, ints))

beside_same : (n : ℕ) (s : Square) → AreBeside n s s
beside_same n s = record { left = omega (arith, ints); right = omega (arith, ints); row = refl }

-- where all beside s is in the set, the longest run round s goes as far on both sides
within_run : (n : ℕ) (rects : List Rect) (s : Square) (r : Rect) → IsBlock (covers rects) r → has r s ≡ true → ((q : Square) → AreBeside (suc n) q s → covers rects q ≡ true) → has (sized_rect (negsuc n) r) s ≡ true
within_run n rects s r block e all =
    let i = inside_from r s e in
    let a = i.x1 in let b = i.x2 in let c = i.y1 in let d = i.y2 in
    let run = block.rows s.y c d in
    let left : (r.x1 +ℤ pos (suc n)) ≤ℤ s.x = by_lt_z s.x (r.x1 +ℤ pos (suc n))
    (λ lt. absurd (false≢true (sym run.before ∙ all (record { x = r.x1 -ℤ pos 1; y = s.y }) (record { left = omega (arith, ints); right = omega (arith, ints); row = refl }))))
    (λ le. le) in
    let right : (s.x +ℤ pos (suc n)) <ℤ r.x2 = by_lt_z (s.x +ℤ pos (suc n)) r.x2
    (λ lt. lt)
    (λ le. absurd (false≢true (sym run.after ∙ all (record { x = r.x2; y = s.y }) (record { left = omega (arith, ints); right = omega (arith, ints); row = refl })))) in
    has_at (sized_rect (negsuc n) r) s.x s.y (omega (arith, ints)) (omega (arith, ints)) c d

pub shrunk : (n : ℕ) (rects : List Rect) (s : Square) → IsCanonical rects → (covers (sized_rects (negsuc n) rects) s ≡ true) ↔ ((q : Square) → AreBeside (suc n) q s → covers rects q ≡ true)
shrunk n rects s canonical = (
  (λ e q near.
      let h = to_sized (negsuc n) rects s e in
      listed_covers rects q h.one h.listed (shrunk_has n h.one q s near h.has)),
  (λ all.
      let l = covers_listed rects s (all s (beside_same (suc n) s)) in
      from_sized (negsuc n) rects s l.one l.listed (within_run n rects s l.one ((canonical.each l.one).0 l.listed) l.inside all)),
)

rect_in : (rects : List Rect) → IsCanonical rects → (r : Rect) → IsListed r rects → IsRect r
rect_in rects canonical r l =
    let block = (canonical.each r).0 l in
    let some = block.some in
    record { wide = (block.rows r.y1 (omega (arith, ints)) some).some; high = some }

pub sized_along : (d : ℤ) (rects : List Rect) (s : Square) → IsCanonical rects → (covers (sized_rects d rects) s ≡ true) ↔ IsSizedAlong d (λ q. covers rects q ≡ true) s
sized_along (pos n) rects s canonical = grown n rects s (rect_in rects canonical)
sized_along (negsuc n) rects s canonical = shrunk n rects s canonical

-- bounds

pub near_set : (n : ℕ) (rects : List Rect) → n ≤ 1099511627776 → IsSetWithin n rects → IsNearSet rects
near_set n rects le h s e =
    let i = h s e in
    let a = i.left in let b = i.right in let c = i.low in let d = i.high in
    record {
      low = record { x = record { low = omega (arith, ints); high = omega (arith, ints) }; y = record { low = omega (arith, ints); high = omega (arith, ints) } };
      high = record { x = record { low = omega (arith, ints); high = omega (arith, ints) }; y = record { low = omega (arith, ints); high = omega (arith, ints) } };
    }

along_within : (n : ℕ) (d : ℤ) (rects : List Rect) (s : Square) → IsSize d → IsSetWithin n rects → IsSizedAlong d (λ q. covers rects q ≡ true) s → IsSquareWithin (n + 10000) s
along_within n (pos m) rects s size h e =
    let i = h e.square e.has in
    let a = i.left in let b = i.right in let c = i.low in let f = i.high in
    let l = e.beside.left in let r = e.beside.right in let row = e.beside.row in
    let up = size.high in
    record { left = omega (arith, ints); right = omega (arith, ints); low = omega (arith, ints); high = omega (arith, ints) }
along_within n (negsuc m) rects s size h e =
    let i = h s (e s (beside_same (suc m) s)) in
    let a = i.left in let b = i.right in let c = i.low in let f = i.high in
    record { left = omega (arith, ints); right = omega (arith, ints); low = omega (arith, ints); high = omega (arith, ints) }

-- a set that was sized along its rows
pub record IsAlong (d : ℤ) (a b : List Rect) : Type 0 where
  pub each : (s : Square) → (covers b s ≡ true) ↔ IsSizedAlong d (λ q. covers a q ≡ true) s

-- and one with x and y exchanged
pub record IsFlip (a b : List Rect) : Type 0 where
  pub each : (s : Square) → covers b (flip s) ≡ covers a s

pub set_along : (n : ℕ) (d : ℤ) (a b : List Rect) → IsSize d → IsSetWithin n a → IsAlong d a b → IsSetWithin (n + 10000) b
set_along n d a b size h along s e = along_within n d a s size h ((along.each s).0 e)

pub set_flip : (n : ℕ) (a b : List Rect) → IsSetWithin n a → IsFlip a b → IsSetWithin n b
set_flip n a b h turn s e =
    let i = h (flip s) (sym (turn.each (flip s)) ∙ e) in
    record { left = i.low; right = i.high; low = i.left; high = i.right }

-- rows, then columns

pub both : (d : ℤ) (a rows turned columns set : List Rect) → IsAlong d a rows → IsFlip rows turned → IsAlong d turned columns → IsFlip columns set → (s : Square) → (covers set s ≡ true) ↔ IsSized d (λ q. covers a q ≡ true) s
both (pos n) a rows turned columns set one turn two back s = (
  (λ e.
      let h = (two.each (flip s)).0 (sym (back.each (flip s)) ∙ e) in
      let g = (one.each (flip h.square)).0 (sym (turn.each (flip h.square)) ∙ h.has) in
      let x = g.beside.left in let x' = g.beside.right in let y = g.beside.row in
      let u = h.beside.left in let u' = h.beside.right in let v = h.beside.row in
      record { square = g.square; within = record { left = omega (arith, ints); right = omega (arith, ints); low = omega (arith, ints); high = omega (arith, ints) }; has = g.has }),
  (λ h.
      let l = h.within.left in let r = h.within.right in let b = h.within.low in let t = h.within.high in
      let mid : Square = record { x = s.x; y = h.square.y } in
      let row : covers rows mid ≡ true = (one.each mid).1 (record { square = h.square; beside = record { left = l; right = r; row = refl }; has = h.has }) in
      let column : covers columns (flip s) ≡ true = (two.each (flip s)).1 (record { square = flip mid; beside = record { left = b; right = t; row = refl }; has = turn.each mid ∙ row }) in
      back.each (flip s) ∙ column),
)
both (negsuc n) a rows turned columns set one turn two back s = (
  (λ e q near.
      let l = near.left in let r = near.right in let b = near.low in let t = near.high in
      let mid : Square = record { x = s.x; y = q.y } in
      let column : covers turned (flip mid) ≡ true = (two.each (flip s)).0 (sym (back.each (flip s)) ∙ e) (flip mid) (record { left = b; right = t; row = refl }) in
      (one.each mid).0 (sym (turn.each mid) ∙ column) q (record { left = l; right = r; row = refl })),
  (λ all.
      let column : covers columns (flip s) ≡ true = (two.each (flip s)).1 (λ m near.
      let b = near.left in let t = near.right in let x = near.row in
      let row : covers rows (flip m) ≡ true = (one.each (flip m)).1 (λ q beside.
      let l = beside.left in let r = beside.right in let y = beside.row in
      all q (record { left = omega (arith, ints); right = omega (arith, ints); low = omega (arith, ints); high = omega (arith, ints) })) in
      turn.each (flip m) ∙ row) in
      back.each (flip s) ∙ column),
)

-- a sized set, and how far out it reaches
pub record AreSized (d : ℤ) (a b : List Rect) : Type 0 where
  pub each : (s : Square) → (covers b s ≡ true) ↔ IsSized d (λ q. covers a q ≡ true) s

within_sized : (n : ℕ) (d : ℤ) (a : List Rect) (s : Square) → IsSetWithin n a → IsSized d (λ q. covers a q ≡ true) s → IsSquareWithin (n + growth d) s
within_sized n (pos m) a s h e =
    let i = h e.square e.has in
    let w = i.left in let x = i.right in let y = i.low in let z = i.high in
    let l = e.within.left in let r = e.within.right in let b = e.within.low in let t = e.within.high in
    record { left = omega (arith, ints); right = omega (arith, ints); low = omega (arith, ints); high = omega (arith, ints) }
within_sized n (negsuc m) a s h e =
    let i = h s (e s (record { left = omega (arith, ints); right = omega (arith, ints); low = omega (arith, ints); high = omega (arith, ints) })) in
    let w = i.left in let x = i.right in let y = i.low in let z = i.high in
    record { left = omega (arith, ints); right = omega (arith, ints); low = omega (arith, ints); high = omega (arith, ints) }

pub set_sized : (n : ℕ) (d : ℤ) (a b : List Rect) → AreSized d a b → IsSetWithin n a → IsSetWithin (n + growth d) b
set_sized n d a b sized h s e = within_sized n d a s h ((sized.each s).0 e)

-- what a set leaves out

pub shrink : ShrinkLaw
shrink n rects p = (
  (λ all r. absurd (false≢true (sym r.has ∙ all r.square r.within))),
  (λ none q near. elim (cases_Bool (covers rects q)) [
    | inl t ↦ t
    | inr f ↦ absurd (none (record { square = q; within = near; has = f }))
  ]),
)
