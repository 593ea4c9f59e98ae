-- The halves of a set.
use Rattle.std.proofs.Common.{◌≡◌, inl, inr, ℕ, zero, suc, ℤ, pos, ◌+◌, ◌<◌, ◌-ℤ◌, ◌≤ℤ◌, ◌<ℤ◌, List, [], ◌∷◌, ◌++◌, Bool, true, false, ◌||◌, ◌&&◌, length, take, get_or, append_assoc, refl, sym, ap, ◌∙◌, subst, arith, int_lt, int_le, if◌then◌else◌}
use Rattle.base_laws.proofs.Tests.{if_true, if_false, lt_to, le_to, lt_from, le_from}
use Rattle.std.proofs.lemmas.Int.{ints, by_lt_z}
use Rattle.std.proofs.lemmas.Bool.{false≢true, or_parts, and_right, cases_Bool, or_cases, and_parts}
use Rattle.std.proofs.lemmas.Bool.Decides.{Decides-int_eq}
use Rattle.std.proofs.lemmas.List.{take_more, take_all}
use Rattle.std.specs.Ordering.{int_eq}
use Rattle.geo_base.specs.Rects.{is_between, has, IsRect}
use Rattle.rect_sets.specs.Rects.{covers, IsRun, IsBlock, IsListed}
use Rattle.rect_sets.specs.Sweeps.{AreBlocks}
use Rattle.geo_base.specs.Layers.{combined}
use Rattle.rect_sets.specs.Combined.{combined_set}
use Rattle.rect_sets.specs.Divided.{place, low_end, high_end, begins_before, ends_after, low_at, high_at, low_part, high_part, lows, highs, touches, kept, cut_off}
use Rattle.rect_sets.specs.Halves.{AreParted, low_half, high_half}
use Rattle.rect_sets.proofs.Blocking.{covers_listed}
use Rattle.rect_sets.proofs.Unique.{block_of, all_rects, rect_of}
use Rattle.rect_sets.proofs.Splitting.{covers_append, listed_either, shared_block, inside_from, IsInside, parted_blocks}
use Rattle.std.specs.List.{All}
use Rattle.rect_sets.specs.declared.cuts.Axis.{Axis}
use Rattle.rect_sets.specs.declared.cuts.Axis.TheVariants.{X, Y}
use Rattle.rect_sets.specs.declared.cuts.Cut.{Cut}
use Rattle.geo_base.specs.declared.shapes.Rect.{Rect}
use Rattle.geo_base.specs.declared.shapes.Square.{Square}
use Rattle.geo_base.specs.declared.layer.Op.{Op}
use Rattle.geo_base.specs.declared.layer.Op.TheVariants.{And, Or, Not, Xor}

pub lt_false : (a b : ℤ) → b ≤ℤ a → int_lt a b ≡ false
lt_false a b h = grind (arith, ints)

pub le_false : (a b : ℤ) → b <ℤ a → int_le a b ≡ false
le_false a b h = grind (arith, ints)

pub and_one : (b c : Bool) → c ≡ true → (b && c) ≡ b
and_one true c e = e
and_one false c e = refl

-- lists that are sorted out

kept_from : (cut : Cut) (rects : List Rect) (r : Rect) → IsListed r (kept cut rects) → IsListed r rects × (touches cut r ≡ false)
kept_from cut [] r h = absurd h
kept_from cut (q ∷ rects) r h = elim (cases_Bool (touches cut q)) [
  | inl t ↦ (let n = kept_from cut rects r (subst (λ (xs : List Rect). IsListed r xs) (if_true (touches cut q) (kept cut rects) (q ∷ kept cut rects) t) h) in (inr n.0, n.1))
  | inr f ↦ (let g : IsListed r (q ∷ kept cut rects) = subst (λ (xs : List Rect). IsListed r xs) (if_false (touches cut q) (kept cut rects) (q ∷ kept cut rects) f) h in
      elim g [ inl e ↦ (inl e, subst (λ (p : Rect). touches cut p ≡ false) (sym e) f) | inr k ↦ (let n = kept_from cut rects r k in (inr n.0, n.1)) ])
]

pub cut_from : (cut : Cut) (rects : List Rect) (r : Rect) → IsListed r (cut_off cut rects) → IsListed r rects × (touches cut r ≡ true)
cut_from cut [] r h = absurd h
cut_from cut (q ∷ rects) r h = elim (cases_Bool (touches cut q)) [
  | inr f ↦ (let n = cut_from cut rects r (subst (λ (xs : List Rect). IsListed r xs) (if_false (touches cut q) (q ∷ cut_off cut rects) (cut_off cut rects) f) h) in (inr n.0, n.1))
  | inl t ↦ (let g : IsListed r (q ∷ cut_off cut rects) = subst (λ (xs : List Rect). IsListed r xs) (if_true (touches cut q) (q ∷ cut_off cut rects) (cut_off cut rects) t) h in
      elim g [ inl e ↦ (inl e, subst (λ (p : Rect). touches cut p ≡ true) (sym e) t) | inr k ↦ (let n = cut_from cut rects r k in (inr n.0, n.1)) ])
]

or_swap : (k h c : Bool) → (k || (h || c)) ≡ (h || (k || c))
or_swap true true c = refl
or_swap true false c = refl
or_swap false h c = refl

or_first : (k h c : Bool) → ((h || k) || c) ≡ (h || (k || c))
or_first k true c = refl
or_first k false c = refl

covers_sorted : (cut : Cut) (rects : List Rect) (s : Square) → (covers (kept cut rects) s || covers (cut_off cut rects) s) ≡ covers rects s
covers_sorted cut [] s = refl
covers_sorted cut (q ∷ rects) s = elim (cases_Bool (touches cut q)) [
  | inl t ↦ ap (λ xs. covers xs s || covers (cut_off cut (q ∷ rects)) s) (if_true (touches cut q) (kept cut rects) (q ∷ kept cut rects) t) ∙
      ap (λ xs. covers (kept cut rects) s || covers xs s) (if_true (touches cut q) (q ∷ cut_off cut rects) (cut_off cut rects) t) ∙
      or_swap (covers (kept cut rects) s) (has q s) (covers (cut_off cut rects) s) ∙ ap (λ b. has q s || b) (covers_sorted cut rects s)
  | inr f ↦ ap (λ xs. covers xs s || covers (cut_off cut (q ∷ rects)) s) (if_false (touches cut q) (kept cut rects) (q ∷ kept cut rects) f) ∙
      ap (λ xs. (has q s || covers (kept cut rects) s) || covers xs s) (if_false (touches cut q) (q ∷ cut_off cut rects) (cut_off cut rects) f) ∙
      or_first (covers (kept cut rects) s) (has q s) (covers (cut_off cut rects) s) ∙ ap (λ b. has q s || b) (covers_sorted cut rects s)
]

not_touching : (cut : Cut) (r : Rect) → touches cut r ≡ false → ((low_end cut.axis r ≡ cut.at) → ⊥) × ((high_end cut.axis r ≡ cut.at) → ⊥)
not_touching cut r h =
    let n = or_parts (int_eq (low_end cut.axis r) cut.at) (int_eq (high_end cut.axis r) cut.at) h in (
      λ e. false≢true (sym n.0 ∙ (Decides-int_eq (low_end cut.axis r) cut.at).1 e),
      λ e. false≢true (sym n.1 ∙ (Decides-int_eq (high_end cut.axis r) cut.at).1 e),
    )

-- a block of a half that touches no cut

pub run_near : (f g : Square → Bool) (y a b : ℤ) → ((x : ℤ) → (a -ℤ pos 1) ≤ℤ x → x ≤ℤ b → f (record { x = x; y = y }) ≡ g (record { x = x; y = y })) → IsRun f y a b → IsRun g y a b
run_near f g y a b same h =
    let some = h.some in
    record {
      some = h.some;
      inside = λ x low high. sym (same x (omega (arith, ints)) (omega (arith, ints))) ∙ h.inside x low high;
      before = sym (same (a -ℤ pos 1) (omega (arith, ints)) (omega (arith, ints))) ∙ h.before;
      after = sym (same b (omega (arith, ints)) (omega (arith, ints))) ∙ h.after;
    }

-- sets that agree on a rectangle and one square around it
abbrev Agree : (Square → Bool) → (Square → Bool) → Rect → Type 0
Agree f g r = (x y : ℤ) → (r.x1 -ℤ pos 1) ≤ℤ x → x ≤ℤ r.x2 → (r.y1 -ℤ pos 1) ≤ℤ y → y ≤ℤ r.y2 → f (record { x = x; y = y }) ≡ g (record { x = x; y = y })

block_near : (f g : Square → Bool) (r : Rect) → Agree f g r → IsBlock f r → IsBlock g r
block_near f g r same h =
    let some = h.some in
    record {
      some = h.some;
      rows = λ y low high. run_near f g y r.x1 r.x2 (λ x a b. same x y a b (omega (arith, ints)) (omega (arith, ints))) (h.rows y low high);
      below = λ run. h.below (run_near g f (r.y1 -ℤ pos 1) r.x1 r.x2 (λ x a b. sym (same x (r.y1 -ℤ pos 1) a b (omega (arith, ints)) (omega (arith, ints)))) run);
      above = λ run. h.above (run_near g f r.y2 r.x1 r.x2 (λ x a b. sym (same x r.y2 a b (omega (arith, ints)) (omega (arith, ints)))) run);
    }

-- the first and the last square of a block
pub first_in : (set : Square → Bool) (r : Rect) → IsBlock set r → set (record { x = r.x1; y = r.y1 }) ≡ true
first_in set r h =
    let some = h.some in
    let run = h.rows r.y1 (omega (arith, ints)) some in
    let wide = run.some in run.inside r.x1 (omega (arith, ints)) wide

pub last_in : (set : Square → Bool) (r : Rect) → IsBlock set r → set (record { x = r.x2 -ℤ pos 1; y = r.y2 -ℤ pos 1 }) ≡ true
last_in set r h =
    let some = h.some in
    let run = h.rows (r.y2 -ℤ pos 1) (omega (arith, ints)) (omega (arith, ints)) in
    let wide = run.some in run.inside (r.x2 -ℤ pos 1) (omega (arith, ints)) (omega (arith, ints))

low_agrees : (set : Square → Bool) (axis : Axis) (at : ℤ) (r : Rect) → high_end axis r <ℤ at → Agree (low_half set (record { axis = axis; at = at })) set r
low_agrees set X at r lt x y a b c d = and_one (set (record { x = x; y = y })) (int_lt x at) (lt_to x at (omega (arith, ints)))
low_agrees set Y at r lt x y a b c d = and_one (set (record { x = x; y = y })) (int_lt y at) (lt_to y at (omega (arith, ints)))

high_agrees : (set : Square → Bool) (axis : Axis) (at : ℤ) (r : Rect) → at <ℤ low_end axis r → Agree (high_half set (record { axis = axis; at = at })) set r
high_agrees set X at r lt x y a b c d = and_one (set (record { x = x; y = y })) (int_le at x) (le_to at x (omega (arith, ints)))
high_agrees set Y at r lt x y a b c d = and_one (set (record { x = x; y = y })) (int_le at y) (le_to at y (omega (arith, ints)))

pub low_side : (set : Square → Bool) (axis : Axis) (at : ℤ) (r : Rect) → IsBlock (low_half set (record { axis = axis; at = at })) r → high_end axis r ≤ℤ at
low_side set X at r h =
    let s : Square = record { x = r.x2 -ℤ pos 1; y = r.y2 -ℤ pos 1 } in
    let lt = lt_from (r.x2 -ℤ pos 1) at (and_parts (set s) (int_lt (r.x2 -ℤ pos 1) at) (last_in _ r h)).1 in omega (arith, ints)
low_side set Y at r h =
    let s : Square = record { x = r.x2 -ℤ pos 1; y = r.y2 -ℤ pos 1 } in
    let lt = lt_from (r.y2 -ℤ pos 1) at (and_parts (set s) (int_lt (r.y2 -ℤ pos 1) at) (last_in _ r h)).1 in omega (arith, ints)

pub high_side : (set : Square → Bool) (axis : Axis) (at : ℤ) (r : Rect) → IsBlock (high_half set (record { axis = axis; at = at })) r → at ≤ℤ low_end axis r
high_side set X at r h = let s : Square = record { x = r.x1; y = r.y1 } in le_from at r.x1 (and_parts (set s) (int_le at r.x1) (first_in _ r h)).1
high_side set Y at r h = let s : Square = record { x = r.x1; y = r.y1 } in le_from at r.y1 (and_parts (set s) (int_le at r.y1) (first_in _ r h)).1

low_block : (set : Square → Bool) (cut : Cut) (r : Rect) → IsBlock (low_half set cut) r → touches cut r ≡ false → IsBlock set r
low_block set cut r h clear =
    let side = low_side set cut.axis cut.at r h in
    let less : high_end cut.axis r <ℤ cut.at = by_lt_z (high_end cut.axis r) cut.at (λ lt. lt) (λ le. absurd ((not_touching cut r clear).1 (omega (arith, ints)))) in
    block_near (low_half set cut) set r (low_agrees set cut.axis cut.at r less) h

high_block : (set : Square → Bool) (cut : Cut) (r : Rect) → IsBlock (high_half set cut) r → touches cut r ≡ false → IsBlock set r
high_block set cut r h clear =
    let side = high_side set cut.axis cut.at r h in
    let less : cut.at <ℤ low_end cut.axis r = by_lt_z cut.at (low_end cut.axis r) (λ lt. lt) (λ le. absurd ((not_touching cut r clear).0 (omega (arith, ints)))) in
    block_near (high_half set cut) set r (high_agrees set cut.axis cut.at r less) h

in_block : (set : Square → Bool) (r : Rect) (s : Square) → IsBlock set r → IsInside r s → set s ≡ true
in_block set r s k i = (k.rows s.y i.y1 i.y2).inside s.x i.x1 i.x2

-- one half or the other

half_or : (b : Bool) (x cut : ℤ) → b ≡ ((b && int_lt x cut) || (b && int_le cut x))
half_or true x cut = by_lt_z x cut (λ lt. sym (ap (λ c. c || int_le cut x) (lt_to x cut lt))) (λ le. sym (ap (λ c. c || int_le cut x) (lt_false x cut le) ∙ le_to cut x le))
half_or false x cut = refl

or_pairs : (a b c d : Bool) → ((a || b) || (c || d)) ≡ ((a || c) || (b || d))
or_pairs true b c d = refl
or_pairs false true true d = refl
or_pairs false true false d = refl
or_pairs false false true d = refl
or_pairs false false false d = refl

not_both : (set : Square → Bool) (cut : Cut) (s : Square) → low_half set cut s ≡ true → high_half set cut s ≡ true → ⊥
not_both set cut s e f =
    let a = lt_from (place cut.axis s) cut.at (and_parts (set s) (int_lt (place cut.axis s) cut.at) e).1 in
    let b = le_from cut.at (place cut.axis s) (and_parts (set s) (int_le cut.at (place cut.axis s)) f).1 in
    omega (arith, ints)

kept_cut : (half : Square → Bool) (cut : Cut) (rects : List Rect) (s : Square) → AreBlocks half rects → covers (kept cut rects) s ≡ true → covers (cut_off cut rects) s ≡ true → ⊥
kept_cut half cut rects s h e f =
    let l = covers_listed (kept cut rects) s e in
    let m = covers_listed (cut_off cut rects) s f in
    let a = kept_from cut rects l.one l.listed in
    let b = cut_from cut rects m.one m.listed in
    let same : l.one ≡ m.one = shared_block half l.one m.one s ((h.each l.one).0 a.0) ((h.each m.one).0 b.0) (inside_from l.one s l.inside) (inside_from m.one s m.inside) in
    false≢true (sym a.1 ∙ subst (λ (q : Rect). touches cut q ≡ true) (sym same) b.1)

kept_half : (half : Square → Bool) (cut : Cut) (rects : List Rect) (s : Square) → AreBlocks half rects → covers (kept cut rects) s ≡ true → half s ≡ true
kept_half half cut rects s h e =
    let l = covers_listed (kept cut rects) s e in
    in_block half l.one s ((h.each l.one).0 (kept_from cut rects l.one l.listed).0) (inside_from l.one s l.inside)

cut_half : (half : Square → Bool) (cut : Cut) (rects : List Rect) (s : Square) → AreBlocks half rects → covers (cut_off cut rects) s ≡ true → half s ≡ true
cut_half half cut rects s h e =
    let l = covers_listed (cut_off cut rects) s e in
    in_block half l.one s ((h.each l.one).0 (cut_from cut rects l.one l.listed).0) (inside_from l.one s l.inside)

or_other : (b c : Bool) → (b || c) ≡ (c || b)
or_other true true = refl
or_other true false = refl
or_other false true = refl
or_other false false = refl

pub parted : (set : Square → Bool) (cut : Cut) (low high : List Rect) → AreBlocks (low_half set cut) low → AreBlocks (high_half set cut) high → AreParted set (kept cut high ++ kept cut low) (cut_off cut high ++ cut_off cut low)
parted set cut low high h k = record {
  blocks = λ u g. elim (listed_either u (kept cut high) (kept cut low) g) [
    | inl a ↦ (let n = kept_from cut high u a in high_block set cut u ((k.each u).0 n.0) n.1)
    | inr b ↦ (let n = kept_from cut low u b in low_block set cut u ((h.each u).0 n.0) n.1)
  ];
  same = λ s.
      half_or (set s) (place cut.axis s) cut.at ∙ or_other (low_half set cut s) (high_half set cut s) ∙ ap (λ b. b || low_half set cut s) (sym (k.same s) ∙ sym (covers_sorted cut high s)) ∙
      ap (λ b. (covers (kept cut high) s || covers (cut_off cut high) s) || b) (sym (h.same s) ∙ sym (covers_sorted cut low s)) ∙
      or_pairs (covers (kept cut high) s) (covers (cut_off cut high) s) (covers (kept cut low) s) (covers (cut_off cut low) s) ∙
      ap (λ b. b || (covers (cut_off cut high) s || covers (cut_off cut low) s)) (sym (covers_append (kept cut high) (kept cut low) s)) ∙
      ap (λ b. covers (kept cut high ++ kept cut low) s || b) (sym (covers_append (cut_off cut high) (cut_off cut low) s));
  apart = λ s e f.
      elim (or_cases (covers (kept cut high) s) (covers (kept cut low) s) (sym (covers_append (kept cut high) (kept cut low) s) ∙ e)) [
        | inl a ↦ elim (or_cases (covers (cut_off cut high) s) (covers (cut_off cut low) s) (sym (covers_append (cut_off cut high) (cut_off cut low) s) ∙ f)) [
          | inl b ↦ kept_cut (high_half set cut) cut high s k a b
          | inr b ↦ not_both set cut s (cut_half (low_half set cut) cut low s h b) (kept_half (high_half set cut) cut high s k a)
        ]
        | inr a ↦ elim (or_cases (covers (cut_off cut high) s) (covers (cut_off cut low) s) (sym (covers_append (cut_off cut high) (cut_off cut low) s) ∙ f)) [
          | inl b ↦ not_both set cut s (kept_half (low_half set cut) cut low s h a) (cut_half (high_half set cut) cut high s k b)
          | inr b ↦ kept_cut (low_half set cut) cut low s h a b
        ]
      ];
}

-- the blocks of the halves that touch no cut are done, and the others are swept once more
pub halves : (set : Square → Bool) (cut : Cut) (low high joined : List Rect) → AreBlocks (low_half set cut) low → AreBlocks (high_half set cut) high → AreBlocks (covers (cut_off cut high ++ cut_off cut low)) joined → AreBlocks set ((kept cut high ++ kept cut low) ++ joined)
halves set cut low high joined h k j = parted_blocks set (kept cut high ++ kept cut low) (cut_off cut high ++ cut_off cut low) joined (parted set cut low high h k) j

-- blocks above a line that is above another don't touch the other
pub clear_below : (set : Square → Bool) (axis : Axis) (below at : ℤ) (r : Rect) → below <ℤ at → IsBlock (high_half set (record { axis = axis; at = at })) r → touches (record { axis = axis; at = below }) r ≡ false
clear_below set axis below at r lt h =
    let side = high_side set axis at r h in
    let area = side_of axis r (rect_of (high_half set (record { axis = axis; at = at })) r h) in
    elim (cases_Bool (touches (record { axis = axis; at = below }) r)) [
      | inr f ↦ f
      | inl t ↦ elim (or_cases (int_eq (low_end axis r) below) (int_eq (high_end axis r) below) t) [
        | inl e ↦ (let same = (Decides-int_eq (low_end axis r) below).0 e in absurd (omega (arith, ints)))
        | inr e ↦ (let same = (Decides-int_eq (high_end axis r) below).0 e in absurd (omega (arith, ints)))
      ]
    ]
  where
    side_of : (axis : Axis) (r : Rect) → IsRect r → low_end axis r <ℤ high_end axis r
    side_of X r h = h.wide
    side_of Y r h = h.high

-- what the parts cover

pub low_between : (x1 x x2 cut : ℤ) → is_between x1 x (if int_lt cut x2 then cut else x2) ≡ (is_between x1 x x2 && int_lt x cut)
low_between x1 x x2 cut = by_lt_z cut x2
    (λ lt. ap (λ (q : ℤ). is_between x1 x q) (if_true (int_lt cut x2) cut x2 (lt_to cut x2 lt)) ∙ shorter x1 x x2 cut lt)
    (λ le. ap (λ (q : ℤ). is_between x1 x q) (if_false (int_lt cut x2) cut x2 (lt_false cut x2 le)) ∙ longer x1 x x2 cut le)
  where
    shorter : (x1 x x2 cut : ℤ) → cut <ℤ x2 → is_between x1 x cut ≡ (is_between x1 x x2 && int_lt x cut)
    shorter x1 x x2 cut h = grind (arith, ints)

    longer : (x1 x x2 cut : ℤ) → x2 ≤ℤ cut → is_between x1 x x2 ≡ (is_between x1 x x2 && int_lt x cut)
    longer x1 x x2 cut h = grind (arith, ints)

pub high_between : (x1 x x2 cut : ℤ) → is_between (if int_lt x1 cut then cut else x1) x x2 ≡ (is_between x1 x x2 && int_le cut x)
high_between x1 x x2 cut = by_lt_z x1 cut
    (λ lt. ap (λ (q : ℤ). is_between q x x2) (if_true (int_lt x1 cut) cut x1 (lt_to x1 cut lt)) ∙ shorter x1 x x2 cut lt)
    (λ le. ap (λ (q : ℤ). is_between q x x2) (if_false (int_lt x1 cut) cut x1 (lt_false x1 cut le)) ∙ longer x1 x x2 cut le)
  where
    shorter : (x1 x x2 cut : ℤ) → x1 <ℤ cut → is_between cut x x2 ≡ (is_between x1 x x2 && int_le cut x)
    shorter x1 x x2 cut h = grind (arith, ints)

    longer : (x1 x x2 cut : ℤ) → cut ≤ℤ x1 → is_between x1 x x2 ≡ (is_between x1 x x2 && int_le cut x)
    longer x1 x x2 cut h = grind (arith, ints)

and_move : (p y l : Bool) → ((p && l) && y) ≡ ((p && y) && l)
and_move true true l = and_one l true refl
and_move true false true = refl
and_move true false false = refl
and_move false y l = refl

and_assoc : (p y l : Bool) → (p && (y && l)) ≡ ((p && y) && l)
and_assoc true y l = refl
and_assoc false y l = refl

or_and : (a b l : Bool) → ((a && l) || (b && l)) ≡ ((a || b) && l)
or_and true true true = refl
or_and true true false = refl
or_and true false true = refl
or_and true false false = refl
or_and false b l = refl

low_has : (axis : Axis) (at : ℤ) (r : Rect) (s : Square) → has (low_at axis at r) s ≡ (has r s && int_lt (place axis s) at)
low_has X at r s = ap (λ b. b && is_between r.y1 s.y r.y2) (low_between r.x1 s.x r.x2 at) ∙ and_move (is_between r.x1 s.x r.x2) (is_between r.y1 s.y r.y2) (int_lt s.x at)
low_has Y at r s = ap (λ b. is_between r.x1 s.x r.x2 && b) (low_between r.y1 s.y r.y2 at) ∙ and_assoc (is_between r.x1 s.x r.x2) (is_between r.y1 s.y r.y2) (int_lt s.y at)

high_has : (axis : Axis) (at : ℤ) (r : Rect) (s : Square) → has (high_at axis at r) s ≡ (has r s && int_le at (place axis s))
high_has X at r s = ap (λ b. b && is_between r.y1 s.y r.y2) (high_between r.x1 s.x r.x2 at) ∙ and_move (is_between r.x1 s.x r.x2) (is_between r.y1 s.y r.y2) (int_le at s.x)
high_has Y at r s = ap (λ b. is_between r.x1 s.x r.x2 && b) (high_between r.y1 s.y r.y2 at) ∙ and_assoc (is_between r.x1 s.x r.x2) (is_between r.y1 s.y r.y2) (int_le at s.y)

none_low : (x1 x x2 cut : ℤ) → cut ≤ℤ x1 → (is_between x1 x x2 && int_lt x cut) ≡ false
none_low x1 x x2 cut h = grind (arith, ints)

none_high : (x1 x x2 cut : ℤ) → x2 ≤ℤ cut → (is_between x1 x x2 && int_le cut x) ≡ false
none_high x1 x x2 cut h = grind (arith, ints)

low_misses : (axis : Axis) (at : ℤ) (r : Rect) (s : Square) → at ≤ℤ low_end axis r → (has r s && int_lt (place axis s) at) ≡ false
low_misses X at r s le = sym (and_move (is_between r.x1 s.x r.x2) (is_between r.y1 s.y r.y2) (int_lt s.x at)) ∙ ap (λ b. b && is_between r.y1 s.y r.y2) (none_low r.x1 s.x r.x2 at le)
low_misses Y at r s le = sym (and_assoc (is_between r.x1 s.x r.x2) (is_between r.y1 s.y r.y2) (int_lt s.y at)) ∙ and_right (is_between r.x1 s.x r.x2) _ (none_low r.y1 s.y r.y2 at le)

high_misses : (axis : Axis) (at : ℤ) (r : Rect) (s : Square) → high_end axis r ≤ℤ at → (has r s && int_le at (place axis s)) ≡ false
high_misses X at r s le = sym (and_move (is_between r.x1 s.x r.x2) (is_between r.y1 s.y r.y2) (int_le at s.x)) ∙ ap (λ b. b && is_between r.y1 s.y r.y2) (none_high r.x1 s.x r.x2 at le)
high_misses Y at r s le = sym (and_assoc (is_between r.x1 s.x r.x2) (is_between r.y1 s.y r.y2) (int_le at s.y)) ∙ and_right (is_between r.x1 s.x r.x2) _ (none_high r.y1 s.y r.y2 at le)

covers_lows : (c : Cut) (rects : List Rect) (s : Square) → covers (lows c rects) s ≡ (covers rects s && int_lt (place c.axis s) c.at)
covers_lows c [] s = refl
covers_lows c (r ∷ rects) s =
    let p = int_lt (place c.axis s) c.at in
    let rest = covers_lows c rects s in
    by_lt_z (low_end c.axis r) c.at
    (λ lt. ap (λ xs. covers xs s) (if_true (begins_before c r) (low_part c r ∷ lows c rects) (lows c rects) (lt_to (low_end c.axis r) c.at lt)) ∙
    ap (λ b. b || covers (lows c rects) s) (low_has c.axis c.at r s) ∙ ap (λ b. (has r s && p) || b) rest ∙ or_and (has r s) (covers rects s) p)
    (λ le. ap (λ xs. covers xs s) (if_false (begins_before c r) (low_part c r ∷ lows c rects) (lows c rects) (lt_false (low_end c.axis r) c.at le)) ∙
    rest ∙ ap (λ b. b || (covers rects s && p)) (sym (low_misses c.axis c.at r s le)) ∙ or_and (has r s) (covers rects s) p)

covers_highs : (c : Cut) (rects : List Rect) (s : Square) → covers (highs c rects) s ≡ (covers rects s && int_le c.at (place c.axis s))
covers_highs c [] s = refl
covers_highs c (r ∷ rects) s =
    let p = int_le c.at (place c.axis s) in
    let rest = covers_highs c rects s in
    by_lt_z c.at (high_end c.axis r)
    (λ lt. ap (λ xs. covers xs s) (if_true (ends_after c r) (high_part c r ∷ highs c rects) (highs c rects) (lt_to c.at (high_end c.axis r) lt)) ∙
    ap (λ b. b || covers (highs c rects) s) (high_has c.axis c.at r s) ∙ ap (λ b. (has r s && p) || b) rest ∙ or_and (has r s) (covers rects s) p)
    (λ le. ap (λ xs. covers xs s) (if_false (ends_after c r) (high_part c r ∷ highs c rects) (highs c rects) (lt_false c.at (high_end c.axis r) le)) ∙
    rest ∙ ap (λ b. b || (covers rects s && p)) (sym (high_misses c.axis c.at r s le)) ∙ or_and (has r s) (covers rects s) p)

-- each part has area

pub less_than_least : (a at b : ℤ) → a <ℤ at → a <ℤ b → a <ℤ (if int_lt at b then at else b)
less_than_least a at b h g = elim (cases_Bool (int_lt at b)) [
  | inl t ↦ subst (λ (q : ℤ). a <ℤ q) (sym (if_true (int_lt at b) at b t)) h
  | inr f ↦ subst (λ (q : ℤ). a <ℤ q) (sym (if_false (int_lt at b) at b f)) g
]

pub most_less_than : (a at b : ℤ) → at <ℤ b → a <ℤ b → (if int_lt a at then at else a) <ℤ b
most_less_than a at b h g = elim (cases_Bool (int_lt a at)) [
  | inl t ↦ subst (λ (q : ℤ). q <ℤ b) (sym (if_true (int_lt a at) at a t)) h
  | inr f ↦ subst (λ (q : ℤ). q <ℤ b) (sym (if_false (int_lt a at) at a f)) g
]

low_rect : (axis : Axis) (at : ℤ) (r : Rect) → low_end axis r <ℤ at → IsRect r → IsRect (low_at axis at r)
low_rect X at r lt h = record { wide = less_than_least r.x1 at r.x2 lt h.wide; high = h.high }
low_rect Y at r lt h = record { wide = h.wide; high = less_than_least r.y1 at r.y2 lt h.high }

high_rect : (axis : Axis) (at : ℤ) (r : Rect) → at <ℤ high_end axis r → IsRect r → IsRect (high_at axis at r)
high_rect X at r lt h = record { wide = most_less_than r.x1 at r.x2 lt h.wide; high = h.high }
high_rect Y at r lt h = record { wide = h.wide; high = most_less_than r.y1 at r.y2 lt h.high }

pub with_first : (r : Rect) (rects : List Rect) → IsRect r → All IsRect rects → All IsRect (r ∷ rects)
with_first r rects h g zero d lt = h
with_first r rects h g (suc k) d lt = g k d (omega arith)

pub lows_rects : (c : Cut) (rects : List Rect) → All IsRect rects → All IsRect (lows c rects)
lows_rects c [] h = h
lows_rects c (r ∷ rects) h =
    let rest = lows_rects c rects (λ k d lt. h (suc k) d (omega arith)) in
    by_lt_z (low_end c.axis r) c.at
    (λ lt. subst (λ (xs : List Rect). All IsRect xs) (sym (if_true (begins_before c r) (low_part c r ∷ lows c rects) (lows c rects) (lt_to (low_end c.axis r) c.at lt))) (with_first (low_part c r) (lows c rects) (low_rect c.axis c.at r lt (h 0 r (omega arith))) rest))
    (λ le. subst (λ (xs : List Rect). All IsRect xs) (sym (if_false (begins_before c r) (low_part c r ∷ lows c rects) (lows c rects) (lt_false (low_end c.axis r) c.at le))) rest)

pub highs_rects : (c : Cut) (rects : List Rect) → All IsRect rects → All IsRect (highs c rects)
highs_rects c [] h = h
highs_rects c (r ∷ rects) h =
    let rest = highs_rects c rects (λ k d lt. h (suc k) d (omega arith)) in
    by_lt_z c.at (high_end c.axis r)
    (λ lt. subst (λ (xs : List Rect). All IsRect xs) (sym (if_true (ends_after c r) (high_part c r ∷ highs c rects) (highs c rects) (lt_to c.at (high_end c.axis r) lt))) (with_first (high_part c r) (highs c rects) (high_rect c.axis c.at r lt (h 0 r (omega arith))) rest))
    (λ le. subst (λ (xs : List Rect). All IsRect xs) (sym (if_false (ends_after c r) (high_part c r ∷ highs c rects) (highs c rects) (lt_false c.at (high_end c.axis r) le))) rest)

-- the rectangles of a set's blocks have squares, and so have those of them that touch a cut
pub block_rects : (set : Square → Bool) (rects : List Rect) → AreBlocks set rects → All IsRect rects
block_rects set rects h = all_rects rects (λ r l. rect_of set r ((h.each r).0 l))

pub rect_in : (rects : List Rect) (r : Rect) → All IsRect rects → IsListed r rects → IsRect r
rect_in [] r h l = absurd l
rect_in (q ∷ rects) r h l = elim l [
  | inl e ↦ subst (λ (p : Rect). IsRect p) (sym e) (h 0 q (omega arith))
  | inr k ↦ rect_in rects r (λ k d lt. h (suc k) d (omega arith)) k
]

pub cut_rects : (c : Cut) (rest found : List Rect) → All IsRect rest → All IsRect found → All IsRect (rest ++ cut_off c found)
cut_rects c rest found h k = all_rects (rest ++ cut_off c found) (λ r l. elim (listed_either r rest (cut_off c found) l) [
  | inl a ↦ rect_in rest r h a
  | inr b ↦ rect_in found r k (cut_from c found r b).0
])

combined_and : (op : Op) (a b l : Bool) → combined op (a && l) (b && l) ≡ (combined op a b && l)
combined_and And true true true = refl
combined_and And true true false = refl
combined_and And true false true = refl
combined_and And true false false = refl
combined_and And false b l = refl
combined_and Or a b l = or_and a b l
combined_and Not true true true = refl
combined_and Not true true false = refl
combined_and Not true false true = refl
combined_and Not true false false = refl
combined_and Not false b l = refl
combined_and Xor true true true = refl
combined_and Xor true true false = refl
combined_and Xor true false true = refl
combined_and Xor true false false = refl
combined_and Xor false b l = refl

pub blocks_same : (f g : Square → Bool) (rects : List Rect) → ((s : Square) → f s ≡ g s) → AreBlocks f rects → AreBlocks g rects
blocks_same f g rects same h = record {
  each = λ r. (λ l. block_of f g r same ((h.each r).0 l), λ k. (h.each r).1 (block_of g f r (λ s. sym (same s)) k));
  same = λ s. h.same s ∙ same s;
}

-- what the operator gives of the lower parts is the lower half of what it gives, and so of the upper
pub low_blocks : (op : Op) (cut : Cut) (a b rects : List Rect) → AreBlocks (combined_set op (lows cut a) (lows cut b)) rects → AreBlocks (low_half (combined_set op a b) cut) rects
low_blocks op cut a b rects h =
    blocks_same (combined_set op (lows cut a) (lows cut b)) (low_half (combined_set op a b) cut) rects (λ s. ap (λ p. combined op p (covers (lows cut b) s)) (covers_lows cut a s) ∙ ap (λ p. combined op (covers a s && int_lt (place cut.axis s) cut.at) p) (covers_lows cut b s) ∙ combined_and op (covers a s) (covers b s) (int_lt (place cut.axis s) cut.at)) h

pub high_combined : (op : Op) (cut : Cut) (a b : List Rect) (s : Square) → combined_set op (highs cut a) (highs cut b) s ≡ high_half (combined_set op a b) cut s
high_combined op cut a b s =
    ap (λ p. combined op p (covers (highs cut b) s)) (covers_highs cut a s) ∙ ap (λ p. combined op (covers a s && int_le cut.at (place cut.axis s)) p) (covers_highs cut b s) ∙ combined_and op (covers a s) (covers b s) (int_le cut.at (place cut.axis s))

-- the loops

pub if_append : (b : Bool) (x y z : List Rect) → ((if b then x else y) ++ z) ≡ (if b then (x ++ z) else (y ++ z))
if_append true x y z = refl
if_append false x y z = refl

pub lows_append : (cut : Cut) (xs ys : List Rect) → lows cut (xs ++ ys) ≡ lows cut xs ++ lows cut ys
lows_append cut [] ys = refl
lows_append cut (r ∷ xs) ys = ap (λ (q : List Rect). if begins_before cut r then low_part cut r ∷ q else q) (lows_append cut xs ys) ∙ sym (if_append (begins_before cut r) (low_part cut r ∷ lows cut xs) (lows cut xs) (lows cut ys))

pub highs_append : (cut : Cut) (xs ys : List Rect) → highs cut (xs ++ ys) ≡ highs cut xs ++ highs cut ys
highs_append cut [] ys = refl
highs_append cut (r ∷ xs) ys = ap (λ (q : List Rect). if ends_after cut r then high_part cut r ∷ q else q) (highs_append cut xs ys) ∙ sym (if_append (ends_after cut r) (high_part cut r ∷ highs cut xs) (highs cut xs) (highs cut ys))

pub kept_append : (cut : Cut) (xs ys : List Rect) → kept cut (xs ++ ys) ≡ kept cut xs ++ kept cut ys
kept_append cut [] ys = refl
kept_append cut (r ∷ xs) ys = ap (λ (q : List Rect). if touches cut r then q else r ∷ q) (kept_append cut xs ys) ∙ sym (if_append (touches cut r) (kept cut xs) (r ∷ kept cut xs) (kept cut ys))

pub cut_append : (cut : Cut) (xs ys : List Rect) → cut_off cut (xs ++ ys) ≡ cut_off cut xs ++ cut_off cut ys
cut_append cut [] ys = refl
cut_append cut (r ∷ xs) ys = ap (λ (q : List Rect). if touches cut r then r ∷ q else q) (cut_append cut xs ys) ∙ sym (if_append (touches cut r) (r ∷ cut_off cut xs) (cut_off cut xs) (cut_off cut ys))

-- one step of a loop that adds f of one more to a list, where f goes over ++
pub loop_more : (f : List Rect → List Rect) → ((xs ys : List Rect) → f (xs ++ ys) ≡ f xs ++ f ys) → (rects : List Rect) (i : ℕ) (d : Rect) (old out : List Rect) → i < length rects → out ≡ old ++ f (take i rects) → out ++ f (get_or rects i d ∷ []) ≡ old ++ f (take (i + 1) rects)
loop_more f over rects i d old out lt e = ap (λ (q : List Rect). q ++ f (get_or rects i d ∷ [])) e ∙ append_assoc old (f (take i rects)) (f (get_or rects i d ∷ [])) ∙ ap (λ (q : List Rect). old ++ q) (sym (over (take i rects) (get_or rects i d ∷ [])) ∙ ap f (sym (take_more rects i d lt)))

pub loop_all : (f : List Rect → List Rect) (rects : List Rect) (i : ℕ) (old out : List Rect) → length rects < i + 1 → out ≡ old ++ f (take i rects) → out ≡ old ++ f rects
loop_all f rects i old out le e = e ∙ ap (λ (q : List Rect). old ++ f q) (take_all i rects (omega arith))
