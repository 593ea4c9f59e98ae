-- The blocks of a set in stripes.
use Rattle.std.proofs.Common.{◌≡◌, inl, inr, ℕ, zero, suc, ℤ, pos, ◌+◌, ◌<◌, ◌≤◌, ◌<ℤ◌, List, [], ◌∷◌, ◌++◌, Bool, false, ◌&&◌, length, get_or, append_assoc, refl, sym, ap, ◌∙◌, subst, arith, int_lt, int_le}
use Rattle.base_laws.proofs.Tests.{if_true, if_false}
use Rattle.std.proofs.lemmas.Bool.{cases_lt, cases_Bool}
use Rattle.std.specs.List.{All}
use Rattle.geo_base.specs.Rects.{IsRect}
use Rattle.geo_base.specs.declared.shapes.Rect.{Rect}
use Rattle.geo_base.specs.declared.shapes.Square.{Square}
use Rattle.rect_sets.specs.Rects.{covers, IsListed}
use Rattle.rect_sets.specs.Sweeps.{AreBlocks}
use Rattle.rect_sets.specs.Combined.{combined_set}
use Rattle.rect_sets.specs.Divided.{place, touches, highs, kept, cut_off}
use Rattle.rect_sets.specs.Halves.{low_half, high_half}
use Rattle.rect_sets.specs.Stripes.{AreRising, cut_of, line_at, stripe, within, beyond, done_of, rest_of, AreSorted, AreJoined, IsSwept}
use Rattle.rect_sets.specs.declared.cuts.Axis.{Axis}
use Rattle.rect_sets.specs.declared.cuts.Cut.{Cut}
use Rattle.geo_base.specs.declared.layer.Op.{Op}
use Rattle.rect_sets.proofs.Unique.{all_rects}
use Rattle.rect_sets.proofs.Dividing.{blocks_same, low_blocks, high_combined, halves, block_rects, kept_append, cut_append, clear_below, rect_in, cut_from}

-- sets that agree agree in each stripe

low_same : (cut : Cut) (f g : Square → Bool) → ((s : Square) → f s ≡ g s) → (s : Square) → low_half f cut s ≡ low_half g cut s
low_same cut f g same s = ap (λ (b : Bool). b && int_lt (place cut.axis s) cut.at) (same s)

high_same : (cut : Cut) (f g : Square → Bool) → ((s : Square) → f s ≡ g s) → (s : Square) → high_half f cut s ≡ high_half g cut s
high_same cut f g same s = ap (λ (b : Bool). b && int_le cut.at (place cut.axis s)) (same s)

within_same : (i : ℕ) (axis : Axis) (at : List ℤ) (f g : Square → Bool) → ((s : Square) → f s ≡ g s) → (s : Square) → within i axis at f s ≡ within i axis at g s
within_same zero axis [] f g same s = same s
within_same (suc i) axis [] f g same s = same s
within_same zero axis (a ∷ at) f g same s = low_same (cut_of axis a) f g same s
within_same (suc i) axis (a ∷ at) f g same s = within_same i axis at (high_half f (cut_of axis a)) (high_half g (cut_of axis a)) (high_same (cut_of axis a) f g same) s

-- what the operator gives of a stripe's lists is the stripe of what it gives
pub stripe_blocks : (i : ℕ) (axis : Axis) (at : List ℤ) (op : Op) (a b rects : List Rect) → i ≤ length at → AreBlocks (combined_set op (stripe i axis at a) (stripe i axis at b)) rects → AreBlocks (within i axis at (combined_set op a b)) rects
stripe_blocks zero axis [] op a b rects le h = h
stripe_blocks (suc i) axis [] op a b rects le h = absurd (omega arith)
stripe_blocks zero axis (c ∷ at) op a b rects le h = low_blocks op (cut_of axis c) a b rects h
stripe_blocks (suc i) axis (c ∷ at) op a b rects le h =
    let cut = cut_of axis c in
    blocks_same (within i axis at (combined_set op (highs cut a) (highs cut b))) (within i axis at (high_half (combined_set op a b) cut)) rects
    (within_same i axis at (combined_set op (highs cut a) (highs cut b)) (high_half (combined_set op a b) cut) (high_combined op cut a b))
    (stripe_blocks i axis at op (highs cut a) (highs cut b) rects (omega arith) h)

-- a stripe and those above it are the two halves at the line between

within_at : (i : ℕ) (axis : Axis) (at : List ℤ) (set : Square → Bool) → i < length at → within i axis at set ≡ low_half (beyond i axis at set) (line_at axis at i)
within_at i axis [] set lt = absurd (omega arith)
within_at zero axis (a ∷ at) set lt = refl
within_at (suc i) axis (a ∷ at) set lt = within_at i axis at (high_half set (cut_of axis a)) (omega arith)

beyond_next : (i : ℕ) (axis : Axis) (at : List ℤ) (set : Square → Bool) → i < length at → beyond (suc i) axis at set ≡ high_half (beyond i axis at set) (line_at axis at i)
beyond_next i axis [] set lt = absurd (omega arith)
beyond_next zero axis (a ∷ at) set lt = refl
beyond_next (suc i) axis (a ∷ at) set lt = beyond_next i axis at (high_half set (cut_of axis a)) (omega arith)

within_last : (i : ℕ) (axis : Axis) (at : List ℤ) (set : Square → Bool) → i ≡ length at → within i axis at set ≡ beyond i axis at set
within_last zero axis [] set e = refl
within_last (suc i) axis [] set e = absurd (omega arith)
within_last zero axis (a ∷ at) set e = absurd (omega arith)
within_last (suc i) axis (a ∷ at) set e = within_last i axis at (high_half set (cut_of axis a)) (omega arith)

rising_at : (i : ℕ) (at : List ℤ) → AreRising at → suc i < length at → get_or at i (pos 0) <ℤ get_or at (suc i) (pos 0)
rising_at i [] h lt = absurd (omega arith)
rising_at zero (a ∷ []) h lt = absurd (omega arith)
rising_at (suc i) (a ∷ []) h lt = absurd (omega arith)
rising_at zero (a ∷ b ∷ at) h lt = h.0
rising_at (suc i) (a ∷ b ∷ at) h lt = rising_at i (b ∷ at) h.1 (omega arith)

-- rectangles that don't touch a line

clear_kept : (cut : Cut) (rects : List Rect) → ((r : Rect) → IsListed r rects → touches cut r ≡ false) → kept cut rects ≡ rects
clear_kept cut [] h = refl
clear_kept cut (r ∷ rects) h = if_false (touches cut r) (kept cut rects) (r ∷ kept cut rects) (h r (inl refl)) ∙ ap (λ (q : List Rect). r ∷ q) (clear_kept cut rects (λ q l. h q (inr l)))

clear_cut : (cut : Cut) (rects : List Rect) → ((r : Rect) → IsListed r rects → touches cut r ≡ false) → cut_off cut rects ≡ []
clear_cut cut [] h = refl
clear_cut cut (r ∷ rects) h = if_false (touches cut r) (r ∷ cut_off cut rects) (cut_off cut rects) (h r (inl refl)) ∙ clear_cut cut rects (λ q l. h q (inr l))

-- they stay done when more are sorted out by a line below
record StaysDone (i : ℕ) (axis : Axis) (at : List ℤ) (done all : List Rect) : Type 0 where
  done_are : done ++ done_of i axis at all ≡ done_of i axis at (done ++ all)
  rest_are : rest_of i axis at all ≡ rest_of i axis at (done ++ all)

stays_done : (i : ℕ) (axis : Axis) (at : List ℤ) (set : Square → Bool) (above done all : List Rect) → AreRising at → i < length at → AreBlocks (high_half set (line_at axis at i)) above → ((r : Rect) → IsListed r done → IsListed r above) → StaysDone i axis at done all
stays_done zero axis at set above done all h lt k from = record { done_are = refl; rest_are = refl }
stays_done (suc i) axis at set above done all h lt k from =
    let cut = line_at axis at i in
    let clear : (r : Rect) → IsListed r done → touches cut r ≡ false = λ r l. clear_below set axis (get_or at i (pos 0)) (get_or at (suc i) (pos 0)) r (rising_at i at h lt) ((k.each r).0 (from r l)) in
    record {
      done_are = ap (λ (q : List Rect). q ++ kept cut all) (sym (clear_kept cut done clear)) ∙ sym (kept_append cut done all);
      rest_are = ap (λ (q : List Rect). q ++ cut_off cut all) (sym (clear_cut cut done clear)) ∙ sym (cut_append cut done all);
    }

kept_listed : (cut : Cut) (rects : List Rect) (r : Rect) → IsListed r (kept cut rects) → IsListed r rects
kept_listed cut [] r h = absurd h
kept_listed cut (q ∷ rects) r h = elim (cases_Bool (touches cut q)) [
  | inl t ↦ inr (kept_listed cut rects r (subst (λ (xs : List Rect). IsListed r xs) (if_true (touches cut q) (kept cut rects) (q ∷ kept cut rects) t) h))
  | inr f ↦ (let g : IsListed r (q ∷ kept cut rects) = subst (λ (xs : List Rect). IsListed r xs) (if_false (touches cut q) (kept cut rects) (q ∷ kept cut rects) f) h in
      elim g [ inl e ↦ inl e | inr k ↦ inr (kept_listed cut rects r k) ])
]

-- a stripe below joined ones

pub joined_next : (i : ℕ) (axis : Axis) (at : List ℤ) (set : Square → Bool) (found done rest all : List Rect) → AreRising at → i < length at → AreBlocks (within i axis at set) found → AreJoined (i + 1) axis at set done rest → IsSwept (line_at axis at i) found rest all
    → AreJoined i axis at set (done ++ done_of i axis at all) (rest_of i axis at all)
joined_next i axis at set found done rest all h lt f j w =
    let cut = line_at axis at i in
    let below = beyond i axis at set in
    let next : i + 1 ≡ suc i = omega arith in
    let s : AreSorted (suc i) axis at set done rest = subst (λ (n : ℕ). AreSorted n axis at set done rest) next (j.some (omega arith)) in
    let high : AreBlocks (high_half below cut) s.all = subst (λ (g : Square → Bool). AreBlocks g s.all) (beyond_next i axis at set lt) s.blocks in
    let low : AreBlocks (low_half below cut) found = subst (λ (g : Square → Bool). AreBlocks g found) (within_at i axis at set lt) f in
    let again : AreBlocks (covers (cut_off cut s.all ++ cut_off cut found)) w.joined = subst (λ (q : List Rect). AreBlocks (covers (q ++ cut_off cut found)) w.joined) s.rest_are w.blocks in
    let whole : AreBlocks below ((kept cut s.all ++ kept cut found) ++ w.joined) = halves below cut found s.all w.joined low high again in
    let e : (kept cut s.all ++ kept cut found) ++ w.joined ≡ done ++ all = append_assoc (kept cut s.all) (kept cut found) w.joined ∙ ap (λ (q : List Rect). q ++ (kept cut found ++ w.joined)) (sym s.done_are) ∙ ap (λ (q : List Rect). done ++ q) (sym w.all_are) in
    let stays = stays_done i axis at below s.all done all h lt high (λ r l. kept_listed cut s.all r (subst (λ (q : List Rect). IsListed r q) s.done_are l)) in
    record {
      none = λ past. absurd (omega arith);
      some = λ le. record { all = done ++ all; blocks = subst (λ (q : List Rect). AreBlocks below q) e whole; done_are = stays.done_are; rest_are = stays.rest_are };
    }

-- the last stripe
pub joined_last : (i : ℕ) (axis : Axis) (at : List ℤ) (set : Square → Bool) (found done rest : List Rect) → i ≡ length at → AreBlocks (within i axis at set) found → AreJoined (i + 1) axis at set done rest → AreJoined i axis at set (done ++ done_of i axis at found) (rest_of i axis at found)
joined_last i axis at set found done rest e f j = record {
  none = λ past. absurd (omega arith);
  some = λ le. record {
    all = found;
    blocks = subst (λ (g : Square → Bool). AreBlocks g found) (within_last i axis at set e) f;
    done_are = ap (λ (q : List Rect). q ++ done_of i axis at found) (j.none (omega arith)).0;
    rest_are = refl;
  };
}

pub joined_none : (i : ℕ) (axis : Axis) (at : List ℤ) (set : Square → Bool) (done rest : List Rect) → length at < i → done ≡ [] → rest ≡ [] → AreJoined i axis at set done rest
joined_none i axis at set done rest lt e f = record { none = λ past. (e, f); some = λ le. absurd (omega arith) }

pub joined_all : (axis : Axis) (at : List ℤ) (set : Square → Bool) (done rest : List Rect) → AreJoined zero axis at set done rest → AreBlocks set done
joined_all axis at set done rest j = let s = j.some (omega arith) in subst (λ (q : List Rect). AreBlocks set q) (sym s.done_are) s.blocks

rest_rects : (i : ℕ) (axis : Axis) (at : List ℤ) (rects : List Rect) → All IsRect rects → All IsRect (rest_of i axis at rects)
rest_rects zero axis at rects h = λ k d lt. absurd (omega arith)
rest_rects (suc i) axis at rects h = all_rects (cut_off (line_at axis at i) rects) (λ r l. rect_in rects r h (cut_from (line_at axis at i) rects r l).0)

pub joined_rects : (i : ℕ) (axis : Axis) (at : List ℤ) (set : Square → Bool) (done rest : List Rect) → AreJoined i axis at set done rest → All IsRect rest
joined_rects i axis at set done rest j = elim (cases_lt (length at) i) [
  | inl lt ↦ subst (λ (q : List Rect). All IsRect q) (sym (j.none lt).1) (λ k d lt. absurd (omega arith))
  | inr le ↦ (let s = j.some le in subst (λ (q : List Rect). All IsRect q) (sym s.rest_are) (rest_rects i axis at s.all (block_rects (beyond i axis at set) s.all s.blocks)))
]
