-- Lists of the parts of rectangles in stripes.
use Rattle.std.proofs.Common.{◌≡◌, ℕ, zero, suc, ℤ, pos, ◌+◌, ◌-◌, ◌<◌, ◌≤◌, ◌≤ℤ◌, ◌<ℤ◌, List, [], ◌∷◌, ◌++◌, true, false, length, take, drop, get_or, set, append_assoc, refl, sym, ap, ◌∙◌, subst, arith, int_lt}
use Rattle.base_laws.proofs.Tests.{if_true, if_false, lt_to}
use Rattle.std.specs.Global.{Vec}
use Rattle.std.proofs.lemmas.Int.{ints}
use Rattle.std.proofs.lemmas.List.{drop_more, drop_all, length-map, get_or-map}
use Rattle.std.specs.List.{All}
use Rattle.geo_base.specs.Rects.{IsRect}
use Rattle.geo_base.specs.declared.shapes.Rect.{Rect}
use Rattle.rect_sets.specs.Divided.{low_end, high_end, begins_before, ends_after, low_part, high_part, high_at, lows, highs}
use Rattle.rect_sets.specs.Stripes.{lists_of, list_at, AreRising, ArePassed, cut_of, line_at, stripe, only, AreFirst, AreAdded}
use Rattle.rect_sets.specs.declared.cuts.Axis.{Axis}
use Rattle.rect_sets.specs.declared.cuts.Axis.TheVariants.{X, Y}
use Rattle.rect_sets.specs.declared.cuts.Cut.{Cut}
use Rattle.rect_sets.specs.declared.cuts.Lines.{Lines}
use Rattle.rect_sets.proofs.Dividing.{lt_false, lows_append, highs_append, lows_rects, highs_rects}

pub none_more : (xs : List Rect) → xs ++ [] ≡ xs
none_more [] = refl
none_more (x ∷ xs) = ap (λ (q : List Rect). x ∷ q) (none_more xs)

-- one more at a place

pub added : (old : List (Vec Rect)) (i : ℕ) (v w : Vec Rect) (r : Rect) → i < length (lists_of old) → v ≡ get_or old i v → w.items ≡ v.items ++ r ∷ [] → (j : ℕ) → list_at (set old i w) j ≡ list_at old j ++ only i (r ∷ []) j
added [] i v w r lt at e j = absurd (omega arith)
added (x ∷ old) zero v w r lt at e zero = e ∙ ap (λ (q : Vec Rect). q.items ++ r ∷ []) at
added (x ∷ old) zero v w r lt at e (suc j) = sym (none_more (list_at old j))
added (x ∷ old) (suc i) v w r lt at e zero = sym (none_more x.items)
added (x ∷ old) (suc i) v w r lt at e (suc j) = added old i v w r (omega arith) at e j

pub none_pushed : (xs : List (Vec Rect)) (v : Vec Rect) → v.items ≡ [] → ((j : ℕ) → list_at xs j ≡ []) → (j : ℕ) → list_at (xs ++ v ∷ []) j ≡ []
none_pushed [] v e h zero = e
none_pushed [] v e h (suc j) = refl
none_pushed (x ∷ xs) v e h zero = h zero
none_pushed (x ∷ xs) v e h (suc j) = none_pushed xs v e (λ k. h (suc k)) j

pub count_pushed : (xs : List (Vec Rect)) (v : Vec Rect) → length (lists_of (xs ++ v ∷ [])) ≡ length (lists_of xs) + 1
count_pushed [] v = omega arith
count_pushed (x ∷ xs) v = let e = count_pushed xs v in omega arith

pub only_none : (i j : ℕ) → only i [] j ≡ []
only_none zero zero = refl
only_none zero (suc j) = refl
only_none (suc i) zero = refl
only_none (suc i) (suc j) = only_none i j

pub low_one : (cut : Cut) (r : Rect) → begins_before cut r ≡ true → lows cut (r ∷ []) ≡ low_part cut r ∷ []
low_one cut r e = if_true (begins_before cut r) (low_part cut r ∷ []) [] e

pub low_none : (cut : Cut) (r : Rect) → begins_before cut r ≡ false → lows cut (r ∷ []) ≡ []
low_none cut r e = if_false (begins_before cut r) (low_part cut r ∷ []) [] e

high_one : (cut : Cut) (r : Rect) → ends_after cut r ≡ true → highs cut (r ∷ []) ≡ high_part cut r ∷ []
high_one cut r e = if_true (ends_after cut r) (high_part cut r ∷ []) [] e

high_none : (cut : Cut) (r : Rect) → ends_after cut r ≡ false → highs cut (r ∷ []) ≡ []
high_none cut r e = if_false (ends_after cut r) (high_part cut r ∷ []) [] e

pub added_low : (old new : List (Vec Rect)) (i : ℕ) (cut : Cut) (r : Rect) → begins_before cut r ≡ true → ((j : ℕ) → list_at new j ≡ list_at old j ++ only i (low_part cut r ∷ []) j) → (j : ℕ) → list_at new j ≡ list_at old j ++ only i (lows cut (r ∷ [])) j
added_low old new i cut r e h j = h j ∙ ap (λ (q : List Rect). list_at old j ++ only i q j) (sym (low_one cut r e))

pub added_none : (old : List (Vec Rect)) (i : ℕ) (cut : Cut) (r : Rect) → begins_before cut r ≡ false → (j : ℕ) → list_at old j ≡ list_at old j ++ only i (lows cut (r ∷ [])) j
added_none old i cut r e j = sym (ap (λ (q : List Rect). list_at old j ++ only i q j) (low_none cut r e) ∙ ap (λ (q : List Rect). list_at old j ++ q) (only_none i j) ∙ none_more (list_at old j))

-- lines that are passed

passed : (x : ℤ) (g : ℕ) (at : List ℤ) (d : ℤ) → AreRising at → g < length at → get_or at g d ≤ℤ x → ArePassed x (suc g) at
passed x g [] d h lt le = absurd (omega arith)
passed x zero (a ∷ at) d h lt le = (le, tt)
passed x (suc g) (a ∷ []) d h lt le = absurd (omega arith)
passed x (suc g) (a ∷ b ∷ at) d h lt le =
    let rest = passed x g (b ∷ at) d h.1 (omega arith) le in
    let h0 = h.0 in let r0 = rest.0 in
    (omega (arith, ints), rest)

pub passed_first : (x : ℤ) (g : ℕ) (at : List ℤ) (last : ℤ) → AreRising at → 0 < g → g ≤ length at → last ≡ get_or at (g - 1) last → last ≤ℤ x → ArePassed x g at
passed_first x zero at last h some lt e le = absurd (omega arith)
passed_first x (suc g) at last h some lt e le =
    let one : suc g - 1 ≡ g = omega arith in
    passed x g at last h (omega arith) (subst (λ (q : ℤ). q ≤ℤ x) (e ∙ ap (λ (k : ℕ). get_or at k last) one) le)

pub rising_none : (at : List ℤ) (x : ℤ) → length at ≡ 0 → AreRising (at ++ x ∷ [])
rising_none [] x e = tt
rising_none (a ∷ at) x e = absurd (omega arith)

rising_more : (at : List ℤ) (x d : ℤ) (k : ℕ) → AreRising at → length at ≡ suc k → get_or at k d <ℤ x → AreRising (at ++ x ∷ [])
rising_more [] x d k h e lt = tt
rising_more (a ∷ []) x d zero h e lt = (lt, tt)
rising_more (a ∷ []) x d (suc k) h e lt = absurd (omega arith)
rising_more (a ∷ b ∷ at) x d zero h e lt = absurd (omega arith)
rising_more (a ∷ b ∷ at) x d (suc k) h e lt = (h.0, rising_more (b ∷ at) x d k h.1 (omega arith) lt)

pub rising_pushed : (at : List ℤ) (x last : ℤ) (count : ℕ) → AreRising at → 0 < count → count ≡ length at → last ≡ get_or at (count - 1) last → last <ℤ x → AreRising (at ++ x ∷ [])
rising_pushed at x last count h some long e lt = rising_more at x last (count - 1) h (omega arith) (subst (λ (q : ℤ). q <ℤ x) e lt)

pub passed_in : (x : ℤ) (i : ℕ) (at : List ℤ) → ArePassed x i at → i ≤ length at
passed_in x zero at h = omega arith
passed_in x (suc i) [] h = absurd h
passed_in x (suc i) (a ∷ at) h = let le = passed_in x i at h.1 in omega arith

high_same : (axis : Axis) (a : ℤ) (r : Rect) → a ≤ℤ low_end axis r → high_at axis a r ≡ r
high_same X a r le = ap (λ (x : ℤ). let q : Rect = record { x1 = x; y1 = r.y1; x2 = r.x2; y2 = r.y2 } in q) (if_false (int_lt r.x1 a) a r.x1 (lt_false r.x1 a le))
high_same Y a r le = ap (λ (y : ℤ). let q : Rect = record { x1 = r.x1; y1 = y; x2 = r.x2; y2 = r.y2 } in q) (if_false (int_lt r.y1 a) a r.y1 (lt_false r.y1 a le))

has_side : (axis : Axis) (r : Rect) → IsRect r → low_end axis r <ℤ high_end axis r
has_side X r h = h.wide
has_side Y r h = h.high

highs_same : (axis : Axis) (a : ℤ) (r : Rect) → IsRect r → a ≤ℤ low_end axis r → highs (cut_of axis a) (r ∷ []) ≡ r ∷ []
highs_same axis a r h le =
    let side = has_side axis r h in
    high_one (cut_of axis a) r (lt_to a (high_end axis r) (omega (arith, ints))) ∙ ap (λ (q : Rect). q ∷ []) (high_same axis a r le)

-- what is still to be added, from a stripe on
abbrev pub shift : ℕ → (ℕ → List Rect) → ℕ → List Rect
shift zero f j = f j
shift (suc i) f zero = []
shift (suc i) f (suc j) = shift i f j

from_passed : (axis : Axis) (i : ℕ) (at : List ℤ) (r : Rect) → IsRect r → ArePassed (low_end axis r) i at → (j : ℕ) → shift i (λ k. stripe k axis (drop i at) (r ∷ [])) j ≡ stripe j axis at (r ∷ [])
from_passed axis zero at r h p j = refl
from_passed axis (suc i) [] r h p j = absurd p
from_passed axis (suc i) (a ∷ at) r h p zero = sym (low_none (cut_of axis a) r (lt_false (low_end axis r) a p.0))
from_passed axis (suc i) (a ∷ at) r h p (suc j) = from_passed axis i at r h p.1 j ∙ ap (λ (q : List Rect). stripe j axis at q) (sym (highs_same axis a r h p.0))

cut_once : (axis : Axis) (a : ℤ) (at : List ℤ) (xs : List Rect) (i j : ℕ) → shift i (λ k. stripe k axis (a ∷ at) xs) j ≡ only i (lows (cut_of axis a) xs) j ++ shift (suc i) (λ k. stripe k axis at (highs (cut_of axis a) xs)) j
cut_once axis a at xs zero zero = sym (none_more (lows (cut_of axis a) xs))
cut_once axis a at xs zero (suc j) = refl
cut_once axis a at xs (suc i) zero = refl
cut_once axis a at xs (suc i) (suc j) = cut_once axis a at xs i j

pub stripe_none : (j : ℕ) (axis : Axis) (at : List ℤ) → stripe j axis at [] ≡ []
stripe_none zero axis [] = refl
stripe_none zero axis (a ∷ at) = refl
stripe_none (suc j) axis [] = refl
stripe_none (suc j) axis (a ∷ at) = stripe_none j axis at

shift_none : (i : ℕ) (axis : Axis) (at : List ℤ) (j : ℕ) → shift i (λ k. stripe k axis at []) j ≡ []
shift_none zero axis at j = stripe_none j axis at
shift_none (suc i) axis at zero = refl
shift_none (suc i) axis at (suc j) = shift_none i axis at j

last_only : (axis : Axis) (xs : List Rect) (i j : ℕ) → shift i (λ k. stripe k axis [] xs) j ≡ only i xs j
last_only axis xs zero zero = refl
last_only axis xs zero (suc j) = refl
last_only axis xs (suc i) zero = refl
last_only axis xs (suc i) (suc j) = last_only axis xs i j

-- the stripes below i are done, and of the rectangle this is left for the others
pub record AreAddedTo (lines : Lines) (old new : List (Vec Rect)) (r : Rect) (i : ℕ) (rest : Rect) : Type 0 where
  pub i_in : i ≤ length lines.at.items
  pub count : length (lists_of new) ≡ length (lists_of old)
  pub lists : (j : ℕ) → list_at new j ++ shift i (λ k. stripe k lines.axis (drop i lines.at.items) (rest ∷ [])) j ≡ list_at old j ++ stripe j lines.axis lines.at.items (r ∷ [])

pub none_added : (lines : Lines) (old : List (Vec Rect)) (r : Rect) (i : ℕ) → IsRect r → ArePassed (low_end lines.axis r) i lines.at.items → AreAddedTo lines old old r i r
none_added lines old r i h p = record {
  i_in = passed_in (low_end lines.axis r) i lines.at.items p;
  count = refl;
  lists = λ j. ap (λ (q : List Rect). list_at old j ++ q) (from_passed lines.axis i lines.at.items r h p j);
}

cut_here : (axis : Axis) (at : List ℤ) (xs : List Rect) (i j : ℕ) → i < length at → shift i (λ k. stripe k axis (drop i at) xs) j ≡ only i (lows (line_at axis at i) xs) j ++ shift (suc i) (λ k. stripe k axis (drop (i + 1) at) (highs (line_at axis at i) xs)) j
cut_here axis at xs i j lt =
    ap (λ (q : List ℤ). shift i (λ k. stripe k axis q xs) j) (drop_more at i (pos 0) lt) ∙
    cut_once axis (get_or at i (pos 0)) (drop (i + 1) at) xs i j

step : (lines : Lines) (old mid new : List (Vec Rect)) (r : Rect) (i : ℕ) (rest : Rect) (j : ℕ) → i < length lines.at.items → AreAddedTo lines old mid r i rest
    → ((k : ℕ) → list_at new k ≡ list_at mid k ++ only i (lows (line_at lines.axis lines.at.items i) (rest ∷ [])) k)
    → list_at new j ++ shift (suc i) (λ k. stripe k lines.axis (drop (i + 1) lines.at.items) (highs (line_at lines.axis lines.at.items i) (rest ∷ []))) j ≡ list_at old j ++ stripe j lines.axis lines.at.items (r ∷ [])
step lines old mid new r i rest j lt h push =
    let cut = line_at lines.axis lines.at.items i in
    let low = only i (lows cut (rest ∷ [])) j in
    let others = shift (suc i) (λ k. stripe k lines.axis (drop (i + 1) lines.at.items) (highs cut (rest ∷ []))) j in
    ap (λ (q : List Rect). q ++ others) (push j) ∙ append_assoc (list_at mid j) low others ∙
    ap (λ (q : List Rect). list_at mid j ++ q) (sym (cut_here lines.axis lines.at.items (rest ∷ []) i j lt)) ∙ h.lists j

pub one_added : (lines : Lines) (old mid new : List (Vec Rect)) (r : Rect) (i : ℕ) (rest : Rect) → i < length lines.at.items → AreAddedTo lines old mid r i rest → length (lists_of new) ≡ length (lists_of mid)
    → ((k : ℕ) → list_at new k ≡ list_at mid k ++ only i (lows (line_at lines.axis lines.at.items i) (rest ∷ [])) k)
    → ends_after (line_at lines.axis lines.at.items i) rest ≡ true → AreAddedTo lines old new r (i + 1) (high_part (line_at lines.axis lines.at.items i) rest)
one_added lines old mid new r i rest lt h count push e =
    let cut = line_at lines.axis lines.at.items i in
    let next : i + 1 ≡ suc i = omega arith in
    record {
      i_in = omega arith;
      count = count ∙ h.count;
      lists = λ j. ap (λ (n : ℕ). list_at new j ++ shift n (λ k. stripe k lines.axis (drop (i + 1) lines.at.items) (high_part cut rest ∷ [])) j) next ∙
          ap (λ (q : List Rect). list_at new j ++ shift (suc i) (λ k. stripe k lines.axis (drop (i + 1) lines.at.items) q) j) (sym (high_one cut rest e)) ∙ step lines old mid new r i rest j lt h push;
    }

pub last_added : (lines : Lines) (old mid new : List (Vec Rect)) (r : Rect) (i : ℕ) (rest : Rect) → i < length lines.at.items → AreAddedTo lines old mid r i rest
    → ((k : ℕ) → list_at new k ≡ list_at mid k ++ only i (lows (line_at lines.axis lines.at.items i) (rest ∷ [])) k)
    → ends_after (line_at lines.axis lines.at.items i) rest ≡ false → AreAdded lines old new (r ∷ [])
last_added lines old mid new r i rest lt h push e j =
    let cut = line_at lines.axis lines.at.items i in
    let none : shift (suc i) (λ k. stripe k lines.axis (drop (i + 1) lines.at.items) (highs cut (rest ∷ []))) j ≡ [] = ap (λ (q : List Rect). shift (suc i) (λ k. stripe k lines.axis (drop (i + 1) lines.at.items) q) j) (high_none cut rest e) ∙ shift_none (suc i) lines.axis (drop (i + 1) lines.at.items) j in
    sym (none_more (list_at new j)) ∙ ap (λ (q : List Rect). list_at new j ++ q) (sym none) ∙ step lines old mid new r i rest j lt h push

pub all_added : (lines : Lines) (old mid new : List (Vec Rect)) (r : Rect) (i : ℕ) (rest : Rect) → length lines.at.items ≤ i → AreAddedTo lines old mid r i rest
    → ((k : ℕ) → list_at new k ≡ list_at mid k ++ only i (rest ∷ []) k) → AreAdded lines old new (r ∷ [])
all_added lines old mid new r i rest le h push j =
    push j ∙ ap (λ (q : List Rect). list_at mid j ++ q) (sym (ap (λ (q : List ℤ). shift i (λ k. stripe k lines.axis q (rest ∷ [])) j) (drop_all i lines.at.items le) ∙ last_only lines.axis (rest ∷ []) i j)) ∙ h.lists j

-- many rectangles

pub stripe_append : (j : ℕ) (axis : Axis) (at : List ℤ) (xs ys : List Rect) → stripe j axis at (xs ++ ys) ≡ stripe j axis at xs ++ stripe j axis at ys
stripe_append zero axis [] xs ys = refl
stripe_append zero axis (a ∷ at) xs ys = lows_append (cut_of axis a) xs ys
stripe_append (suc j) axis [] xs ys = refl
stripe_append (suc j) axis (a ∷ at) xs ys = ap (λ (q : List Rect). stripe j axis at q) (highs_append (cut_of axis a) xs ys) ∙ stripe_append j axis at (highs (cut_of axis a) xs) (highs (cut_of axis a) ys)

pub stripe_rects : (j : ℕ) (axis : Axis) (at : List ℤ) (rects : List Rect) → All IsRect rects → All IsRect (stripe j axis at rects)
stripe_rects zero axis [] rects h = h
stripe_rects zero axis (a ∷ at) rects h = lows_rects (cut_of axis a) rects h
stripe_rects (suc j) axis [] rects h = λ k d lt. absurd (omega arith)
stripe_rects (suc j) axis (a ∷ at) rects h = stripe_rects j axis at (highs (cut_of axis a) rects) (highs_rects (cut_of axis a) rects h)

-- the lists of the first stripes

list_take : (parts : List (Vec Rect)) (i j : ℕ) → j < i → list_at (take i parts) j ≡ list_at parts j
list_take [] zero j lt = refl
list_take [] (suc i) j lt = refl
list_take (x ∷ parts) zero j lt = absurd (omega arith)
list_take (x ∷ parts) (suc i) zero lt = refl
list_take (x ∷ parts) (suc i) (suc j) lt = list_take parts i j (omega arith)

count_take : (parts : List (Vec Rect)) (i : ℕ) → i ≤ length (lists_of parts) → length (lists_of (take i parts)) ≡ i
count_take [] zero le = refl
count_take [] (suc i) le = absurd (omega arith)
count_take (x ∷ parts) zero le = refl
count_take (x ∷ parts) (suc i) le = let e = count_take parts i (omega arith) in omega arith

pub first_less : (i : ℕ) (lines : Lines) (parts : List (Vec Rect)) (rects : List Rect) → AreFirst (i + 1) lines parts rects → AreFirst i lines (take i parts) rects
first_less i lines parts rects h =
    let count = h.count in
    record {
      count = count_take parts i (omega arith);
      lists = λ j lt. list_take parts i j lt ∙ h.lists j (omega arith);
    }

pub count_first : (i : ℕ) (lines : Lines) (parts : List (Vec Rect)) (rects : List Rect) → AreFirst i lines parts rects → length parts ≡ i
count_first i lines parts rects h = sym (length-map parts (λ (v : Vec Rect). v.items)) ∙ h.count

pub part_at : (i : ℕ) (lines : Lines) (parts : List (Vec Rect)) (rects : List Rect) (v : Vec Rect) → AreFirst (i + 1) lines parts rects → v ≡ get_or parts i v → v.items ≡ stripe i lines.axis lines.at.items rects
part_at i lines parts rects v h e =
    let long = count_first (i + 1) lines parts rects h in
    ap (λ (q : Vec Rect). q.items) e ∙ sym (get_or-map (λ (q : Vec Rect). q.items) parts i v [] (omega arith)) ∙ h.lists i (omega arith)
