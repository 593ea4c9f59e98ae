-- What a transistor does to the groups of alike ones: it joins one or begins one.
use Rattle.std.proofs.Common.{◌≡◌, ◌<◌, ◌≤◌, ◌+◌, ℕ, suc, Bool, true, false, ◌&&◌, ◌||◌, nat_lt, cond, List, [], ◌∷◌, ◌++◌, map, length, refl, ap, ◌∙◌, sym, subst, arith, true≢false}
use Rattle.base_laws.proofs.Lists.{map_last}
use Rattle.base_laws.proofs.Tests.{or_true}
use Rattle.std.proofs.lemmas.Bool.{and_parts, or_from, or_parts}
use Rattle.std.proofs.lemmas.Slice.Eq.{bytes_eq-Decides}
use Rattle.std.specs.Prelude.{not, bytes_eq}
use Rattle.plain_netlist.specs.Kinds.{same_device_kind}
use Rattle.plain_netlist.specs.Devices.{exchanged}
use Rattle.plain_netlist.specs.Netlist.{DeviceRow}
use Rattle.merge_laws.specs.Grouped.{Group, Placed, grouped, is_alike, members, merged_row, same_ends, sum_width, with_device}
use Rattle.merge_laws.specs.Merge.{added_size, may_merge_row, width_of, with_added, with_width}
use Rattle.device_merge.specs.Keys.{AreKeys, lone, place_of}
use Rattle.device_merge.specs.Merging.{are_wider, is_wider, placed, wider, width_at, widened}
use Rattle.device_merge.specs.declared.keys.DeviceKey.{DeviceKey}

abbrev pub joined : Group → Placed → Group
joined g d = record { first = g.first; others = g.others ++ d ∷ [] }

pub sum_more : (ds : List Placed) (d : Placed) → sum_width (ds ++ d ∷ []) ≡ sum_width ds + width_of d.row
sum_more [] d = omega arith
sum_more (e ∷ ds) d = let rest = sum_more ds d in omega arith

-- a width in place of another
by_width : (r : DeviceRow) (v w : ℕ) → with_width r (v + w) ≡ wider w (with_width r v)
by_width r v w = ap (λ (ss : List ℕ). record { kind = r.kind; class = r.class; sizes = ss; ends = r.ends; others = r.others }) (at r.sizes)
  where
    at : (sizes : List ℕ) → with_added sizes (v + w) ≡ with_added (with_added sizes v) (added_size (with_added sizes v) + w)
    at [] = refl
    at (a ∷ []) = refl
    at (a ∷ b ∷ more) = refl

-- its own
same_width : (r : DeviceRow) → with_width r (width_of r + 0) ≡ r
same_width r = ap (λ (ss : List ℕ). record { kind = r.kind; class = r.class; sizes = ss; ends = r.ends; others = r.others }) (at r.sizes)
  where
    at : (sizes : List ℕ) → with_added sizes (added_size sizes + 0) ≡ sizes
    at [] = refl
    at (a ∷ []) = refl
    at (a ∷ b ∷ more) = ap (λ (w : ℕ). a ∷ w ∷ more) (omega arith)

-- of two sizes the second is the width
width_is : (r : DeviceRow) (w : ℕ) → length r.sizes ≡ 2 → width_of (with_width r w) ≡ w
width_is r w e = at r.sizes e
  where
    at : (sizes : List ℕ) → length sizes ≡ 2 → added_size (with_added sizes w) ≡ w
    at (a ∷ b ∷ more) e = refl
    at [] e = absurd (omega (arith, e))
    at (a ∷ []) e = absurd (omega (arith, e))

row_joined : (g : Group) (d : Placed) → merged_row (joined g d) ≡ wider (width_of d.row) (merged_row g)
row_joined g d = ap (λ (w : ℕ). with_width g.first.row w) (sum_more (members g) d) ∙ by_width g.first.row (sum_width (members g)) (width_of d.row)

one_more : (n : ℕ) → suc n ≡ 1 + n
one_more n = omega arith

pub joins : (gs : List Group) (d : Placed) → place_of gs d.row < length gs → map merged_row (with_device gs d) ≡ widened (place_of gs d.row) (width_of d.row) (map merged_row gs)
joins [] d low = absurd (omega arith)
joins (g ∷ gs) d low = at (is_alike g.first.row d.row) low (joins gs d)
  where
    at : (b : Bool) → cond (not b) (1 + place_of gs d.row) 0 < suc (length gs) → (place_of gs d.row < length gs → map merged_row (with_device gs d) ≡ widened (place_of gs d.row) (width_of d.row) (map merged_row gs))
        → map merged_row (cond b (joined g d ∷ gs) (g ∷ with_device gs d)) ≡ widened (cond (not b) (1 + place_of gs d.row) 0) (width_of d.row) (merged_row g ∷ map merged_row gs)
    at true h rec = ap (λ (r : DeviceRow). r ∷ map merged_row gs) (row_joined g d)
    at false h rec = subst (λ (k : ℕ). merged_row g ∷ map merged_row (with_device gs d) ≡ widened k (width_of d.row) (merged_row g ∷ map merged_row gs)) (one_more (place_of gs d.row))
        (ap (λ (rs : List DeviceRow). merged_row g ∷ rs) (rec (omega arith)))

pub begins : (gs : List Group) (d : Placed) → place_of gs d.row ≡ length gs → with_device gs d ≡ gs ++ lone d.place d.row ∷ []
begins [] d e = refl
begins (g ∷ gs) d e = at (is_alike g.first.row d.row) e (begins gs d)
  where
    at : (b : Bool) → cond (not b) (1 + place_of gs d.row) 0 ≡ suc (length gs) → (place_of gs d.row ≡ length gs → with_device gs d ≡ gs ++ lone d.place d.row ∷ [])
        → cond b (joined g d ∷ gs) (g ∷ with_device gs d) ≡ g ∷ gs ++ lone d.place d.row ∷ []
    at true h rec = absurd (omega arith)
    at false h rec = ap (λ (hs : List Group). g ∷ hs) (rec (omega arith))

pub keys_stay : (n : ℕ) (keys : List DeviceKey) (gs : List Group) (d : Placed) → AreKeys n keys gs → place_of gs d.row < length gs → AreKeys n keys (with_device gs d)
keys_stay n [] [] d h low = absurd (omega arith)
keys_stay n (key ∷ keys) (g ∷ gs) d h low = at (is_alike g.first.row d.row) low (keys_stay (suc n) keys gs d h.1)
  where
    at : (b : Bool) → cond (not b) (1 + place_of gs d.row) 0 < suc (length gs) → (place_of gs d.row < length gs → AreKeys (suc n) keys (with_device gs d))
        → AreKeys n (key ∷ keys) (cond b (joined g d ∷ gs) (g ∷ with_device gs d))
    at true l rec = (h.0, h.1)
    at false l rec = (h.0, rec (omega arith))
keys_stay n [] (g ∷ gs) d h low = absurd h
keys_stay n (key ∷ keys) [] d h low = absurd h

merges : (a b : DeviceRow) → is_alike a b ≡ true → may_merge_row a ≡ true
merges a b e = first (may_merge_row a) _ _ _ _ _ e
  where
    first : (m k c s o h : Bool) → (m && k && c && s && o && h) ≡ true → m ≡ true
    first true k c s o h e = refl
    first false k c s o h e = e

-- wide exactly by its width, where its class may merge
pub past : (most : ℕ) (m : Bool) (w : ℕ) → m ≡ true → most < w → (m && nat_lt most w) ≡ true
past most m w e h = rw e (grind (arith, h))

pub within : (most : ℕ) (m : Bool) (w : ℕ) → w ≤ most → (m && nat_lt most w) ≡ false
within most true w h = grind (arith, h)
within most false w h = refl

-- alike devices have as many sizes
alike_sized : (a b : DeviceRow) → is_alike a b ≡ true → length b.sizes ≡ 2 → length a.sizes ≡ 2
alike_sized a b e two =
    let m = may_merge_row a in let k = same_device_kind a.kind b.kind in let c = bytes_eq a.class b.class in
    let s = bytes_eq (with_added a.sizes 0) (with_added b.sizes 0) in let o = bytes_eq a.others b.others in
    let h = same_ends a.ends b.ends || same_ends a.ends (exchanged b.ends) in
    let all = (and_parts (m && k && c) s (and_parts (m && k && c && s) o (and_parts (m && k && c && s && o) h e).0).0).1 in
    let same = (bytes_eq-Decides (with_added a.sizes 0) (with_added b.sizes 0)).0 all in
    sym (added_length a.sizes) ∙ ap (λ (xs : List ℕ). length xs) same ∙ added_length b.sizes ∙ two
  where
    added_length : (sizes : List ℕ) → length (with_added sizes 0) ≡ length sizes
    added_length [] = refl
    added_length (x ∷ []) = refl
    added_length (x ∷ y ∷ more) = refl

-- the width of a group that one more joins
joined_is : (g : Group) (d : Placed) → is_alike g.first.row d.row ≡ true → length d.row.sizes ≡ 2 → width_of (merged_row (joined g d)) ≡ width_of (merged_row g) + width_of d.row
joined_is g d alike size =
    let two = alike_sized g.first.row d.row alike size in
    let sum = sum_more (members g) d in
    let old = width_is g.first.row (sum_width (members g)) two in
    width_is g.first.row (sum_width (members g ++ d ∷ [])) two ∙ omega (arith, sum, old)

joined_width : (most : ℕ) (g : Group) (d : Placed) → is_alike g.first.row d.row ≡ true → length d.row.sizes ≡ 2 → most < width_of (merged_row g) + width_of d.row → most < width_of (merged_row (joined g d))
joined_width most g d alike two w = subst (λ (n : ℕ). most < n) (sym (joined_is g d alike two)) w

joined_low : (most : ℕ) (g : Group) (d : Placed) → is_alike g.first.row d.row ≡ true → length d.row.sizes ≡ 2 → width_of (merged_row g) + width_of d.row ≤ most → width_of (merged_row (joined g d)) ≤ most
joined_low most g d alike two w = subst (λ (n : ℕ). n ≤ most) (sym (joined_is g d alike two)) w

pub wide_joined : (most : ℕ) (gs : List Group) (d : Placed) → length d.row.sizes ≡ 2 → place_of gs d.row < length gs → most < width_at (place_of gs d.row) (map merged_row gs) + width_of d.row → are_wider most (with_device gs d) ≡ true
wide_joined most [] d two low wide = absurd (omega arith)
wide_joined most (g ∷ gs) d two low wide = at (is_alike g.first.row d.row) refl low wide (wide_joined most gs d two)
  where
    at : (b : Bool) → is_alike g.first.row d.row ≡ b → cond (not b) (1 + place_of gs d.row) 0 < suc (length gs) → most < width_at (cond (not b) (1 + place_of gs d.row) 0) (merged_row g ∷ map merged_row gs) + width_of d.row
        → (place_of gs d.row < length gs → most < width_at (place_of gs d.row) (map merged_row gs) + width_of d.row → are_wider most (with_device gs d) ≡ true)
        → are_wider most (cond b (joined g d ∷ gs) (g ∷ with_device gs d)) ≡ true
    at true e l w rec = ap (λ (b : Bool). b || are_wider most gs) (past most (may_merge_row g.first.row) (width_of (merged_row (joined g d))) (merges g.first.row d.row e) (joined_width most g d e two w))
    at false e l w rec = ap (λ (b : Bool). is_wider most (merged_row g) || b) (rec (omega arith) (subst (λ (k : ℕ). most < width_at k (merged_row g ∷ map merged_row gs) + width_of d.row) (sym (one_more (place_of gs d.row))) w)) ∙ or_true (is_wider most (merged_row g))

pub narrow_joined : (most : ℕ) (gs : List Group) (d : Placed) → length d.row.sizes ≡ 2 → are_wider most gs ≡ false → place_of gs d.row < length gs → width_at (place_of gs d.row) (map merged_row gs) + width_of d.row ≤ most → are_wider most (with_device gs d) ≡ false
narrow_joined most [] d two none low fits = absurd (omega arith)
narrow_joined most (g ∷ gs) d two none low fits = at (is_alike g.first.row d.row) refl low fits (narrow_joined most gs d two ((or_parts _ _ none).1))
  where
    at : (b : Bool) → is_alike g.first.row d.row ≡ b → cond (not b) (1 + place_of gs d.row) 0 < suc (length gs) → width_at (cond (not b) (1 + place_of gs d.row) 0) (merged_row g ∷ map merged_row gs) + width_of d.row ≤ most
        → (place_of gs d.row < length gs → width_at (place_of gs d.row) (map merged_row gs) + width_of d.row ≤ most → are_wider most (with_device gs d) ≡ false)
        → are_wider most (cond b (joined g d ∷ gs) (g ∷ with_device gs d)) ≡ false
    at true e l w rec = or_from _ _ (within most (may_merge_row g.first.row) (width_of (merged_row (joined g d))) (joined_low most g d e two w)) ((or_parts _ _ none).1)
    at false e l w rec = or_from _ _ ((or_parts _ _ none).0) (rec (omega arith) (subst (λ (k : ℕ). width_at k (merged_row g ∷ map merged_row gs) + width_of d.row ≤ most) (sym (one_more (place_of gs d.row))) w))

-- a transistor alone is as wide as it is
lone_wide : (most : ℕ) (place : ℕ) (row : DeviceRow) → is_wider most (merged_row (lone place row)) ≡ is_wider most row
lone_wide most place row = ap (is_wider most) (same_width row)

pub begun_wide : (most : ℕ) (gs : List Group) (place : ℕ) (row : DeviceRow) → are_wider most (gs ++ lone place row ∷ []) ≡ (are_wider most gs || is_wider most row)
begun_wide most [] place row = ap (λ (b : Bool). b || false) (lone_wide most place row) ∙ last (is_wider most row)
  where
    last : (b : Bool) → (b || false) ≡ b
    last true = refl
    last false = refl
begun_wide most (g ∷ gs) place row = ap (λ (b : Bool). is_wider most (merged_row g) || b) (begun_wide most gs place row) ∙ through (is_wider most (merged_row g)) (are_wider most gs) (is_wider most row)
  where
    through : (a b c : Bool) → (a || (b || c)) ≡ ((a || b) || c)
    through true b c = refl
    through false b c = refl

wider_grows : (sizes : List ℕ) (v w : ℕ) → v ≤ w → added_size (with_added sizes v) ≤ added_size (with_added sizes w)
wider_grows [] v w h = omega arith
wider_grows (a ∷ []) v w h = omega arith
wider_grows (a ∷ b ∷ more) v w h = h

-- what is too wide stays so
pub wide_stays : (most : ℕ) (gs : List Group) (d : Placed) → are_wider most gs ≡ true → are_wider most (with_device gs d) ≡ true
wide_stays most [] d wide = absurd (true≢false (sym wide))
wide_stays most (g ∷ gs) d wide = at (is_alike g.first.row d.row) (wide_stays most gs d) wide
  where
    more : (m : Bool) (v w : ℕ) → v ≤ w → (m && nat_lt most v) ≡ true → (m && nat_lt most w) ≡ true
    more true v w h e = grind (arith, h, e)
    more false v w h e = e

    here : (a b c : Bool) → (a || c) ≡ true → (a ≡ true → b ≡ true) → (b || c) ≡ true
    here true b c e f = rw (f refl) refl
    here false true c e f = refl
    here false false c e f = e

    rest : (a b c : Bool) → (a || b) ≡ true → (b ≡ true → c ≡ true) → (a || c) ≡ true
    rest true b c e f = refl
    rest false b c e f = f e

    at : (b : Bool) → (are_wider most gs ≡ true → are_wider most (with_device gs d) ≡ true) → are_wider most (g ∷ gs) ≡ true → are_wider most (cond b (joined g d ∷ gs) (g ∷ with_device gs d)) ≡ true
    at true rec w = here _ _ _ w (more (may_merge_row g.first.row) (width_of (merged_row g)) (width_of (merged_row (joined g d))) (wider_grows g.first.row.sizes (sum_width (members g)) (sum_width (members g ++ d ∷ [])) (let e = sum_more (members g) d in omega arith)))
    at false rec w = rest _ _ _ w rec

pub wide_all : (most : ℕ) (gs : List Group) (place : ℕ) (rows : List DeviceRow) → are_wider most gs ≡ true → are_wider most (grouped gs place rows) ≡ true
wide_all most gs place [] wide = wide
wide_all most gs place (row ∷ rows) wide = wide_all most (with_device gs (placed place row)) (suc place) rows (wide_stays most gs (placed place row) wide)

lone_row : (place : ℕ) (row : DeviceRow) → merged_row (lone place row) ≡ row
lone_row place row = same_width row

pub begun_rows : (gs : List Group) (place : ℕ) (row : DeviceRow) → map merged_row (gs ++ lone place row ∷ []) ≡ map merged_row gs ++ row ∷ []
begun_rows gs place row = map_last merged_row gs (lone place row) ∙ ap (λ (r : DeviceRow). map merged_row gs ++ r ∷ []) (lone_row place row)
