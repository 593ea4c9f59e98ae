-- The transistors of a circuit merged one after another.
use Rattle.std.proofs.Common.{◌≡◌, ◌<◌, ◌≤◌, ◌+◌, ℕ, zero, suc, Bool, true, false, List, [], ◌∷◌, ◌++◌, map, length, refl, sym, subst, ap, ◌∙◌, arith}
use Rattle.base_laws.proofs.Lists.{map_count}
use Rattle.std.specs.Prelude.{slice_index_or, slice_set, take, drop, ◌-◌, ◌||◌}
use Rattle.fixed_num.specs.declared.femto.Femto.{Femto}
use Rattle.net_model.specs.declared.netlist.DeviceRow.{DeviceRow as Held}
use Rattle.plain_netlist.specs.Netlist.{DeviceRow}
use Rattle.merge_laws.specs.Grouped.{Group, Placed, grouped, groups, merged_row, with_device}
use Rattle.merge_laws.specs.Merge.{width_of, with_added}
use Rattle.device_merge.specs.Keys.{AreKeys, lone, place_of}
use Rattle.net_model.specs.Rows.{plain_device}
use Rattle.device_merge.specs.Merging.{IsMerging, are_wider, is_wider, placed, width_at, widened}
use Rattle.std.proofs.lemmas.List.{take_all}
use Rattle.std.proofs.lemmas.List.Sums.{prefix_len-le-length}
use Rattle.device_merge.specs.declared.groups.Merging.{Merging}
use Rattle.device_merge.specs.declared.keys.DeviceKey.{DeviceKey}
use Rattle.device_merge.proofs.Joined.{begins, begun_rows, begun_wide, joins, keys_stay, narrow_joined, wide_all, wide_joined}

-- one row for each group
pub as_many_rows : (m : Merging) (gs : List Group) → IsMerging m gs → length m.rows.items ≡ length gs
as_many_rows m gs h = sym (map_count plain_device m.rows.items) ∙ ap (λ (rs : List DeviceRow). length rs) h.rows ∙ map_count merged_row gs

-- the row at a place, and with another width
second_set : (sizes : List Femto) (f : Femto) → map (λ (g : Femto). g.0) (slice_set sizes 1 f) ≡ with_added (map (λ (g : Femto). g.0) sizes) f.0
second_set [] f = refl
second_set (a ∷ []) f = refl
second_set (a ∷ b ∷ more) f = refl

pub width_here : (rows : List Held) (i : ℕ) (d : Held) → i < length rows → width_at i (map plain_device rows) ≡ width_of (plain_device (slice_index_or rows i d))
width_here [] i d low = absurd (omega arith)
width_here (r ∷ rs) zero d low = refl
width_here (r ∷ rs) (suc i) d low = width_here rs i d (omega arith)

-- a row with another second size
abbrev pub with_second : Held → Femto → Held
with_second r w = record { kind = r.kind; class = r.class; sizes = slice_set r.sizes 1 w; nets = r.nets }

pub widened_here : (rows : List Held) (i : ℕ) (d : Held) (w : Femto) (n : ℕ) → i < length rows → w.0 ≡ width_at i (map plain_device rows) + n
    → map plain_device (slice_set rows i (with_second (slice_index_or rows i d) w)) ≡ widened i n (map plain_device rows)
widened_here [] i d w n low e = absurd (omega arith)
widened_here (r ∷ rs) zero d w n low e =
    let row = plain_device r in
    ap (λ (ss : List ℕ). let made : DeviceRow = record { kind = row.kind; class = row.class; sizes = ss; ends = row.ends; others = row.others } in made ∷ map plain_device rs)
    (second_set r.sizes w ∙ ap (λ (v : ℕ). with_added row.sizes v) e)
widened_here (r ∷ rs) (suc i) d w n low e = ap (λ (xs : List DeviceRow). plain_device r ∷ xs) (widened_here rs i d w n (omega arith) e)

-- a transistor that joins a group
pub joined_merging : (old new : Merging) (gs : List Group) (d : Placed) (p : ℕ) → length d.row.sizes ≡ 2 → IsMerging old gs → p ≡ place_of gs d.row → p < length old.rows.items
    → map plain_device new.rows.items ≡ widened p (width_of d.row) (map plain_device old.rows.items) → new.keys ≡ old.keys → new.most ≡ old.most
    → width_at p (map plain_device old.rows.items) + width_of d.row ≤ old.most → IsMerging new (with_device gs d)
joined_merging old new gs d p two h at low rows keys most fits =
    let count : length old.rows.items ≡ length gs = as_many_rows old gs h in
    let inside : place_of gs d.row < length gs = omega arith in
    record {
      rows = rows ∙ ap (λ (rs : List DeviceRow). widened p (width_of d.row) rs) h.rows ∙ ap (λ (k : ℕ). widened k (width_of d.row) (map merged_row gs)) at ∙ sym (joins gs d inside);
      keys = subst (λ (ks : List DeviceKey). AreKeys 0 ks (with_device gs d)) (sym keys) (keys_stay 0 old.keys gs d h.keys inside);
      narrow = ap (λ (m : ℕ). are_wider m (with_device gs d)) most ∙ narrow_joined old.most gs d two h.narrow inside
          (subst (λ (k : ℕ). width_at k (map merged_row gs) + width_of d.row ≤ old.most) at (subst (λ (rs : List DeviceRow). width_at p rs + width_of d.row ≤ old.most) h.rows fits));
    }

pub joined_wide : (old : Merging) (gs : List Group) (d : Placed) (p : ℕ) → length d.row.sizes ≡ 2 → IsMerging old gs → p ≡ place_of gs d.row → p < length old.rows.items
    → old.most < width_at p (map plain_device old.rows.items) + width_of d.row → are_wider old.most (with_device gs d) ≡ true
joined_wide old gs d p two h at low wide =
    let count : length old.rows.items ≡ length gs = as_many_rows old gs h in
    wide_joined old.most gs d two (omega arith) (subst (λ (k : ℕ). old.most < width_at k (map merged_row gs) + width_of d.row) at (subst (λ (rs : List DeviceRow). old.most < width_at p rs + width_of d.row) h.rows wide))

-- the place of a group is at most their number
place_within : (gs : List Group) (row : DeviceRow) → place_of gs row ≤ length gs
place_within gs row = prefix_len-le-length _ gs

-- a transistor that joins none
pub last_place : (old : Merging) (gs : List Group) (row : DeviceRow) (p : ℕ) → IsMerging old gs → p ≡ place_of gs row → (p < length old.rows.items → ⊥) → place_of gs row ≡ length gs
last_place old gs row p h at past =
    let count : length old.rows.items ≡ length gs = as_many_rows old gs h in
    let most : place_of gs row ≤ length gs = place_within gs row in
    omega (arith, past)

pub begun_merging : (old new : Merging) (gs : List Group) (d : Placed) → IsMerging old gs → place_of gs d.row ≡ length gs
    → map plain_device new.rows.items ≡ map plain_device old.rows.items ++ d.row ∷ [] → AreKeys 0 new.keys (gs ++ lone d.place d.row ∷ []) → new.most ≡ old.most → is_wider old.most d.row ≡ false
    → IsMerging new (with_device gs d)
begun_merging old new gs d h last rows keys most fits =
    let same : with_device gs d ≡ gs ++ lone d.place d.row ∷ [] = begins gs d last in
    record {
      rows = rows ∙ ap (λ (rs : List DeviceRow). rs ++ d.row ∷ []) h.rows ∙ sym (begun_rows gs d.place d.row) ∙ ap (λ (hs : List Group). map merged_row hs) (sym same);
      keys = subst (λ (hs : List Group). AreKeys 0 new.keys hs) (sym same) keys;
      narrow = ap (λ (m : ℕ). are_wider m (with_device gs d)) most ∙ ap (λ (hs : List Group). are_wider old.most hs) same ∙ begun_wide old.most gs d.place d.row ∙ ap (λ (b : Bool). b || is_wider old.most d.row) h.narrow ∙ fits;
    }

pub begun_too_wide : (old : Merging) (gs : List Group) (d : Placed) → IsMerging old gs → place_of gs d.row ≡ length gs → is_wider old.most d.row ≡ true → are_wider old.most (with_device gs d) ≡ true
begun_too_wide old gs d h last wide = ap (λ (hs : List Group). are_wider old.most hs) (begins gs d last) ∙ begun_wide old.most gs d.place d.row ∙ ap (λ (b : Bool). b || is_wider old.most d.row) h.narrow ∙ wide

-- the first of them are merged, none wider than this, the rest isn't yet
pub record IsGoing (most : ℕ) (m : Merging) (all rest : List DeviceRow) : Type 0 where
  pub limit : m.most ≡ most
  pub gs : List Group
  pub place : ℕ
  pub merging : IsMerging m gs
  pub behind : grouped gs place rest ≡ groups all

pub further : (most : ℕ) (old new : Merging) (all more : List DeviceRow) (row : DeviceRow) → IsGoing most old all (row ∷ more) → new.most ≡ old.most
    → ((gs : List Group) (place : ℕ) → IsMerging old gs → IsMerging new (with_device gs (placed place row))) → IsGoing most new all more
further most old new all more row h same added = record { limit = same ∙ h.limit; gs = with_device h.gs (placed h.place row); place = suc h.place; merging = added h.gs h.place h.merging; behind = h.behind }

pub stopped : (most : ℕ) (old : Merging) (all more : List DeviceRow) (row : DeviceRow) → IsGoing most old all (row ∷ more)
    → ((gs : List Group) (place : ℕ) → IsMerging old gs → are_wider old.most (with_device gs (placed place row)) ≡ true) → are_wider most (groups all) ≡ true
stopped most old all more row h wide = ap (λ (m : ℕ). are_wider m (groups all)) (sym h.limit) ∙ subst (λ (gs : List Group). are_wider old.most gs ≡ true) h.behind (wide_all old.most (with_device h.gs (placed h.place row)) (suc h.place) more (wide h.gs h.place h.merging))

pub ended : (most : ℕ) (m : Merging) (all : List DeviceRow) → IsGoing most m all [] → (map plain_device m.rows.items ≡ map merged_row (groups all)) × (are_wider most (groups all) ≡ false)
ended most m all h = (h.merging.rows ∙ ap (λ (gs : List Group). map merged_row gs) h.behind, ap (λ (k : ℕ). are_wider k (groups all)) (sym h.limit) ∙ subst (λ (gs : List Group). are_wider m.most gs ≡ false) h.behind h.merging.narrow)

pub begun : (m : Merging) (all : List DeviceRow) → IsMerging m [] → IsGoing m.most m all all
begun m all h = record { limit = refl; gs = []; place = 0; merging = h; behind = refl }

-- a list that has one item is it and what is behind it
pub first_and_rest : {A : Type 0} (xs : List A) (x : A) → 1 ≤ length xs → x ≡ slice_index_or xs 0 x → xs ≡ x ∷ take (length xs - 1) (drop 1 xs)
first_and_rest [] x h e = absurd (omega (arith, h))
first_and_rest {A = A} (y ∷ ys) x h e =
    let whole : take (length (y ∷ ys) - 1) ys ≡ ys = take_all (length (y ∷ ys) - 1) ys (omega arith) in
    ap (λ (z : A). z ∷ ys) (sym e) ∙ ap (λ (zs : List A). x ∷ zs) (sym whole)
