-- Rows of bounded width come to less than 2^128 together, and where they are merged they stay so.
use Rattle.std.proofs.Common.{◌≡◌, ◌<◌, ◌≤◌, ◌+◌, ◌*◌, ◌^◌, ◌-◌, ℕ, zero, suc, Bool, true, false, ◌&&◌, nat_lt, cond, List, [], ◌∷◌, ◌++◌, length, Option, Some, None, slice_get, Result, Ok, Err, IfOk, refl, ap, ◌∙◌, sym, subst, arith, true≢false}
use Rattle.std.proofs.lemmas.Bool.{or_from, or_parts}
use Rattle.std.proofs.lemmas.List.{length-map}
use Rattle.std.specs.List.{list_any}
use Rattle.net_model.specs.Rows.{plain_circuit, plain_device}
use Rattle.plain_netlist.specs.Netlist.{Circuit, DeviceRow, Netlist}
use Rattle.merge_laws.specs.Grouped.{Group, Placed, grouped, groups, is_alike, is_too_wide, is_wide, members, merged_circuit, merged_netlist, merged_row, sum_width, with_device}
use Rattle.merge_laws.specs.Merge.{added_size, may_merge_row, width_of, with_added}
use Rattle.net_model.specs.Tests.{first_from, first_of}
use Rattle.device_merge.specs.Merged.{IsCircuitMergedBy, IsMergedCircuit, IsNarrow}
use Rattle.device_merge.specs.Merging.{are_wider, placed}
use Rattle.net_model.specs.declared.netlist.Circuit.{Circuit as Held}
use Rattle.device_merge.proofs.Joined.{sum_more, within}
use Rattle.merge_laws.proofs.Alike.{alike_law, alike_merges}
use Rattle.merge_laws.proofs.Nets.{circuit_back}

also_merges : (a b : DeviceRow) → is_alike a b ≡ true → may_merge_row b ≡ true
also_merges a b e = let l = alike_law a b e in sym (alike_merges (λ (m n : ℕ). m ≡ n) a b l) ∙ l.merges

-- 10^27 is WIDEST
pub by_widest : (c : Circuit) (o : Option Held) → IsCircuitMergedBy (10 ^ 27) c o → IsMergedCircuit c o
by_widest c None h = h
by_widest c (Some m) h = h

-- no row of these is too wide
abbrev pub AreNarrowRows : List DeviceRow → Type 0
AreNarrowRows rows = (i : ℕ) (row : DeviceRow) → slice_get rows i ≡ Some row → is_wide row ≡ false

-- no row of these circuits is
abbrev pub AreNarrowCircuits : List Circuit → Type 0
AreNarrowCircuits [] = Unit {0}
AreNarrowCircuits (c ∷ cs) = AreNarrowRows c.devices × AreNarrowCircuits cs

pub narrow_circuits : (cs : List Circuit) → IsNarrow (record { circuits = cs }) → AreNarrowCircuits cs
narrow_circuits [] h = tt
narrow_circuits (c ∷ cs) h = (λ i row at. h 0 i row (c, refl, at), narrow_circuits cs (λ t i row d. h (suc t) i row d))

-- each group that may merge is at most as wide as n rows
abbrev pub AreFew : ℕ → List Group → Type 0
AreFew n [] = Unit {0}
AreFew n (g ∷ gs) = (may_merge_row g.first.row ≡ true → sum_width (members g) ≤ n * 10 ^ 27) × AreFew n gs

more_few : (n : ℕ) (gs : List Group) → AreFew n gs → AreFew (suc n) gs
more_few n [] h = tt
more_few n (g ∷ gs) h = (λ m. let l = h.0 m in omega (arith, l), more_few n gs h.1)

width_low : (row : DeviceRow) → is_wide row ≡ false → may_merge_row row ≡ true → width_of row ≤ 10 ^ 27
width_low row h m = at (may_merge_row row) m h
  where
    at : (b : Bool) → b ≡ true → (b && nat_lt (10 ^ 27) (width_of row)) ≡ false → width_of row ≤ 10 ^ 27
    at true m h = grind (arith, h)
    at false m h = absurd (true≢false (sym m))

few_with : (n : ℕ) (gs : List Group) (d : Placed) → is_wide d.row ≡ false → AreFew n gs → AreFew (suc n) (with_device gs d)
few_with n [] d low h = (λ m. let w = width_low d.row low m in omega (arith, w), tt)
few_with n (g ∷ gs) d low h = at (is_alike g.first.row d.row) refl (few_with n gs d low h.1)
  where
    at : (b : Bool) → is_alike g.first.row d.row ≡ b → AreFew (suc n) (with_device gs d) → AreFew (suc n) (cond b (record { first = g.first; others = g.others ++ d ∷ [] } ∷ gs) (g ∷ with_device gs d))
    at true e rec = (λ m. let w = width_low d.row low (also_merges g.first.row d.row e) in let s = sum_more (members g) d in let l = h.0 m in omega (arith, w, s, l), more_few n gs h.1)
    at false e rec = (λ m. let l = h.0 m in omega (arith, l), rec)

few_grouped : (n : ℕ) (gs : List Group) (place : ℕ) (rows : List DeviceRow) → AreNarrowRows rows → AreFew n gs → AreFew (n + length rows) (grouped gs place rows)
few_grouped n gs place [] low h = let e : n ≡ n + 0 = omega arith in subst (λ (k : ℕ). AreFew k gs) e h
few_grouped n gs place (row ∷ rows) low h =
    let e : suc n + length rows ≡ n + suc (length rows) = omega arith in
    subst (λ (k : ℕ). AreFew k (grouped gs place (row ∷ rows))) e (few_grouped (suc n) (with_device gs (placed place row)) (suc place) rows (λ i r at. low (suc i) r at) (few_with n gs (placed place row) (low 0 row refl) h))

-- the width of a group is the sum, or none
added_low : (sizes : List ℕ) (w : ℕ) → added_size (with_added sizes w) ≤ w
added_low [] w = omega arith
added_low (a ∷ []) w = omega arith
added_low (a ∷ b ∷ more) w = omega arith

few_fit : (n : ℕ) (gs : List Group) → n < 2 ^ 32 → AreFew n gs → are_wider (2 ^ 128 - 1) gs ≡ false
few_fit n [] low h = refl
few_fit n (g ∷ gs) low h = or_from _ _ (at (may_merge_row g.first.row) h.0) (few_fit n gs low h.1)
  where
    at : (b : Bool) → (b ≡ true → sum_width (members g) ≤ n * 10 ^ 27) → (b && nat_lt (2 ^ 128 - 1) (width_of (merged_row g))) ≡ false
    at true few = let l = few refl in let w = added_low g.first.row.sizes (sum_width (members g)) in within (2 ^ 128 - 1) true (width_of (merged_row g)) (omega (arith, l, w, low))
    at false few = refl

-- less than 2^32 rows that aren't too wide fit
pub rows_fit : (rows : List DeviceRow) → AreNarrowRows rows → length rows < 2 ^ 32 → are_wider (2 ^ 128 - 1) (groups rows) ≡ false
rows_fit rows low few = few_fit (length rows) (groups rows) few (subst (λ (k : ℕ). AreFew k (groups rows)) (zero_add (length rows)) (few_grouped 0 [] 0 rows low tt))
  where
    zero_add : (n : ℕ) → 0 + n ≡ n
    zero_add n = omega arith

-- a circuit of which no group is too wide has no such row when merged
none_wide : (rows : List DeviceRow) → list_any is_wide rows ≡ false → AreNarrowRows rows
none_wide [] h i row at = let z : ⊥ = cc in absurd z
none_wide (r ∷ rows) h zero row at =
    let same : r ≡ row = cc in
    ap is_wide (sym same) ∙ (or_parts _ _ h).0
none_wide (r ∷ rows) h (suc i) row at = none_wide rows (or_parts _ _ h).1 i row at

none_first : {A : Type 0} (k : ℕ) (p : A → Bool) (xs : List A) → first_from k p xs ≡ None → (i : ℕ) (x : A) → slice_get xs i ≡ Some x → p x ≡ false
none_first k p [] h i x at = let z : ⊥ = cc in absurd z
none_first {A = A} k p (y ∷ ys) h i x at = go (p y) refl h (none_first (k + 1) p ys) i at
  where
    go : (b : Bool) → p y ≡ b → cond b (Some k) (first_from (k + 1) p ys) ≡ None → (first_from (k + 1) p ys ≡ None → (j : ℕ) (z : A) → slice_get ys j ≡ Some z → p z ≡ false) → (j : ℕ) → slice_get (y ∷ ys) j ≡ Some x → p x ≡ false
    go true e h rec i at = let z : ⊥ = cc in absurd z
    go false e h rec zero at = let same : y ≡ x = cc in ap p (sym same) ∙ e
    go false e h rec (suc i) at = rec h i x at

pub narrow_merged : (nl : Netlist) → first_of is_too_wide nl.circuits ≡ None → IsNarrow (merged_netlist nl)
narrow_merged nl none t i row (c, is, at) =
    let o = circuit_back nl t c is in
    none_wide (merged_circuit o.0).devices (none_first 0 is_too_wide nl.circuits none t o.0 o.1) i row (subst (λ (x : Circuit). slice_get x.devices i ≡ Some row) (sym o.2) at)

pub ok_widest : {E : Type 0} (c : Circuit) (r : Result (Option Held) E) → IfOk r (IsCircuitMergedBy (10 ^ 27) c) → IfOk r (IsMergedCircuit c)
ok_widest c (Ok o) h = by_widest c o h
ok_widest c (Err e) h = h

-- a circuit of less than 2^32 devices, none of them too wide, is never refused
pub never_wider : (c : Held) (o : Option Held) → AreNarrowRows (plain_circuit c).devices → length c.devices.items < 2 ^ 32 → o ≡ None → IsCircuitMergedBy (2 ^ 128 - 1) (plain_circuit c) o → ⊥
never_wider c (Some m) low few none h = cc
never_wider c None low few none h =
    let count = length-map c.devices.items plain_device in
    true≢false (sym h ∙ rows_fit (plain_circuit c).devices low (omega (arith, count, few)))
