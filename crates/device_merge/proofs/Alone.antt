-- A netlist without alike devices is its merged one.
use Rattle.std.proofs.Common.{◌≡◌, ◌⊎◌, inl, inr, ◌<◌, ◌≤◌, ◌+◌, ℕ, suc, Bool, true, false, nat_lt, cond, List, [], ◌∷◌, ◌++◌, map, length, refl, ap, ap₂, ◌∙◌, sym, subst, arith, append_assoc}
use Rattle.std.proofs.lemmas.Bool.{or_parts}
use Rattle.std.specs.List.{list_any}
use Rattle.plain_netlist.specs.Netlist.{Circuit, DeviceRow, Netlist}
use Rattle.merge_laws.specs.Grouped.{Group, Placed, grouped, groups, is_alike, merged_circuit, merged_netlist, merged_row, with_device}
use Rattle.device_merge.specs.Keys.{lone}
use Rattle.device_merge.specs.Merged.{has_alike, is_shorter}
use Rattle.device_merge.specs.Merging.{placed}
use Rattle.device_merge.proofs.Joined.{begins, begun_rows, joined}

-- a device joins a group, or begins one behind all others
one_more : (gs : List Group) (d : Placed) → (length (with_device gs d) ≡ length gs) ⊎ (with_device gs d ≡ gs ++ lone d.place d.row ∷ [])
one_more [] d = inr refl
one_more (g ∷ gs) d = at (is_alike g.first.row d.row) (one_more gs d)
  where
    at : (b : Bool) → (length (with_device gs d) ≡ length gs) ⊎ (with_device gs d ≡ gs ++ lone d.place d.row ∷ [])
        → (length (cond b (joined g d ∷ gs) (g ∷ with_device gs d)) ≡ length (g ∷ gs)) ⊎ (cond b (joined g d ∷ gs) (g ∷ with_device gs d) ≡ g ∷ gs ++ lone d.place d.row ∷ [])
    at true more = inl refl
    at false (inl e) = inl (ap suc e)
    at false (inr e) = inr (ap (λ (hs : List Group). g ∷ hs) e)

long_behind : (gs : List Group) (g : Group) → length (gs ++ g ∷ []) ≡ suc (length gs)
long_behind [] g = refl
long_behind (h ∷ gs) g = ap suc (long_behind gs g)

-- there are no more groups than devices
few_groups : (gs : List Group) (place : ℕ) (rows : List DeviceRow) → length (grouped gs place rows) ≤ length gs + length rows
few_groups gs place [] = omega arith
few_groups gs place (row ∷ rows) = at (one_more gs (placed place row)) (few_groups (with_device gs (placed place row)) (suc place) rows)
  where
    at : (length (with_device gs (placed place row)) ≡ length gs) ⊎ (with_device gs (placed place row) ≡ gs ++ lone place row ∷ [])
        → length (grouped gs place (row ∷ rows)) ≤ length (with_device gs (placed place row)) + length rows → length (grouped gs place (row ∷ rows)) ≤ length gs + suc (length rows)
    at (inl e) low = omega (arith, e, low)
    at (inr e) low = let l = ap (λ (hs : List Group). length hs) e ∙ long_behind gs (lone place row) in omega (arith, l, low)

-- where there are as many, each is one device
each_alone : (gs : List Group) (place : ℕ) (rows : List DeviceRow) → length gs + length rows ≤ length (grouped gs place rows) → map merged_row (grouped gs place rows) ≡ map merged_row gs ++ rows
each_alone gs place [] many = sym (none_behind (map merged_row gs))
  where
    none_behind : (xs : List DeviceRow) → xs ++ [] ≡ xs
    none_behind [] = refl
    none_behind (x ∷ xs) = ap (λ (ys : List DeviceRow). x ∷ ys) (none_behind xs)
each_alone gs place (row ∷ rows) many =
    at (one_more gs (placed place row)) (few_groups (with_device gs (placed place row)) (suc place) rows) (each_alone (with_device gs (placed place row)) (suc place) rows)
  where
    at : (length (with_device gs (placed place row)) ≡ length gs) ⊎ (with_device gs (placed place row) ≡ gs ++ lone place row ∷ [])
        → length (grouped gs place (row ∷ rows)) ≤ length (with_device gs (placed place row)) + length rows
        → (length (with_device gs (placed place row)) + length rows ≤ length (grouped gs place (row ∷ rows)) → map merged_row (grouped gs place (row ∷ rows)) ≡ map merged_row (with_device gs (placed place row)) ++ rows)
        → map merged_row (grouped gs place (row ∷ rows)) ≡ map merged_row gs ++ row ∷ rows
    at (inl e) low rec = let z : ⊥ = omega (arith, e, low, many) in absurd z
    at (inr e) low rec =
        let l = ap (λ (hs : List Group). length hs) e ∙ long_behind gs (lone place row) in
        rec (omega (arith, l, many)) ∙ ap (λ (hs : List Group). map merged_row hs ++ rows) e ∙ ap (λ (rs : List DeviceRow). rs ++ rows) (begun_rows gs place row) ∙ append_assoc (map merged_row gs) (row ∷ []) rows

same_devices : (rows : List DeviceRow) → nat_lt (length (groups rows)) (length rows) ≡ false → map merged_row (groups rows) ≡ rows
same_devices rows h = each_alone [] 0 rows (many (length (groups rows)) (length rows) h)
  where
    many : (m n : ℕ) → nat_lt m n ≡ false → 0 + n ≤ m
    many m n h = grind (arith, h)

same_circuit : (c : Circuit) → is_shorter c ≡ false → merged_circuit c ≡ c
same_circuit c h = ap (λ (rows : List DeviceRow). let x : Circuit = record { name = c.name; nets = c.nets; pins = c.pins; devices = rows; calls = c.calls } in x) (same_devices c.devices h)

same_circuits : (cs : List Circuit) → list_any is_shorter cs ≡ false → map merged_circuit cs ≡ cs
same_circuits [] h = refl
same_circuits (c ∷ cs) h = ap₂ (λ (x : Circuit) (xs : List Circuit). x ∷ xs) (same_circuit c (or_parts _ _ h).0) (same_circuits cs (or_parts _ _ h).1)

pub unmerged : (nl : Netlist) → has_alike nl ≡ false → merged_netlist nl ≡ nl
unmerged nl h = ap (λ (cs : List Circuit). let x : Netlist = record { circuits = cs } in x) (same_circuits nl.circuits h)
