-- An aligned netlist has no wider devices than the given one.
use Rattle.std.proofs.Common.{◌≡◌, ◌^◌, ◌&&◌, ℕ, Bool, true, false, nat_lt, List, [], ◌∷◌, Some, slice_get, sym, ap, ap₂, subst, ◌∙◌}
use Rattle.align_laws.proofs.Kept.{kept_alike}
use Rattle.align_laws.specs.Aligned.{HasOnlyKept, IsAligned, IsKeptExpansion, aligned_device, aligned_net}
use Rattle.align_laws.specs.Cut.{Alignment}
use Rattle.device_merge.specs.Merged.{IsNarrow}
use Rattle.merge_laws.specs.Grouped.{is_wide}
use Rattle.merge_laws.specs.Merge.{added_size, may_merge, may_merge_row, width_of}
use Rattle.net_align.specs.Compared.{AreAligned}
use Rattle.plain_netlist.specs.Devices.{IsRowOver}
use Rattle.plain_netlist.specs.Netlist.{Circuit, DeviceRow, HasDevice, IsDevice, Netlist, Slot}

-- also below a path of calls
narrow_below : (nl : Netlist) → IsNarrow nl → (path : List ℕ) (t i : ℕ) (row : DeviceRow) → HasDevice nl t path i row → is_wide row ≡ false
narrow_below nl narrow [] t i row has = narrow t i row has
narrow_below nl narrow (k ∷ ks) t i row (call, is, has) = narrow_below nl narrow ks call.circuit i row has

one_device : (nl : Netlist) (t i : ℕ) (a b : DeviceRow) → IsDevice nl t i a → IsDevice nl t i b → a ≡ b
one_device nl t i a b (c, is, at) (d, there, has) =
    let same : c ≡ d = cc in
    let here : slice_get d.devices i ≡ Some a = subst (λ (x : Circuit). slice_get x.devices i ≡ Some a) same at in
    cc

-- a row of one kind, class and sizes is as wide
as_wide : (net : ℕ → ℕ → Type 0) (a b : DeviceRow) → IsRowOver net a b → is_wide a ≡ is_wide b
as_wide net a b r =
    let may : may_merge_row a ≡ may_merge_row b = ap₂ may_merge r.kind r.class in
    let width : width_of a ≡ width_of b = ap added_size r.sizes in
    ap₂ (λ (m : Bool) (w : ℕ). m && nat_lt (10 ^ 27) w) may width

narrow_there : (g o : Netlist) (c t : ℕ) (net device : Slot → Slot) → IsNarrow g → IsKeptExpansion g o c t net device → (i : ℕ) (row : DeviceRow) → IsDevice o t i row → is_wide row ≡ false
narrow_there g o c t net device narrow alike i row is =
    let from = alike.back [] i row is in
    let s = from.0 in
    let old = from.1 in
    let to = alike.each s.path s.net old from.2 in
    let here : IsDevice o t i to.0 = subst (λ (x : Slot). HasDevice o t x.path x.net to.0) from.3 to.1 in
    ap is_wide (one_device o t i row to.0 is here) ∙ sym (as_wide _ old to.0 to.2) ∙ narrow_below g narrow s.path c s.net old from.2

-- each circuit of an aligned netlist is a kept one
narrow_aligned : (g o : Netlist) (w : Alignment) → IsNarrow g → IsAligned g o w → HasOnlyKept o w → IsNarrow o
narrow_aligned g o w narrow a only t i row (x, is, at) =
    let from = only.from t x is in
    let c = from.0 in
    let there : IsDevice o (w.number c) i row = subst (λ (k : ℕ). IsDevice o k i row) (sym from.2) (x, is, at) in
    narrow_there g o c (w.number c) (aligned_net g o w a c) (aligned_device g o w a c) narrow (kept_alike g o w a c from.1) i row there

pub both_narrow : (layout schematic : Netlist) (top : ℕ) (same : List (List ℕ × List ℕ)) (left right : Netlist) → AreAligned layout schematic top same left right → IsNarrow layout × IsNarrow schematic → IsNarrow left × IsNarrow right
both_narrow layout schematic top same left right h narrow =
    (narrow_aligned layout left h.left_by narrow.0 h.are.left_aligned h.are.left_only, narrow_aligned schematic right h.right_by narrow.1 h.are.right_aligned h.are.right_only)
