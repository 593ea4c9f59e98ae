-- All transistors of the layout have one width, so none corresponds to a wider one.
use Rattle.std.proofs.Common.{◌≡◌, ℕ, zero, suc, List, [], ◌∷◌, Some, slice_get, refl, ap, subst, arith}
use Rattle.std.proofs.lemmas.Option.{none-some, same_Some}
use Rattle.plain_netlist.specs.Devices.{Row}
use Rattle.plain_netlist.specs.Netlist.{DeviceRow, HasDevice, Slot, slot}
use Rattle.law_samples.specs.Chain.{layout, wide, whole, WidthChainLaw}
use Rattle.law_samples.proofs.chain.Sound.{layout_at}

abbrev One : DeviceRow → Type 0
One row = row.sizes ≡ 100000000 ∷ 1000000000 ∷ []

no_row : (i : ℕ) (row : DeviceRow) → slice_get [] i ≡ Some row → One row
no_row i row h = absurd (none-some row h)

one_row : (r : DeviceRow) → One r → (i : ℕ) (row : DeviceRow) → slice_get (r ∷ []) i ≡ Some row → One row
one_row r o zero row h = subst One (same_Some _ _ h) o
one_row r o (suc i) row h = absurd (none-some row h)

widths : (path : List ℕ) (c i : ℕ) (row : DeviceRow) → HasDevice layout c path i row → One row
widths [] c i row (x, is, h) = layout_at (λ c x. (i : ℕ) (row : DeviceRow) → slice_get x.devices i ≡ Some row → One row) no_row (one_row _ refl) (one_row _ refl) no_row c x is i row h
widths (k ∷ ks) c i row (call, is, h) = widths ks call.circuit i row h

pub no_width : WidthChainLaw
no_width device net h =
    let there : HasDevice wide 1 (0 ∷ []) 0 _ = (_, (whole, refl, refl), (_, refl, refl)) in
    let b = h.back (slot (0 ∷ []) 0) _ (_, there, refl) in
    let row = b.2 in
    let sizes : b.1.sizes ≡ row.0.sizes = ap (λ (r : Row Slot). r.sizes) row.2 in
    let same : b.1.sizes ≡ 100000000 ∷ 2000000000 ∷ [] = b.4.sizes in
    let one : row.0.sizes ≡ 100000000 ∷ 1000000000 ∷ [] = widths b.0.path 3 b.0.net row.0 row.1 in
    let width : ◌≡◌ {A = ℕ} 1000000000 2000000000 = cc in
    absurd (omega arith)
