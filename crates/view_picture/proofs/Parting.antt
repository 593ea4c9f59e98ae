-- The places of devices, by those of the cell's.
use Rattle.std.proofs.Common.{◌≡◌, ◌↔◌, ◌∙◌, ℕ, Bool, true, false, List, [], ◌∷◌, ◌++◌, Some, None, ap, append-nil, append_assoc, map, sym}
use Rattle.base_laws.proofs.Tests.{not_both}
use Rattle.merge_laws.specs.Grouped.{are_wide, groups, merged_row}
use Rattle.plain_netlist.specs.Netlist.{DeviceRow}
use Rattle.view_joined.proofs.Small.{all_at}
use Rattle.view_netlist.specs.Drawing.{AreSmallPlaces, IsSmallPoint}
use Rattle.view_netlist.specs.declared.drawing.DevicePlace.{DevicePlace}
use Rattle.view_picture.specs.Parts.{AreMerged, before, first_place, first_places}

pub merged_if : (b : Bool) (rows others made : List DeviceRow) → made ≡ map merged_row (groups others) → are_wide (groups others) ≡ false → (b ≡ true) ↔ (rows ≡ made) → (b ≡ true) ↔ AreMerged rows others
merged_if b rows others made is narrow same = ((λ t. record { same = same.0 t ∙ is; narrow = narrow }), (λ m. same.1 (m.same ∙ sym is)))

pub wide_not : (rows others : List DeviceRow) → are_wide (groups others) ≡ true → (false ≡ true) ↔ AreMerged rows others
wide_not rows others wide = ((λ t. absurd (let z : ⊥ = cc in z)), (λ m. absurd (not_both (are_wide (groups others)) wide m.narrow)))

-- ---- the places of the first of each list, one list after the other

pub ends_here : (all out places : List DevicePlace) (ks : List ℕ) (rest more : List (List ℕ)) → rest ≡ ks ∷ more → first_place all ks ≡ None → out ++ first_places all rest ≡ places → out ≡ places
ends_here all out places ks rest more e none h =
    let stop : first_places all rest ≡ [] = ap (λ (l : List (List ℕ)). first_places all l) e ∙ ap (λ o. before o (first_places all more)) none in
    sym (append-nil out) ∙ ap (λ (l : List DevicePlace). out ++ l) (sym stop) ∙ h

pub goes_further : (all out places : List DevicePlace) (ks : List ℕ) (rest more : List (List ℕ)) (p : DevicePlace) → rest ≡ ks ∷ more → first_place all ks ≡ Some p → out ++ first_places all rest ≡ places
    → (out ++ p ∷ []) ++ first_places all more ≡ places
goes_further all out places ks rest more p e some h =
    let step : first_places all rest ≡ p ∷ first_places all more = ap (λ (l : List (List ℕ)). first_places all l) e ∙ ap (λ o. before o (first_places all more)) some in
    append_assoc out (p ∷ []) (first_places all more) ∙ ap (λ (l : List DevicePlace). out ++ l) (sym step) ∙ h

pub ends_all : (all out places : List DevicePlace) (rest : List (List ℕ)) → rest ≡ [] → out ++ first_places all rest ≡ places → out ≡ places
ends_all all out places rest e h = sym (append-nil out) ∙ ap (λ (l : List (List ℕ)). out ++ first_places all l) (sym e) ∙ h

-- the first of small places is small
pub first_small : (all : List DevicePlace) (ks : List ℕ) (p : DevicePlace) → AreSmallPlaces all → first_place all ks ≡ Some p → IsSmallPoint p.at
first_small all [] p h e = absurd (let z : ⊥ = cc in z)
first_small all (k ∷ ks) p h e = all_at (λ (q : DevicePlace). IsSmallPoint q.at) all k p h e
