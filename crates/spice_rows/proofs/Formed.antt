-- A kept device has the terminals of its kind.
use Rattle.std.proofs.Common.{◌≡◌, ℕ, List, [], ◌∷◌, length, slice_index, refl, ◌∙◌, arith}
use Rattle.std.proofs.lemmas.List.{length-map}
use Rattle.fixed_num.specs.declared.femto.Femto.{Femto}
use Rattle.plain_netlist.specs.declared.kinds.DeviceKind.{DeviceKind}
use Rattle.plain_netlist.specs.declared.kinds.DeviceKind.TheVariants.{Mos4, ResistorWithBulk, Diode}
use Rattle.plain_netlist.specs.Kinds.{has_ends, other_count}
use Rattle.plain_netlist.specs.Devices.{IsFormed, have_ends}
use Rattle.spice_rows.specs.Kept.{IsKept, device_in, ends_with, others_with}
use Rattle.spice_rows.specs.declared.device.DeviceCard.TheInside.{Inside}

ends_there : (kind : DeviceKind) (a c : List ℕ) → have_ends (ends_with kind a c) ≡ has_ends kind
ends_there Mos4 a c = refl
ends_there ResistorWithBulk a c = refl
ends_there Diode a c = refl

others_there : (kind : DeviceKind) (a b d : List ℕ) → length (others_with kind a b d) ≡ other_count kind
others_there Mos4 a b d = refl
others_there ResistorWithBulk a b d = refl
others_there Diode a b d = refl

pub formed_in : (k : Inside) → IsKept k → IsFormed (device_in k)
formed_in k h = record {
  ends = ends_there k.kind _ _;
  others = others_there k.kind _ _ _;
  sizes = length-map k.sizes (λ (f : Femto). f.0) ∙ h.sizes;
}

-- two sizes
pub two_are : (sizes : List ℕ) → length sizes ≡ 2 → sizes ≡ slice_index sizes 0 ∷ slice_index sizes 1 ∷ []
two_are (a ∷ b ∷ []) e = refl
two_are [] e = absurd (omega (arith, e))
two_are (a ∷ []) e = absurd (omega (arith, e))
two_are (a ∷ b ∷ c ∷ more) e = absurd (omega (arith, e))
