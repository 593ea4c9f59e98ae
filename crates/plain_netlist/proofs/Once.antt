-- A netlist has one circuit, call or device of a number.
use Rattle.std.proofs.Common.{◌≡◌, ℕ, List, [], ◌∷◌, Some, slice_get, subst}
use Rattle.plain_netlist.specs.Netlist.{CallRow, Circuit, DeviceRow, Netlist, IsCircuit, IsCall, IsDevice, HasDevice}

module _ (nl : Netlist) where
  pub one_circuit : (c : ℕ) (x y : Circuit) → IsCircuit nl c x → IsCircuit nl c y → x ≡ y
  one_circuit c x y h k = cc

  pub one_call : (c k : ℕ) (a b : CallRow) → IsCall nl c k a → IsCall nl c k b → a ≡ b
  one_call c k a b (x, is, h) (y, is', g) = let e : slice_get y.calls k ≡ Some a = subst (λ (z : Circuit). slice_get z.calls k ≡ Some a) (one_circuit c x y is is') h in cc

  pub one_row : (c i : ℕ) (a b : DeviceRow) → IsDevice nl c i a → IsDevice nl c i b → a ≡ b
  one_row c i a b (x, is, h) (y, is', g) = let e : slice_get y.devices i ≡ Some a = subst (λ (z : Circuit). slice_get z.devices i ≡ Some a) (one_circuit c x y is is') h in cc

  pub one_device : (path : List ℕ) (c i : ℕ) (a b : DeviceRow) → HasDevice nl c path i a → HasDevice nl c path i b → a ≡ b
  one_device [] c i a b h g = one_row c i a b h g
  one_device (k ∷ ks) c i a b (row, call, h) (other, also, g) =
      one_device ks other.circuit i a b (subst (λ (r : CallRow). HasDevice nl r.circuit ks i a) (one_call c k row other call also) h) g
