-- Which nodes are of one kind, so that they may be partners.
use Rattle.std.specs.Prelude.{ℕ, Bool, false, ◌==◌, ◌&&◌, List, Option, Some, None, get_or, length, map}
use Rattle.std.specs.Prelude.{slice_get, bytes_eq}
use Rattle.std.specs.Bool.{beq}
use Rattle.std.specs.List.{list_any, range_with_len}
use Rattle.plain_netlist.specs.Kinds.{same_device_kind}
use Rattle.plain_netlist.specs.Netlist.{CallRow, Circuit, DeviceRow}
use Rattle.view_cross.specs.declared.rows.Kind.{Kind}
use Rattle.view_cross.specs.declared.rows.Kind.TheVariants.{Net, Pin, Device, Call}
use Rattle.view_pairs.specs.Partners.{meets}
use Rattle.view_pairs.specs.declared.partners.Partners.{Partners}

-- for each of n numbers whether it is listed
abbrev pub marks_of : ℕ → List ℕ → List Bool
marks_of n ns = map (λ k. list_any (λ x. x == k) ns) (range_with_len 0 n)

-- for each net whether it is a pin
abbrev pub pin_marks : Circuit → List Bool
pin_marks c = marks_of (length c.nets) c.pins

-- both there, and alike
abbrev pub both : {T : Type 0} → (T → T → Bool) → Option T → Option T → Bool
both same None y = false
both same (Some x) None = false
both same (Some x) (Some y) = same x y

abbrev pub same_class : DeviceRow → DeviceRow → Bool
same_class d e = same_device_kind d.kind e.kind && bytes_eq d.class e.class

abbrev pub same_pair : CallRow → CallRow → Bool
same_pair c e = c.circuit == e.circuit

-- nets: both pins or both not; pins: on nets that are partners; devices: of one class; calls: of
-- one pair
abbrev pub is_alike : Circuit → Circuit → Partners → Kind → ℕ → ℕ → Bool
is_alike a b nets Net k m = beq (get_or (pin_marks a) k false) (get_or (pin_marks b) m false)
is_alike a b nets Pin k m = both (meets nets) (slice_get a.pins k) (slice_get b.pins m)
is_alike a b nets Device k m = both same_class (slice_get a.devices k) (slice_get b.devices m)
is_alike a b nets Call k m = both same_pair (slice_get a.calls k) (slice_get b.calls m)
