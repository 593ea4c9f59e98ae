-- The parts of a correspondence, one for each loop of the check.
use Rattle.std.specs.Prelude.{◌≡◌, ◌⊎◌, ◌↔◌, ◌<◌, ℕ, Bool, List, Option, Some, length, slice_get}
use Rattle.std.specs.Prelude.{slice_index}
use Rattle.plain_netlist.specs.Devices.{Ends, AreEndsJoined, AreJoined, exchanged}
use Rattle.plain_netlist.specs.Netlist.{DeviceRow, CallRow, Circuit}
use Rattle.plain_netlist.specs.Lists.{IsListed}
use Rattle.match_laws.specs.Circuits.{IsOneToOne, IsDeviceImage, IsCallImage, pin_name}
use Rattle.net_model.specs.declared.netlist.Circuit.{Circuit as CircuitRow}
use Rattle.match_types.specs.declared.answer.Pairing.{Pairing}
use Rattle.pairing_check.specs.declared.check.Marks.{Marks}

-- one mark for each net, device and call of the right circuit
pub record AreMarksFor (marks : Marks) (right : CircuitRow) : Type 0 where
  pub nets : length marks.nets.items ≡ length right.nets.items
  pub pins : length marks.pins.items ≡ length right.nets.items
  pub devices : length marks.devices.items ≡ length right.devices.items
  pub calls : length marks.calls.items ≡ length right.calls.items

-- the three lists of a pairing are one to one, onto all
pub record AreMaps (left right : CircuitRow) (f : Pairing) : Type 0 where
  pub nets : IsOneToOne f.nets.items (length left.nets.items) (length right.nets.items)
  pub devices : IsOneToOne f.devices.items (length left.devices.items) (length right.devices.items)
  pub calls : IsOneToOne f.calls.items (length left.calls.items) (length right.calls.items)

-- a net is a pin exactly where its image is
abbrev pub ArePinsKept : Circuit → Circuit → List ℕ → Type 0
ArePinsKept left right nets =
    (n : ℕ) → n < length nets → IsListed n left.pins ↔ IsListed (slice_index nets n) right.pins

-- pins go to pins of their name, where names tell pins apart
abbrev pub AreNamesKept : Bool → Circuit → Circuit → List ℕ → Type 0
AreNamesKept told left right nets = (n : ℕ) → n < length nets
    → pin_name told left n ≡ pin_name told right (slice_index nets n)

-- devices of one kind, class and sizes
pub record AreOneDevice (d e : DeviceRow) : Type 0 where
  pub kind : d.kind ≡ e.kind
  pub class : d.class ≡ e.class
  pub sizes : d.sizes ≡ e.sizes

-- ends go to these ends, in either order
abbrev pub AreEndsKept : List ℕ → Ends ℕ → Ends ℕ → Type 0
AreEndsKept nets d e = AreEndsJoined (λ n m. slice_index nets n ≡ m) d e
    ⊎ AreEndsJoined (λ n m. slice_index nets n ≡ m) d (exchanged e)

-- so do the terminals, each of the others to that of its place
pub record AreTerminalsKept (nets : List ℕ) (d e : DeviceRow) : Type 0 where
  pub ends : AreEndsKept nets d.ends e.ends
  pub others : AreJoined (λ n m. slice_index nets n ≡ m) d.others e.others

-- each device goes to its image
abbrev pub AreDeviceImages : Circuit → Circuit → List ℕ → List ℕ → Type 0
AreDeviceImages left right nets devices = (k : ℕ) (d e : DeviceRow)
    → slice_get left.devices k ≡ Some d → slice_get right.devices (slice_index devices k) ≡ Some e
    → IsDeviceImage nets d e

-- each call goes to its image
abbrev pub AreCallImages : (ℕ → Option (List ℕ)) → Circuit → Circuit → List ℕ → List ℕ → Type 0
AreCallImages children left right nets calls = (k : ℕ) (c e : CallRow)
    → slice_get left.calls k ≡ Some c → slice_get right.calls (slice_index calls k) ≡ Some e
    → IsCallImage children nets c e

-- the net at each left pin goes to the net at its right pin
abbrev pub HasImagePins : List ℕ → List ℕ → List ℕ → List ℕ → Type 0
HasImagePins nets pins left right = (i : ℕ) → i < length left
    → slice_index nets (slice_index left i) ≡ slice_index right (slice_index pins i)
