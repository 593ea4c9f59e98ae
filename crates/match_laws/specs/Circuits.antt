-- Two circuits as a web, and what a correspondence of two circuits is, given the right pin of each
-- left pin of the called pairs.
use Rattle.std.specs.Prelude.{◌≡◌, ◌↔◌, ◌<◌, ◌==◌, ◌&&◌, ℕ, zero, suc, Bool, true, false, cond}
use Rattle.std.specs.Prelude.{List, [], ◌∷◌, ◌++◌, map, length, count_by, flat_map, Option, Some}
use Rattle.std.specs.Prelude.{None, slice_get, slice_index, slice_index_or, bytes_eq}
use Rattle.std.specs.Bool.{beq}
use Rattle.std.specs.List.{list_any}
use Rattle.net_names.specs.Folding.{folded_bytes}
use Rattle.plain_netlist.specs.declared.kinds.DeviceKind.{DeviceKind}
use Rattle.plain_netlist.specs.Kinds.{same_device_kind}
use Rattle.plain_netlist.specs.Devices.{Ends, NoEnds, Both, AreRowsAlike}
use Rattle.plain_netlist.specs.Netlist.{DeviceRow, CallRow, Circuit}
use Rattle.plain_netlist.specs.Lists.{IsListed}
use Rattle.round_laws.specs.Web.{Port, EitherEnd, Other, Pin, End, Web, IsWebMap}
use Rattle.round_laws.specs.Nodes.{Node, Side, Layout, Schematic, Kind, Net, Device, Call}

-- two circuits to be compared; children: for each matched pair the right pin of each left pin
-- (circuits are paired by position, so the number of a called circuit is that of its pair); told:
-- their pins are told apart by their names
pub record Pair : Type 0 where
  pub left : Circuit
  pub right : Circuit
  pub children : ℕ → Option (List ℕ)
  pub told : Bool

-- the circuit of a side
abbrev pub circuit_of : Pair → Side → Circuit
circuit_of p Layout = p.left
circuit_of p Schematic = p.right

-- the right pin that stands for the i-th pin
abbrev pub right_pin : Pair → Side → ℕ → ℕ → ℕ
right_pin p Layout pair i = elim (p.children pair) [ None ↦ i | Some pins ↦ slice_index pins i ]
right_pin p Schematic pair i = i

-- n numbers from a on
abbrev pub numbers_from : ℕ → ℕ → List ℕ
numbers_from a zero = []
numbers_from a (suc n) = a ∷ numbers_from (suc a) n

abbrev pub node : Side → Kind → ℕ → Node
node side kind k = record { side = side; kind = kind; number = k }

abbrev pub end_at : Port → Node → End Node
end_at port n = record { port = port; node = n }

-- the terminals that have a place of their own, from this place on
abbrev pub other_ends : Side → ℕ → List ℕ → List (End Node)
other_ends side place [] = []
other_ends side place (n ∷ ns) =
    end_at (Other place) (node side Net n) ∷ other_ends side (suc place) ns

-- the terminals of a device in the order of its nets: its two ends are of one kind
abbrev pub terminal_ends : Side → Ends ℕ → List ℕ → List (End Node)
terminal_ends side NoEnds others = other_ends side 0 others
terminal_ends side (Both a b) [] =
    end_at EitherEnd (node side Net b) ∷ end_at EitherEnd (node side Net a) ∷ []
terminal_ends side (Both a b) (n ∷ ns) =
    end_at EitherEnd (node side Net b) ∷ end_at (Other 0) (node side Net n)
    ∷ end_at EitherEnd (node side Net a) ∷ other_ends side 1 ns

abbrev pub device_ends : Side → DeviceRow → List (End Node)
device_ends side d = terminal_ends side d.ends d.others

-- the terminals of a call, each by the right pin that it stands at
abbrev pub call_ends : Pair → Side → CallRow → List (End Node)
call_ends p side c =
    map (λ i. end_at (Pin c.circuit (right_pin p side c.circuit i))
    (node side Net (slice_index c.nets i))) (numbers_from 0 (length c.nets))

-- the terminals of a device or call; a net has none of its own
abbrev pub terminals : Pair → Side → Kind → ℕ → List (End Node)
terminals p side Net k = []
terminals p side Device k =
    elim (slice_get (circuit_of p side).devices k) [ None ↦ [] | Some d ↦ device_ends side d ]
terminals p side Call k =
    elim (slice_get (circuit_of p side).calls k) [ None ↦ [] | Some c ↦ call_ends p side c ]

abbrev pub terminals_of : Pair → Node → List (End Node)
terminals_of p n = terminals p n.side n.kind n.number

-- the devices and calls of a side, by number
abbrev pub owners : Pair → Side → List Node
owners p side =
    map (node side Device) (numbers_from 0 (length (circuit_of p side).devices))
    ++ map (node side Call) (numbers_from 0 (length (circuit_of p side).calls))

-- all nodes of a side: nets, devices, calls, by number
abbrev pub nodes : Pair → Side → List Node
nodes p side =
    map (node side Net) (numbers_from 0 (length (circuit_of p side).nets)) ++ owners p side

abbrev pub same_side : Side → Side → Bool
same_side Layout Layout = true
same_side Layout Schematic = false
same_side Schematic Layout = false
same_side Schematic Schematic = true

abbrev pub same_kind : Kind → Kind → Bool
same_kind a b = elim a [
  | Net ↦ elim b [ Net ↦ true | Device ↦ false | Call ↦ false ]
  | Device ↦ elim b [ Net ↦ false | Device ↦ true | Call ↦ false ]
  | Call ↦ elim b [ Net ↦ false | Device ↦ false | Call ↦ true ]
]

abbrev pub same_node : Node → Node → Bool
same_node a b = same_side a.side b.side && (same_kind a.kind b.kind && (a.number == b.number))

-- the terminals that stand on the net, seen from the net
abbrev pub ends_on : Node → Node → List (End Node) → List (End Node)
ends_on net owner [] = []
ends_on net owner (e ∷ es) =
    cond (same_node e.node net) (end_at e.port owner ∷ ends_on net owner es) (ends_on net owner es)

-- the terminals of a node: a net has those that stand on it
abbrev pub near_at : Pair → Side → Kind → ℕ → List (End Node)
near_at p side Net k =
    flat_map (λ o. ends_on (node side Net k) o (terminals_of p o)) (owners p side)
near_at p side Device k = terminals p side Device k
near_at p side Call k = terminals p side Call k

-- net k is a pin
abbrev pub is_pin : Circuit → ℕ → Bool
is_pin c k = list_any (λ n. n == k) c.pins

-- the name of a pin, small letters being large ones, where pins are told apart by their names
abbrev pub pin_name : Bool → Circuit → ℕ → List ℕ
pin_name told c k = cond (told && is_pin c k) (folded_bytes (slice_index_or c.nets k [])) []

-- what the first round goes by: a net by being a pin, and by the pin's name where names tell pins
-- apart, a device by what it is, class and sizes, a call by its pair
pub data Own : Type 0 where
  OfNet : (is_pin : Bool) (name : List ℕ) → Own
  OfDevice : (kind : DeviceKind) (class sizes : List ℕ) → Own
  OfCall : (pair : ℕ) → Own
  OfNone : Own

abbrev pub same_own : Own → Own → Bool
same_own (OfNet a m) (OfNet b n) = beq a b && bytes_eq m n
same_own (OfDevice k c s) (OfDevice j d t) =
    same_device_kind k j && (bytes_eq c d && bytes_eq s t)
same_own (OfCall p) (OfCall q) = p == q
same_own OfNone OfNone = true
same_own a b = false

abbrev pub own_at : Pair → Side → Kind → ℕ → Own
own_at p side Net k =
    OfNet (is_pin (circuit_of p side) k) (pin_name p.told (circuit_of p side) k)
own_at p side Device k =
    elim (slice_get (circuit_of p side).devices k) [
      | None ↦ OfNone
      | Some d ↦ OfDevice d.kind d.class d.sizes
    ]
own_at p side Call k =
    elim (slice_get (circuit_of p side).calls k) [ None ↦ OfNone | Some c ↦ OfCall c.circuit ]

abbrev pub own : Pair → Node → Own
own p n = own_at p n.side n.kind n.number

-- the pair as a web
abbrev pub web_of : Pair → Web Node
web_of p = record {
  left = nodes p Layout;
  right = nodes p Schematic;
  is = same_node;
  alike = λ a b. same_own (own p a) (own p b);
  near = λ n. near_at p n.side n.kind n.number;
}

-- a one-to-one map of m numbers onto n, as a list: each entry is below n, and each number below n
-- stands once
pub record IsOneToOne (xs : List ℕ) (m n : ℕ) : Type 0 where
  pub count : length xs ≡ m
  pub below : (x : ℕ) → IsListed x xs → x < n
  pub once : (j : ℕ) → j < n → count_by (λ x. j == x) xs ≡ 1

-- the right number of each left net, device and call
pub record Pairing : Type 0 where
  pub nets : List ℕ
  pub devices : List ℕ
  pub calls : List ℕ

-- the same device, where each net has gone to its right one
abbrev pub IsDeviceImage : List ℕ → DeviceRow → DeviceRow → Type 0
IsDeviceImage nets d e = AreRowsAlike (λ n m. slice_index nets n ≡ m) d e

-- the same pair is called, and the net at left pin i goes to the net at the paired right pin; a
-- call of a pair that isn't matched has no image
pub record IsCallImage (children : ℕ
    → Option (List ℕ)) (nets : List ℕ) (c e : CallRow) : Type 0 where
  pub pair : c.circuit ≡ e.circuit
  pub pins : List ℕ
  pub matched : children c.circuit ≡ Some pins
  pub count : length c.nets ≡ length e.nets
  pub at : (i : ℕ) → i < length c.nets
      → slice_index nets (slice_index c.nets i) ≡ slice_index e.nets (slice_index pins i)

-- three one-to-one maps, each onto all: nets, with pins to pins and only pins, of one name where
-- names tell pins apart, devices to their images, calls to their images
pub record IsCorrespondence (p : Pair) (f : Pairing) : Type 0 where
  pub nets : IsOneToOne f.nets (length p.left.nets) (length p.right.nets)
  pub devices : IsOneToOne f.devices (length p.left.devices) (length p.right.devices)
  pub calls : IsOneToOne f.calls (length p.left.calls) (length p.right.calls)
  pub pin : (n : ℕ) → n < length p.left.nets
      → IsListed n p.left.pins ↔ IsListed (slice_index f.nets n) p.right.pins
  pub named : (n : ℕ) → n < length p.left.nets
      → pin_name p.told p.left n ≡ pin_name p.told p.right (slice_index f.nets n)
  pub device : (k : ℕ) (d e : DeviceRow) → slice_get p.left.devices k ≡ Some d
      → slice_get p.right.devices (slice_index f.devices k) ≡ Some e → IsDeviceImage f.nets d e
  pub call : (k : ℕ) (c e : CallRow) → slice_get p.left.calls k ≡ Some c
      → slice_get p.right.calls (slice_index f.calls k) ≡ Some e → IsCallImage p.children f.nets c e

-- the pair fits on a side: the nets of devices and calls are nets, and the list of each called pair
-- is one to one over the call's pins
pub record IsFitting (p : Pair) (side : Side) : Type 0 where
  pub devices : (k : ℕ) (d : DeviceRow) → slice_get (circuit_of p side).devices k ≡ Some d
      → (e : End Node) → IsListed e (device_ends side d)
      → e.node.number < length (circuit_of p side).nets
  pub calls : (k : ℕ) (c : CallRow) → slice_get (circuit_of p side).calls k ≡ Some c → (n : ℕ)
      → IsListed n c.nets → n < length (circuit_of p side).nets
  pub pins : (k : ℕ) (c : CallRow) → slice_get (circuit_of p side).calls k ≡ Some c
      → (pins : List ℕ) → p.children c.circuit ≡ Some pins
      → IsOneToOne pins (length c.nets) (length c.nets)

abbrev pub image_at : Pairing → Kind → ℕ → ℕ
image_at f Net k = slice_index f.nets k
image_at f Device k = slice_index f.devices k
image_at f Call k = slice_index f.calls k

-- the map of nodes that a pairing is
abbrev pub node_image : Pairing → Node → Node
node_image f n = node Schematic n.kind (image_at f n.kind n.number)

-- a correspondence of the circuits is one of their web
abbrev pub WebMapLaw : Type 0
WebMapLaw = (p : Pair) (f : Pairing) → IsFitting p Layout → IsFitting p Schematic
    → IsCorrespondence p f → IsWebMap (web_of p) (node_image f)

-- the number lists of a map of nodes
abbrev pub numbers_of : (Node → Node) → Kind → ℕ → List ℕ
numbers_of f kind n = map (λ k. (f (node Layout kind k)).number) (numbers_from 0 n)

abbrev pub pairing_of : Pair → (Node → Node) → Pairing
pairing_of p f = record {
  nets = numbers_of f Net (length p.left.nets);
  devices = numbers_of f Device (length p.left.devices);
  calls = numbers_of f Call (length p.left.calls);
}

-- each pair that the left circuit calls is matched
abbrev pub AreMatched : Pair → Type 0
AreMatched p = (k : ℕ) (c : CallRow) → slice_get p.left.calls k ≡ Some c
    → (pins : List ℕ) × (p.children c.circuit ≡ Some pins)

-- a correspondence of the web is one of the circuits
abbrev pub ReadLaw : Type 0
ReadLaw = (p : Pair) (f : Node → Node) → IsFitting p Layout → IsFitting p Schematic → AreMatched p
    → IsWebMap (web_of p) f → IsCorrespondence p (pairing_of p f)
