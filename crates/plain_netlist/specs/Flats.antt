-- Flat netlists of any kind, what a circuit expands to as one, and when two are the same.
use Rattle.std.specs.Prelude.{◌≡◌, ◌↔◌, ℕ, List}
use Rattle.plain_netlist.specs.Devices.{Row, AreRowsAlike, row_over}
use Rattle.plain_netlist.specs.Netlist.{DeviceRow, Netlist, Slot, slot, InOneNet, HasDevice}
use Rattle.plain_netlist.specs.Netlist.{IsOnPin}

-- devices and nets, each known by one name or more: which rows a device has, which names are of one
-- device, which of one net, and which nets are pins
pub record Flat (D N : Type 0) : Type 1 where
  pub has_device : D → Row N → Type 0
  pub one_device : D → D → Type 0
  pub one_net : N → N → Type 0
  pub is_pin : N → Type 0

-- these pairs of devices and of nets are a one-to-one correspondence of all devices and of the nets
-- of their terminals, which keeps class, sizes, terminals and pins
pub record Corresponds {D N E M : Type 0} (F : Flat D N) (G : Flat E M)
    (device : D → E → Type 0) (net : N → M → Type 0) : Type 0 where
  pub there : (x : D) (r : Row N) → F.has_device x r
      → (y : E) × (s : Row M) × G.has_device y s × device x y × AreRowsAlike net r s
  pub back : (y : E) (s : Row M) → G.has_device y s
      → (x : D) × (r : Row N) × F.has_device x r × device x y × AreRowsAlike net r s
  pub devices : (a b : D) (x y : E) → device a x → device b y
      → F.one_device a b ↔ G.one_device x y
  pub nets : (a b : N) (x y : M) → net a x → net b y → F.one_net a b ↔ G.one_net x y
  pub pins : (a : N) (x : M) → net a x → F.is_pin a ↔ G.is_pin x

-- a device over the nets of the circuit at the end of a path
abbrev pub row_at : List ℕ → DeviceRow → Row Slot
row_at path row = row_over (slot path) row

-- what a circuit expands to: the devices at the ends of paths of calls, and the nets that the calls
-- join
abbrev pub expanded : Netlist → ℕ → Flat Slot Slot
expanded nl t = record {
  has_device = λ a r. (row : DeviceRow)
      × HasDevice nl t a.path a.net row × (r ≡ row_at a.path row);
  one_device = λ a b. a ≡ b;
  one_net = InOneNet nl t;
  is_pin = IsOnPin nl t;
}

-- the pairs the other way round
abbrev pub Reversed : {A B : Type 0} → (A → B → Type 0) → B → A → Type 0
Reversed R b a = R a b

-- pairs of the one, followed by pairs of the other
abbrev pub Through : {A B C : Type 0} → (A → B → Type 0) → (B → C → Type 0) → A → C → Type 0
Through {A} {B} {C} R S a c = (b : B) × R a b × S b c
