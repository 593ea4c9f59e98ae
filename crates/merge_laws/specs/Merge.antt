-- Alike devices, and a flat netlist in which each class of alike devices is one.
use Rattle.std.specs.Prelude.{◌≡◌, ◌⊎◌, ◌+◌, ℕ, Bool, true, false, nat_lt, List, [], ◌∷◌}
use Rattle.plain_netlist.specs.Lists.{IsListed, AreRising}
use Rattle.plain_netlist.specs.declared.kinds.DeviceKind.{DeviceKind}
use Rattle.plain_netlist.specs.declared.kinds.DeviceKind.TheVariants.{Mos4, ResistorWithBulk, Diode}
use Rattle.plain_netlist.specs.Devices.{Row, AreRowsAlike}
use Rattle.plain_netlist.specs.Flats.{Flat}

-- devices of the kind and class may become one: transistors of a class whose first byte is above 32
abbrev pub may_merge : DeviceKind → List ℕ → Bool
may_merge Mos4 [] = false
may_merge Mos4 (byte ∷ bytes) = nat_lt 32 byte
may_merge ResistorWithBulk class = false
may_merge Diode class = false

abbrev pub may_merge_row : {N : Type 0} → Row N → Bool
may_merge_row r = may_merge r.kind r.class

-- the size that adds when devices become one is the second; of a transistor the width
abbrev pub added_size : List ℕ → ℕ
added_size (first ∷ second ∷ more) = second
added_size few = 0

-- the sizes with another one in place of that which adds
abbrev pub with_added : List ℕ → ℕ → List ℕ
with_added (first ∷ second ∷ more) w = first ∷ w ∷ more
with_added few w = few

-- the width of a row, and the row with another one
abbrev pub width_of : {N : Type 0} → Row N → ℕ
width_of r = added_size r.sizes

abbrev pub with_width : {N : Type 0} → Row N → ℕ → Row N
with_width r w = record {
  kind = r.kind;
  class = r.class;
  sizes = with_added r.sizes w;
  ends = r.ends;
  others = r.others;
}

-- two rows of a kind and class that may become one, which are the same device but for the width
pub record AreAlike {N : Type 0} (same : N → N → Type 0) (r s : Row N) : Type 0 where
  pub merges : may_merge_row r ≡ true
  pub rows : AreRowsAlike same (with_width r 0) (with_width s 0)

-- a device of a flat netlist, by one of its names, with a row that it has
pub record Known (D N : Type 0) : Type 0 where
  pub name : D
  pub row : Row N

-- the sum of the widths
abbrev pub total_width : {D N : Type 0} → List (Known D N) → ℕ
total_width [] = 0
total_width (d ∷ ds) = width_of d.row + total_width ds

-- no two places have the same device
abbrev pub AreOnce : {D N : Type 0} → (D → D → Type 0) → List (Known D N) → Type 0
AreOnce one = AreRising (λ d e. one d.name e.name → ⊥)

-- these are the devices whose rows are alike to this one, each once
pub record IsClass {D N : Type 0} (F : Flat D N) (r : Row N)
    (members : List (Known D N)) : Type 0 where
  pub each : (d : Known D N) → IsListed d members
      → F.has_device d.name d.row × AreAlike F.one_net r d.row
  pub all : (a : D) (s : Row N) → F.has_device a s → AreAlike F.one_net r s
      → (d : Known D N) × IsListed d members × F.one_device a d.name
  pub once : AreOnce F.one_device members

-- the width of the one that a row's class becomes: the sum over the class, or the row's own where
-- it isn't one that may merge
abbrev pub IsMergedWidth : {D N : Type 0} → Flat D N → Row N → ℕ → Type 0
IsMergedWidth {D} {N} F r w =
    ((may_merge_row r ≡ true)
    × (members : List (Known D N)) × IsClass F r members × (w ≡ total_width members))
    ⊎ ((may_merge_row r ≡ false) × (w ≡ width_of r))

-- rows of the two devices are alike, whichever names the devices are known by
abbrev pub AreDevicesAlike : {D N : Type 0} → Flat D N → D → D → Type 0
AreDevicesAlike {D} {N} F a b = (c : D) × (d : D) × (r : Row N) × (s : Row N)
    × F.one_device a c × F.has_device c r × F.one_device b d × F.has_device d s
    × AreAlike F.one_net r s

-- the same nets and pins, and one device for each class of alike devices, with the sum of their
-- widths, known by each name of each of them; the others as they are
abbrev pub merged : {D N : Type 0} → Flat D N → Flat D N
merged {D} {N} F = record {
  has_device = λ a r. (s : Row N) × F.has_device a s
      × (w : ℕ) × IsMergedWidth F s w × (r ≡ with_width s w);
  one_device = λ a b. F.one_device a b ⊎ AreDevicesAlike F a b;
  one_net = F.one_net;
  is_pin = F.is_pin;
}
