-- The kinds of devices as KLayout has them: classes, terminals and sizes.
use Rattle.std.specs.Prelude.{◌≡◌, ℕ, Bool, ◌&&◌, List, [], ◌∷◌, ◌++◌, codes, slice_index, bytes_eq}
use Rattle.fixed_num.specs.Microns.{IsMicrons, IsSquareMicrons}
use Rattle.net_names.specs.Folding.{folded_bytes}
use Rattle.plain_netlist.specs.declared.kinds.DeviceKind.{DeviceKind}
use Rattle.plain_netlist.specs.declared.kinds.DeviceKind.TheVariants.{Mos4, ResistorWithBulk, Diode}
use Rattle.plain_netlist.specs.Devices.{Ends, NoEnds, Both}
use Rattle.plain_netlist.specs.Kinds.{same_device_kind}
use Rattle.plain_netlist.specs.Netlist.{DeviceRow}
use Rattle.spice_rows.specs.Kinds.{first_key, second_key}
use Rattle.view_netlist.specs.declared.kinds.DeviceClass.{DeviceClass}

abbrev pub kind_word : DeviceKind → List ℕ
kind_word Mos4 = codes "transistor"
kind_word ResistorWithBulk = codes "resistor"
kind_word Diode = codes "diode"

-- KLayout's classes: a transistor with four terminals, a resistor with a bulk, a diode
abbrev pub template : DeviceKind → List ℕ
template Mos4 = codes "MOS4"
template ResistorWithBulk = codes "RES3"
template Diode = codes "DIODE"

-- what stands before the names of classes that are no transistors'
abbrev pub kind_mark : DeviceKind → List ℕ
kind_mark Mos4 = []
kind_mark ResistorWithBulk = kind_word ResistorWithBulk ++ codes "."
kind_mark Diode = kind_word Diode ++ codes "."

-- a class of devices of a kind
pub record Class : Type 0 where
  pub kind : DeviceKind
  pub name : List ℕ

abbrev pub class_of : DeviceRow → Class
class_of d = record { kind = d.kind; name = d.class }

abbrev pub class_seen : DeviceClass → Class
class_seen c = record { kind = c.kind; name = c.name.now }

abbrev pub same_class : Class → Class → Bool
same_class a b = same_device_kind a.kind b.kind && bytes_eq a.name b.name

-- a class's name in the database: `NMOS`, `resistor.RPOLY`, `diode.DNP`
abbrev pub class_name : Class → List ℕ
class_name c = kind_mark c.kind ++ c.name

-- Classes that are folded have names of their own: no folded one begins with a small letter.
abbrev pub OneNameLaw : Type 0
OneNameLaw = (a b : Class) → folded_bytes a.name ≡ a.name → folded_bytes b.name ≡ b.name
    → class_name a ≡ class_name b → a ≡ b

-- the terminals by KLayout's letters: source S, gate G, drain D, bulk B; both ends A and B of a
-- resistor and its bulk W; anode A and cathode C
abbrev pub terminals : DeviceKind → Ends ℕ → List ℕ → List (ℕ × ℕ)
terminals Mos4 (Both source drain) (gate ∷ bulk ∷ []) =
    (0x53, source) ∷ (0x47, gate) ∷ (0x44, drain) ∷ (0x42, bulk) ∷ []
terminals ResistorWithBulk (Both a b) (bulk ∷ []) = (0x41, a) ∷ (0x42, b) ∷ (0x57, bulk) ∷ []
terminals Diode NoEnds (anode ∷ cathode ∷ []) = (0x41, anode) ∷ (0x43, cathode) ∷ []
terminals kind ends others = []

-- the letters of the two sizes: of a diode the area comes before the perimeter
abbrev pub size_letters : DeviceKind → ℕ × ℕ
size_letters Mos4 = (first_key Mos4, second_key Mos4)
size_letters ResistorWithBulk = (first_key ResistorWithBulk, second_key ResistorWithBulk)
size_letters Diode = (second_key Diode, first_key Diode)

-- the two sizes by these letters: length and width in micrometres, of a diode its area in square
-- micrometres and its perimeter
abbrev pub AreSizes : DeviceKind → List ℕ → List ℕ → List ℕ → Type 0
AreSizes Mos4 sizes first second =
    IsMicrons (slice_index sizes 0) first × IsMicrons (slice_index sizes 1) second
AreSizes ResistorWithBulk sizes first second =
    IsMicrons (slice_index sizes 0) first × IsMicrons (slice_index sizes 1) second
AreSizes Diode sizes first second =
    IsSquareMicrons (slice_index sizes 1) first × IsMicrons (slice_index sizes 0) second
