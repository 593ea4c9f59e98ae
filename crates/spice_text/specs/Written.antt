-- The text of a netlist.
use Rattle.std.specs.Prelude.{◌≡◌, ℕ, ◌+◌, List, [], ◌∷◌, ◌++◌, Option, Some, None}
use Rattle.std.specs.Prelude.{slice_get, codes, decimal}
use Rattle.fixed_num.specs.Microns.{IsMicrons, IsSquareMicrons}
use Rattle.net_names.specs.Escapes.{escaped}
use Rattle.plain_netlist.specs.Netlist.{DeviceRow, CallRow, Circuit, Netlist}
use Rattle.plain_netlist.specs.declared.kinds.DeviceKind.{DeviceKind}
use Rattle.plain_netlist.specs.declared.kinds.DeviceKind.TheVariants.{Diode}
use Rattle.spice_rows.specs.Kinds.{card_nets, letter}
use Rattle.spice_text.specs.Cards.{back_key, first_size, front_key, second_size}

abbrev pub or_empty : Option (List ℕ) → List ℕ
or_empty None = []
or_empty (Some name) = name

-- a blank and the name of net n
abbrev pub net_text : List (List ℕ) → ℕ → List ℕ
net_text names n = 0x20 ∷ escaped (or_empty (slice_get names n))

abbrev pub nets_text : List (List ℕ) → List ℕ → List ℕ
nets_text names [] = []
nets_text names (n ∷ ns) = net_text names n ++ nets_text names ns

abbrev pub name_in : Option Circuit → List ℕ
name_in None = []
name_in (Some c) = c.name

-- `Mk`, `Rk` or `Dk` and the nets
abbrev pub device_nets_text : List (List ℕ) → ℕ → DeviceRow → List ℕ
device_nets_text names k d = letter d.kind ∷ (decimal k ++ nets_text names (card_nets d))

-- a length in micrometres, an area in square micrometres
abbrev pub IsLengthText : ℕ → List ℕ → Type 0
IsLengthText v text = (m : List ℕ) × IsMicrons v m × (text ≡ m ++ codes "U")

abbrev pub IsAreaText : ℕ → List ℕ → Type 0
IsAreaText v text = (m : List ℕ) × IsSquareMicrons v m × (text ≡ m ++ codes "P")

-- the two sizes: of a diode its area and its perimeter
abbrev pub AreSizes : DeviceKind → DeviceRow → List ℕ → List ℕ → Type 0
AreSizes Diode d front back = IsAreaText (second_size d) front × IsLengthText (first_size d) back
AreSizes kind d front back = IsLengthText (first_size d) front × IsLengthText (second_size d) back

-- ` CLASS L=lU W=wU` or ` CLASS A=aP P=pU`
abbrev pub sizes_text : DeviceKind → List ℕ → List ℕ → List ℕ → List ℕ
sizes_text kind class front back =
    0x20 ∷ (escaped class ++ (0x20 ∷ front_key kind ∷ 0x3D ∷ (front
    ++ (0x20 ∷ back_key kind ∷ 0x3D ∷ (back ++ codes "\n")))))

-- the line of a device
abbrev pub device_text : List (List ℕ) → ℕ → DeviceRow → List ℕ → List ℕ → List ℕ
device_text names k d front back =
    device_nets_text names k d ++ sizes_text d.kind d.class front back

abbrev pub IsDeviceText : List (List ℕ) → ℕ → DeviceRow → List ℕ → Type 0
IsDeviceText names k d text = (front : List ℕ) × (back : List ℕ)
    × AreSizes d.kind d front back × (text ≡ device_text names k d front back)

-- `Xk nets circuit`
abbrev pub call_text : List Circuit → List (List ℕ) → ℕ → CallRow → List ℕ
call_text cs names k r =
    0x58 ∷ (decimal k ++ (nets_text names r.nets
    ++ (0x20 ∷ (escaped (name_in (slice_get cs r.circuit)) ++ codes "\n"))))

-- calls, numbered from k
abbrev pub calls_text : List Circuit → List (List ℕ) → ℕ → List CallRow → List ℕ
calls_text cs names k [] = []
calls_text cs names k (r ∷ rs) = call_text cs names k r ++ calls_text cs names (k + 1) rs

-- each item's text, one behind another, numbered from k
abbrev pub AreTexts : {A : Type 0} → (ℕ → A → List ℕ → Type 0) → ℕ → List A → List ℕ → Type 0
AreTexts P k [] text = text ≡ []
AreTexts P k (x ∷ xs) text =
    (a : List ℕ) × P k x a × (b : List ℕ) × AreTexts P (k + 1) xs b × (text ≡ a ++ b)

-- each item's text, one behind another
abbrev pub AreOneByOne : {A : Type 0} → (A → List ℕ → Type 0) → List A → List ℕ → Type 0
AreOneByOne P [] text = text ≡ []
AreOneByOne P (x ∷ xs) text =
    (a : List ℕ) × P x a × (b : List ℕ) × AreOneByOne P xs b × (text ≡ a ++ b)

-- `.SUBCKT name pins`, its devices and its calls, both numbered from 1, and `.ENDS name`
abbrev pub circuit_text : List Circuit → Circuit → List ℕ → List ℕ
circuit_text cs c devices =
    codes ".SUBCKT " ++ (escaped c.name ++ (nets_text c.nets c.pins ++ (codes "\n"
    ++ (devices ++ (calls_text cs c.nets 1 c.calls
    ++ (codes ".ENDS " ++ (escaped c.name ++ codes "\n")))))))

abbrev pub IsCircuitText : List Circuit → Circuit → List ℕ → Type 0
IsCircuitText cs c text =
    (devices : List ℕ) × AreTexts (IsDeviceText c.nets) 1 c.devices devices
    × (text ≡ circuit_text cs c devices)

-- the text of a netlist
abbrev pub IsWritten : Netlist → List ℕ → Type 0
IsWritten n text = (circuits : List ℕ) × AreOneByOne (IsCircuitText n.circuits) n.circuits circuits
    × (text ≡ codes "* lvs netlist\n" ++ (circuits ++ codes ".END\n"))

-- what was written since is such a text
abbrev pub Adds : (List ℕ → Type 0) → List ℕ → List ℕ → Type 0
Adds P before after = (text : List ℕ) × (after ≡ before ++ text) × P text

-- what was written since makes, with a rest behind it, the whole
pub record HasWritten (Rest Whole : List ℕ → Type 0) (before after : List ℕ) : Type 0 where
  pub text : List ℕ
  pub added : after ≡ before ++ text
  pub whole : (b : List ℕ) → Rest b → Whole (text ++ b)
