-- The name of a device, by its kind, number, class and sizes.
use Rattle.std.specs.Prelude.{◌≡◌, ℕ, ◌+◌, List, [], ◌∷◌, ◌++◌, codes, decimal}
use Rattle.plain_netlist.specs.Netlist.{DeviceRow}
use Rattle.view_netlist.specs.Kinds.{AreSizes, Class, class_of, kind_word, size_letters}
use Rattle.view_words.specs.Words.{word}

-- `KIND $K CLASS`, numbered from 1
abbrev pub class_text : ℕ → Class → List ℕ
class_text k c =
    kind_word c.kind ++ (codes " $" ++ (decimal (k + 1) ++ (0x20 ∷ word c.name)))

-- ` L=..`
abbrev pub size_text : ℕ → List ℕ → List ℕ
size_text key size = 0x20 ∷ key ∷ 0x3D ∷ size

-- `transistor $K CLASS L=.. W=..`, `resistor $K CLASS L=.. W=..` or `diode $K CLASS A=.. P=..`, in
-- micrometres and square micrometres
abbrev pub sized_name : ℕ → Class → List ℕ → List ℕ → List ℕ
sized_name k c first second = class_text k c
    ++ (size_text (size_letters c.kind).0 first ++ size_text (size_letters c.kind).1 second)

abbrev pub IsDeviceName : ℕ → DeviceRow → List ℕ → Type 0
IsDeviceName k d text = (first : List ℕ) × (second : List ℕ)
    × AreSizes d.kind d.sizes first second
    × (text ≡ sized_name k (class_of d) first second)
