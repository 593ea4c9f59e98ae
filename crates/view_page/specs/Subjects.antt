-- What a line of the page is about: a net, a device or a call, by its name and its place.
use Rattle.std.specs.Prelude.{◌≡◌, ℕ, ℤ, pos, negsuc, ◌+◌, ◌*◌, List, [], ◌∷◌, ◌++◌, Option, Some}
use Rattle.std.specs.Prelude.{None, codes, decimal, get_or, slice_get, unsigned_abs}
use Rattle.fixed_num.specs.Microns.{IsMicrons}
use Rattle.geo_base.specs.declared.shapes.Point.{Point}
use Rattle.plain_netlist.specs.Netlist.{CallRow, Circuit, DeviceRow}
use Rattle.view_cross.specs.declared.rows.Kind.{Kind}
use Rattle.view_cross.specs.declared.rows.Kind.TheVariants.{Net, Pin, Device, Call}
use Rattle.view_page.specs.Devices.{IsDeviceName}
use Rattle.view_words.specs.Words.{word}

-- `net NAME`
abbrev pub net_name : List (List ℕ) → ℕ → List ℕ
net_name names k = codes "net " ++ word (get_or names k [])

-- `call $K of CIRCUIT`, by the names of the circuits
abbrev pub call_name : List (List ℕ) → ℕ → CallRow → List ℕ
call_name circuits k c =
    codes "call $" ++ (decimal (k + 1) ++ (codes " of " ++ word (get_or circuits c.circuit [])))

abbrev pub IsDeviceAt : ℕ → Option DeviceRow → List ℕ → Type 0
IsDeviceAt k None text = text ≡ []
IsDeviceAt k (Some d) text = IsDeviceName k d text

abbrev pub IsCallAt : List (List ℕ) → ℕ → Option CallRow → List ℕ → Type 0
IsCallAt circuits k None text = text ≡ []
IsCallAt circuits k (Some c) text = text ≡ call_name circuits k c

-- the name of the k-th node of a kind; pins are told by their nets
abbrev pub IsName : List (List ℕ) → Circuit → Kind → ℕ → List ℕ → Type 0
IsName circuits c Net k text = text ≡ net_name c.nets k
IsName circuits c Pin k text = text ≡ []
IsName circuits c Device k text = IsDeviceAt k (slice_get c.devices k) text
IsName circuits c Call k text = IsCallAt circuits k (slice_get c.calls k) text

abbrev pub signed : ℤ → List ℕ → List ℕ
signed (pos n) text = text
signed (negsuc n) text = 0x2D ∷ text

-- database units in micrometres, the unit being given in picometres
abbrev pub IsCoordinate : ℕ → ℤ → List ℕ → Type 0
IsCoordinate unit z text =
    (m : List ℕ) × IsMicrons (unsigned_abs z * (unit * 1000)) m × (text ≡ signed z m)

abbrev pub point_text : List ℕ → List ℕ → List ℕ
point_text x y = codes " at (" ++ (x ++ (codes ", " ++ (y ++ codes ")")))

-- ` at (X, Y)`, or nothing where there is no place
abbrev pub IsPlace : ℕ → Option Point → List ℕ → Type 0
IsPlace unit None text = text ≡ []
IsPlace unit (Some p) text = (x : List ℕ) × IsCoordinate unit p.x x
    × (y : List ℕ) × IsCoordinate unit p.y y
    × (text ≡ point_text x y)
