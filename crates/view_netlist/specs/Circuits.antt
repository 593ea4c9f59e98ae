-- The text of a circuit.
use Rattle.std.specs.Prelude.{◌≡◌, ℕ, ◌+◌, List, [], ◌∷◌, ◌++◌, Option, Some, get_or, slice_get}
use Rattle.std.specs.Prelude.{codes}
use Rattle.geo_base.specs.declared.motion.Motion.{Motion}
use Rattle.plain_netlist.specs.Netlist.{CallRow, Circuit, DeviceRow}
use Rattle.spice_text.specs.Written.{AreOneByOne, AreTexts}
use Rattle.view_words.specs.Words.{word}
use Rattle.view_netlist.specs.Drawing.{Drawn, drawn_of, hull_text, kind_text, motion_text, origin}
use Rattle.view_netlist.specs.Drawing.{shape_rows}
use Rattle.view_netlist.specs.Kinds.{AreSizes, class_of}
use Rattle.view_netlist.specs.Rows.{call_pin_texts, device_end, name_text, pin_texts, place_text}
use Rattle.view_netlist.specs.declared.drawing.DevicePlace.{DevicePlace}
use Rattle.view_netlist.specs.declared.drawing.Drawing.{Drawing}
use Rattle.view_netlist.specs.declared.drawing.Names.{Names}
use Rattle.view_netlist.specs.declared.drawing.Shape.{Shape}

-- `N(NET I(NAME) R(..) ..)`
abbrev pub net_text : List (List ℕ) → List (List Shape) → List (List ℕ) → ℕ → List ℕ
net_text layers drawn names k = codes "\n  N(" ++ (place_text k ++ (name_text names k
    ++ (shape_rows layers origin (get_or drawn k []) ++ codes ")")))

-- for each net, from the k-th
abbrev pub net_texts : List (List ℕ) → List (List Shape) → List (List ℕ) → ℕ → List (List ℕ)
    → List ℕ
net_texts layers drawn names k [] = []
net_texts layers drawn names k (_ ∷ rest) =
    net_text layers drawn names k ++ net_texts layers drawn names (k + 1) rest

-- `D(K CLASS ..)` or, where it has a place, `D(K D$K Y(X Y) ..)`
abbrev pub device_text : ℕ → List ℕ → List ℕ → Option DevicePlace → DeviceRow → List ℕ
device_text k first second place d = codes "\n  D(" ++ (place_text k
    ++ (0x20 ∷ (kind_text (class_of d) place ++ device_end first second d)))

-- with its sizes
abbrev pub IsDeviceText : List DevicePlace → ℕ → DeviceRow → List ℕ → Type 0
IsDeviceText places k d text = (first : List ℕ) × (second : List ℕ)
    × AreSizes d.kind d.sizes first second
    × (text ≡ device_text k first second (slice_get places k) d)

-- what stands behind the name of a called circuit
abbrev pub call_end : Option Motion → CallRow → List ℕ
call_end motion r = motion_text motion ++ (call_pin_texts 0 r.nets ++ codes ")")

-- `X(K CIRCUIT M O(..) Y(X Y) P(..) ..)`
abbrev pub call_text : List (List ℕ) → Option Motion → ℕ → CallRow → List ℕ
call_text circuits motion k r = codes "\n  X(" ++ (place_text k
    ++ (0x20 ∷ (word (get_or circuits r.circuit []) ++ call_end motion r)))

abbrev pub call_texts : List (List ℕ) → List Motion → ℕ → List CallRow → List ℕ
call_texts circuits drawn k [] = []
call_texts circuits drawn k (r ∷ rs) =
    call_text circuits (slice_get drawn k) k r ++ call_texts circuits drawn (k + 1) rs

-- what stands before a circuit's devices, and behind them
abbrev pub head_text : Names → Drawn → ℕ → Circuit → List ℕ
head_text names drawn k c = codes "\n X(" ++ (word (get_or names.circuits.items k [])
    ++ (hull_text drawn.hull ++ (net_texts names.layers.items drawn.nets c.nets 0 c.nets
    ++ pin_texts c.nets c.pins)))

abbrev pub tail_text : List (List ℕ) → Drawn → Circuit → List ℕ
tail_text circuits drawn c = call_texts circuits drawn.calls 0 c.calls ++ codes "\n )"

abbrev pub IsCircuitText : Names → Drawn → ℕ → Circuit → List ℕ → Type 0
IsCircuitText names drawn k c text =
    (devices : List ℕ) × AreTexts (IsDeviceText drawn.devices) 0 c.devices devices
    × (text ≡ head_text names drawn k c ++ (devices ++ tail_text names.circuits.items drawn c))

-- the circuit of a number
abbrev pub IsNumberText : Names → List Drawing → List Circuit → ℕ → List ℕ → Type 0
IsNumberText names drawings cs k text =
    (c : Circuit) × (slice_get cs k ≡ Some c) × IsCircuitText names (drawn_of drawings k) k c text

-- these circuits, in this order
abbrev pub AreCircuitTexts : Names → List Drawing → List Circuit → List ℕ → List ℕ → Type 0
AreCircuitTexts names drawings cs order text =
    AreOneByOne (IsNumberText names drawings cs) order text
