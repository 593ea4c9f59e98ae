-- The regions of devices.
use Rattle.std.specs.Prelude.{ℕ, ◌+◌, List, [], ◌∷◌, ◌++◌, codes}
use Rattle.geo_base.specs.declared.shapes.Rect.{Rect}
use Rattle.plain_netlist.specs.declared.kinds.DeviceKind.{DeviceKind}
use Rattle.plain_netlist.specs.declared.kinds.DeviceKind.TheVariants.{Mos4, ResistorWithBulk, Diode}
use Rattle.view_netlist.specs.Drawing.{origin, region_name}
use Rattle.view_netlist.specs.Kinds.{Class, class_name}
use Rattle.view_words.specs.Steps.{step_rows, steps}
use Rattle.view_words.specs.Words.{word}
use Rattle.view_file.specs.Layers.{region_layer}
use Rattle.view_file.specs.declared.regions.Region.{Region}

-- `D(D$K CLASS`
abbrev pub region_head : ℕ → Class → List ℕ
region_head k class = codes "\n D(" ++ (region_name k ++ (0x20 ∷ word (class_name class)))

-- a row for each terminal, of which one has the region: a transistor's gate, a resistor's first
-- end, a diode's anode; this is what stands before its rectangles
abbrev pub region_open : DeviceKind → List ℕ
region_open Mos4 = codes "\n  T(S)\n  T(G"
region_open ResistorWithBulk = codes "\n  T(A"
region_open Diode = codes "\n  T(A"

-- and behind them
abbrev pub region_close : DeviceKind → List ℕ
region_close Mos4 = codes "\n  )\n  T(D)\n  T(B)\n )"
region_close ResistorWithBulk = codes "\n  )\n  T(B)\n  T(W)\n )"
region_close Diode = codes "\n  )\n  T(C)\n )"

abbrev pub terminal_rows : DeviceKind → List Rect → List ℕ
terminal_rows kind rects =
    region_open kind ++ (step_rows region_layer (steps origin rects) ++ region_close kind)

abbrev pub class_in : Region → Class
class_in r = record { kind = r.kind; name = r.class.items }

abbrev pub region_text : ℕ → Region → List ℕ
region_text k r = region_head k (class_in r) ++ terminal_rows r.kind r.rects.items

abbrev pub region_texts : ℕ → List Region → List ℕ
region_texts k [] = []
region_texts k (r ∷ rs) = region_text k r ++ region_texts (k + 1) rs
