-- The section of the layout: `J(..)`, behind the line that KLayout knows the file by.
use Rattle.std.specs.Prelude.{◌≡◌, ℕ, List, ◌++◌, codes, length}
use Rattle.std.specs.List.{All, range_with_len}
use Rattle.fixed_num.specs.Microns.{IsMicrons}
use Rattle.plain_netlist.specs.Netlist.{Circuit}
use Rattle.rule_text.specs.Rules.{Rules}
use Rattle.view_netlist.specs.Circuits.{AreCircuitTexts}
use Rattle.view_netlist.specs.Classes.{class_texts, used_classes}
use Rattle.view_netlist.specs.Drawing.{IsSmallDrawing, plain_drawing}
use Rattle.view_words.specs.Numbers.{IsSmallRect}
use Rattle.view_words.specs.Words.{word}
use Rattle.view_file.specs.Layers.{connect_rows, global_rows, layer_rows, name_row}
use Rattle.view_file.specs.Layers.{region_layer}
use Rattle.view_file.specs.Regions.{region_texts}
use Rattle.view_file.specs.declared.layout.Picture.{Picture}

-- all rectangles of a picture reach less than 2^30 from the origin
pub record IsSmallPicture (p : Picture) : Type 0 where
  pub drawings : All (λ d. IsSmallDrawing (plain_drawing d)) p.drawings.items
  pub regions : All (λ r. All IsSmallRect r.rects.items) p.regions.items

-- the line that KLayout knows the file by, and the name of the top cell
abbrev pub top_text : List ℕ → List ℕ
top_text top = codes "#%lvsdb-klayout\nJ(\n W(" ++ (word top ++ codes ")")

-- the unit in micrometres
abbrev pub unit_row : List ℕ → List ℕ
unit_row unit = codes "\n U(" ++ (unit ++ codes ")")

-- the layers, what they join, the globals, and the layer of regions
abbrev pub layer_text : List (List ℕ) → Rules → List ℕ
layer_text names rules = layer_rows rules.names ++ (name_row region_layer
    ++ (connect_rows names rules.connects ++ global_rows names rules.globals))

-- the classes of the devices and their regions
abbrev pub device_text : Picture → List Circuit → List ℕ
device_text p cs = class_texts (used_classes cs) ++ region_texts 0 p.regions.items

-- all that stands before the circuits
abbrev pub front_text : List ℕ → List ℕ → Rules → Picture → List Circuit → List ℕ
front_text top unit rules p cs = top_text top ++ (unit_row unit
    ++ (layer_text p.names.layers.items rules ++ device_text p cs))

abbrev pub AreAllTexts : Picture → List Circuit → List ℕ → Type 0
AreAllTexts p cs text =
    AreCircuitTexts p.names p.drawings.items cs (range_with_len 0 (length cs)) text

-- the unit in femtometres, the layers, the devices, the circuits with what is drawn of them
pub record IsLayoutText (top : List ℕ) (unit : ℕ) (rules : Rules) (p : Picture) (cs : List Circuit)
    (text : List ℕ) : Type 0 where
  pub unit_text : List ℕ
  pub microns : IsMicrons unit unit_text
  pub circuits : List ℕ
  pub are : AreAllTexts p cs circuits
  pub is : text ≡ front_text top unit_text rules p cs ++ (circuits ++ codes "\n)")
