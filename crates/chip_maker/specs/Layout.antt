-- The cells of a chip's layout, in nanometres.
use Rattle.std.specs.Prelude.{ℕ, ◌+◌, ◌*◌, ℤ, pos, ◌-ℤ◌, List, [], ◌∷◌, length, slice_index, codes}
use Rattle.std.specs.Prelude.{◌++◌, decimal}
use Rattle.geo_base.specs.declared.layer.LayerKey.{LayerKey}
use Rattle.geo_base.specs.declared.motion.Turn.TheVariants.{R0}
use Rattle.geo_base.specs.declared.shapes.Rect.{Rect}
use Rattle.gds_elements.specs.Meaning.{Text, Ref, single}
use Rattle.chip_maker.specs.Inverters.{by_number, kind_name, row_name}
use Rattle.chip_maker.specs.declared.inverters.Kind.{Kind}
use Rattle.chip_maker.specs.declared.inverters.Kind.TheVariants.{Plain, Wide}

-- a cell: rectangles by layers, texts and references
pub record Block : Type 0 where
  pub name : List ℕ
  pub layers : List (LayerKey × List Rect)
  pub texts : List Text
  pub refs : List Ref

-- ---- its parts

-- the layers of shapes: 1 the wells, 2 the active areas, 3 polysilicon, 4 the contacts, 5 metal,
-- 6 the ties
abbrev pub drawn : ℕ → LayerKey
drawn number = record { layer = number; datatype = 0 }

-- a rectangle from its lower left corner to its upper right one
abbrev pub rect : ℕ → ℕ → ℕ → ℕ → Rect
rect x1 y1 x2 y2 = record { x1 = pos x1; y1 = pos y1; x2 = pos x2; y2 = pos y2 }

-- the rectangle of these four numbers
abbrev pub rect_of : List ℕ → Rect
rect_of sides = rect (slice_index sides 0) (slice_index sides 1) (slice_index sides 2)
    (slice_index sides 3)

-- a label on metal
abbrev pub label : ℤ → ℤ → List ℕ → Text
label x y text = record {
  key = record { layer = 5; datatype = 1 };
  at = record { x = x; y = y };
  text = text;
}

-- a cell set with its origin at (x, y)
abbrev pub placed : List ℕ → ℕ → ℕ → Ref
placed name x y = single name (record { turn = R0; dx = pos x; dy = pos y })

-- ---- an inverter

-- how high the n-channel transistor's active area goes
abbrev pub active_top : Kind → ℕ
active_top Plain = 800
active_top Wide = 1300

abbrev pub wells : List Rect
wells = rect 0 1500 1000 3000 ∷ []

abbrev pub actives : Kind → List Rect
actives kind = rect 200 300 800 (active_top kind) ∷ rect 200 1700 800 2700 ∷ []

abbrev pub polys : List Rect
polys = rect 450 100 550 2900 ∷ rect 300 1450 450 1550 ∷ []

abbrev pub contacts : List Rect
contacts =
    rect 80 70 140 130 ∷ rect 260 400 320 460 ∷ rect 650 400 710 460 ∷ rect 320 1470 400 1530
    ∷ rect 650 1800 710 1860 ∷ rect 260 2500 320 2560 ∷ rect 80 2870 140 2930 ∷ []

abbrev pub metals : List Rect
metals =
    rect 0 0 1000 200 ∷ rect 250 0 330 470 ∷ rect 640 390 720 1870 ∷ rect 0 1450 420 1550
    ∷ rect 640 1450 1000 1550 ∷ rect 250 2490 330 3000 ∷ rect 0 2800 1000 3000 ∷ []

abbrev pub ties : List Rect
ties = rect 50 50 200 150 ∷ rect 50 2850 200 2950 ∷ []

abbrev pub inverter_layers : Kind → List (LayerKey × List Rect)
inverter_layers kind =
    (drawn 1, wells) ∷ (drawn 2, actives kind) ∷ (drawn 3, polys) ∷ (drawn 4, contacts)
    ∷ (drawn 5, metals) ∷ (drawn 6, ties) ∷ []

abbrev pub inverter_block : Kind → Block
inverter_block kind = record {
  name = kind_name kind;
  layers = inverter_layers kind;
  texts = [];
  refs = [];
}

-- ---- a row

-- where the output of a row of m inverters is
abbrev pub output_x : ℕ → ℤ
output_x m = pos (1000 * m) -ℤ pos 10

abbrev pub row_texts : ℕ → List Text
row_texts m =
    label (pos 10) (pos 1500) (codes "IN") ∷ label (output_x m) (pos 1500) (codes "OUT")
    ∷ label (pos 10) (pos 2900) (codes "VDD") ∷ []

-- the inverter at place j
abbrev pub inverter_ref : ℕ → Kind → List Ref
inverter_ref j kind = placed (kind_name kind) (1000 * j) 0 ∷ []

-- the inverters side by side, of which each drives the next
abbrev pub row_block : ℕ → List Kind → Block
row_block i row = record {
  name = row_name i;
  layers = [];
  texts = row_texts (length row);
  refs = by_number inverter_ref 0 row;
}

-- ---- the top

-- the supply that joins the rails of so many rows, at their left
abbrev pub trunk : ℕ → Rect
trunk rows = record {
  x1 = pos 0 -ℤ pos 300;
  y1 = pos 2800;
  x2 = pos 0 -ℤ pos 100;
  y2 = pos (4000 * rows) -ℤ pos 1000;
}

-- from there to the rail of row i
abbrev pub branch : ℕ → Rect
branch i = record {
  x1 = pos 0 -ℤ pos 300;
  y1 = pos (4000 * i + 2800);
  x2 = pos 0;
  y2 = pos (4000 * i + 3000);
}

abbrev pub branches : ℕ → List Kind → List Rect
branches i row = branch i ∷ []

-- the supply of the rows
abbrev pub supply : List (List Kind) → List Rect
supply rows = trunk (length rows) ∷ by_number branches 0 rows

-- the input and the output of row i, of m inverters
abbrev pub row_pins : ℕ → ℕ → List Text
row_pins i m =
    label (pos 10) (pos (4000 * i + 1500)) (codes "I" ++ decimal i)
    ∷ label (output_x m) (pos (4000 * i + 1500)) (codes "O" ++ decimal i) ∷ []

abbrev pub top_pins : ℕ → List Kind → List Text
top_pins i row = row_pins i (length row)

abbrev pub top_texts : List (List Kind) → List Text
top_texts rows =
    label (pos 0 -ℤ pos 200) (pos 2900) (codes "VDD") ∷ by_number top_pins 0 rows

abbrev pub row_ref : ℕ → List Kind → List Ref
row_ref i row = placed (row_name i) 0 (4000 * i) ∷ []

-- the rows one above the other
abbrev pub top_block : List (List Kind) → Block
top_block rows = record {
  name = codes "TOP";
  layers = (drawn 5, supply rows) ∷ [];
  texts = top_texts rows;
  refs = by_number row_ref 0 rows;
}

-- ---- the chip

abbrev pub row_blocks : ℕ → List Kind → List Block
row_blocks i row = row_block i row ∷ []

-- both inverters, the rows, and the top
abbrev pub blocks : List (List Kind) → List Block
blocks rows = inverter_block Plain ∷ inverter_block Wide ∷ by_number row_blocks 0 rows
    ++ top_block rows ∷ []
