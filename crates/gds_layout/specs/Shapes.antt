-- Which unit squares the shapes of a structure cover.
use Rattle.std.specs.Prelude.{Bool, ◌&&◌, List, [], ◌∷◌, ◌++◌, if◌then◌else◌}
use Rattle.std.specs.List.{list_any}
use Rattle.geo_base.specs.Layers.{is_same_key}
use Rattle.geo_base.specs.declared.layer.LayerKey.{LayerKey}
use Rattle.geo_base.specs.declared.shapes.Square.{Square}
use Rattle.geo_base.specs.Rects.{has}
use Rattle.gds_elements.specs.Meaning.{Form, Boundary, Path, Box, Shape}
use Rattle.poly_fill.specs.Fills.{in_boundary, in_path}

-- whether a shape covers a square: by winding number, by its segments, or as a rectangle
abbrev pub shape_covers : Form → Square → Bool
shape_covers (Boundary points) s = in_boundary points s
shape_covers (Path points half begin end) s = in_path half begin end points s
shape_covers (Box r) s = has r s

-- whether the shape is on the layer and covers the square
abbrev pub is_covering : LayerKey → Square → Shape → Bool
is_covering key s shape = is_same_key shape.key key && shape_covers shape.form s

-- whether one of these shapes on the layer covers the square
abbrev pub shapes_cover : List Shape → LayerKey → Square → Bool
shapes_cover shapes key s = list_any (is_covering key s) shapes

-- whether one of these shapes is on the layer
abbrev pub is_drawn : List Shape → LayerKey → Bool
is_drawn shapes key = list_any (λ shape. is_same_key shape.key key) shapes

-- the keys with this one: behind them, where it isn't among them
abbrev pub with_key : List LayerKey → LayerKey → List LayerKey
with_key keys key = if list_any (is_same_key key) keys then keys else keys ++ key ∷ []

-- the keys, and behind them those of the shapes, each once and where it first comes
abbrev pub keys_behind : List LayerKey → List Shape → List LayerKey
keys_behind keys [] = keys
keys_behind keys (shape ∷ shapes) = keys_behind (with_key keys shape.key) shapes
