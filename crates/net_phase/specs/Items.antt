-- Where items stand among those of a cell.
use Rattle.std.specs.Prelude.{ℕ, Bool, true, false, ltb}
use Rattle.deep_tables.specs.Nets.{plain_item}
use Rattle.deep_tables.specs.declared.nets.Item.{Item}
use Rattle.flat_layout.specs.Nets as flat
use Rattle.flat_layout.specs.Nets.{Own, Child, Global}

-- rectangles and the nets of the placements before it stand before a placement's nets
abbrev pub is_before : ℕ → flat.Item → Bool
is_before place (Own c r) = true
is_before place (Child k b) = ltb k place
is_before place (Global g) = false

abbrev pub stands_before : ℕ → Item → Bool
stands_before place item = is_before place (plain_item item)
