-- The pins of the called pairs.
use Rattle.std.specs.Prelude.{ℕ, Bool, List, Option, Some, None, nat_eq}
use Rattle.std.specs.HashMap.{get}
use Rattle.match_types.specs.declared.child_pins.ChildPins.{ChildPins}

-- the right pin of each left pin of a pair, where it is known
abbrev pub children_of : ChildPins → ℕ → Option (List ℕ)
children_of c pair = elim (get nat_eq c.lists pair) [ None ↦ None | Some pins ↦ Some pins.items ]

-- names tell the pins of the pair above apart
abbrev pub is_told : ChildPins → Bool
is_told c = c.told
