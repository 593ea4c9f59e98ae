-- Nets that are in use above.
use Rattle.std.specs.Prelude.{◌≡◌, ◌⊎◌, ℕ, true, false, List, Option, Some, None, get_or, slice_get}
use Rattle.deep_tables.specs.declared.pins.CellPins.{CellPins}
use Rattle.pin_phase.specs.declared.links.Link.{Link}

-- the net is a pin by what was read
abbrev pub IsReadPin : Option CellPins → ℕ → Type 0
IsReadPin None x = ⊥
IsReadPin (Some v) x = get_or v.pin.items x false ≡ true

-- by one link the net is an item of a net above that has a second item, a terminal, or is a pin
abbrev pub IsUsedBy : (ℕ → Option CellPins) → Link → Type 0
IsUsedBy value l = (l.busy ≡ true) ⊎ IsReadPin (value l.job) l.above

-- some link says so
abbrev pub IsInUse : (ℕ → Option CellPins) → List Link → ℕ → Type 0
IsInUse value links x = (i : ℕ) × (l : Link) × (slice_get links i ≡ Some l) × (l.net ≡ x)
    × IsUsedBy value l
