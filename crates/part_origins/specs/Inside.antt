-- What stands inside flat circuits, made from what stands inside those that they call.
use Rattle.std.specs.Prelude.{ℕ, ◌+◌, ◌-◌, Bool, false, cond, List, [], ◌∷◌, ◌++◌, length, map}
use Rattle.std.specs.Prelude.{Option, Some, None, slice_get, slice_index_or}
use Rattle.std.specs.List.{range_with_len}
use Rattle.align_laws.specs.Lists.{net_at_pin}
use Rattle.plain_netlist.specs.Netlist.{CallRow, Circuit}
use Rattle.part_origins.specs.declared.inside.Part.{Part}
use Rattle.part_origins.specs.declared.inside.Spot.{Spot}
use Rattle.part_origins.specs.declared.inside.Inside.{Inside}

-- a circuit inside a flat one, and all of them with the number of nets, as plain records
pub record PlainSpot : Type 0 where
  pub by : Option Part
  pub circuit : ℕ
  pub nets : List ℕ

pub record PlainInside : Type 0 where
  pub spots : List PlainSpot
  pub count : ℕ

abbrev pub plain_spot : Spot → PlainSpot
plain_spot s = record { by = s.by; circuit = s.circuit; nets = s.nets.items }

abbrev pub plain_inside : Inside → PlainInside
plain_inside x = record { spots = map plain_spot x.spots.items; count = x.count }

-- by what a spot is called in the caller, where call k brings it behind so many spots
abbrev pub moved_by : ℕ → ℕ → Option Part → Part
moved_by k base None = record { spot = 0; number = k }
moved_by k base (Some p) = record { spot = base + p.spot; number = p.number }

abbrev pub moved_spot : ℕ → ℕ → (ℕ → ℕ) → PlainSpot → PlainSpot
moved_spot k base to s =
    record { by = Some (moved_by k base s.by); circuit = s.circuit; nets = map to s.nets }

-- what call k with these nets brings, behind what is there
abbrev pub laid : ℕ → List ℕ → PlainInside → PlainInside → PlainInside
laid k pins inner x = record {
  spots =
      x.spots
      ++ map (moved_spot k (length x.spots) (net_at_pin pins (λ i. x.count + i))) inner.spots;
  count = x.count + (inner.count - length pins);
}

abbrev pub laid_there : ℕ → List ℕ → Option PlainInside → PlainInside → PlainInside
laid_there k pins None x = x
laid_there k pins (Some inner) x = laid k pins inner x

-- the same where the call's circuit goes
abbrev pub laid_if : List Bool → List PlainInside → ℕ → CallRow → PlainInside → PlainInside
laid_if goes known k r x = cond (slice_index_or goes r.circuit false)
    (laid_there k r.nets (slice_get known r.circuit) x) x

-- one call after the other, the first of them being call k
abbrev pub all_laid : List Bool → List PlainInside → ℕ → List CallRow → PlainInside → PlainInside
all_laid goes known k [] x = x
all_laid goes known k (r ∷ rs) x = all_laid goes known (k + 1) rs (laid_if goes known k r x)

-- the circuit alone
abbrev pub own_inside : ℕ → ℕ → PlainInside
own_inside c count = record {
  spots = record { by = None; circuit = c; nets = range_with_len 0 count } ∷ [];
  count = count;
}

abbrev pub inside_of : List Bool → List PlainInside → ℕ → Circuit → PlainInside
inside_of goes known c given = all_laid goes known 0 given.calls (own_inside c (length given.nets))

-- of one circuit after the other, the first of them being circuit c
abbrev pub all_inside : List Bool → List PlainInside → ℕ → List Circuit → List PlainInside
all_inside goes known c [] = known
all_inside goes known c (x ∷ xs) =
    all_inside goes (known ++ inside_of goes known c x ∷ []) (c + 1) xs
