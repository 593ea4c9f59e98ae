-- The top is the last of the cells with circuits.
use Rattle.std.proofs.Common.{◌≡◌, ◌⊎◌, inl, inr, ℕ, suc, ◌<◌, ◌≤◌, List, [], ◌∷◌, Some, slice_get, length, arith}
use Rattle.base_laws.proofs.Items.{item_at}
use Rattle.std.proofs.lemmas.Bool.{cases_lt}
use Rattle.std.proofs.lemmas.Option.{slice_get_within}
use Rattle.flat_layout.specs.Circuits.{AreCircuitCells}
use Rattle.flat_layout.specs.GateTables.{GateEntry}
use Rattle.flat_layout.specs.Layout.{Design, Leads}
use Rattle.flat_layout.specs.Order.{AreLevels, IsCellBefore}
use Rattle.flat_laws.proofs.Planned.{lower}
use Rattle.plain_netlist.proofs.Listing.{rising_at}
use Rattle.plain_netlist.proofs.Members.{listed}

-- no cell that the top reaches comes behind it
not_behind : (d : Design) (level : ℕ → ℕ) (cell : ℕ) (path : List ℕ) → AreLevels d level → Leads d d.top path cell → IsCellBefore level d.top cell → ⊥
not_behind d level cell [] levels leads (inl up) = let low = lower d level levels.lower [] d.top cell leads in omega (arith, low, up)
not_behind d level cell [] levels leads (inr (same, up)) = omega (arith, leads, up)
not_behind d level cell (k ∷ ks) levels (p, placed, leads) before =
    let below = levels.lower d.top k p placed in
    let low = lower d level levels.lower ks p.cell cell leads in
    behind before (omega (arith, below, low))
  where
    behind : IsCellBefore level d.top cell → level cell < level d.top → ⊥
    behind (inl up) under = omega (arith, up, under)
    behind (inr (same, up)) under = omega (arith, same, under)

pub last : (d : Design) (level : ℕ → ℕ) (gates : ℕ → List GateEntry) (cells : List ℕ) (n : ℕ) → AreLevels d level → AreCircuitCells d level gates cells → slice_get cells n ≡ Some d.top → suc n ≡ length cells
last d level gates cells n levels order here = by (cases_lt (suc n) (length cells))
  where
    by : (suc n < length cells) ⊎ (length cells ≤ suc n) → suc n ≡ length cells
    by (inr le) = let lt = slice_get_within cells n d.top here in omega (arith, le, lt)
    by (inl lt) =
        let next = item_at cells (suc n) lt in
        let before = rising_at (IsCellBefore level) cells n (suc n) d.top next.0 order.rising (omega arith) here next.1 in
        let reached = ((order.each next.0).0 (listed cells (suc n) next.0 next.1)).0 in
        absurd (not_behind d level next.0 reached.path levels reached.leads before)
