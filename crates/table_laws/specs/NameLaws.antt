-- No two nets of a circuit, and no two circuits, have one name; and the circuits of the cells are a
-- sound netlist in normal form.
use Rattle.std.specs.Prelude.{◌≡◌, ◌<◌, ◌^◌, ℕ, List, [], ◌∷◌, length, slice_get, Some}
use Rattle.flat_layout.specs.Circuits.{IsCircuitCell}
use Rattle.flat_layout.specs.Expanded.{AreTablesRight, CircuitTables}
use Rattle.flat_layout.specs.Gates.{Rule}
use Rattle.flat_layout.specs.Layout.{Design}
use Rattle.flat_layout.specs.Names.{circuit_names, net_names}
use Rattle.flat_layout.specs.Nets.{Tables}
use Rattle.flat_layout.specs.Regions.{Wiring}
use Rattle.plain_netlist.specs.Netlist.{Netlist}
use Rattle.plain_netlist.specs.Normal.{IsNormalNetlist}
use Rattle.plain_netlist.specs.Sound.{IsGood, IsSoundNetlist}

abbrev pub NetNamesApartLaw : Type 0
NetNamesApartLaw = (bases : List (List ℕ)) → length bases < 2 ^ 32 → (i j : ℕ) (a : List ℕ)
    → slice_get (net_names [] 1 bases) i ≡ Some a → slice_get (net_names [] 1 bases) j ≡ Some a
    → i ≡ j

abbrev pub CircuitNamesApartLaw : Type 0
CircuitNamesApartLaw = (names : List (List ℕ)) → length names < 2 ^ 32 → (i j : ℕ) (a : List ℕ)
    → slice_get (circuit_names [] 1 names) i ≡ Some a
    → slice_get (circuit_names [] 1 names) j ≡ Some a → i ≡ j

-- the second net of one base gets its number: G, S, S, V become G, S, S$3, V
abbrev pub SecondNameLaw : Type 0
SecondNameLaw = net_names [] 1 ((71 ∷ []) ∷ (83 ∷ []) ∷ (83 ∷ []) ∷ (86 ∷ []) ∷ []) ≡ (71 ∷ [])
    ∷ (83 ∷ []) ∷ (83 ∷ 36 ∷ 51 ∷ []) ∷ (86 ∷ []) ∷ []

-- children stand before callers
abbrev pub ExtractedGoodLaw : Type 0
ExtractedGoodLaw = (d : Design) (w : Wiring) (t : Tables) (g : CircuitTables) (nl : Netlist)
    (rules : List Rule) (unit : ℕ) (level : ℕ → ℕ) → AreTablesRight d w t g nl rules unit level
    → IsGood nl (λ n. n) × IsNormalNetlist nl

-- with fewer than 2^32 circuits, and nets of a cell that has one
abbrev pub ExtractedSoundLaw : Type 0
ExtractedSoundLaw = (d : Design) (w : Wiring) (t : Tables) (g : CircuitTables) (nl : Netlist)
    (rules : List Rule) (unit : ℕ) (level : ℕ → ℕ) → AreTablesRight d w t g nl rules unit level
    → length g.cells < 2 ^ 32
    → ((n cell : ℕ) → IsCircuitCell g.cells n cell → length (g.drawn cell) < 2 ^ 32)
    → IsSoundNetlist nl
