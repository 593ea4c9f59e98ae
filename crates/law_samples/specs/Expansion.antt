-- What the design with transistors comes to: its gates, its two devices, its flat nodes.
use Rattle.std.specs.Prelude.{◌≡◌, ℕ, zero, suc, List, [], ◌∷◌}
use Rattle.geo_base.specs.Motions.{moved_square}
use Rattle.geo_base.specs.declared.shapes.Square.{Square}
use Rattle.flat_layout.specs.Gates.{Edge, IsGoodGate, TwoGroups}
use Rattle.flat_layout.specs.Layout.{IsOwn}
use Rattle.flat_layout.specs.Regions.{Node, At, Ground}
use Rattle.law_samples.specs.Transistors.{key_of, at, mirror_place, gate_design, gate_wiring, rule}
use Rattle.law_samples.specs.Transistors.{row_on}
use Rattle.plain_netlist.specs.Netlist.{DeviceRow}

abbrev pub edge_of : ℕ → ℕ → Edge
edge_of x y = record { inner = at x; outer = at y }

-- a good gate in a column, its source left and its drain right, two edges wide and two long
abbrev pub IsGood : ℕ → ℕ → ℕ → ℕ → Type 0
IsGood cell source gate drain = IsGoodGate gate_design gate_wiring rule cell (at gate)
    (TwoGroups (edge_of gate source) (edge_of gate drain)) 2 2

-- the child draws it, and its image is this square of the parent
abbrev pub IsPart : ℕ → Square → Type 0
IsPart c q =
    (s : Square) × IsOwn gate_design 0 (key_of c) s × (moved_square mirror_place.motion s ≡ q)

-- the parent draws the poly over the gate and the active of the source, the child the active of
-- gate and drain
pub record IsAcross (source gate drain : ℕ) : Type 0 where
  pub parent_poly : IsOwn gate_design 1 (key_of 1) (at gate)
  pub parent_active : IsOwn gate_design 1 (key_of 0) (at source)
  pub child_active : IsPart 0 (at gate)
  pub child_drain : IsPart 0 (at drain)

-- the transistor across both stands in the top's circuit
abbrev pub IsAcrossDevice : List ℕ → ℕ → DeviceRow → Type 0
IsAcrossDevice path i row = (path ≡ []) × (i ≡ 0) × (row ≡ row_on 3 2 0 1)

-- the child's below the one call
abbrev pub IsChildDevice : List ℕ → ℕ → DeviceRow → Type 0
IsChildDevice path i row = (path ≡ 0 ∷ []) × (i ≡ 0) × (row ≡ row_on 3 2 0 1)

-- what the nets of the top's circuit show, and those of the child's: column 2 is the drain of both
-- transistors
abbrev pub node_at : List ℕ → ℕ → Node
node_at [] zero = At 0 (at 2)
node_at [] (suc zero) = Ground 0
node_at [] (suc (suc zero)) = At 1 (at 1)
node_at [] (suc (suc (suc a))) = At 0 (at 0)
node_at (k ∷ ks) zero = At 0 (at 2)
node_at (k ∷ ks) (suc zero) = Ground 0
node_at (k ∷ ks) (suc (suc zero)) = At 1 (at 3)
node_at (k ∷ ks) (suc (suc (suc a))) = At 0 (at 4)

-- the top's net that each of these nets is part of
abbrev pub top_net : List ℕ → ℕ → ℕ
top_net [] zero = 3
top_net [] (suc zero) = 5
top_net [] (suc (suc zero)) = 1
top_net [] (suc (suc (suc a))) = 0
top_net (k ∷ ks) zero = 3
top_net (k ∷ ks) (suc zero) = 5
top_net (k ∷ ks) (suc (suc zero)) = 4
top_net (k ∷ ks) (suc (suc (suc a))) = 2

-- the nodes of the flat top
abbrev pub flat_nodes : List Node
flat_nodes =
    At 0 (at 0) ∷ (At 1 (at 1) ∷ (At 0 (at 2) ∷ (At 1 (at 3) ∷ (At 0 (at 4) ∷ (Ground 0 ∷ [])))))
