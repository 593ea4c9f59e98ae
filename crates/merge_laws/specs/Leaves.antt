-- Circuits that call nothing and have no alike devices.
use Rattle.std.specs.Prelude.{◌≡◌, ℕ, []}
use Rattle.merge_laws.specs.Grouped.{AreUnlike}
use Rattle.merge_laws.specs.Merge.{merged}
use Rattle.plain_netlist.specs.Flats.{Corresponds, expanded}
use Rattle.plain_netlist.specs.Netlist.{Circuit, IsCircuit, Netlist}

-- circuit k calls nothing, and no two of its devices are alike
pub record IsUnlikeLeaf (nl : Netlist) (k : ℕ) : Type 0 where
  pub circuit : Circuit
  pub is : IsCircuit nl k circuit
  pub calls : circuit.calls ≡ []
  pub unlike : AreUnlike circuit

-- what it expands to is merged as it is
abbrev pub UnlikeLeafLaw : Type 0
UnlikeLeafLaw = (nl : Netlist) (k : ℕ) → IsUnlikeLeaf nl k
    → Corresponds (merged (expanded nl k)) (expanded nl k) (λ a x. a ≡ x) (λ a x. a ≡ x)
