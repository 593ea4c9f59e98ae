-- When a circuit as it is compared has the rows of its cell's.
use Rattle.std.specs.Prelude.{◌≡◌, ℕ, List, [], ◌∷◌, Some, slice_get}
use Rattle.plain_netlist.specs.Netlist.{CallRow, Circuit}

-- the number by which a call's circuit is found is the one that the other calls, and the nets are
-- the same
pub record IsSameCall (shown : List ℕ) (a b : CallRow) : Type 0 where
  pub circuit : slice_get shown a.circuit ≡ Some b.circuit
  pub nets : a.nets ≡ b.nets

abbrev pub AreSameCalls : List ℕ → List CallRow → List CallRow → Type 0
AreSameCalls shown [] [] = Unit {0}
AreSameCalls shown [] (b ∷ bs) = ⊥
AreSameCalls shown (a ∷ more) [] = ⊥
AreSameCalls shown (a ∷ more) (b ∷ bs) = IsSameCall shown a b × AreSameCalls shown more bs

-- nets of the same names, and the same calls
pub record AreSameRows (shown : List ℕ) (a b : Circuit) : Type 0 where
  pub nets : a.nets ≡ b.nets
  pub calls : AreSameCalls shown a.calls b.calls
