-- Pairs of placements, in an order in which those that lie alike stand together.
use Rattle.std.specs.Prelude.{◌≡◌, ℕ, List, Contains}
use Rattle.link_classes.specs.Classes.{IsLinked, IsOf}
use Rattle.link_classes.specs.declared.classes.Link.{Link}
use Rattle.net_walk.specs.declared.lyings.Lying.{Lying}

-- the numbers of the two placements
abbrev pub link_of : Lying → Link
link_of l = record { one = l.one; other = l.other }

-- one of the entries stands for the pair
abbrev pub IsLain : List Lying → ℕ → ℕ → Type 0
IsLain ls i j = (l : Lying) × Contains ls l × (l.one ≡ i) × (l.other ≡ j)

-- an entry for each pair, and no other
pub record AreLain (pairs : List Link) (ls : List Lying) : Type 0 where
  pub each : (l : Lying) → Contains ls l → IsLinked pairs l.one l.other
  pub found : (i j : ℕ) → IsLinked pairs i j
      → (l : Lying) × Contains ls l × IsOf (link_of l) i j
