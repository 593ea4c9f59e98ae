-- Which transistors each merged one is made of.
use Rattle.std.specs.Prelude.{◌≡◌, ℕ, zero, suc, List, [], ◌∷◌, ◌++◌, map}
use Rattle.std.specs.Global.{Vec}
use Rattle.merge_laws.specs.Grouped.{Group, Placed, members}
use Rattle.device_merge.specs.Keys.{AreKeys}
use Rattle.device_merge.specs.declared.parts.Parting.{Parting}

-- the places of a group's transistors, the first first
abbrev pub places_of : Group → List ℕ
places_of g = map (λ (d : Placed). d.place) (members g)

abbrev pub place_lists : List (Vec ℕ) → List (List ℕ)
place_lists lists = map (λ l. l.items) lists

-- a place behind those of the list of this number, or as a list of its own behind all
abbrev pub joined_at : ℕ → ℕ → List (List ℕ) → List (List ℕ)
joined_at at place [] = (place ∷ []) ∷ []
joined_at zero place (l ∷ ls) = (l ++ place ∷ []) ∷ ls
joined_at (suc at) place (l ∷ ls) = l ∷ joined_at at place ls

-- the keys and the places of these groups
pub record IsParting (p : Parting) (gs : List Group) : Type 0 where
  pub keys : AreKeys 0 p.keys gs
  pub places : place_lists p.places.items ≡ map places_of gs
