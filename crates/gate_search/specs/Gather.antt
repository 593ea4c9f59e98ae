-- What is found of a layer through windows.
use Rattle.std.specs.Prelude.{◌⊎◌, List}
use Rattle.geo_base.specs.declared.shapes.Rect.{Rect}
use Rattle.geo_base.specs.declared.shapes.Square.{Square}
use Rattle.flat_layout.specs.Parts.{IsStep}
use Rattle.flat_layout.specs.Plane.{IsAround}
use Rattle.gate_shapes.specs.Sets.{in_set}

-- squares of the layer, among them all in the windows
pub record AreMet (keeps : Square → Type 0) (windows found : List Rect) : Type 0 where
  pub sound : (q : Square) → in_set found q → keeps q
  pub complete : (q : Square) → keeps q → in_set windows q → in_set found q

-- the same, with all that steps lead to
pub record IsGathered (keeps : Square → Type 0) (windows found : List Rect) : Type 0 where
  pub met : AreMet keeps windows found
  pub steps : (p q : Square) → in_set found p → IsStep keeps p q → in_set found q

-- steps from what is done lead to what is done or fresh
pub record IsGathering (keeps : Square → Type 0) (windows done fresh : List Rect) : Type 0 where
  pub sound_done : (q : Square) → in_set done q → keeps q
  pub sound_fresh : (q : Square) → in_set fresh q → keeps q
  pub complete : (q : Square) → keeps q → in_set windows q → in_set done q ⊎ in_set fresh q
  pub steps : (p q : Square) → in_set done p → IsStep keeps p q → in_set done q ⊎ in_set fresh q

-- whole parts of the layer, among them all that touch a seed
pub record IsGatheredAround (keeps : Square → Type 0) (seeds found : List Rect) : Type 0 where
  pub sound : (q : Square) → in_set found q → keeps q
  pub around : (a q : Square) → keeps a → IsAround a q → in_set seeds q → in_set found a
  pub steps : (p q : Square) → in_set found p → IsStep keeps p q → in_set found q
