-- What a cell keeps of the squares in both of two names.
use Rattle.std.specs.Prelude.{◌↔◌, ℕ, max}
use Rattle.geo_base.specs.declared.layer.Op.TheVariants.{And}
use Rattle.geo_base.specs.declared.shapes.Square.{Square}
use Rattle.flat_layout.specs.Layers.{Formula, Binary, inputs, reach, IsCalmAt, IsKept}
use Rattle.flat_layout.specs.Layout.{Design}

-- within the greater reach of the two names all is shut for both
pub record AreBothCalm (d : Design) (cell : ℕ) (a b : Formula) (q : Square) : Type 0 where
  pub first : IsCalmAt d (inputs a) (max (reach a) (reach b)) cell q
  pub second : IsCalmAt d (inputs b) (max (reach a) (reach b)) cell q

-- the cell keeps it of both names, and near it all is shut for both: of an input layer a cell keeps
-- squares that aren't shut, too, and of the name with the smaller reach those that only the
-- other's reach has to leave out
abbrev pub KeptBothLaw : Type 0
KeptBothLaw = (d : Design) (cell : ℕ) (a b : Formula) (q : Square)
    → IsKept d cell (Binary And a b) q
    ↔ ((IsKept d cell a q × IsKept d cell b q) × AreBothCalm d cell a b q)
