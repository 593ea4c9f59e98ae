-- The tree that a formula stands for.
use Rattle.flat_layout.specs.Layers as layers
use Rattle.flat_slow.specs.declared.layers.Formula.{Formula, Input, Empty, Binary'}

abbrev pub plain_formula : Formula → layers.Formula
plain_formula (Input key) = layers.Input key
plain_formula Empty = layers.Empty
plain_formula (Binary' op p a q b) = layers.Binary op (plain_formula a) (plain_formula b)
