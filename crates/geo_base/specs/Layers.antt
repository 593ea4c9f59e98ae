-- When two layers are one, which layers a stream may have, and what an operator says of two layers.
use Rattle.std.specs.Prelude.{◌<◌, ◌^◌, Bool, true, false, not, ◌==◌, ◌&&◌, ◌||◌}
use Rattle.geo_base.specs.declared.layer.LayerKey.{LayerKey}
use Rattle.geo_base.specs.declared.layer.Op.{Op}
use Rattle.geo_base.specs.declared.layer.Op.TheVariants.{And, Or, Not, Xor}

-- the same layer number and the same datatype
abbrev pub is_same_key : LayerKey → LayerKey → Bool
is_same_key k m = k.layer == m.layer && k.datatype == m.datatype

-- a layer as a stream has it: two bytes hold each number
pub record IsStreamKey (key : LayerKey) : Type 0 where
  pub layer : key.layer < 2 ^ 16
  pub datatype : key.datatype < 2 ^ 16

-- exactly one of two
abbrev pub differ : Bool → Bool → Bool
differ true b = not b
differ false b = b

-- what an operator says of one square, given whether each of two sets has it: both, either, the
-- first and not the second, one alone
abbrev pub combined : Op → Bool → Bool → Bool
combined And a b = a && b
combined Or a b = a || b
combined Not a b = a && not b
combined Xor a b = differ a b
