-- Squares that may be lent.
use Rattle.std.specs.Prelude.{List}
use Rattle.geo_base.specs.declared.shapes.Rect.{Rect}
use Rattle.layer_phase.specs.declared.squares.Holder.{Holder}
use Rattle.layer_phase.specs.declared.squares.Holder.TheVariants.{Lent, Own}
use Rattle.layer_phase.specs.declared.squares.Squares.TheInside.{Inside}

abbrev pub held_by : Holder → List Rect
held_by (Lent set) = set.now
held_by (Own set) = set

abbrev pub squares_seen : Inside → List Rect
squares_seen a = held_by a.holder
