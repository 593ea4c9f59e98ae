use Rattle.std.proofs.Common.{◌≡◌, ◌<◌, ℕ, Some, slice_get}
use Rattle.geo_base.specs.Rects.{IsInside}
use Rattle.tile_index.specs.declared.entries.Entry.{Entry}
use Rattle.tile_index.proofs.tree.hull_of.Given as goal

abbrev pub invariant-loop-entry : goal.invariant-loop-entry
invariant-loop-entry l = (k : ℕ) (e : Entry) → k < l.entry-index → slice_get l.entries k ≡ Some e → IsInside e.rect l.hull
