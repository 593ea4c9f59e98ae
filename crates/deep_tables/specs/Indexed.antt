-- Sets that are looked into by windows.
use Rattle.std.specs.Prelude.{◌≡◌}
use Rattle.deep_tables.specs.declared.indexed.IndexedSet.TheInside.{Inside}

-- the index is of the set's rectangles
pub record IsIndexed (a : Inside) : Type 0 where
  pub same : a.index ≡ a.set
