-- The fields of an index.
use Rattle.tile_index.specs.declared.index.TileIndex.TheInside.{Inside}
use Rattle.tile_index.specs.Entries.{rects_of, AreEntries}
use Rattle.tile_index.specs.Trees.{IsTree}

pub record IsIndex (a : Inside) : Type 0 where
  pub entries_are : AreEntries (rects_of a.entries.items) a.entries.items
  pub tree : IsTree a.entries.items a.nodes.items
