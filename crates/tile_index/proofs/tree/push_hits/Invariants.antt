use Rattle.std.proofs.Common.{◌≡◌, ◌++◌, take}
use Rattle.tile_index.specs.Entries.{hits}
use Rattle.tile_index.proofs.tree.push_hits.Given as goal

abbrev pub invariant-loop-entry : goal.invariant-loop-entry
invariant-loop-entry l = l.found.items ≡ l.fn.found.items ++ hits l.w (take l.entry-index l.entries)
