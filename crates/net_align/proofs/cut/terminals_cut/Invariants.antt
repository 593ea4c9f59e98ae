use Rattle.std.proofs.Common.{◌≡◌, ◌<◌, ℕ, length, slice_index}
use Rattle.net_align.specs.Sights.{new_of}
use Rattle.net_align.proofs.cut.terminals_cut.Given as goal

abbrev pub invariant-terminals : goal.invariant-terminals
invariant-terminals l = (length l.new ≡ 4) × ((k : ℕ) → k < l.i → slice_index l.new k ≡ new_of l.nets.places.items (slice_index l.row.nets k))
