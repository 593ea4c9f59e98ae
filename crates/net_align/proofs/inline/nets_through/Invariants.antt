use Rattle.std.proofs.Common.{◌≡◌, ◌<◌, ℕ, length, slice_index}
use Rattle.net_align.proofs.inline.nets_through.Given as goal

abbrev pub invariant-terminals : goal.invariant-terminals
invariant-terminals l = (length l.nets ≡ 4) × ((k : ℕ) → k < l.i → slice_index l.nets k ≡ slice_index l.to (slice_index l.row.nets k))
