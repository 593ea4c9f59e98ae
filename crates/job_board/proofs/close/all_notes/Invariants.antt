use Rattle.std.proofs.Common.{◌≡◌, ◌<◌, ◌≤◌, ℕ, length, false, get_or, slice_index, slice_get, IsSomeAnd, Some, vec_capacity}
use Rattle.std.specs.Slots.{slots_items, slots_filled, slots_len}
use Rattle.std.specs.Mem.Slots.Ownership.{Filled}
use Rattle.job_board.specs.Notes.{IsRight}
use Rattle.job_board.proofs.close.all_notes.Given as goal

abbrev pub invariant-loop-slot : goal.invariant-loop-slot
invariant-loop-slot g l =
    Filled (slots_filled l.closed.slots) l.slot (slots_len l.closed.slots) × ((k : ℕ) → k < l.slot → get_or (slots_filled l.closed.slots) k false ≡ false)
    × (slots_items l.closed.slots ≡ slots_items l.initial.closed.slots) × (slots_len l.closed.slots ≡ slots_len l.initial.closed.slots)
    × (l.next ≤ length l.own) × ((k : ℕ) → l.next ≤ k → k < length l.own → l.slot ≤ slice_index l.own k)
    × (length l.notes.items ≡ l.next) × (length l.own ≤ vec_capacity l.notes)
    × ((k : ℕ) → k < l.next → IsSomeAnd (slice_get l.notes.items k) (λ n. IsRight g.T.Defined.is_defined l.fn.table.shared.key k (Some n)))
