use Rattle.std.proofs.Common.{ℕ, ◌<◌, slice_index_or}
use Rattle.cell_context.proofs.Gathering.{no_visit}
use Rattle.gate_phase.specs.Below.{IsFreeIn}
use Rattle.gate_phase.proofs.below.is_below.Given as goal

abbrev pub invariant-loop-visit : goal.invariant-loop-visit
invariant-loop-visit l =
    (k : ℕ) → k < l.visit-index → IsFreeIn l.at.reach l.at.site.design.now l.at.site.zones.now l.at.number l.part l.close (slice_index_or l.visit-items k no_visit).cell (slice_index_or l.visit-items k no_visit).motion → ⊥
