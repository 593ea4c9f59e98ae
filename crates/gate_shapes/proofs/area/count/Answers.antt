use Rattle.std.proofs.Common.{ℕ, sym, subst, ap, ◌∙◌}
use Rattle.flat_layout.specs.Parts.{Counts}
use Rattle.gate_shapes.specs.Sets.{in_set, area}
use Rattle.gate_shapes.proofs.Areas.{canonical_count}
use Rattle.gate_shapes.proofs.area.count.Goals as goal

pub returns-clause-count : goal.returns-clause-count
returns-clause-count c = subst (λ (k : ℕ). Counts (in_set c.args.set.now) k) (sym (c.in_ok-n.ensures.area ∙ ap area c.rects.ensures.list)) (canonical_count c.args.set.now c.rects.ensures.canonical)
