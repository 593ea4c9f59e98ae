use Rattle.std.proofs.Common.{inl, inr, sym, subst, refl, arith}
use Rattle.flat_laws.proofs.Formed.{read_layers}
use Rattle.flat_laws.proofs.Once.{each_once}
use Rattle.flat_layout.specs.Gates.{IsListedGate}
use Rattle.law_samples.proofs.layout.Columns.{levels, column_own, moved_column, reached_two}
use Rattle.law_samples.proofs.layout.Gated.{child_gate_of, across_gate_of, child_only, across_only, gates_parted}
use Rattle.law_samples.proofs.layout.Lone.{geo, form}
use Rattle.law_samples.proofs.layout.Sides.{lost, child_gate, child_left, child_right, across_gate, across_left, across_right}
use Rattle.law_samples.specs.Sample.{sample_level}
use Rattle.law_samples.specs.Transistors.{at, mirror_place, gate_design, gate_wiring, rule}
use Rattle.law_samples.proofs.layout.sample_gates.Goals as goal

pub returns : goal.returns
returns c = record {
  drawn = record {
    parent_poly = column_own 1 1 1 (omega arith) (inl refl);
    parent_active = column_own 1 0 0 (omega arith) (inl refl);
    child_active = (at 3, column_own 0 0 3 (omega arith) (inr (inr (inr (inl refl)))), moved_column mirror_place 3 1 refl refl);
    child_drain = (at 2, column_own 0 0 2 (omega arith) (inr (inr (inl refl))), moved_column mirror_place 2 2 refl refl);
  };
  crossed = lost;
  child = λ s. (child_only s, λ e. subst (IsListedGate gate_design geo 0) (sym e) child_gate_of);
  across = λ s. (across_only s, λ e. subst (IsListedGate gate_design geo 1) (sym e) across_gate_of);
  child_good = form 0 0 child_gate child_left child_right;
  across_good = form 1 0 across_gate across_left across_right;
  found = each_once gate_design geo sample_level (read_layers gate_wiring rule).gate levels.lower (λ cell s reached h. gates_parted cell s (reached_two cell reached) h);
}
