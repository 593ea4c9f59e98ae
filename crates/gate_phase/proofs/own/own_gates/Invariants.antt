use Rattle.std.proofs.Common.{◌≡◌, ◌++◌, List, Some, length, slice_get}
use Rattle.std.specs.Vec.Iter.{into_iter_items, into_iter_len}
use Rattle.geo_base.specs.declared.shapes.Rect.{Rect}
use Rattle.flat_layout.specs.Gates.{Rule}
use Rattle.cell_graph.specs.Linked.{plain}
use Rattle.rule_text.specs.Seen.{rules_seen}
use Rattle.rule_layers.specs.Meaning.{device_rules, wiring_of}
use Rattle.gate_shapes.specs.PartLists.{AreParts}
use Rattle.gate_phase.proofs.Owning.{SoFar}
use Rattle.gate_phase.proofs.own.own_gates.Given as goal

abbrev pub invariant-loop-part : goal.invariant-loop-part
invariant-loop-part l = record {
  whole : l.yielded ++ into_iter_items l.part-iterator ≡ into_iter_items l.initial.part-iterator;
  left : into_iter_len l.part-iterator ≡ length (into_iter_items l.part-iterator);
  so_far : (u : Rule) (gathered : List Rect) (are : AreParts gathered (into_iter_items l.initial.part-iterator)) → slice_get (device_rules (rules_seen l.at.site.rules.now)) l.at.number ≡ Some u
      → SoFar (plain l.at.site.design.now) (wiring_of (rules_seen l.at.site.rules.now)) u l.at.site.cell gathered (into_iter_items l.initial.part-iterator) are (length l.yielded) l.gates.items;
}
