-- What the rules have compared of two netlists, or why not.
use Rattle.std.proofs.Common.{◌≡◌, true, false, true≢false, None, sym, ap₂, ◌∙◌}
use Rattle.std.proofs.lemmas.Bool.{and_parts}
use Rattle.device_merge.specs.Merged.{IsNarrow}
use Rattle.lvs_run.specs.Answers.{Answer, NoMemory}
use Rattle.lvs_run.specs.Merging.{NotNarrow}
use Rattle.lvs_run.specs.Outcomes.{merge_refusal}
use Rattle.lvs_run.proofs.Widths.{both_narrow, none_wide, wide_so}
use Rattle.merge_laws.specs.Grouped.{merged_netlist}
use Rattle.net_model.specs.Rows.{plain_netlist}
use Rattle.plain_netlist.specs.Netlist.{Netlist}
use Rattle.report_file.proofs.Combined.{as_it_is, as_merged}
use Rattle.report_file.specs.Combined.{AreNarrow, first_wide}
use Rattle.rule_text.specs.Rules.{Rules}
use Rattle.view_run.specs.Ends.{AsRun, End}
use Rattle.view_run.specs.Found.{AreCompared, Memory, NotCompared, Wide}
use Rattle.view_run.specs.declared.merging.Both.{Both}

pub both_as_are : (r : Rules) (b : Both) → r.combine ≡ false → AreCompared r (plain_netlist b.layout) (plain_netlist b.schematic) b
both_as_are r b off = record {
  layout_is = sym (as_it_is r (plain_netlist b.layout) off);
  schematic_is = sym (as_it_is r (plain_netlist b.schematic) off);
  narrow = both_narrow _ _ (none_wide r (plain_netlist b.layout) off) (none_wide r (plain_netlist b.schematic) off);
}

pub both_merged : (r : Rules) (layout schematic : Netlist) (b : Both) → r.combine ≡ true → plain_netlist b.layout ≡ merged_netlist layout → plain_netlist b.schematic ≡ merged_netlist schematic
    → first_wide layout ≡ None → first_wide schematic ≡ None → AreCompared r layout schematic b
both_merged r layout schematic b on one other narrow also = record {
  layout_is = one ∙ sym (as_merged r layout on);
  schematic_is = other ∙ sym (as_merged r schematic on);
  narrow = both_narrow _ _ (wide_so r layout on ∙ narrow) (wide_so r schematic on ∙ also);
}

pub not_compared : (r : Rules) (layout schematic : Netlist) (a : Answer) (e : End) → r.combine ≡ true → NotNarrow layout schematic a → e ≡ AsRun a → NotCompared r layout schematic e
not_compared r layout schematic NoMemory e on h same = Memory same
not_compared r layout schematic a e on h same = Wide a (ap₂ merge_refusal (wide_so r layout on) (wide_so r schematic on) ∙ h) same

-- what isn't combined isn't merged once more, either
pub narrow_not : (r : Rules) (layout schematic : Netlist) → r.combine ≡ false → AreNarrow r layout schematic
narrow_not r layout schematic off = λ on. absurd (true≢false (sym (and_parts _ _ on).0 ∙ off))

pub narrow_merged : (r : Rules) (layout schematic : Netlist) → IsNarrow layout → IsNarrow schematic → AreNarrow r layout schematic
narrow_merged r layout schematic one other = λ on. (one, other)
