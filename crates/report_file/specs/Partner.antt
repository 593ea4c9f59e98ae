-- The top's partner in the last comparison.
use Rattle.std.specs.Prelude.{◌≡◌, ℕ, false, List}
use Rattle.align_laws.specs.Partners.{IsPartner}
use Rattle.cell_graph.specs.Linked.{Linked}
use Rattle.deep_tables.specs.declared.gates.BadGate.{BadGate}
use Rattle.net_align.specs.Compared.{AreCalleesFirst, IsAlignable}
use Rattle.pair_jobs.specs.declared.verdict.Verdict.{Verdict}
use Rattle.pair_turns.specs.Alone.{has_name}
use Rattle.plain_netlist.specs.Lists.{IsListed}
use Rattle.plain_netlist.specs.Netlist.{Netlist}
use Rattle.report_file.specs.File.{IsReportFile}
use Rattle.rule_text.specs.Rules.{Rules}
use Rattle.rule_text.specs.Sound.{IsSound}

-- no line `flatten_circuit` names a circuit that a line `same_circuits` names on that side
pub record AreRulesApart (r : Rules) : Type 0 where
  pub lefts : (line : List ℕ × List ℕ) → IsListed line r.same
      → has_name r.flat_layouts line.0 ≡ false
  pub rights : (line : List ℕ × List ℕ) → IsListed line r.same
      → has_name r.flat_schematics line.1 ≡ false

-- then the top's partner by the lines of the rules is that of the last comparison
abbrev pub LastPartnerLaw : Type 0
LastPartnerLaw = (d : Linked) (r : Rules) (layout : Netlist) (top : ℕ) (bad : List BadGate)
    (schematic : Netlist) (text : List ℕ) (pairs : ℕ) (v : Verdict) → IsSound r
    → AreRulesApart r → IsAlignable layout → IsAlignable schematic → AreCalleesFirst layout
    → (x : IsReportFile d r layout top bad schematic text pairs v) → (b : ℕ)
    → IsPartner layout schematic top r.same top b → IsPartner layout schematic top x.same top b
