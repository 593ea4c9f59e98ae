-- Selections over the names of a cell's rules.
use Rattle.std.specs.Prelude.{◌≡◌, List}
use Rattle.flat_layout.specs.Layers.{Formula}
use Rattle.flat_layout.specs.declared.way.Way.TheVariants.{Disturbed}
use Rattle.gate_phase.specs.Site.{IsReadySite, layout_at}
use Rattle.gate_phase.specs.declared.site.Site.{Site}
use Rattle.rule_layers.specs.Formulas.{formulas}
use Rattle.rule_stages.specs.Selections.{IsKnown, select_of}
use Rattle.rule_text.specs.declared.rules.SelectRule.{SelectRule}
use Rattle.select_laws.specs.Selects.{Select}

abbrev pub trees_at : Site → List Formula
trees_at site = formulas site.rules.now.names.items

-- what a selection means there
abbrev pub meant_at : Site → SelectRule → Select
meant_at site s = select_of (trees_at site) s

-- a reached cell with right tables, of a design that shuts what nothing disturbs, and a selection
-- over its rules' names
pub record IsReadySelection (at : Site) (s : SelectRule) : Type 0 where
  pub site : IsReadySite at
  pub way : (layout_at at).way ≡ Disturbed
  pub known : IsKnown (trees_at at) s
