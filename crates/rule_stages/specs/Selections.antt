-- Selections of a rule set, as the layout's laws know them.
use Rattle.std.specs.Prelude.{◌≡◌, ◌<◌, Bool, true, false, List, Some, get_or, length, slice_get}
use Rattle.flat_layout.specs.Layers.{Formula, Empty, Binary}
use Rattle.flat_layout.specs.Parts.{Corners}
use Rattle.geo_base.specs.declared.layer.Op.TheVariants.{And}
use Rattle.rule_text.specs.declared.rules.Ask.{Ask as RuleAsk}
use Rattle.rule_text.specs.declared.rules.Ask.TheVariants as rule_ask
use Rattle.rule_text.specs.declared.rules.LayerForm.{LayerForm}
use Rattle.rule_text.specs.declared.rules.LayerForm.TheVariants as form
use Rattle.rule_text.specs.declared.rules.SelectRule.{SelectRule}
use Rattle.select_laws.specs.Selects.{Ask, Interacting, Overlapping, Inside, Outside, WithArea}
use Rattle.select_laws.specs.Selects.{Select, Side, Those, Others}

abbrev pub ask_of : RuleAsk → Ask
ask_of rule_ask.Interacting = Interacting
ask_of rule_ask.Overlapping = Overlapping
ask_of rule_ask.Inside = Inside
ask_of rule_ask.Outside = Outside
ask_of (rule_ask.WithArea low high) = WithArea low high

abbrev pub side_of : Bool → Side
side_of false = Those
side_of true = Others

-- what a selection means, over the trees of the names: regions join at corners
abbrev pub select_of : List Formula → SelectRule → Select
select_of trees s = record {
  joint = Corners;
  region = get_or trees s.region Empty;
  other = get_or trees s.other Empty;
  ask = ask_of s.ask;
  side = side_of s.others;
}

-- what a selection reads, as one name: what is disturbed for this is disturbed for one of the two
abbrev pub sight_form : SelectRule → LayerForm
sight_form s = form.Binary And s.region s.other

-- it reads names of the rules, and its own name is what it reads
pub record IsKnown (trees : List Formula) (s : SelectRule) : Type 0 where
  pub region : s.region < length trees
  pub other : s.other < length trees
  pub both : slice_get trees s.name
      ≡ Some (Binary And (get_or trees s.region Empty) (get_or trees s.other Empty))
