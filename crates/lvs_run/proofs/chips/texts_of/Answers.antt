use Rattle.lvs_run.specs.Chips.{layout_text, rules_text, schematic_text}
use Rattle.lvs_run.proofs.chips.texts_of.Goals as goal

pub returns-clause-layout : goal.returns-clause-layout
unfolding layout_text
returns-clause-layout c = c.make.ensures.layout

pub returns-clause-rules : goal.returns-clause-rules
unfolding rules_text
returns-clause-rules c = c.make.ensures.rules

pub returns-clause-schematic : goal.returns-clause-schematic
unfolding schematic_text
returns-clause-schematic c = c.make.ensures.schematic
