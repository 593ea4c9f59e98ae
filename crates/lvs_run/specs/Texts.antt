-- Why a text that was made, and that is written to a path, isn't taken as an input.
use Rattle.std.specs.Prelude.{◌≡◌, ◌<◌, ◌≤◌, ℕ, List, length, Option}
use Rattle.lvs_outside.specs.Loops.{limit}
use Rattle.rule_text.specs.Reading.{IsFirstFault as IsFirstRuleFault}
use Rattle.rule_text.specs.Rules.{Rules}
use Rattle.lvs_run.specs.Answers.{Answer, RefusedLong, RefusedRules, RefusedLayout}
use Rattle.lvs_run.specs.Answers.{RefusedSchematic, NoMemory}
use Rattle.lvs_run.specs.Outcomes.{IsFirstLayoutFault, IsFirstSchematicFault}

-- it is too long, or there was no memory
abbrev pub NotTaken : (path text : List ℕ) → Answer → Type 0
NotTaken path text (RefusedLong p) = (p ≡ path) × (limit < length text)
NotTaken path text NoMemory = Unit {0}
NotTaken path text a = ⊥

-- or it gave no rules
abbrev pub NoRulesIn : (path text : List ℕ) → Answer → Type 0
NoRulesIn path text (RefusedRules fault) = (length text ≤ limit) × IsFirstRuleFault text fault
NoRulesIn path text a = NotTaken path text a

-- or no layout
abbrev pub NoLayoutIn : (path text : List ℕ) → Option (List ℕ) → Rules → Answer → Type 0
NoLayoutIn path text top r (RefusedLayout fault) = (length text ≤ limit)
    × IsFirstLayoutFault text top r fault
NoLayoutIn path text top r a = NotTaken path text a

-- or no netlist
abbrev pub NoSchematicIn : (path text : List ℕ) → Answer → Type 0
NoSchematicIn path text (RefusedSchematic fault) = (length text ≤ limit)
    × IsFirstSchematicFault text fault
NoSchematicIn path text a = NotTaken path text a
