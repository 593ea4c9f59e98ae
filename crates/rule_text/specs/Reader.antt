-- What a reader holds between two lines.
use Rattle.std.specs.Prelude.{◌≡◌, ℕ, ◌≤◌, List, ◌++◌, length, map, Option, Some, None, Result, Ok}
use Rattle.std.specs.Prelude.{Err}
use Rattle.net_names.specs.Folding.{folded_bytes}
use Rattle.rule_lines.specs.Tokens.{Token}
use Rattle.rule_text.specs.declared.fault.RuleFault.{RuleFault}
use Rattle.rule_text.specs.declared.fault.RuleFault.TheVariants.{NoMemory}
use Rattle.rule_text.specs.declared.reader.Reader.{Reader}
use Rattle.rule_text.specs.Rules.{Rules, names_of, fault_of, with_line, device_line, more_line}
use Rattle.rule_text.specs.Rules.{mos_classes, more_classes}
use Rattle.rule_text.specs.Reaches.{reaches}
use Rattle.rule_text.specs.Reading.{reading, device_lines, more_lines}
use Rattle.rule_text.specs.Seen.{rules_seen}
use Rattle.rule_text.specs.Sound.{IsFormed}

-- the tables hold what was there before, there are at most 256 names, and each device has its line;
-- the reaches are those of the names
pub record IsReady (r : Reader) : Type 0 where
  pub names : r.names ≡ names_of (rules_seen r.rules)
  pub distances : r.reaches.items ≡ reaches r.rules.names.items
  pub keys : r.keys ≡ map (λ o. o.key) r.rules.outputs.items
  pub classes : r.classes ≡ mos_classes (rules_seen r.rules)
  pub others : r.others ≡ more_classes (rules_seen r.rules)
  pub layouts : r.layouts ≡ map (λ p. folded_bytes p.0) r.rules.same.items
  pub schematics : r.schematics ≡ map (λ p. folded_bytes p.1) r.rules.same.items
  pub flat_layouts : r.flat_layouts ≡ map folded_bytes r.rules.flat_layouts.items
  pub flat_schematics : r.flat_schematics ≡ map folded_bytes r.rules.flat_schematics.items
  pub count : length r.rules.names.items ≤ 256
  pub lines : length r.device_lines.items ≡ length r.rules.devices.items
  pub other_lines : length r.more_lines.items ≡ length r.rules.more.items

-- a line was taken
pub record Takes (old new : Reader) (line : ℕ) (ts : List Token) : Type 0 where
  pub passed : fault_of (rules_seen old.rules) line ts ≡ None
  pub rules : rules_seen new.rules ≡ with_line (rules_seen old.rules) ts
  pub device_lines : new.device_lines.items ≡ old.device_lines.items ++ device_line line ts
  pub more_lines : new.more_lines.items ≡ old.more_lines.items ++ more_line line ts
  pub formed : IsFormed (rules_seen old.rules) → IsFormed (rules_seen new.rules)
  pub ready : IsReady new

-- all lines were taken
pub record TakesAll (old new : Reader) (lines : List (List ℕ)) : Type 0 where
  pub rules : reading 1 (rules_seen old.rules) lines ≡ Ok (rules_seen new.rules)
  pub device_lines : new.device_lines.items ≡ old.device_lines.items ++ device_lines 1 lines
  pub more_lines : new.more_lines.items ≡ old.more_lines.items ++ more_lines 1 lines
  pub formed : IsFormed (rules_seen old.rules) → IsFormed (rules_seen new.rules)
  pub ready : IsReady new

-- the answer is this fault, or that there is no memory
abbrev pub Says : RuleFault → Option RuleFault → Type 0
Says NoMemory fault = Unit {0}
Says e fault = fault ≡ Some e

abbrev pub SaysFirst : RuleFault → Result Rules RuleFault → Type 0
SaysFirst NoMemory read = Unit {0}
SaysFirst e read = read ≡ Err e
