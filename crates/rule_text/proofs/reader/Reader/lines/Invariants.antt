use Rattle.std.proofs.Common.{◌≡◌, ◌<◌, ◌+◌, ◌^◌, ◌++◌, length}
use Rattle.rule_lines.specs.Lines.{lines_of}
use Rattle.rule_text.specs.Reading.{reading, device_lines, more_lines}
use Rattle.rule_text.specs.Reader.{IsReady}
use Rattle.rule_text.specs.Seen.{rules_seen}
use Rattle.rule_text.specs.Sound.{IsFormed}
use Rattle.rule_text.proofs.reader.Reader.lines.Given as goal

abbrev pub invariant-loop-rest : goal.invariant-loop-rest
invariant-loop-rest l = record {
  ready : IsReady l.self;
  room : l.number + length l.rest < 2 ^ 64;
  reading : reading l.number (rules_seen l.self.rules) (lines_of l.rest) ≡ reading 1 (rules_seen l.fn.self.rules) (lines_of l.bytes);
  formed : IsFormed (rules_seen l.fn.self.rules) → IsFormed (rules_seen l.self.rules);
  lines : l.self.device_lines.items ++ device_lines l.number (lines_of l.rest) ≡ l.fn.self.device_lines.items ++ device_lines 1 (lines_of l.bytes);
  others : l.self.more_lines.items ++ more_lines l.number (lines_of l.rest) ≡ l.fn.self.more_lines.items ++ more_lines 1 (lines_of l.bytes);
}

abbrev pub decreases-loop-rest : goal.decreases-loop-rest
decreases-loop-rest l = length l.rest
