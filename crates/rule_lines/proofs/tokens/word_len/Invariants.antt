use Rattle.std.proofs.Common.{◌≡◌, ◌≤◌, ◌+◌, ◌-◌, length, drop}
use Rattle.std.specs.List.{prefix_len}
use Rattle.rule_lines.specs.Tokens.{is_word}
use Rattle.rule_lines.proofs.tokens.word_len.Given as goal

abbrev pub invariant-loop-n : goal.invariant-loop-n
invariant-loop-n l = (l.n ≤ length l.bytes) × (l.n + prefix_len is_word (drop l.n l.bytes) ≡ prefix_len is_word l.bytes)

abbrev pub decreases-loop-n : goal.decreases-loop-n
decreases-loop-n l = length l.bytes - l.n
