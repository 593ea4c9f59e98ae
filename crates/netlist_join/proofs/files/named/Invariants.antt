use Rattle.std.proofs.Common.{◌≡◌, ◌++◌, length, map}
use Rattle.std.specs.Prelude.{string_bytes}
use Rattle.rule_lines.specs.Lines.{lines_of}
use Rattle.netlist_join.specs.Named.{named, named_in}
use Rattle.netlist_join.proofs.files.named.Given as goal

abbrev pub invariant-lines : goal.invariant-lines
invariant-lines l = map string_bytes l.paths.items ++ named_in (string_bytes l.file.path) (lines_of l.rest) ≡ named l.file

abbrev pub decreases-lines : goal.decreases-lines
decreases-lines l = length l.rest
