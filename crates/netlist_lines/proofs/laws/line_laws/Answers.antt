use Rattle.netlist_lines.proofs.NameLemmas.{escaped_name}
use Rattle.netlist_lines.proofs.PlainLemmas.{plain_line}
use Rattle.netlist_lines.proofs.laws.line_laws.Goals as goal

pub returns : goal.returns
returns c = record { escaped = escaped_name c.spelling_laws.ensures.read; plain = plain_line }
