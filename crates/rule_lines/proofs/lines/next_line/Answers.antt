use Rattle.std.proofs.Common.{◌+◌}
use Rattle.rule_lines.proofs.LineLemmas.{first_line, last_line, whole, none_left}
use Rattle.rule_lines.proofs.lines.next_line.Goals as goal

pub returns-then-n-bytes-clause-lines : goal.returns-then-n-bytes-clause-lines
returns-then-n-bytes-clause-lines c =
    rw (whole c.args.bytes.now (c.place_of-n.result + 1), c.chopped.ensures) (first_line c.args.bytes.now c.place_of-n.result c.place_of-n.ensures.place c.if-n-bytes.true)

pub returns-else-n-bytes-clause-lines : goal.returns-else-n-bytes-clause-lines
returns-else-n-bytes-clause-lines c =
    rw (none_left c.args.bytes.now) (last_line c.args.bytes.now c.place_of-n.result c.place_of-n.ensures.place c.requires c.if-n-bytes.false)
