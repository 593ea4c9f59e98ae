use Rattle.std.proofs.Common.{◌∙◌, ◌-◌, length, take, get_or, sym, ap}
use Rattle.view_page.specs.Notes.{before_last}
use Rattle.view_page.proofs.LastSign.{at_last, front_and_last, not_last}
use Rattle.view_page.proofs.notes.before_last.Goals as goal

pub returns-then-last-eq36 : goal.returns-then-last-eq36
returns-then-last-eq36 c =
    let rest = c.bytes.rest.now in
    let front = take (length rest - 1) rest in
    let last = get_or rest (length rest - 1) 0 in
    sym (c.bytes.invariant ∙ ap before_last (front_and_last rest 0 c.in-len1-up.len_at_least) ∙ at_last front last c.if-last-eq36.true)

pub bytes-preserved : goal.bytes-preserved
bytes-preserved c =
    let rest = c.bytes.rest.now in
    let front = take (length rest - 1) rest in
    let last = get_or rest (length rest - 1) 0 in
    c.bytes.invariant ∙ ap before_last (front_and_last rest 0 c.in-len1-up.len_at_least) ∙ not_last front last c.if-last-eq36.false
