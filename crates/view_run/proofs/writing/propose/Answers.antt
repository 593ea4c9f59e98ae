use Rattle.view_file.specs.Cross.{lists_of}
use Rattle.view_run.proofs.Shown.{rows_whole}
use Rattle.view_run.proofs.writing.propose.Goals as goal

pub returns-in_ok-rows-in-Some-clause-whole : goal.returns-in_ok-rows-in-Some-clause-whole
returns-in_ok-rows-in-Some-clause-whole c =
    rows_whole c.args.compared.now c.in-Some.found (lists_of c.in_ok-rows-in-Some.rows.items) _ _ c.in-Some.is c.deref.ensures.value c.deref-in-Some.ensures.value c.in_ok-rows-in-Some.ensures.whole
