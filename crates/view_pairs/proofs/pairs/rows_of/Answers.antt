use Rattle.std.proofs.Common.{◌≡◌, IfOk, subst}
use Rattle.view_pairs.specs.Rows.{Asked, proposal_rows}
use Rattle.view_pairs.proofs.pairs.rows_of.Goals as goal

pub returns : goal.returns
returns c = subst (λ (q : Asked). IfOk c.proposal_rows.result (λ rows. rows.items ≡ proposal_rows q)) c.in_ok-shown.ensures.asked c.proposal_rows.ensures
