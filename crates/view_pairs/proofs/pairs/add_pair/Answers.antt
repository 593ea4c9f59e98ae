use Rattle.std.proofs.Common.{◌∙◌, List, ap, subst}
use Rattle.net_model.specs.Rows.{plain_circuit}
use Rattle.view_pairs.specs.Rows.{asked, proposal_rows}
use Rattle.view_pairs.specs.Sure.{HaveSure}
use Rattle.view_pairs.specs.declared.proposal.Proposal.{Proposal}
use Rattle.view_pairs.proofs.Shown.{rows_more}
use Rattle.view_pairs.proofs.pairs.add_pair.Goals as goal

pub returns : goal.returns
returns c =
    let x = c.in_ok-found.found in
    let a = plain_circuit c.args.left.now in
    let b = plain_circuit c.args.right.now in
    let old = c.args.out.now in
    record {
      proposal = x.proposal;
      sound = c.in_ok-found.ensures.sound;
      proposals = c.in_ok-push.ensures.items;
      rows = rows_more old.rows.items c.push-2.new.self.items x.rows (proposal_rows (asked c.args.told a b old.proposals.items x.proposal)) c.in_ok-push-2.ensures.items
          (c.in_ok-found.ensures.rows ∙ ap (λ (ps : List Proposal). proposal_rows (asked c.args.told a b ps x.proposal)) c.deref.ensures.value);
      sure = subst (λ (ps : List Proposal). HaveSure a b c.args.answer.now (proposal_rows (asked c.args.told a b ps x.proposal))) c.deref.ensures.value c.in_ok-found.ensures.sure;
    }
