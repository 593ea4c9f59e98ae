-- Pairs one after another, with their proposals and rows.
use Rattle.std.specs.Prelude.{◌≡◌, Bool, List, [], ◌∷◌, ◌++◌, map}
use Rattle.match_types.specs.declared.answer.Answer.{Answer}
use Rattle.plain_netlist.specs.Netlist.{Circuit}
use Rattle.view_cross.specs.declared.rows.Row.{Row}
use Rattle.view_pairs.specs.Proposals.{IsProposal}
use Rattle.view_pairs.specs.Rows.{asked, proposal_rows}
use Rattle.view_pairs.specs.Sure.{HaveSure}
use Rattle.view_pairs.specs.declared.proposal.Proposal.{Proposal}
use Rattle.view_pairs.specs.declared.pairs.Proposed.{Proposed}

abbrev pub rows_in : Proposed → List (List Row)
rows_in x = map (λ r. r.items) x.rows.items

-- one more pair with this answer, by the pins of those before
pub record AddsPair (told : Bool) (a b : Circuit) (x : Answer) (old new : Proposed) : Type 0 where
  pub proposal : Proposal
  pub sound : IsProposal a b proposal
  pub proposals : new.proposals.items ≡ old.proposals.items ++ proposal ∷ []
  pub rows : rows_in new ≡ rows_in old
      ++ proposal_rows (asked told a b old.proposals.items proposal) ∷ []
  pub sure : HaveSure a b x
      (proposal_rows (asked told a b old.proposals.items proposal))
