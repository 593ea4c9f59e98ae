use Rattle.std.proofs.Common.{Option, subst}
use Rattle.std.proofs.lemmas.Bool.{not-true, not-false}
use Rattle.gds_elements.specs.declared.library.GdsFault.{GdsFault}
use Rattle.gds_elements.specs.Pieces.{FedTo, Goes}
use Rattle.gds_elements.proofs.PieceLemmas.{accepted_now, cut_now}
use Rattle.gds_elements.proofs.pieces.Pieces.finish.Goals as goal

pub returns-then-not-stream-clause-fault : goal.returns-then-not-stream-clause-fault
returns-then-not-stream-clause-fault c = λ fed h.
    let s = c.args.self in
    let g : Goes fed s.held.items s.stream = subst (λ (o : Option GdsFault). FedTo fed s.held.items s.stream o) c.in_default.is h in
    cut_now fed s.held.items s.stream g (not-true _ c.if-not-stream.true)

pub returns-clause-found : goal.returns-clause-found
returns-clause-found c = λ fed h.
    let s = c.args.self in
    let g : Goes fed s.held.items s.stream = subst (λ (o : Option GdsFault). FedTo fed s.held.items s.stream o) c.in_default.is h in
    accepted_now fed s.held.items s.stream c.library.result g (not-false _ c.if-not-stream.false) c.library.ensures
