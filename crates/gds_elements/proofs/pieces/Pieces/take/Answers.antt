use Rattle.std.proofs.Common.{◌++◌, Option, subst, sym, ◌∙◌}
use Rattle.gds_elements.specs.declared.library.GdsFault.{GdsFault}
use Rattle.gds_elements.specs.Pieces.{FedTo}
use Rattle.gds_elements.proofs.PieceLemmas.{has_more, ended_more, goes_tells}
use Rattle.gds_elements.proofs.pieces.Pieces.take.Goals as goal

pub returns-in-Some-clause-reading : goal.returns-in-Some-clause-reading
returns-in-Some-clause-reading c = λ fed h.
    let s = c.args.self.now in
    let f = subst (λ (o : Option GdsFault). FedTo fed s.held.items s.stream o) c.in-Some.is h in
    let more = has_more fed c.args.piece.now c.in-Some.fault f in
    (subst (λ (o : Option GdsFault). FedTo (fed ++ c.args.piece.now) s.held.items s.stream o) (sym c.in-Some.is) more, more)

pub returns-then-self-clause-reading : goal.returns-then-self-clause-reading
returns-then-self-clause-reading c = λ fed h.
    let s = c.args.self.now in
    let g = subst (λ (o : Option GdsFault). FedTo fed s.held.items s.stream o) c.in_default.is h in
    let more = ended_more fed c.args.piece.now s.held.items s.stream c.if-self.true g in (
      subst (λ (o : Option GdsFault). FedTo (fed ++ c.args.piece.now) s.held.items s.stream o) (sym c.in_default.is) more,
      goes_tells (fed ++ c.args.piece.now) s.held.items s.stream more,
    )

pub returns-in-Err-clause-reading : goal.returns-in-Err-clause-reading
returns-in-Err-clause-reading c = λ fed h.
    let s = c.args.self.now in
    let bad = c.in-Err.ensures.reading fed (subst (λ (o : Option GdsFault). FedTo fed s.held.items s.stream o) c.in_default.is h) in
    (bad, bad)

pub returns-in-Ok-clause-reading : goal.returns-in-Ok-clause-reading
returns-in-Ok-clause-reading c = λ fed h.
    let s = c.args.self.now in
    let now = c.advance.new.self in
    let goes = c.in-Ok.ensures.reading fed (subst (λ (o : Option GdsFault). FedTo fed s.held.items s.stream o) c.in_default.is h) in (
      subst (λ (o : Option GdsFault). FedTo (fed ++ c.args.piece.now) now.held.items now.stream o) (sym (c.in-Ok.ensures.fault ∙ c.in_default.is)) goes,
      goes_tells (fed ++ c.args.piece.now) now.held.items now.stream goes,
    )
