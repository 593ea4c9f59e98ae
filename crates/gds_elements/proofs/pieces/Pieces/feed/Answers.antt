use Rattle.std.proofs.Common.{◌++◌, Option, subst, sym, ◌∙◌}
use Rattle.std.proofs.lemmas.Bool.{eqb-true}
use Rattle.std.proofs.lemmas.Result.{err_from_is_err_and}
use Rattle.gds_elements.specs.declared.library.GdsFault.{GdsFault}
use Rattle.gds_elements.specs.Pieces.{FedTo}
use Rattle.gds_elements.proofs.PieceLemmas.{has_more, fronted_more, fronted_fault, fronted_all}
use Rattle.gds_elements.proofs.pieces.Pieces.feed.Goals as goal

pub loop-rest-preserved : goal.loop-rest-preserved
loop-rest-preserved c =
    let told = c.in_ok-take.ensures in
    fronted_more c.args.piece.now c.loop-rest.rest.now c.args.self.now c.loop-rest.self c.take.new.self c.next_count-count.result c.loop-rest.invariant c.next_count-count.ensures.within
    (λ fed h. (told.reading fed h).0) told.sound told.count told.room told.taken

pub returns-in-Some-clause-reading : goal.returns-in-Some-clause-reading
returns-in-Some-clause-reading c = λ fed h.
    let s = c.args.self.now in
    let f = subst (λ (o : Option GdsFault). FedTo fed s.held.items s.stream o) c.in-Some.is h in
    let more = has_more fed c.args.piece.now c.in-Some.fault f in
    (subst (λ (o : Option GdsFault). FedTo (fed ++ c.args.piece.now) s.held.items s.stream o) (sym c.in-Some.is) more, more)

pub returns-in_err-take-clause-reading : goal.returns-in_err-take-clause-reading
returns-in_err-take-clause-reading c = λ fed h.
    let p = err_from_is_err_and c.from_residual.result c.from_residual.ensures.1 in
    let fault = c.in_err-take.field-0.0 in
    let now = c.take.new.self in
    let told = c.in_err-take.ensures in
    let bad = fronted_fault c.args.piece.now c.loop-rest.rest.now c.args.self.now c.loop-rest.self now c.next_count-count.result fault c.loop-rest.invariant (λ before g. (told.reading before g).1) fed h in
    rw (p.1, p.2) (subst (λ (o : Option GdsFault). FedTo (fed ++ c.args.piece.now) now.held.items now.stream o) (sym told.keeps) bad, bad)

pub returns-clause-reading : goal.returns-clause-reading
returns-clause-reading c = λ fed h.
    fronted_all c.args.piece.now c.loop-rest.rest.now c.args.self.now c.loop-rest.self c.loop-rest.invariant (eqb-true _ _ (sym c.is_empty.ensures ∙ c.loop-rest-test.false)) fed h
