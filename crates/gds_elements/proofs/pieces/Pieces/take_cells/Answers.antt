use Rattle.std.proofs.Common.{Option, subst, sym}
use Rattle.gds_elements.specs.declared.library.GdsFault.{GdsFault}
use Rattle.gds_elements.specs.Pieces.{FedTo, Goes}
use Rattle.gds_elements.proofs.PieceLemmas.{goes_kept}
use Rattle.gds_elements.proofs.pieces.Pieces.take_cells.Goals as goal

pub returns-clause-reading : goal.returns-clause-reading
returns-clause-reading c = λ fed h.
    let s = c.args.self.now in
    let g : Goes fed s.held.items s.stream = subst (λ (o : Option GdsFault). FedTo fed s.held.items s.stream o) c.requires h in
    let kept = c.take_cells.new.self in
    subst (λ (o : Option GdsFault). FedTo fed s.held.items (record s.stream { kept = kept }) o) (sym c.requires) (goes_kept fed s.held.items s.stream kept c.take_cells.ensures.holds g)

pub returns-clause-fillable : goal.returns-clause-fillable
returns-clause-fillable c = λ fed h.
    let s = c.args.self.now in
    let g : Goes fed s.held.items s.stream = subst (λ (o : Option GdsFault). FedTo fed s.held.items s.stream o) c.requires h in
    c.take_cells.ensures.fillable g.records g.stands.kept g.stands.passes
