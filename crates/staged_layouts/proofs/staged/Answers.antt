use Rattle.staged_layouts.proofs.Laws.{alike_law, fits_law, shows_law}
use Rattle.staged_layouts.proofs.staged.Goals as goal

pub returns : goal.returns
returns c = record {
  alike = alike_law c.design_laws.ensures.own c.one_list.ensures;
  fits = fits_law c.design_laws.ensures.height;
  shows = shows_law c.design_laws.ensures.height c.stages.ensures.unread c.stages.ensures.staged;
}
