use Rattle.view_picture.proofs.Picturing.{none_small}
use Rattle.view_picture.proofs.drawings.draw_written.Goals as goal

pub returns-clause-small_regions : goal.returns-clause-small_regions
returns-clause-small_regions c = c.in_ok-drawings.ensures.small_regions (none_small _ c.none-regions.ensures)
