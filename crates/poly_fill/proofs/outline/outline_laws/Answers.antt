use Rattle.poly_fill.proofs.Outlined.{upright_outline, level_outline}
use Rattle.poly_fill.proofs.outline.outline_laws.Goals as goal

pub returns-clause-upright : goal.returns-clause-upright
returns-clause-upright c = upright_outline

pub returns-clause-level : goal.returns-clause-level
returns-clause-level c = level_outline
