use Rattle.std.proofs.Common.{sym, ◌∙◌}
use Rattle.match_flow.proofs.Sided.{none_is}
use Rattle.report_file.proofs.turns.compare_by.Goals as goal

pub compare-requires-clause-narrow : goal.compare-requires-clause-narrow
compare-requires-clause-narrow g c κs within = λ on. c.requires.narrow (sym c.merges_again.ensures ∙ on)

pub returns-in_default : goal.returns-in_default
returns-in_default g c = c.in_ok-found.ensures.none.0 (none_is c.in_ok-found.field-0 c.in_default.not-Some)
