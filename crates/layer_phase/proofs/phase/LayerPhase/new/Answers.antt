use Rattle.std.proofs.Common.{subst, sym}
use Rattle.rule_text.specs.Seen.{rules_seen}
use Rattle.layer_phase.specs.Groups.{AreBefore}
use Rattle.layer_phase.proofs.Needing.{all_before}
use Rattle.layer_phase.proofs.phase.LayerPhase.new.Goals as goal

pub groups_of-requires-clause-sound : goal.groups_of-requires-clause-sound
groups_of-requires-clause-sound c = subst AreBefore (sym c.deref-2.ensures.value) (all_before (rules_seen c.args.rules.now) c.requires.rules)
