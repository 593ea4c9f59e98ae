use Rattle.rule_stages.proofs.Bare.{stage_sound}
use Rattle.rule_stages.proofs.Staged.{stage_select}
use Rattle.rule_stages.proofs.stage_laws.Goals as goal

pub returns : goal.returns
returns c = record { sound = stage_sound; select = stage_select }
