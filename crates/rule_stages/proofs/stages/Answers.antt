use Rattle.rule_stages.proofs.Turns.{in_turn, each_stage, free}
use Rattle.rule_stages.proofs.stages.Goals as goal

pub returns : goal.returns
returns c = record { turn = in_turn; each = each_stage; free = free }
