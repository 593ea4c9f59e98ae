use Rattle.std.proofs.Common.{arith}
use Rattle.fixed_num.proofs.ReadBack.{area_back}
use Rattle.fixed_num.proofs.micron.area_text.Goals as goal

pub returns-clause-read : goal.returns-clause-read
returns-clause-read c = area_back c.args.area _ (omega arith) c.in_ok-text.ensures
