use Rattle.std.proofs.Common.{arith}
use Rattle.fixed_num.proofs.ReadBack.{read_back}
use Rattle.fixed_num.proofs.micron.micron_text.Goals as goal

pub returns-clause-read : goal.returns-clause-read
returns-clause-read c = read_back c.args.length.0 _ (omega arith) c.in_ok-text.ensures
