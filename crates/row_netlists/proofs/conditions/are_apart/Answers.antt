use Rattle.row_netlists.proofs.Tested.{few_lefts, few_rights}
use Rattle.std.proofs.Common.{rules}
use Rattle.row_netlists.proofs.conditions.are_apart.Goals as goal

pub returns-clause-left : goal.returns-clause-left
returns-clause-left c e = few_lefts c.args.same.now (search rules)

pub returns-clause-right : goal.returns-clause-right
returns-clause-right c e = few_rights c.args.same.now (search rules)
