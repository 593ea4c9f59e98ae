use Rattle.std.proofs.Common.{take}
use Rattle.std.specs.Str.Parse.{digits_value_after}
use Rattle.fixed_num.specs.Scan.{IsCapped}
use Rattle.fixed_num.proofs.value.capped.Given as goal

abbrev pub invariant-loop-digit : goal.invariant-loop-digit
invariant-loop-digit l = IsCapped (digits_value_after 10 0 (take l.digit-index l.digits)) l.number
