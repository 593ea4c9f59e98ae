use Rattle.std.proofs.Common.{ℕ, ◌+◌, ◌≤◌, take}
use Rattle.std.specs.Str.Parse.{digits_value_after}
use Rattle.fixed_num.specs.Scan.{IsStripped}
use Rattle.fixed_num.proofs.significant.Significant.push_all.Given as goal

abbrev pub invariant-loop-digit : goal.invariant-loop-digit
invariant-loop-digit l =
    ((m : ℕ) → IsStripped l.fn.self.count l.fn.self.value l.fn.self.zeros m → IsStripped l.number.count l.number.value l.number.zeros (digits_value_after 10 m (take l.digit-index l.digits)))
    × (l.number.count + l.number.zeros ≤ l.fn.self.count + l.fn.self.zeros + l.digit-index)
