use Rattle.std.proofs.Common.{◌≡◌, take}
use Rattle.net_align.specs.Sights.{IsNumbering, firsts}
use Rattle.net_align.proofs.numbers.Numbers.of.Given as goal

abbrev pub invariant-loop-n : goal.invariant-loop-n
invariant-loop-n l = (l.numbers.list.items ≡ firsts (take l.n-index l.sights)) × IsNumbering l.numbers.list.items l.count l.numbers.places.items
