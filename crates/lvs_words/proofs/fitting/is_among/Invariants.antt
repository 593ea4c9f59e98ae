use Rattle.std.proofs.Common.{◌≡◌, length}
use Rattle.lvs_words.specs.Fitting.{is_among}
use Rattle.lvs_words.proofs.fitting.is_among.Given as goal

abbrev pub invariant-flags : goal.invariant-flags
invariant-flags l = is_among l.rest l.flag ≡ is_among l.flags l.flag

abbrev pub decreases-flags : goal.decreases-flags
decreases-flags l = length l.rest
