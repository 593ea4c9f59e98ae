use Rattle.composed_laws.proofs.Matching.{aligned_match}
use Rattle.composed_laws.proofs.Pairs.{whole_match, composes}
use Rattle.composed_laws.proofs.composing.Goals as goal

pub returns : goal.returns
returns c = record { pairs = whole_match; expansions = composes; aligned = aligned_match }
