use Rattle.view_pairs.proofs.Keying.{FoundSoFar}
use Rattle.view_pairs.proofs.only.places_of.Given as goal

abbrev pub invariant-keys : goal.invariant-keys
invariant-keys l = FoundSoFar l.keys l.count l.m l.places.items
