use Rattle.std.proofs.Common.{◌≡◌, [], map, take}
use Rattle.std.specs.Prelude.{slice_index_or}
use Rattle.net_align.proofs.cut.names_at.Given as goal

abbrev pub invariant-loop-n : goal.invariant-loop-n
invariant-loop-n l = l.found.items ≡ map (λ n. slice_index_or l.names n []) (take l.n-index l.list)
