use Rattle.std.proofs.Common.{◌≡◌, ◌++◌, map}
use Rattle.gds_elements.specs.Reading.{ref_seen}
use Rattle.gds_layout.specs.Drafts.{ref_of}
use Rattle.gds_layout.proofs.drafts.refs_of.Given as goal

abbrev pub invariant-loop-r : goal.invariant-loop-r
invariant-loop-r l = (l.fn.refs.items ≡ l.yielded ++ l.r-iterator.rest.items) × (map ref_of l.kept.items ≡ map ref_seen l.yielded)
