use Rattle.gate_search.proofs.Searching.{part_law, found_law, known_law}
use Rattle.gate_search.proofs.laws.searched.Goals as goal

pub returns : goal.returns
returns c = record { part = part_law; found = found_law; known = known_law }
