-- The base names of nets and the names of cells, without regard to case.
use Rattle.std.specs.Prelude.{ℕ, List, [], Option, Some, None, map}
use Rattle.std.specs.Borrow.{Bor}
use Rattle.net_names.specs.Folding.{folded_bytes}

-- a net without a base name has the empty one
abbrev pub folded_base : Option (Bor (List ℕ)) → List ℕ
folded_base None = []
folded_base (Some name) = folded_bytes name.now

abbrev pub folded_bases : List (Option (Bor (List ℕ))) → List (List ℕ)
folded_bases bases = map folded_base bases

abbrev pub folded_names : List (Bor (List ℕ)) → List (List ℕ)
folded_names names = map (λ name. folded_bytes name.now) names
