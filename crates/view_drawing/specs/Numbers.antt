-- Numbers spread over marks.
use Rattle.std.specs.Prelude.{ℕ, Bool, true, false, List, [], ◌∷◌, Option, Some, None}

-- the number that stands next, where it is wanted, and those that are left then
abbrev pub next_if : Bool → List ℕ → Option ℕ
next_if false ns = None
next_if true [] = None
next_if true (n ∷ ns) = Some n

abbrev pub left_if : Bool → List ℕ → List ℕ
left_if false ns = ns
left_if true [] = []
left_if true (n ∷ ns) = ns

-- for each mark the number that stands next, where it is set
abbrev pub spread : List Bool → List ℕ → List (Option ℕ)
spread [] ns = []
spread (mark ∷ marks) ns = next_if mark ns ∷ spread marks (left_if mark ns)
