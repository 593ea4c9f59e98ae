-- Names in cards: without escapes, and folded.
use Rattle.std.specs.Prelude.{ℕ, Bool, not, List, [], ◌∷◌, Option, Some, None}
use Rattle.std.specs.Str.{bytes_eq}
use Rattle.net_names.specs.Escapes.{unescaped}
use Rattle.net_names.specs.Folding.{folded_bytes}
use Rattle.net_model.specs.Tests.{has_twins}

abbrev pub folded_some : Option (List ℕ) → Option (List ℕ)
folded_some None = None
folded_some (Some bytes) = Some (folded_bytes bytes)

-- the name that a word spells: first its escapes are read, then its letters are folded
abbrev pub name_of : List ℕ → Option (List ℕ)
name_of [] = None
name_of (b ∷ bytes) = folded_some (unescaped (b ∷ bytes))

abbrev pub name_onto : Option (List ℕ) → Option (List (List ℕ)) → Option (List (List ℕ))
name_onto (Some n) (Some ns) = Some (n ∷ ns)
name_onto _ _ = None

-- all names, none where one has a bad escape
abbrev pub names_of : List (List ℕ) → Option (List (List ℕ))
names_of [] = Some []
names_of (w ∷ ws) = name_onto (name_of w) (names_of ws)

-- no name stands twice
abbrev pub are_apart : List (List ℕ) → Bool
are_apart ns = not (has_twins [] ns)

-- a word, folded as it stands, is this text
abbrev pub is_text : List ℕ → List ℕ → Bool
is_text text word = bytes_eq (folded_bytes word) text
