-- Texts that stand in a list once each.
use Rattle.std.specs.Prelude.{ℕ, List, [], ◌∷◌, ◌++◌, Bool, if◌then◌else◌}
use Rattle.std.specs.List.{list_any, position_or_len}
use Rattle.std.specs.Str.{bytes_eq}

-- a text stands among these
abbrev pub has_text : List (List ℕ) → List ℕ → Bool
has_text texts text = list_any (bytes_eq text) texts

-- the place of a text, or the number of texts
abbrev pub place_of : List (List ℕ) → List ℕ → ℕ
place_of texts text = position_or_len (bytes_eq text) texts

-- a text stands last where it isn't there yet
abbrev pub with_text : List (List ℕ) → List ℕ → List (List ℕ)
with_text texts text = if has_text texts text then texts else texts ++ text ∷ []
