-- What a line says of files and their sections.
use Rattle.std.specs.Prelude.{ℕ, ◌+◌, Bool, true, ◌==◌, ◌||◌, ◌&&◌, not, nat_lt, List, [], ◌∷◌}
use Rattle.std.specs.Prelude.{length, take, drop, Option, Some, None, codes, if◌then◌else◌}
use Rattle.std.specs.List.{position_or_len}
use Rattle.spice_cards.specs.Tokens.{is_blank}
use Rattle.spice_rows.specs.Names.{is_text}

-- `.INCLUDE path`, `.LIB path section`, `.LIB section`, which begins a section, `.ENDL`, and `.END`
pub data Directive : Type 0 where
  Nothing : Directive
  Include : (path : List ℕ) → Directive
  Section : (path name : List ℕ) → Directive
  Begins : (name : List ℕ) → Directive
  Ends : Directive
  EndsFile : Directive
  Bad : Directive

-- a word, and what stands behind it
pub record Split : Type 0 where
  pub word : List ℕ
  pub behind : List ℕ

abbrev pub without_blanks : List ℕ → List ℕ
without_blanks [] = []
without_blanks (b ∷ bytes) = if is_blank b then without_blanks bytes else b ∷ bytes

-- up to the closing quote, where it stands at n
abbrev pub quoted_at : ℕ → List ℕ → Option Split
quoted_at n bytes =
    if nat_lt n (length bytes) then Some (record { word = take n bytes; behind = drop (n + 1) bytes })
    else None

abbrev pub quoted : ℕ → List ℕ → Option Split
quoted quote bytes = quoted_at (position_or_len (λ b. b == quote) bytes) bytes

abbrev pub word_at : ℕ → List ℕ → Split
word_at n bytes = record { word = take n bytes; behind = drop n bytes }

-- the first word of bytes that no blank begins, without quotes round it; an empty one at the end
abbrev pub split : List ℕ → Option Split
split [] = Some (record { word = []; behind = [] })
split (b ∷ bytes) =
    if b == 0x27 then quoted 0x27 bytes
    else if b == 0x22 then quoted 0x22 bytes
    else Some (word_at (position_or_len is_blank (b ∷ bytes)) (b ∷ bytes))

-- the first word; none where its quotes don't end
abbrev pub next_word : List ℕ → Option Split
next_word bytes = split (without_blanks bytes)

-- nothing, or a comment
abbrev pub is_end : List ℕ → Bool
is_end [] = true
is_end (b ∷ []) = b == 0x3B || b == 0x24
is_end (b ∷ c ∷ bytes) = b == 0x3B

abbrev pub include_whole : List ℕ → Option Split → Directive
include_whole path None = Bad
include_whole path (Some s) = if not (is_end path) && is_end s.word then Include path else Bad

abbrev pub include_split : Option Split → Directive
include_split None = Bad
include_split (Some s) = include_whole s.word (next_word s.behind)

abbrev pub library_whole : List ℕ → List ℕ → Option Split → Directive
library_whole path name None = Bad
library_whole path name (Some s) = if is_end s.word then Section path name else Bad

abbrev pub library_second : List ℕ → Option Split → Directive
library_second first None = Bad
library_second first (Some s) =
    if is_end first then Bad
    else if is_end s.word then Begins first
    else library_whole first s.word (next_word s.behind)

abbrev pub library_split : Option Split → Directive
library_split None = Bad
library_split (Some s) = library_second s.word (next_word s.behind)

abbrev pub directive_split : Option Split → Directive
directive_split None = Nothing
directive_split (Some s) =
    if is_text (codes ".INCLUDE") s.word || is_text (codes ".INC") s.word
    then include_split (next_word s.behind)
    else if is_text (codes ".LIB") s.word then library_split (next_word s.behind)
    else if is_text (codes ".ENDL") s.word then Ends
    else if is_text (codes ".END") s.word then EndsFile
    else Nothing

-- by the line's first word
abbrev pub directive : List ℕ → Directive
directive line = directive_split (next_word line)
