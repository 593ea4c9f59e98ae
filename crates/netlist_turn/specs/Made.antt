-- What is made of cards: the written text, the line of the card that each of its lines was, and
-- what is told of each change.
use Rattle.std.specs.Prelude.{ℕ, Bool, not, ◌==◌, ◌&&◌, ◌||◌, List, [], ◌∷◌, ◌++◌, length, slice_get}
use Rattle.std.specs.Prelude.{slice_index_or, true, false, Option, Some, None, is_some, if◌then◌else◌}
use Rattle.std.specs.Prelude.{Result, Ok, Err}
use Rattle.std.specs.Global.{Vec}
use Rattle.std.specs.List.{list_any}
use Rattle.net_names.specs.Folding.{folded_bytes}
use Rattle.text_table.specs.Texts.{has_text, place_of}
use Rattle.spice_cards.specs.Parts.{Param}
use Rattle.fixed_num.specs.declared.femto.ValueFault.{ValueFault}
use Rattle.netlist_turn.specs.Scale.{is_unscaled, scaled, size_text}
use Rattle.netlist_turn.specs.Words.{has_escape, left_out, is_area_key, is_kept_key, is_size_key}
use Rattle.netlist_turn.specs.Words.{first_name, unquoted}
use Rattle.netlist_turn.specs.declared.scale.Factor.{Factor}
use Rattle.netlist_turn.specs.declared.rows.Row.{Row}
use Rattle.netlist_turn.specs.declared.made.Kind.{Kind}
use Rattle.netlist_turn.specs.declared.made.Kind.TheVariants.{Name, Value, Quotes, Parameter, Size}
use Rattle.netlist_turn.specs.declared.made.Where.{Where}
use Rattle.netlist_turn.specs.declared.settings.Settings.{Settings}

-- a change: the line of its card, what was changed, and the word that stood there
pub record Told : Type 0 where
  pub line : ℕ
  pub kind : Kind
  pub word : List ℕ

pub record Made : Type 0 where
  pub text : List ℕ
  pub lines : List ℕ
  pub told : List Told
  pub at : Where

abbrev pub writing : Made → List ℕ → Made
writing m text = record m { text = m.text ++ text }

abbrev pub telling : Made → ℕ → Kind → List ℕ → Made
telling m line kind word =
    record m { told = m.told ++ record { line = line; kind = kind; word = word } ∷ [] }

-- the word as it stands, and a blank; an escaped one is told
abbrev pub word_made : Made → ℕ → List ℕ → Made
word_made m line w =
    if has_escape w then telling (writing (writing m w) (0x20 ∷ [])) line Name w
    else writing (writing m w) (0x20 ∷ [])

-- a word is kept, or it is told what it was
abbrev pub word_or : Made → ℕ → List ℕ → Option Kind → Made
word_or m line w None = word_made m line w
word_or m line w (Some kind) = telling m line kind w

-- a card's words
abbrev pub words_made : Row → Made → ℕ → List (List ℕ) → Made
words_made row m line [] = m
words_made row m line (w ∷ ws) = words_made row (word_or m line w (left_out row w ws)) line ws

-- the value of a name that `.PARAM` defines stands for it
abbrev pub meant : List ℕ → Option (Vec ℕ) → List ℕ
meant plain None = plain
meant plain (Some text) = text.items

-- and is told
abbrev pub naming : Made → ℕ → List ℕ → Option (Vec ℕ) → Made
naming m line plain None = m
naming m line plain (Some text) = telling m line Value plain

abbrev pub unquoting : Made → ℕ → List ℕ → Made
unquoting m line v = if length (unquoted v) == length v then m else telling m line Quotes v

-- the value of the name that a text without quotes is, where `.PARAM` defines it
abbrev pub value_for : Settings → List ℕ → Option (Vec ℕ)
value_for s plain = slice_get s.values.items (place_of s.names (folded_bytes plain))

-- the scale, where there is one, once or twice
abbrev pub by_scale : Bool → Option ℕ → Option Factor
by_scale is_twice None = None
by_scale is_twice (Some scale) = Some (record { scale = scale; is_twice = is_twice })

-- for a length or an area
abbrev pub factor_at : Settings → Row → List ℕ → Option Factor
factor_at s row key =
    if is_size_key row key then by_scale false s.scale
    else if is_area_key row key then by_scale true s.scale
    else None

-- a size by the scale, told by its key
abbrev pub size_made : Made → ℕ → List ℕ → List ℕ → Factor → Result ℕ ValueFault → Made
size_made m line key text f (Ok n) = telling (writing m (size_text f n)) line Size key
size_made m line key text f (Err e) = writing m text

abbrev pub by_factor : Made → ℕ → List ℕ → List ℕ → Option Factor → Made
by_factor m line key text None = writing m text
by_factor m line key text (Some factor) = size_made m line key text factor (scaled factor text)

-- a value without quotes or braces, with a defined name's value in its place, and by the scale where it is a
-- size, and a blank
abbrev pub value_made : Settings → Row → Made → ℕ → Param → Made
value_made s row m line p =
    writing (by_factor
    (naming (unquoting m line p.value) line (unquoted p.value) (value_for s (unquoted p.value)))
    line p.key (meant (unquoted p.value) (value_for s (unquoted p.value)))
    (factor_at s row p.key)) (0x20 ∷ [])

-- a parameter is kept, or told
abbrev pub param_made : Settings → Row → Made → ℕ → Param → Made
param_made s row m line p =
    if is_kept_key (is_some s.scale) row p.key
    then value_made s row (writing (writing m p.key) (0x3D ∷ [])) line p
    else telling m line Parameter p.key

abbrev pub params_made : Settings → Row → Made → ℕ → List Param → Made
params_made s row m line [] = m
params_made s row m line (p ∷ ps) = params_made s row (param_made s row m line p) line ps

-- a line more, and the card's own
abbrev pub line_made : Made → ℕ → Made
line_made m line =
    record m { text = m.text ++ 0x0A ∷ []; lines = m.lines ++ line ∷ [] }

-- a card that is kept
abbrev pub card_made : Settings → Row → Made → ℕ → List ℕ → List (List ℕ) → List Param → Made
card_made s row m line first words ps =
    line_made (params_made s row (words_made row (word_made m line first) line words) line ps) line

-- a parameter's name is one that `.PARAM` defines
abbrev pub has_shadow : Settings → List Param → Bool
has_shadow s ps = list_any (λ p. has_text s.names (folded_bytes p.key)) ps

-- a size can't be turned by the scale
unfoldable pub is_stuck : Settings → Row → Param → Bool
is_stuck s row p =
    is_unscaled (factor_at s row p.key) (meant (unquoted p.value) (value_for s (unquoted p.value)))

abbrev pub has_stuck : Settings → Row → List Param → Bool
has_stuck s row ps = list_any (is_stuck s row) ps

-- the circuit's name is listed, or isn't among those that are kept
abbrev pub is_left : Settings → List (List ℕ) → Bool
is_left s words =
    has_text s.listed (folded_bytes (first_name words))
    || (not s.all && not (slice_index_or s.marks.items
    (place_of s.circuits (folded_bytes (first_name words))) false))
