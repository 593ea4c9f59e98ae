-- What is told of changes: a line for each card that is left out, then how often each other change
-- was made.
use Rattle.std.specs.Prelude.{ℕ, ◌+◌, ◌-◌, ◌^◌, ◌==◌, nat_lt, min, Bool, true, false, List, [], ◌∷◌}
use Rattle.std.specs.Prelude.{◌++◌, length, slice_index, slice_set, codes, Option, Some, None}
use Rattle.std.specs.Prelude.{if◌then◌else◌}
use Rattle.std.specs.Fmt.{decimal}
use Rattle.net_names.specs.Folding.{folded_bytes}
use Rattle.text_table.specs.Texts.{place_of, with_text}
use Rattle.netlist_join.specs.declared.files.File.{File}
use Rattle.netlist_join.specs.declared.join.Origin.{Origin}
use Rattle.netlist_turn.specs.Made.{Told}
use Rattle.netlist_turn.specs.declared.made.Kind.{Kind}
use Rattle.netlist_turn.specs.declared.made.Kind.TheVariants.{Card, Parameter, Slash, Params}
use Rattle.netlist_turn.specs.declared.made.Kind.TheVariants.{Value, Quotes, Name, Number}
use Rattle.netlist_turn.specs.declared.made.Kind.TheVariants.{Marked, Pins, Size, Device}
use Rattle.netlist_turn.specs.Scale.{micro_text}
use Rattle.netlist_run.specs.Places.{place_text, origin_of}

-- names, folded, in the order of their first sight, and how often each was seen
pub record Tally : Type 0 where
  pub names : List (List ℕ)
  pub counts : List ℕ

-- one more, up to what 64 bits hold
abbrev pub raised : ℕ → ℕ
raised n = min (n + 1) (2 ^ 64 - 1)

abbrev pub raised_at : List ℕ → ℕ → List ℕ
raised_at counts k =
    if nat_lt k (length counts) then slice_set counts k (raised (slice_index counts k))
    else counts ++ 1 ∷ []

-- a name seen once more
abbrev pub seen_once : Tally → List ℕ → Tally
seen_once t name = record {
  names = with_text t.names (folded_bytes name);
  counts = raised_at t.counts (place_of t.names (folded_bytes name));
}

-- the lines of cards that are left out, and the counts of the other changes
pub record Sums : Type 0 where
  pub cards : List ℕ
  pub parameters : Tally
  pub values : Tally
  pub sizes : Tally
  pub devices : Tally
  pub slashes : ℕ
  pub params : ℕ
  pub quotes : ℕ
  pub names : ℕ
  pub numbers : ℕ
  pub marked : ℕ
  pub pins : ℕ

-- `left out PATH line L WORD`
abbrev pub card_line : List File → List Origin → Told → List ℕ
card_line files origins t =
    codes "left out " ++ (place_text files (origin_of origins t.line) ++ (t.word ++ codes "\n"))

abbrev pub with_kind : List File → List Origin → Sums → Told → Kind → Sums
with_kind files origins s t Card = record s { cards = s.cards ++ card_line files origins t }
with_kind files origins s t Parameter = record s { parameters = seen_once s.parameters t.word }
with_kind files origins s t Value = record s { values = seen_once s.values t.word }
with_kind files origins s t Size = record s { sizes = seen_once s.sizes t.word }
with_kind files origins s t Device = record s { devices = seen_once s.devices t.word }
with_kind files origins s t Slash = record s { slashes = raised s.slashes }
with_kind files origins s t Params = record s { params = raised s.params }
with_kind files origins s t Quotes = record s { quotes = raised s.quotes }
with_kind files origins s t Name = record s { names = raised s.names }
with_kind files origins s t Number = record s { numbers = raised s.numbers }
with_kind files origins s t Marked = record s { marked = raised s.marked }
with_kind files origins s t Pins = record s { pins = raised s.pins }

abbrev pub sums_from : List File → List Origin → Sums → List Told → Sums
sums_from files origins s [] = s
sums_from files origins s (t ∷ ts) =
    sums_from files origins (with_kind files origins s t t.kind) ts

abbrev pub no_names : Tally
no_names = record { names = []; counts = [] }

abbrev pub no_sums : Sums
no_sums = record {
  cards = [];
  parameters = no_names;
  values = no_names;
  sizes = no_names;
  devices = no_names;
  slashes = 0;
  params = 0;
  quotes = 0;
  names = 0;
  numbers = 0;
  marked = 0;
  pins = 0;
}

-- ` N`, and the line's end
abbrev pub number_text : ℕ → List ℕ
number_text n = codes " " ++ (decimal n ++ codes "\n")

abbrev pub name_line : List ℕ → List ℕ → ℕ → List ℕ
name_line what name n = what ++ (codes " " ++ (name ++ number_text n))

-- a line for each name
abbrev pub tally_text : List ℕ → List (List ℕ) → List ℕ → List ℕ
tally_text what [] ns = []
tally_text what (name ∷ names) [] = name_line what name 0 ++ tally_text what names []
tally_text what (name ∷ names) (n ∷ ns) = name_line what name n ++ tally_text what names ns

-- a line where there is something to count
abbrev pub count_text : List ℕ → ℕ → List ℕ
count_text what n = if n == 0 then [] else what ++ number_text n

-- the scale, where there is one
abbrev pub scale_text : Option ℕ → List ℕ
scale_text None = []
scale_text (Some factor) = codes "scale " ++ (micro_text factor ++ codes "\n")

abbrev pub names_text : Sums → List ℕ
names_text s =
    tally_text (codes "parameter") s.parameters.names s.parameters.counts
    ++ (tally_text (codes "value") s.values.names s.values.counts
    ++ (tally_text (codes "scaled") s.sizes.names s.sizes.counts
    ++ tally_text (codes "device") s.devices.names s.devices.counts))

-- escaped names, numbers that were left out, cards on which `$` marks something, and calls that
-- name pins
abbrev pub words_text : Sums → List ℕ
words_text s =
    count_text (codes "backslashes") s.names ++ (count_text (codes "numbers") s.numbers
    ++ (count_text (codes "marked") s.marked ++ count_text (codes "$PINS") s.pins))

-- so many comments at the ends of lines, and the others
abbrev pub counts_text : ℕ → Sums → List ℕ
counts_text comments s =
    count_text (codes "comments") comments ++ (count_text (codes "slashes") s.slashes
    ++ (count_text (codes "PARAMS:") s.params ++ (count_text (codes "quotes") s.quotes
    ++ words_text s)))

-- the first line of the first file, where it is a title
abbrev pub title_text : Bool → List File → List ℕ
title_text true files =
    codes "left out " ++ (place_text files (record { file = 0; line = 1 }) ++ codes "title\n")
title_text false files = []

-- all that is told of changes, of so many comments, of the scale and of so many written cards
abbrev pub told_text : Bool → List File → List Origin → ℕ → Option ℕ → List Told → ℕ → List ℕ
told_text has_title files origins comments scale told cards =
    title_text has_title files ++ ((sums_from files origins no_sums told).cards
    ++ (scale_text scale ++ (names_text (sums_from files origins no_sums told)
    ++ (counts_text comments (sums_from files origins no_sums told)
    ++ (codes "written " ++ (decimal cards ++ codes " cards\n"))))))
