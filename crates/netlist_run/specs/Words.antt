-- What the words of the program ask for.
use Rattle.std.specs.Prelude.{◌≡◌, ℕ, ◌==◌, not, nat_lt, Bool, true, false, ◌||◌, List, [], ◌∷◌}
use Rattle.std.specs.Prelude.{◌++◌, length, map, Option, Some, None, is_none, codes, string_bytes}
use Rattle.std.specs.Prelude.{if◌then◌else◌}
use Rattle.std.specs.List.{position_or_len, before_first, after_first}
use Rattle.std.specs.Borrow.{Bor}
use Rattle.std.specs.Option.{option_map}
use Rattle.std.specs.Str.{bytes_eq}
use Rattle.netlist_turn.specs.Scale.{scale_of}
use Rattle.netlist_run.specs.declared.plan.Choices.{Choices}
use Rattle.netlist_join.specs.Loaded.{has_path, has_twins}
use Rattle.netlist_run.specs.declared.words.Command.{Command}
use Rattle.netlist_run.specs.declared.words.Reading.{Reading}
use Rattle.netlist_run.specs.declared.words.Flag.{Flag}
use Rattle.netlist_run.specs.declared.words.Flag.TheVariants.{Out, Top, Title, Capacitors}
use Rattle.netlist_run.specs.declared.words.Flag.TheVariants.{Resistors, Scale}

-- the paths of the inputs and of the output, the circuit that is kept with what it calls, whether the
-- first line is a title, and what is chosen
pub record Asked : Type 0 where
  pub inputs : List (List ℕ)
  pub out : Option (List ℕ)
  pub top : Option (List ℕ)
  pub has_title : Bool
  pub choices : Choices

-- what the words so far ask for, and the option whose value comes next
pub record Words : Type 0 where
  pub asked : Asked
  pub pending : Option Flag

abbrev pub nothing : Words
nothing = record {
  asked = record {
    inputs = [];
    out = None;
    top = None;
    has_title = false;
    choices = record { capacitors = false; resistors = false; scale = None };
  };
  pending = None;
}

-- a value isn't empty and doesn't begin with `-`
abbrev pub is_value : List ℕ → Bool
is_value [] = false
is_value (b ∷ word) = not (b == 0x2D)

abbrev pub flag_of : List ℕ → Option Flag
flag_of word =
    if bytes_eq word (codes "--out") then Some Out
    else if bytes_eq word (codes "--top") then Some Top
    else if bytes_eq word (codes "--title") then Some Title
    else if bytes_eq word (codes "--drop-capacitors") then Some Capacitors
    else if bytes_eq word (codes "--drop-resistors") then Some Resistors
    else if bytes_eq word (codes "--scale") then Some Scale
    else None

abbrev pub with_out : Words → List ℕ → Option (List ℕ) → Option Words
with_out w value None =
    Some (record { asked = record w.asked { out = Some value }; pending = None })
with_out w value (Some out) = None

abbrev pub with_top : Words → List ℕ → Option (List ℕ) → Option Words
with_top w value None =
    Some (record { asked = record w.asked { top = Some value }; pending = None })
with_top w value (Some top) = None

abbrev pub with_choices : Words → Choices → Words
with_choices w choices = record w { asked = record w.asked { choices = choices } }

abbrev pub with_scale : Words → Option ℕ → Option ℕ → Option Words
with_scale w None old = None
with_scale w (Some factor) (Some old) = None
with_scale w (Some factor) None =
    Some (record (with_choices w (record w.asked.choices { scale = Some factor })) {
      pending = None;
    })

-- an option's value, which had none before
abbrev pub keeping : Words → Flag → List ℕ → Option Words
keeping w Out value = with_out w value w.asked.out
keeping w Top value = with_top w value w.asked.top
keeping w Scale value = with_scale w (scale_of value) w.asked.choices.scale
keeping w flag value = None

abbrev pub kept : Words → Flag → List ℕ → Option Words
kept w flag value = if is_value value then keeping w flag value else None

-- an option that wasn't there before
abbrev pub once : Bool → Words → Option Words
once was w = if was then None else Some w

-- an option alone: its value comes next, or it has none
abbrev pub with_flag : Words → Option Flag → Option Words
with_flag w None = None
with_flag w (Some Out) = Some (record w { pending = Some Out })
with_flag w (Some Top) = Some (record w { pending = Some Top })
with_flag w (Some Scale) = Some (record w { pending = Some Scale })
with_flag w (Some Title) =
    once w.asked.has_title (record w { asked = record w.asked { has_title = true } })
with_flag w (Some Capacitors) =
    once w.asked.choices.capacitors
    (with_choices w (record w.asked.choices { capacitors = true }))
with_flag w (Some Resistors) =
    once w.asked.choices.resistors
    (with_choices w (record w.asked.choices { resistors = true }))

-- `name=value`
abbrev pub with_parts : Words → Option Flag → List ℕ → Option Words
with_parts w None value = None
with_parts w (Some flag) value = kept w flag value

abbrev pub has_equals : List ℕ → Bool
has_equals word = nat_lt (position_or_len (λ b. b == 0x3D) word) (length word)

-- what stands before the first `=`, and behind it
abbrev pub AreParts : List ℕ → Option (Bor (List ℕ) × Bor (List ℕ)) → Type 0
AreParts word None = has_equals word ≡ false
AreParts word (Some p) = (has_equals word ≡ true)
    × (p.0.now ≡ before_first (λ b. b == 0x3D) word)
    × (p.1.now ≡ after_first (λ b. b == 0x3D) word)

abbrev pub with_option : Words → List ℕ → Option Words
with_option w word =
    if has_equals word
    then with_parts w (flag_of (before_first (λ b. b == 0x3D) word))
    (after_first (λ b. b == 0x3D) word)
    else with_flag w (flag_of word)

abbrev pub with_input : Words → List ℕ → Words
with_input w word =
    record w { asked = record w.asked { inputs = w.asked.inputs ++ word ∷ [] } }

abbrev pub with_pending : Words → Option Flag → List ℕ → Option Words
with_pending w (Some flag) word = kept w flag word
with_pending w None word =
    if is_value word then Some (with_input w word) else with_option w word

-- a word more; none where it can't stand there
abbrev pub with_word : Words → List ℕ → Option Words
with_word w word = with_pending w w.pending word

abbrev pub and_then : Option Words → (Words → Option Words) → Option Words
and_then None rest = None
and_then (Some w) rest = rest w

abbrev pub with_words : Words → List (List ℕ) → Option Words
with_words w [] = Some w
with_words w (word ∷ words) = and_then (with_word w word) (λ next. with_words next words)

abbrev pub is_empty : List (List ℕ) → Bool
is_empty [] = true
is_empty (p ∷ ps) = false

-- no value is missing, and one input or more and an output are named
abbrev pub whole : Option Words → Option Asked
whole None = None
whole (Some w) =
    if not (is_none w.pending) || is_empty w.asked.inputs || is_none w.asked.out then None
    else Some w.asked

-- what the words ask for, none where they ask for nothing
abbrev pub asked : List (List ℕ) → Option Asked
asked words = whole (with_words nothing words)

-- an input stands twice, or is the output
abbrev pub is_same : Asked → List ℕ → Bool
is_same a out = has_path a.inputs out || has_twins a.inputs

-- what the code's records are
abbrev pub asked_seen : Command → Asked
asked_seen c = record {
  inputs = map string_bytes c.inputs.items;
  out = option_map string_bytes c.out;
  top = option_map string_bytes c.top;
  has_title = c.has_title;
  choices = c.choices;
}

abbrev pub words_seen : Reading → Words
words_seen r = record { asked = asked_seen r.command; pending = r.pending }
