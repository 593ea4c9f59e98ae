-- The lines of files, one after another, with those of the files that they name in their places; or
-- the first that can't be joined.
use Rattle.std.specs.Prelude.{ℕ, zero, suc, ◌+◌, ◌-◌, ◌^◌, ◌==◌, ◌&&◌, min, Bool, true, false, List, [], ◌∷◌, ◌++◌}
use Rattle.std.specs.Prelude.{slice_get, Option, Some, None, Result, Ok, Err, string_bytes, if◌then◌else◌}
use Rattle.rule_lines.specs.Lines.{begins, lines_of}
use Rattle.netlist_lines.specs.Cleaning.{has_comment, with_line}
use Rattle.netlist_lines.specs.declared.cleaning.LineFault.{LineFault}
use Rattle.netlist_lines.specs.declared.cleaning.LineFault.TheVariants.{Open, Split}
use Rattle.netlist_join.specs.Directives.{Directive, Nothing, Include, Section, Bad, EndsFile, directive, without_blanks}
use Rattle.netlist_join.specs.Parts.{Taking, taking_of, takes, behind}
use Rattle.netlist_join.specs.Paths.{beside, find, text_of}
use Rattle.netlist_join.specs.declared.files.File.{File}
use Rattle.netlist_join.specs.declared.join.Origin.{Origin}
use Rattle.netlist_join.specs.declared.join.Why.{Why}
use Rattle.netlist_join.specs.declared.join.Why.TheVariants.{Absent, Deep, NoSection, BadForm, EarlyMore}
use Rattle.netlist_join.specs.declared.join.Why.TheVariants.{OpenQuotes, SplitText}
use Rattle.netlist_join.specs.declared.join.JoinFault.{JoinFault}
use Rattle.netlist_join.specs.declared.join.JoinFault.TheVariants.{At}

-- a text, where each of its lines came from, whether the next line is a title, whether no card
-- stands before it in its file or behind the file that was taken in last, and how many comments at
-- the ends of lines were left out
pub record Made : Type 0 where
  pub text : List ℕ
  pub origins : List Origin
  pub has_title : Bool
  pub is_fresh : Bool
  pub comments : ℕ

-- one more, up to what 64 bits hold
abbrev pub raised : ℕ → ℕ
raised n = min (n + 1) (2 ^ 64 - 1)

abbrev pub Outcome : Type 0
Outcome = Result Made JoinFault

abbrev pub and_then : Outcome → (Made → Outcome) → Outcome
and_then (Ok m) rest = rest m
and_then (Err e) rest = Err e

-- a line's end behind what it became
abbrev pub ended : Made → Origin → Made
ended m at = record m { text = m.text ++ 0x0A ∷ []; origins = m.origins ++ at ∷ [] }

-- behind a line without a card the next line is as fresh
abbrev pub has_card : List ℕ → Bool
has_card [] = false
has_card (b ∷ bytes) = if b == 0x2A then false else true

abbrev pub is_fresh_behind : Bool → List ℕ → Bool
is_fresh_behind fresh line = if has_card (without_blanks line) then false else fresh

-- why a line that is refused so can't be joined
abbrev pub why_of : LineFault → Why
why_of Open = OpenQuotes
why_of Split = SplitText

abbrev pub onto : Made → Origin → Result (List ℕ) LineFault → Outcome
onto m at (Err fault) = Err (At (why_of fault) at)
onto m at (Ok text) = Ok (ended (record m { text = text }) at)

-- behind a line
abbrev pub behind_line : Made → List ℕ → Made
behind_line m line = record m {
  is_fresh = is_fresh_behind m.is_fresh line;
  comments = if has_comment line then raised m.comments else m.comments;
}

-- a line, cleaned
abbrev pub shown : Made → List ℕ → Origin → Outcome
shown m line at =
    if m.is_fresh && begins 0x2B (without_blanks line) then Err (At EarlyMore at)
    else onto (behind_line m line) at (with_line m.text line)

-- a line; of a title nothing is left but its end
abbrev pub pushed : Made → List ℕ → Origin → Outcome
pushed m line at =
    if m.has_title then Ok (ended (record m { has_title = false }) at)
    else shown m line at

-- a file that is taken in, whole or a section of it
pub record Call : Type 0 where
  pub file : ℕ
  pub section : Option (List ℕ)

abbrev pub call_to : Option ℕ → Option (List ℕ) → Origin → Result (Option Call) JoinFault
call_to None section at = Err (At Absent at)
call_to (Some k) section at = Ok (Some (record { file = k; section = section }))

abbrev pub call_at : List File → Option (List ℕ) → Option (List ℕ) → Origin
    → Result (Option Call) JoinFault
call_at files None section at = Err (At BadForm at)
call_at files (Some path) section at = call_to (find path files) section at

-- the file of the path that a line names, which is text
abbrev pub call_in : List File → Option File → List ℕ → Option (List ℕ) → Origin
    → Result (Option Call) JoinFault
call_in files None path section at = Err (At Absent at)
call_in files (Some f) path section at =
    call_at files (text_of (beside (string_bytes f.path) path)) section at

-- the file that a line takes in
abbrev pub call_of : List File → Directive → Origin → Result (Option Call) JoinFault
call_of files (Include path) at = call_in files (slice_get files at.file) path None at
call_of files (Section path name) at = call_in files (slice_get files at.file) path (Some name) at
call_of files Bad at = Err (At BadForm at)
call_of files d at = Ok None

abbrev pub freshened : Made → Made
freshened m = record m { is_fresh = true }

abbrev pub taken_in : (Call → Origin → Made → Outcome) → Origin → Made
    → Result (Option Call) JoinFault → Outcome
taken_in inner at m (Err e) = Err e
taken_in inner at m (Ok None) = Ok m
taken_in inner at m (Ok (Some call)) = and_then (inner call at m) (λ next. Ok (freshened next))

-- a line says nothing of files where it is a title
abbrev pub said : Made → List ℕ → Directive
said m line = if m.has_title then Nothing else directive line

-- a line that is taken, and behind it the file that it takes in
abbrev pub line_joined : (Call → Origin → Made → Outcome) → List File → Directive → List ℕ
    → Origin → Made → Outcome
line_joined inner files d line at m =
    and_then (pushed m line at) (λ next. taken_in inner at next (call_of files d at))

abbrev pub line_if : Bool → (Call → Origin → Made → Outcome) → List File → Directive → List ℕ
    → Origin → Made → Outcome
line_if takes inner files d line at m = if takes then line_joined inner files d line at m else Ok m

abbrev pub next : Origin → Origin
next at = record at { line = raised at.line }

-- behind the last line of a file that is taken; a section that is asked for stands there
abbrev pub file_ended : Origin → Taking → Made → Outcome
file_ended by t m = if t.is_met then Ok m else Err (At NoSection by)

abbrev pub ends_file : Directive → Bool
ends_file EndsFile = true
ends_file d = false

-- the lines of a file behind one, in their order, up to its `.END`
abbrev pub lines_joined : (Call → Origin → Made → Outcome) → List File → Origin → Taking → Origin
    → List (List ℕ) → Made → Outcome
lines_joined inner files by t at [] m = file_ended by t m
lines_joined inner files by t at (line ∷ lines) m =
    and_then (line_if (takes t (said m line)) inner files (said m line) line (next at) m)
    (λ made. if ends_file (said m line) then file_ended by (behind t (said m line)) made
    else lines_joined inner files by (behind t (said m line)) (next at) lines made)

abbrev pub bytes_joined : (Call → Origin → Made → Outcome) → List File → Call → Origin
    → Option File → Made → Outcome
bytes_joined inner files call by None m = Err (At Absent by)
bytes_joined inner files call by (Some f) m =
    lines_joined inner files by (taking_of call.section) (record { file = call.file; line = 0 })
    (lines_of f.bytes.items) (freshened m)

-- a file that a line takes in, which may go so deep
abbrev pub file_joined : ℕ → List File → Call → Origin → Made → Outcome
file_joined zero files call by m = Err (At Deep by)
file_joined (suc depth) files call by m =
    bytes_joined (file_joined depth files) files call by (slice_get files call.file) m

-- how deep files may take in others
abbrev pub most_deep : ℕ
most_deep = 32

-- so many files from number k on, each whole
abbrev pub all_joined : ℕ → List File → ℕ → Made → Outcome
all_joined zero files k m = Ok m
all_joined (suc n) files k m =
    and_then (file_joined most_deep files (record { file = k; section = None })
    (record { file = k; line = 0 }) m)
    (λ next. all_joined n files (k + 1) next)

-- the first files, with or without a title in the first line
abbrev pub joined : List File → ℕ → Bool → Outcome
joined files count has_title =
    all_joined count files 0
    (record { text = []; origins = []; has_title = has_title; is_fresh = true; comments = 0 })
