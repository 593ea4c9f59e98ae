-- No line is refused for a file that isn't there, where all that is asked for was loaded.
use Rattle.std.proofs.Common.{◌≡◌, ◌<◌, ◌≤◌, ◌+◌, ℕ, zero, suc, Bool, true, false, List, [], ◌∷◌, ◌++◌, Option, Some, None, Result, Ok, Err, length, refl, sym, ◌∙◌, ap, subst, arith, get_or, slice_get, rules}
use Rattle.std.proofs.lemmas.Bool.{and_parts}
use Rattle.std.proofs.lemmas.Option.{slice_get-get_or}
use Rattle.std.proofs.lemmas.List.Folds.{list_all-append}
use Rattle.std.specs.Prelude.{string_bytes, nat_lt, not, cond, ◌&&◌, ◌||◌, if◌then◌else◌}
use Rattle.std.specs.List.{list_all, list_any, position, position_or_len}
use Rattle.std.specs.Option.{option_to_list}
use Rattle.std.specs.Str.{bytes_eq}
use Rattle.rule_lines.specs.Lines.{begins, lines_of}
use Rattle.netlist_lines.specs.Cleaning.{with_line}
use Rattle.netlist_lines.specs.declared.cleaning.LineFault.{LineFault}
use Rattle.netlist_lines.specs.declared.cleaning.LineFault.TheVariants.{Open, Split}
use Rattle.netlist_join.specs.Directives.{Directive, Nothing, Include, Section, Begins, Ends, EndsFile, Bad, directive, without_blanks}
use Rattle.netlist_join.specs.JoinLaw.{AllThereLaw, IsPresent}
use Rattle.netlist_join.specs.Joining.{Call, Made, Outcome, all_joined, and_then, bytes_joined, call_at, call_in, call_of, call_to, behind_line, ended, ends_file, file_ended, file_joined, freshened, joined, line_if, line_joined, lines_joined, most_deep, next, onto, pushed, said, shown, taken_in}
use Rattle.netlist_join.specs.Loaded.{has_path, paths_of, StartsWith}
use Rattle.netlist_join.specs.Named.{AreAsked, all_named, asked, named, named_by, named_in}
use Rattle.netlist_join.specs.Parts.{Taking, taking_of, takes, behind}
use Rattle.netlist_join.specs.Paths.{beside, find, text_of}
use Rattle.netlist_join.specs.declared.files.File.{File}
use Rattle.netlist_join.specs.declared.join.Origin.{Origin}
use Rattle.netlist_join.specs.declared.join.JoinFault.{JoinFault}
use Rattle.netlist_join.specs.declared.join.JoinFault.TheVariants.{At}
use Rattle.netlist_join.specs.declared.join.Why.TheVariants.{EarlyMore, NoSection}
use Rattle.netlist_join.proofs.LoadedLemmas.{any_path, length_starts, paths_length}
use Rattle.netlist_join.proofs.NamedLemmas.{has_more}

IsOut : Outcome → Type 0
IsOut (Ok m) = Unit {0}
IsOut (Err e) = IsPresent e

IsThere : List File → Result (Option Call) JoinFault → Type 0
IsThere files (Err e) = IsPresent e
IsThere files (Ok None) = Unit {0}
IsThere files (Ok (Some c)) = (f : File) × (slice_get files c.file ≡ Some f)

-- all that a loaded file names is loaded
AllThere : List File → Type 0
AllThere files = list_all (λ p. has_path (paths_of files) p) (all_named files) ≡ true

out_then : (o : Outcome) (rest : Made → Outcome) → IsOut o → ((m : Made) → IsOut (rest m)) → IsOut (and_then o rest)
unfolding IsOut
out_then (Ok m) rest h g = g m
out_then (Err e) rest h g = h

-- ---- a line

onto_out : (m : Made) (at : Origin) (o : Result (List ℕ) LineFault) → IsOut (onto m at o)
unfolding IsOut
onto_out m at (Err Open) = tt
onto_out m at (Err Split) = tt
onto_out m at (Ok text) = tt

if_out : (b : Bool) (x y : Outcome) → IsOut x → IsOut y → IsOut (if b then x else y)
if_out true x y h g = h
if_out false x y h g = g

shown_out : (m : Made) (line : List ℕ) (at : Origin) → IsOut (shown m line at)
unfolding IsOut
shown_out m line at =
    if_out (m.is_fresh && begins 0x2B (without_blanks line)) (Err (At EarlyMore at)) (onto (behind_line m line) at (with_line m.text line)) tt
    (onto_out (behind_line m line) at (with_line m.text line))

pushed_out : (m : Made) (line : List ℕ) (at : Origin) → IsOut (pushed m line at)
unfolding IsOut
pushed_out m line at = if_out m.has_title (Ok (ended (record m { has_title = false }) at)) (shown m line at) tt (shown_out m line at)

-- ---- the file that a line takes in

place_if : {X : Type 0} (p : X → Bool) (x : X) (xs : List X) (b : Bool) → p x ≡ b → (list_any p xs ≡ true → position_or_len p xs < length xs) → (b || list_any p xs) ≡ true
    → position_or_len p (x ∷ xs) < length (x ∷ xs)
place_if p x xs true h ih e = let z : position_or_len p (x ∷ xs) ≡ 0 = ap (λ (b : Bool). cond (not b) (1 + position_or_len p xs) 0) h in omega (arith, z)
place_if p x xs false h ih e = let z : position_or_len p (x ∷ xs) ≡ 1 + position_or_len p xs = ap (λ (b : Bool). cond (not b) (1 + position_or_len p xs) 0) h in let lt = ih e in omega (arith, z, lt)

any_place : {X : Type 0} (p : X → Bool) (xs : List X) → list_any p xs ≡ true → position_or_len p xs < length xs
any_place p [] e = absurd cc
any_place p (x ∷ xs) e = place_if p x xs (p x) refl (any_place p xs) e

-- a path that is there has the number of a file
found : (files : List File) (path : List ℕ) (section : Option (List ℕ)) (at : Origin) → has_path (paths_of files) path ≡ true → IsThere files (call_to (find path files) section at)
unfolding IsThere
found files path section at e =
    let lt : position_or_len (λ (f : File). bytes_eq (string_bytes f.path) path) files < length files = any_place (λ (f : File). bytes_eq (string_bytes f.path) path) files (sym (any_path files path) ∙ e) in
    let some : find path files ≡ Some (position_or_len (λ (f : File). bytes_eq (string_bytes f.path) path) files) = search (rules, lt) in
    subst (λ (o : Option ℕ). IsThere files (call_to o section at)) (sym some) (found_at files (position_or_len (λ (f : File). bytes_eq (string_bytes f.path) path) files) lt)
  where
    found_at : (xs : List File) (k : ℕ) → k < length xs → (f : File) × (slice_get xs k ≡ Some f)
    found_at [] k lt = absurd (omega (arith, lt))
    found_at (f ∷ xs) k lt = (get_or (f ∷ xs) k f, slice_get-get_or (f ∷ xs) k f lt)

-- a path that a line names is there
AreThere : List File → Option (List ℕ) → Type 0
AreThere files o = list_all (λ p. has_path (paths_of files) p) (option_to_list o) ≡ true

at_there : (files : List File) (o section : Option (List ℕ)) (at : Origin) → AreThere files o → IsThere files (call_at files o section at)
unfolding IsThere AreThere
at_there files None section at h = tt
at_there files (Some path) section at h = found files path section at ((and_parts (has_path (paths_of files) path) true h).0)

in_there : (files : List File) (o : Option File) (f : File) (path : List ℕ) (section : Option (List ℕ)) (at : Origin) → o ≡ Some f → AreThere files (text_of (beside (string_bytes f.path) path))
    → IsThere files (call_in files o path section at)
in_there files o f path section at e h =
    subst (λ (x : Option File). IsThere files (call_in files x path section at)) (sym e) (at_there files (text_of (beside (string_bytes f.path) path)) section at h)

call_there : (files : List File) (f : File) (d : Directive) (at : Origin) → slice_get files at.file ≡ Some f → AreThere files (named_by (string_bytes f.path) d) → IsThere files (call_of files d at)
unfolding IsThere
call_there files f (Include path) at e h = in_there files (slice_get files at.file) f path None at e h
call_there files f (Section path name) at e h = in_there files (slice_get files at.file) f path (Some name) at e h
call_there files f Nothing at e h = tt
call_there files f (Begins name) at e h = tt
call_there files f Ends at e h = tt
call_there files f EndsFile at e h = tt
call_there files f Bad at e h = tt

-- what a line says names no more where it may be a title
said_there : (files : List File) (file line : List ℕ) (b : Bool) → AreThere files (named_by file (directive line)) → AreThere files (named_by file (if b then Nothing else directive line))
unfolding AreThere
said_there files file line true h = refl
said_there files file line false h = h

-- ---- the lines of a file

-- calls to files that are there come out
InnerOut : List File → (Call → Origin → Made → Outcome) → Type 0
InnerOut files inner = (c : Call) (f : File) (at : Origin) (m : Made) → slice_get files c.file ≡ Some f → IsOut (inner c at m)

taken_out : (files : List File) (inner : Call → Origin → Made → Outcome) (at : Origin) (m : Made) (r : Result (Option Call) JoinFault) → InnerOut files inner → IsThere files r → IsOut (taken_in inner at m r)
unfolding IsOut IsThere InnerOut
taken_out files inner at m (Err e) ok h = h
taken_out files inner at m (Ok None) ok h = tt
taken_out files inner at m (Ok (Some c)) ok h = out_then (inner c at m) (λ next. Ok (freshened next)) (ok c h.0 at m h.1) (λ next. tt)

line_out : (files : List File) (f : File) (inner : Call → Origin → Made → Outcome) (b : Bool) (d : Directive) (line : List ℕ) (at : Origin) (m : Made) → InnerOut files inner → slice_get files at.file ≡ Some f
    → AreThere files (named_by (string_bytes f.path) d) → IsOut (line_if b inner files d line at m)
unfolding IsOut
line_out files f inner false d line at m ok e h = tt
line_out files f inner true d line at m ok e h =
    out_then (pushed m line at) (λ next. taken_in inner at next (call_of files d at)) (pushed_out m line at)
    (λ next. taken_out files inner at next (call_of files d at) ok (call_there files f d at e h))

ended_out : (by : Origin) (t : Taking) (m : Made) → IsOut (file_ended by t m)
unfolding IsOut
ended_out by t m = if_out t.is_met (Ok m) (Err (At NoSection by)) tt tt

lines_out : (files : List File) (f : File) (inner : Call → Origin → Made → Outcome) (by : Origin) (t : Taking) (at : Origin) (lines : List (List ℕ)) (m : Made) → InnerOut files inner
    → slice_get files at.file ≡ Some f → list_all (λ p. has_path (paths_of files) p) (named_in (string_bytes f.path) lines) ≡ true → IsOut (lines_joined inner files by t at lines m)
unfolding IsOut AreThere
lines_out files f inner by t at [] m ok e h = ended_out by t m
lines_out files f inner by t at (line ∷ lines) m ok e h =
    let both = and_parts (list_all (λ p. has_path (paths_of files) p) (option_to_list (named_by (string_bytes f.path) (directive line)))) (list_all (λ p. has_path (paths_of files) p) (named_in (string_bytes f.path) lines))
    (sym (list_all-append (λ p. has_path (paths_of files) p) (option_to_list (named_by (string_bytes f.path) (directive line))) (named_in (string_bytes f.path) lines)) ∙ h) in
    out_then (line_if (takes t (said m line)) inner files (said m line) line (next at) m) (λ made. if ends_file (said m line) then file_ended by (behind t (said m line)) made else lines_joined inner files by (behind t (said m line)) (next at) lines made)
    (line_out files f inner (takes t (said m line)) (said m line) line (next at) m ok e (said_there files (string_bytes f.path) line m.has_title both.0))
    (λ made. if_out (ends_file (said m line)) (file_ended by (behind t (said m line)) made) (lines_joined inner files by (behind t (said m line)) (next at) lines made)
    (ended_out by (behind t (said m line)) made) (lines_out files f inner by (behind t (said m line)) (next at) lines made ok e both.1))

-- what a loaded file names is there
named_there : (all files : List File) (k : ℕ) (f : File) → list_all (λ p. has_path (paths_of all) p) (all_named files) ≡ true → slice_get files k ≡ Some f → list_all (λ p. has_path (paths_of all) p) (named f) ≡ true
named_there all [] k f h e = absurd cc
named_there all (g ∷ files) k f h e =
    let both = and_parts (list_all (λ p. has_path (paths_of all) p) (named g)) (list_all (λ p. has_path (paths_of all) p) (all_named files))
    (sym (list_all-append (λ p. has_path (paths_of all) p) (named g) (all_named files)) ∙ h) in
    by_number k e both.0 both.1 (λ j e. named_there all files j f both.1 e)
  where
    by_number : (k : ℕ) → slice_get (g ∷ files) k ≡ Some f → list_all (λ p. has_path (paths_of all) p) (named g) ≡ true → list_all (λ p. has_path (paths_of all) p) (all_named files) ≡ true
        → ((j : ℕ) → slice_get files j ≡ Some f → list_all (λ p. has_path (paths_of all) p) (named f) ≡ true) → list_all (λ p. has_path (paths_of all) p) (named f) ≡ true
    by_number zero e here there ih = let same : g ≡ f = cc in subst (λ (x : File). list_all (λ p. has_path (paths_of all) p) (named x) ≡ true) same here
    by_number (suc j) e here there ih = ih j e

file_out : (files : List File) → list_all (λ p. has_path (paths_of files) p) (all_named files) ≡ true → (depth : ℕ) → InnerOut files (file_joined depth files)
unfolding IsOut InnerOut
file_out files there zero c f at m e = tt
file_out files there (suc depth) c f at m e =
    subst (λ (o : Option File). IsOut (bytes_joined (file_joined depth files) files c at o m)) (sym e)
    (lines_out files f (file_joined depth files) at (taking_of c.section) (record { file = c.file; line = 0 }) (lines_of f.bytes.items) (freshened m) (file_out files there depth) e
    (named_there files files c.file f there e))

all_out : (files : List File) → list_all (λ p. has_path (paths_of files) p) (all_named files) ≡ true → (n k : ℕ) (m : Made) → k + n ≤ length files → IsOut (all_joined n files k m)
unfolding IsOut InnerOut
all_out files there zero k m le = tt
all_out files there (suc n) k m le =
    out_then (file_joined most_deep files (record { file = k; section = None }) (record { file = k; line = 0 }) m) (λ next. all_joined n files (k + 1) next)
    (at_number files k (omega (arith, le)) (λ f e. file_out files there most_deep (record { file = k; section = None }) f (record { file = k; line = 0 }) m e))
    (λ next. all_out files there n (k + 1) next (omega (arith, le)))
  where
    at_number : (xs : List File) (k : ℕ) → k < length xs → ((f : File) → slice_get xs k ≡ Some f → IsOut (file_joined most_deep files (record { file = k; section = None }) (record { file = k; line = 0 }) m))
        → IsOut (file_joined most_deep files (record { file = k; section = None }) (record { file = k; line = 0 }) m)
    at_number [] k lt h = absurd (omega (arith, lt))
    at_number (f ∷ xs) k lt h = h (get_or (f ∷ xs) k f) (slice_get-get_or (f ∷ xs) k f lt)

present : (e : JoinFault) → IsOut (Err e) → IsPresent e
unfolding IsOut
present e h = h

pub all_there : AllThereLaw
all_there inputs files has_title e a starts is =
    let le : length inputs ≤ length files = subst (λ (n : ℕ). length inputs ≤ n) (paths_length files) (length_starts inputs (paths_of files) starts) in
    let there = and_parts (list_all (λ p. has_path (paths_of files) p) inputs) (list_all (λ p. has_path (paths_of files) p) (all_named files))
    (sym (list_all-append (λ p. has_path (paths_of files) p) inputs (all_named files)) ∙ a.there) in
    present e (subst (λ (o : Outcome). IsOut o) is (all_out files there.1 (length inputs) 0 (record { text = []; origins = []; has_title = has_title; is_fresh = true; comments = 0 }) (omega (arith, le))))
