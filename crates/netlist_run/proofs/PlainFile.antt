-- A file of plain lines is joined to a text with its cards.
use Rattle.std.proofs.Common.{◌≡◌, inl, inr, ℕ, ◌+◌, ◌==◌, ◌&&◌, ◌||◌, Bool, true, false, List, [], ◌∷◌, ◌++◌, map, length, Option, Some, None, Result, Ok, Err, refl, sym, ap, subst, ◌∙◌, append_assoc}
use Rattle.std.specs.Prelude.{if◌then◌else◌, not}
use Rattle.std.proofs.lemmas.Bool.{and_parts, eqb-true, not-true, or_parts}
use Rattle.std.proofs.lemmas.List.{append-nil}
use Rattle.std.proofs.lemmas.List.Folds.{list_any-append}
use Rattle.plain_netlist.specs.Netlist.{Netlist}
use Rattle.rule_lines.proofs.LineLemmas.{Lacks, ended as line_ended}
use Rattle.rule_lines.specs.Lines.{begins, chopped, lines_of, onto_first}
use Rattle.spice_cards.specs.Cards.{before, Card, cards_of, Cut, cut, early_more, early_more_in, is_more, is_passed}
use Rattle.spice_cards.specs.Tokens.{is_blank}
use Rattle.spice_rows.specs.Sizes.{read_limit}
use Rattle.spice_text.specs.Gather.{early_or, no_cards, reading}
use Rattle.spice_text.specs.Means.{Means}
use Rattle.netlist_lines.specs.Cleaning.{cleaned, with_line}
use Rattle.netlist_lines.specs.declared.cleaning.LineFault.{LineFault}
use Rattle.netlist_lines.specs.Names.{has_special, is_special, PlainLineLaw}
use Rattle.netlist_lines.specs.declared.cleaning.At.TheVariants.{Before}
use Rattle.netlist_join.specs.Directives.{Directive, directive, EndsFile, Nothing, without_blanks}
use Rattle.netlist_join.specs.Joining.{and_then, behind_line, call_of, Call, ended, ends_file, file_ended, file_joined, joined, line_if, lines_joined, Made, most_deep, next, onto, Outcome, pushed, said, shown, taken_in}
use Rattle.netlist_join.specs.Parts.{behind, Taking, takes, taking_of}
use Rattle.netlist_join.specs.declared.files.File.{File}
use Rattle.netlist_join.specs.declared.join.JoinFault.{JoinFault}
use Rattle.netlist_join.specs.declared.join.JoinFault.TheVariants.{At}
use Rattle.netlist_join.specs.declared.join.Origin.{Origin}
use Rattle.netlist_join.specs.declared.join.Why.TheVariants.{EarlyMore}
use Rattle.netlist_turn.specs.Words.{has_escape}
use Rattle.netlist_join.specs.Seen.{seen}
use Rattle.netlist_run.specs.Kept.{EndsLast, KeptNetlistLaw}
use Rattle.netlist_run.specs.Plain.{ArePlain, KeptFileLaw, PlainFileLaw, stays}

-- ---- what is left of a line

abbrev kept : List ℕ → List ℕ
kept [] = []
kept (b ∷ bytes) = if b == 0x2A then [] else b ∷ bytes

abbrev body : List (List ℕ) → List ℕ
body [] = []
body (line ∷ lines) = kept line ++ 0x0A ∷ body lines

some_same : (a b : List ℕ) → a ≡ b → (let x : Result (List ℕ) LineFault = Ok a in x) ≡ Ok b
some_same a b e = ap (λ (t : List ℕ). let x : Result (List ℕ) LineFault = Ok t in x) e

-- a comment line, behind which nothing is left
comment : (text bytes : List ℕ) (b : ℕ) → b ≡ 0x2A → with_line text (b ∷ bytes) ≡ Ok text
comment text bytes b e = subst (λ (c : ℕ). with_line text (c ∷ bytes) ≡ Ok text) (sym e) refl

more_or_not : (q : Bool) (law : PlainLineLaw) (text bytes : List ℕ) (b : ℕ) → has_special (b ∷ bytes) ≡ false
    → (if q then cleaned (text ++ b ∷ []) Before bytes else cleaned text Before (b ∷ bytes)) ≡ Ok (text ++ b ∷ bytes)
more_or_not true law text bytes b h =
    law (text ++ b ∷ []) bytes (or_parts (is_special b) (has_special bytes) h).1 ∙ some_same ((text ++ b ∷ []) ++ bytes) (text ++ b ∷ bytes) (append_assoc text (b ∷ []) bytes)
more_or_not false law text bytes b h = law text (b ∷ bytes) h

words_by : (p q r : Bool) (law : PlainLineLaw) (text bytes : List ℕ) (o : Result (List ℕ) LineFault) (b : ℕ) → p ≡ false → q ≡ false → has_special (b ∷ bytes) ≡ false
    → (if p then o else if q then (let x : Result (List ℕ) LineFault = Ok text in x) else if r then cleaned (text ++ b ∷ []) Before bytes else cleaned text Before (b ∷ bytes))
    ≡ Ok (text ++ (if q then [] else b ∷ bytes))
words_by true q r law text bytes o b e f h = absurd (let z : ⊥ = cc in z)
words_by false true r law text bytes o b e f h = absurd (let z : ⊥ = cc in z)
words_by false false r law text bytes o b e f h = more_or_not r law text bytes b h

line_by : (q : Bool) (law : PlainLineLaw) (text bytes : List ℕ) (b : ℕ) → (b == 0x2A) ≡ q → (q || (not (is_blank b) && not (has_special (b ∷ bytes)))) ≡ true
    → with_line text (b ∷ bytes) ≡ Ok (text ++ (if q then [] else b ∷ bytes))
line_by true law text bytes b e h = comment text bytes b (eqb-true b 0x2A e) ∙ some_same text (text ++ []) (sym (append-nil text))
line_by false law text bytes b e h =
    let parts = and_parts (not (is_blank b)) (not (has_special (b ∷ bytes))) h in
    let by = words_by (is_blank b) (b == 0x2A) (b == 0x2B) law text bytes (with_line text bytes) b (not-true (is_blank b) parts.0) e (not-true (has_special (b ∷ bytes)) parts.1) in
    by ∙ ap (λ (t : Bool). let x : Result (List ℕ) LineFault = Ok (text ++ (if t then [] else b ∷ bytes)) in x) e

plain_with : (law : PlainLineLaw) (text line : List ℕ) → stays line ≡ true → with_line text line ≡ Ok (text ++ kept line)
plain_with law text [] h = some_same text (text ++ []) (sym (append-nil text))
plain_with law text (b ∷ bytes) h = line_by (b == 0x2A) law text bytes b refl h

-- ---- what is joined

record Split (o : Outcome) (rest : Made → Outcome) (r : Made) : Type 0 where
  made : Made
  first : o ≡ Ok made
  second : rest made ≡ Ok r

no_ok : {A : Type 0} (e : JoinFault) (r : Made) → (let o : Outcome = Err e in o) ≡ Ok r → A
no_ok e r h = absurd (let z : ⊥ = cc in z)

ok_is : (m r : Made) → (let o : Outcome = Ok m in o) ≡ Ok r → m ≡ r
ok_is m r h = cc

split : (o : Outcome) (rest : Made → Outcome) (r : Made) → and_then o rest ≡ Ok r → Split o rest r
split (Ok m) rest r h = record { made = m; first = refl; second = h }
split (Err e) rest r h = no_ok e r h

not_taken : (t : Bool) (a b : Outcome) (r : Made) → t ≡ false → (if t then a else b) ≡ Ok r → b ≡ Ok r
not_taken true a b r e h = absurd (let z : ⊥ = cc in z)
not_taken false a b r e h = h

not_early : (t : Bool) (e : JoinFault) (o : Outcome) (r : Made) → (if t then (let x : Outcome = Err e in x) else o) ≡ Ok r → o ≡ Ok r
not_early true e o r h = no_ok e r h
not_early false e o r h = h

record IsOnto (text : List ℕ) (r : Made) : Type 0 where
  is : r.text ≡ text ++ 0x0A ∷ []
  untitled : r.has_title ≡ false

-- a plain line and its end stand behind a text
line_on : (law : PlainLineLaw) (m r : Made) (line : List ℕ) (at : Origin) → m.has_title ≡ false → stays line ≡ true → pushed m line at ≡ Ok r → IsOnto (m.text ++ kept line) r
line_on law m r line at untitled plain h =
    let shows = not_taken m.has_title (Ok (ended (record m { has_title = false }) at)) (shown m line at) r untitled h in
    let puts = not_early (m.is_fresh && begins 0x2B (without_blanks line)) (At EarlyMore at) (onto (behind_line m line) at (with_line m.text line)) r shows in
    let whole = subst (λ (o : Result (List ℕ) LineFault). onto (behind_line m line) at o ≡ Ok r) (plain_with law m.text line plain) puts in
    let same = ok_is (ended (record (behind_line m line) { text = m.text ++ kept line }) at) r whole in
    record { is = sym (ap (λ (x : Made). x.text) same); untitled = sym (ap (λ (x : Made). x.has_title) same) ∙ untitled }

abbrev all : Taking
all = taking_of None

body_on : (a b : List ℕ) (more : List ℕ) → (a ++ b) ++ 0x0A ∷ more ≡ a ++ (b ++ 0x0A ∷ more)
body_on a b more = append_assoc a b (0x0A ∷ more)

one_end : (a more : List ℕ) → (a ++ 0x0A ∷ []) ++ more ≡ a ++ 0x0A ∷ more
one_end a more = append_assoc a (0x0A ∷ []) more

-- a line that says nothing of files, or ends its own
record IsTaken (m : Made) (line : List ℕ) (next : Made) : Type 0 where
  is : next.text ≡ (m.text ++ kept line) ++ 0x0A ∷ []
  untitled : next.has_title ≡ false

taken : (law : PlainLineLaw) (inner : Call → Origin → Made → Outcome) (files : List File) (d : Directive) (m r : Made) (line : List ℕ) (at : Origin) → call_of files d at ≡ Ok None → m.has_title ≡ false → stays line ≡ true
    → and_then (pushed m line at) (λ made. taken_in inner at made (call_of files d at)) ≡ Ok r → IsTaken m line r
taken law inner files d m r line at none untitled plain h =
    let s = split (pushed m line at) (λ made. taken_in inner at made (call_of files d at)) r h in
    let on = line_on law m s.made line at untitled plain s.first in
    let same = ok_is s.made r (subst (λ (c : Result (Option Call) JoinFault). taken_in inner at s.made c ≡ Ok r) none s.second) in
    record { is = sym (ap (λ (x : Made). x.text) same) ∙ on.is; untitled = sym (ap (λ (x : Made). x.has_title) same) ∙ on.untitled }

says : (m : Made) (line : List ℕ) (d : Directive) → m.has_title ≡ false → directive line ≡ d → said m line ≡ d
says m line d untitled e = ap (λ (t : Bool). if t then Nothing else directive line) untitled ∙ e

lines_text : (law : PlainLineLaw) (inner : Call → Origin → Made → Outcome) (files : List File) (by at : Origin) (lines : List (List ℕ)) (m r : Made) → m.has_title ≡ false → ArePlain lines
    → lines_joined inner files by all at lines m ≡ Ok r → r.text ≡ m.text ++ body lines
lines_text law inner files by at [] m r untitled h e = sym (ap (λ (x : Made). x.text) (ok_is m r e)) ∙ sym (append-nil m.text)
lines_text law inner files by at (line ∷ lines) m r untitled (plain, inl (nothing, more)) e =
    let d = says m line Nothing untitled nothing in
    let here = subst (λ (x : Directive). and_then (line_if (takes all x) inner files x line (next at) m) (λ made. if ends_file x then file_ended by (behind all x) made else lines_joined inner files by (behind all x) (next at) lines made) ≡ Ok r) d e in
    let s = split (line_if true inner files Nothing line (next at) m) (λ made. lines_joined inner files by all (next at) lines made) r here in
    let t = taken law inner files Nothing m s.made line (next at) refl untitled plain.stays s.first in
    let rest = lines_text law inner files by (next at) lines s.made r t.untitled more s.second in
    rest ∙ ap (λ (x : List ℕ). x ++ body lines) t.is ∙ one_end (m.text ++ kept line) (body lines) ∙ body_on m.text (kept line) (body lines)
lines_text law inner files by at (line ∷ lines) m r untitled (plain, inr (ends, none)) e =
    let d = says m line EndsFile untitled ends in
    let here = subst (λ (x : Directive). and_then (line_if (takes all x) inner files x line (next at) m) (λ made. if ends_file x then file_ended by (behind all x) made else lines_joined inner files by (behind all x) (next at) lines made) ≡ Ok r) d e in
    let s = split (line_if true inner files EndsFile line (next at) m) (λ made. file_ended by all made) r here in
    let t = taken law inner files EndsFile m s.made line (next at) refl untitled plain.stays s.first in
    sym (ap (λ (x : Made). x.text) (ok_is s.made r s.second)) ∙ t.is ∙ body_on m.text (kept line) [] ∙ ap (λ (ls : List (List ℕ)). m.text ++ (kept line ++ 0x0A ∷ body ls)) (sym none)

-- ---- its lines

abbrev AllLack : List (List ℕ) → Type 0
AllLack [] = Unit {0}
AllLack (line ∷ lines) = Lacks line × AllLack lines

onto_lacks : (c : ℕ) (ls : List (List ℕ)) → (c == 0x0A) ≡ false → AllLack ls → AllLack (onto_first c ls)
onto_lacks c [] e h = ((e, tt), tt)
onto_lacks c (l ∷ ls) e h = ((e, h.0), h.1)

lack_by : (p q : Bool) (c : ℕ) (ls : List (List ℕ)) → (c == 0x0A) ≡ p → AllLack ls → AllLack (if p then [] ∷ ls else if q then ls else onto_first c ls)
lack_by true q c ls e h = (tt, h)
lack_by false true c ls e h = h
lack_by false false c ls e h = onto_lacks c ls e h

lines_lack : (text : List ℕ) → AllLack (lines_of text)
lines_lack [] = tt
lines_lack (c ∷ cs) = lack_by (c == 0x0A) (c == 0x0D && begins 0x0A cs) c (lines_of cs) refl (lines_lack cs)

kept_by : (q : Bool) (line : List ℕ) → Lacks line → chopped line ≡ line → Lacks (if q then [] else line) × (chopped (if q then [] else line) ≡ (if q then [] else line))
kept_by true line h e = (tt, refl)
kept_by false line h e = (h, e)

kept_line : (line : List ℕ) → Lacks line → chopped line ≡ line → Lacks (kept line) × (chopped (kept line) ≡ kept line)
kept_line [] h e = (tt, refl)
kept_line (b ∷ bytes) h e = kept_by (b == 0x2A) (b ∷ bytes) h e

plain_front : (line : List ℕ) (lines : List (List ℕ)) → ArePlain (line ∷ lines) → ArePlain lines
plain_front line lines (plain, inl (nothing, more)) = more
plain_front line lines (plain, inr (ends, none)) = subst ArePlain (sym none) tt

body_lines : (lines : List (List ℕ)) → ArePlain lines → AllLack lines → lines_of (body lines) ≡ map kept lines
body_lines [] plain lack = refl
body_lines (line ∷ lines) plain lack =
    let k = kept_line line lack.0 plain.0.whole in
    line_ended (kept line) (body lines) k.0 ∙ ap (λ (l : List ℕ). l ∷ lines_of (body lines)) k.1 ∙ ap (λ (ls : List (List ℕ)). kept line ∷ ls) (body_lines lines (plain_front line lines plain) lack.1)

-- ---- its cards

star : (n b : ℕ) (bytes : List ℕ) (k : Cut) → b ≡ 0x2A → before n [] k ≡ before n (b ∷ bytes) k
star n b bytes k e = subst (λ (c : ℕ). before n [] k ≡ before n (c ∷ bytes) k) (sym e) refl

before_by : (q : Bool) (n b : ℕ) (bytes : List ℕ) (k : Cut) → (b == 0x2A) ≡ q → before n (if q then [] else b ∷ bytes) k ≡ before n (b ∷ bytes) k
before_by true n b bytes k e = star n b bytes k (eqb-true b 0x2A e)
before_by false n b bytes k e = refl

before_kept : (n : ℕ) (line : List ℕ) (k : Cut) → before n (kept line) k ≡ before n line k
before_kept n [] k = refl
before_kept n (b ∷ bytes) k = before_by (b == 0x2A) n b bytes k refl

cut_kept : (n : ℕ) (lines : List (List ℕ)) → cut n (map kept lines) ≡ cut n lines
cut_kept n [] = refl
cut_kept n (line ∷ lines) = before_kept n line (cut (n + 1) (map kept lines)) ∙ ap (λ (k : Cut). before n line k) (cut_kept (n + 1) lines)

abbrev early_by : List ℕ → ℕ → Option ℕ → Option ℕ
early_by line n o = if is_passed line then o else if is_more line then Some n else None

early_star : (n b : ℕ) (bytes : List ℕ) (o : Option ℕ) → b ≡ 0x2A → early_by [] n o ≡ early_by (b ∷ bytes) n o
early_star n b bytes o e = subst (λ (c : ℕ). early_by [] n o ≡ early_by (c ∷ bytes) n o) (sym e) refl

early_step : (q : Bool) (n b : ℕ) (bytes : List ℕ) (o : Option ℕ) → (b == 0x2A) ≡ q → early_by (if q then [] else b ∷ bytes) n o ≡ early_by (b ∷ bytes) n o
early_step true n b bytes o e = early_star n b bytes o (eqb-true b 0x2A e)
early_step false n b bytes o e = refl

early_line : (n : ℕ) (line : List ℕ) (o : Option ℕ) → early_by (kept line) n o ≡ early_by line n o
early_line n [] o = refl
early_line n (b ∷ bytes) o = early_step (b == 0x2A) n b bytes o refl

early_kept : (n : ℕ) (lines : List (List ℕ)) → early_more_in n (map kept lines) ≡ early_more_in n lines
early_kept n [] = refl
early_kept n (line ∷ lines) = early_line n line (early_more_in (n + 1) (map kept lines)) ∙ ap (λ (o : Option ℕ). early_by line n o) (early_kept (n + 1) lines)

-- ---- it has no backslash

plain_bytes : (bytes : List ℕ) → has_special bytes ≡ false → has_escape bytes ≡ false
plain_bytes [] h = refl
plain_bytes (b ∷ bytes) h =
    let parts = or_parts (is_special b) (has_special bytes) h in
    ap (λ (t : Bool). t || has_escape bytes) (or_parts (b == 0x5C) (b == 0x3B || (b == 0x24 || (b == 0x7B || (b == 0x27 || b == 0x22)))) parts.0).0 ∙ plain_bytes bytes parts.1

kept_plain_by : (q : Bool) (b : ℕ) (bytes : List ℕ) → (q || (not (is_blank b) && not (has_special (b ∷ bytes)))) ≡ true → has_escape (if q then [] else b ∷ bytes) ≡ false
kept_plain_by true b bytes h = refl
kept_plain_by false b bytes h =
    plain_bytes (b ∷ bytes) (not-true (has_special (b ∷ bytes)) (and_parts (not (is_blank b)) (not (has_special (b ∷ bytes))) h).1)

kept_plain : (line : List ℕ) → stays line ≡ true → has_escape (kept line) ≡ false
kept_plain [] h = refl
kept_plain (b ∷ bytes) h = kept_plain_by (b == 0x2A) b bytes h

body_plain : (lines : List (List ℕ)) → ArePlain lines → has_escape (body lines) ≡ false
body_plain [] h = refl
body_plain (line ∷ lines) h =
    list_any-append (λ (b : ℕ). b == 0x5C) (kept line) (0x0A ∷ body lines)
    ∙ ap (λ (t : Bool). t || has_escape (body lines)) (kept_plain line h.0.stays)
    ∙ body_plain lines (plain_front line lines h)

-- ---- the laws

pub plain_file : PlainLineLaw → PlainFileLaw
plain_file law f m plain h =
    let files : List File = f ∷ [] in
    let lines : List (List ℕ) = lines_of f.bytes.items in
    let begin : Made = record { text = []; origins = []; has_title = false; is_fresh = true; comments = 0 } in
    let at : Origin = record { file = 0; line = 0 } in
    let s = split (file_joined most_deep files (record { file = 0; section = None }) at begin) (λ made. let o : Outcome = Ok made in o) m h in
    let same : s.made ≡ m = ok_is s.made m s.second in
    let text : m.text ≡ body lines = sym (ap (λ (x : Made). x.text) same) ∙ lines_text law (file_joined 31 files) files at at lines begin s.made refl plain s.first in
    let split_is : lines_of m.text ≡ map kept lines = ap (λ (t : List ℕ). lines_of t) text ∙ body_lines lines plain (lines_lack f.bytes.items) in
    record {
      cards = ap (λ (ls : List (List ℕ)). (cut 1 ls).cards) split_is ∙ ap (λ (k : Cut). k.cards) (cut_kept 1 lines);
      early = ap (λ (ls : List (List ℕ)). early_more_in 1 ls) split_is ∙ early_kept 1 lines;
      plain = ap (λ (t : List ℕ). has_escape t) text ∙ body_plain lines plain;
    }

-- the cards alone say what a text means
carried : (text other : List ℕ) (n : Netlist) → cards_of other ≡ cards_of text → early_more other ≡ early_more text → Means read_limit text n → Means read_limit other n
carried text other n cards early m = record {
  cards = m.cards;
  read = ap (λ (o : Option ℕ). early_or o (reading read_limit no_cards (cards_of other))) early ∙ ap (λ (cs : List Card). early_or (early_more text) (reading read_limit no_cards cs)) cards ∙ m.read;
  ended = m.ended;
  one = m.one;
  called = m.called;
  counts = m.counts;
  cycles = m.cycles;
  netlist = m.netlist;
}

pub kept_file : PlainLineLaw → KeptNetlistLaw → KeptFileLaw
kept_file law kept f a text lines n plain last one untitled j whole quiet means =
    let t : List ℕ = j.joined.text.items in
    let joins : joined (f ∷ []) 1 false ≡ Ok (seen j.joined) =
    ap (λ (k : ℕ). joined (f ∷ []) k false) (sym one) ∙ ap (λ (b : Bool). joined (f ∷ []) (length a.inputs) b) (sym untitled) ∙ j.joins in
    let has = plain_file law f (seen j.joined) plain joins in
    let ends : EndsLast (cards_of t) = subst EndsLast (sym has.cards) last in
    let same = kept read_limit j.output.settings t j.output.made n whole has.plain ends j.output.turned quiet (carried f.bytes.items t n has.cards has.early means) in
    subst (λ (x : List ℕ). Means read_limit x n) (sym j.output.text_is) same
