-- Lines of a written text, read one after another.
use Rattle.std.proofs.Common.{◌≡◌, ℕ, zero, suc, ◌+◌, ◌-◌, ◌==◌, Bool, true, false, List, [], ◌∷◌, ◌++◌, length, take, drop, Option, Result, Ok, refl, sym, ap, ◌∙◌, append_assoc, arith}
use Rattle.std.proofs.lemmas.Bool.{and_parts}
use Rattle.std.specs.Prelude.{if◌then◌else◌, slice_index, is_some}
use Rattle.std.specs.List.{list_all}
use Rattle.std.proofs.lemmas.Bool.Decides.{nat_tests}
use Rattle.std.proofs.lemmas.List.{append-nil}
use Rattle.rule_lines.specs.Lines.{lines_of}
use Rattle.rule_lines.proofs.LineLemmas.{Lacks, ended}
use Rattle.spice_cards.specs.Tokens.{Token, Word, tokens_of, is_blank}
use Rattle.spice_cards.specs.Cards.{Card, Cut, is_passed, is_more, cut}
use Rattle.spice_rows.specs.Rows.{CardRow, Opens, Ends, Globals, Stops, Passed, Device, Call, card_row}
use Rattle.spice_rows.specs.Sizes.{Limits}
use Rattle.spice_rows.specs.declared.fault.SpiceFault.{SpiceFault}
use Rattle.spice_text.specs.Gather.{Cards, with_row, read_on, reading}
use Rattle.spice_text.proofs.WordLemmas as words
use Rattle.spice_text.proofs.WordLemmas.{is_shown, IsWord, word_tokens, all_shown}

-- ---- a line's end

lacks : (line : List ℕ) → list_all is_shown line ≡ true → Lacks line
lacks [] h = tt
lacks (b ∷ bs) h =
    let s = and_parts (is_shown b) (list_all is_shown bs) h in
    (no_end b s.0, lacks bs s.1)
  where
    no_end : (b : ℕ) → is_shown b ≡ true → (b == 0x0A) ≡ false
    no_end b h = grind (arith, nat_tests)

no_return : (line : List ℕ) (k : ℕ) → list_all is_shown line ≡ true → (slice_index line k == 0x0D) ≡ false
no_return [] k h = refl
no_return (b ∷ bs) zero h = at b (and_parts (is_shown b) (list_all is_shown bs) h).0
  where
    at : (b : ℕ) → is_shown b ≡ true → (b == 0x0D) ≡ false
    at b h = grind (arith, nat_tests)
no_return (b ∷ bs) (suc k) h = no_return bs k (and_parts (is_shown b) (list_all is_shown bs) h).1

pub line_of : (line rest : List ℕ) → list_all is_shown line ≡ true → lines_of ((line ++ 0x0A ∷ []) ++ rest) ≡ line ∷ lines_of rest
line_of line rest h =
    ap (λ (t : List ℕ). lines_of t) (append_assoc line (0x0A ∷ []) rest)
    ∙ ended line rest (lacks line h)
    ∙ ap (λ (t : Bool). (if t then take (length line - 1) line else line) ∷ lines_of rest) (no_return line (length line - 1) h)

-- ---- a whole line

pub record IsLine (text : List ℕ) (ts : List Token) : Type 0 where
  pub line : List ℕ
  pub spelled : text ≡ line ++ 0x0A ∷ []
  pub shown : list_all is_shown line ≡ true
  pub kept : is_passed line ≡ false
  pub starts : is_more line ≡ false
  pub tokens : tokens_of line ≡ ts

pub first_word : (b : ℕ) (bs rest : List ℕ) (ts : List Token) → (b == 0x2A) ≡ false → (b == 0x2B) ≡ false → is_blank b ≡ false → IsWord (b ∷ bs) → words.Ends rest ts
    → IsLine ((b ∷ bs) ++ rest) (Word (b ∷ bs) ∷ ts)
first_word b bs rest ts star plus blank h l = record {
  line = (b ∷ bs) ++ l.line;
  spelled = ap (λ (t : List ℕ). (b ∷ bs) ++ t) l.spelled ∙ sym (append_assoc (b ∷ bs) l.line (0x0A ∷ []));
  shown = all_shown (b ∷ bs) l.line h.shown l.shown;
  kept = rw star (rw blank refl);
  starts = plus;
  tokens = word_tokens (b ∷ bs) l.line h l.stops ∙ ap (λ (us : List Token). Word (b ∷ bs) ∷ us) l.tokens;
}

-- ---- cards read

-- a text that begins on line `from` and ends before line `to` takes some cards on to others,
-- whatever stands behind it
abbrev pub Reads : Option Limits → ℕ → ℕ → Cards → Cards → List ℕ → Type 0
Reads limit from to cards next text = (rest : List ℕ) → (cut to (lines_of rest)).more ≡ []
    → ((cut from (lines_of (text ++ rest))).more ≡ [])
    × (reading limit cards (cut from (lines_of (text ++ rest))).cards ≡ reading limit next (cut to (lines_of rest)).cards)

pub no_text : (limit : Option Limits) (n : ℕ) (cards : Cards) → Reads limit n n cards cards []
no_text limit n cards rest h = (h, refl)

pub one_more : (limit : Option Limits) (a b c : ℕ) (first second third : Cards) (t u : List ℕ) → Reads limit a b first second t → Reads limit b c second third u
    → Reads limit a c first third (t ++ u)
one_more limit a b c first second third t u f g rest h =
    let y = g rest h in
    let x = f (u ++ rest) y.0 in
    let e = append_assoc t u rest in
    (ap (λ (s : List ℕ). (cut a (lines_of s)).more) e ∙ x.0, ap (λ (s : List ℕ). reading limit first (cut a (lines_of s)).cards) e ∙ x.1 ∙ y.1)

abbrev pub Goes : CardRow → Type 0
Goes Stops = ⊥
Goes row = Unit {0}

goes : (cards : Cards) (line : ℕ) (row : CardRow) (rest : Cards → Result Cards SpiceFault) → Goes row → read_on cards line (Ok row) rest ≡ rest (with_row cards line row)
goes cards line (Opens name pins) rest h = refl
goes cards line Ends rest h = refl
goes cards line (Globals names) rest h = refl
goes cards line Stops rest h = absurd h
goes cards line Passed rest h = refl
goes cards line (Device d copies) rest h = refl
goes cards line (Call r) rest h = refl

-- the lines cut where one line more stands before others
pub cut_is : (n : ℕ) (text rest : List ℕ) (ts : List Token) → IsLine text ts → (cut (n + 1) (lines_of rest)).more ≡ []
    → cut n (lines_of (text ++ rest)) ≡ (let c : Cut = record { more = []; cards = (let k : Card = record { line = n; tokens = ts } in k) ∷ (cut (n + 1) (lines_of rest)).cards } in c)
cut_is n text rest ts l h =
    let behind = cut (n + 1) (lines_of rest) in
    let more : Cut = record { more = tokens_of (drop 1 l.line) ++ behind.more; cards = behind.cards } in
    let made : List Token → Cut = λ us. record { more = []; cards = (let k : Card = record { line = n; tokens = us } in k) ∷ behind.cards } in
    ap (λ (t : List ℕ). cut n (lines_of (t ++ rest))) l.spelled
    ∙ ap (λ (ls : List (List ℕ)). cut n ls) (line_of l.line rest l.shown)
    ∙ ap (λ (t : Bool). if t then behind else if is_more l.line then more else made (tokens_of l.line ++ behind.more)) l.kept
    ∙ ap (λ (t : Bool). if t then more else made (tokens_of l.line ++ behind.more)) l.starts
    ∙ ap made (ap (λ (us : List Token). tokens_of l.line ++ us) h ∙ append-nil (tokens_of l.line) ∙ l.tokens)

pub one_line : (limit : Option Limits) (n : ℕ) (cards : Cards) (row : CardRow) (text : List ℕ) (ts : List Token) → IsLine text ts
    → card_row limit n (is_some cards.open_one) ts ≡ Ok row → Goes row → Reads limit n (n + 1) cards (with_row cards n row) text
one_line limit n cards row text ts l said g rest h =
    let e = cut_is n text rest ts l h in
    let behind = (cut (n + 1) (lines_of rest)).cards in (
      ap (λ (c : Cut). c.more) e,
      ap (λ (c : Cut). reading limit cards c.cards) e
          ∙ ap (λ (r : Result CardRow SpiceFault). read_on cards n r (λ next. reading limit next behind)) said
          ∙ goes cards n row (λ next. reading limit next behind) g,
    )
