-- The words of written texts, and the tokens of lines that are made of them.
use Rattle.std.proofs.Common.{◌≡◌, inl, inr, ℕ, zero, suc, ◌+◌, ◌/◌, ◌%◌, ◌<◌, ◌==◌, Bool, true, false, ◌&&◌, ◌||◌, not, List, [], ◌∷◌, ◌++◌, length, take, drop, refl, sym, ap, subst, ◌∙◌, append_assoc, arith}
use Rattle.std.specs.Prelude.{decimal, nat_lt, if◌then◌else◌, codes, slice_index}
use Rattle.std.specs.Fmt.{digits, digits_onto, digit_glyph}
use Rattle.std.specs.List.{list_all, list_any}
use Rattle.std.specs.Char.{is_ascii_alphanumeric, is_ascii_digit, is_ascii_graphic}
use Rattle.std.proofs.Math.Seq.{take-append_seam, drop-append_seam}
use Rattle.std.proofs.lemmas.Bool.{eqb-true, cases_Bool, and_parts, and_from, not-true}
use Rattle.std.proofs.lemmas.Bool.Decides.{nat_tests}
use Rattle.std.proofs.lemmas.List.{length-append}
use Rattle.std.proofs.lemmas.List.Folds.{list_all-append}
use Rattle.net_names.specs.Escapes.{is_plain, hex_digit, spelling, escaped}
use Rattle.spice_cards.specs.Tokens.{is_blank, Token, Word, Equals, goes_on, run, piece, Piece, tokens_of}
use Rattle.spice_cards.proofs.TokenLemmas.{token_more}

-- a byte that may stand on a written line
abbrev pub is_shown : ℕ → Bool
is_shown b = nat_lt 31 b && nat_lt b 127

-- one that goes on with a word and begins no escape
abbrev pub is_easy : ℕ → Bool
is_easy b = goes_on false b && (not (b == 0x5C) && is_shown b)

pub all_shown : (xs ys : List ℕ) → list_all is_shown xs ≡ true → list_all is_shown ys ≡ true → list_all is_shown (xs ++ ys) ≡ true
all_shown xs ys e f = list_all-append is_shown xs ys ∙ and_from (list_all is_shown xs) (list_all is_shown ys) e f

-- ---- kinds of bytes

easy_sign : (xs : List ℕ) (b : ℕ) → list_all is_easy xs ≡ true → list_any (λ s. s == b) xs ≡ true → is_easy b ≡ true
easy_sign [] b h f = absurd (let bad : false ≡ true = f in cc)
easy_sign (x ∷ xs) b h f =
    let s = and_parts (is_easy x) (list_all is_easy xs) h in
    elim (cases_Bool (x == b)) [
      | inl t ↦ subst (λ (c : ℕ). is_easy c ≡ true) (eqb-true x b t) s.0
      | inr n ↦ easy_sign xs b s.1 (let e : ((x == b) || list_any (λ s. s == b) xs) ≡ true = f in sym (ap (λ (p : Bool). p || list_any (λ s. s == b) xs) n) ∙ e)
    ]

easy_letter : (b : ℕ) → is_ascii_alphanumeric b ≡ true → is_easy b ≡ true
easy_letter b h = grind (arith, nat_tests)

easy_digit : (b : ℕ) → b < 10 → is_easy (48 + b) ≡ true
easy_digit b h = grind (arith, nat_tests)

easy_numeral : (b : ℕ) → is_ascii_digit b ≡ true → is_easy b ≡ true
easy_numeral b h = grind (arith, nat_tests)

easy_plain : (b : ℕ) → is_plain b ≡ true → is_easy b ≡ true
easy_plain b h = elim (cases_Bool (is_ascii_alphanumeric b)) [
  | inl t ↦ easy_letter b t
  | inr f ↦ easy_sign (codes "_./[]<>#:!-") b refl
      (let e : (is_ascii_alphanumeric b || list_any (λ sign. sign == b) (codes "_./[]<>#:!-")) ≡ true = h in
      sym (ap (λ (p : Bool). p || list_any (λ sign. sign == b) (codes "_./[]<>#:!-")) f) ∙ e)
]

easy_hex : (n : ℕ) → n < 16 → is_easy (hex_digit n) ≡ true
easy_hex n h = elim (cases_Bool (nat_lt n 10)) [
  | inl t ↦ rw t (easy_digit n (grind (arith, t)))
  | inr f ↦ rw f (letter n h (grind (arith, f)))
]
  where
    letter : (n : ℕ) → n < 16 → 9 < n → is_easy (0x37 + n) ≡ true
    letter n h l = grind (arith, nat_tests)

escaped_goes : (b : ℕ) → is_ascii_graphic b ≡ true → goes_on true b ≡ true
escaped_goes b h = grind (arith, nat_tests)

graphic_shown : (b : ℕ) → is_ascii_graphic b ≡ true → is_shown b ≡ true
graphic_shown b h = grind (arith, nat_tests)

easy_shown : (b : ℕ) → is_easy b ≡ true → is_shown b ≡ true
easy_shown b h = (and_parts (not (b == 0x5C)) (is_shown b) (and_parts (goes_on false b) (not (b == 0x5C) && is_shown b) h).1).1

all_easy_shown : (bs : List ℕ) → list_all is_easy bs ≡ true → list_all is_shown bs ≡ true
all_easy_shown [] h = refl
all_easy_shown (b ∷ bs) h =
    let s = and_parts (is_easy b) (list_all is_easy bs) h in
    and_from (is_shown b) (list_all is_shown bs) (easy_shown b s.0) (all_easy_shown bs s.1)

-- ---- how far a word goes on

run_on : (b : ℕ) (bytes : List ℕ) → is_easy b ≡ true → run false (b ∷ bytes) ≡ run false bytes + 1
run_on b bytes h =
    let g = and_parts (goes_on false b) (not (b == 0x5C) && is_shown b) h in
    let s = not-true (b == 0x5C) (and_parts (not (b == 0x5C)) (is_shown b) g.1).0 in
    ap (λ (t : Bool). if t then run (b == 0x5C) bytes + 1 else 0) g.0 ∙ ap (λ (t : Bool). run t bytes + 1) s

run_easy : (bs rest : List ℕ) → list_all is_easy bs ≡ true → run false (bs ++ rest) ≡ length bs + run false rest
run_easy [] rest h = omega arith
run_easy (b ∷ bs) rest h =
    let s = and_parts (is_easy b) (list_all is_easy bs) h in
    let r = run_easy bs rest s.1 in
    run_on b (bs ++ rest) s.0 ∙ (let q : run false (bs ++ rest) + 1 ≡ suc (length bs) + run false rest = omega arith in q)

abbrev spelled : Bool → Bool → ℕ → List ℕ
spelled p g b =
    if p then b ∷ []
    else if g then 0x5C ∷ b ∷ []
    else 0x5C ∷ 0x78 ∷ hex_digit (b / 16) ∷ hex_digit (b % 16) ∷ []

easy_pair : (b : ℕ) → b < 256 → list_all is_easy (hex_digit (b / 16) ∷ hex_digit (b % 16) ∷ []) ≡ true
easy_pair b h =
    let high = easy_hex (b / 16) (omega arith) in
    let low = easy_hex (b % 16) (omega arith) in
    and_from (is_easy (hex_digit (b / 16))) (is_easy (hex_digit (b % 16)) && true) high (and_from (is_easy (hex_digit (b % 16))) true low refl)

run_kinds : (b : ℕ) (rest : List ℕ) (p g : Bool) → b < 256 → is_plain b ≡ p → is_ascii_graphic b ≡ g
    → run false (spelled p g b ++ rest) ≡ length (spelled p g b) + run false rest
run_kinds b rest true g h e f = run_easy (b ∷ []) rest (and_from (is_easy b) true (easy_plain b e) refl)
run_kinds b rest false true h e f =
    ap (λ (t : Bool). (if t then run false rest + 1 else 0) + 1) (escaped_goes b f)
    ∙ (let q : run false rest + 1 + 1 ≡ 2 + run false rest = omega arith in q)
run_kinds b rest false false h e f =
    let r = run_easy (hex_digit (b / 16) ∷ hex_digit (b % 16) ∷ []) rest (easy_pair b h) in
    ap (λ (n : ℕ). n + 1 + 1) r ∙ (let q : 2 + run false rest + 1 + 1 ≡ 4 + run false rest = omega arith in q)

shown_kinds : (b : ℕ) (p g : Bool) → b < 256 → is_plain b ≡ p → is_ascii_graphic b ≡ g → list_all is_shown (spelled p g b) ≡ true
shown_kinds b true g h e f = and_from (is_shown b) true (easy_shown b (easy_plain b e)) refl
shown_kinds b false true h e f = and_from (is_shown b) true (graphic_shown b f) refl
shown_kinds b false false h e f = all_easy_shown (hex_digit (b / 16) ∷ hex_digit (b % 16) ∷ []) (easy_pair b h)

abbrev pub Begins : List ℕ → Type 0
Begins [] = ⊥
Begins (b ∷ bs) = goes_on false b ≡ true

easy_goes : (b : ℕ) → is_easy b ≡ true → goes_on false b ≡ true
easy_goes b h = (and_parts (goes_on false b) (not (b == 0x5C) && is_shown b) h).0

begin_kinds : (b : ℕ) (rest : List ℕ) (p g : Bool) → is_plain b ≡ p → Begins (spelled p g b ++ rest)
begin_kinds b rest true g e = easy_goes b (easy_plain b e)
begin_kinds b rest false true e = refl
begin_kinds b rest false false e = refl

-- ---- words

-- a text that is one token, where a blank, an `=` or nothing follows
pub record IsWord (w : List ℕ) : Type 0 where
  pub begins : Begins w
  pub runs : (rest : List ℕ) → run false (w ++ rest) ≡ length w + run false rest
  pub shown : list_all is_shown w ≡ true

easy_begins : (w : List ℕ) → 0 < length w → list_all is_easy w ≡ true → Begins w
easy_begins [] some h = absurd (omega arith)
easy_begins (b ∷ bs) some h = easy_goes b (and_parts (is_easy b) (list_all is_easy bs) h).0

pub easy_word : (w : List ℕ) → 0 < length w → list_all is_easy w ≡ true → IsWord w
easy_word w some h = record { begins = easy_begins w some h; runs = λ rest. run_easy w rest h; shown = all_easy_shown w h }

run_escaped : (bytes rest : List ℕ) → ((k : ℕ) → k < length bytes → slice_index bytes k < 256)
    → run false (escaped bytes ++ rest) ≡ length (escaped bytes) + run false rest
run_escaped [] rest h = omega arith
run_escaped (b ∷ bytes) rest h =
    let one = run_kinds b (escaped bytes ++ rest) (is_plain b) (is_ascii_graphic b) (h 0 (omega arith)) refl refl in
    let more = run_escaped bytes rest (λ k l. h (suc k) (omega arith)) in
    let len = length-append (spelling b) (escaped bytes) in
    ap (λ (t : List ℕ). run false t) (append_assoc (spelling b) (escaped bytes) rest) ∙ one
    ∙ (let q : length (spelling b) + run false (escaped bytes ++ rest) ≡ length (spelling b ++ escaped bytes) + run false rest = omega arith in q)

shown_escaped : (bytes : List ℕ) → ((k : ℕ) → k < length bytes → slice_index bytes k < 256) → list_all is_shown (escaped bytes) ≡ true
shown_escaped [] h = refl
shown_escaped (b ∷ bytes) h =
    all_shown (spelling b) (escaped bytes) (shown_kinds b (is_plain b) (is_ascii_graphic b) (h 0 (omega arith)) refl refl)
    (shown_escaped bytes (λ k l. h (suc k) (omega arith)))

begin_escaped : (bytes : List ℕ) → 0 < length bytes → Begins (escaped bytes)
begin_escaped [] h = absurd (omega arith)
begin_escaped (b ∷ bytes) h = begin_kinds b (escaped bytes) (is_plain b) (is_ascii_graphic b) refl

pub escaped_word : (bytes : List ℕ) → 0 < length bytes → ((k : ℕ) → k < length bytes → slice_index bytes k < 256) → IsWord (escaped bytes)
escaped_word bytes some h = record { begins = begin_escaped bytes some; runs = λ rest. run_escaped bytes rest h; shown = shown_escaped bytes h }

-- ---- numbers

digits_easy : (k n : ℕ) (acc : List ℕ) → list_all is_easy acc ≡ true → list_all is_easy (digits_onto k 10 false n acc) ≡ true
digits_easy zero n acc h = h
digits_easy (suc k) n acc h = elim (cases_Bool (n / 10 == 0)) [
  | inl t ↦ rw t (with_one n acc h)
  | inr f ↦ rw f (digits_easy k (n / 10) (digit_glyph false (n % 10) ∷ acc) (with_one n acc h))
]
  where
    with_one : (n : ℕ) (acc : List ℕ) → list_all is_easy acc ≡ true → list_all is_easy (digit_glyph false (n % 10) ∷ acc) ≡ true
    with_one n acc h = and_from (is_easy (digit_glyph false (n % 10))) (list_all is_easy acc) (glyph (n % 10) (omega arith)) h
      where
        glyph : (d : ℕ) → d < 10 → is_easy (digit_glyph false d) ≡ true
        glyph d l = elim (cases_Bool (nat_lt d 10)) [ inl t ↦ rw t (easy_digit d l) | inr f ↦ absurd (grind (arith, f, l)) ]

pub decimal_easy : (n : ℕ) → list_all is_easy (decimal n) ≡ true
unfolding digits
decimal_easy n = digits_easy 64 n [] refl

pub easy_append : (xs ys : List ℕ) → list_all is_easy xs ≡ true → list_all is_easy ys ≡ true → list_all is_easy (xs ++ ys) ≡ true
easy_append xs ys e f = list_all-append is_easy xs ys ∙ and_from (list_all is_easy xs) (list_all is_easy ys) e f

pub digits_all : (ds : List ℕ) → list_all is_ascii_digit ds ≡ true → list_all is_easy ds ≡ true
digits_all [] h = refl
digits_all (d ∷ ds) h =
    let s = and_parts (is_ascii_digit d) (list_all is_ascii_digit ds) h in
    and_from (is_easy d) (list_all is_easy ds) (easy_numeral d s.0) (digits_all ds s.1)

-- ---- tokens

abbrev pub Stops : List ℕ → Type 0
Stops [] = Unit {0}
Stops (b ∷ bs) = goes_on false b ≡ false

stopped : (rest : List ℕ) → Stops rest → run false rest ≡ 0
stopped [] h = refl
stopped (b ∷ bs) h = ap (λ (t : Bool). if t then run (b == 0x5C) bs + 1 else 0) h

abbrev word_piece : List ℕ → ℕ → Piece
word_piece bytes n = record { tokens = Word (take n bytes) ∷ []; width = n }

goes_parts : (p q : Bool) → (not p && (false || not q)) ≡ true → (p ≡ false) × (q ≡ false)
goes_parts true q e = absurd (let bad : false ≡ true = e in cc)
goes_parts false true e = absurd (let bad : false ≡ true = e in cc)
goes_parts false false e = (refl, refl)

piece_is : (w rest : List ℕ) → Begins w → piece (w ++ rest) ≡ word_piece (w ++ rest) (run false (w ++ rest))
piece_is [] rest h = absurd h
piece_is (b ∷ bs) rest h =
    let g = goes_parts (is_blank b) (b == 0x3D) h in
    let other : Piece = word_piece (b ∷ (bs ++ rest)) (run false (b ∷ (bs ++ rest))) in
    let equals : Piece = record { tokens = Equals ∷ []; width = 1 } in
    let blank : Piece = record { tokens = []; width = 1 } in
    ap (λ (t : Bool). if t then blank else if b == 0x3D then equals else other) g.0
    ∙ ap (λ (t : Bool). if t then equals else other) g.1

some_left : (w rest : List ℕ) → Begins w → 0 < length (w ++ rest)
some_left [] rest h = absurd h
some_left (b ∷ bs) rest h = omega arith

some_bytes : (w : List ℕ) → Begins w → 0 < length w
some_bytes [] h = absurd h
some_bytes (b ∷ bs) h = omega arith

pub word_tokens : (w rest : List ℕ) → IsWord w → Stops rest → tokens_of (w ++ rest) ≡ Word w ∷ tokens_of rest
word_tokens w rest h s =
    let z = stopped rest s in
    let r = h.runs rest in
    let len : run false (w ++ rest) ≡ length w = omega arith in
    let p : piece (w ++ rest) ≡ word_piece (w ++ rest) (length w) = piece_is w rest h.begins ∙ ap (λ (n : ℕ). word_piece (w ++ rest) n) len in
    let wide : 0 < (piece (w ++ rest)).width = subst (λ (x : Piece). 0 < x.width) (sym p) (some_bytes w h.begins) in
    token_more (w ++ rest) (some_left w rest h.begins) wide
    ∙ ap (λ (x : Piece). x.tokens ++ tokens_of (drop x.width (w ++ rest))) p
    ∙ ap (λ (t : List ℕ). Word t ∷ tokens_of (drop (length w) (w ++ rest))) (take-append_seam w rest)
    ∙ ap (λ (t : List ℕ). Word w ∷ tokens_of t) (drop-append_seam w rest)

-- ---- lines

-- the text is the rest of a line of these tokens, and its end
pub record Ends (text : List ℕ) (ts : List Token) : Type 0 where
  pub line : List ℕ
  pub spelled : text ≡ line ++ 0x0A ∷ []
  pub stops : Stops line
  pub shown : list_all is_shown line ≡ true
  pub tokens : tokens_of line ≡ ts

pub at_end : Ends (0x0A ∷ []) []
at_end = record { line = []; spelled = refl; stops = tt; shown = refl; tokens = refl }

pub blank_word : (w rest : List ℕ) (ts : List Token) → IsWord w → Ends rest ts → Ends (0x20 ∷ (w ++ rest)) (Word w ∷ ts)
blank_word w rest ts h l = record {
  line = 0x20 ∷ (w ++ l.line);
  spelled = ap (λ (t : List ℕ). 0x20 ∷ (w ++ t)) l.spelled ∙ ap (λ (t : List ℕ). 0x20 ∷ t) (sym (append_assoc w l.line (0x0A ∷ [])));
  stops = refl;
  shown = all_shown w l.line h.shown l.shown;
  tokens = word_tokens w l.line h l.stops ∙ ap (λ (us : List Token). Word w ∷ us) l.tokens;
}

pub equals_word : (w rest : List ℕ) (ts : List Token) → IsWord w → Ends rest ts → Ends (0x3D ∷ (w ++ rest)) (Equals ∷ Word w ∷ ts)
equals_word w rest ts h l = record {
  line = 0x3D ∷ (w ++ l.line);
  spelled = ap (λ (t : List ℕ). 0x3D ∷ (w ++ t)) l.spelled ∙ ap (λ (t : List ℕ). 0x3D ∷ t) (sym (append_assoc w l.line (0x0A ∷ [])));
  stops = refl;
  shown = all_shown w l.line h.shown l.shown;
  tokens = ap (λ (us : List Token). Equals ∷ us) (word_tokens w l.line h l.stops ∙ ap (λ (us : List Token). Word w ∷ us) l.tokens);
}
