-- What is written of a kept card, and how it is read.
use Rattle.std.proofs.Common.{◌≡◌, ℕ, suc, ◌+◌, ◌-◌, ◌==◌, Bool, true, false, List, [], ◌∷◌, ◌++◌, length, take, map, Option, Some, None, Result, Ok, Err, refl, sym, ap, ◌∙◌, append_assoc, arith}
use Rattle.std.specs.Prelude.{flat_map, is_some, not, ◌&&◌, ◌||◌, if◌then◌else◌}
use Rattle.std.specs.Global.{Vec}
use Rattle.std.specs.List.{All}
use Rattle.std.proofs.lemmas.List.{append-nil, take_all, take-append-le}
use Rattle.std.proofs.lemmas.List.Elements.{All-head, All-tail}
use Rattle.fixed_num.specs.declared.femto.ValueFault.{ValueFault}
use Rattle.spice_cards.specs.Tokens.{Token, Word, Equals, goes_on, is_blank, piece, run, tokens_behind, tokens_of, word_len}
use Rattle.spice_cards.specs.Parts.{Param}
use Rattle.netlist_turn.specs.CardLaw.{IsPair, IsWord, kept_or, kept_words, param_tokens, params_text, size_or, turned_params, turned_text, turned_value, words_text}
use Rattle.netlist_turn.specs.Made.{Made, by_factor, card_made, factor_at, meant, naming, param_made, params_made, size_made, telling, unquoting, value_for, value_made, word_made, word_or, words_made, writing}
use Rattle.netlist_turn.specs.Scale.{scaled}
use Rattle.netlist_turn.specs.Words.{has_escape, is_kept_key, left_out, unquoted}
use Rattle.netlist_turn.specs.declared.made.Kind.{Kind}
use Rattle.netlist_turn.specs.declared.made.Kind.TheVariants.{Name, Parameter, Quotes}
use Rattle.netlist_turn.specs.declared.rows.Row.{Row}
use Rattle.netlist_turn.specs.declared.scale.Factor.{Factor}
use Rattle.netlist_turn.specs.declared.settings.Settings.{Settings}

-- ---- the text

-- telling writes nothing
told_or : (b : Bool) (m : Made) (line : ℕ) (kind : Kind) (w : List ℕ) → (if b then telling m line kind w else m).text ≡ m.text
told_or true m line kind w = refl
told_or false m line kind w = refl

or_told : (b : Bool) (m : Made) (line : ℕ) (kind : Kind) (w : List ℕ) → (if b then m else telling m line kind w).text ≡ m.text
or_told true m line kind w = refl
or_told false m line kind w = refl

word_text : (m : Made) (line : ℕ) (w : List ℕ) → (word_made m line w).text ≡ m.text ++ (w ++ 0x20 ∷ [])
word_text m line w = told_or (has_escape w) (writing (writing m w) (0x20 ∷ [])) line Name w ∙ append_assoc m.text w (0x20 ∷ [])

word_on : (m : Made) (line : ℕ) (w rest : List ℕ) → (word_made m line w).text ++ rest ≡ m.text ++ (w ++ (0x20 ∷ rest))
word_on m line w rest =
    ap (λ (t : List ℕ). t ++ rest) (word_text m line w) ∙ append_assoc m.text (w ++ 0x20 ∷ []) rest
    ∙ ap (λ (t : List ℕ). m.text ++ t) (append_assoc w (0x20 ∷ []) rest)

word_or_on : (m : Made) (line : ℕ) (w : List ℕ) (o : Option Kind) (rest : List (List ℕ)) → (word_or m line w o).text ++ words_text rest ≡ m.text ++ words_text (kept_or w o rest)
word_or_on m line w None rest = word_on m line w (words_text rest)
word_or_on m line w (Some kind) rest = refl

words_text_is : (row : Row) (m : Made) (line : ℕ) (ws : List (List ℕ)) → (words_made row m line ws).text ≡ m.text ++ words_text (kept_words row ws)
words_text_is row m line [] = sym (append-nil m.text)
words_text_is row m line (w ∷ ws) = words_text_is row (word_or m line w (left_out row w ws)) line ws ∙ word_or_on m line w (left_out row w ws) (kept_words row ws)

size_text_is : (m : Made) (line : ℕ) (key text : List ℕ) (f : Factor) (r : Result ℕ ValueFault) → (size_made m line key text f r).text ≡ m.text ++ size_or text f r
size_text_is m line key text f (Ok n) = refl
size_text_is m line key text f (Err e) = refl

factor_text_is : (m : Made) (line : ℕ) (key text : List ℕ) (o : Option Factor) → (by_factor m line key text o).text ≡ m.text ++ turned_text o text
factor_text_is m line key text None = refl
factor_text_is m line key text (Some factor) = size_text_is m line key text factor (scaled factor text)

naming_text : (m : Made) (line : ℕ) (plain : List ℕ) (o : Option (Vec ℕ)) → (naming m line plain o).text ≡ m.text
naming_text m line plain None = refl
naming_text m line plain (Some text) = refl

unquoting_text : (m : Made) (line : ℕ) (v : List ℕ) → (unquoting m line v).text ≡ m.text
unquoting_text m line v = or_told (length (unquoted v) == length v) m line Quotes v

value_text_is : (s : Settings) (row : Row) (m : Made) (line : ℕ) (p : Param) → (value_made s row m line p).text ≡ (m.text ++ turned_value s row p) ++ 0x20 ∷ []
value_text_is s row m line p =
    let plain : List ℕ = unquoted p.value in
    let found : Option (Vec ℕ) = value_for s (unquoted p.value) in
    let named : Made = naming (unquoting m line p.value) line (unquoted p.value) (value_for s (unquoted p.value)) in
    let same : (naming (unquoting m line p.value) line (unquoted p.value) (value_for s (unquoted p.value))).text ≡ m.text = naming_text (unquoting m line p.value) line plain found ∙ unquoting_text m line p.value in
    ap (λ (t : List ℕ). t ++ 0x20 ∷ [])
    (factor_text_is named line p.key (meant plain found) (factor_at s row p.key) ∙ ap (λ (t : List ℕ). t ++ turned_value s row p) same)

param_on : (s : Settings) (row : Row) (m : Made) (line : ℕ) (p : Param) (rest : List ℕ)
    → (value_made s row (writing (writing m p.key) (0x3D ∷ [])) line p).text ++ rest ≡ m.text ++ (p.key ++ (0x3D ∷ (turned_value s row p ++ (0x20 ∷ rest))))
param_on s row m line p rest =
    let v : List ℕ = turned_value s row p in
    ap (λ (t : List ℕ). t ++ rest) (value_text_is s row (writing (writing m p.key) (0x3D ∷ [])) line p)
    ∙ append_assoc (((m.text ++ p.key) ++ 0x3D ∷ []) ++ v) (0x20 ∷ []) rest
    ∙ append_assoc ((m.text ++ p.key) ++ 0x3D ∷ []) v (0x20 ∷ rest)
    ∙ append_assoc (m.text ++ p.key) (0x3D ∷ []) (v ++ (0x20 ∷ rest))
    ∙ append_assoc m.text p.key (0x3D ∷ (v ++ (0x20 ∷ rest)))

param_or : (b : Bool) (s : Settings) (row : Row) (m : Made) (line : ℕ) (p : Param) (rest : List Param)
    → (if b then value_made s row (writing (writing m p.key) (0x3D ∷ [])) line p else telling m line Parameter p.key).text ++ params_text rest
    ≡ m.text ++ params_text (if b then (let q : Param = record { key = p.key; value = turned_value s row p } in q) ∷ rest else rest)
param_or true s row m line p rest = param_on s row m line p (params_text rest)
param_or false s row m line p rest = refl

params_text_is : (s : Settings) (row : Row) (m : Made) (line : ℕ) (ps : List Param) → (params_made s row m line ps).text ≡ m.text ++ params_text (turned_params s row ps)
params_text_is s row m line [] = sym (append-nil m.text)
params_text_is s row m line (p ∷ ps) = params_text_is s row (param_made s row m line p) line ps ∙ param_or (is_kept_key (is_some s.scale) row p.key) s row m line p (turned_params s row ps)

pub card_text_is : (s : Settings) (row : Row) (m : Made) (line : ℕ) (first : List ℕ) (words : List (List ℕ)) (ps : List Param)
    → (card_made s row m line first words ps).text ≡ m.text ++ (words_text (first ∷ kept_words row words) ++ (params_text (turned_params s row ps) ++ 0x0A ∷ []))
card_text_is s row m line first words ps =
    let kept : List ℕ = words_text (kept_words row words) in
    let said : List ℕ = params_text (turned_params s row ps) in
    let front : (words_made row (word_made m line first) line words).text ≡ m.text ++ (first ++ (0x20 ∷ words_text (kept_words row words))) =
    words_text_is row (word_made m line first) line words ∙ word_on m line first kept in
    ap (λ (t : List ℕ). t ++ 0x0A ∷ []) (params_text_is s row (words_made row (word_made m line first) line words) line ps ∙ ap (λ (t : List ℕ). t ++ params_text (turned_params s row ps)) front)
    ∙ append_assoc (m.text ++ (first ++ (0x20 ∷ kept))) said (0x0A ∷ [])
    ∙ append_assoc m.text (first ++ (0x20 ∷ kept)) (said ++ 0x0A ∷ [])

-- ---- the tokens

pub on_by : (t : Bool) (n m k : ℕ) → (n ≡ k → m ≡ k) → (if t then n + 1 else 0) ≡ suc k → (if t then m + 1 else 0) ≡ suc k
on_by true n m k f h = let e : n ≡ k = omega (arith, h) in let g = f e in omega (arith, g)
on_by false n m k f h = absurd (omega (arith, h))

none_by : (t : Bool) (n m : ℕ) → (if t then n + 1 else 0) ≡ 0 → (if t then m + 1 else 0) ≡ 0
none_by true n m h = absurd (omega (arith, h))
none_by false n m h = refl

-- a blank ends a word
ends_blank : (escaped : Bool) (w rest : List ℕ) → run escaped w ≡ length w → run escaped (w ++ 0x20 ∷ rest) ≡ length w
ends_blank escaped [] rest h = refl
ends_blank escaped (b ∷ w) rest h =
    on_by (goes_on escaped b) (run (not escaped && b == 0x5C) w) (run (not escaped && b == 0x5C) (w ++ 0x20 ∷ rest)) (length w) (λ g. ends_blank (not escaped && b == 0x5C) w rest g) h

ends_equals : (escaped : Bool) (w rest : List ℕ) → run escaped (w ++ 0x3D ∷ []) ≡ length w → run escaped (w ++ 0x3D ∷ rest) ≡ length w
ends_equals escaped [] rest h = none_by (goes_on escaped 0x3D) (run (not escaped && 0x3D == 0x5C) []) (run (not escaped && 0x3D == 0x5C) rest) h
ends_equals escaped (b ∷ w) rest h =
    on_by (goes_on escaped b) (run (not escaped && b == 0x5C) (w ++ 0x3D ∷ [])) (run (not escaped && b == 0x5C) (w ++ 0x3D ∷ rest)) (length w)
    (λ g. ends_equals (not escaped && b == 0x5C) w rest g) h

pub first_byte : (p q : Bool) (n k : ℕ) → (if not p && (false || not q) then n + 1 else 0) ≡ suc k → (p ≡ false) × (q ≡ false)
first_byte true q n k h = absurd (omega (arith, h))
first_byte false true n k h = absurd (omega (arith, h))
first_byte false false n k h = (refl, refl)

skip : (w rest : List ℕ) → tokens_behind (length w) (w ++ rest) ≡ tokens_behind 0 rest
skip [] rest = refl
skip (b ∷ w) rest = skip w rest

-- a word that ends before a rest stands in front
word_front : (b : ℕ) (w rest : List ℕ) → word_len (b ∷ (w ++ rest)) ≡ length (b ∷ w) → tokens_of (b ∷ (w ++ rest)) ≡ Word (b ∷ w) ∷ tokens_of rest
word_front b w rest h =
    let starts = first_byte (is_blank b) (b == 0x3D) (run (not false && b == 0x5C) (w ++ rest)) (length w) h in
    let front : take (length (b ∷ w)) ((b ∷ w) ++ rest) ≡ b ∷ w = take-append-le (length (b ∷ w)) (b ∷ w) rest (omega arith) ∙ take_all (length (b ∷ w)) (b ∷ w) (omega arith) in
    let is : (piece (b ∷ (w ++ rest))).tokens ++ tokens_behind ((piece (b ∷ (w ++ rest))).width - 1) (w ++ rest)
    ≡ Word (take (word_len (b ∷ (w ++ rest))) (b ∷ (w ++ rest))) ∷ tokens_behind (word_len (b ∷ (w ++ rest)) - 1) (w ++ rest) = rw (starts.0, starts.1) refl in
    let behind : length (b ∷ w) - 1 ≡ length w = omega arith in
    is ∙ ap (λ (n : ℕ). Word (take n (b ∷ (w ++ rest))) ∷ tokens_behind (n - 1) (w ++ rest)) h
    ∙ ap (λ (t : List ℕ). Word t ∷ tokens_behind (length (b ∷ w) - 1) (w ++ rest)) front
    ∙ ap (λ (n : ℕ). Word (b ∷ w) ∷ tokens_behind n (w ++ rest)) behind
    ∙ ap (λ (ts : List Token). Word (b ∷ w) ∷ ts) (skip w rest)

before_blank : (w rest : List ℕ) → IsWord w → tokens_of (w ++ (0x20 ∷ rest)) ≡ Word w ∷ tokens_of rest
before_blank [] rest h = absurd h
before_blank (b ∷ w) rest h = word_front b w (0x20 ∷ rest) (ends_blank false (b ∷ w) rest h)

before_equals : (w rest : List ℕ) → IsWord w → word_len (w ++ 0x3D ∷ []) ≡ length w → tokens_of (w ++ (0x3D ∷ rest)) ≡ Word w ∷ Equals ∷ tokens_of rest
before_equals [] rest h e = absurd h
before_equals (b ∷ w) rest h e = word_front b w (0x3D ∷ rest) (ends_equals false (b ∷ w) rest e)

param_tokens_is : (ps : List Param) → All IsPair ps → tokens_of (params_text ps) ≡ flat_map param_tokens ps
param_tokens_is [] h = refl
param_tokens_is (p ∷ ps) h =
    let pair = All-head IsPair p ps h in
    before_equals p.key (p.value ++ (0x20 ∷ params_text ps)) pair.key pair.ends
    ∙ ap (λ (ts : List Token). Word p.key ∷ Equals ∷ ts) (before_blank p.value (params_text ps) pair.value)
    ∙ ap (λ (ts : List Token). Word p.key ∷ Equals ∷ Word p.value ∷ ts) (param_tokens_is ps (All-tail IsPair p ps h))

pub card_tokens_is : (ws : List (List ℕ)) (ps : List Param) → All IsWord ws → All IsPair ps → tokens_of (words_text ws ++ params_text ps) ≡ map Word ws ++ flat_map param_tokens ps
card_tokens_is [] ps h g = param_tokens_is ps g
card_tokens_is (w ∷ ws) ps h g =
    ap tokens_of (append_assoc w (0x20 ∷ words_text ws) (params_text ps)) ∙ before_blank w (words_text ws ++ params_text ps) (All-head IsWord w ws h)
    ∙ ap (λ (ts : List Token). Word w ∷ ts) (card_tokens_is ws ps (All-tail IsWord w ws h) g)
