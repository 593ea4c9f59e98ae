-- What is written of a card of a listed name, and how it is read.
use Rattle.std.proofs.Common.{◌≡◌, ℕ, ◌==◌, Bool, true, false, List, [], ◌∷◌, ◌++◌, length, map, Option, Some, None, Result, Ok, Err, refl, sym, ap, ◌∙◌, append_assoc}
use Rattle.std.specs.Prelude.{codes, flat_map, slice_index_or, ◌&&◌, ◌||◌, if◌then◌else◌}
use Rattle.std.specs.Str.{bytes_eq}
use Rattle.net_names.specs.Folding.{folded_byte, folded_bytes}
use Rattle.std.specs.List.{All}
use Rattle.std.proofs.lemmas.List.Elements.{All-cons}
use Rattle.plain_netlist.specs.declared.kinds.DeviceKind.{DeviceKind}
use Rattle.plain_netlist.specs.declared.kinds.DeviceKind.TheVariants.{Mos4, ResistorWithBulk, Diode}
use Rattle.spice_cards.specs.Parts.{Param, begins_equals, behind_words, onto, params_of, words_of}
use Rattle.spice_cards.specs.Tokens.{Token, Word, tokens_of}
use Rattle.spice_rows.specs.Kinds.{letter}
use Rattle.spice_rows.specs.Names.{is_text, names_of}
use Rattle.spice_rows.specs.Rows.{CardRow, Passed, begin, call_row, card_row, device_row, end_row, formed_row, global_row, is_known, is_passed, open_row, stop_row}
use Rattle.spice_rows.specs.Sizes.{Limits}
use Rattle.spice_rows.specs.declared.fault.SpiceFault.{SpiceFault}
use Rattle.spice_rows.specs.declared.fault.SpiceFault.TheVariants.{UnknownCard}
use Rattle.netlist_turn.specs.CardLaw.{IsPair, IsWord, kept_words, param_tokens, params_text, turned_params, words_text}
use Rattle.netlist_turn.specs.Devices.{Device, device_params, device_words, is_written, key_of, net_count}
use Rattle.netlist_turn.specs.Listed.{device_made, device_told, dropped, has_number, number_told, param_told, params_told, prefix, words_told}
use Rattle.netlist_turn.specs.Made.{Made, telling}
use Rattle.netlist_turn.specs.Words.{left_out}
use Rattle.netlist_turn.specs.declared.made.Kind.{Kind}
use Rattle.netlist_turn.specs.declared.made.Kind.TheVariants.{Number, Parameter}
use Rattle.netlist_turn.specs.declared.rows.Row.{Row}
use Rattle.netlist_turn.specs.declared.rows.Row.TheVariants.{Listed}
use Rattle.netlist_turn.specs.declared.settings.Settings.{Settings}
use Rattle.netlist_turn.proofs.CardText.{card_text_is, card_tokens_is}

-- ---- the text

kept_all : (ws : List (List ℕ)) → kept_words Listed ws ≡ ws
kept_all [] = refl
kept_all (w ∷ ws) = ap (λ (xs : List (List ℕ)). w ∷ xs) (kept_all ws)

dropped_text : (m : Made) (line : ℕ) (w : List ℕ) (o : Option Kind) → (dropped m line w o).text ≡ m.text
dropped_text m line w None = refl
dropped_text m line w (Some kind) = refl

words_text_same : (row : Row) (m : Made) (line : ℕ) (ws : List (List ℕ)) → (words_told row m line ws).text ≡ m.text
words_text_same row m line [] = refl
words_text_same row m line (w ∷ ws) = words_text_same row (dropped m line w (left_out row w ws)) line ws ∙ dropped_text m line w (left_out row w ws)

number_or : (b : Bool) (m : Made) (line : ℕ) (w : List ℕ) → (if b then telling m line Number w else m).text ≡ m.text
number_or true m line w = refl
number_or false m line w = refl

told_or : (b : Bool) (m : Made) (line : ℕ) (w : List ℕ) → (if b then m else telling m line Parameter w).text ≡ m.text
told_or true m line w = refl
told_or false m line w = refl

params_text_same : (kind : DeviceKind) (keys : List Param) (m : Made) (line : ℕ) (ps : List Param) → (params_told kind keys m line ps).text ≡ m.text
params_text_same kind keys m line [] = refl
params_text_same kind keys m line (p ∷ ps) =
    params_text_same kind keys (param_told kind keys m line p) line ps ∙ told_or (is_written kind (key_of keys p.key)) m line p.key

front_of : (p first r said : List ℕ) → p ++ ((first ++ r) ++ said) ≡ ((p ++ first) ++ r) ++ said
front_of p first r said = sym (append_assoc p (first ++ r) said) ∙ ap (λ (t : List ℕ). t ++ said) (sym (append_assoc p first r))

pub device_text_is : (s : Settings) (row : Row) (kind : DeviceKind) (d : Device) (m : Made) (line : ℕ) (first : List ℕ) (words : List (List ℕ)) (ps : List Param)
    → (device_made s row kind d m line first words ps).text
    ≡ m.text ++ (words_text ((prefix row kind ++ first) ∷ device_words d (kept_words row words)) ++ (params_text (turned_params s Listed (device_params kind d.keys ps)) ++ 0x0A ∷ []))
device_text_is s row kind d m line first words ps =
    let kept : List (List ℕ) = kept_words row words in
    let ws : List (List ℕ) = device_words d kept in
    let said : List ℕ = params_text (turned_params s Listed (device_params kind d.keys ps)) ++ 0x0A ∷ [] in
    let start : Made = device_told row kind d m line words ps in
    let worded : Made = words_told row m line words in
    let numbered : Made = number_told row d worded line kept in
    let same : (params_told kind d.keys numbered line ps).text ≡ m.text =
    params_text_same kind d.keys numbered line ps ∙ number_or (has_number row d kept) worded line (slice_index_or kept (net_count d) []) ∙ words_text_same row m line words in
    card_text_is s Listed start line first ws (device_params kind d.keys ps)
    ∙ ap (λ (xs : List (List ℕ)). start.text ++ (words_text (first ∷ xs) ++ said)) (kept_all ws)
    ∙ ap (λ (t : List ℕ). (t ++ prefix row kind) ++ (words_text (first ∷ ws) ++ said)) same
    ∙ append_assoc m.text (prefix row kind) (words_text (first ∷ ws) ++ said)
    ∙ ap (λ (t : List ℕ). m.text ++ t) (front_of (prefix row kind) first (0x20 ∷ words_text ws) said)

-- ---- the reading

abbrev said_tokens : List (List ℕ) → List Param → List Token
said_tokens ws ps = map Word ws ++ flat_map param_tokens ps

no_equals : (ws : List (List ℕ)) (ps : List Param) → begins_equals (said_tokens ws ps) ≡ false
no_equals [] [] = refl
no_equals [] (p ∷ ps) = refl
no_equals (w ∷ ws) ps = refl

words_are : (ws : List (List ℕ)) (ps : List Param) → words_of (said_tokens ws ps) ≡ ws
words_are [] [] = refl
words_are [] (p ∷ ps) = refl
words_are (w ∷ ws) ps =
    ap (λ (b : Bool). if b then [] else w ∷ words_of (said_tokens ws ps)) (no_equals ws ps) ∙ ap (λ (xs : List (List ℕ)). w ∷ xs) (words_are ws ps)

behind_are : (ws : List (List ℕ)) (ps : List Param) → behind_words (said_tokens ws ps) ≡ flat_map param_tokens ps
behind_are [] [] = refl
behind_are [] (p ∷ ps) = refl
behind_are (w ∷ ws) ps = ap (λ (b : Bool). if b then Word w ∷ said_tokens ws ps else behind_words (said_tokens ws ps)) (no_equals ws ps) ∙ behind_are ws ps

params_are : (ps : List Param) → params_of (flat_map param_tokens ps) ≡ Some ps
params_are [] = refl
params_are (p ∷ ps) = ap (λ (o : Option (List Param)). onto p o) (params_are ps)

-- a first word that a dot doesn't begin is none of these
dotless : (text bytes : List ℕ) (b n : ℕ) → folded_byte b ≡ n → (n == 0x2E) ≡ false → is_text (0x2E ∷ text) (b ∷ bytes) ≡ false
dotless text bytes b n h e = ap (λ (x : ℕ). (x == 0x2E) && bytes_eq (folded_bytes bytes) text) h ∙ ap (λ (t : Bool). t && bytes_eq (folded_bytes bytes) text) e

three : (p q r : Bool) → p ≡ false → q ≡ false → r ≡ false → (p || q || r) ≡ false
three p q r ep eq er = rw (ep, eq, er) refl

no_dot : (kind : DeviceKind) → (letter kind == 0x2E) ≡ false
no_dot Mos4 = refl
no_dot ResistorWithBulk = refl
no_dot Diode = refl

shown : (kind : DeviceKind) (b : ℕ) (bytes : List ℕ) → folded_byte b ≡ letter kind → is_passed (b ∷ bytes) ≡ false
shown kind b bytes h =
    three (is_text (codes ".MODEL") (b ∷ bytes)) (is_text (codes ".OPTION") (b ∷ bytes)) (is_text (codes ".OPTIONS") (b ∷ bytes))
    (dotless (codes "MODEL") bytes b (letter kind) h (no_dot kind)) (dotless (codes "OPTION") bytes b (letter kind) h (no_dot kind)) (dotless (codes "OPTIONS") bytes b (letter kind) h (no_dot kind))

-- which row a first letter has
abbrev known_from : ℕ → List ℕ → Bool
known_from x first =
    x == letter Mos4 || x == letter ResistorWithBulk || x == letter Diode || x == 0x58 || is_text (codes ".SUBCKT") first || is_text (codes ".ENDS") first || is_text (codes ".GLOBAL") first
    || is_text (codes ".END") first

known_letter : (kind : DeviceKind) (first : List ℕ) → known_from (letter kind) first ≡ true
known_letter Mos4 first = refl
known_letter ResistorWithBulk first = refl
known_letter Diode first = refl

abbrev row_from : ℕ → Option Limits → ℕ → Bool → List ℕ → List (List ℕ) → List Param → Result CardRow SpiceFault
row_from x limit line is_open first words ps =
    if x == letter Mos4 then device_row limit Mos4 line (names_of words) ps
    else if x == letter ResistorWithBulk then device_row limit ResistorWithBulk line (names_of words) ps
    else if x == letter Diode then device_row limit Diode line (names_of words) ps
    else if x == 0x58 then call_row line (names_of words) ps
    else if is_text (codes ".SUBCKT") first then open_row line is_open (names_of words) ps
    else if is_text (codes ".ENDS") first then end_row line is_open (names_of words) ps
    else if is_text (codes ".GLOBAL") first then global_row line (names_of words) ps
    else stop_row line words ps

device_letter : (kind : DeviceKind) (limits : Option Limits) (line : ℕ) (is_open : Bool) (first : List ℕ) (ws : List (List ℕ)) (ps : List Param)
    → row_from (letter kind) limits line is_open first ws ps ≡ device_row limits kind line (names_of ws) ps
device_letter Mos4 limits line is_open first ws ps = refl
device_letter ResistorWithBulk limits line is_open first ws ps = refl
device_letter Diode limits line is_open first ws ps = refl

pick : {A : Type 0} (p k : Bool) (x r e : A) → p ≡ false → k ≡ true → (if p then x else if k then r else e) ≡ r
pick p k x r e hp hk = rw (hp, hk) refl

row_is : (limits : Option Limits) (line : ℕ) (is_open : Bool) (kind : DeviceKind) (b : ℕ) (bytes : List ℕ) (ts : List Token) → folded_byte b ≡ letter kind
    → card_row limits line is_open (Word (b ∷ bytes) ∷ ts) ≡ formed_row limits line is_open (b ∷ bytes) (words_of ts) (params_of (behind_words ts))
row_is limits line is_open kind b bytes ts h =
    pick (is_passed (b ∷ bytes)) (is_known (b ∷ bytes)) (Ok Passed) (formed_row limits line is_open (b ∷ bytes) (words_of ts) (params_of (behind_words ts))) (Err (UnknownCard line))
    (shown kind b bytes h) (ap (λ (x : ℕ). known_from x (b ∷ bytes)) h ∙ known_letter kind (b ∷ bytes))

device_is : (limits : Option Limits) (line : ℕ) (is_open : Bool) (kind : DeviceKind) (b : ℕ) (bytes : List ℕ) (ws : List (List ℕ)) (ps : List Param) → folded_byte b ≡ letter kind
    → formed_row limits line is_open (b ∷ bytes) ws (Some ps) ≡ device_row limits kind line (names_of ws) ps
device_is limits line is_open kind b bytes ws ps h =
    ap (λ (x : ℕ). row_from x limits line is_open (b ∷ bytes) ws ps) h ∙ device_letter kind limits line is_open (b ∷ bytes) ws ps

pub device_read_is : (limits : Option Limits) (line : ℕ) (is_open : Bool) (kind : DeviceKind) (first : List ℕ) (ws : List (List ℕ)) (ps : List Param)
    → begin first ≡ letter kind → IsWord first → All IsWord ws → All IsPair ps
    → card_row limits line is_open (tokens_of (words_text (first ∷ ws) ++ params_text ps)) ≡ device_row limits kind line (names_of ws) ps
device_read_is limits line is_open kind [] ws ps h one more pairs = absurd one
device_read_is limits line is_open kind (b ∷ bytes) ws ps h one more pairs =
    let word : List ℕ = b ∷ bytes in
    let ts : List Token = said_tokens ws ps in
    ap (λ (xs : List Token). card_row limits line is_open xs) (card_tokens_is (word ∷ ws) ps (All-cons IsWord word ws one more) pairs)
    ∙ row_is limits line is_open kind b bytes ts h
    ∙ ap (λ (xs : List (List ℕ)). formed_row limits line is_open word xs (params_of (behind_words ts))) (words_are ws ps)
    ∙ ap (λ (xs : List Token). formed_row limits line is_open word ws (params_of xs)) (behind_are ws ps)
    ∙ ap (λ (o : Option (List Param)). formed_row limits line is_open word ws o) (params_are ps)
    ∙ device_is limits line is_open kind b bytes ws ps h
