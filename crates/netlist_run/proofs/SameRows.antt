-- A card says the same on each line.
use Rattle.std.proofs.Common.{◌≡◌, ℕ, ◌==◌, Bool, true, false, List, [], ◌∷◌, Option, Some, None, Result, Ok, Err, refl, sym, ap}
use Rattle.std.specs.Prelude.{codes, not, ◌&&◌, ◌||◌, if◌then◌else◌}
use Rattle.std.specs.List.{list_any}
use Rattle.std.specs.Str.{bytes_eq}
use Rattle.std.proofs.lemmas.Bool.{eqb-true}
use Rattle.fixed_num.specs.declared.femto.ValueFault.{ValueFault}
use Rattle.net_names.specs.Folding.{folded_byte, folded_bytes}
use Rattle.plain_netlist.specs.declared.kinds.DeviceKind.{DeviceKind}
use Rattle.plain_netlist.specs.declared.kinds.DeviceKind.TheVariants.{Mos4, ResistorWithBulk, Diode as DiodeKind}
use Rattle.spice_cards.specs.Tokens.{Token, Word, Equals}
use Rattle.spice_cards.specs.Parts.{Param, behind_words, params_of, words_of}
use Rattle.spice_rows.specs.Kinds.{letter}
use Rattle.spice_rows.specs.Names.{are_apart, is_text, names_of}
use Rattle.spice_rows.specs.Params.{copies_of, is_one, is_refused}
use Rattle.spice_rows.specs.Rows.{CardRow, Opens, Ends, Globals, Stops, Passed, Device, Call, DeviceCard, begin, call_row, card_of, card_row, copies_said, device_of, device_row, end_row, formed_row, global_row, is_formed, is_known, is_passed, no_params, open_row, row_of, stop_row}
use Rattle.spice_rows.specs.Sizes.{Limits, sizes_of}
use Rattle.spice_rows.specs.declared.fault.SpiceFault.{SpiceFault}
use Rattle.spice_rows.specs.declared.fault.SpiceFault.TheVariants.{BadLine, ParameterRefused, UnknownCard}
use Rattle.netlist_turn.specs.KeptLaw.{is_passed_row, is_silent}
use Rattle.netlist_turn.specs.declared.rows.Row.TheVariants as turned
use Rattle.netlist_turn.specs.Words.{is_analysis_word, is_option, is_output_word, is_passed_word}
use Rattle.netlist_run.specs.Kept.{is_end}

abbrev Read : Type 0
Read = Result CardRow SpiceFault

-- what a card says, on another line
abbrev pub on_line : ℕ → CardRow → CardRow
on_line n (Call r) = Call (record r { line = n })
on_line n (Opens name pins) = Opens name pins
on_line n Ends = Ends
on_line n (Globals names) = Globals names
on_line n Stops = Stops
on_line n Passed = Passed
on_line n (Device card copies) = Device card copies

-- where the one is a row, the other is the same row on its line
abbrev pub IsAlike : ℕ → Read → Read → Type 0
IsAlike n (Err e) other = Unit {0}
IsAlike n (Ok row) other = other ≡ Ok (on_line n row)

either : (b : Bool) (n : ℕ) (x y p q : Read) → IsAlike n x p → IsAlike n y q → IsAlike n (if b then x else y) (if b then p else q)
either true n x y p q h g = h
either false n x y p q h g = g

copies_alike : (m n copies : ℕ) (o : Option DeviceCard) → IsAlike n (copies_said m copies o) (copies_said n copies o)
copies_alike m n copies None = tt
copies_alike m n copies (Some card) = refl

device_alike : (m n copies : ℕ) (kind : DeviceKind) (names : List (List ℕ)) (r : Result (List ℕ) ValueFault) → IsAlike n (device_of m copies kind names r) (device_of n copies kind names r)
device_alike m n copies kind names (Err e) = tt
device_alike m n copies kind names (Ok sizes) = copies_alike m n copies (card_of kind names sizes)

row_alike : (limits : Option Limits) (kind : DeviceKind) (m n : ℕ) (names : Option (List (List ℕ))) (ps : List Param) → IsAlike n (device_row limits kind m names ps) (device_row limits kind n names ps)
row_alike limits kind m n None ps = tt
row_alike limits kind m n (Some names) ps =
    either (not (is_formed kind names ps)) n (Err (BadLine m)) (if list_any (is_refused kind) ps then Err (ParameterRefused m) else device_of m (copies_of ps) kind names (sizes_of limits kind ps))
    (Err (BadLine n)) (if list_any (is_refused kind) ps then Err (ParameterRefused n) else device_of n (copies_of ps) kind names (sizes_of limits kind ps)) tt
    (either (list_any (is_refused kind) ps) n (Err (ParameterRefused m)) (device_of m (copies_of ps) kind names (sizes_of limits kind ps))
    (Err (ParameterRefused n)) (device_of n (copies_of ps) kind names (sizes_of limits kind ps)) tt (device_alike m n (copies_of ps) kind names (sizes_of limits kind ps)))

call_by : (b : Bool) (m n : ℕ) (nets : List (List ℕ)) (circuit : List ℕ)
    → IsAlike n (if b then Err (ParameterRefused m) else Ok (Call (record { line = m; nets = nets; circuit = circuit })))
    (if b then Err (ParameterRefused n) else Ok (Call (record { line = n; nets = nets; circuit = circuit })))
call_by true m n nets circuit = tt
call_by false m n nets circuit = refl

call_alike : (m n : ℕ) (names : Option (List (List ℕ))) (ps : List Param) → IsAlike n (call_row m names ps) (call_row n names ps)
call_alike m n None ps = tt
call_alike m n (Some []) ps = tt
call_alike m n (Some (w ∷ ws)) ps = call_by (list_any (λ p. not (is_one p)) ps) m n _ _

opens_alike : (m n : ℕ) (ps : List Param) (name : List ℕ) (pins : List (List ℕ)) → IsAlike n (no_params m ps (Opens name pins)) (no_params n ps (Opens name pins))
opens_alike m n [] name pins = refl
opens_alike m n (p ∷ ps) name pins = tt

open_alike : (m n : ℕ) (open_one : Bool) (names : Option (List (List ℕ))) (ps : List Param) → IsAlike n (open_row m open_one names ps) (open_row n open_one names ps)
open_alike m n true names ps = tt
open_alike m n false None ps = tt
open_alike m n false (Some []) ps = tt
open_alike m n false (Some (name ∷ pins)) ps =
    either (are_apart pins) n (no_params m ps (Opens name pins)) (Err (BadLine m)) (no_params n ps (Opens name pins)) (Err (BadLine n)) (opens_alike m n ps name pins) tt

end_alike : (m n : ℕ) (open_one : Bool) (names : Option (List (List ℕ))) (ps : List Param) → IsAlike n (end_row m open_one names ps) (end_row n open_one names ps)
end_alike m n false None [] = tt
end_alike m n false None (p ∷ ps) = tt
end_alike m n false (Some []) [] = tt
end_alike m n false (Some []) (p ∷ ps) = tt
end_alike m n false (Some (w ∷ [])) [] = tt
end_alike m n false (Some (w ∷ [])) (p ∷ ps) = tt
end_alike m n false (Some (w ∷ v ∷ ws)) [] = tt
end_alike m n false (Some (w ∷ v ∷ ws)) (p ∷ ps) = tt
end_alike m n true None [] = tt
end_alike m n true None (p ∷ ps) = tt
end_alike m n true (Some []) [] = refl
end_alike m n true (Some []) (p ∷ ps) = tt
end_alike m n true (Some (w ∷ [])) [] = refl
end_alike m n true (Some (w ∷ [])) (p ∷ ps) = tt
end_alike m n true (Some (w ∷ v ∷ ws)) [] = tt
end_alike m n true (Some (w ∷ v ∷ ws)) (p ∷ ps) = tt

global_alike : (m n : ℕ) (names : Option (List (List ℕ))) (ps : List Param) → IsAlike n (global_row m names ps) (global_row n names ps)
global_alike m n None [] = tt
global_alike m n None (p ∷ ps) = tt
global_alike m n (Some []) [] = tt
global_alike m n (Some []) (p ∷ ps) = tt
global_alike m n (Some (w ∷ ws)) [] = refl
global_alike m n (Some (w ∷ ws)) (p ∷ ps) = tt

stop_alike : (m n : ℕ) (words : List (List ℕ)) (ps : List Param) → IsAlike n (stop_row m words ps) (stop_row n words ps)
stop_alike m n [] [] = refl
stop_alike m n [] (p ∷ ps) = tt
stop_alike m n (w ∷ ws) [] = tt
stop_alike m n (w ∷ ws) (p ∷ ps) = tt

rows_alike : (limit : Option Limits) (m n : ℕ) (open_one : Bool) (first : List ℕ) (words : List (List ℕ)) (ps : List Param)
    → IsAlike n (row_of limit m open_one first words ps) (row_of limit n open_one first words ps)
rows_alike limit m n open_one first words ps =
    either (begin first == letter Mos4) n _ _ _ _ (row_alike limit Mos4 m n (names_of words) ps)
    (either (begin first == letter ResistorWithBulk) n _ _ _ _ (row_alike limit ResistorWithBulk m n (names_of words) ps)
    (either (begin first == letter DiodeKind) n _ _ _ _ (row_alike limit DiodeKind m n (names_of words) ps)
    (either (begin first == 0x58) n _ _ _ _ (call_alike m n (names_of words) ps)
    (either (is_text (codes ".SUBCKT") first) n _ _ _ _ (open_alike m n open_one (names_of words) ps)
    (either (is_text (codes ".ENDS") first) n _ _ _ _ (end_alike m n open_one (names_of words) ps)
    (either (is_text (codes ".GLOBAL") first) n _ _ _ _ (global_alike m n (names_of words) ps)
    (stop_alike m n words ps)))))))

formed_alike : (limit : Option Limits) (m n : ℕ) (open_one : Bool) (first : List ℕ) (words : List (List ℕ)) (o : Option (List Param))
    → IsAlike n (formed_row limit m open_one first words o) (formed_row limit n open_one first words o)
formed_alike limit m n open_one first words None = tt
formed_alike limit m n open_one first words (Some ps) = rows_alike limit m n open_one first words ps

pub card_alike : (limit : Option Limits) (m n : ℕ) (open_one : Bool) (ts : List Token) → IsAlike n (card_row limit m open_one ts) (card_row limit n open_one ts)
card_alike limit m n open_one [] = tt
card_alike limit m n open_one (Equals ∷ ts) = tt
card_alike limit m n open_one (Word first ∷ ts) =
    either (is_passed first) n _ _ _ _ refl
    (either (is_known first) n _ _ _ _ (formed_alike limit m n open_one first (words_of ts) (params_of (behind_words ts))) tt)

-- ---- cards that say nothing

or_case : {A : Type 0} (a b : Bool) → (a || b) ≡ true → (a ≡ true → A) → (b ≡ true → A) → A
or_case true b h f g = f refl
or_case false b h f g = g h

and_first : (a b : Bool) → (a && b) ≡ true → a ≡ true
and_first true b h = refl
and_first false b h = let f : false ≡ true = h in absurd (let z : ⊥ = cc in z)

dotted : (text w : List ℕ) → is_text (0x2E ∷ text) w ≡ true → begin w ≡ 0x2E
dotted text [] h = let f : false ≡ true = h in absurd (let z : ⊥ = cc in z)
dotted text (b ∷ w) h = eqb-true (folded_byte b) 0x2E (and_first (folded_byte b == 0x2E) (bytes_eq (folded_bytes w) text) h)

dotted_one : (texts : List (List ℕ)) (w : List ℕ) → list_any (λ text. is_text (0x2E ∷ text) w) texts ≡ true → begin w ≡ 0x2E
dotted_one [] w h = let f : false ≡ true = h in absurd (let z : ⊥ = cc in z)
dotted_one (text ∷ texts) w h =
    or_case (is_text (0x2E ∷ text) w) (list_any (λ text. is_text (0x2E ∷ text) w) texts) h (dotted text w) (dotted_one texts w)

-- eight words, of which it is one
eight : (a b c d e f g h : Bool) → (a || b || c || d || e || f || g || h) ≡ true → (a || (b || (c || (d || (e || (f || (g || (h || false)))))))) ≡ true
eight true b c d e f g h k = refl
eight false true c d e f g h k = refl
eight false false true d e f g h k = refl
eight false false false true e f g h k = refl
eight false false false false true f g h k = refl
eight false false false false false true g h k = refl
eight false false false false false false true h k = refl
eight false false false false false false false true k = refl
eight false false false false false false false false k = k

analysis_dotted : (w : List ℕ) → is_analysis_word w ≡ true → begin w ≡ 0x2E
analysis_dotted w h =
    let t : List ℕ → Bool = λ text. is_text text w in
    dotted_one (codes "TRAN" ∷ codes "AC" ∷ codes "DC" ∷ codes "OP" ∷ codes "NOISE" ∷ codes "FOUR" ∷ codes "IC" ∷ codes "NODESET" ∷ []) w
    (eight (t (codes ".TRAN")) (t (codes ".AC")) (t (codes ".DC")) (t (codes ".OP")) (t (codes ".NOISE")) (t (codes ".FOUR")) (t (codes ".IC")) (t (codes ".NODESET")) h)

output_dotted : (w : List ℕ) → is_output_word w ≡ true → begin w ≡ 0x2E
output_dotted w h =
    let t : List ℕ → Bool = λ text. is_text text w in
    dotted_one (codes "SAVE" ∷ codes "PRINT" ∷ codes "PLOT" ∷ codes "PROBE" ∷ codes "MEAS" ∷ codes "MEASURE" ∷ codes "WIDTH" ∷ codes "TITLE" ∷ []) w
    (eight (t (codes ".SAVE")) (t (codes ".PRINT")) (t (codes ".PLOT")) (t (codes ".PROBE")) (t (codes ".MEAS")) (t (codes ".MEASURE")) (t (codes ".WIDTH")) (t (codes ".TITLE")) h)

passed_dotted : (w : List ℕ) → is_passed_word w ≡ true → begin w ≡ 0x2E
passed_dotted w h =
    let t : List ℕ → Bool = λ text. is_text text w in
    let param = t (codes ".PARAM") in
    let device = t (codes ".DEVICE") in
    let include = t (codes ".INCLUDE") in
    let inc = t (codes ".INC") in
    let lib = t (codes ".LIB") in
    let endl = t (codes ".ENDL") in
    let model = t (codes ".MODEL") in
    let temp = t (codes ".TEMP") in
    let end = t (codes ".END") in
    or_case (param || device || include || inc || lib || endl || model || is_option w || temp || end || is_analysis_word w) (is_output_word w) h
    (λ h0. or_case (param || device || include || inc || lib || endl || model || is_option w || temp || end) (is_analysis_word w) h0
    (λ hh. or_case (param || device || include || inc || lib || endl || model || is_option w || temp) end hh
    (λ h1. or_case (param || device || include || inc || lib || endl || model || is_option w) temp h1
    (λ h2. or_case (param || device || include || inc || lib || endl || model) (is_option w) h2
    (λ h3. or_case (param || device || include || inc || lib || endl) model h3
    (λ h4. or_case (param || device || include || inc || lib) endl h4
    (λ h5. or_case (param || device || include || inc) lib h5
    (λ h6. or_case (param || device || include) inc h6
    (λ h7. or_case (param || device) include h7
    (λ h8. or_case param device h8 (dotted (codes "PARAM") w) (dotted (codes "DEVICE") w))
    (dotted (codes "INCLUDE") w))
    (dotted (codes "INC") w))
    (dotted (codes "LIB") w))
    (dotted (codes "ENDL") w))
    (dotted (codes "MODEL") w))
    (λ o. or_case (t (codes ".OPTION")) (t (codes ".OPTIONS")) o (dotted (codes "OPTION") w) (dotted (codes "OPTIONS") w)))
    (dotted (codes "TEMP") w))
    (dotted (codes "END") w))
    (analysis_dotted w))
    (output_dotted w)

record IsPassedBy (circuit ends global passed : Bool) : Type 0 where
  circuit_not : circuit ≡ false
  ends_not : ends ≡ false
  global_not : global ≡ false
  passed_so : passed ≡ true

not_so : {A : Type 0} → false ≡ true → A
not_so h = absurd (let z : ⊥ = cc in z)

passed_by : (a b c d p q e f g h : Bool)
    → is_passed_row (if a then turned.Device else if b then turned.Call else if c then turned.Capacitor else if d then turned.Resistor else if p then turned.Diode else if q then turned.Foreign
    else if e then turned.Opening else if f then turned.Ending else if g then turned.Plain else if h then turned.Passed else turned.Unknown) ≡ true
    → IsPassedBy e f g h
passed_by true b c d p q e f g h is = not_so is
passed_by false true c d p q e f g h is = not_so is
passed_by false false true d p q e f g h is = not_so is
passed_by false false false true p q e f g h is = not_so is
passed_by false false false false true q e f g h is = not_so is
passed_by false false false false false true e f g h is = not_so is
passed_by false false false false false false true f g h is = not_so is
passed_by false false false false false false false true g h is = not_so is
passed_by false false false false false false false false true h is = not_so is
passed_by false false false false false false false false false true is = record { circuit_not = refl; ends_not = refl; global_not = refl; passed_so = refl }
passed_by false false false false false false false false false false is = not_so is

-- such a card is passed over, or ends the text
abbrev pub IsSilentRow : Bool → Read → Type 0
IsSilentRow end (Err e) = Unit {0}
IsSilentRow end (Ok Passed) = Unit {0}
IsSilentRow end (Ok Stops) = end ≡ true
IsSilentRow end (Ok Ends) = ⊥
IsSilentRow end (Ok (Opens name pins)) = ⊥
IsSilentRow end (Ok (Globals names)) = ⊥
IsSilentRow end (Ok (Device card copies)) = ⊥
IsSilentRow end (Ok (Call r)) = ⊥

stop_silent : (n : ℕ) (words : List (List ℕ)) (ps : List Param) → IsSilentRow true (stop_row n words ps)
stop_silent n [] [] = refl
stop_silent n [] (p ∷ ps) = tt
stop_silent n (w ∷ ws) [] = tt
stop_silent n (w ∷ ws) (p ∷ ps) = tt

last_row : (a b c d e f g : Bool) (u v w x y z t s : Read) → a ≡ false → b ≡ false → c ≡ false → d ≡ false → e ≡ false → f ≡ false → g ≡ false → IsSilentRow true s
    → IsSilentRow true (if a then u else if b then v else if c then w else if d then x else if e then y else if f then z else if g then t else s)
last_row a b c d e f g u v w x y z t s ea eb ec ed ee ef eg is = rw (ea, eb, ec, ed, ee, ef, eg) is

last_known : (a b c d e f g h : Bool) → a ≡ false → b ≡ false → c ≡ false → d ≡ false → e ≡ false → f ≡ false → g ≡ false → (a || b || c || d || e || f || g || h) ≡ h
last_known a b c d e f g h ea eb ec ed ee ef eg = rw (ea, eb, ec, ed, ee, ef, eg) refl

formed_silent : (limit : Option Limits) (n : ℕ) (open_one : Bool) (first : List ℕ) (words : List (List ℕ)) (o : Option (List Param)) → begin first ≡ 0x2E
    → is_text (codes ".SUBCKT") first ≡ false → is_text (codes ".ENDS") first ≡ false → is_text (codes ".GLOBAL") first ≡ false
    → IsSilentRow true (formed_row limit n open_one first words o)
formed_silent limit n open_one first words None dot e f g = tt
formed_silent limit n open_one first words (Some ps) dot e f g =
    last_row (begin first == letter Mos4) (begin first == letter ResistorWithBulk) (begin first == letter DiodeKind) (begin first == 0x58)
    (is_text (codes ".SUBCKT") first) (is_text (codes ".ENDS") first) (is_text (codes ".GLOBAL") first)
    (device_row limit Mos4 n (names_of words) ps) (device_row limit ResistorWithBulk n (names_of words) ps) (device_row limit DiodeKind n (names_of words) ps) (call_row n (names_of words) ps)
    (open_row n open_one (names_of words) ps) (end_row n open_one (names_of words) ps) (global_row n (names_of words) ps) (stop_row n words ps)
    (ap (λ (b : ℕ). b == letter Mos4) dot) (ap (λ (b : ℕ). b == letter ResistorWithBulk) dot) (ap (λ (b : ℕ). b == letter DiodeKind) dot) (ap (λ (b : ℕ). b == 0x58) dot) e f g
    (stop_silent n words ps)

silent_by : (p k end : Bool) (n : ℕ) (r : Read) → k ≡ end → IsSilentRow true r → IsSilentRow end (if p then Ok Passed else if k then r else Err (UnknownCard n))
silent_by true k end n r e is = tt
silent_by false true end n r e is = rw (sym e) is
silent_by false false end n r e is = tt

pub silent_row : (limit : Option Limits) (n : ℕ) (open_one : Bool) (ts : List Token) → is_silent ts ≡ true → IsSilentRow (is_end ts) (card_row limit n open_one ts)
silent_row limit n open_one [] h = not_so h
silent_row limit n open_one (Equals ∷ ts) h = not_so h
silent_row limit n open_one (Word first ∷ ts) h =
    let by = passed_by (begin first == 0x4D) (begin first == 0x58) (begin first == 0x43) (begin first == 0x52) (begin first == 0x44) (begin first == 0x51 || begin first == 0x4C) (is_text (codes ".SUBCKT") first) (is_text (codes ".ENDS") first) (is_text (codes ".GLOBAL") first)
    (is_passed_word first) h in
    let dot = passed_dotted first by.passed_so in
    silent_by (is_passed first) (is_known first) (is_text (codes ".END") first) n (formed_row limit n open_one first (words_of ts) (params_of (behind_words ts)))
    (last_known (begin first == letter Mos4) (begin first == letter ResistorWithBulk) (begin first == letter DiodeKind) (begin first == 0x58)
    (is_text (codes ".SUBCKT") first) (is_text (codes ".ENDS") first) (is_text (codes ".GLOBAL") first) (is_text (codes ".END") first)
    (ap (λ (b : ℕ). b == letter Mos4) dot) (ap (λ (b : ℕ). b == letter ResistorWithBulk) dot) (ap (λ (b : ℕ). b == letter DiodeKind) dot) (ap (λ (b : ℕ). b == 0x58) dot) by.circuit_not by.ends_not by.global_not)
    (formed_silent limit n open_one first (words_of ts) (params_of (behind_words ts)) dot by.circuit_not by.ends_not by.global_not)
