-- A card of which nothing is told is written as it stands.
use Rattle.std.proofs.Common.{◌≡◌, ℕ, ◌-◌, ◌<◌, ◌==◌, Bool, true, false, List, [], ◌∷◌, ◌++◌, length, drop, length-drop, Option, Some, None, Result, Ok, Err, refl, sym, ap, ◌∙◌, arith}
use Rattle.std.specs.Prelude.{is_some, ◌&&◌, slice_range, if◌then◌else◌}
use Rattle.std.specs.Global.{Vec}
use Rattle.std.specs.List.{list_all}
use Rattle.std.specs.Str.{bytes_eq}
use Rattle.std.proofs.lemmas.List.{length-take-le}
use Rattle.std.proofs.lemmas.List.Folds.{list_all-append}
use Rattle.std.proofs.lemmas.Bool.{eqb-true}
use Rattle.fixed_num.specs.declared.femto.ValueFault.{ValueFault}
use Rattle.spice_cards.specs.Parts.{Param}
use Rattle.std.specs.Prelude.{codes}
use Rattle.netlist_turn.specs.CardLaw.{kept_or, kept_words, size_or, turned_params, turned_text, turned_value}
use Rattle.netlist_turn.specs.KeptLaw.{IsQuiet, is_of_card, tells_card}
use Rattle.netlist_turn.specs.Made.{Made, Told, by_factor, card_made, factor_at, meant, naming, param_made, params_made, size_made, telling, unquoting, value_for, value_made, word_made, word_or, words_made, writing}
use Rattle.netlist_turn.specs.Scale.{scaled, size_text}
use Rattle.netlist_turn.specs.Words.{has_escape, is_circuit_end, is_kept_key, is_number, is_none, is_params, is_quoted, left_out, unquoted}
use Rattle.netlist_turn.specs.declared.made.Kind.{Kind}
use Rattle.netlist_turn.specs.declared.made.Kind.TheVariants as kind
use Rattle.netlist_turn.specs.declared.rows.Row.{Row}
use Rattle.netlist_turn.specs.declared.scale.Factor.{Factor}
use Rattle.netlist_turn.specs.declared.rows.Row.TheVariants.{Device, Call, Opening, Ending, Plain, Passed, Capacitor, Resistor, Diode, Foreign, Unknown, Listed}
use Rattle.netlist_turn.specs.declared.settings.Settings.{Settings}

and_both : (a b : Bool) → (a && b) ≡ true → (a ≡ true) × (b ≡ true)
and_both true b h = (refl, h)
and_both false b h = let f : false ≡ true = h in absurd (let z : ⊥ = cc in z)

last_told : (xs : List Told) (t : Told) → list_all tells_card (xs ++ t ∷ []) ≡ true → (list_all tells_card xs ≡ true) × (tells_card t ≡ true)
last_told xs t h =
    let parts = and_both (list_all tells_card xs) (list_all tells_card (t ∷ [])) (sym (list_all-append tells_card xs (t ∷ [])) ∙ h) in
    let one = and_both (tells_card t) true parts.1 in
    (parts.0, one.0)

-- a change that is no card is none
pub untold : {A : Type 0} (m : Made) (line : ℕ) (k : Kind) (w : List ℕ) → is_of_card k ≡ false → IsQuiet (telling m line k w) → A
untold m line k w isnt h =
    let told = last_told m.told (let t : Told = record { line = line; kind = k; word = w } in t) h in
    let f : false ≡ true = sym isnt ∙ told.1 in absurd (let z : ⊥ = cc in z)

pub before_telling : (m : Made) (line : ℕ) (k : Kind) (w : List ℕ) → IsQuiet (telling m line k w) → IsQuiet m
before_telling m line k w h = let told = last_told m.told (let t : Told = record { line = line; kind = k; word = w } in t) h in told.0

-- ---- words

word_by : (b : Bool) (m : Made) (line : ℕ) (k : Kind) (w : List ℕ) → is_of_card k ≡ false → IsQuiet (if b then telling m line k w else m) → IsQuiet m
word_by true m line k w isnt h = untold m line k w isnt h
word_by false m line k w isnt h = h

word_quiet : (m : Made) (line : ℕ) (w : List ℕ) → IsQuiet (word_made m line w) → IsQuiet m
word_quiet m line w h = word_by (has_escape w) (writing (writing m w) (0x20 ∷ [])) line kind.Name w refl h

-- nothing that is left out is a card
abbrev IsNoCard : Option Kind → Type 0
IsNoCard None = Unit {0}
IsNoCard (Some k) = is_of_card k ≡ false

params_by : (b : Bool) → IsNoCard (if b then Some kind.Params else None)
params_by true = refl
params_by false = tt

number_by : (b : Bool) → IsNoCard (if b then Some kind.Number else None)
number_by true = refl
number_by false = tt

slash_by : (a b : Bool) → IsNoCard (if a then Some kind.Params else if b then Some kind.Slash else None)
slash_by true b = refl
slash_by false true = refl
slash_by false false = tt

left_is : (row : Row) (w : List ℕ) (ws : List (List ℕ)) → IsNoCard (left_out row w ws)
left_is Device w ws = tt
left_is Call w ws = slash_by (is_params w && is_none ws) (bytes_eq w (codes "/") && is_circuit_end ws)
left_is Opening w ws = params_by (is_params w && is_none ws)
left_is Ending w ws = tt
left_is Plain w ws = tt
left_is Passed w ws = tt
left_is Capacitor w ws = number_by (is_none ws && is_number w)
left_is Resistor w ws = number_by (is_none ws && is_number w)
left_is Diode w ws = tt
left_is Foreign w ws = number_by (is_none ws && is_number w)
left_is Unknown w ws = tt
left_is Listed w ws = tt

or_quiet : (m : Made) (line : ℕ) (w : List ℕ) (o : Option Kind) → IsNoCard o → IsQuiet (word_or m line w o) → IsQuiet m × (o ≡ None)
or_quiet m line w None isnt h = (word_quiet m line w h, refl)
or_quiet m line w (Some k) isnt h = untold m line k w isnt h

pub words_quiet : (row : Row) (m : Made) (line : ℕ) (ws : List (List ℕ)) → IsQuiet (words_made row m line ws) → IsQuiet m × (kept_words row ws ≡ ws)
words_quiet row m line [] h = (h, refl)
words_quiet row m line (w ∷ ws) h =
    let more = words_quiet row (word_or m line w (left_out row w ws)) line ws h in
    let one = or_quiet m line w (left_out row w ws) (left_is row w ws) more.0 in (
      one.0,
      ap (λ (o : Option Kind). kept_or w o (kept_words row ws)) one.1
          ∙ ap (λ (xs : List (List ℕ)). w ∷ xs) more.1,
    )

-- ---- values

uneven : (t : Bool) (a b : ℕ) → (a == b) ≡ t → (a ≡ b → ⊥) → t ≡ false
uneven false a b e apart = refl
uneven true a b e apart = absurd (apart (eqb-true a b e))

ranged : (v : List ℕ) → 1 < length v → (length (slice_range v 1 (length v - 1)) == length v) ≡ false
ranged v h =
    let n : ℕ = length v - 1 - 1 in
    let short : length (slice_range v 1 (length v - 1)) ≡ n = length-take-le n (drop 1 v) (omega (arith, length-drop 1 v, h)) in
    uneven (length (slice_range v 1 (length v - 1)) == length v) (length (slice_range v 1 (length v - 1))) (length v) refl (λ e. let z : ⊥ = omega (arith, short, e, h) in z)

unquoted_by : (b : Bool) (v : List ℕ) → (b ≡ true → 1 < length v) → (length (if b then slice_range v 1 (length v - 1) else v) == length v) ≡ true → (if b then slice_range v 1 (length v - 1) else v) ≡ v
unquoted_by true v long h = let f : false ≡ true = sym (ranged v (long refl)) ∙ h in absurd (let z : ⊥ = cc in z)
unquoted_by false v long h = refl

quoted_long : (v : List ℕ) → is_quoted v ≡ true → 1 < length v
quoted_long v h = grind arith

unquoting_by : (b : Bool) (m : Made) (line : ℕ) (v : List ℕ) → IsQuiet (if b then m else telling m line kind.Quotes v) → IsQuiet m × (b ≡ true)
unquoting_by true m line v h = (h, refl)
unquoting_by false m line v h = untold m line kind.Quotes v refl h

naming_quiet : (m : Made) (line : ℕ) (plain : List ℕ) (o : Option (Vec ℕ)) → IsQuiet (naming m line plain o) → IsQuiet m × (o ≡ None)
naming_quiet m line plain None h = (h, refl)
naming_quiet m line plain (Some text) h = untold m line kind.Value plain refl h

size_quiet : (m : Made) (line : ℕ) (key text : List ℕ) (f : Factor) (r : Result ℕ ValueFault) → IsQuiet (size_made m line key text f r) → IsQuiet m × (size_or text f r ≡ text)
size_quiet m line key text f (Ok n) h = untold (writing m (size_text f n)) line kind.Size key refl h
size_quiet m line key text f (Err e) h = (h, refl)

factor_quiet : (m : Made) (line : ℕ) (key text : List ℕ) (o : Option Factor) → IsQuiet (by_factor m line key text o) → IsQuiet m × (turned_text o text ≡ text)
factor_quiet m line key text None h = (h, refl)
factor_quiet m line key text (Some factor) h = size_quiet m line key text factor (scaled factor text) h

value_quiet : (s : Settings) (row : Row) (m : Made) (line : ℕ) (p : Param) → IsQuiet (value_made s row m line p) → IsQuiet m × (turned_value s row p ≡ p.value)
value_quiet s row m line p h =
    let plain : List ℕ = unquoted p.value in
    let found : Option (Vec ℕ) = value_for s (unquoted p.value) in
    let factored = factor_quiet (naming (unquoting m line p.value) line plain found) line p.key (meant plain found) (factor_at s row p.key) h in
    let named = naming_quiet (unquoting m line p.value) line plain found factored.0 in
    let opened = unquoting_by (length plain == length p.value) m line p.value named.0 in (
      opened.0,
      factored.1 ∙ ap (λ (o : Option (Vec ℕ)). meant plain o) named.1 ∙ unquoted_by (is_quoted p.value) p.value (λ q. quoted_long p.value q) opened.1,
    )

param_by : (b : Bool) (s : Settings) (row : Row) (m : Made) (line : ℕ) (p : Param)
    → IsQuiet (if b then value_made s row (writing (writing m p.key) (0x3D ∷ [])) line p else telling m line kind.Parameter p.key)
    → IsQuiet m × (b ≡ true) × (turned_value s row p ≡ p.value)
param_by true s row m line p h = let v = value_quiet s row (writing (writing m p.key) (0x3D ∷ [])) line p h in (v.0, refl, v.1)
param_by false s row m line p h = untold m line kind.Parameter p.key refl h

pub params_quiet : (s : Settings) (row : Row) (m : Made) (line : ℕ) (ps : List Param) → IsQuiet (params_made s row m line ps) → IsQuiet m × (turned_params s row ps ≡ ps)
params_quiet s row m line [] h = (h, refl)
params_quiet s row m line (p ∷ ps) h =
    let more = params_quiet s row (param_made s row m line p) line ps h in
    let one = param_by (is_kept_key (is_some s.scale) row p.key) s row m line p more.0 in (
      one.0,
      ap (λ (b : Bool). if b then (let q : Param = record { key = p.key; value = turned_value s row p } in q) ∷ turned_params s row ps else turned_params s row ps) one.1
          ∙ ap (λ (v : List ℕ). (let q : Param = record { key = p.key; value = v } in q) ∷ turned_params s row ps) one.2
          ∙ ap (λ (qs : List Param). p ∷ qs) more.1,
    )

-- ---- a card

pub card_quiet : (s : Settings) (row : Row) (m : Made) (line : ℕ) (first : List ℕ) (words : List (List ℕ)) (ps : List Param) → IsQuiet (card_made s row m line first words ps)
    → IsQuiet m × (kept_words row words ≡ words) × (turned_params s row ps ≡ ps)
card_quiet s row m line first words ps h =
    let params = params_quiet s row (words_made row (word_made m line first) line words) line ps h in
    let said = words_quiet row (word_made m line first) line words params.0 in
    (word_quiet m line first said.0, said.1, params.1)

-- ---- where the next card stands

told_at : (b : Bool) (m : Made) (line : ℕ) (k : Kind) (w : List ℕ) → (if b then telling m line k w else m).at ≡ m.at
told_at true m line k w = refl
told_at false m line k w = refl

or_told_at : (b : Bool) (m : Made) (line : ℕ) (k : Kind) (w : List ℕ) → (if b then m else telling m line k w).at ≡ m.at
or_told_at true m line k w = refl
or_told_at false m line k w = refl

word_at : (m : Made) (line : ℕ) (w : List ℕ) → (word_made m line w).at ≡ m.at
word_at m line w = told_at (has_escape w) (writing (writing m w) (0x20 ∷ [])) line kind.Name w

or_at : (m : Made) (line : ℕ) (w : List ℕ) (o : Option Kind) → (word_or m line w o).at ≡ m.at
or_at m line w None = word_at m line w
or_at m line w (Some k) = refl

words_at : (row : Row) (m : Made) (line : ℕ) (ws : List (List ℕ)) → (words_made row m line ws).at ≡ m.at
words_at row m line [] = refl
words_at row m line (w ∷ ws) = words_at row (word_or m line w (left_out row w ws)) line ws ∙ or_at m line w (left_out row w ws)

size_at : (m : Made) (line : ℕ) (key text : List ℕ) (f : Factor) (r : Result ℕ ValueFault) → (size_made m line key text f r).at ≡ m.at
size_at m line key text f (Ok n) = refl
size_at m line key text f (Err e) = refl

by_factor_at : (m : Made) (line : ℕ) (key text : List ℕ) (o : Option Factor) → (by_factor m line key text o).at ≡ m.at
by_factor_at m line key text None = refl
by_factor_at m line key text (Some factor) = size_at m line key text factor (scaled factor text)

naming_at : (m : Made) (line : ℕ) (plain : List ℕ) (o : Option (Vec ℕ)) → (naming m line plain o).at ≡ m.at
naming_at m line plain None = refl
naming_at m line plain (Some text) = refl

value_at : (s : Settings) (row : Row) (m : Made) (line : ℕ) (p : Param) → (value_made s row m line p).at ≡ m.at
value_at s row m line p =
    let plain : List ℕ = unquoted p.value in
    let found : Option (Vec ℕ) = value_for s (unquoted p.value) in
    by_factor_at (naming (unquoting m line p.value) line plain found) line p.key (meant plain found) (factor_at s row p.key)
    ∙ naming_at (unquoting m line p.value) line plain found ∙ or_told_at (length plain == length p.value) m line kind.Quotes p.value

param_at : (b : Bool) (s : Settings) (row : Row) (m : Made) (line : ℕ) (p : Param)
    → (if b then value_made s row (writing (writing m p.key) (0x3D ∷ [])) line p else telling m line kind.Parameter p.key).at ≡ m.at
param_at true s row m line p = value_at s row (writing (writing m p.key) (0x3D ∷ [])) line p
param_at false s row m line p = refl

params_at : (s : Settings) (row : Row) (m : Made) (line : ℕ) (ps : List Param) → (params_made s row m line ps).at ≡ m.at
params_at s row m line [] = refl
params_at s row m line (p ∷ ps) = params_at s row (param_made s row m line p) line ps ∙ param_at (is_kept_key (is_some s.scale) row p.key) s row m line p

pub card_at : (s : Settings) (row : Row) (m : Made) (line : ℕ) (first : List ℕ) (words : List (List ℕ)) (ps : List Param) → (card_made s row m line first words ps).at ≡ m.at
card_at s row m line first words ps =
    params_at s row (words_made row (word_made m line first) line words) line ps ∙ words_at row (word_made m line first) line words ∙ word_at m line first
