-- Where nothing is told but cards, what is written are the cards that say something.
use Rattle.std.proofs.Common.{◌≡◌, ℕ, ◌==◌, Bool, true, false, List, [], ◌∷◌, ◌++◌, map, Option, Some, None, Result, Ok, Err, refl, sym, ap, subst, ◌∙◌, append_assoc}
use Rattle.std.specs.Prelude.{flat_map, slice_get, slice_index_or, not, ◌&&◌, ◌||◌, if◌then◌else◌}
use Rattle.std.proofs.lemmas.List.{append-nil}
use Rattle.std.proofs.lemmas.Bool.{eqb-true}
use Rattle.net_names.specs.Folding.{folded_bytes}
use Rattle.text_table.specs.Texts.{has_text, place_of}
use Rattle.spice_cards.specs.Tokens.{Token, Word, Equals}
use Rattle.spice_cards.specs.Parts.{Param, behind_words, params_of, words_of}
use Rattle.spice_cards.specs.Cards.{Card, cards_of, early_more}
use Rattle.netlist_turn.specs.CardLaw.{kept_words, param_tokens, params_text, turned_params, words_text}
use Rattle.netlist_turn.specs.KeptLaw.{IsQuiet, IsWhole, KeptCardsLaw, KeptStartLaw, is_passed_row, is_silent, saying, tokens_in}
use Rattle.netlist_turn.specs.Made.{Made, card_made, has_shadow, has_stuck, is_left, telling}
use Rattle.netlist_turn.specs.Marked.{marks_told, ordered, unmarked}
use Rattle.netlist_turn.specs.Pins.{by_place}
use Rattle.netlist_turn.specs.Turning.{after, and_then, by_device, by_fate, card_taken, device_at, drops_if, early_or, end_fate, fate_of, first_taken, is_by_pins, is_marked, is_opening, is_out, is_sought, is_unclear, kept_card, moved, nothing, open_fate, opened, ordered_taken, pins_taken, plain_taken, row_taken, turned, turning}
use Rattle.netlist_turn.specs.Listed.{device_for, dropped, model_of, words_told}
use Rattle.netlist_turn.specs.declared.device.Device.{Device as ListedDevice}
use Rattle.netlist_turn.specs.Words.{changes_sizes, first_name, has_escape, left_out, row_of}
use Rattle.netlist_turn.specs.declared.fault.TurnFault.{TurnFault}
use Rattle.netlist_turn.specs.declared.fault.TurnFault.TheVariants.{BadForm, EarlyMore, OtherPins, Resized, Shadowed, Unscaled, UnknownCard}
use Rattle.netlist_turn.specs.declared.made.Where.{Where}
use Rattle.netlist_turn.specs.declared.made.Where.TheVariants.{Outside, Kept, Left}
use Rattle.netlist_turn.specs.declared.rows.Row.{Row}
use Rattle.netlist_turn.specs.declared.rows.Row.TheVariants.{Device, Call, Opening, Ending, Plain, Passed, Capacitor, Resistor, Diode, Foreign, Unknown, Listed}
use Rattle.netlist_turn.specs.declared.settings.Settings.{Settings}
use Rattle.netlist_turn.specs.declared.turn.Fate.{Fate}
use Rattle.netlist_turn.specs.declared.turn.Fate.TheVariants.{Keeps, Drops, Refuses}
use Rattle.netlist_turn.specs.declared.made.Kind.{Kind}
use Rattle.netlist_turn.specs.declared.made.Kind.TheVariants as kind
use Rattle.netlist_turn.proofs.CardText.{card_text_is}
use Rattle.netlist_turn.proofs.PlainTokens.{AreOk, AreOkCards, cards_ok}
use Rattle.netlist_turn.proofs.KeptLines.{AreCardLines, IsCardLine, card_line, lines_cards, lines_start, parted}
use Rattle.netlist_turn.proofs.Quiet.{before_telling, card_at, card_quiet, untold}

-- no card stands in a circuit that is left out
abbrev IsIn : Where → Type 0
IsIn Left = ⊥
IsIn at = Unit {0}

-- what a card makes of what was made, by its tokens: nothing, or its line
abbrev Adds : List ℕ → List Token → List ℕ → Type 0
Adds old ts new = (line : List ℕ) × IsCardLine line ts × (new ≡ old ++ (line ++ 0x0A ∷ []))

abbrev Makes : Bool → List ℕ → List Token → List ℕ → Type 0
Makes true old ts new = new ≡ old
Makes false old ts new = Adds old ts new

record IsStep (m : Made) (ts : List Token) (k : Made) : Type 0 where
  inside : IsIn k.at
  quiet : IsQuiet k → IsQuiet m
  makes : AreOk ts → IsQuiet k → Makes (is_silent ts) m.text ts k.text

no_ok : {A B : Type 0} (e : TurnFault) (k : B) → (let r : Result B TurnFault = Err e in r) ≡ Ok k → A
no_ok e k h = absurd (let z : ⊥ = cc in z)

ok_is : (m k : Made) → (let r : Result Made TurnFault = Ok m in r) ≡ Ok k → m ≡ k
ok_is m k h = cc

-- ---- the first byte

star_row : (w : List ℕ) → row_of (0x2A ∷ w) ≡ Unknown
star_row w = refl

plus_row : (w : List ℕ) → row_of (0x2B ∷ w) ≡ Unknown
plus_row w = refl

not_byte : (t : Bool) (b n : ℕ) (w : List ℕ) → (b == n) ≡ t → row_of (n ∷ w) ≡ Unknown → (row_of (b ∷ w) ≡ Unknown → ⊥) → t ≡ false
not_byte false b n w e un known = refl
not_byte true b n w e un known = absurd (known (ap (λ (c : ℕ). row_of (c ∷ w)) (eqb-true b n e) ∙ un))

-- ---- a card that is kept

kept_line : (s : Settings) (row : Row) (m : Made) (line : ℕ) (first : List ℕ) (ts : List Token) (ps : List Param) → AreOk (Word first ∷ ts) → params_of (behind_words ts) ≡ Some ps
    → (row_of first ≡ Unknown → ⊥) → kept_words row (words_of ts) ≡ words_of ts → turned_params s row ps ≡ ps
    → Adds m.text (Word first ∷ ts) (card_made s row m line first (words_of ts) ps).text
kept_line s row m line [] ts ps ok e known words params = absurd ok.0
kept_line s row m line (b ∷ w) ts ps ok e known words params =
    let tokens : map Word ((b ∷ w) ∷ words_of ts) ++ flat_map param_tokens ps ≡ Word (b ∷ w) ∷ ts = ap (λ (xs : List Token). Word (b ∷ w) ∷ xs) (parted ts ps e) in
    let text : List ℕ = words_text ((b ∷ w) ∷ words_of ts) ++ params_text ps in
    let is : IsCardLine text (map Word ((b ∷ w) ∷ words_of ts) ++ flat_map param_tokens ps) =
    card_line b w (words_of ts) ps (not_byte (b == 0x2A) b 0x2A w refl (star_row w) known) (not_byte (b == 0x2B) b 0x2B w refl (plus_row w) known) (subst AreOk (sym tokens) ok) in (
      text,
      subst (λ (xs : List Token). IsCardLine text xs) tokens is,
      card_text_is s row m line (b ∷ w) (words_of ts) ps
          ∙ ap (λ (ws : List (List ℕ)). m.text ++ (words_text ((b ∷ w) ∷ ws) ++ (params_text (turned_params s row ps) ++ 0x0A ∷ []))) words
          ∙ ap (λ (qs : List Param). m.text ++ (words_text ((b ∷ w) ∷ words_of ts) ++ (params_text qs ++ 0x0A ∷ []))) params
          ∙ ap (λ (t : List ℕ). m.text ++ t) (sym (append_assoc (words_text ((b ∷ w) ∷ words_of ts)) (params_text ps) (0x0A ∷ []))),
    )

-- where a card is kept, these are met
record IsKept (s : Settings) (row : Row) (m : Made) (line : ℕ) (first : List ℕ) (ts : List Token) (k : Made) : Type 0 where
  params : List Param
  are : params_of (behind_words ts) ≡ Some params
  made : card_made s row m line first (words_of ts) params ≡ k

kept_by : (a u b : Bool) (s : Settings) (row : Row) (m : Made) (line : ℕ) (first : List ℕ) (ts : List Token) (ps : List Param) (k : Made)
    → (if a then Err (Shadowed line) else if u then Err (UnknownCard line) else if b then Err (Unscaled line) else Ok (card_made s row m line first (words_of ts) ps)) ≡ Ok k
    → card_made s row m line first (words_of ts) ps ≡ k
kept_by true u b s row m line first ts ps k h = no_ok (Shadowed line) k h
kept_by false true b s row m line first ts ps k h = no_ok (UnknownCard line) k h
kept_by false false true s row m line first ts ps k h = no_ok (Unscaled line) k h
kept_by false false false s row m line first ts ps k h = ok_is (card_made s row m line first (words_of ts) ps) k h

kept_is : (s : Settings) (row : Row) (m : Made) (line : ℕ) (first : List ℕ) (ts : List Token) (o : Option (List Param)) (k : Made) → params_of (behind_words ts) ≡ o
    → kept_card s row m line first (words_of ts) o ≡ Ok k → IsKept s row m line first ts k
kept_is s row m line first ts None k e h = no_ok (BadForm line) k h
kept_is s row m line first ts (Some ps) k e h = record { params = ps; are = e; made = kept_by (is_opening row && has_shadow s ps) (is_unclear row (words_of ts)) (has_stuck s row ps) s row m line first ts ps k h }

-- ---- fates

-- what becomes of a card where all circuits are kept
abbrev fate_in : Where → Row → Fate
fate_in at Device = Keeps
fate_in at Call = Keeps
fate_in at Opening = open_fate at false
fate_in at Ending = Keeps
fate_in at Plain = Keeps
fate_in at Passed = Drops
fate_in at Capacitor = Refuses
fate_in at Resistor = Keeps
fate_in at Diode = Keeps
fate_in at Foreign = Refuses
fate_in at Unknown = Refuses
fate_in at Listed = Refuses

left_none : (s : Settings) (words : List (List ℕ)) → IsWhole s → is_left s words ≡ false
left_none s words whole =
    let name : List ℕ = folded_bytes (first_name words) in
    ap (λ (ns : List (List ℕ)). has_text ns name || (not s.all && not (slice_index_or s.marks.items (place_of s.circuits name) false))) whole.listed
    ∙ ap (λ (b : Bool). not b && not (slice_index_or s.marks.items (place_of s.circuits name) false)) whole.all

out_none : (s : Settings) (at : Where) → IsWhole s → IsIn at → is_out s at ≡ false
out_none s Outside whole inside = ap (λ (b : Bool). not b) whole.all
out_none s Kept whole inside = refl
out_none s Left whole inside = absurd inside

kept_end : (at : Where) → IsIn at → end_fate at ≡ Keeps
kept_end Outside inside = refl
kept_end Kept inside = refl
kept_end Left inside = absurd inside

fate_is : (s : Settings) (at : Where) (row : Row) (words : List (List ℕ)) → IsWhole s → IsIn at → fate_of s at row (is_left s words) ≡ fate_in at row
fate_is s at Device words whole inside = ap (λ (b : Bool). drops_if b Keeps) (out_none s at whole inside)
fate_is s at Call words whole inside = ap (λ (b : Bool). drops_if b Keeps) (out_none s at whole inside)
fate_is s at Opening words whole inside = ap (λ (b : Bool). open_fate at b) (left_none s words whole)
fate_is s at Ending words whole inside = kept_end at inside
fate_is s at Plain words whole inside = refl
fate_is s at Passed words whole inside = refl
fate_is s at Capacitor words whole inside =
    ap (λ (b : Bool). drops_if (b || s.capacitors) Refuses) (out_none s at whole inside) ∙ ap (λ (b : Bool). drops_if b Refuses) whole.capacitors
fate_is s at Resistor words whole inside =
    ap (λ (b : Bool). drops_if (b || s.resistors) Keeps) (out_none s at whole inside) ∙ ap (λ (b : Bool). drops_if b Keeps) whole.resistors
fate_is s at Diode words whole inside = ap (λ (b : Bool). drops_if b Keeps) (out_none s at whole inside)
fate_is s at Foreign words whole inside = ap (λ (b : Bool). drops_if b Refuses) (out_none s at whole inside)
fate_is s at Unknown words whole inside = ap (λ (b : Bool). drops_if b Refuses) (out_none s at whole inside)
fate_is s at Listed words whole inside = refl

after_in : (at : Where) (row : Row) (left : Bool) → left ≡ false → IsIn at → IsIn (after at row left)
after_in at Device left e inside = inside
after_in at Call left e inside = inside
after_in at Opening left e inside = subst (λ (b : Bool). IsIn (opened b)) (sym e) tt
after_in at Ending left e inside = tt
after_in at Plain left e inside = inside
after_in at Passed left e inside = inside
after_in at Capacitor left e inside = inside
after_in at Resistor left e inside = inside
after_in at Diode left e inside = inside
after_in at Foreign left e inside = inside
after_in at Unknown left e inside = inside
after_in at Listed left e inside = inside

-- ---- a step

keeps : (s : Settings) (row : Row) (m : Made) (line : ℕ) (first : List ℕ) (ts : List Token) (k : Made) → row_of first ≡ row → is_passed_row row ≡ false → (row ≡ Unknown → ⊥) → IsIn m.at
    → kept_card s row m line first (words_of ts) (params_of (behind_words ts)) ≡ Ok k → IsStep m (Word first ∷ ts) k
keeps s row m line first ts k named passed known inside h =
    let kept = kept_is s row m line first ts (params_of (behind_words ts)) k refl h in
    let made : Made = card_made s row m line first (words_of ts) kept.params in
    let silent : is_silent (Word first ∷ ts) ≡ false = ap is_passed_row named ∙ passed in
    record {
      inside = subst (λ (x : Made). IsIn x.at) kept.made (subst IsIn (sym (card_at s row m line first (words_of ts) kept.params)) inside);
      quiet = λ q. (let c = card_quiet s row m line first (words_of ts) kept.params (subst IsQuiet (sym kept.made) q) in c.0);
      makes = λ ok q. (let c = card_quiet s row m line first (words_of ts) kept.params (subst IsQuiet (sym kept.made) q) in
          subst (λ (b : Bool). Makes b m.text (Word first ∷ ts) k.text) (sym silent)
          (subst (λ (x : Made). Adds m.text (Word first ∷ ts) x.text) kept.made (kept_line s row m line first ts kept.params ok kept.are (λ u. known (sym named ∙ u)) c.1 c.2)));
    }

drops_by : (b : Bool) (m : Made) (line : ℕ) (first : List ℕ) (k : Made) → (if b then Err (Resized line) else Ok (telling m line kind.Card first)) ≡ Ok k → telling m line kind.Card first ≡ k
drops_by true m line first k h = no_ok (Resized line) k h
drops_by false m line first k h = ok_is (telling m line kind.Card first) k h

drops : (s : Settings) (m : Made) (line : ℕ) (first : List ℕ) (ts : List Token) (k : Made) → row_of first ≡ Passed → IsIn m.at
    → (if changes_sizes first ts then Err (Resized line) else Ok (telling m line kind.Card first)) ≡ Ok k → IsStep m (Word first ∷ ts) k
drops s m line first ts k named inside h =
    let made : telling m line kind.Card first ≡ k = drops_by (changes_sizes first ts) m line first k h in
    let silent : is_silent (Word first ∷ ts) ≡ true = ap is_passed_row named in
    record {
      inside = subst (λ (x : Made). IsIn x.at) made inside;
      quiet = λ q. before_telling m line kind.Card first (subst IsQuiet (sym made) q);
      makes = λ ok q. subst (λ (b : Bool). Makes b m.text (Word first ∷ ts) k.text) (sym silent) (sym (ap (λ (x : Made). x.text) made));
    }

opens : (at : Where) (s : Settings) (m : Made) (line : ℕ) (first : List ℕ) (ts : List Token) (k : Made) → row_of first ≡ Opening → IsIn m.at
    → by_fate s Opening m line first ts (open_fate at false) ≡ Ok k → IsStep m (Word first ∷ ts) k
opens Outside s m line first ts k named inside h = keeps s Opening m line first ts k named refl (λ e. let f : Opening ≡ Unknown = e in let z : ⊥ = cc in z) inside h
opens Kept s m line first ts k named inside h = no_ok (UnknownCard line) k h
opens Left s m line first ts k named inside h = no_ok (UnknownCard line) k h

step_by : (row : Row) (at : Where) (s : Settings) (m : Made) (line : ℕ) (first : List ℕ) (ts : List Token) (k : Made) → row_of first ≡ row → IsIn m.at
    → by_fate s row m line first ts (fate_in at row) ≡ Ok k → IsStep m (Word first ∷ ts) k
step_by Device at s m line first ts k named inside h = keeps s Device m line first ts k named refl (λ e. let f : Device ≡ Unknown = e in let z : ⊥ = cc in z) inside h
step_by Call at s m line first ts k named inside h = keeps s Call m line first ts k named refl (λ e. let f : Call ≡ Unknown = e in let z : ⊥ = cc in z) inside h
step_by Opening at s m line first ts k named inside h = opens at s m line first ts k named inside h
step_by Ending at s m line first ts k named inside h = keeps s Ending m line first ts k named refl (λ e. let f : Ending ≡ Unknown = e in let z : ⊥ = cc in z) inside h
step_by Plain at s m line first ts k named inside h = keeps s Plain m line first ts k named refl (λ e. let f : Plain ≡ Unknown = e in let z : ⊥ = cc in z) inside h
step_by Passed at s m line first ts k named inside h = drops s m line first ts k named inside h
step_by Capacitor at s m line first ts k named inside h = no_ok (UnknownCard line) k h
step_by Resistor at s m line first ts k named inside h = keeps s Resistor m line first ts k named refl (λ e. let f : Resistor ≡ Unknown = e in let z : ⊥ = cc in z) inside h
step_by Diode at s m line first ts k named inside h = keeps s Diode m line first ts k named refl (λ e. let f : Diode ≡ Unknown = e in let z : ⊥ = cc in z) inside h
step_by Foreign at s m line first ts k named inside h = no_ok (UnknownCard line) k h
step_by Unknown at s m line first ts k named inside h = no_ok (UnknownCard line) k h
step_by Listed at s m line first ts k named inside h = no_ok (UnknownCard line) k h

-- no name is listed
none_by : {A : Type 0} (b : Bool) (o : Option A) → o ≡ None → (if b then o else None) ≡ None
none_by true o e = e
none_by false o e = refl

no_device : (s : Settings) (at : Where) (row : Row) (ts : List Token) → IsWhole s → device_at s at row ts ≡ None
no_device s at row ts whole =
    let name : List ℕ = model_of row (kept_words row (words_of ts)) in
    none_by (is_sought s at row) (device_for s name) (ap (λ (ds : List ListedDevice). slice_get ds (place_of s.listed (folded_bytes name))) whole.devices)

plain_step : (s : Settings) (m : Made) (line : ℕ) (first : List ℕ) (ts : List Token) (k : Made) → IsWhole s → IsIn m.at → plain_taken s m line first ts ≡ Ok k
    → IsStep m (Word first ∷ ts) k
unfolding plain_taken
plain_step s m line first ts k whole inside h =
    let row = row_of first in
    let left = is_left s (words_of ts) in
    let at : Where = after m.at row left in
    let fate : fate_of s m.at row left ≡ fate_in m.at row = fate_is s m.at row (words_of ts) whole inside in
    let step : IsStep (moved at m) (Word first ∷ ts) k =
    step_by row m.at s (moved at m) line first ts k refl (after_in m.at row left (left_none s (words_of ts) whole) inside) (ap (λ (f : Fate). by_fate s row (moved at m) line first ts f) (sym fate) ∙ h) in
    record { inside = step.inside; quiet = step.quiet; makes = step.makes }

word_step : (s : Settings) (m : Made) (line : ℕ) (first : List ℕ) (ts : List Token) (k : Made) → IsWhole s → IsIn m.at → row_taken s (row_of first) m line first ts ≡ Ok k
    → IsStep m (Word first ∷ ts) k
word_step s m line first ts k whole inside h =
    let plain : row_taken s (row_of first) m line first ts ≡ plain_taken s m line first ts = ap (λ (o : Option ListedDevice). by_device s (row_of first) m line first ts o) (no_device s m.at (row_of first) ts whole) in
    plain_step s m line first ts k whole inside (sym plain ∙ h)

-- what `$` marks is told
dropped_at : (m : Made) (line : ℕ) (w : List ℕ) (o : Option Kind) → (dropped m line w o).at ≡ m.at
dropped_at m line w None = refl
dropped_at m line w (Some k) = refl

told_words_at : (row : Row) (m : Made) (line : ℕ) (ws : List (List ℕ)) → (words_told row m line ws).at ≡ m.at
told_words_at row m line [] = refl
told_words_at row m line (w ∷ ws) = told_words_at row (dropped m line w (left_out row w ws)) line ws ∙ dropped_at m line w (left_out row w ws)

abbrev pins_or : Bool → Settings → Made → ℕ → List ℕ → List Token → Result Made TurnFault
pins_or b s m line first ts = if b then pins_taken s (row_of first) m line first (by_place s ts) else row_taken s (row_of first) m line first ts

abbrev marked_or : Bool → Settings → Made → ℕ → List ℕ → List Token → Result Made TurnFault
marked_or b s m line first ts =
    if b then ordered_taken s (row_of first) m line first ts else pins_or (is_by_pins s m.at (row_of first) ts) s m line first ts

marked_at : (row : Row) (m : Made) (line : ℕ) (first : List ℕ) (ts : List Token) → (marks_told row m line first ts).at ≡ m.at
marked_at row m line first ts = told_words_at row m line (unmarked (words_of ts))

by_pins_step : (s : Settings) (m : Made) (line : ℕ) (first : List ℕ) (ts : List Token) (o : Option (List Token)) (k : Made) → IsWhole s → IsIn m.at
    → pins_taken s (row_of first) m line first o ≡ Ok k → IsStep m (Word first ∷ ts) k
by_pins_step s m line first ts None k whole inside h = no_ok (OtherPins line) k h
by_pins_step s m line first ts (Some us) k whole inside h =
    let step = word_step s (telling m line kind.Pins first) line first us k whole inside h in
    record {
      inside = step.inside;
      quiet = λ q. untold m line kind.Pins first refl (step.quiet q);
      makes = λ ok q. untold m line kind.Pins first refl (step.quiet q);
    }

unmarked_step : (s : Settings) (m : Made) (line : ℕ) (first : List ℕ) (ts : List Token) (k : Made) → IsWhole s → IsIn m.at → (b : Bool)
    → pins_or b s m line first ts ≡ Ok k → IsStep m (Word first ∷ ts) k
unmarked_step s m line first ts k whole inside true h = by_pins_step s m line first ts (by_place s ts) k whole inside h
unmarked_step s m line first ts k whole inside false h = word_step s m line first ts k whole inside h

marked_step : (s : Settings) (m : Made) (line : ℕ) (first : List ℕ) (ts : List Token) (k : Made) → IsWhole s → IsIn m.at
    → first_taken s (row_of first) m line first ts ≡ Ok k → (b : Bool) → is_marked s m.at (row_of first) ts ≡ b → IsStep m (Word first ∷ ts) k
marked_step s m line first ts k whole inside h false e =
    unmarked_step s m line first ts k whole inside (is_by_pins s m.at (row_of first) ts) (sym (ap (λ (b : Bool). marked_or b s m line first ts) e) ∙ h)
marked_step s m line first ts k whole inside h true e =
    let told : Made = marks_told (row_of first) m line first ts in
    let taken : row_taken s (row_of first) told line first (ordered (row_of first) ts) ≡ Ok k = sym (ap (λ (b : Bool). marked_or b s m line first ts) e) ∙ h in
    let step = word_step s told line first (ordered (row_of first) ts) k whole (subst IsIn (sym (marked_at (row_of first) m line first ts)) inside) taken in
    record {
      inside = step.inside;
      quiet = λ q. untold (words_told (row_of first) m line (unmarked (words_of ts))) line kind.Marked first refl (step.quiet q);
      makes = λ ok q. untold (words_told (row_of first) m line (unmarked (words_of ts))) line kind.Marked first refl (step.quiet q);
    }

step : (s : Settings) (m : Made) (line : ℕ) (ts : List Token) (k : Made) → IsWhole s → IsIn m.at → card_taken s m line ts ≡ Ok k → IsStep m ts k
step s m line [] k whole inside h = no_ok (UnknownCard line) k h
step s m line (Equals ∷ ts) k whole inside h = no_ok (UnknownCard line) k h
step s m line (Word first ∷ ts) k whole inside h = marked_step s m line first ts k whole inside h (is_marked s m.at (row_of first) ts) refl

-- ---- all cards

record AreSteps (m : Made) (cs : List Card) (k : Made) : Type 0 where
  quiet : IsQuiet m
  text : List ℕ
  written : k.text ≡ m.text ++ text
  lines : AreCardLines text (saying cs)

steps_by : (b : Bool) (m next k : Made) (ts : List Token) (cs : List Card) (c : Card) → c.tokens ≡ ts → is_silent ts ≡ b → IsQuiet m → Makes b m.text ts next.text → AreSteps next cs k → AreSteps m (c ∷ cs) k
steps_by true m next k ts cs c e silent quiet makes more =
    record {
      quiet = quiet;
      text = more.text;
      written = more.written ∙ ap (λ (t : List ℕ). t ++ more.text) makes;
      lines = subst (λ (b : Bool). AreCardLines more.text (if b then saying cs else c.tokens ∷ saying cs)) (sym (ap is_silent e ∙ silent)) more.lines;
    }
steps_by false m next k ts cs c e silent quiet (line, is, written) more =
    record {
      quiet = quiet;
      text = line ++ (0x0A ∷ more.text);
      written = more.written ∙ ap (λ (t : List ℕ). t ++ more.text) written ∙ append_assoc m.text (line ++ 0x0A ∷ []) more.text ∙ ap (λ (t : List ℕ). m.text ++ t) (append_assoc line (0x0A ∷ []) more.text);
      lines = subst (λ (b : Bool). AreCardLines (line ++ (0x0A ∷ more.text)) (if b then saying cs else c.tokens ∷ saying cs)) (sym (ap is_silent e ∙ silent))
          (line, subst (IsCardLine line) (sym e) is, more.text, more.lines, refl);
    }

steps_on : (r : Result Made TurnFault) (s : Settings) (m : Made) (c : Card) (cs : List Card) (k : Made) → IsWhole s → IsIn m.at → AreOk c.tokens → AreOkCards cs → card_taken s m c.line c.tokens ≡ r
    → and_then r (λ next. turning s next cs) ≡ Ok k → IsQuiet k
    → ((next : Made) → IsIn next.at → turning s next cs ≡ Ok k → AreSteps next cs k) → AreSteps m (c ∷ cs) k
steps_on (Err x) s m c cs k whole inside ok oks e h q rest = no_ok x k h
steps_on (Ok next) s m c cs k whole inside ok oks e h q rest =
    let one = step s m c.line c.tokens next whole inside e in
    let more = rest next one.inside h in
    steps_by (is_silent c.tokens) m next k c.tokens cs c refl refl (one.quiet more.quiet) (one.makes ok more.quiet) more

all_steps : (s : Settings) (m : Made) (cs : List Card) (k : Made) → IsWhole s → IsIn m.at → AreOkCards cs → turning s m cs ≡ Ok k → IsQuiet k → AreSteps m cs k
all_steps s m [] k whole inside ok h q =
    let same : m ≡ k = ok_is m k h in
    record { quiet = subst IsQuiet (sym same) q; text = []; written = sym (ap (λ (x : Made). x.text) same) ∙ sym (append-nil m.text); lines = refl }
all_steps s m (c ∷ cs) k whole inside ok h q =
    steps_on (card_taken s m c.line c.tokens) s m c cs k whole inside ok.0 ok.1 refl h q (λ next i e. all_steps s next cs k whole i ok.1 e q)

turned_by : (o : Option ℕ) (r : Result Made TurnFault) (m : Made) → early_or o r ≡ Ok m → r ≡ Ok m
turned_by None r m h = h
turned_by (Some line) r m h = no_ok (EarlyMore line) m h

steps_of : (s : Settings) (text : List ℕ) (m : Made) → IsWhole s → has_escape text ≡ false → turned s text ≡ Ok m → IsQuiet m → AreSteps nothing (cards_of text) m
steps_of s text m whole plain h q =
    all_steps s nothing (cards_of text) m whole tt (cards_ok text plain) (turned_by (early_more text) (turning s nothing (cards_of text)) m h) q

pub cards_kept : KeptCardsLaw
cards_kept s text m whole plain h q =
    let steps = steps_of s text m whole plain h q in
    let cards = lines_cards 1 steps.text (saying (cards_of text)) steps.lines in
    ap (λ (t : List ℕ). tokens_in (cards_of t)) steps.written ∙ cards.1

pub cards_start : KeptStartLaw
cards_start s text m whole plain h q =
    let steps = steps_of s text m whole plain h q in
    ap (λ (t : List ℕ). early_more t) steps.written ∙ lines_start steps.text (saying (cards_of text)) steps.lines
