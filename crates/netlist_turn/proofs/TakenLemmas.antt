-- What a card makes, by its row, its fate and where the next stands.
use Rattle.std.proofs.Common.{◌≡◌, ℕ, Bool, List, [], ◌∷◌, length, None, arith, refl, ap, ◌∙◌}
use Rattle.std.specs.Prelude.{slice_get}
use Rattle.spice_cards.specs.Parts.{words_of}
use Rattle.spice_cards.specs.Tokens.{Token}
use Rattle.text_table.specs.Texts.{place_of}
use Rattle.netlist_turn.specs.Words.{row_of}
use Rattle.netlist_turn.specs.Made.{Made, is_left}
use Rattle.netlist_turn.specs.Turning.{fate_of, after, left_at, moved, by_fate, ordered_taken, plain_taken, row_taken}
use Rattle.netlist_turn.specs.Marked.{marks_told, ordered}
use Rattle.netlist_turn.specs.declared.rows.Row.{Row}
use Rattle.netlist_turn.specs.declared.rows.Row.TheVariants.{Device, Call, Opening, Ending, Plain, Passed, Capacitor, Resistor, Diode, Foreign, Unknown, Listed}
use Rattle.netlist_turn.specs.declared.made.Where.{Where}
use Rattle.netlist_turn.specs.declared.turn.Fate.{Fate}
use Rattle.netlist_turn.specs.declared.settings.Settings.{Settings}

fate_at : (s : Settings) (at : Where) (row : Row) (left : Bool) → fate_of s at row (left_at row left) ≡ fate_of s at row left
fate_at s at Device left = refl
fate_at s at Call left = refl
fate_at s at Opening left = refl
fate_at s at Ending left = refl
fate_at s at Plain left = refl
fate_at s at Passed left = refl
fate_at s at Capacitor left = refl
fate_at s at Resistor left = refl
fate_at s at Diode left = refl
fate_at s at Foreign left = refl
fate_at s at Unknown left = refl
fate_at s at Listed left = refl

after_at : (at : Where) (row : Row) (left : Bool) → after at row (left_at row left) ≡ after at row left
after_at at Device left = refl
after_at at Call left = refl
after_at at Opening left = refl
after_at at Ending left = refl
after_at at Plain left = refl
after_at at Passed left = refl
after_at at Capacitor left = refl
after_at at Resistor left = refl
after_at at Diode left = refl
after_at at Foreign left = refl
after_at at Unknown left = refl
after_at at Listed left = refl

pub taken_is : (s : Settings) (m : Made) (line : ℕ) (first : List ℕ) (ts : List Token) (row : Row) (left : Bool) (fate : Fate) (at : Where)
    → row ≡ row_of first → left ≡ left_at row (is_left s (words_of ts)) → fate ≡ fate_of s m.at row left → at ≡ after m.at row left
    → by_fate s row (moved at m) line first ts fate ≡ plain_taken s m line first ts
unfolding plain_taken
taken_is s m line first ts row left fate at is_row is_left_so is_fate is_at =
    let real = is_left s (words_of ts) in
    let fated : fate ≡ fate_of s m.at row real = is_fate ∙ ap (λ (b : Bool). fate_of s m.at row b) is_left_so ∙ fate_at s m.at row real in
    let placed : at ≡ after m.at row real = is_at ∙ ap (λ (b : Bool). after m.at row b) is_left_so ∙ after_at m.at row real in
    ap (λ (w : Where). by_fate s row (moved w m) line first ts fate) placed
    ∙ ap (λ (f : Fate). by_fate s row (moved (after m.at row real) m) line first ts f) fated
    ∙ ap (λ (r : Row). by_fate s r (moved (after m.at r real) m) line first ts (fate_of s m.at r real)) is_row

-- a card on which `$` marks something, in the order of other cards
pub ordered_is : (s : Settings) (row : Row) (m told : Made) (line : ℕ) (first : List ℕ) (ts us : List Token) → told ≡ marks_told row m line first ts → us ≡ ordered row ts
    → row_taken s row told line first us ≡ ordered_taken s row m line first ts
ordered_is s row m told line first ts us is_told is_ordered =
    ap (λ (x : Made). row_taken s row x line first us) is_told ∙ ap (λ (xs : List Token). row_taken s row (marks_told row m line first ts) line first xs) is_ordered

-- no names
pub no_names : (names : List (List ℕ)) (word : List ℕ) → length names ≡ 0 → place_of names word ≡ 0
no_names [] word e = refl
no_names (n ∷ names) word e = absurd (omega (arith, e))

-- no devices
pub no_devices : {A : Type 0} (ds : List A) (k : ℕ) → length ds ≡ 0 → slice_get ds k ≡ None
no_devices [] k e = refl
no_devices (d ∷ ds) k e = absurd (omega (arith, e))
