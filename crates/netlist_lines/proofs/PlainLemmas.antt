-- A line of plain bytes stays as it is.
use Rattle.std.proofs.Common.{◌≡◌, ℕ, Bool, true, false, List, [], ◌∷◌, ◌++◌, refl, sym, ap, ◌∙◌, append_assoc}
use Rattle.std.proofs.lemmas.Bool.{or_parts}
use Rattle.std.specs.Prelude.{◌==◌, ◌||◌, ◌&&◌, Result, Ok, Err, if◌then◌else◌}
use Rattle.std.proofs.lemmas.List.{append-nil}
use Rattle.spice_cards.specs.Tokens.{is_blank}
use Rattle.netlist_lines.specs.Cleaning.{cleaned, spelled, in_word, step, Step, is_quote, before_word, ends_word, ends_split, begins_comment}
use Rattle.netlist_lines.specs.declared.cleaning.At.{At}
use Rattle.netlist_lines.specs.declared.cleaning.At.TheVariants.{Before, Value, Within, Escaped, Quoted}
use Rattle.netlist_lines.specs.declared.cleaning.LineFault.{LineFault}
use Rattle.netlist_lines.specs.declared.cleaning.LineFault.TheVariants.{Split}
use Rattle.netlist_lines.specs.Names.{is_special, has_special, PlainLineLaw}
use Rattle.netlist_lines.proofs.NameLemmas.{made_to}

-- no escaped name and no quotes
abbrev IsOpen : At → Type 0
IsOpen Escaped = ⊥
IsOpen (Quoted q) = ⊥
IsOpen at = Unit {0}

-- the byte itself, and still no name and no quotes
record Stays (b : ℕ) (s : Step) : Type 0 where
  text : s.text ≡ b ∷ []
  at : IsOpen s.at

three : (b : ℕ) (x y z : Bool) (n : Step) → z ≡ false
    → Stays b (if x then record { text = b ∷ []; at = Before } else if y then record { text = b ∷ []; at = Value } else if z then n else record { text = b ∷ []; at = Within })
three b true y z n e = record { text = refl; at = tt }
three b false true z n e = record { text = refl; at = tt }
three b false false true n e = absurd cc
three b false false false n e = record { text = refl; at = tt }

two : (b : ℕ) (x y : Bool) (n s : Step) → y ≡ false → Stays b s → Stays b (if x then record { text = b ∷ []; at = Value } else if y then n else s)
two b true y n s e h = record { text = refl; at = tt }
two b false true n s e h = absurd cc
two b false false n s e h = h

-- a byte that is none of these
record IsPlain (b : ℕ) : Type 0 where
  backslash : (b == 0x5C) ≡ false
  semicolon : (b == 0x3B) ≡ false
  dollar : (b == 0x24) ≡ false
  brace : (b == 0x7B) ≡ false
  quote : is_quote b ≡ false

apart : (b : ℕ) → is_special b ≡ false → IsPlain b
apart b h =
    let one = or_parts (b == 0x5C) (b == 0x3B || (b == 0x24 || (b == 0x7B || is_quote b))) h in
    let two = or_parts (b == 0x3B) (b == 0x24 || (b == 0x7B || is_quote b)) one.1 in
    let three = or_parts (b == 0x24) (b == 0x7B || is_quote b) two.1 in
    let four = or_parts (b == 0x7B) (is_quote b) three.1 in
    record { backslash = one.0; semicolon = two.0; dollar = three.0; brace = four.0; quote = four.1 }

word : (b : ℕ) → is_special b ≡ false → Stays b (in_word b)
word b h = three b (is_blank b) (b == 0x3D) (b == 0x5C) (record { text = spelled b; at = Escaped }) (apart b h).backslash

unbraced : (b : ℕ) (x : Bool) (n s : Step) → x ≡ false → Stays b s → Stays b (if x then n else s)
unbraced b true n s e h = absurd cc
unbraced b false n s e h = h

before : (b : ℕ) → is_special b ≡ false → Stays b (before_word b)
before b h = unbraced b (b == 0x7B) (record { text = b ∷ []; at = Quoted 0x7D }) (in_word b) (apart b h).brace (word b h)

comment : (b : ℕ) (bytes : List ℕ) → is_special b ≡ false → (b == 0x3B || (b == 0x24 && ends_word bytes)) ≡ false
comment b bytes h =
    ap (λ (t : Bool). t || (b == 0x24 && ends_word bytes)) (apart b h).semicolon ∙ ap (λ (t : Bool). t && ends_word bytes) (apart b h).dollar

none : (at : At) (b : ℕ) (bytes : List ℕ) → is_special b ≡ false → begins_comment at b bytes ≡ false
none Before b bytes h = comment b bytes h
none Value b bytes h = comment b bytes h
none Within b bytes h = refl
none Escaped b bytes h = refl
none (Quoted q) b bytes h = refl

stays : (at : At) (b : ℕ) → IsOpen at → is_special b ≡ false → Stays b (step at b)
stays Before b o h = before b h
stays Within b o h = word b h
stays Value b o h = two b (is_blank b) (is_quote b) (record { text = b ∷ []; at = Quoted b }) (before_word b) (apart b h).quote (before b h)
stays Escaped b o h = absurd o
stays (Quoted q) b o h = absurd o

whole : (at : At) (b : ℕ) (bytes : List ℕ) → IsOpen at → ends_split at b bytes ≡ false
whole Before b bytes o = refl
whole Value b bytes o = refl
whole Within b bytes o = refl
whole Escaped b bytes o = absurd o
whole (Quoted q) b bytes o = absurd o

plain : (made : List ℕ) (at : At) (line : List ℕ) → IsOpen at → has_special line ≡ false → cleaned made at line ≡ Ok (made ++ line)
plain made Before [] o h = made_to made (made ++ []) (sym (append-nil made))
plain made Value [] o h = made_to made (made ++ []) (sym (append-nil made))
plain made Within [] o h = made_to made (made ++ []) (sym (append-nil made))
plain made Escaped [] o h = absurd o
plain made (Quoted q) [] o h = absurd o
plain made at (b ∷ bytes) o h =
    let here : is_special b ≡ false = (or_parts (is_special b) (has_special bytes) h).0 in
    let s = stays at b o here in
    ap (λ (t : Bool). if t then (let x : Result (List ℕ) LineFault = Ok made in x) else if ends_split at b bytes then Err Split else cleaned (made ++ (step at b).text) (step at b).at bytes) (none at b bytes here)
    ∙ ap (λ (t : Bool). if t then (let x : Result (List ℕ) LineFault = Err Split in x) else cleaned (made ++ (step at b).text) (step at b).at bytes) (whole at b bytes o)
    ∙ ap (λ (t : List ℕ). cleaned (made ++ t) (step at b).at bytes) s.text
    ∙ plain (made ++ b ∷ []) (step at b).at bytes s.at ((or_parts (is_special b) (has_special bytes) h).1)
    ∙ made_to ((made ++ b ∷ []) ++ bytes) (made ++ b ∷ bytes) (append_assoc made (b ∷ []) bytes)

pub plain_line : PlainLineLaw
plain_line made line h = plain made Before line tt h
