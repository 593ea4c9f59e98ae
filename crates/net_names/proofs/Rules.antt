-- Texts that spell a name by rule are those that are read as it.
use Rattle.std.proofs.Common.{◌≡◌, ◌∙◌, inl, inr, ℕ, zero, suc, ◌+◌, ◌*◌, ◌≤◌, Bool, true, false, ◌==◌, if◌then◌else◌, List, [], ◌∷◌, length, Option, Some, None, refl, sym, ap, subst, arith}
use Rattle.std.proofs.lemmas.Bool.{ne_eqb}
use Rattle.std.specs.Char.{is_ascii_graphic}
use Rattle.std.proofs.Math.Decide.{ℕ_discrete}
use Rattle.net_names.specs.Escapes.{hex_value, hex_byte, onto, unescaped, escaped}
use Rattle.net_names.specs.Spells.{IsHexLetter, Spells, End, Itself, Behind, Hexadecimal, ReadAsSpelledLaw, WrittenAsSpelledLaw}
use Rattle.net_names.proofs.Spelling.{escaped_read}

itself_read : (b : ℕ) (text : List ℕ) → (b ≡ 0x5C → ⊥) → unescaped (b ∷ text) ≡ onto (Some b) (unescaped text)
itself_read b text ne = let n : (b == 0x5C) ≡ false = ne_eqb b 0x5C ne in rw n refl

behind_read : (b : ℕ) (text : List ℕ) (g : Bool) → is_ascii_graphic b ≡ g → (IsHexLetter b → ⊥)
    → unescaped (0x5C ∷ b ∷ text) ≡ onto (if g then Some b else None) (unescaped text)
behind_read b text true e ne =
    let m : (b == 0x78) ≡ false = ne_eqb b 0x78 (λ h. ne (inl h)) in
    let n : (b == 0x58) ≡ false = ne_eqb b 0x58 (λ h. ne (inr h)) in
    rw (m, n, e) refl
behind_read b text false e ne =
    let m : (b == 0x78) ≡ false = ne_eqb b 0x78 (λ h. ne (inl h)) in
    let n : (b == 0x58) ≡ false = ne_eqb b 0x58 (λ h. ne (inr h)) in
    rw (m, n, e) (none_onto (unescaped text))
  where
    none_onto : (rest : Option (List ℕ)) → onto None rest ≡ onto None rest
    none_onto rest = refl

hexadecimal_read : (x h l : ℕ) (text : List ℕ) → IsHexLetter x → unescaped (0x5C ∷ x ∷ h ∷ l ∷ text) ≡ onto (hex_byte (hex_value h) (hex_value l)) (unescaped text)
hexadecimal_read x h l text (inl e) = rw e refl
hexadecimal_read x h l text (inr e) = rw e refl

-- what is spelled is read
read : (text bytes : List ℕ) → Spells text bytes → unescaped text ≡ Some bytes
read _ _ End = refl
read _ _ (Itself b text bytes ne rest) = itself_read b text ne ∙ ap (onto (Some b)) (read text bytes rest)
read _ _ (Behind b text bytes g ne rest) = behind_read b text true g ne ∙ ap (onto (Some b)) (read text bytes rest)
read _ _ (Hexadecimal x h l high low text bytes letter e f rest) =
    hexadecimal_read x h l text letter ∙ ap (λ o. onto (hex_byte o (hex_value l)) (unescaped text)) e ∙ ap (λ o. onto (hex_byte (Some high) o) (unescaped text)) f ∙
    ap (onto (Some (high * 16 + low))) (read text bytes rest)

-- a byte and what is spelled behind it
record Parts (byte : Option ℕ) (rest : Option (List ℕ)) (bytes : List ℕ) : Type 0 where
  b : ℕ
  more : List ℕ
  first : byte ≡ Some b
  behind : rest ≡ Some more
  whole : bytes ≡ b ∷ more

parts : (byte : Option ℕ) (rest : Option (List ℕ)) (bytes : List ℕ) → onto byte rest ≡ Some bytes → Parts byte rest bytes
parts (Some b) (Some more) bytes e = record { b = b; more = more; first = refl; behind = refl; whole = cc }
parts (Some b) None bytes e = cc
parts None rest bytes e = cc

-- two digits and their byte
record Digits (high low : Option ℕ) (b : ℕ) : Type 0 where
  h : ℕ
  l : ℕ
  first : high ≡ Some h
  second : low ≡ Some l
  byte : b ≡ h * 16 + l

digits : (high low : Option ℕ) (b : ℕ) → hex_byte high low ≡ Some b → Digits high low b
digits (Some h) (Some l) b e = record { h = h; l = l; first = refl; second = refl; byte = cc }
digits (Some h) None b e = cc
digits None low b e = cc

-- what is read is spelled, for texts up to a length
abbrev Back : ℕ → Type 0
Back n = (text bytes : List ℕ) → length text ≤ n → unescaped text ≡ Some bytes → Spells text bytes

no_digit : (x : ℕ) → IsHexLetter x → unescaped (0x5C ∷ x ∷ []) ≡ None
no_digit x (inl e) = rw e refl
no_digit x (inr e) = rw e refl

no_low : (high : Option ℕ) (rest : Option (List ℕ)) → onto (hex_byte high None) rest ≡ None
no_low (Some h) rest = refl
no_low None rest = refl

one_digit : (x d : ℕ) → IsHexLetter x → unescaped (0x5C ∷ x ∷ d ∷ []) ≡ None
one_digit x d (inl e) = rw e (no_low (hex_value d) (Some []))
one_digit x d (inr e) = rw e (no_low (hex_value d) (Some []))

never : (text bytes : List ℕ) → unescaped text ≡ None → unescaped text ≡ Some bytes → Spells text bytes
never text bytes e f = cc

hexadecimal_back : (n : ℕ) → Back n → (x : ℕ) (text bytes : List ℕ) → IsHexLetter x → length text ≤ n → unescaped (0x5C ∷ x ∷ text) ≡ Some bytes → Spells (0x5C ∷ x ∷ text) bytes
hexadecimal_back n again x [] bytes letter h e = never (0x5C ∷ x ∷ []) bytes (no_digit x letter) e
hexadecimal_back n again x (d ∷ []) bytes letter h e = never (0x5C ∷ x ∷ d ∷ []) bytes (one_digit x d letter) e
hexadecimal_back n again x (d ∷ f ∷ text) bytes letter h e =
    let p = parts (hex_byte (hex_value d) (hex_value f)) (unescaped text) bytes (sym (hexadecimal_read x d f text letter) ∙ e) in
    let q = digits (hex_value d) (hex_value f) p.b p.first in
    let rest = again text p.more (omega arith) p.behind in
    subst (λ (bs : List ℕ). Spells (0x5C ∷ x ∷ d ∷ f ∷ text) bs) (sym (p.whole ∙ ap (λ b. b ∷ p.more) q.byte))
    (Hexadecimal x d f q.h q.l text p.more letter q.first q.second rest)

behind_back : (n : ℕ) → Back n → (c : ℕ) (text bytes : List ℕ) (g : Bool) → is_ascii_graphic c ≡ g → (IsHexLetter c → ⊥) → length text ≤ n → unescaped (0x5C ∷ c ∷ text) ≡ Some bytes → Spells (0x5C ∷ c ∷ text) bytes
behind_back n again c text bytes true g ne h e =
    let p = parts (Some c) (unescaped text) bytes (sym (behind_read c text true g ne) ∙ e) in
    let same : p.b ≡ c = let first = p.first in cc in
    subst (λ (bs : List ℕ). Spells (0x5C ∷ c ∷ text) bs) (sym (p.whole ∙ ap (λ b. b ∷ p.more) same))
    (Behind c text p.more g ne (again text p.more h p.behind))
behind_back n again c text bytes false g ne h e = let p = parts None (unescaped text) bytes (sym (behind_read c text false g ne) ∙ e) in let first = p.first in cc

backslash_back : (n : ℕ) → Back n → (text bytes : List ℕ) → length text ≤ n → unescaped (0x5C ∷ text) ≡ Some bytes → Spells (0x5C ∷ text) bytes
backslash_back n again [] bytes h e = never (0x5C ∷ []) bytes refl e
backslash_back n again (c ∷ text) bytes h e =
    elim (ℕ_discrete c 0x78) [
      | yes is ↦ hexadecimal_back n again c text bytes (inl is) (omega arith) e
      | no ne ↦ elim (ℕ_discrete c 0x58) [
        | yes is ↦ hexadecimal_back n again c text bytes (inr is) (omega arith) e
        | no not ↦ behind_back n again c text bytes (is_ascii_graphic c) refl (λ letter. elim letter [ inl is ↦ ne is | inr is ↦ not is ]) (omega arith) e
      ]
    ]

itself_back : (n : ℕ) → Back n → (b : ℕ) (text bytes : List ℕ) → (b ≡ 0x5C → ⊥) → length text ≤ n → unescaped (b ∷ text) ≡ Some bytes → Spells (b ∷ text) bytes
itself_back n again b text bytes ne h e =
    let p = parts (Some b) (unescaped text) bytes (sym (itself_read b text ne) ∙ e) in
    let same : p.b ≡ b = let first = p.first in cc in
    subst (λ (bs : List ℕ). Spells (b ∷ text) bs) (sym (p.whole ∙ ap (λ c. c ∷ p.more) same))
    (Itself b text p.more ne (again text p.more h p.behind))

back : (n : ℕ) → Back n
back n [] bytes h e = let same : [] ≡ bytes = cc in subst (λ (bs : List ℕ). Spells [] bs) same End
back zero (b ∷ text) bytes h e = absurd (omega arith)
back (suc n) (b ∷ text) bytes h e =
    elim (ℕ_discrete b 0x5C) [
      | yes is ↦
          subst (λ (c : ℕ). Spells (c ∷ text) bytes) (sym is)
          (backslash_back n (back n) text bytes (omega arith) (subst (λ (c : ℕ). unescaped (c ∷ text) ≡ Some bytes) is e))
      | no ne ↦ itself_back n (back n) b text bytes ne (omega arith) e
    ]

-- what is read from a text is what it spells
pub read_as_spelled : ReadAsSpelledLaw
read_as_spelled text bytes = ((λ e. back (length text) text bytes (omega arith) e), read text bytes)

-- a name as it is written spells that name
pub written_as_spelled : WrittenAsSpelledLaw
written_as_spelled bytes h = (read_as_spelled (escaped bytes) bytes).0 (escaped_read bytes h)
