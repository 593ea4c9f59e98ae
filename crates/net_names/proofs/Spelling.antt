-- What a name spells, and what it is read as.
use Rattle.std.proofs.Common.{◌≡◌, ◌∙◌, ℕ, zero, suc, ◌+◌, ◌-◌, ◌*◌, ◌/◌, ◌%◌, ◌<◌, ◌≤◌, Bool, true, false, ◌==◌, List, [], ◌∷◌, ◌++◌, length, drop, Option, Some, None, if◌then◌else◌, refl, sym, ap, subst, arith, append_assoc, append-nil, length-append, get_or, drop-cons, add-one}
use Rattle.std.specs.Char.{is_ascii_graphic}
use Rattle.std.proofs.Math.Decide.{ℕ_discrete}
use Rattle.std.proofs.lemmas.Bool.Decides.{nat_tests}
use Rattle.std.proofs.lemmas.Grind.{common_steps}
use Rattle.net_names.specs.Escapes.{is_plain, hex_digit, spelling, escaped, hex_value, hex_byte, front, onto, unescaped_behind, unescaped}

-- behind n bytes a text spells what the rest of it spells
pub behind : (n : ℕ) (text : List ℕ) → unescaped_behind n text ≡ unescaped (drop n text)
behind zero [] = refl
behind zero (b ∷ text) = refl
behind (suc n) [] = refl
behind (suc n) (b ∷ text) = behind n text

-- bytes before what is spelled behind them
abbrev pub before : List ℕ → Option (List ℕ) → Option (List ℕ)
before bytes (Some rest) = Some (bytes ++ rest)
before bytes None = None

-- one byte more
pub before-onto : (bytes : List ℕ) (b : ℕ) (rest : Option (List ℕ)) → before bytes (onto (Some b) rest) ≡ before (bytes ++ b ∷ []) rest
before-onto bytes b (Some rest) = ap (λ (xs : List ℕ). Some xs) (sym (append_assoc bytes (b ∷ []) rest))
before-onto bytes b None = refl

-- how far a text was read: the bytes so far, and what is left of it
pub record IsReadTo (text bytes rest : List ℕ) : Type 0 where
  pub same : unescaped text ≡ before bytes (unescaped rest)
  pub some : 0 < length rest + length bytes

-- a text with something at its front
fronted : (text : List ℕ) (width : ℕ) → 0 < length text → 0 < width → (front text).width ≡ width → unescaped text ≡ onto (front text).byte (unescaped (drop width text))
fronted [] width h g e = elim h [ ]
fronted (b ∷ text) zero h g e = elim g [ ]
fronted (b ∷ text) (suc width) h g e =
    let w : (front (b ∷ text)).width - 1 ≡ width = omega (arith, e) in
    ap (λ n. onto (front (b ∷ text)).byte (unescaped_behind n text)) w ∙ ap (onto (front (b ∷ text)).byte) (behind width text)

-- one step of the reading
pub read_on : (text bytes rest more left : List ℕ) (b width : ℕ) → IsReadTo text bytes rest → 0 < length rest → 0 < width → (front rest).byte ≡ Some b → (front rest).width ≡ width
    → more ≡ bytes ++ b ∷ [] → left ≡ drop width rest → IsReadTo text more left
read_on text bytes rest more left b width so h g e f m l = rw (m, l) record {
  same = so.same ∙ ap (before bytes) (fronted rest width h g f ∙ ap (λ o. onto o (unescaped (drop width rest))) e) ∙ before-onto bytes b (unescaped (drop width rest));
  some = grind (arith, length-append);
}

-- a bad escape at the front makes the whole text bad
pub read_badly : (text bytes rest : List ℕ) (width : ℕ) → IsReadTo text bytes rest → 0 < length rest → 0 < width → (front rest).byte ≡ None → (front rest).width ≡ width → unescaped text ≡ None
read_badly text bytes rest width so h g e f =
    so.same ∙ ap (before bytes) (fronted rest width h g f ∙ ap (λ o. onto o (unescaped (drop width rest))) e)

pub read_whole : (text bytes : List ℕ) → IsReadTo text bytes [] → unescaped text ≡ Some bytes
read_whole text bytes so = so.same ∙ ap (λ (xs : List ℕ). Some xs) (append-nil bytes)

-- one byte more is written
pub written_on : (text bytes : List ℕ) (i : ℕ) → i < length bytes → escaped bytes ≡ text ++ escaped (drop i bytes)
    → escaped bytes ≡ (text ++ spelling (get_or bytes i 0)) ++ escaped (drop (i + 1) bytes)
written_on text bytes i h e =
    let d : drop i bytes ≡ get_or bytes i 0 ∷ drop (i + 1) bytes = rw (add-one, drop-cons bytes i 0) refl in
    e ∙ ap (λ (xs : List ℕ). text ++ escaped xs) d ∙ sym (append_assoc text (spelling (get_or bytes i 0)) (escaped (drop (i + 1) bytes)))

-- a plain byte is no backslash
plain_sign : (b : ℕ) → is_plain b ≡ true → (b == 0x5C) ≡ false
plain_sign b h = elim (ℕ_discrete b 0x5C) [
  | yes e ↦ let p : is_plain 0x5C ≡ true = subst (λ n. is_plain n ≡ true) e h in cc
  | no ne ↦ grind (arith, nat_tests)
]

-- a byte that isn't plain is no x
other_sign : (b x : ℕ) → is_plain x ≡ true → is_plain b ≡ false → (b == x) ≡ false
other_sign b x g h = elim (ℕ_discrete b x) [
  | yes e ↦ let p : is_plain b ≡ true = subst (λ n. is_plain n ≡ true) (sym e) g in cc
  | no ne ↦ grind (arith, nat_tests)
]

plain_read : (b : ℕ) (rest : List ℕ) → is_plain b ≡ true → unescaped (b ∷ rest) ≡ onto (Some b) (unescaped rest)
plain_read b rest h = let n : (b == 0x5C) ≡ false = plain_sign b h in rw n refl

printable_read : (b : ℕ) (rest : List ℕ) → is_plain b ≡ false → is_ascii_graphic b ≡ true → unescaped (0x5C ∷ b ∷ rest) ≡ onto (Some b) (unescaped rest)
printable_read b rest h g =
    let m : (b == 0x78) ≡ false = other_sign b 0x78 refl h in
    let n : (b == 0x58) ≡ false = other_sign b 0x58 refl h in
    rw (m, n, g) refl

hex_value-digit : (n : ℕ) → n < 16 → hex_value (hex_digit n) ≡ Some n
hex_value-digit n h = grind (arith, nat_tests)

other_read : (b : ℕ) (rest : List ℕ) → b < 256 → unescaped (0x5C ∷ 0x78 ∷ hex_digit (b / 16) ∷ hex_digit (b % 16) ∷ rest) ≡ onto (Some b) (unescaped rest)
other_read b rest h =
    let high : hex_value (hex_digit (b / 16)) ≡ Some (b / 16) = hex_value-digit (b / 16) (omega arith) in
    let low : hex_value (hex_digit (b % 16)) ≡ Some (b % 16) = hex_value-digit (b % 16) (omega arith) in
    let both : b / 16 * 16 + b % 16 ≡ b = omega arith in
    ap (λ o. onto o (unescaped rest)) (ap (λ o. hex_byte o (hex_value (hex_digit (b % 16)))) high ∙ ap (hex_byte (Some (b / 16))) low ∙ ap (λ n. Some n) both)

-- a byte as it is written is read as that byte
pub spelling_read : (b : ℕ) (rest : List ℕ) → b < 256 → unescaped (spelling b ++ rest) ≡ onto (Some b) (unescaped rest)
spelling_read b rest h = kinds (is_plain b) (is_ascii_graphic b) refl refl
  where
    kinds : (p g : Bool) → is_plain b ≡ p → is_ascii_graphic b ≡ g
        → unescaped ((if p then b ∷ [] else if g then 0x5C ∷ b ∷ [] else 0x5C ∷ 0x78 ∷ hex_digit (b / 16) ∷ hex_digit (b % 16) ∷ []) ++ rest) ≡ onto (Some b) (unescaped rest)
    kinds true g e f = plain_read b rest e
    kinds false true e f = printable_read b rest e f
    kinds false false e f = other_read b rest h

-- a name as it is written is read as that name
pub escaped_read : (bytes : List ℕ) → ((k : ℕ) → k < length bytes → get_or bytes k 0 < 256) → unescaped (escaped bytes) ≡ Some bytes
escaped_read [] h = refl
escaped_read (b ∷ bytes) h =
    spelling_read b (escaped bytes) (h 0 (omega arith)) ∙ ap (onto (Some b)) (escaped_read bytes (λ k lt. h (suc k) (omega arith)))

-- all bytes are written
pub written_whole : (text bytes : List ℕ) (i : ℕ) → length bytes ≤ i → escaped bytes ≡ text ++ escaped (drop i bytes) → text ≡ escaped bytes
written_whole text bytes i h e =
    let d : drop i bytes ≡ [] = grind (arith, common_steps) in
    sym (e ∙ ap (λ (xs : List ℕ). text ++ escaped xs) d ∙ append-nil text)
