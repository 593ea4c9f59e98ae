-- What stands between quotes is read as its name.
use Rattle.std.proofs.Common.{◌≡◌, ◌∙◌, ℕ, ◌+◌, ◌-◌, ◌*◌, ◌/◌, ◌%◌, ◌<◌, Bool, true, false, ◌==◌, List, [], ◌∷◌, ◌++◌, if◌then◌else◌, refl, sym, ap, subst, arith, append_assoc, append-nil}
use Rattle.std.proofs.lemmas.Bool.{and_parts, ne_eqb}
use Rattle.std.specs.Char.{is_ascii_digit}
use Rattle.std.specs.List.{list_all}
use Rattle.std.proofs.Math.Decide.{ℕ_discrete}
use Rattle.std.proofs.lemmas.List.Elements.{All-head, All-tail}
use Rattle.view_words.specs.Words.{is_printable, quoted, octal, spelled}
use Rattle.view_words.specs.Reading.{State, Open, Number, Behind, read_from, opened, control}
use Rattle.view_words.specs.Laws.{AreBytes}
use Rattle.view_words.proofs.Bools.{other, digit}
use Rattle.view_words.proofs.PlainWords.{found}

itself : (b : ℕ) → (b == 0x27) ≡ false → (b == 0x5C) ≡ false → quoted b ≡ b ∷ []
itself b m n = rw (m, n) refl

stays_open : (b : ℕ) (acc : List ℕ) → is_printable b ≡ true → (b == 0x27) ≡ false → (b == 0x5C) ≡ false → opened acc b ≡ Open (acc ++ b ∷ [])
stays_open b acc h m n =
    let l : (b == 10) ≡ false = other is_printable b 10 refl h in
    let r : (b == 13) ≡ false = other is_printable b 13 refl h in
    let z : (b == 0) ≡ false = other is_printable b 0 refl h in
    rw (m, n, l, r, z) refl

quoted_step : (b : ℕ) (acc more : List ℕ) → is_printable b ≡ true → read_from (Open acc) (quoted b ++ more) ≡ read_from (Open (acc ++ b ∷ [])) more
quoted_step b acc more h =
    elim (ℕ_discrete b 0x27) [
      | yes e ↦ subst (λ (c : ℕ). read_from (Open acc) (quoted c ++ more) ≡ read_from (Open (acc ++ c ∷ [])) more) (sym e) refl
      | no not_quote ↦ elim (ℕ_discrete b 0x5C) [
        | yes e ↦ subst (λ (c : ℕ). read_from (Open acc) (quoted c ++ more) ≡ read_from (Open (acc ++ c ∷ [])) more) (sym e) refl
        | no not_backslash ↦
            let m = ne_eqb b 0x27 not_quote in
            let n = ne_eqb b 0x5C not_backslash in
            ap (λ (t : List ℕ). read_from (Open acc) (t ++ more)) (itself b m n)
            ∙ ap (λ (s : State). read_from s more) (stays_open b acc h m n)
      ]
    ]

quoted_tail : (name acc rest : List ℕ) → list_all is_printable name ≡ true → read_from (Open acc) (spelled quoted name ++ 0x27 ∷ rest) ≡ found (acc ++ name) rest
quoted_tail [] acc rest h = ap (λ (n : List ℕ). found n rest) (sym (append-nil acc))
quoted_tail (b ∷ name) acc rest h =
    let text = spelled quoted name in
    ap (λ (t : List ℕ). read_from (Open acc) t) (append_assoc (quoted b) text (0x27 ∷ rest))
    ∙ quoted_step b acc (text ++ 0x27 ∷ rest) ((and_parts (is_printable b) (list_all is_printable name) h).0)
    ∙ quoted_tail name (acc ++ b ∷ []) rest ((and_parts (is_printable b) (list_all is_printable name) h).1)
    ∙ ap (λ (n : List ℕ). found n rest) (append_assoc acc (b ∷ []) name)

behind_digit : (acc more : List ℕ) (d : ℕ) → d < 10 → read_from (Behind acc) ((0x30 + d) ∷ more) ≡ read_from (Number acc d) more
behind_digit acc more d h =
    let v : 0x30 + d - 0x30 ≡ d = omega arith in
    ap (λ (t : Bool). read_from (if t then Number acc (0x30 + d - 0x30) else Open (acc ++ control (0x30 + d) ∷ [])) more) (digit d h)
    ∙ ap (λ (n : ℕ). read_from (Number acc n) more) v

counted_digit : (acc more : List ℕ) (v d w : ℕ) → d < 10 → v * 8 + d ≡ w → read_from (Number acc v) ((0x30 + d) ∷ more) ≡ read_from (Number acc w) more
counted_digit acc more v d w h e =
    let s : v * 8 + (0x30 + d - 0x30) ≡ w = omega (arith, e) in
    ap (λ (t : Bool). read_from (if t then Number acc (v * 8 + (0x30 + d - 0x30)) else opened (acc ++ v % 256 ∷ []) (0x30 + d)) more) (digit d h)
    ∙ ap (λ (n : ℕ). read_from (Number acc n) more) s

octal_step : (b : ℕ) (acc more : List ℕ) → b < 256 → read_from (Open acc) (octal b ++ more) ≡ read_from (Number acc b) more
octal_step b acc more h =
    behind_digit acc ((0x30 + b / 8 % 8) ∷ (0x30 + b % 8) ∷ more) (b / 64) (omega arith)
    ∙ counted_digit acc ((0x30 + b % 8) ∷ more) (b / 64) (b / 8 % 8) (b / 8) (omega arith) (omega arith)
    ∙ counted_digit acc more (b / 8) (b % 8) b (omega arith) (omega arith)

ended : (acc more : List ℕ) (v c : ℕ) → v < 256 → is_ascii_digit c ≡ false → read_from (Number acc v) (c ∷ more) ≡ read_from (Open (acc ++ v ∷ [])) (c ∷ more)
ended acc more v c h e =
    let s : v % 256 ≡ v = omega arith in
    ap (λ (t : Bool). read_from (if t then Number acc (v * 8 + (c - 0x30)) else opened (acc ++ v % 256 ∷ []) c) more) e
    ∙ ap (λ (n : ℕ). read_from (opened (acc ++ n ∷ []) c) more) s

goes_on : (name acc rest : List ℕ) (b : ℕ) → b < 256 → read_from (Number acc b) (spelled octal name ++ 0x27 ∷ rest) ≡ read_from (Open (acc ++ b ∷ [])) (spelled octal name ++ 0x27 ∷ rest)
goes_on [] acc rest b h = ended acc rest b 0x27 h refl
goes_on (c ∷ name) acc rest b h =
    ended acc ((0x30 + c / 64) ∷ (0x30 + c / 8 % 8) ∷ (0x30 + c % 8) ∷ (spelled octal name ++ 0x27 ∷ rest)) b 0x5C h refl

octal_tail : (name acc rest : List ℕ) → AreBytes name → read_from (Open acc) (spelled octal name ++ 0x27 ∷ rest) ≡ found (acc ++ name) rest
octal_tail [] acc rest h = ap (λ (n : List ℕ). found n rest) (sym (append-nil acc))
octal_tail (b ∷ name) acc rest h =
    let byte : b < 256 = All-head (λ n. n < 256) b name h in
    octal_step b acc (spelled octal name ++ 0x27 ∷ rest) byte
    ∙ goes_on name acc rest b byte
    ∙ octal_tail name (acc ++ b ∷ []) rest (All-tail (λ n. n < 256) b name h)
    ∙ ap (λ (n : List ℕ). found n rest) (append_assoc acc (b ∷ []) name)

pub quoted_read : (name rest : List ℕ) → list_all is_printable name ≡ true
    → read_from (Open []) ((spelled quoted name ++ 0x27 ∷ []) ++ rest) ≡ found name rest
quoted_read name rest h =
    ap (λ (t : List ℕ). read_from (Open []) t) (append_assoc (spelled quoted name) (0x27 ∷ []) rest) ∙ quoted_tail name [] rest h

pub octal_read : (name rest : List ℕ) → AreBytes name
    → read_from (Open []) ((spelled octal name ++ 0x27 ∷ []) ++ rest) ≡ found name rest
octal_read name rest h =
    ap (λ (t : List ℕ). read_from (Open []) t) (append_assoc (spelled octal name) (0x27 ∷ []) rest) ∙ octal_tail name [] rest h
