-- Words are read as their names, and are printable.
use Rattle.std.proofs.Common.{◌≡◌, ◌∙◌, ℕ, ◌+◌, ◌/◌, ◌%◌, ◌<◌, Bool, true, false, ◌&&◌, ◌||◌, ◌==◌, List, [], ◌∷◌, ◌++◌, if◌then◌else◌, refl, arith}
use Rattle.std.proofs.lemmas.Bool.{and_parts, and_from}
use Rattle.std.specs.List.{list_all}
use Rattle.std.proofs.lemmas.Bool.Decides.{nat_tests}
use Rattle.std.proofs.lemmas.List.Elements.{All-head, All-tail}
use Rattle.std.proofs.lemmas.List.Folds.{list_all-append}
use Rattle.view_words.specs.Words.{is_plain, is_printable, quoted, octal, spelled, in_quotes}
use Rattle.view_words.specs.Reading.{read_word}
use Rattle.view_words.specs.Laws.{AreBytes, WordReadLaw, PrintableLaw}
use Rattle.view_words.proofs.PlainWords.{found, plain_word_read}
use Rattle.view_words.proofs.QuotedWords.{quoted_read, octal_read}

pub word_read : WordReadLaw
word_read [] rest h e = refl
word_read (b ∷ name) rest h e = forms (list_all is_plain (b ∷ name)) (list_all is_printable (b ∷ name)) refl refl
  where
    forms : (p q : Bool) → list_all is_plain (b ∷ name) ≡ p → list_all is_printable (b ∷ name) ≡ q
        → read_word ((if p then b ∷ name else if q then in_quotes (spelled quoted (b ∷ name)) else in_quotes (spelled octal (b ∷ name))) ++ rest) ≡ found (b ∷ name) rest
    forms true q f g = plain_word_read b name rest f e
    forms false true f g = quoted_read (b ∷ name) rest g
    forms false false f g = octal_read (b ∷ name) rest h

plain_printable : (b : ℕ) → is_plain b ≡ true → is_printable b ≡ true
plain_printable b h = grind (arith, nat_tests)

all_printable : (name : List ℕ) → list_all is_plain name ≡ true → list_all is_printable name ≡ true
all_printable [] h = refl
all_printable (b ∷ name) h =
    and_from (is_printable b) (list_all is_printable name)
    (plain_printable b ((and_parts (is_plain b) (list_all is_plain name) h).0))
    (all_printable name ((and_parts (is_plain b) (list_all is_plain name) h).1))

joined : (a b : List ℕ) → list_all is_printable a ≡ true → list_all is_printable b ≡ true → list_all is_printable (a ++ b) ≡ true
joined a b h g = list_all-append is_printable a b ∙ and_from (list_all is_printable a) (list_all is_printable b) h g

quoted_one : (b : ℕ) → is_printable b ≡ true → list_all is_printable (quoted b) ≡ true
quoted_one b h = kinds ((b == 0x27)) ((b == 0x5C)) refl refl
  where
    both : (is_printable b && true) ≡ true
    both = and_from (is_printable b) true h refl

    kinds : (p q : Bool) → (b == 0x27) ≡ p → (b == 0x5C) ≡ q → list_all is_printable (if (p || q) then 0x5C ∷ b ∷ [] else b ∷ []) ≡ true
    kinds true q f g = both
    kinds false true f g = both
    kinds false false f g = both

quoted_all : (name : List ℕ) → list_all is_printable name ≡ true → list_all is_printable (spelled quoted name) ≡ true
quoted_all [] h = refl
quoted_all (b ∷ name) h = joined (quoted b) (spelled quoted name)
    (quoted_one b ((and_parts (is_printable b) (list_all is_printable name) h).0))
    (quoted_all name ((and_parts (is_printable b) (list_all is_printable name) h).1))

digit_printable : (d : ℕ) → d < 10 → is_printable (0x30 + d) ≡ true
digit_printable d h = grind (arith, nat_tests)

octal_one : (b : ℕ) → b < 256 → list_all is_printable (octal b) ≡ true
octal_one b h =
    let two = digit_printable (b / 64) (omega arith) in
    let one = digit_printable (b / 8 % 8) (omega arith) in
    let none = digit_printable (b % 8) (omega arith) in
    and_from (is_printable (0x30 + b / 64)) (list_all is_printable ((0x30 + b / 8 % 8) ∷ (0x30 + b % 8) ∷ [])) two
    (and_from (is_printable (0x30 + b / 8 % 8)) (list_all is_printable ((0x30 + b % 8) ∷ [])) one
    (and_from (is_printable (0x30 + b % 8)) true none refl))

octal_all : (name : List ℕ) → AreBytes name → list_all is_printable (spelled octal name) ≡ true
octal_all [] h = refl
octal_all (b ∷ name) h = joined (octal b) (spelled octal name) (octal_one b (All-head (λ n. n < 256) b name h))
    (octal_all name (All-tail (λ n. n < 256) b name h))

between : (text : List ℕ) → list_all is_printable text ≡ true → list_all is_printable (in_quotes text) ≡ true
between text h = joined text (0x27 ∷ []) h refl

pub printable : PrintableLaw
printable [] h = refl
printable (b ∷ name) h = forms (list_all is_plain (b ∷ name)) (list_all is_printable (b ∷ name)) refl refl
  where
    forms : (p q : Bool) → list_all is_plain (b ∷ name) ≡ p → list_all is_printable (b ∷ name) ≡ q
        → list_all is_printable (if p then b ∷ name else if q then in_quotes (spelled quoted (b ∷ name)) else in_quotes (spelled octal (b ∷ name))) ≡ true
    forms true q f g = all_printable (b ∷ name) f
    forms false true f g = between (spelled quoted (b ∷ name)) (quoted_all (b ∷ name) g)
    forms false false f g = between (spelled octal (b ∷ name)) (octal_all (b ∷ name) h)
