-- Words without quotes are read as their names.
use Rattle.std.proofs.Common.{◌≡◌, ◌∙◌, ℕ, Bool, true, List, [], ◌∷◌, ◌++◌, Option, Some, if◌then◌else◌, refl, sym, ap, append_assoc, append-nil}
use Rattle.std.proofs.lemmas.Bool.{and_parts, not-true}
use Rattle.std.specs.List.{list_all}
use Rattle.view_words.specs.Words.{is_plain}
use Rattle.view_words.specs.Reading.{Plain, Open, Broken, Found, read_from, read_word, ends}
use Rattle.view_words.proofs.Bools.{other}

abbrev pub found : List ℕ → List ℕ → Option Found
found name rest = Some (record { name = name; rest = rest })

plain_end : (acc rest : List ℕ) → ends rest ≡ true → read_from (Plain acc) rest ≡ found acc rest
plain_end acc [] e = refl
plain_end acc (b ∷ rest) e =
    ap (λ (p : Bool). if p then read_from (Plain (acc ++ b ∷ [])) rest else found acc (b ∷ rest)) (not-true (is_plain b) e)

plain_read : (name acc rest : List ℕ) → list_all is_plain name ≡ true → ends rest ≡ true
    → read_from (Plain acc) (name ++ rest) ≡ found (acc ++ name) rest
plain_read [] acc rest h e = plain_end acc rest e ∙ ap (λ (n : List ℕ). found n rest) (sym (append-nil acc))
plain_read (c ∷ name) acc rest h e =
    ap (λ (p : Bool). if p then read_from (Plain (acc ++ c ∷ [])) (name ++ rest) else found acc (c ∷ (name ++ rest)))
    ((and_parts (is_plain c) (list_all is_plain name) h).0)
    ∙ plain_read name (acc ++ c ∷ []) rest ((and_parts (is_plain c) (list_all is_plain name) h).1) e
    ∙ ap (λ (n : List ℕ). found n rest) (append_assoc acc (c ∷ []) name)

pub plain_word_read : (b : ℕ) (name rest : List ℕ) → list_all is_plain (b ∷ name) ≡ true → ends rest ≡ true
    → read_word ((b ∷ name) ++ rest) ≡ found (b ∷ name) rest
plain_word_read b name rest h e =
    let one = (and_parts (is_plain b) (list_all is_plain name) h).0 in
    ap (λ (q : Bool). read_from (if q then Open [] else if is_plain b then Plain (b ∷ []) else Broken) (name ++ rest)) (other is_plain b 0x27 refl one)
    ∙ ap (λ (p : Bool). read_from (if p then Plain (b ∷ []) else Broken) (name ++ rest)) one
    ∙ plain_read name (b ∷ []) rest ((and_parts (is_plain b) (list_all is_plain name) h).1) e
