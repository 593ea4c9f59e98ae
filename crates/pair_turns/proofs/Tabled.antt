-- Tables of names, found with their letters folded.
use Rattle.std.proofs.Common.{◌≡◌, ℕ, List, [], ◌∷◌, ◌++◌, Bool, true, false, cond, refl, sym, ap, subst, ◌∙◌}
use Rattle.base_laws.proofs.Tests.{or_false, or_assoc}
use Rattle.std.specs.Prelude.{◌||◌}
use Rattle.std.specs.Str.{bytes_eq}
use Rattle.std.proofs.lemmas.List.Folds.{list_any-append}
use Rattle.std.proofs.lemmas.Slice.Eq.{bytes_eq-Decides}
use Rattle.text_table.specs.Texts.{has_text, with_text}

-- what is found in a table with a text is the text, and what was found before
pub with_found : (table : List (List ℕ)) (text other : List ℕ) → has_text (with_text table text) other ≡ (has_text table other || bytes_eq other text)
with_found table text other = step (has_text table text) refl
  where
    same_found : bytes_eq other text ≡ true → has_text table text ≡ true → has_text table other ≡ true
    same_found e h = subst (λ (t : List ℕ). has_text table t ≡ true) (sym ((bytes_eq-Decides other text).0 e)) h

    kept : (m t : Bool) → (t ≡ true → m ≡ true) → m ≡ (m || t)
    kept true t h = refl
    kept false true h = h refl
    kept false false h = refl

    step : (t : Bool) → has_text table text ≡ t → has_text (cond t table (table ++ text ∷ [])) other ≡ (has_text table other || bytes_eq other text)
    step true is = kept (has_text table other) (bytes_eq other text) (λ e. same_found e is)
    step false is = list_any-append (bytes_eq other) table (text ∷ []) ∙ ap (λ (b : Bool). has_text table other || b) (or_false (bytes_eq other text))

-- a name more in the table
pub name_more : (table : List (List ℕ)) (text other : List ℕ) (rest whole : Bool) → (has_text table other || (bytes_eq other text || rest)) ≡ whole
    → (has_text (with_text table text) other || rest) ≡ whole
name_more table text other rest whole e =
    ap (λ (b : Bool). b || rest) (with_found table text other) ∙ or_assoc (has_text table other) (bytes_eq other text) rest ∙ e
