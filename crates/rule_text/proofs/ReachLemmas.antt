-- How far names reach, one name on.
use Rattle.std.proofs.Common.{◌≡◌, ℕ, ◌+◌, ◌<◌, List, [], ◌∷◌, ◌++◌, drop, length, get_or, refl, sym, ap, ◌∙◌}
use Rattle.std.specs.List.{All}
use Rattle.std.proofs.lemmas.List.{at_drop_more}
use Rattle.std.proofs.lemmas.List.Elements.{All-nil, All-cons, All-head, All-tail}
use Rattle.rule_text.specs.declared.rules.LayerRule.{LayerRule}
use Rattle.rule_text.specs.Reaches.{reach_by, reaches, reaches_behind}

reaches_on : (before : List ℕ) (names : List LayerRule) (n : LayerRule) → reaches_behind before (names ++ n ∷ []) ≡ reaches_behind before names ++ reach_by (reaches_behind before names) n.form ∷ []
reaches_on before [] n = refl
reaches_on before (m ∷ names) n = reaches_on (before ++ reach_by before m.form ∷ []) names n

-- the reaches with one name more
pub reaches_more : (names : List LayerRule) (n : LayerRule) → reaches (names ++ n ∷ []) ≡ reaches names ++ reach_by (reaches names) n.form ∷ []
reaches_more names n = reaches_on [] names n

-- those of what is left of the names
pub one_on : (before : List ℕ) (names : List LayerRule) (i : ℕ) (rule : LayerRule) → i < length names → get_or names i rule ≡ rule
    → reaches_behind (before ++ reach_by before rule.form ∷ []) (drop (i + 1) names) ≡ reaches_behind before (drop i names)
one_on before names i rule lt is =
    sym (at_drop_more (reaches_behind before) names i rule lt
    ∙ ap (λ (r : LayerRule). reaches_behind (before ++ reach_by before r.form ∷ []) (drop (i + 1) names)) is)

all_first : {A : Type 0} (P : A → Type 0) (xs ys : List A) → All P (xs ++ ys) → All P xs
all_first P [] ys h = All-nil P
all_first P (x ∷ xs) ys h = All-cons P x xs (All-head P x (xs ++ ys) h) (all_first P xs ys (All-tail P x (xs ++ ys) h))

all_last : {A : Type 0} (P : A → Type 0) (xs : List A) (x : A) → All P (xs ++ x ∷ []) → P x
all_last P [] x h = All-head P x [] h
all_last P (y ∷ ys) x h = all_last P ys x (All-tail P y (ys ++ x ∷ []) h)

all_before : (P : ℕ → Type 0) (before : List ℕ) (names : List LayerRule) → All P (reaches_behind before names) → All P before
all_before P before [] h = h
all_before P before (n ∷ names) h = all_first P before (reach_by before n.form ∷ []) (all_before P (before ++ reach_by before n.form ∷ []) names h)

-- what holds of the reaches of all names holds of that of the next
pub next_reach : (P : ℕ → Type 0) (before : List ℕ) (names : List LayerRule) (n : LayerRule) → All P (reaches_behind (before ++ reach_by before n.form ∷ []) names) → P (reach_by before n.form)
next_reach P before names n h = all_last P before (reach_by before n.form) (all_before P (before ++ reach_by before n.form ∷ []) names h)
