-- The grammar can go on with a kind where some text of it begins with the kinds so far and this one.
use Rattle.std.proofs.Common.{◌≡◌, ◌⊎◌, inl, inr, ℕ, Bool, true, false, cond, List, [], ◌∷◌, ◌++◌, refl, sym, ap, subst, ◌∙◌, append_assoc, eq-eqb}
use Rattle.std.proofs.lemmas.Bool.{eqb-true}
use Rattle.std.specs.Prelude.{◌==◌, not}
use Rattle.gds_grammar.specs.Pattern.{Pattern, Allows, Next, nexts, lefts_by, after, after_any}
use Rattle.gds_grammar.specs.Grammar.{library}
use Rattle.gds_records.specs.Records.{Records, NoRecords, ◌▸◌}
use Rattle.gds_grammar.specs.Order.{kinds_of, left_after, is_empty, GrammarLaw}
use Rattle.gds_grammar.proofs.Patterns.{Among, steps_in, steps_of, some_text}

-- one of the patterns allows the text
abbrev OneAllows : List Pattern → List ℕ → Type 0
OneAllows [] ks = ⊥
OneAllows (p ∷ ps) ks = Allows p ks ⊎ OneAllows ps ks

OneAllows-left : (ps qs : List Pattern) (ks : List ℕ) → OneAllows ps ks → OneAllows (ps ++ qs) ks
OneAllows-left [] qs ks h = absurd h
OneAllows-left (p ∷ ps) qs ks (inl h) = inl h
OneAllows-left (p ∷ ps) qs ks (inr h) = inr (OneAllows-left ps qs ks h)

OneAllows-right : (ps qs : List Pattern) (ks : List ℕ) → OneAllows qs ks → OneAllows (ps ++ qs) ks
OneAllows-right [] qs ks h = h
OneAllows-right (p ∷ ps) qs ks h = inr (OneAllows-right ps qs ks h)

OneAllows-split : (ps qs : List Pattern) (ks : List ℕ) → OneAllows (ps ++ qs) ks → OneAllows ps ks ⊎ OneAllows qs ks
OneAllows-split [] qs ks h = inr h
OneAllows-split (p ∷ ps) qs ks (inl h) = inl (inl h)
OneAllows-split (p ∷ ps) qs ks (inr h) = elim (OneAllows-split ps qs ks h) [ inl a ↦ inl (inr a) | inr b ↦ inr b ]

cons_if : (b : Bool) (kind : ℕ) (n : Next) (ps : List Pattern) (ks : List ℕ) → OneAllows (cond b (n.left ∷ ps) ps) ks → ((b ≡ true) × Allows n.left ks) ⊎ OneAllows ps ks
cons_if true kind n ps ks (inl h) = inl (refl, h)
cons_if true kind n ps ks (inr h) = inr h
cons_if false kind n ps ks h = inr h

if_cons : (b : Bool) (n : Next) (ps : List Pattern) (ks : List ℕ) → (b ≡ true) → Allows n.left ks → OneAllows (cond b (n.left ∷ ps) ps) ks
if_cons true n ps ks e h = inl h
if_cons false n ps ks e h = absurd cc

if_more : (b : Bool) (n : Next) (ps : List Pattern) (ks : List ℕ) → OneAllows ps ks → OneAllows (cond b (n.left ∷ ps) ps) ks
if_more true n ps ks h = inr h
if_more false n ps ks h = h

from_lefts : (kind : ℕ) (ns : List Next) (ks : List ℕ) → OneAllows (lefts_by kind ns) ks → (n : Next) × Among n ns × (kind ≡ n.kind) × Allows n.left ks
from_lefts kind [] ks h = absurd h
from_lefts kind (n ∷ ns) ks h =
    elim (cons_if (kind == n.kind) kind n (lefts_by kind ns) ks h) [
      | inl here ↦ (n, inl refl, eqb-true kind n.kind here.0, here.1)
      | inr there ↦ let u = from_lefts kind ns ks there in (u.0, inr u.1, u.2, u.3)
    ]

to_lefts : (kind : ℕ) (ns : List Next) (n : Next) (ks : List ℕ) → Among n ns → kind ≡ n.kind → Allows n.left ks → OneAllows (lefts_by kind ns) ks
to_lefts kind [] n ks m e h = absurd m
to_lefts kind (x ∷ ns) n ks (inl same) e h =
    let f : kind ≡ x.kind = e ∙ sym (ap (λ (y : Next). y.kind) same) in
    if_cons (kind == x.kind) x (lefts_by kind ns) ks (eq-eqb kind x.kind f) (subst (λ (y : Next). Allows y.left ks) (sym same) h)
to_lefts kind (x ∷ ns) n ks (inr m) e h = if_more (kind == x.kind) x (lefts_by kind ns) ks (to_lefts kind ns n ks m e h)

-- one kind on
in_after : (p : Pattern) (kind : ℕ) (ks : List ℕ) → OneAllows (after kind p) ks → Allows p (kind ∷ ks)
in_after p kind ks h =
    let u = from_lefts kind (nexts p) ks h in
    subst (λ (k : ℕ). Allows p (k ∷ ks)) (sym u.2) (steps_in p u.0 ks u.1 u.3)

of_after : (p : Pattern) (kind : ℕ) (ks : List ℕ) → Allows p (kind ∷ ks) → OneAllows (after kind p) ks
of_after p kind ks h = let u = steps_of p kind ks h in to_lefts kind (nexts p) u.0 ks u.1 (sym u.2) u.3

in_after_any : (ps : List Pattern) (kind : ℕ) (ks : List ℕ) → OneAllows (after_any kind ps) ks → OneAllows ps (kind ∷ ks)
in_after_any [] kind ks h = absurd h
in_after_any (p ∷ ps) kind ks h =
    elim (OneAllows-split (after kind p) (after_any kind ps) ks h) [
      | inl a ↦ inl (in_after p kind ks a)
      | inr b ↦ inr (in_after_any ps kind ks b)
    ]

of_after_any : (ps : List Pattern) (kind : ℕ) (ks : List ℕ) → OneAllows ps (kind ∷ ks) → OneAllows (after_any kind ps) ks
of_after_any [] kind ks h = absurd h
of_after_any (p ∷ ps) kind ks (inl h) = OneAllows-left (after kind p) (after_any kind ps) ks (of_after p kind ks h)
of_after_any (p ∷ ps) kind ks (inr h) = OneAllows-right (after kind p) (after_any kind ps) ks (of_after_any ps kind ks h)

-- the texts behind the records
pub in_library : (rs : Records) (ks : List ℕ) → OneAllows (left_after rs) ks → Allows library (kinds_of rs ++ ks)
in_library NoRecords ks (inl h) = h
in_library NoRecords ks (inr h) = absurd h
in_library (before ▸ r) ks h =
    let u = in_library before (r.kind ∷ ks) (in_after_any (left_after before) r.kind ks h) in
    subst (λ (xs : List ℕ). Allows library xs) (sym (append_assoc (kinds_of before) (r.kind ∷ []) ks)) u

pub of_library : (rs : Records) (ks : List ℕ) → Allows library (kinds_of rs ++ ks) → OneAllows (left_after rs) ks
of_library NoRecords ks h = inl h
of_library (before ▸ r) ks h =
    of_after_any (left_after before) r.kind ks (of_library before (r.kind ∷ ks) (subst (λ (xs : List ℕ). Allows library xs) (append_assoc (kinds_of before) (r.kind ∷ []) ks) h))

some_of_one : (ps : List Pattern) → not (is_empty ps) ≡ true → (ks : List ℕ) × OneAllows ps ks
some_of_one [] e = absurd cc
some_of_one (p ∷ ps) e = let u = some_text p in (u.0, inl u.1)

one_of_some : (ps : List Pattern) (ks : List ℕ) → OneAllows ps ks → not (is_empty ps) ≡ true
one_of_some [] ks h = absurd h
one_of_some (p ∷ ps) ks h = refl

pub grammar_law : GrammarLaw
grammar_law before kind = (
  (λ e. let u = some_of_one (after_any kind (left_after before)) e in (u.0, in_library before (kind ∷ u.0) (in_after_any (left_after before) kind u.0 u.1))),
  (λ h. one_of_some (after_any kind (left_after before)) h.0 (of_after_any (left_after before) kind h.0 (of_library before (kind ∷ h.0) h.1))),
)
