-- Marks of listed numbers, as a list of truths.
use Rattle.std.proofs.Common.{◌≡◌, inl, inr, ◌∙◌, ◌==◌, ℕ, zero, suc, ◌+◌, ◌<◌, Bool, true, false, List, [], ◌∷◌, length, map, slice_index_or, refl, sym, ap, arith}
use Rattle.base_laws.proofs.Tests.{same_truth}
use Rattle.std.specs.List.{list_any, range_with_len}
use Rattle.std.proofs.lemmas.Bool.{eqb-true, eq-eqb, or_cases, or_left, or_right}
use Rattle.match_parts.specs.Marks.{AreMarked}
use Rattle.plain_netlist.specs.Lists.{IsListed}
use Rattle.view_pairs.specs.Alike.{marks_of}

pub any_listed : (j : ℕ) (ns : List ℕ) → list_any (λ x. x == j) ns ≡ true → IsListed j ns
any_listed j [] h = absurd (let e : false ≡ true = h in cc)
any_listed j (n ∷ ns) h = elim (or_cases (n == j) (list_any (λ x. x == j) ns) h) [
  | inl e ↦ inl (sym (eqb-true n j e))
  | inr e ↦ inr (any_listed j ns e)
]

pub listed_any : (j : ℕ) (ns : List ℕ) → IsListed j ns → list_any (λ x. x == j) ns ≡ true
listed_any j [] h = absurd h
listed_any j (n ∷ ns) (inl e) = or_left (n == j) (list_any (λ x. x == j) ns) (eq-eqb n j (sym e))
listed_any j (n ∷ ns) (inr h) = or_right (n == j) (list_any (λ x. x == j) ns) (listed_any j ns h)

from_all : (is : ℕ → Bool) (a n : ℕ) (marks : List Bool) → length marks ≡ n → ((j : ℕ) → j < length marks → slice_index_or marks j false ≡ is (a + j))
    → marks ≡ map is (range_with_len a n)
from_all is a zero [] e h = refl
from_all is a (suc n) [] e h = absurd (omega arith)
from_all is a zero (m ∷ marks) e h = absurd (omega arith)
from_all is a (suc n) (m ∷ marks) e h =
    let here : m ≡ is (a + 0) = h 0 (omega arith) in
    let z : a + 0 ≡ a = omega arith in
    let rest : marks ≡ map is (range_with_len (a + 1) n) = from_all is (a + 1) n marks (omega arith) (λ j l.
    let s : a + suc j ≡ a + 1 + j = omega arith in
    let at : slice_index_or marks j false ≡ is (a + suc j) = h (suc j) (omega arith) in
    at ∙ ap is s) in
    ap (λ (b : Bool). b ∷ marks) (here ∙ ap is z) ∙ ap (λ (bs : List Bool). is a ∷ bs) rest

pub marked : (ns : List ℕ) (n : ℕ) (marks : List Bool) → length marks ≡ n → AreMarked ns marks → marks ≡ marks_of n ns
marked ns n marks e h = from_all (λ k. list_any (λ x. x == k) ns) 0 n marks e (λ j l.
    let z : 0 + j ≡ j = omega arith in
    same_truth (slice_index_or marks j false) (list_any (λ x. x == j) ns) (λ t. listed_any j ns ((h j l).0 t)) (λ t. (h j l).1 (any_listed j ns t))
    ∙ ap (λ (k : ℕ). list_any (λ x. x == k) ns) (sym z))
