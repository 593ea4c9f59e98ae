-- Resolved references are those of the drafts.
use Rattle.std.proofs.Common.{◌≡◌, ◌⊎◌, inl, inr, ℕ, zero, suc, ◌<◌, List, [], ◌∷◌, Some, None, length, slice_get, refl, sym, ap, subst, arith}
use Rattle.cell_graph.specs.declared.drafts.CellDraft.{CellDraft}
use Rattle.cell_graph.specs.Chains.{Leads, IsOnCycle, IsTooDeep, IsHeightOf}
use Rattle.cell_graph.specs.Parts.{Part, Places}
use Rattle.cell_graph.specs.Drafts.{IsNamed, Refers, HasNoRepeat, AreParts}

-- what stands at a place of one list stands at that of another as long
pub at_too : {A B : Type 0} (xs : List A) (ys : List B) (k : ℕ) (x : A) → length xs ≡ length ys → slice_get xs k ≡ Some x → (y : B) × (slice_get ys k ≡ Some y)
at_too [] ys k x e h = let f : None ≡ Some x = h in absurd (let z : ⊥ = cc in z)
at_too (a ∷ xs) [] k x e h = absurd (let z : ⊥ = omega arith in z)
at_too (a ∷ xs) (b ∷ ys) zero x e h = (b, refl)
at_too (a ∷ xs) (b ∷ ys) (suc k) x e h = at_too xs ys k x (let f : length xs ≡ length ys = omega arith in f) h

-- a name is that of one cell at most
pub one_named : (cells : List CellDraft) → HasNoRepeat cells → (name : List ℕ) (i j : ℕ) → IsNamed cells name i → IsNamed cells name j → i ≡ j
one_named cells once name i j a b = elim (order i j) [
  | inl lt ↦ absurd (once j (record { name = name; here = b; earlier = i; before = lt; there = a }))
  | inr (inl e) ↦ e
  | inr (inr lt) ↦ absurd (once i (record { name = name; here = a; earlier = j; before = lt; there = b }))
]
  where
    order : (i j : ℕ) → (i < j) ⊎ (i ≡ j) ⊎ (j < i)
    order zero zero = inr (inl refl)
    order zero (suc j) = inl (omega arith)
    order (suc i) zero = inr (inr (omega arith))
    order (suc i) (suc j) = elim (order i j) [ inl a ↦ inl (let f : suc i < suc j = omega arith in f) | inr b ↦ elim b [ inl e ↦ inr (inl (ap suc e)) | inr a ↦ inr (inr (let f : suc j < suc i = omega arith in f)) ] ]

pub places_refers : (cells : List CellDraft) (parts : List Part) → AreParts cells parts → (i j : ℕ) → Places parts i j → Refers cells i j
places_refers cells parts are i j p =
    let c = at_too parts cells i p.part are.count p.there in
    let all = are.each i c.0 p.part c.1 p.there in
    let r = at_too p.part.items c.0.refs.items p.among.0 p.among.1 all.count p.among.2 in
    let is = all.each p.among.0 r.0 p.among.1 r.1 p.among.2 in
    record {
      number = p.among.0;
      ref = r.0;
      has = record { cell = c.0; there = c.1; ref = r.1 };
      names = subst (IsNamed cells r.0.cell) p.among.3 is.names;
    }

pub refers_places : (cells : List CellDraft) (parts : List Part) → HasNoRepeat cells → AreParts cells parts → (i j : ℕ) → Refers cells i j → Places parts i j
refers_places cells parts once are i j r =
    let part = at_too cells parts i r.has.cell (sym are.count) r.has.there in
    let all = are.each i r.has.cell part.0 r.has.there part.1 in
    let p = at_too r.has.cell.refs.items part.0.items r.number r.ref (sym all.count) r.has.ref in
    let is = all.each r.number r.ref p.0 r.has.ref p.1 in
    record { part = part.0; there = part.1; among = (r.number, p.0, p.1, one_named cells once r.ref.cell p.0.cell j is.names r.names) }

-- chains of steps that are steps of another kind too
pub leads_too : (R S : ℕ → ℕ → Type 0) → ((i j : ℕ) → R i j → S i j) → (n i j : ℕ) → Leads R i n j → Leads S i n j
leads_too R S to zero i j l = l
leads_too R S to (suc n) i j (k, r, l) = (k, to i k r, leads_too R S to n k j l)

pub height_too : (R S : ℕ → ℕ → Type 0) → ((i j : ℕ) → R i j → S i j) → ((i j : ℕ) → S i j → R i j) → (i h : ℕ) → IsHeightOf R i h → IsHeightOf S i h
height_too R S to from i h of = let c = of.chain in record {
  chain = (c.0, leads_too R S to h i c.0 c.1);
  longest = λ n (j, l). of.longest n (j, leads_too S R from n i j l);
}

pub cycle_too : (R S : ℕ → ℕ → Type 0) → ((i j : ℕ) → R i j → S i j) → (i : ℕ) → IsOnCycle R i → IsOnCycle S i
cycle_too R S to i (n, l) = (n, leads_too R S to (suc n) i i l)

pub deep_too : (R S : ℕ → ℕ → Type 0) → ((i j : ℕ) → R i j → S i j) → (i : ℕ) → IsTooDeep R i → IsTooDeep S i
deep_too R S to i (n, more, (j, l)) = (n, more, (j, leads_too R S to n i j l))
