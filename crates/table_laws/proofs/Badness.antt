-- The bad gates of a design.
use Rattle.std.proofs.Common.{◌≡◌, ◌⊎◌, inl, inr, ℕ, List, [], ◌∷◌, refl, sym, ◌∙◌, ap, subst, arith}
use Rattle.flat_layout.specs.GateTables.{Bad, BadGate, GateEntry, GateSquare, Good, Verdict, all_bad_gates, bad_gates, with_bad}
use Rattle.flat_layout.specs.Order.{IsCellBefore}
use Rattle.plain_netlist.proofs.Listing.{one_rising}
use Rattle.plain_netlist.proofs.Members.{either_side, in_left, in_right}
use Rattle.plain_netlist.specs.Lists.{IsListed}
use Rattle.table_laws.specs.BadLaws.{BadListedLaw, NoBadLaw, OneBadLaw, bad_entry}

abbrev entry_of : GateSquare → Verdict → GateEntry
entry_of at v = record { at = at; verdict = v }

-- one entry
one_to : (cell : ℕ) (at : GateSquare) (v : Verdict) (rest : List BadGate) (b : BadGate) → IsListed b (with_bad cell at v rest)
    → ((b.cell ≡ cell) × (bad_entry b ≡ entry_of at v)) ⊎ IsListed b rest
one_to cell at (Good row) rest b l = inr l
one_to cell at (Bad cause) rest b (inl same) = inl (ap (λ (x : BadGate). x.cell) same, ap bad_entry same)
one_to cell at (Bad cause) rest b (inr l) = inr l

one_rest : (cell : ℕ) (at : GateSquare) (v : Verdict) (rest : List BadGate) (b : BadGate) → IsListed b rest → IsListed b (with_bad cell at v rest)
one_rest cell at (Good row) rest b l = l
one_rest cell at (Bad cause) rest b l = inr l

-- a cell's list
cell_to : (cell : ℕ) (xs : List GateEntry) (b : BadGate) → IsListed b (bad_gates cell xs) → (b.cell ≡ cell) × IsListed (bad_entry b) xs
cell_to cell [] b l = absurd l
cell_to cell (x ∷ xs) b l = elim (one_to cell x.at x.verdict (bad_gates cell xs) b l) [
  | inl is ↦ (is.0, inl is.1)
  | inr more ↦ (let rest = cell_to cell xs b more in (rest.0, inr rest.1))
]

cell_from : (xs : List GateEntry) (b : BadGate) → IsListed (bad_entry b) xs → IsListed b (bad_gates b.cell xs)
cell_from [] b l = absurd l
cell_from (x ∷ xs) b (inl same) = subst (λ (y : GateEntry). IsListed b (with_bad b.cell y.at y.verdict (bad_gates b.cell xs))) same (inl refl)
cell_from (x ∷ xs) b (inr l) = one_rest b.cell x.at x.verdict (bad_gates b.cell xs) b (cell_from xs b l)

all_to : (gates : ℕ → List GateEntry) (cells : List ℕ) (b : BadGate) → IsListed b (all_bad_gates gates cells) → IsListed b.cell cells × IsListed (bad_entry b) (gates b.cell)
all_to gates [] b l = absurd l
all_to gates (c ∷ cs) b l = elim (either_side (bad_gates c (gates c)) (all_bad_gates gates cs) b l) [
  | inl here ↦ (let is = cell_to c (gates c) b here in (inl is.0, subst (λ (e : ℕ). IsListed (bad_entry b) (gates e)) (sym is.0) is.1))
  | inr more ↦ (let is = all_to gates cs b more in (inr is.0, is.1))
]

all_from : (gates : ℕ → List GateEntry) (cells : List ℕ) (b : BadGate) → IsListed b.cell cells → IsListed (bad_entry b) (gates b.cell) → IsListed b (all_bad_gates gates cells)
all_from gates [] b l h = absurd l
all_from gates (c ∷ cs) b (inl same) h = in_left (bad_gates c (gates c)) (all_bad_gates gates cs) b
    (subst (λ (e : ℕ). IsListed b (bad_gates e (gates e))) same (cell_from (gates b.cell) b h))
all_from gates (c ∷ cs) b (inr l) h = in_right (bad_gates c (gates c)) (all_bad_gates gates cs) b (all_from gates cs b l h)

pub bad_listed : BadListedLaw
bad_listed gates cells b = ((λ l. all_to gates cells b l), (λ h. all_from gates cells b h.0 h.1))

both_ways : (level : ℕ → ℕ) (a b : ℕ) → IsCellBefore level a b → IsCellBefore level b a → ⊥
both_ways level a b (inl lt) (inl gt) = omega arith
both_ways level a b (inl lt) (inr (e, gt)) = omega arith
both_ways level a b (inr (e, lt)) (inl gt) = omega arith
both_ways level a b (inr (e, lt)) (inr (f, gt)) = omega arith

pub one_bad : OneBadLaw
one_bad d level gates v z (xs, order, is) (ys, other, same) =
    let cells = one_rising (IsCellBefore level) (both_ways level) xs ys order.rising other.rising
    (λ e l. (other.each e).1 ((order.each e).0 l)) (λ e l. (order.each e).1 ((other.each e).0 l)) in
    is ∙ (ap (λ (c : List ℕ). all_bad_gates gates c) cells ∙ sym same)

empty : (v : List BadGate) → ((b : BadGate) → IsListed b v → ⊥) → v ≡ []
empty [] not = refl
empty (b ∷ bs) not = absurd (not b (inl refl))

pub no_bad : NoBadLaw
no_bad d level gates v (cells, order, is) = (
  (λ none b reached l. subst (λ (w : List BadGate). IsListed b w) (sym is ∙ none) (all_from gates cells b ((order.each b.cell).1 (reached, tt)) l)),
  (λ not. empty v (λ b l. let h = all_to gates cells b (subst (λ (w : List BadGate). IsListed b w) is l) in not b ((order.each b.cell).0 h.0).0 h.1)),
)
