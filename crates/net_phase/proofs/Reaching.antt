-- How far outside a cell's hull its nets' squares may lie.
use Rattle.std.proofs.Common.{◌≡◌, inl, inr, ℕ, ◌-◌, ◌≤◌, max, Bool, true, false, List, [], ◌∷◌, take, drop, length, get_or, sym, ◌∙◌, ap, subst, refl, arith}
use Rattle.std.proofs.Math.ListN.{get_or-map}
use Rattle.std.proofs.lemmas.Bool.{cases_lt}
use Rattle.std.proofs.lemmas.List.{get_or_past, take_all}
use Rattle.std.proofs.lemmas.List.Elements.{All-head, All-tail}
use Rattle.std.proofs.lemmas.Option.{slice_get-get_or}
use Rattle.std.specs.List.{All}
use Rattle.flat_layout.specs.Layers.{Formula, Empty, reach}
use Rattle.flat_layout.specs.Regions.{formula}
use Rattle.rule_layers.proofs.Reaching.{reach_law}
use Rattle.rule_layers.proofs.Wired.{conductors}
use Rattle.rule_layers.specs.Formulas.{formulas}
use Rattle.rule_layers.specs.Meaning.{wiring_of}
use Rattle.rule_text.specs.Reaches.{reaches}
use Rattle.rule_text.specs.Reading.{TellsConductors, is_conductor}
use Rattle.rule_text.specs.Rules.{Rules}
use Rattle.net_phase.proofs.Wiring.{trees_long}
use Rattle.net_phase.specs.Indexes.{IsNetReach}

pub greater : (m n limit : ℕ) → m ≤ limit → n ≤ limit → max m n ≤ limit
greater m n limit h g = grind (arith, h, g)

-- what holds of all numbers holds of the first, and of all behind it
pub first_all : (P : ℕ → Type 0) (xs : List ℕ) → 1 ≤ length xs → All P xs → P (get_or xs 0 0)
first_all P [] lt h = absurd (omega (arith, lt))
first_all P (x ∷ xs) lt h = All-head P x xs h

pub rest_all : (P : ℕ → Type 0) (xs : List ℕ) → 1 ≤ length xs → All P xs → All P (take (length xs - 1) (drop 1 xs))
rest_all P [] lt h = absurd (omega (arith, lt))
rest_all P (x ∷ xs) lt h =
    let count : length (x ∷ xs) - 1 ≡ length xs = omega arith in
    subst (All P) (sym (take_all (length xs) xs (omega arith)) ∙ ap (λ (k : ℕ). take k xs) (sym count)) (All-tail P x xs h)

-- the conductors' reaches bound what any conductor reaches
pub bounds_reach : (r : Rules) (known : List Bool) (n : ℕ) → length known ≡ length r.names → TellsConductors known r → ((k : ℕ) → get_or known k false ≡ true → get_or (reaches r.names) k 0 ≤ n) → n ≤ 10000 → IsNetReach r n
bounds_reach r known n long tells all most = record { all = λ c. by c (is_conductor c r) refl; most = most }
  where
    told : (c : ℕ) → get_or (reaches r.names) c 0 ≡ reach (get_or (formulas r.names) c Empty)
    told c = ap (λ (l : List ℕ). get_or l c 0) (reach_law r.names) ∙ get_or-map reach (formulas r.names) c Empty

    by : (c : ℕ) (b : Bool) → is_conductor c r ≡ b → reach (formula (wiring_of r) c) ≤ n
    by c false e = subst (λ (x : Formula). reach x ≤ n) (sym ((conductors r c).none e)) (omega arith)
    by c true e = subst (λ (x : Formula). reach x ≤ n) (sym ((conductors r c).conductor e)) (elim (cases_lt c (length known)) [
      | inl lt ↦ subst (λ m. m ≤ n) (told c) (all c (tells.each c (get_or known c false) (slice_get-get_or known c false lt) ∙ e))
      | inr le ↦ subst (λ (x : Formula). reach x ≤ n) (sym (get_or_past (formulas r.names) c Empty (let m = trees_long r in omega (arith, m, long, le)))) (omega arith)
    ])
