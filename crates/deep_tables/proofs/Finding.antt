-- Entries of tables.
use Rattle.std.proofs.Common.{◌≡◌, [], ◌∷◌, zero, suc, inl, inr, ℕ, ◌<◌, ◌-◌, List, Option, Some, None, IsSome, IsSomeAnd, is_some, true, false, length, map, slice_get, slice_index, slice_index_or, refl, sym, ◌∙◌, ap, subst, arith}
use Rattle.std.proofs.lemmas.List.{get_or-map, length-map}
use Rattle.std.proofs.lemmas.Option.{slice_get_cases}
use Rattle.cell_graph.specs.Linked.{Linked, IsOrder, plain}
use Rattle.flat_layout.specs.Layout.{Design}
use Rattle.rule_text.specs.Rules.{Rules}
use Rattle.deep_tables.specs.Entries.{entry, IsDownward, IsUpward, downward_cell, upward_cell}
use Rattle.deep_tables.specs.Laws.{DownwardLaw, UpwardLaw}
use Rattle.deep_tables.specs.Positions.{ArePositions, AreReversed}

-- a list of jobs as a table
abbrev pub seen : {T : Type 0} → List T → List ℕ → List (Option T)
seen values jobs = map (λ job. slice_get values job) jobs

at_job : {T : Type 0} (values : List T) (jobs : List ℕ) (cell job : ℕ) → cell < length jobs → slice_index jobs cell ≡ job → entry (seen values jobs) cell ≡ slice_get values job
at_job {T} values jobs cell job lt e = get_or-map (λ j. slice_get values j) jobs cell 0 None lt ∙ ap (slice_get values) e

pub by_upward : {T : Type 0} (d : Linked) (values : List T) (jobs : List ℕ) → IsOrder d → length jobs ≡ length d.cells → ArePositions d.order (length d.order) jobs → IsUpward d values (seen values jobs)
by_upward {T} d values jobs order count places = record {
  count = length-map jobs (λ j. slice_get values j) ∙ count;
  each = λ job lt. at_job values jobs (upward_cell d job) job (subst (λ n. upward_cell d job < n) (sym count) (order.inside job lt)) (places job lt);
}

pub by_downward : {T : Type 0} (d : Linked) (values : List T) (jobs : List ℕ) → IsOrder d → length jobs ≡ length d.cells → AreReversed d.order (length d.order) jobs → IsDownward d values (seen values jobs)
by_downward {T} d values jobs order count places = record {
  count = length-map jobs (λ j. slice_get values j) ∙ count;
  each = λ job lt.
      let k = length d.order - 1 - job in
      let lt_k : k < length d.order = omega arith in
      let back : length d.order - 1 - k ≡ job = omega arith in
      at_job values jobs (downward_cell d job) job (subst (λ n. downward_cell d job < n) (sym count) (order.inside k lt_k)) (places k lt_k ∙ back);
}

-- where each job's value is right, so is each reached cell's entry
pub upward : {T : Type 0} (is : Design → Rules → ℕ → T → Type 0) → UpwardLaw T is
upward {T} is d r values table sound by right cell reached =
    let a = sound.order.all cell reached in
    subst (λ c. IsSomeAnd (entry table c) (is (plain d) r c)) a.2
    (subst (λ o. IsSomeAnd o (is (plain d) r (upward_cell d a.0))) (sym (by.each a.0 a.1)) (right a.0 a.1))

pub downward : {T : Type 0} (is : Design → Rules → ℕ → T → Type 0) → DownwardLaw T is
downward {T} is d r values table sound by right cell reached =
    let a = sound.order.all cell reached in
    let job = length d.order - 1 - a.0 in
    let lt : a.0 < length d.order = a.1 in
    let lt_job : job < length d.order = omega arith in
    let back : length d.order - 1 - job ≡ a.0 = omega arith in
    let here : downward_cell d job ≡ cell = ap (slice_index d.order) back ∙ a.2 in
    subst (λ c. IsSomeAnd (entry table c) (is (plain d) r c)) here
    (subst (λ o. IsSomeAnd o (is (plain d) r (downward_cell d job))) (sym (by.each job lt_job)) (right job lt_job))

inside : {X : Type 0} (xs : List X) (i : ℕ) → IsSome (slice_get xs i) → i < length xs
inside {X} xs i some = elim (slice_get_cases xs i).1 [ inl h ↦ h.1 | inr h ↦ let z : ⊥ = (let e : is_some (slice_get xs i) ≡ true = some in let f : is_some (slice_get xs i) ≡ false = ap is_some h.1 in cc) in absurd z ]

-- a cell with an entry is one of the table, and its job has a value
cell_in : {X : Type 0} (values : List X) (jobs : List ℕ) (cell : ℕ) → IsSome (entry (seen values jobs) cell) → cell < length jobs
cell_in {X} values [] cell some = let z : ⊥ = cc in absurd z
cell_in {X} values (j ∷ jobs) zero some = omega arith
cell_in {X} values (j ∷ jobs) (suc cell) some = let lt = cell_in values jobs cell some in omega arith

pub job_in : {X : Type 0} (values : List X) (jobs : List ℕ) (table : List (Option X)) (cell job : ℕ) → seen values jobs ≡ table → IsSome (entry table cell) → job ≡ slice_index_or jobs cell job → job < length values
job_in {X} values jobs table cell job is some e =
    let here : IsSome (entry (seen values jobs) cell) = subst (λ (t : List (Option X)). IsSome (entry t cell)) (sym is) some in
    let at = get_or-map (λ j. slice_get values j) jobs cell job None (cell_in values jobs cell here) ∙ ap (slice_get values) (sym e) in
    inside values job (subst (λ (o : Option X). IsSome o) at here)

-- an entry that is right is there
pub some_at : {X : Type 0} (P : X → Type 0) (o : Option X) → IsSomeAnd o P → IsSome o
some_at {X} P None h = absurd h
some_at {X} P (Some x) h = refl
