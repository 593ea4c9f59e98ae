-- The jobs of references, each once.
use Rattle.std.proofs.Common.{◌≡◌, ◌≢◌, ◌⊎◌, inl, inr, ℕ, zero, suc, ◌<◌, ◌≤◌, ◌+◌, ◌-◌, ◌==◌, ◌||◌, Bool, true, false, List, [], ◌∷◌, ◌++◌, Some, refl, sym, ◌∙◌, ap, subst, arith, length, length-append, slice_get, slice_index, slice_index_or}
use Rattle.base_laws.proofs.Tests.{or_false}
use Rattle.std.specs.Global.{Vec}
use Rattle.std.proofs.Math.Decide.{ℕ_discrete}
use Rattle.std.proofs.lemmas.Option.{slice_get_within}
use Rattle.std.proofs.lemmas.Bool.{cases_lt, or_cases, or_left, or_right, eqb-true, eq-eqb, ne_eqb}
use Rattle.job_graph.specs.Graph.{has, lists, AreAscending, inputs_of, AreLower}
use Rattle.job_graph.proofs.Inputs.{has_here}
use Rattle.cell_graph.specs.Linked.{Linked, IsSound, height_at}
use Rattle.cell_graph.proofs.Bridge.{lower}
use Rattle.deep_tables.specs.Entries.{downward_cell}
use Rattle.zone_phase.specs.declared.uses.Use.{Use}
use Rattle.zone_phase.specs.Uses.{uses_of, AreRising, AreUses}
use Rattle.zone_phase.specs.Graph.{HasJob, AreJobsOf, AreInputsTo, AreParentJobs, Places}
use Rattle.zone_phase.proofs.Entries.{at_any}
use Rattle.zone_phase.proofs.Using.{one_use}

or_assoc : (a b c : Bool) → (a || (b || c)) ≡ ((a || b) || c)
or_assoc true b c = refl
or_assoc false b c = refl

pub has_push : (x y : ℕ) (xs : List ℕ) → has x (xs ++ y ∷ []) ≡ (has x xs || (x == y))
has_push x y [] = or_false (x == y)
has_push x y (z ∷ xs) = ap (λ b. (x == z) || b) (has_push x y xs) ∙ or_assoc (x == z) (has x xs) (x == y)

pub ascending_push : (low : ℕ) (xs : List ℕ) (y : ℕ) → AreAscending low xs y → low ≤ y → AreAscending low (xs ++ y ∷ []) (y + 1)
ascending_push low [] y h le = (le, omega arith, tt)
ascending_push low (x ∷ xs) y h le = let lt = h.1 in (h.0, omega arith, ascending_push (suc x) xs y h.2 (omega arith))

pub wider : (low : ℕ) (xs : List ℕ) (high more : ℕ) → AreAscending low xs high → high ≤ more → AreAscending low xs more
wider low [] high more h le = tt
wider low (x ∷ xs) high more h le = let lt = h.1 in (h.0, omega arith, wider (suc x) xs high more h.2 le)

-- numbers up to one that isn't the last lie below it
pub below_last : (low : ℕ) (xs : List ℕ) (high : ℕ) → AreAscending low xs (high + 1) → ((k : ℕ) → k + 1 ≡ length xs → slice_index xs k ≢ high) → AreAscending low xs high
below_last low [] high h not = tt
below_last low (x ∷ []) high h not = let lt = h.1 in let n = not 0 (omega arith) in (h.0, omega arith, tt)
below_last low (x ∷ y ∷ ys) high h not = let lt = h.2.1 in let up = h.2.0 in (h.0, omega arith, below_last (suc x) (y ∷ ys) high h.2 (λ k e. not (suc k) (omega arith)))

pub last_has : (xs : List ℕ) (k y : ℕ) → k < length xs → slice_index xs k ≡ y → has y xs ≡ true
last_has [] k y lt e = absurd (let z : ⊥ = omega arith in z)
last_has (x ∷ xs) zero y lt e = has_here y x xs (sym e)
last_has (x ∷ xs) (suc k) y lt e = or_right (y == x) (has y xs) (last_has xs k y (omega arith) e)

-- what the last number says
pub other_last : (xs : List ℕ) (n x y : ℕ) → n ≡ length xs → x ≡ slice_index_or xs (n - 1) x → x ≢ y → (k : ℕ) → k + 1 ≡ length xs → slice_index xs k ≢ y
other_last xs n x y count at not k e s =
    let same : n - 1 ≡ k = omega arith in
    not (at ∙ ap (λ m. slice_index_or xs m x) same ∙ at_any xs k x 0 (omega arith) ∙ s)

pub same_last : (xs : List ℕ) (n x y : ℕ) → n ≡ length xs → (n ≡ 0 → ⊥) → x ≡ slice_index_or xs (n - 1) x → x ≡ y → has y xs ≡ true
same_last xs n x y count some at e =
    let s : n ≢ 0 = some in
    let lt : n - 1 < length xs = omega arith in
    last_has xs (n - 1) y lt (sym (at ∙ at_any xs (n - 1) x 0 lt) ∙ e)

-- a number that is there needn't be added
pub had : (xs : List ℕ) (y : ℕ) → has y xs ≡ true → (i : ℕ) → has i xs ≡ (has i xs || (i == y))
had xs y there i = elim (ℕ_discrete i y) [
  | yes e ↦ let t : has i xs ≡ true = ap (λ n. has n xs) e ∙ there in t ∙ sym (or_left (has i xs) (i == y) t)
  | no n ↦ sym (ap (λ b. has i xs || b) (ne_eqb i y n) ∙ or_false (has i xs))
]

pub no_jobs : (uses : List Use) → AreJobsOf uses 0 []
no_jobs uses = record {
  ascend = λ high f. tt;
  all = λ job. ((λ h. absurd (let z : ⊥ = cc in z)), (λ h. let lt = h.2 in absurd (let z : ⊥ = omega arith in z)));
}

job_up_to : (uses : List Use) (k : ℕ) (u : Use) (job : ℕ) → AreRising uses → slice_get uses k ≡ Some u → HasJob uses k job → job < u.job + 1
job_up_to uses k u job rising at h = let le = rising h.0 k h.1 u h.2 h.3 at in let e = h.4 in omega arith

pub jobs_below : (uses : List Use) (k : ℕ) (u : Use) (jobs : List ℕ) → AreRising uses → slice_get uses k ≡ Some u → AreJobsOf uses k jobs → AreAscending 0 jobs (u.job + 1)
jobs_below uses k u jobs rising at h = h.ascend (u.job + 1) (λ job has. job_up_to uses k u job rising at has)

more_of : (uses : List Use) (k job : ℕ) → HasJob uses k job → HasJob uses (k + 1) job
more_of uses k job h = let lt = h.2 in (h.0, h.1, omega arith, h.3, h.4)

split : (uses : List Use) (k : ℕ) (u : Use) (job : ℕ) → slice_get uses k ≡ Some u → HasJob uses (k + 1) job → HasJob uses k job ⊎ (job ≡ u.job)
split uses k u job at h = let lt = h.2 in elim (ℕ_discrete h.0 k) [
  | yes e ↦ let s : h.1 ≡ u = one_use (slice_get uses k) h.1 u (subst (λ n. slice_get uses n ≡ Some h.1) e h.3) at in inr (sym h.4 ∙ ap (λ (v : Use). v.job) s)
  | no n ↦ inl (h.0, h.1, omega arith, h.3, h.4)
]

pub jobs_more : (uses : List Use) (k : ℕ) (u : Use) (old new : List ℕ) → slice_get uses k ≡ Some u → AreJobsOf uses k old → AreAscending 0 new (u.job + 1) → ((i : ℕ) → has i new ≡ (has i old || (i == u.job)))
    → AreJobsOf uses (k + 1) new
jobs_more uses k u old new at h up same = record {
  ascend = λ high f. let lt = f u.job (k, u, omega arith, at, refl) in wider 0 new (u.job + 1) high up (omega arith);
  all = λ job. (
    (λ e. elim (or_cases (has job old) (job == u.job) (sym (same job) ∙ e)) [
      | inl o ↦ more_of uses k job ((h.all job).0 o)
      | inr o ↦ (k, u, omega arith, at, sym (eqb-true job u.job o))
    ]),
    (λ g. same job ∙ elim (split uses k u job at g) [
      | inl o ↦ or_left (has job old) (job == u.job) ((h.all job).1 o)
      | inr o ↦ or_right (has job old) (job == u.job) (eq-eqb job u.job o)
    ]),
  );
}

-- a cell that places another has a lower job
pub lower_job : (d : Linked) (job input : ℕ) → IsSound d → job < length d.order → input < length d.order → Places d (downward_cell d input) (downward_cell d job) → input < job
lower_job d job input sound j_in i_in places =
    let low = (lower d (downward_cell d input) places.0 places.1 sound places.2).1 in
    let same = ap (height_at d) places.3 in
    elim (cases_lt input job) [
      | inl lt ↦ lt
      | inr le ↦ elim (ℕ_discrete input job) [
        | yes e ↦ let s = ap (λ n. height_at d (downward_cell d n)) e in absurd (let z : ⊥ = omega arith in z)
        | no n ↦ let up = sound.order.rising (length d.order - 1 - input) (length d.order - 1 - job) (omega arith) (omega arith) in absurd (let z : ⊥ = omega arith in z)
      ]
    ]

place_of : (d : Linked) (lists : List (List Use)) (cell job : ℕ) → AreUses d lists → HasJob (uses_of lists cell) (length (uses_of lists cell)) job → (job < length d.order) × Places d (downward_cell d job) cell
place_of d lists cell job all h =
    let u = all.each cell h.0 h.1 h.3 in
    subst (λ n. (n < length d.order) × Places d (downward_cell d n) cell) h.4 (u.job_in, (h.1.index, u.place, u.there, u.here))

job_of : (d : Linked) (lists : List (List Use)) (cell job : ℕ) → AreUses d lists → job < length d.order → Places d (downward_cell d job) cell → HasJob (uses_of lists cell) (length (uses_of lists cell)) job
job_of d lists cell job all lt places =
    let h = all.all job places.0 places.1 lt places.2 in
    subst (λ c. HasJob (uses_of lists c) (length (uses_of lists c)) job) places.3 (h.at, h.found, slice_get_within (uses_of lists places.1.cell) h.at h.found h.there, h.there, h.job)

pub lower_inputs : (d : Linked) (lists : List (List Use)) (graph : List (List ℕ)) → IsSound d → AreUses d lists → AreInputsTo d (uses_of lists) (length d.order) graph → AreLower graph
lower_inputs d lists graph sound all h job lt =
    let n = h.count in
    let j_in : job < length d.order = omega arith in
    (h.each job j_in).ascend job (λ input has. let p = place_of d lists (downward_cell d job) input all has in lower_job d job input sound j_in p.0 p.1)

pub parent_jobs : (d : Linked) (lists : List (List Use)) (graph : List (List ℕ)) → AreUses d lists → AreInputsTo d (uses_of lists) (length d.order) graph → AreParentJobs d graph
parent_jobs d lists graph all h = record {
  jobs = h.count;
  waits = λ job input lt. (
    (λ w. place_of d lists (downward_cell d job) input all (((h.each job lt).all input).0 w)),
    (λ p. ((h.each job lt).all input).1 (job_of d lists (downward_cell d job) input all p.0 p.1)),
  );
}

push_old : (graph : List (List ℕ)) (xs : List ℕ) (k : ℕ) → k < length graph → inputs_of (graph ++ xs ∷ []) k ≡ inputs_of graph k
push_old [] xs k lt = absurd (let z : ⊥ = omega arith in z)
push_old (y ∷ ys) xs zero lt = refl
push_old (y ∷ ys) xs (suc k) lt = push_old ys xs k (omega arith)

push_new : (graph : List (List ℕ)) (xs : List ℕ) → inputs_of (graph ++ xs ∷ []) (length graph) ≡ xs
push_new [] xs = refl
push_new (y ∷ ys) xs = push_new ys xs

pub inputs_more : (d : Linked) (uses : ℕ → List Use) (bound : ℕ) (graph : List (List ℕ)) (xs : List ℕ) (new : List (List ℕ)) → new ≡ graph ++ xs ∷ [] → AreInputsTo d uses bound graph
    → AreJobsOf (uses (downward_cell d bound)) (length (uses (downward_cell d bound))) xs → AreInputsTo d uses (bound + 1) new
inputs_more d uses bound graph xs new e h is = record {
  count = ap length e ∙ length-append graph (xs ∷ []) ∙ ap (λ n. n + 1) h.count;
  each = λ job lt. elim (ℕ_discrete job bound) [
    | yes s ↦
        let at : inputs_of new job ≡ xs = ap (λ l. inputs_of l job) e ∙ ap (inputs_of (graph ++ xs ∷ [])) (s ∙ sym h.count) ∙ push_new graph xs in
        subst (λ l. AreJobsOf (uses (downward_cell d job)) (length (uses (downward_cell d job))) l) (sym at) (subst (λ j. AreJobsOf (uses (downward_cell d j)) (length (uses (downward_cell d j))) xs) (sym s) is)
    | no not ↦
        let n = h.count in
        let at : inputs_of new job ≡ inputs_of graph job = ap (λ l. inputs_of l job) e ∙ push_old graph xs job (omega arith) in
        subst (λ l. AreJobsOf (uses (downward_cell d job)) (length (uses (downward_cell d job))) l) (sym at) (h.each job (omega arith))
  ];
}

pub lists_push : (vs : List (Vec ℕ)) (v : Vec ℕ) → lists (vs ++ v ∷ []) ≡ lists vs ++ v.items ∷ []
lists_push [] v = refl
lists_push (w ∷ vs) v = ap (λ l. w.items ∷ l) (lists_push vs v)
