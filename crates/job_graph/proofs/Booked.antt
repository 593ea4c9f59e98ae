-- The book after some levels: their jobs are published, and nobody claimed any other.
use Rattle.std.proofs.Common.{◌≡◌, ℕ, zero, suc, ◌+◌, ◌<◌, ◌≤◌, Bool, true, false, ◌||◌, ◌==◌, if◌then◌else◌, List, [], ◌∷◌, ◌++◌, length, get_or, take, filter, Some, None, refl, sym, ap, ◌∙◌, subst, arith}
use Rattle.std.specs.List.{range_with_len}
use Rattle.std.proofs.lemmas.List.{take_more}
use Rattle.job_graph.specs.Graph.{inputs_of, AreInputs, AreAscending, has}
use Rattle.job_graph.specs.Machine.{Machine, start}
use Rattle.job_graph.specs.Levels.{AreLevels}
use Rattle.job_graph.specs.Book.{with_claimed, with_published, MayClaim, MayPublish, AreFree}
use Rattle.job_graph.proofs.Inputs.{lower_law}
use Rattle.job_graph.proofs.ByLevel.{above_has, in_level, level_has}

-- whether one of these lists has the job
abbrev pub among : List (List ℕ) → ℕ → Bool
among [] job = false
among (l ∷ ls) job = has job l || among ls job

pub record IsBooked (graph levels : List (List ℕ)) (k : ℕ) (m : Machine) : Type 0 where
  pub published : (job : ℕ) → m.published job ≡ among (take k levels) job
  pub fresh : (job : ℕ) → among (take k levels) job ≡ false → (m.awaits job ≡ inputs_of graph job) × (m.claimed job ≡ None)

or_true : (b : Bool) → b || true ≡ true
or_true true = refl
or_true false = refl

either_true : (b c : Bool) (P : Type 0) → (b ≡ true → P) → (c ≡ true → P) → b || c ≡ true → P
either_true true c P f g e = f refl
either_true false c P f g e = g e

both_false : (b c : Bool) → b || c ≡ false → (b ≡ false) × (c ≡ false)
both_false true c e = absurd (cc)
both_false false c e = (refl, e)

pub among_in : (ls : List (List ℕ)) (k i job : ℕ) → i < k → has job (get_or ls i []) ≡ true → among (take k ls) job ≡ true
among_in [] k i job l h = absurd (cc)
among_in (x ∷ xs) zero i job l h = absurd (omega arith)
among_in (x ∷ xs) (suc k) zero job l h = ap (λ b. b || among (take k xs) job) h
among_in (x ∷ xs) (suc k) (suc i) job l h = ap (λ b. has job x || b) (among_in xs k i job (omega arith) h) ∙ or_true (has job x)

pub in_among : (ls : List (List ℕ)) (k job : ℕ) → among (take k ls) job ≡ true → (i : ℕ) × (i < k) × (has job (get_or ls i []) ≡ true)
in_among [] zero job h = absurd (cc)
in_among [] (suc k) job h = absurd (cc)
in_among (x ∷ xs) zero job h = absurd (cc)
in_among (x ∷ xs) (suc k) job h = either_true (has job x) (among (take k xs) job) ((i : ℕ) × (i < suc k) × (has job (get_or (x ∷ xs) i []) ≡ true))
    (λ e. (zero, omega arith, e)) (λ e. let r = in_among xs k job e in (suc r.0, omega arith, r.2)) h

among_append : (xs : List (List ℕ)) (y : List ℕ) (job : ℕ) → among (xs ++ y ∷ []) job ≡ among xs job || has job y
among_append [] y job = last (has job y) where
  last : (b : Bool) → b || false ≡ b
  last true = refl
  last false = refl
among_append (x ∷ xs) y job = ap (λ b. has job x || b) (among_append xs y job) ∙ group (has job x) (among xs job) (has job y) where
  group : (a b c : Bool) → a || (b || c) ≡ (a || b) || c
  group true b c = refl
  group false b c = refl

pub among_more : (ls : List (List ℕ)) (k job : ℕ) → k < length ls → among (take (k + 1) ls) job ≡ among (take k ls) job || has job (inputs_of ls k)
among_more ls k job l = ap (λ xs. among xs job) (take_more ls k [] l) ∙ among_append (take k ls) (get_or ls k []) job

lower_start : (low low' : ℕ) (xs : List ℕ) (high : ℕ) → low' ≤ low → AreAscending low xs high → AreAscending low' xs high
lower_start low low' [] high l a = tt
lower_start low low' (x ∷ xs) high l a = (omega arith, a.1, a.2)

-- some of ascending numbers ascend
filter_ascends : (p : ℕ → Bool) (a n high : ℕ) → a + n ≤ high → AreAscending a (filter p (range_with_len a n)) high
filter_ascends p a zero high l = tt
filter_ascends p a (suc n) high l = by_test (p a) (filter_ascends p (a + 1) n high (omega arith)) where
  by_test : (b : Bool) → AreAscending (a + 1) (filter p (range_with_len (a + 1) n)) high → AreAscending a (if b then a ∷ filter p (range_with_len (a + 1) n) else filter p (range_with_len (a + 1) n)) high
  by_test true h = (omega arith, omega arith, lower_start (a + 1) (suc a) (filter p (range_with_len (a + 1) n)) high (omega arith) h)
  by_test false h = lower_start (a + 1) a (filter p (range_with_len (a + 1) n)) high (omega arith) h

pub nothing_booked : (graph levels : List (List ℕ)) → IsBooked graph levels 0 (start graph)
nothing_booked graph [] = record { published = λ job. refl; fresh = λ job h. (refl, refl) }
nothing_booked graph (l ∷ ls) = record { published = λ job. refl; fresh = λ job h. (refl, refl) }

module _ (graph levels : List (List ℕ)) (l : AreLevels graph levels) where
  of_level : (k job : ℕ) → has job (inputs_of levels k) ≡ true → (l.level job ≡ k) × (job < length graph)
  of_level k job h = level_has l.level (length graph) k job (ap (has job) (sym (l.jobs k)) ∙ h)

  pub worked_below : (k job : ℕ) → job < length graph → l.level job < k → among (take k levels) job ≡ true
  worked_below k job m lt = among_in levels k (l.level job) job lt (ap (has job) (l.jobs (l.level job)) ∙ in_level l.level (length graph) job m)

  not_yet : (k job : ℕ) → has job (inputs_of levels k) ≡ true → (b : Bool) → among (take k levels) job ≡ b → b ≡ false
  not_yet k job h false e = refl
  not_yet k job h true e = let a = in_among levels k job e in let s = (of_level k job h).0 in let t = (of_level a.0 job a.2).0 in let m = a.1 in absurd (omega arith)

  level_ascends : (k : ℕ) → AreAscending 0 (inputs_of levels k) (length graph)
  level_ascends k = subst (λ xs. AreAscending 0 xs (length graph)) (sym (l.jobs k)) (filter_ascends (λ job. l.level job == k) 0 (length graph) (length graph) (omega arith))

  -- the jobs of the next level may be claimed
  pub may_claim : (k : ℕ) (m : Machine) → AreInputs graph → IsBooked graph levels k m → AreFree (MayClaim graph m) (inputs_of levels k)
  may_claim k m a b = record {
    high = length graph;
    ascend = level_ascends k;
    each = λ job h.
        let at = of_level k job h in let f = b.fresh job (not_yet k job h (among (take k levels) job) refl) in
        record {
          within = at.1;
          edges = f.0;
          free = f.1;
          inputs = λ input w.
              let q = lower_law graph a job input w in let up = above_has l.level (inputs_of graph job) input w in let is = l.is job at.1 in
              b.published input ∙ worked_below k input (let m = at.1 in let o = q.0 in omega arith) (let e = at.0 in omega arith);
        };
  }

  -- and published once they are claimed
  pub may_publish : (k : ℕ) (m : Machine) → IsBooked graph levels k m → AreFree (MayPublish graph (with_claimed m (inputs_of levels k))) (inputs_of levels k)
  may_publish k m b = record {
    high = length graph;
    ascend = level_ascends k;
    each = λ job h.
        record {
          within = (of_level k job h).1;
          mine = ap (λ c. if c then Some 0 else m.claimed job) h;
          unpublished = b.published job ∙ not_yet k job h (among (take k levels) job) refl;
        };
  }

  -- one more level is in the book
  pub booked_more : (k : ℕ) (m : Machine) → k < length levels → IsBooked graph levels k m → IsBooked graph levels (k + 1) (with_published (with_claimed m (inputs_of levels k)) (inputs_of levels k))
  booked_more k m lt b = record {
    published = λ job. ap (λ c. has job (inputs_of levels k) || c) (b.published job) ∙ swap (has job (inputs_of levels k)) (among (take k levels) job) ∙ sym (among_more levels k job lt);
    fresh = λ job h.
        let f = both_false (among (take k levels) job) (has job (inputs_of levels k)) (sym (among_more levels k job lt) ∙ h) in let old = b.fresh job f.0 in
        (ap (λ c. if c then [] else m.awaits job) f.1 ∙ old.0, ap (λ c. if c then Some 0 else m.claimed job) f.1 ∙ old.1);
  }
    where
      swap : (a b : Bool) → a || b ≡ b || a
      swap true b = sym (or_true b)
      swap false b = sym (last b) where
        last : (b : Bool) → b || false ≡ b
        last true = refl
        last false = refl

  -- at the end each job is published
  pub all_published : (m : Machine) → IsBooked graph levels (length levels) m → (job : ℕ) → job < length graph → m.published job ≡ true
  all_published m b job lt = b.published job ∙ worked_below (length levels) job lt (l.all job lt)
