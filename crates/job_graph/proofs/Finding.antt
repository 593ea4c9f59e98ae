-- Values that are found one by one.
use Rattle.std.proofs.Common.{◌≡◌, ◌≢◌, ℕ, zero, suc, ◌<◌, List, [], ◌∷◌, ◌++◌, append_assoc, true, length, set, map, replicate, All, Option, Some, None, IfSome, IsSome, IsSomeAnd, slice_get, refl, sym, ap, ◌∙◌, subst, arith, get_or-set_same, get_or-set_other, length-set}
use Rattle.std.proofs.lemmas.List.{length-map, length-replicate, map-append}
use Rattle.std.proofs.lemmas.List.Elements.{All-head, All-tail}
use Rattle.std.proofs.Math.Decide.{ℕ_discrete}
use mathlib.Core.Logic.{dite}
use Rattle.job_graph.specs.Graph.{inputs_of, has, AreInputs}
use Rattle.job_graph.specs.Levels.{AreLevels}
use Rattle.job_graph.specs.Table.{AreDefined}
use Rattle.job_graph.specs.Sharing.{found_at, IsFound, KeepsFound, IsReady, AreFound}
use Rattle.job_graph.proofs.Inputs.{has_else, lower_law}
use Rattle.job_graph.proofs.ByLevel.{above_has, in_level, level_has}

module _ {T : Type 0} where
  pub put_here : (found : List (Option T)) (job : ℕ) (v : T) (j : ℕ) → job < length found → j ≡ job → found_at (set found job (Some v)) j ≡ Some v
  put_here found job v j l e = ap (found_at (set found job (Some v))) e ∙ get_or-set_same found job (Some v) None l

  pub put_else : (found : List (Option T)) (job : ℕ) (v : T) (j : ℕ) → j ≢ job → found_at (set found job (Some v)) j ≡ found_at found j
  put_else found job v j n = get_or-set_other found job j (Some v) None n

  -- a value that is put loses no other
  pub put_keeps : (found : List (Option T)) (job : ℕ) (v : T) → job < length found → KeepsFound found (set found job (Some v))
  put_keeps found job v l j h = dite (ℕ_discrete j job)
      (λ e. subst IsSome (sym (put_here found job v j l e)) refl)
      (λ n. subst IsSome (sym (put_else found job v j n)) h)

  module _ {K : Type 0} (is_defined : K → ℕ → T → Type 0) (key : K) (graph : List (List ℕ)) where
    pub put_right : (found : List (Option T)) (job : ℕ) (v : T) → AreFound is_defined key graph found → job < length graph → is_defined key job v → AreFound is_defined key graph (set found job (Some v))
    put_right found job v a l d = record {
      count = length-set found job (Some v) ∙ a.count;
      each = λ j. dite (ℕ_discrete j job)
          (λ e. subst (λ o. IfSome o (is_defined key j)) (sym (put_here found job v j (let c = a.count in omega arith) e)) (subst (λ i. is_defined key i v) (sym e) d))
          (λ n. subst (λ o. IfSome o (is_defined key j)) (sym (put_else found job v j n)) (a.each j));
    }

    -- results that are all of what was found are the defined ones
    pub found_defined : (found : List (Option T)) (values : List T) → found ≡ map (λ v. Some v) values → AreFound is_defined key graph found → AreDefined is_defined key graph values
    found_defined found values e a = record {
      count = sym (length-map values (λ v. Some v)) ∙ ap length (sym e) ∙ a.count;
      each = λ job l. at values job job (subst (λ n. job < n) (sym a.count ∙ ap length e ∙ length-map values (λ v. Some v)) l) (subst (λ f. IfSome (found_at f job) (is_defined key job)) e (a.each job));
    }
      where
        at : (vs : List T) (i job : ℕ) → i < length vs → IfSome (found_at (map (λ v. Some v) vs) i) (is_defined key job) → IsSomeAnd (slice_get vs i) (is_defined key job)
        at [] i job l h = absurd (omega arith)
        at (v ∷ vs) zero job l h = h
        at (v ∷ vs) (suc i) job l h = at vs i job (omega arith) h

-- what holds of each number of a list
pub all_has : (P : ℕ → Type 0) (xs : List ℕ) (x : ℕ) → All P xs → has x xs ≡ true → P x
all_has P [] x a h = absurd (cc)
all_has P (y ∷ ys) x a h = dite (ℕ_discrete x y)
    (λ e. subst P (sym e) (All-head P y ys a))
    (λ n. all_has P ys x (All-tail P y ys a) (sym (has_else x y ys n) ∙ h))

-- all values of the levels below this one were found
abbrev pub BelowFound : {T : Type 0} → List (List ℕ) → List (Option T) → ℕ → Type 0
BelowFound levels found k = (i job : ℕ) → i < k → has job (inputs_of levels i) ≡ true → IsFound found job

module _ {T : Type 0} (graph levels : List (List ℕ)) (l : AreLevels graph levels) where
  -- the jobs of a level are ready where all levels below were worked
  pub level_ready : (found : List (Option T)) (k job : ℕ) → AreInputs graph → BelowFound levels found k → has job (inputs_of levels k) ≡ true → IsReady graph found job
  level_ready found k job a below h =
      let at = level_has l.level (length graph) k job (ap (has job) (sym (l.jobs k)) ∙ h) in
      record {
        within = at.1;
        inputs = λ input w.
            let q = lower_law graph a job input w in let is = l.is job at.1 in let up = above_has l.level (inputs_of graph job) input w in
            below (l.level input) input (let e = at.0 in omega arith) (ap (has input) (l.jobs (l.level input)) ∙ in_level l.level (length graph) input (let m = at.1 in omega arith));
      }

  -- where all levels were worked, all values were found
  pub all_found : (found : List (Option T)) (job : ℕ) → BelowFound levels found (length levels) → job < length graph → IsFound found job
  all_found found job below m = below (l.level job) job (l.all job m) (ap (has job) (l.jobs (l.level job)) ∙ in_level l.level (length graph) job m)

-- at the start nothing was found
pub none_found : {K T : Type 0} (is_defined : K → ℕ → T → Type 0) (key : K) (graph : List (List ℕ)) (n : ℕ) → n ≡ length graph → AreFound is_defined key graph (replicate n None)
none_found is_defined key graph n e = record { count = length-replicate n None ∙ e; each = λ job. subst (λ o. IfSome o (is_defined key job)) (sym (nothing n job)) tt }
  where
    nothing : {T : Type 0} (n job : ℕ) → found_at {T = T} (replicate n None) job ≡ None
    nothing zero job = refl
    nothing (suc n) zero = refl
    nothing (suc n) (suc job) = nothing n job

-- what was found is what was taken and what is left
pub one_more : {T : Type 0} (all : List (Option T)) (xs ys : List T) (x : T) (rest tail : List (Option T)) → all ≡ map (λ v. Some v) xs ++ rest → rest ≡ Some x ∷ tail → ys ≡ xs ++ x ∷ [] → all ≡ map (λ v. Some v) ys ++ tail
one_more all xs ys x rest tail h s e = h ∙ ap (λ r. map (λ v. Some v) xs ++ r) s ∙ sym (ap (λ zs. map (λ v. Some v) zs ++ tail) e ∙ ap (λ zs. zs ++ tail) (map-append (λ v. Some v) xs (x ∷ [])) ∙ append_assoc (map (λ v. Some v) xs) (Some x ∷ []) tail)

-- and what is left was found
pub tail_found : {T : Type 0} (rest tail : List (Option T)) (x : T) → rest ≡ Some x ∷ tail → ((k : ℕ) → k < length rest → IsFound rest k) → (k : ℕ) → k < length tail → IsFound tail k
tail_found rest tail x s h k l = (subst (λ r. (k : ℕ) → k < length r → IsFound r k) s h) (suc k) (omega arith)
