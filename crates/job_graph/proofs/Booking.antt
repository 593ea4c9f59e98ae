-- The steps that a run by levels writes into its book.
use Rattle.std.proofs.Common.{◌≡◌, ℕ, suc, ◌<◌, Bool, true, false, ◌||◌, ◌==◌, if◌then◌else◌, List, [], ◌∷◌, ◌++◌, length, get_or, take, Some, None, refl, sym, ap, ◌∙◌, subst, add-one}
use Rattle.std.proofs.lemmas.List.{take_more}
use Rattle.std.proofs.Math.Decide.{ℕ_discrete}
use mathlib.Core.Logic.{dite}
use Rattle.job_graph.specs.Graph.{inputs_of, AreInputs, AreAscending, has}
use Rattle.job_graph.specs.Machine.{Machine, put, less, answer, after, next}
use Rattle.job_graph.specs.Book.{arrived, with_claimed, with_published, MayClaim, MayPublish, AreFree}
use Rattle.job_graph.specs.declared.machine.Event.TheVariants.{Claim, Publish, Arrive}
use Rattle.job_graph.specs.declared.machine.Step.TheVariants.{Done}
use Rattle.job_graph.proofs.Inputs.{has_here, has_else, item_has}
use Rattle.job_graph.proofs.Taken.{put_here, put_else, none_before, less_here, less_else}
use Rattle.job_graph.proofs.Events.{done_next, claim_done, publish_done, arrive_done}

-- these edges to the job are still open
abbrev pub arriving : Machine → ℕ → List ℕ → Machine
arriving m job left = record { awaits = put m.awaits job left; claimed = m.claimed; published = m.published }

module _ {A : Type 0} where
  put_put : (f : ℕ → A) (i : ℕ) (a b : A) (j : ℕ) → put (put f i a) i b j ≡ put f i b j
  put_put f i a b j = dite (ℕ_discrete j i)
      (λ e. put_here (put f i a) i b j e ∙ sym (put_here f i b j e))
      (λ n. put_else (put f i a) i b j n ∙ put_else f i a j n ∙ sym (put_else f i b j n))

  put_same : (f : ℕ → A) (i : ℕ) (a : A) → f i ≡ a → (j : ℕ) → f j ≡ put f i a j
  put_same f i a e j = dite (ℕ_discrete j i) (λ s. ap f s ∙ e ∙ sym (put_here f i a j s)) (λ n. sym (put_else f i a j n))

-- before any edge arrived
pub none_arrived : (m : Machine) (job : ℕ) (left : List ℕ) → m.awaits job ≡ left → m ≡ arriving m job left
none_arrived m job left e k = let n : Machine = record { awaits = λ j. put_same m.awaits job left e j k; claimed = m.claimed; published = m.published } in n

less_last : (x : ℕ) (xs : List ℕ) → has x xs ≡ false → less x (xs ++ x ∷ []) ≡ xs
less_last x [] h = less_here x x [] refl
less_last x (y ∷ ys) h = dite (ℕ_discrete x y)
    (λ e. let t = has_here x y ys e in absurd (cc))
    (λ n. less_else x y (ys ++ x ∷ []) n ∙ ap (λ zs. y ∷ zs) (less_last x ys (sym (has_else x y ys n) ∙ h)))

pub has_last : (x : ℕ) (xs : List ℕ) → has x (xs ++ x ∷ []) ≡ true
has_last x [] = has_here x x [] refl
has_last x (y ∷ ys) = dite (ℕ_discrete x y) (λ e. has_here x y (ys ++ x ∷ []) e) (λ n. has_else x y (ys ++ x ∷ []) n ∙ has_last x ys)

-- whether a number stands in a list with one more
pub has_more : (j : ℕ) (xs : List ℕ) (x : ℕ) → has j (xs ++ x ∷ []) ≡ (j == x) || has j xs
has_more j [] x = by_test (j == x) where
  by_test : (b : Bool) → b || false ≡ b || false
  by_test b = refl
has_more j (y ∷ ys) x = ap (λ b. (j == y) || b) (has_more j ys x) ∙ swap (j == y) (j == x) (has j ys) where
  swap : (a b c : Bool) → a || (b || c) ≡ b || (a || c)
  swap true true c = refl
  swap true false c = refl
  swap false b c = refl

-- one more edge arrives, the last that was open
pub edge_arrives : (g : List (List ℕ)) (m : Machine) (job left : ℕ) (inputs : List ℕ) → AreInputs g → MayClaim g m job → inputs ≡ inputs_of g job → left < length inputs
    → (answer g (arriving m job (take (suc left) inputs)) (Arrive (get_or inputs left 0) job) ≡ Done) × (next g (arriving m job (take (suc left) inputs)) (Arrive (get_or inputs left 0) job) ≡ arriving m job (take left inputs))
edge_arrives g m job left inputs a may e l =
    let now = arriving m job (take (suc left) inputs) in let x = get_or inputs left 0 in let rest = take left inputs in
    let split : take (suc left) inputs ≡ rest ++ x ∷ [] = ap (λ n. take n inputs) (sym (add-one left)) ∙ take_more inputs left 0 l in
    let here : now.awaits job ≡ rest ++ x ∷ [] = put_here m.awaits job (take (suc left) inputs) job refl ∙ split in
    let waits : has x (inputs_of g job) ≡ true = ap (has x) (sym e) ∙ item_has inputs left 0 l in
    let there : has x (now.awaits job) ≡ true = ap (has x) here ∙ has_last x rest in
    let done = arrive_done g now x job (may.inputs x waits) there in
    let none : has x rest ≡ false = none_before 0 inputs job left (subst (λ l. AreAscending 0 l job) (sym e) (a.lower job may.within)) l in
    let gone : less x (now.awaits job) ≡ rest = ap (less x) here ∙ less_last x rest none in (
      done,
      done_next g now (Arrive x job) done
          ∙ (λ k. let n : Machine = record { awaits = λ j. (ap (λ a. put now.awaits job a j) gone ∙ put_put m.awaits job (take (suc left) inputs) rest j) k; claimed = m.claimed; published = m.published } in n),
    )

if_has : {A : Type 0} (f : ℕ → A) (a : A) (xs : List ℕ) (x j : ℕ) → put (λ i. if has i xs then a else f i) x a j ≡ (if has j (xs ++ x ∷ []) then a else f j)
if_has {A = A} f a xs x j = by_test (j == x) (has j xs) (f j) ∙ sym (ap (λ b. if b then a else f j) (has_more j xs x)) where
  by_test : (b c : Bool) (d : A) → (if b then a else (if c then a else d)) ≡ (if b || c then a else d)
  by_test true c d = refl
  by_test false c d = refl

-- one more job is claimed, after all edges to it arrived
pub job_claimed : (g : List (List ℕ)) (m now : Machine) (jobs : List ℕ) (job : ℕ) → now ≡ arrived (with_claimed m jobs) job → MayClaim g m job → has job jobs ≡ false
    → (answer g now (Claim 0 job) ≡ Done) × (next g now (Claim 0 job) ≡ with_claimed m (jobs ++ job ∷ []))
job_claimed g m now jobs job e may none =
    let w = with_claimed m jobs in
    let empty : now.awaits job ≡ [] = ap (λ (x : Machine). x.awaits job) e ∙ put_here w.awaits job [] job refl in
    let free : now.claimed job ≡ None = ap (λ (x : Machine). x.claimed job) e ∙ ap (λ b. if b then Some 0 else m.claimed job) none ∙ may.free in
    let done = claim_done g now 0 job may.within empty free in (
      done,
      done_next g now (Claim 0 job) done ∙ ap (λ (x : Machine). after x (Claim 0 job)) e
          ∙ (λ k. let n : Machine = record { awaits = λ j. if_has m.awaits [] jobs job j k; claimed = λ j. if_has m.claimed (Some 0) jobs job j k; published = m.published } in n),
    )

-- the job may be claimed beside those that were
pub still_free : (g : List (List ℕ)) (m : Machine) (jobs : List ℕ) (job : ℕ) → MayClaim g m job → has job jobs ≡ false → MayClaim g (with_claimed m jobs) job
still_free g m jobs job may none = record {
  within = may.within;
  edges = ap (λ b. if b then [] else m.awaits job) none ∙ may.edges;
  free = ap (λ b. if b then Some 0 else m.claimed job) none ∙ may.free;
  inputs = may.inputs;
}

-- one more job is published
pub job_published : (g : List (List ℕ)) (m now : Machine) (jobs : List ℕ) (job : ℕ) → now ≡ with_published m jobs → MayPublish g m job → has job jobs ≡ false
    → (answer g now (Publish 0 job) ≡ Done) × (next g now (Publish 0 job) ≡ with_published m (jobs ++ job ∷ []))
job_published g m now jobs job e may none =
    let mine : now.claimed job ≡ Some 0 = ap (λ (x : Machine). x.claimed job) e ∙ may.mine in
    let yet : now.published job ≡ false = ap (λ (x : Machine). x.published job) e ∙ ap (λ b. b || m.published job) none ∙ may.unpublished in
    let done = publish_done g now 0 job mine yet in (
      done,
      done_next g now (Publish 0 job) done ∙ ap (λ (x : Machine). after x (Publish 0 job)) e
          ∙ (λ k. let n : Machine = record { awaits = m.awaits; claimed = m.claimed; published = λ j. told j k } in n),
    )
  where
    by_test : (b c d : Bool) → (if b then true else (c || d)) ≡ (b || c) || d
    by_test true c d = refl
    by_test false c d = refl

    told : (j : ℕ) → put (λ i. has i jobs || m.published i) job true j ≡ has j (jobs ++ job ∷ []) || m.published j
    told j = by_test (j == job) (has j jobs) (m.published j) ∙ sym (ap (λ b. b || m.published j) (has_more j jobs job))

-- the next job of a level isn't among those before it
pub apart_next : (may : ℕ → Type 0) (level : List ℕ) (k : ℕ) → AreFree may level → k < length level → (may (get_or level k 0)) × (has (get_or level k 0) (take k level) ≡ false)
apart_next may level k free l = (free.each (get_or level k 0) (item_has level k 0 l), none_before 0 level free.high k free.ascend l)
