-- What holds of every list of events.
use Rattle.std.proofs.Common.{◌≡◌, ◌≢◌, ℕ, ◌<◌, Bool, true, false, not, ◌&&◌, ◌==◌, if◌then◌else◌, ltb, List, [], ◌∷◌, length, Option, Some, None, is_some, refl, sym, ap, ◌∙◌, subst, arith}
use Rattle.std.proofs.lemmas.Bool.Decides.{nat_tests}
use Rattle.std.proofs.Math.Decide.{ℕ_discrete}
use mathlib.Core.Logic.{dite}
use Rattle.job_graph.specs.Graph.{inputs_of, has}
use Rattle.job_graph.specs.Machine.{less, put}
use Rattle.job_graph.specs.declared.machine.Event.{Event}
use Rattle.job_graph.specs.declared.machine.Event.TheVariants.{Claim, Publish, Arrive}
use Rattle.job_graph.specs.declared.machine.Step.{Step}
use Rattle.job_graph.specs.declared.machine.Step.TheVariants.{Done, NotReady, Taken, Idle}
use Rattle.job_graph.specs.Machine.{Machine, start, is_by, claim_answer, answer, after, moved, next, run, IsValid}
use Rattle.job_graph.proofs.Taken.{put_here, put_else, has_less_else}

-- a step that is Done makes the change, and any other none
pub stepped : (g : List (List ℕ)) (P : Machine → Type 0) (m : Machine) (e : Event) → P m → (answer g m e ≡ Done → P (after m e)) → P (next g m e)
stepped g P m e h d = by_answer (answer g m e) d where
  by_answer : (a : Step) → (a ≡ Done → P (after m e)) → P (moved a m e)
  by_answer Done d = d refl
  by_answer (NotReady n) d = h
  by_answer (Taken w) d = h
  by_answer Idle d = h

pub done_next : (g : List (List ℕ)) (m : Machine) (e : Event) → answer g m e ≡ Done → next g m e ≡ after m e
done_next g m e d = ap (λ a. moved a m e) d

-- what each event that is Done found
claim_open : (b : Bool) (o : List ℕ) (c : Option ℕ) → (if b then claim_answer o c else Idle) ≡ Done → (b ≡ true) × (o ≡ []) × (c ≡ None)
claim_open false o c e = absurd (cc)
claim_open true [] None e = (refl, refl, refl)
claim_open true [] (Some w) e = absurd (cc)
claim_open true (x ∷ xs) c e = absurd (cc)

pub claim_found : (g : List (List ℕ)) (m : Machine) (w j : ℕ) → answer g m (Claim w j) ≡ Done → (ltb j (length g) ≡ true) × (m.awaits j ≡ []) × (m.claimed j ≡ None)
claim_found g m w j e = claim_open (ltb j (length g)) (m.awaits j) (m.claimed j) e

publish_open : (w : ℕ) (c : Option ℕ) (p : Bool) → (if is_by w c && not p then Done else Idle) ≡ Done → (c ≡ Some w) × (p ≡ false)
publish_open w None p e = absurd (cc)
publish_open w (Some v) true e = absurd (grind (arith, nat_tests))
publish_open w (Some v) false e = (ap (λ x. Some x) (grind (arith, nat_tests)), refl)

pub publish_found : (g : List (List ℕ)) (m : Machine) (w j : ℕ) → answer g m (Publish w j) ≡ Done → (m.claimed j ≡ Some w) × (m.published j ≡ false)
publish_found g m w j e = publish_open w (m.claimed j) (m.published j) e

arrive_open : (p h : Bool) → (if p && h then Done else Idle) ≡ Done → (p ≡ true) × (h ≡ true)
arrive_open true true e = (refl, refl)
arrive_open true false e = absurd (cc)
arrive_open false h e = absurd (cc)

pub arrive_found : (g : List (List ℕ)) (m : Machine) (i j : ℕ) → answer g m (Arrive i j) ≡ Done → (m.published i ≡ true) × (has i (m.awaits j) ≡ true)
arrive_found g m i j e = arrive_open (m.published i) (has i (m.awaits j)) e

-- and the events that find it are Done
pub claim_done : (g : List (List ℕ)) (m : Machine) (w j : ℕ) → j < length g → m.awaits j ≡ [] → m.claimed j ≡ None → answer g m (Claim w j) ≡ Done
claim_done g m w j l a c = let t : ltb j (length g) ≡ true = grind (arith, nat_tests) in cc

pub publish_done : (g : List (List ℕ)) (m : Machine) (w j : ℕ) → m.claimed j ≡ Some w → m.published j ≡ false → answer g m (Publish w j) ≡ Done
publish_done g m w j c p = let t : (w == w) ≡ true = grind (arith, nat_tests) in cc

pub arrive_done : (g : List (List ℕ)) (m : Machine) (i j : ℕ) → m.published i ≡ true → has i (m.awaits j) ≡ true → answer g m (Arrive i j) ≡ Done
arrive_done g m i j p h = cc

-- a property of a job's place, where the function changed at one place
pub at_put : {A : Type 0} (P : ℕ → A → Type 0) (f : ℕ → A) (i : ℕ) (a : A) (j : ℕ) → (j ≡ i → P j a) → (j ≢ i → P j (f j)) → P j (put f i a j)
at_put P f i a j here there = dite (ℕ_discrete j i) (λ e. subst (P j) (sym (put_here f i a j e)) (here e)) (λ n. subst (P j) (sym (put_else f i a j n)) (there n))

claimed_valid : (g : List (List ℕ)) (m : Machine) (w j : ℕ) → IsValid g m → answer g m (Claim w j) ≡ Done → IsValid g (after m (Claim w j))
claimed_valid g m w j v d = let f = claim_found g m w j d in record {
  edge = v.edge;
  came = v.came;
  owned = λ k p. at_put (λ _ (c : Option ℕ). is_some c ≡ true) m.claimed j (Some w) k (λ _. refl) (λ _. v.owned k p);
  ready = λ k. at_put (λ x (c : Option ℕ). is_some c ≡ true → m.awaits x ≡ []) m.claimed j (Some w) k (λ e _. ap m.awaits e ∙ f.1) (λ _. v.ready k);
}

published_valid : (g : List (List ℕ)) (m : Machine) (w j : ℕ) → IsValid g m → answer g m (Publish w j) ≡ Done → IsValid g (after m (Publish w j))
published_valid g m w j v d = let f = publish_found g m w j d in record {
  edge = v.edge;
  came = λ i k h n. at_put (λ _ (b : Bool). b ≡ true) m.published j true i (λ _. refl) (λ _. v.came i k h n);
  owned = λ k. at_put (λ x (b : Bool). b ≡ true → is_some (m.claimed x) ≡ true) m.published j true k (λ e _. ap (λ x. is_some (m.claimed x)) e ∙ ap is_some f.0) (λ _. v.owned k);
  ready = v.ready;
}

arrived_valid : (g : List (List ℕ)) (m : Machine) (i j : ℕ) → IsValid g m → answer g m (Arrive i j) ≡ Done → IsValid g (after m (Arrive i j))
arrived_valid g m i j v d = let f = arrive_found g m i j d in record {
  edge = λ a k. at_put (λ x (l : List ℕ). has a l ≡ true → has a (inputs_of g x) ≡ true) m.awaits j (less i (m.awaits j)) k
      (λ e h. dite (ℕ_discrete a i) (λ s. ap (λ x. has x (inputs_of g k)) s ∙ ap (λ x. has i (inputs_of g x)) e ∙ v.edge i j f.1)
      (λ n. ap (λ x. has a (inputs_of g x)) e ∙ v.edge a j (sym (has_less_else i a (m.awaits j) n) ∙ h)))
      (λ _. v.edge a k);
  came = λ a k h. at_put (λ x (l : List ℕ). has a (inputs_of g x) ≡ true → has a l ≡ false → m.published a ≡ true) m.awaits j (less i (m.awaits j)) k
      (λ e b n. dite (ℕ_discrete a i) (λ s. ap m.published s ∙ f.0) (λ s. v.came a j (ap (λ x. has a (inputs_of g x)) (sym e) ∙ b) (sym (has_less_else i a (m.awaits j) s) ∙ n)))
      (λ _. v.came a k) h;
  owned = v.owned;
  ready = λ k. at_put (λ x (l : List ℕ). is_some (m.claimed x) ≡ true → l ≡ []) m.awaits j (less i (m.awaits j)) k
      (λ e c. let none : m.awaits j ≡ [] = v.ready j (ap (λ x. is_some (m.claimed x)) (sym e) ∙ c) in let no : has i (m.awaits j) ≡ false = ap (has i) none in absurd (cc))
      (λ _. v.ready k);
}

next_valid : (g : List (List ℕ)) (m : Machine) (e : Event) → IsValid g m → IsValid g (next g m e)
next_valid g m (Claim w j) v = stepped g (IsValid g) m (Claim w j) v (claimed_valid g m w j v)
next_valid g m (Publish w j) v = stepped g (IsValid g) m (Publish w j) v (published_valid g m w j v)
next_valid g m (Arrive i j) v = stepped g (IsValid g) m (Arrive i j) v (arrived_valid g m i j v)

run_valid : (g : List (List ℕ)) (m : Machine) (es : List Event) → IsValid g m → IsValid g (run g m es)
run_valid g m [] v = v
run_valid g m (e ∷ es) v = run_valid g (next g m e) es (next_valid g m e v)

start_valid : (g : List (List ℕ)) → IsValid g (start g)
start_valid g = record {
  edge = λ i j h. h;
  came = λ i j h n. absurd (cc);
  owned = λ j p. absurd (cc);
  ready = λ j c. absurd (cc);
}

pub reached_valid : (g : List (List ℕ)) (es : List Event) → IsValid g (run g (start g) es)
reached_valid g es = run_valid g (start g) es (start_valid g)

pub not_open : (g : List (List ℕ)) (m : Machine) (i j : ℕ) → has i (m.awaits j) ≡ false → answer g m (Arrive i j) ≡ Idle
not_open g m i j h = by_both (m.published i) (has i (m.awaits j)) h where
  by_both : (p h : Bool) → h ≡ false → (if p && h then Done else Idle) ≡ Idle
  by_both true h e = cc
  by_both false h e = refl
