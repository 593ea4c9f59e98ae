-- Each job is claimed at most once, and each edge arrives at most once.
use Rattle.std.proofs.Common.{◌≡◌, ℕ, ◌+◌, ◌≤◌, Bool, true, false, if◌then◌else◌, List, [], ◌∷◌, length, Option, Some, is_some, refl, sym, ap, ◌∙◌, subst, arith}
use Rattle.std.proofs.lemmas.Bool.Decides.{nat_tests}
use Rattle.std.proofs.Math.Decide.{ℕ_discrete, dec_lt}
use mathlib.Core.Logic.{dite}
use Rattle.job_graph.specs.Graph.{AreInputs, AreAscending, has}
use Rattle.job_graph.specs.Machine.{less, put}
use Rattle.job_graph.specs.declared.machine.Event.{Event}
use Rattle.job_graph.specs.declared.machine.Event.TheVariants.{Claim, Publish, Arrive}
use Rattle.job_graph.specs.declared.machine.Step.{Step}
use Rattle.job_graph.specs.declared.machine.Step.TheVariants.{Done, NotReady, Taken, Idle}
use Rattle.job_graph.specs.Machine.{Machine, start, answer, after, next, run, is_done, is_claim, is_arrival, times, MachineLaw}
use Rattle.job_graph.proofs.Taken.{put_here, has_less_else, has_less, less_none, ascending_less, ascending_length}
use Rattle.job_graph.proofs.Inputs.{none_past}
use Rattle.job_graph.proofs.Events.{stepped, claim_found, publish_found, arrive_found, done_next, at_put, reached_valid}

-- an answer is Done, or it counts for nothing
data Counts (a : Step) : Type 0 where
  is : a ≡ Done → Counts a
  isnt : is_done a ≡ 0 → Counts a

counts : (a : Step) → Counts a
counts Done = is refl
counts (NotReady n) = isnt refl
counts (Taken w) = isnt refl
counts Idle = isnt refl

if_zero : (b : Bool) (n : ℕ) → n ≡ 0 → (if b then n else 0) ≡ 0
if_zero true n e = e
if_zero false n e = refl

-- a kind of event that is Done at most once: P, once it was, and from then on none is Done. Q holds all along
module _ (g : List (List ℕ)) (kind : Event → Bool) (P Q : Machine → Type 0) (stays : (m : Machine) (e : Event) → P m → P (next g m e)) (keeps : (m : Machine) (e : Event) → Q m → Q (next g m e))
    (blocks : (m : Machine) (e : Event) → P m → kind e ≡ true → answer g m e ≡ Done → ⊥) (makes : (m : Machine) (e : Event) → Q m → kind e ≡ true → answer g m e ≡ Done → P (after m e)) where
  none_now : (m : Machine) (e : Event) → P m → (b : Bool) → kind e ≡ b → (if b then is_done (answer g m e) else 0) ≡ 0
  none_now m e p false k = refl
  none_now m e p true k = elim (counts (answer g m e)) [ is d ↦ absurd (blocks m e p k d) | isnt z ↦ z ]

  none_more : (m : Machine) (es : List Event) → P m → times g kind m es ≡ 0
  none_more m [] p = refl
  none_more m (e ∷ es) p = let a = none_now m e p (kind e) refl in let b = none_more (next g m e) es (stays m e p) in omega arith

  done_at_most : (a : Step) → is_done a ≤ 1
  done_at_most Done = omega arith
  done_at_most (NotReady n) = omega arith
  done_at_most (Taken w) = omega arith
  done_at_most Idle = omega arith

  now_or : (m : Machine) (e : Event) (es : List Event) (b : Bool) → Q m → kind e ≡ b → times g kind (next g m e) es ≤ 1 → (if b then is_done (answer g m e) else 0) + times g kind (next g m e) es ≤ 1
  now_or m e es false q k h = omega arith
  now_or m e es true q k h = elim (counts (answer g m e)) [
    | is d ↦ let z = none_more (next g m e) es (subst P (sym (done_next g m e d)) (makes m e q k d)) in let o = done_at_most (answer g m e) in omega arith
    | isnt z ↦ omega arith
  ]

  at_most : (m : Machine) (es : List Event) → Q m → times g kind m es ≤ 1
  at_most m [] q = omega arith
  at_most m (e ∷ es) q = now_or m e es (kind e) q refl (at_most (next g m e) es (keeps m e q))

abbrev IsClaimed : ℕ → Machine → Type 0
IsClaimed j m = is_some (m.claimed j) ≡ true

some_put : (f : ℕ → Option ℕ) (i w j : ℕ) → is_some (f j) ≡ true → is_some (put f i (Some w) j) ≡ true
some_put f i w j h = at_put (λ _ (c : Option ℕ). is_some c ≡ true) f i (Some w) j (λ _. refl) (λ _. h)

stays_claimed : (g : List (List ℕ)) (j : ℕ) (m : Machine) (e : Event) → IsClaimed j m → IsClaimed j (next g m e)
stays_claimed g j m (Claim w k) h = stepped g (IsClaimed j) m (Claim w k) h (λ _. some_put m.claimed k w j h)
stays_claimed g j m (Publish w k) h = stepped g (IsClaimed j) m (Publish w k) h (λ _. h)
stays_claimed g j m (Arrive i k) h = stepped g (IsClaimed j) m (Arrive i k) h (λ _. h)

claimed_blocks : (g : List (List ℕ)) (j : ℕ) (m : Machine) (e : Event) → IsClaimed j m → is_claim j e ≡ true → answer g m e ≡ Done → ⊥
claimed_blocks g j m (Claim w k) h c d = let e : k ≡ j = grind (arith, nat_tests) in let n : is_some (m.claimed j) ≡ false = ap (λ x. is_some (m.claimed x)) (sym e) ∙ ap is_some (claim_found g m w k d).2 in cc
claimed_blocks g j m (Publish w k) h c d = cc
claimed_blocks g j m (Arrive i k) h c d = cc

claim_makes : (g : List (List ℕ)) (j : ℕ) (m : Machine) (e : Event) → Unit {0} → is_claim j e ≡ true → answer g m e ≡ Done → IsClaimed j (after m e)
claim_makes g j m (Claim w k) q c d = let e : j ≡ k = grind (arith, nat_tests) in ap is_some (put_here m.claimed k (Some w) j e)
claim_makes g j m (Publish w k) q c d = absurd (cc)
claim_makes g j m (Arrive i k) q c d = absurd (cc)

pub claimed_once : (g : List (List ℕ)) (m : Machine) (es : List Event) (j : ℕ) → times g (is_claim j) m es ≤ 1
claimed_once g m es j = at_most g (is_claim j) (IsClaimed j) (λ _. Unit {0}) (stays_claimed g j) (λ _ _ _. tt) (claimed_blocks g j) (claim_makes g j) m es tt

abbrev IsShut : ℕ → ℕ → Machine → Type 0
IsShut i j m = has i (m.awaits j) ≡ false

abbrev pub IsInOrder : List (List ℕ) → Machine → Type 0
IsInOrder g m = (j : ℕ) → (high : ℕ) × (high ≤ j) × AreAscending 0 (m.awaits j) high

still_shut : (i a : ℕ) (l : List ℕ) → has i l ≡ false → has i (less a l) ≡ false
still_shut i a l h = dite (ℕ_discrete i a) (λ e. subst (λ x. has i (less x l) ≡ false) e (ap (has i) (less_none i l h) ∙ h)) (λ n. has_less_else a i l n ∙ h)

stays_shut : (g : List (List ℕ)) (i j : ℕ) (m : Machine) (e : Event) → IsShut i j m → IsShut i j (next g m e)
stays_shut g i j m (Claim w k) h = stepped g (IsShut i j) m (Claim w k) h (λ _. h)
stays_shut g i j m (Publish w k) h = stepped g (IsShut i j) m (Publish w k) h (λ _. h)
stays_shut g i j m (Arrive a k) h = stepped g (IsShut i j) m (Arrive a k) h
    (λ _. at_put (λ _ (l : List ℕ). has i l ≡ false) m.awaits k (less a (m.awaits k)) j (λ e. still_shut i a (m.awaits k) (ap (λ x. has i (m.awaits x)) (sym e) ∙ h)) (λ _. h))

shut_blocks : (g : List (List ℕ)) (i j : ℕ) (m : Machine) (e : Event) → IsShut i j m → is_arrival i j e ≡ true → answer g m e ≡ Done → ⊥
shut_blocks g i j m (Claim w k) h c d = cc
shut_blocks g i j m (Publish w k) h c d = cc
shut_blocks g i j m (Arrive a k) h c d = let t : (a ≡ i) × (k ≡ j) = (grind (arith, nat_tests), grind (arith, nat_tests)) in
    let y : has i (m.awaits j) ≡ true = ap (λ x. has x (m.awaits j)) (sym t.0) ∙ ap (λ x. has a (m.awaits x)) (sym t.1) ∙ (arrive_found g m a k d).1 in cc

arrival_makes : (g : List (List ℕ)) (i j : ℕ) (m : Machine) (e : Event) → IsInOrder g m → is_arrival i j e ≡ true → answer g m e ≡ Done → IsShut i j (after m e)
arrival_makes g i j m (Claim w k) q c d = absurd (cc)
arrival_makes g i j m (Publish w k) q c d = absurd (cc)
arrival_makes g i j m (Arrive a k) q c d = let t : (i ≡ a) × (j ≡ k) = (grind (arith, nat_tests), grind (arith, nat_tests)) in
    ap (has i) (put_here m.awaits k (less a (m.awaits k)) j t.1) ∙ ap (λ x. has x (less a (m.awaits k))) t.0 ∙ has_less 0 a (m.awaits k) (q k).0 (q k).2

stays_in_order : (g : List (List ℕ)) (m : Machine) (e : Event) → IsInOrder g m → IsInOrder g (next g m e)
stays_in_order g m (Claim w k) h = stepped g (IsInOrder g) m (Claim w k) h (λ _. h)
stays_in_order g m (Publish w k) h = stepped g (IsInOrder g) m (Publish w k) h (λ _. h)
stays_in_order g m (Arrive a k) h = stepped g (IsInOrder g) m (Arrive a k) h
    (λ _ j. at_put (λ x (l : List ℕ). (high : ℕ) × (high ≤ x) × AreAscending 0 l high) m.awaits k (less a (m.awaits k)) j (λ e. let o = (h k).1 in ((h k).0, omega arith, ascending_less 0 a (m.awaits k) (h k).0 (h k).2)) (λ _. h j))

start_in_order : (g : List (List ℕ)) → AreInputs g → IsInOrder g (start g)
start_in_order g a j = dite (dec_lt j (length g)) (λ l. (j, omega arith, a.lower j l)) (λ n. (0, omega arith, subst (λ l. AreAscending 0 l 0) (sym (none_past g j [] (λ l. n l))) tt))

pub arrives_once : (g : List (List ℕ)) (es : List Event) (i j : ℕ) → AreInputs g → times g (is_arrival i j) (start g) es ≤ 1
arrives_once g es i j a = at_most g (is_arrival i j) (IsShut i j) (IsInOrder g) (stays_shut g i j) (stays_in_order g) (shut_blocks g i j) (arrival_makes g i j) (start g) es (start_in_order g a)

run_in_order : (g : List (List ℕ)) (m : Machine) (es : List Event) → IsInOrder g m → IsInOrder g (run g m es)
run_in_order g m [] h = h
run_in_order g m (e ∷ es) h = run_in_order g (next g m e) es (stays_in_order g m e h)

-- a job awaits no more inputs than there are jobs below it
pub few : (g : List (List ℕ)) (m : Machine) → AreInputs g → (es : List Event) × (m ≡ run g (start g) es) → (j : ℕ) → length (m.awaits j) ≤ j
few g m a r j = let q = run_in_order g (start g) r.0 (start_in_order g a) j in let n = ascending_length 0 ((run g (start g) r.0).awaits j) q.0 q.2 (omega arith) in let o = q.1 in
    let e : length (m.awaits j) ≡ length ((run g (start g) r.0).awaits j) = ap (λ (x : Machine). length (x.awaits j)) r.1 in omega arith

pub machine_law : MachineLaw
machine_law = record {
  once = λ g es j. claimed_once g (start g) es j;
  inputs = λ g es w j i d h. let m = run g (start g) es in let v = reached_valid g es in v.came i j h (ap (has i) (claim_found g m w j d).1);
  publisher = λ g es w j d. (publish_found g (run g (start g) es) w j d).0;
  arrives_once = λ g es i j a. arrives_once g es i j a;
  after_publication = λ g es i j d. (arrive_found g (run g (start g) es) i j d).0;
  valid = λ g es. reached_valid g es;
}

pub in_order : (g : List (List ℕ)) (m : Machine) → AreInputs g → (es : List Event) × (m ≡ run g (start g) es) → IsInOrder g m
in_order g m a r = subst (IsInOrder g) (sym r.1) (run_in_order g (start g) r.0 (start_in_order g a))
