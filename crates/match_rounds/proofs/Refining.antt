-- Round after round.
use Rattle.std.proofs.Common.{◌≡◌, inl, inr, ◌<◌, ◌≤◌, ◌+◌, ℕ, suc, true, false, List, map, slice_index, refl, sym, subst, ◌∙◌, ap, arith, true≢false}
use Rattle.std.proofs.lemmas.Bool.{cases_lt}
use Rattle.round_laws.specs.Web.{Web, IsWeb, IsEven, alike_under}
use Rattle.round_laws.specs.Colours.{AreColours}
use Rattle.round_laws.proofs.Agree.{under_web}
use Rattle.round_laws.proofs.Colours.{round}
use Rattle.match_graph.specs.declared.graph.Graph.{Graph}
use Rattle.match_graph.specs.Graph.{IsGraph, graph_web, left_of, nodes_of}
use Rattle.match_rounds.specs.declared.classes.Classes.{Classes}
use Rattle.match_rounds.specs.Classes.{IsPartition, class_in, class_count, is_fresh}
use Rattle.match_rounds.specs.Marks.{is_marked}
use Rattle.match_rounds.specs.Start.{plain_guess, guessed_web}
use Rattle.match_rounds.specs.Rounds.{AreAhead, IsNextRound}
use Rattle.match_rounds.specs.Refined.{AreSettled, AreRefuted, AreRoundsSoFar}
use Rattle.match_rounds.proofs.Apart.{few_classes}
use Rattle.match_rounds.proofs.Evenness.{even_round, uneven_round}
use Rattle.match_rounds.proofs.Started.{node_below}

-- where all classes are marked, none has been looked at
pub all_ahead : (g : Graph) (c : Classes) → ((a : ℕ) → a < nodes_of g → is_fresh c a ≡ true) → AreAhead g c
all_ahead g c fresh = record {
  older = λ a. 0;
  parted = record {
    finer = λ a b na nb e. refl;
    kept = λ a b na nb fa fb e. absurd (true≢false (sym (fresh a (node_below g a na)) ∙ fa));
    whole = λ a b na nb e. ap (λ (d : ℕ). is_marked c.marks d) e;
    steady = λ a b x na nb nx e f port. absurd (true≢false (sym (fresh x (node_below g x nx)) ∙ f));
  };
}

pub begun : (g : Graph) (gs : List (ℕ × ℕ)) (c : Classes) → IsPartition c (left_of g) (nodes_of g) → AreColours (guessed_web g gs) 0 (class_in c)
    → ((a : ℕ) → a < nodes_of g → is_fresh c a ≡ true) → AreRoundsSoFar g (guessed_web g gs) c 0
begun g gs c h colours fresh = record { partition = h; ahead = all_ahead g c fresh; colours = colours; even = λ j l. absurd (omega arith); few = omega arith }

pub web_is : (g : Graph) (gs : List (ℕ × ℕ)) → IsGraph g → IsWeb (guessed_web g gs)
web_is g gs h = under_web (graph_web g) (map plain_guess gs) h.web

evens : (g : Graph) (gs : List (ℕ × ℕ)) (c : Classes) (k : ℕ) → AreRoundsSoFar g (guessed_web g gs) c k → c.counts.is_uneven ≡ false → (j : ℕ) → j < k + 1 → IsEven (guessed_web g gs) j
evens g gs c k h flag j l = elim (cases_lt j k) [
  | inl t ↦ h.even j t
  | inr t ↦
      let e : j ≡ k = omega arith in
      subst (IsEven (guessed_web g gs)) (sym e) (even_round g (alike_under (graph_web g) (map plain_guess gs)) c k h.partition h.colours flag)
]

pub goes_on : (g : Graph) (gs : List (ℕ × ℕ)) (old new : Classes) (k : ℕ) → IsGraph g → AreRoundsSoFar g (guessed_web g gs) old k → old.counts.is_uneven ≡ false → IsPartition new (left_of g) (nodes_of g)
    → AreAhead g new → IsNextRound g old new → class_count old < class_count new → AreRoundsSoFar g (guessed_web g gs) new (k + 1)
goes_on g gs old new k graph h flag partition ahead next more =
    let few = h.few in
    let e : suc k ≡ k + 1 = omega arith in
    record {
      partition = partition;
      ahead = ahead;
      colours = subst (λ (m : ℕ). AreColours (guessed_web g gs) m (class_in new)) e (round (guessed_web g gs) k (class_in old) (class_in new) (web_is g gs graph) h.colours next);
      even = evens g gs old k h flag;
      few = omega arith;
    }

pub settled : (g : Graph) (gs : List (ℕ × ℕ)) (old new : Classes) (k : ℕ) → IsGraph g → AreRoundsSoFar g (guessed_web g gs) old k → old.counts.is_uneven ≡ false → IsNextRound g old new
    → new.class_of.items ≡ old.class_of.items → AreSettled (guessed_web g gs) new
settled g gs old new k graph h flag next same =
    let after = round (guessed_web g gs) k (class_in old) (class_in new) (web_is g gs graph) h.colours next in
    let is : (a : ℕ) → class_in new a ≡ class_in old a = λ a. ap (λ (xs : List ℕ). slice_index xs a) same in
    record {
      round = k;
      stable = λ a b na nb t. (after a b na nb).0 (is a ∙ ((h.colours a b na nb).1 t ∙ sym (is b)));
      even = λ j l. evens g gs old k h flag j (omega arith);
      colours = λ a b na nb. ((λ e. (h.colours a b na nb).0 (sym (is a) ∙ (e ∙ is b))), (λ t. is a ∙ ((h.colours a b na nb).1 t ∙ sym (is b))));
    }

pub refuted : (g : Graph) (gs : List (ℕ × ℕ)) (c : Classes) (k : ℕ) → AreRoundsSoFar g (guessed_web g gs) c k → c.counts.is_uneven ≡ true → AreRefuted (guessed_web g gs) k c
refuted g gs c k h flag =
    let u = uneven_round g (alike_under (graph_web g) (map plain_guess gs)) c k h.partition h.colours flag in
    record { refuted = record { node = u.0; uneven = u.1; before = h.even }; colours = h.colours }

-- there are no more rounds than nodes
pub few_rounds : (g : Graph) (w : Web ℕ) (c : Classes) (k : ℕ) → AreRoundsSoFar g w c k → k ≤ nodes_of g
few_rounds g w c k h = let few = h.few in let l = few_classes c (nodes_of g) h.partition.classes in omega arith
