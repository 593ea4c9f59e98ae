-- Answers that the rounds decide.
use Rattle.std.proofs.Common.{◌≡◌, ◌⊎◌, inl, inr, ◌≤◌, ◌==◌, ℕ, zero, suc, Bool, Result, Ok, Err, IfOk, List, [], refl, sym, subst, arith}
use Rattle.std.proofs.lemmas.Bool.Decides.{Decides-eqb}
use Rattle.plain_netlist.specs.Lists.{IsListed}
use Rattle.round_laws.specs.Web.{IsWeb, IsEven, agree, on_left, on_right, under}
use Rattle.round_laws.specs.Nodes.{Node}
use Rattle.round_laws.specs.Colours.{AreColours}
use Rattle.round_laws.proofs.Agree.{count_same}
use Rattle.match_laws.specs.Circuits.{Pair, AreMatched, Pairing, web_of}
use Rattle.match_laws.specs.Answer.{Match, IsAnswer}
use Rattle.match_laws.proofs.Sums.{numbers_has}
use Rattle.match_types.specs.declared.answer.Evidence.{Evidence}
use Rattle.match_types.specs.declared.answer.Evidence.TheVariants as evidence
use Rattle.match_types.specs.Plain.{plain_evidence}
use Rattle.match_graph.specs.declared.graph.Graph.{Graph}
use Rattle.match_graph.specs.Graph.{IsGraphOf, graph_web, left_of, nodes_of}
use Rattle.match_rounds.specs.declared.classes.Classes.{Classes}
use Rattle.match_rounds.specs.declared.refinement.Verdict.{Verdict}
use Rattle.match_rounds.specs.declared.refinement.Verdict.TheVariants as verdict
use Rattle.match_rounds.specs.Classes.{class_in}
use Rattle.match_rounds.specs.Refined.{AreRefuted, AreSettled, IsVerdict}
use Rattle.match_rounds.specs.Sides.{left_members, right_members}
use Rattle.match_rounds.specs.Start.{guessed_web}
use Rattle.match_rounds.proofs.Evenness.{test_is}
use Rattle.refine_match.specs.Evidence.{IsRoundEvidence}
use Rattle.refine_match.specs.Classes.{class_of_node}
use Rattle.refine_match.specs.Choosing.{AreUntied, AreSingle}
use Rattle.refine_match.specs.Pairings.{IsPairingOf}
use Rattle.refine_match.specs.ByRounds.{IsFirstRound}
use Rattle.refine_match.proofs.Crossed.{even_is, stable_classes}
use Rattle.refine_match.proofs.Uneven.{told}
use Rattle.refine_match.proofs.Chosen.{is_solved, passes_some}

pub differs : (p : Pair) (r : ℕ) (e : Evidence) (same : Node → Node → Bool) (limit : ℕ) → IsRoundEvidence p r e → (r ≡ 0) ⊎ AreMatched p → IsAnswer p same limit (plain_evidence e)
differs p r (evidence.Round round node left right) same limit h m = subst (λ (k : ℕ). IsAnswer p same limit (plain_evidence (evidence.Round k node left right))) (sym h.0) (h.1, m)
differs p r (evidence.Tree guesses) same limit h m = absurd h

-- the first round is even, unless it is the one with unequal counts
pub first_even : (p : Pair) (g : Graph) (c : Classes) (v : Verdict) → IsGraphOf p g → IsWeb (web_of p) → IsVerdict (guessed_web g []) c v → (IsFirstRound v → ⊥) → IsEven (web_of p) 0
first_even p g c (verdict.Refuted zero) h good is bad = absurd (bad refl)
first_even p g c (verdict.Refuted (suc r)) h good is bad = even_is p g [] [] (told p g h good) 0 (is.refuted.before 0 (omega arith))
first_even p g c verdict.Stable h good is bad = even_is p g [] [] (told p g h good) 0 (is.even 0 (omega arith))

-- classes without ties are single
pub single : (g : Graph) (gs : List (ℕ × ℕ)) (c : Classes) → left_of g ≤ nodes_of g → AreSettled (guessed_web g gs) c → AreUntied g c (left_of g) → AreSingle g c
single g gs c inside s untied a l =
    let here : IsListed a (graph_web g).left = numbers_has a 0 (left_of g) (omega arith) (omega arith) in
    let lefts : on_left (guessed_web g gs) s.round a ≡ left_members g c (class_in c a)
    = count_same (agree (guessed_web g gs) s.round a) (λ x. class_in c a == class_in c x) (graph_web g).left (λ x i. test_is (guessed_web g gs) s.round (class_in c) s.colours a x (inl here) (inl i)) in
    let rights : on_right (guessed_web g gs) s.round a ≡ right_members g c (class_in c a)
    = count_same (agree (guessed_web g gs) s.round a) (λ x. class_in c a == class_in c x) (graph_web g).right (λ x i. test_is (guessed_web g gs) s.round (class_in c) s.colours a x (inl here) (inr i)) in
    let some = passes_some (λ x. class_in c a == class_in c x) a (graph_web g).left here ((Decides-eqb (class_in c a) (class_in c a)).1 refl) in
    let few = untied a l in
    let even = s.even s.round (omega arith) a (inl here) in
    omega arith

-- and so a match
pub matches : (p : Pair) (g : Graph) (c : Classes) (f : Pairing) (same : Node → Node → Bool) (limit : ℕ) → IsGraphOf p g → IsWeb (web_of p) → AreMatched p → AreSettled (guessed_web g []) c → AreUntied g c (left_of g)
    → IsPairingOf p [] c f → IsAnswer p same limit (Match f)
matches p g c f same limit h good matched settled untied is =
    let s = stable_classes p g [] [] c (told p g h good) settled in
    let solved = is_solved p g [] c h good s untied in
    (matched, inl (solved.0, is solved.0 (subst (λ (k : ℕ). AreColours (under (web_of p) []) k (class_of_node p c)) (sym solved.1) s.colours)))

-- a verdict of the first round
pub first_refuted : (g : Graph) (c : Classes) (v : Verdict) → IsFirstRound v → IsVerdict (guessed_web g []) c v → AreRefuted (guessed_web g []) 0 c
first_refuted g c (verdict.Refuted r) e is = subst (λ (k : ℕ). AreRefuted (guessed_web g []) k c) e is
first_refuted g c verdict.Stable e is = absurd e

-- a result is good for what follows from it
pub if_ok : {T E : Type 0} {P Q : T → Type 0} (r : Result T E) → IfOk r P → ((x : T) → P x → Q x) → IfOk r Q
if_ok (Ok x) h f = f x h
if_ok (Err e) h f = tt
