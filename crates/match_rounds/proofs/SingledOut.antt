-- Stable classes, gone on with under one more guess.
use Rattle.std.proofs.Common.{◌≡◌, inl, inr, ◌<◌, ◌+◌, ◌-◌, ℕ, suc, true, false, List, [], ◌∷◌, ◌++◌, length, map, take, slice_index, refl, sym, subst, ◌∙◌, ap, arith}
use Rattle.std.proofs.lemmas.List.{take_more}
use Rattle.std.specs.List.{count_by}
use Rattle.plain_netlist.specs.Lists.{IsListed}
use Rattle.round_laws.specs.Web.{Web, IsWeb, IsNode, agree, IsEven, IsStable, Guess, under}
use Rattle.round_laws.specs.Colours.{AreColours, SplitsBy}
use Rattle.round_laws.proofs.Agree.{under_web, count_same}
use Rattle.round_laws.proofs.Stable.{finite}
use Rattle.round_laws.specs.Parting.{SinglesOut}
use Rattle.round_laws.proofs.Resumed.{pair, start, step, last, union, even_before, last_guess}
use Rattle.match_graph.specs.declared.graph.Graph.{Graph}
use Rattle.match_graph.specs.Graph.{IsGraph, graph_web, left_of, nodes_of}
use Rattle.match_rounds.specs.declared.classes.Classes.{Classes}
use Rattle.match_rounds.specs.Marks.{is_marked}
use Rattle.match_rounds.specs.Classes.{IsPartition, KeepsFresh, class_in, is_fresh}
use Rattle.match_rounds.specs.Pairs.{IsPairParted}
use Rattle.match_rounds.specs.Start.{guess_at, guessed_web, plain_guess}
use Rattle.match_rounds.specs.Rounds.{AreAhead, IsNextRound}
use Rattle.match_rounds.specs.Refined.{AreSettled, HasNoEvenEnd, AreOnTheWay, but_last, resumed_web}
use Rattle.match_rounds.proofs.Evenness.{even_round, some_uneven}
use Rattle.match_rounds.proofs.Refining.{web_is}
use Rattle.match_rounds.proofs.Started.{node_below, map_last}

resumed_is : (g : Graph) (gs : List (ℕ × ℕ)) → IsGraph g → IsWeb (resumed_web g gs)
resumed_is g gs h = under_web (guessed_web g (but_last gs)) (plain_guess (guess_at gs (length gs - 1)) ∷ []) (web_is g (but_last gs) h)

-- the pair was singled out
pub singled : (g : Graph) (gs : List (ℕ × ℕ)) (old new : Classes) → IsGraph g → AreSettled (guessed_web g (but_last gs)) old → IsPartition new (left_of g) (nodes_of g)
    → IsPairParted old new (guess_at gs (length gs - 1)).0 (guess_at gs (length gs - 1)).1 (nodes_of g) → KeepsFresh old new (nodes_of g) → AreOnTheWay g (resumed_web g gs) new
singled g gs old new graph h partition parted fresh =
    let w : Web ℕ = guessed_web g (but_last gs) in
    let q : Guess ℕ = plain_guess (guess_at gs (length gs - 1)) in
    let out : SinglesOut w q (class_in old) (class_in new) = λ a b na nb. parted a b (node_below g a na) (node_below g b nb) in
    let p = pair w h.round q (class_in old) (class_in new) (is_fresh new) (web_is g (but_last gs) graph) h.stable h.colours out
    (λ a b na nb fa fb e. fresh.kept a b (node_below g a na) (node_below g b nb) e fa fb)
    (λ a b na nb e. ap (is_marked new.marks) e) in
    let s = start w h.round q (class_in old) (class_in new) (web_is g (but_last gs) graph) h.stable h.colours out in
    record {
      partition = partition;
      ahead = record { older = class_in old; parted = record { finer = p.finer; kept = p.kept; whole = p.whole; steady = p.steady } };
      coarse = s.0;
      fine = s.1;
    }

-- a round more
pub goes_on : (g : Graph) (gs : List (ℕ × ℕ)) (old new : Classes) → IsGraph g → AreOnTheWay g (resumed_web g gs) old → IsPartition new (left_of g) (nodes_of g) → AreAhead g new → IsNextRound g old new
    → AreOnTheWay g (resumed_web g gs) new
goes_on g gs old new graph h partition ahead next =
    let s = step (resumed_web g gs) (class_in old) (class_in new) (resumed_is g gs graph) next h.coarse h.fine in
    record { partition = partition; ahead = ahead; coarse = s.0; fine = s.1 }

take_all : (xs : List (ℕ × ℕ)) → take (length xs) xs ≡ xs
take_all [] = refl
take_all (x ∷ xs) = ap (λ (ys : List (ℕ × ℕ)). x ∷ ys) (take_all xs)

-- the last guess stands behind the others
with_last : (gs : List (ℕ × ℕ)) → 0 < length gs → map plain_guess gs ≡ map plain_guess (but_last gs) ++ plain_guess (guess_at gs (length gs - 1)) ∷ []
with_last gs l =
    let e : (length gs - 1) + 1 ≡ length gs = omega arith in
    ap (map plain_guess) (sym (take_all gs) ∙ (ap (λ (n : ℕ). take n gs) (sym e) ∙ take_more gs (length gs - 1) (0, 0) (omega arith)))
    ∙ map_last (but_last gs) (guess_at gs (length gs - 1))

-- the two webs have the same rounds
same_rounds : (g : Graph) (gs : List (ℕ × ℕ)) → IsGraph g → 0 < length gs → (k a b : ℕ) → IsNode (graph_web g) a → IsNode (graph_web g) b → agree (guessed_web g gs) k a b ≡ agree (resumed_web g gs) k a b
same_rounds g gs h l k a b na nb =
    ap (λ (qs : List (Guess ℕ)). agree (under (graph_web g) qs) k a b) (with_last gs l)
    ∙ last_guess (graph_web g) (map plain_guess (but_last gs)) (plain_guess (guess_at gs (length gs - 1))) k h.web a b na nb

-- so what holds in the one holds in the other
stable_from : (g : Graph) (gs : List (ℕ × ℕ)) → IsGraph g → 0 < length gs → (k : ℕ) → IsStable (resumed_web g gs) k → IsStable (guessed_web g gs) k
stable_from g gs h l k s a b na nb t = same_rounds g gs h l (suc k) a b na nb ∙ s a b na nb (sym (same_rounds g gs h l k a b na nb) ∙ t)

stable_to : (g : Graph) (gs : List (ℕ × ℕ)) → IsGraph g → 0 < length gs → (k : ℕ) → IsStable (guessed_web g gs) k → IsStable (resumed_web g gs) k
stable_to g gs h l k s a b na nb t = sym (same_rounds g gs h l (suc k) a b na nb) ∙ s a b na nb (same_rounds g gs h l k a b na nb ∙ t)

counts_same : (g : Graph) (gs : List (ℕ × ℕ)) → IsGraph g → 0 < length gs → (k a : ℕ) (xs : List ℕ) → IsNode (graph_web g) a → ((x : ℕ) → IsListed x xs → IsNode (graph_web g) x)
    → count_by (agree (guessed_web g gs) k a) xs ≡ count_by (agree (resumed_web g gs) k a) xs
counts_same g gs h l k a xs na all = count_same (agree (guessed_web g gs) k a) (agree (resumed_web g gs) k a) xs (λ x i. same_rounds g gs h l k a x na (all x i))

even_from : (g : Graph) (gs : List (ℕ × ℕ)) → IsGraph g → 0 < length gs → (k : ℕ) → IsEven (resumed_web g gs) k → IsEven (guessed_web g gs) k
even_from g gs h l k e a na =
    counts_same g gs h l k a (graph_web g).left na (λ x i. inl i) ∙ (e a na ∙ sym (counts_same g gs h l k a (graph_web g).right na (λ x i. inr i)))

even_to : (g : Graph) (gs : List (ℕ × ℕ)) → IsGraph g → 0 < length gs → (k : ℕ) → IsEven (guessed_web g gs) k → IsEven (resumed_web g gs) k
even_to g gs h l k e a na =
    sym (counts_same g gs h l k a (graph_web g).left na (λ x i. inl i)) ∙ (e a na ∙ counts_same g gs h l k a (graph_web g).right na (λ x i. inr i))

-- where no class came and all are even, the classes are the stable ones
pub ended : (g : Graph) (gs : List (ℕ × ℕ)) (old new : Classes) → IsGraph g → 0 < length gs → AreOnTheWay g (resumed_web g gs) old → old.counts.is_uneven ≡ false → IsNextRound g old new
    → new.class_of.items ≡ old.class_of.items → AreSettled (guessed_web g gs) new
ended g gs old new graph l h flag next same =
    let v : Web ℕ = resumed_web g gs in
    let web = resumed_is g gs graph in
    let f = finite v web in
    let fixed : SplitsBy v v.near (class_in old) (class_in old) = subst (λ (xs : List ℕ). SplitsBy v v.near (slice_index old.class_of.items) (slice_index xs)) same next in
    let colours : AreColours v f.0 (class_in old) = last v (class_in old) f.0 web fixed h.coarse h.fine f.2 in
    let even : IsEven v f.0 = even_round g (resumed_web g gs).alike old f.0 h.partition colours flag in
    let is : (a : ℕ) → class_in new a ≡ class_in old a = λ a. ap (λ (xs : List ℕ). slice_index xs a) same in
    record {
      round = f.0;
      stable = stable_from g gs graph l f.0 f.2;
      even = λ k m. even_from g gs graph l k (even_before v f.0 k web even m);
      colours = λ a b na nb. (
        (λ e. same_rounds g gs graph l f.0 a b na nb ∙ (colours a b na nb).0 (sym (is a) ∙ (e ∙ is b))),
        (λ t. is a ∙ ((colours a b na nb).1 (sym (same_rounds g gs graph l f.0 a b na nb) ∙ t) ∙ sym (is b))),
      );
    }

-- where a class has unequal counts, no even round is stable
pub refuted : (g : Graph) (gs : List (ℕ × ℕ)) (c : Classes) → IsGraph g → 0 < length gs → AreOnTheWay g (resumed_web g gs) c → c.counts.is_uneven ≡ true → HasNoEvenEnd (guessed_web g gs)
refuted g gs c graph l h flag k stable even =
    let u = some_uneven g c h.partition flag in
    u.2 (union (resumed_web g gs) (class_in c) k (resumed_is g gs graph) (stable_to g gs graph l k stable) (even_to g gs graph l k even) h.coarse (class_in c u.0))
