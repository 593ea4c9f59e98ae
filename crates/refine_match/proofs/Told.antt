-- Guesses in both forms: one more and one less.
use Rattle.std.proofs.Common.{◌≡◌, inl, inr, ℕ, ◌+◌, ◌-◌, ◌<◌, ◌≤◌, List, [], ◌∷◌, ◌++◌, map, length, take, refl, sym, subst, ◌∙◌, ap, ap₂, arith}
use Rattle.std.proofs.lemmas.List.{map-append, length-append, length-map, take-map}
use Rattle.std.proofs.Math.Seq.{take-append_seam, get_or-append_seam}
use Rattle.std.proofs.lemmas.Bool.{cases_lt}
use Rattle.std.proofs.Math.ListN.{get_or-append}
use Rattle.round_laws.specs.Web.{Web, IsWeb, IsNode, IsEven, IsStable, IsRefuted, Guess, under}
use Rattle.round_laws.specs.Nodes.{Node}
use Rattle.round_laws.specs.Guesses.{guessed}
use Rattle.round_laws.proofs.Agree.{in_left, count_same, under_web}
use Rattle.round_laws.proofs.Stable.{in_either, stays}
use Rattle.round_laws.proofs.Unique.{either_way}
use Rattle.round_laws.specs.Renamed.{renamed_guess}
use Rattle.round_laws.proofs.Resumed.{even_before}
use Rattle.match_laws.specs.Circuits.{Pair, web_of}
use Rattle.match_graph.specs.declared.graph.Graph.{Graph}
use Rattle.match_graph.specs.Graph.{IsGraph, graph_web, left_of, nodes_of}
use Rattle.match_graph.specs.Numbering.{index_of}
use Rattle.match_rounds.specs.declared.classes.Classes.{Classes}
use Rattle.match_rounds.specs.declared.refinement.Verdict.{Verdict}
use Rattle.match_rounds.specs.declared.refinement.Verdict.TheVariants as verdict
use Rattle.match_rounds.specs.Refined.{but_last, AreSettled, IsVerdict}
use Rattle.match_rounds.specs.Start.{AreGuesses, guess_at, guessed_web, plain_guess}
use Rattle.refine_match.specs.Classes.{AreTold}
use Rattle.refine_match.specs.Searching.{HasEvenEnd}
use Rattle.refine_match.proofs.Crossed.{even_back, stable_back}

pub no_last : {X : Type 0} (xs : List X) (x : X) → [] ≡ xs ++ x ∷ [] → ⊥
no_last [] x e = cc
no_last (y ∷ ys) x e = cc

-- lists that end in one element
pub cut_last : {X : Type 0} (xs ys : List X) (x y : X) → xs ++ x ∷ [] ≡ ys ++ y ∷ [] → (xs ≡ ys) × (x ≡ y)
cut_last [] [] x y e = (refl, cc)
cut_last [] (z ∷ zs) x y e = let f : [] ≡ zs ++ y ∷ [] = cc in absurd (no_last zs y f)
cut_last (z ∷ zs) [] x y e = let f : [] ≡ zs ++ x ∷ [] = cc in absurd (no_last zs x f)
cut_last {X} (z ∷ zs) (v ∷ vs) x y e =
    let f : zs ++ x ∷ [] ≡ vs ++ y ∷ [] = cc in
    let g : z ≡ v = cc in
    let r = cut_last zs vs x y f in
    (ap₂ (λ (u : X) (us : List X). u ∷ us) g r.0, r.1)

pub told_more : (p : Pair) (g : Graph) (ns : List (ℕ × ℕ)) (qs : List (Guess Node)) (a b : Node) (x y : ℕ) → AreTold p g ns qs → IsNode (web_of p) a → IsNode (web_of p) b
    → index_of p a ≡ x → index_of p b ≡ y → AreTold p g (ns ++ (x, y) ∷ []) (guessed qs a b)
told_more p g ns qs a b x y h na nb ea eb =
    let q : Guess Node = record { left = a; right = b } in
    let last : plain_guess (x, y) ≡ renamed_guess (index_of p) q = ap₂ (λ (u v : ℕ). let r : Guess ℕ = record { left = u; right = v } in r) (sym ea) (sym eb) in
    record {
      graph = h.graph;
      good = h.good;
      names = map-append plain_guess ns ((x, y) ∷ [])
          ∙ (ap₂ (λ (us vs : List (Guess ℕ)). us ++ vs) h.names (ap (λ (u : Guess ℕ). u ∷ []) last)
          ∙ sym (map-append (renamed_guess (index_of p)) qs (q ∷ [])));
      there = λ r i. elim (in_either r qs (q ∷ []) i) [
        | inl j ↦ h.there r j
        | inr j ↦ elim j [
          | inl e ↦ subst (λ (z : Guess Node). IsNode (web_of p) z.left × IsNode (web_of p) z.right) (sym e) (na, nb)
          | inr z ↦ absurd z
        ]
      ];
    }

pub told_count : (p : Pair) (g : Graph) (ns : List (ℕ × ℕ)) (qs : List (Guess Node)) → AreTold p g ns qs → length ns ≡ length qs
told_count p g ns qs h = sym (length-map ns plain_guess) ∙ (ap length h.names ∙ length-map qs (renamed_guess (index_of p)))

pub told_less : (p : Pair) (g : Graph) (ns : List (ℕ × ℕ)) (qs : List (Guess Node)) (a b : Node) (n : ℕ) → AreTold p g ns (guessed qs a b) → n ≡ length qs → AreTold p g (take n ns) qs
told_less p g ns qs a b n h e =
    let q : Guess Node = record { left = a; right = b } in
    let all : map plain_guess ns ≡ map (renamed_guess (index_of p)) qs ++ renamed_guess (index_of p) q ∷ [] = h.names ∙ map-append (renamed_guess (index_of p)) qs (q ∷ []) in
    let long : n ≡ length (map (renamed_guess (index_of p)) qs) = e ∙ sym (length-map qs (renamed_guess (index_of p))) in
    record {
      graph = h.graph;
      good = h.good;
      names = sym (take-map plain_guess n ns)
          ∙ (ap₂ (λ (m : ℕ) (us : List (Guess ℕ)). take m us) long all
          ∙ take-append_seam (map (renamed_guess (index_of p)) qs) (renamed_guess (index_of p) q ∷ []));
      there = λ r i. h.there r (in_left r qs (q ∷ []) i);
    }

-- an even stable round of the nodes is one of their numbers
pub even_end : (p : Pair) (g : Graph) (ns : List (ℕ × ℕ)) (qs : List (Guess Node)) (k : ℕ) → AreTold p g ns qs → IsStable (under (web_of p) qs) k → IsEven (under (web_of p) qs) k → HasEvenEnd (guessed_web g ns)
even_end p g ns qs k h s e = (k, stable_back p g ns qs h k s, even_back p g ns qs h k e)

-- so no round is refuted
pub not_refuted : {N : Type 0} (w : Web N) (k r : ℕ) → IsWeb w → IsStable w k → IsEven w k → IsRefuted w r → ⊥
not_refuted w k r web s e h = elim (either_way r k) [
  | inl l ↦ h.uneven.counts (even_before w k r web e l h.node h.uneven.node)
  | inr l ↦ h.uneven.counts (
      count_same _ _ w.left (λ x i. stays w k r web s l h.node x h.uneven.node (inl i))
      ∙ (e h.node h.uneven.node ∙ sym (count_same _ _ w.right (λ x i. stays w k r web s l h.node x h.uneven.node (inr i)))))
]

-- guesses without the last ones
pub fewer_guesses : (g : Graph) (ns ms : List (ℕ × ℕ)) → AreGuesses g (ns ++ ms) → AreGuesses g ns
fewer_guesses g ns ms h =
    let long : length (ns ++ ms) ≡ length ns + length ms = length-append ns ms in
    let same : (i : ℕ) → i < length ns → guess_at (ns ++ ms) i ≡ guess_at ns i = λ i l. get_or-append ns ms (0, 0) i l in
    record {
      left = λ i l. subst (λ (q : ℕ × ℕ). q.0 < left_of g) (same i l) (h.left i (omega arith));
      right = λ i l. subst (λ (q : ℕ × ℕ). left_of g ≤ q.1) (same i l) (h.right i (omega arith));
      node = λ i l. subst (λ (q : ℕ × ℕ). q.1 < nodes_of g) (same i l) (h.node i (omega arith));
    }

-- and one more
pub more_guesses : (g : Graph) (ns : List (ℕ × ℕ)) (x y : ℕ) → AreGuesses g ns → x < left_of g → left_of g ≤ y → y < nodes_of g → AreGuesses g (ns ++ (x, y) ∷ [])
more_guesses g ns x y h lx ly ny =
    let long : length (ns ++ (x, y) ∷ []) ≡ length ns + 1 = length-append ns ((x, y) ∷ []) in
    let same : (i : ℕ) → i < length ns → guess_at ns i ≡ guess_at (ns ++ (x, y) ∷ []) i = λ i l. sym (get_or-append ns ((x, y) ∷ []) (0, 0) i l) in
    let last : (i : ℕ) → i ≡ length ns → (x, y) ≡ guess_at (ns ++ (x, y) ∷ []) i = λ i e. sym (ap (guess_at (ns ++ (x, y) ∷ [])) e ∙ get_or-append_seam ns (x, y) [] (0, 0)) in
    record {
      left = λ i l. elim (cases_lt i (length ns)) [
        | inl m ↦ subst (λ (q : ℕ × ℕ). q.0 < left_of g) (same i m) (h.left i m)
        | inr m ↦ subst (λ (q : ℕ × ℕ). q.0 < left_of g) (last i (omega arith)) lx
      ];
      right = λ i l. elim (cases_lt i (length ns)) [
        | inl m ↦ subst (λ (q : ℕ × ℕ). left_of g ≤ q.1) (same i m) (h.right i m)
        | inr m ↦ subst (λ (q : ℕ × ℕ). left_of g ≤ q.1) (last i (omega arith)) ly
      ];
      node = λ i l. elim (cases_lt i (length ns)) [
        | inl m ↦ subst (λ (q : ℕ × ℕ). q.1 < nodes_of g) (same i m) (h.node i m)
        | inr m ↦ subst (λ (q : ℕ × ℕ). q.1 < nodes_of g) (last i (omega arith)) ny
      ];
    }

-- the classes before the last guess
pub settled_before : (ns : List (ℕ × ℕ)) (n : ℕ × ℕ) → but_last (ns ++ n ∷ []) ≡ ns
settled_before ns n =
    let long : length (ns ++ n ∷ []) ≡ length ns + 1 = length-append ns (n ∷ []) in
    let less : length (ns ++ n ∷ []) - 1 ≡ length ns = omega arith in
    ap (λ (k : ℕ). take k (ns ++ n ∷ [])) less ∙ take-append_seam ns (n ∷ [])

-- the verdict on guesses that no round refutes
pub even_settled : (g : Graph) (ns : List (ℕ × ℕ)) (c : Classes) (v : Verdict) → IsGraph g → HasEvenEnd (guessed_web g ns) → IsVerdict (guessed_web g ns) c v → AreSettled (guessed_web g ns) c
even_settled g ns c verdict.Stable h e is = is
even_settled g ns c (verdict.Refuted r) h e is = absurd (not_refuted (guessed_web g ns) e.0 r (under_web (graph_web g) (map plain_guess ns) h.web) e.1 e.2 is.refuted)
