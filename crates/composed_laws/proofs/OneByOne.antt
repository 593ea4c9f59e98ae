-- The answer of one pair after the other: each is the only one, and together they are the answers.
use Rattle.std.proofs.Common.{◌≡◌, inl, inr, ℕ, zero, suc, ◌<◌, ◌≤◌, true, cond, List, length, Option, Some, None, sym, ◌∙◌, ap, subst, arith}
use Rattle.std.proofs.lemmas.Bool.{cases_Bool}
use Rattle.std.proofs.Math.Path.{fun_ext}
use Rattle.std.proofs.lemmas.Option.{none-some}
use Rattle.round_laws.specs.Nodes.{Layout, Schematic}
use Rattle.plain_netlist.specs.Netlist.{Circuit, Netlist, IsCircuit}
use Rattle.plain_netlist.specs.Sound.{IsGood}
use Rattle.plain_netlist.proofs.Once.{one_circuit}
use Rattle.match_laws.specs.Circuits.{Pair, Pairing, IsOneToOne, IsCorrespondence, IsFitting}
use Rattle.match_laws.specs.Answer.{Answer, Match, equal_names, IsAnswer}
use Rattle.match_laws.proofs.Answer.{matched}
use Rattle.match_laws.proofs.OneAnswer.{one_answer}
use Rattle.align_laws.specs.Lists.{given_of}
use Rattle.align_laws.specs.Partners.{AreSides}
use Rattle.composed_laws.specs.Answered.{pairing_or, right_pins, children_of, is_called, children_in, pair_in, Asked, AreAnswers, IsAnswerAt, IsAnswerOf, OneAnswerOfLaw, ReadAnswersLaw, TogetherAnswersLaw}
use Rattle.composed_laws.proofs.Fitting.{any_listed, kids_from, kids_in, list_of, AreBelow, fit_left, fit_right}

module _ (left right : Netlist) (asked : Asked) (sides : AreSides left right) where
  abbrev level : ℕ → ℕ
  level = sides.left_good.0

  abbrev Each : (ℕ → Answer) → Type 0
  Each read = (k : ℕ) (c d : Circuit) → level k < 0 → IsCircuit left k c → IsCircuit right k d → IsAnswer (pair_in (asked.told k) left read c d) (equal_names (pair_in (asked.told k) left read c d)) asked.limit (read k)

  no_each : (read : ℕ → Answer) → Each read
  no_each read k c d low is it = absurd (omega arith)

  -- children that are read are called
  called_of : (read : ℕ → Answer) (c : Circuit) (q : ℕ) (pins : List ℕ) → children_in left read c q ≡ Some pins → is_called c q ≡ true
  called_of read c q pins h = elim (cases_Bool (is_called c q)) [
    | inl e ↦ e
    | inr e ↦ absurd (none-some pins (sym (ap (λ t. cond t (children_of left read q) None) e) ∙ h))
  ]

  -- a right answer: of a pair that fits, and where it is a match, a correspondence
  record Right (k : ℕ) (a : Answer) : Type 0 where
    pub left_is : Circuit
    pub right_is : Circuit
    pub read : ℕ → Answer
    pub there : IsCircuit left k left_is
    pub also : IsCircuit right k right_is
    pub left_fits : IsFitting (pair_in (asked.told k) left read left_is right_is) Layout
    pub right_fits : IsFitting (pair_in (asked.told k) left read left_is right_is) Schematic
    pub correspond : (f : Pairing) → a ≡ Match f → IsCorrespondence (pair_in (asked.told k) left read left_is right_is) f

  -- right answers of the called pairs
  below : (k : ℕ) (c : Circuit) (read : ℕ → Answer) → IsCircuit left k c → ((q : ℕ) → is_called c q ≡ true → Right q (read q))
      → AreBelow left right level sides.left_good.1 sides.right_good.0 sides.right_good.1 asked read sides 0 (no_each read) c
  below k c read is rights q pins h =
      let r = kids_in left right level sides.left_good.1 sides.right_good.0 sides.right_good.1 asked read sides 0 (no_each read) c q pins h in
      let right_q = rights q (called_of read c q pins h) in
      let x = right_q.left_is in
      let f = kids_from left right level sides.left_good.1 sides.right_good.0 sides.right_good.1 asked read sides 0 (no_each read) q x pins right_q.there r.0 in
      let one = list_of left right level sides.left_good.1 sides.right_good.0 sides.right_good.1 asked read sides 0 (no_each read) (children_in left right_q.read x) (asked.told q) q x right_q.right_is f.0 right_q.there right_q.also (right_q.correspond f.0 f.1) in
      (x, right_q.right_is, right_q.there, right_q.also, subst (λ (l : List ℕ). IsOneToOne l (length x.pins) (length x.pins)) f.2 one.0, one.1)

  fits : (k : ℕ) (c d : Circuit) (read : ℕ → Answer) → IsCircuit left k c → IsCircuit right k d → ((q : ℕ) → is_called c q ≡ true → Right q (read q)) → IsFitting (pair_in (asked.told k) left read c d) Layout × IsFitting (pair_in (asked.told k) left read c d) Schematic
  fits k c d read is it rights =
      let b = below k c read is rights in (
        fit_left left right level sides.left_good.1 sides.right_good.0 sides.right_good.1 asked read sides 0 (no_each read) k c d is b,
        fit_right left right level sides.left_good.1 sides.right_good.0 sides.right_good.1 asked read sides 0 (no_each read) k c d it b,
      )

  right_at : (n k : ℕ) (a : Answer) → IsAnswerAt left right asked n k a → Right k a
  right_at zero k a h = absurd h
  right_at (suc n) k a (c, d, read, is, it, called, answer) =
      let f = fits k c d read is it (λ q e. right_at n q (read q) (called q e)) in
      record {
        left_is = c;
        right_is = d;
        read = read;
        there = is;
        also = it;
        left_fits = f.0;
        right_fits = f.1;
        correspond = λ g e. matched (pair_in (asked.told k) left read c d) (equal_names (pair_in (asked.told k) left read c d)) asked.limit g f.0 f.1 (subst (λ z. IsAnswer (pair_in (asked.told k) left read c d) (equal_names (pair_in (asked.told k) left read c d)) asked.limit z) e answer);
      }

  -- pairs with the same answers below have the same children
  children_same : (k : ℕ) (c : Circuit) (a b : ℕ → Answer) → ((q : ℕ) → is_called c q ≡ true → a q ≡ b q) → children_in left a c ≡ children_in left b c
  children_same k c a b same = fun_ext (λ q. elim (cases_Bool (is_called c q)) [
    | inr none ↦ ap (λ t. cond t (children_of left a q) None) none ∙ sym (ap (λ t. cond t (children_of left b q) None) none)
    | inl e ↦
        ap (λ t. cond t (children_of left a q) None) e
        ∙ (ap (λ z. right_pins (given_of left q) (pairing_or z)) (same q e) ∙ sym (ap (λ t. cond t (children_of left b q) None) e))
  ])

  moved : (k : ℕ) (c d : Circuit) (a b : ℕ → Answer) (answer : Answer) → ((q : ℕ) → is_called c q ≡ true → a q ≡ b q) → IsAnswer (pair_in (asked.told k) left a c d) (equal_names (pair_in (asked.told k) left a c d)) asked.limit answer
      → IsAnswer (pair_in (asked.told k) left b c d) (equal_names (pair_in (asked.told k) left b c d)) asked.limit answer
  moved k c d a b answer same h =
      subst (λ (p : Pair). IsAnswer p (equal_names p) asked.limit answer) (ap (λ (ch : ℕ → Option (List ℕ)). let p : Pair = record { left = c; right = d; children = ch; told = asked.told k } in p) (children_same k c a b same)) h

  -- one answer, however deep it was asked
  one : (m n k : ℕ) (a b : Answer) → IsAnswerAt left right asked m k a → IsAnswerAt left right asked n k b → a ≡ b
  one zero n k a b h g = absurd h
  one (suc m) zero k a b h g = absurd g
  one (suc m) (suc n) k a b (c, d, read, is, it, called, answer) (x, y, also, js, jt, called', answer') =
      let left_same : x ≡ c = one_circuit left k x c js is in
      let right_same : y ≡ d = one_circuit right k y d jt it in
      let f = fits k c d read is it (λ q e. right_at m q (read q) (called q e)) in
      let same : (q : ℕ) → is_called c q ≡ true → also q ≡ read q = λ q e. sym (one m n q (read q) (also q) (called q e) (called' q (subst (λ (z : Circuit). is_called z q ≡ true) (sym left_same) e))) in
      let here : IsAnswer (pair_in (asked.told k) left also c d) (equal_names (pair_in (asked.told k) left also c d)) asked.limit b
      = subst (λ (z : Circuit). IsAnswer (pair_in (asked.told k) left also z d) (equal_names (pair_in (asked.told k) left also z d)) asked.limit b) left_same (subst (λ (z : Circuit). IsAnswer (pair_in (asked.told k) left also x z) (equal_names (pair_in (asked.told k) left also x z)) asked.limit b) right_same answer') in
      one_answer (pair_in (asked.told k) left read c d) (equal_names (pair_in (asked.told k) left read c d)) asked.limit a b f.0 f.1 answer (moved k c d also read b same here)

  -- a deeper bound
  more : (m n k : ℕ) (a : Answer) → m ≤ n → IsAnswerAt left right asked m k a → IsAnswerAt left right asked n k a
  more zero n k a low h = absurd h
  more (suc m) zero k a low h = absurd (omega arith)
  more (suc m) (suc n) k a low (c, d, read, is, it, called, answer) = (c, d, read, is, it, (λ q e. more m n q (read q) (omega arith) (called q e)), answer)

  module _ (good : IsGood left (λ k. k)) where
    earlier : (k q : ℕ) (c : Circuit) → IsCircuit left k c → is_called c q ≡ true → q < k
    earlier k q c is e =
        let r = any_listed q c.calls e in
        let low = good.lower k r.0 r.1 (c, is, r.2) in
        let same = r.3 in
        omega arith

    read_on : (k : ℕ) (c d : Circuit) (read : ℕ → Answer) (a : Answer) → IsCircuit left k c → IsCircuit right k d → ((q : ℕ) → is_called c q ≡ true → IsAnswerOf left right asked q (read q))
        → IsAnswer (pair_in (asked.told k) left read c d) (equal_names (pair_in (asked.told k) left read c d)) asked.limit a → IsAnswerOf left right asked k a
    read_on k c d read a is it called answer =
        (c, d, read, is, it, (λ q e. let low = earlier k q c is e in more (suc q) k q (read q) (omega arith) (called q e)), answer)

    each_from : (answers : ℕ → Answer) → AreAnswers left right asked answers → (m k : ℕ) (c : Circuit) → k < m → IsCircuit left k c → IsAnswerOf left right asked k (answers k)
    each_from answers all zero k c low is = absurd (omega arith)
    each_from answers all (suc m) k c low is =
        let d = sides.there k c is in
        read_on k c d.0 answers (answers k) is d.1 (λ q e.
        let less = earlier k q c is e in
        let r = any_listed q c.calls e in
        let x = good.called k r.0 r.1 (c, is, r.2) in
        each_from answers all m q x.0 (omega arith) (subst (λ z. IsCircuit left z x.0) r.3 x.1)) (all k c d.0 is d.1)

    all_from : (answers : ℕ → Answer) → ((k : ℕ) (c : Circuit) → IsCircuit left k c → IsAnswerOf left right asked k (answers k)) → AreAnswers left right asked answers
    all_from answers each k c d is it = by (each k c is)
      where
        by : IsAnswerOf left right asked k (answers k) → IsAnswer (pair_in (asked.told k) left answers c d) (equal_names (pair_in (asked.told k) left answers c d)) asked.limit (answers k)
        by (x, y, read, js, jt, called, answer) =
            let left_same : x ≡ c = one_circuit left k x c js is in
            let right_same : y ≡ d = one_circuit right k y d jt it in
            let same : (q : ℕ) → is_called x q ≡ true → read q ≡ answers q = λ q e.
            let r = any_listed q x.calls e in
            let z = good.called k r.0 r.1 (x, js, r.2) in
            one k (suc q) q (read q) (answers q) (called q e) (each q z.0 (subst (λ u. IsCircuit left u z.0) r.3 z.1)) in
            subst (λ (z : Circuit). IsAnswer (pair_in (asked.told k) left answers z d) (equal_names (pair_in (asked.told k) left answers z d)) asked.limit (answers k)) left_same
            (subst (λ (z : Circuit). IsAnswer (pair_in (asked.told k) left answers x z) (equal_names (pair_in (asked.told k) left answers x z)) asked.limit (answers k)) right_same (moved k x y read answers (answers k) same answer))

pub one_answer_of : OneAnswerOfLaw
one_answer_of left right asked k a b sides h g = one left right asked sides (suc k) (suc k) k a b h g

pub read_answers : ReadAnswersLaw
read_answers left right asked k c d read sides good is it called =
    let f = fits left right asked sides k c d read is it (λ q e. right_at left right asked sides (suc q) q (read q) (called q e)) in
    (f.0, f.1, λ a answer. read_on left right asked sides good k c d read a is it called answer)

pub together_answers : TogetherAnswersLaw
together_answers left right asked answers sides good = (
  (λ all k c is. each_from left right asked sides good answers all (suc k) k c (omega arith) is),
  all_from left right asked sides good answers,
)
