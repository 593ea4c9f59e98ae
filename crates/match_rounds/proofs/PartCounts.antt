-- The count of a part is how many ends its node has there.
use Rattle.std.proofs.Common.{◌≡◌, inl, inr, ◌<◌, ◌≤◌, ◌+◌, ◌==◌, ◌&&◌, ℕ, zero, suc, Bool, true, false, cond, count_by, List, [], ◌∷◌, length, slice_index_or, refl, sym, subst, ◌∙◌, ap, arith}
use Rattle.std.proofs.lemmas.Bool.{cases_lt, and_from, false_from_ne_true}
use Rattle.std.proofs.lemmas.Bool.Decides.{Decides-eqb}
use Rattle.round_laws.specs.Web.{same_port}
use Rattle.round_laws.proofs.Agree.{count-cons, first, second, port_same}
use Rattle.match_graph.specs.declared.graph.Port.{Port}
use Rattle.match_graph.specs.declared.graph.Port.TheVariants as port
use Rattle.match_graph.specs.declared.graph.End.{End}
use Rattle.match_graph.specs.Filling.{end}
use Rattle.match_graph.specs.Graph.{plain_port}
use Rattle.match_rounds.specs.Touching.{IsPortBefore, end_at, IsNoLaterEnd, AreInOrder, IsPortRun, IsPortStart, PartLaw}
use Rattle.match_rounds.proofs.Runs.{apart, one_way}

-- where just those at these places pass
pub interval : {X : Type 0} (q : X → Bool) (d : X) (xs : List X) (b s : ℕ) → b + s ≤ length xs
    → ((k : ℕ) → b ≤ k → k < b + s → q (slice_index_or xs k d) ≡ true)
    → ((k : ℕ) → k < length xs → q (slice_index_or xs k d) ≡ true → (b ≤ k) × (k < b + s)) → count_by q xs ≡ s
interval q d [] b s l pass only = let z : s ≡ 0 = omega arith in sym z
interval q d (x ∷ xs) (suc b) s l pass only =
    let none : q x ≡ false = false_from_ne_true (q x) (λ t. let r = (only 0 (omega arith) t).0 in omega arith) in
    let rest = interval q d xs b s (omega arith) (λ k lo hi. pass (suc k) (omega arith) (omega arith))
    (λ k lk t. let r = only (suc k) (omega arith) t in let lo = r.0 in let hi = r.1 in (omega arith, omega arith)) in
    count-cons q x xs ∙ (ap (λ (t : Bool). cond {A = ℕ} t 1 0 + count_by q xs) none ∙ (let e = rest in omega arith))
interval q d (x ∷ xs) zero (suc s) l pass only =
    let here : q x ≡ true = pass 0 (omega arith) (omega arith) in
    let rest = interval q d xs zero s (omega arith) (λ k lo hi. pass (suc k) (omega arith) (omega arith))
    (λ k lk t. let r = only (suc k) (omega arith) t in let hi = r.1 in (omega arith, omega arith)) in
    count-cons q x xs ∙ (ap (λ (t : Bool). cond {A = ℕ} t 1 0 + count_by q xs) here ∙ (let e = rest in omega arith))
interval q d (x ∷ xs) zero zero l pass only =
    let none : q x ≡ false = false_from_ne_true (q x) (λ t. let r = (only 0 (omega arith) t).1 in omega arith) in
    let rest = interval q d xs zero zero (omega arith) (λ k lo hi. absurd (omega arith))
    (λ k lk t. let r = only (suc k) (omega arith) t in let hi = r.1 in absurd (omega arith)) in
    count-cons q x xs ∙ (ap (λ (t : Bool). cond {A = ℕ} t 1 0 + count_by q xs) none ∙ (let e = rest in omega arith))

-- ports of one plain port are one
pub one_plain : (p q : Port) → plain_port p ≡ plain_port q → p ≡ q
one_plain port.EitherEnd port.EitherEnd e = refl
one_plain (port.Other i) (port.Other j) e = let f : i ≡ j = cc in ap port.Other f
one_plain (port.Pin i) (port.Pin j) e = let f : i ≡ j = cc in ap port.Pin f
one_plain port.EitherEnd (port.Other j) e = absurd cc
one_plain port.EitherEnd (port.Pin j) e = absurd cc
one_plain (port.Other i) port.EitherEnd e = absurd cc
one_plain (port.Other i) (port.Pin j) e = absurd cc
one_plain (port.Pin i) port.EitherEnd e = absurd cc
one_plain (port.Pin i) (port.Other j) e = absurd cc

-- what stands between two ends of one port has it too
pub squeezed : (d f g : End) → IsNoLaterEnd d f → IsNoLaterEnd f g → g.port ≡ d.port → f.port ≡ d.port
squeezed d f g (inl a) (inl b) p = absurd (one_way d.port f.port a (subst (IsPortBefore f.port) p b))
squeezed d f g (inl a) (inr b) p = b.0 ∙ p
squeezed d f g (inr a) later p = sym a.0

-- an end of the port stands between these places
pub in_run : (ends : List End) (from to k : ℕ) → AreInOrder ends → IsPortRun ends from to → IsPortStart ends from → k < length ends → (end_at ends k).port ≡ (end_at ends from).port → (from ≤ k) × (k < to)
in_run ends from to k order h start lk e = elim (cases_lt k from) [
  | inl l ↦ absurd (start k l e)
  | inr l ↦ elim (cases_lt k to) [
    | inl m ↦ (l, m)
    | inr m ↦
        let some = h.some in
        absurd (h.next (omega arith) (squeezed (end_at ends from) (end_at ends to) (end_at ends k) (order from to (omega arith) (omega arith)) (order to k m lk) e))
  ]
]

pub counted : PartLaw
counted c ends from to p order h start w =
    let some = w.run.some in
    let high = w.high in
    let low = w.low in
    let fits = h.fits in
    interval (λ e. same_port (plain_port (end_at ends from).port) (plain_port e.port) && (p.node == e.node)) (end port.EitherEnd 0) ends w.start p.count (omega arith)
    (λ k lo hi. and_from (same_port (plain_port (end_at ends from).port) (plain_port (end_at ends k).port)) (p.node == (end_at ends k).node)
    ((port_same (plain_port (end_at ends from).port) (plain_port (end_at ends k).port)).1 (ap plain_port (sym (h.port k (omega arith) (omega arith)))))
    ((Decides-eqb p.node (end_at ends k).node).1 (w.node ∙ sym (w.run.node k lo hi))))
    (λ k lk t.
    let here = in_run ends from to k order h start lk (sym (one_plain (end_at ends from).port (end_at ends k).port ((port_same (plain_port (end_at ends from).port) (plain_port (end_at ends k).port)).0
    (first (same_port (plain_port (end_at ends from).port) (plain_port (end_at ends k).port)) (p.node == (end_at ends k).node) t)))) in
    let node : p.node ≡ (end_at ends k).node = (Decides-eqb p.node (end_at ends k).node).0 (second (same_port (plain_port (end_at ends from).port) (plain_port (end_at ends k).port)) (p.node == (end_at ends k).node) t) in
    elim (cases_lt k w.start) [
      | inl l ↦ absurd (w.first k here.0 l (sym node))
      | inr l ↦ elim (cases_lt k (w.start + p.count)) [
        | inl m ↦ (l, m)
        | inr m ↦ absurd (apart ends from to k w.start (w.start + p.count) order h here.1 w.low w.run m (sym w.node ∙ node))
      ]
    ])
