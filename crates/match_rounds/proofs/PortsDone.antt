-- The ends of one port more have parted the classes.
use Rattle.std.proofs.Common.{◌≡◌, inl, inr, ◌<◌, ◌≤◌, ◌+◌, ◌==◌, ◌&&◌, ℕ, suc, Bool, true, cond, count_by, List, [], ◌∷◌, length, map, refl, sym, subst, ◌∙◌, ap, arith}
use Rattle.std.specs.List.{sum_by}
use Rattle.std.specs.List.Sorted.{IsPermutation}
use Rattle.std.proofs.lemmas.Bool.{cases_lt, cases_Bool}
use Rattle.std.proofs.lemmas.Bool.Decides.{Decides-eqb}
use Rattle.std.proofs.lemmas.List.Sorted.{sum_by-IsPermutation}
use Rattle.std.proofs.lemmas.List.Sums.{sum_by-cons}
use Rattle.round_laws.specs.Web.{Port as PlainPort, same_port}
use Rattle.round_laws.proofs.Agree.{count-cons, first, second, port_same}
use Rattle.match_graph.specs.declared.graph.Port.{Port}
use Rattle.match_graph.specs.declared.graph.End.{End}
use Rattle.match_graph.specs.Graph.{plain_port, plain_end}
use Rattle.match_rounds.specs.declared.classes.Classes.{Classes}
use Rattle.match_rounds.specs.declared.groups.Part.{Part}
use Rattle.match_rounds.specs.Pieces.{entry, AreLoose, ArePartedBy, HasCount, HaveOneCount}
use Rattle.match_rounds.specs.Touching.{end_at, AreInOrder, IsPortRun, IsPortStart, AreParts, count_at}
use Rattle.match_rounds.specs.Looking.{HaveOneTouch, ArePortsDone, touches, ArePartedByEnds}
use Rattle.match_rounds.proofs.PartCounts.{counted, in_run, one_plain, squeezed}

-- one that passes, where some do
some_passes : (q : End → Bool) (ends : List End) → 0 < count_by q ends → (k : ℕ) × (k < length ends) × (q (end_at ends k) ≡ true)
some_passes q [] l = absurd (omega arith)
some_passes q (e ∷ es) l = elim (cases_Bool (q e)) [
  | inl t ↦ (0, omega arith, t)
  | inr f ↦
      let n = count-cons q e es ∙ ap (λ (b : Bool). cond {A = ℕ} b 1 0 + count_by q es) f in
      let r = some_passes q es (omega arith) in
      let b = r.1 in
      (suc r.0, omega arith, r.2)
]

-- an end of this port and node, where there are some
some_end : (ends : List End) (port : Port) (a : ℕ) → 0 < count_at ends port a → (k : ℕ) × (k < length ends) × ((end_at ends k).port ≡ port) × ((end_at ends k).node ≡ a)
some_end ends port a l =
    let r = some_passes (λ e. same_port (plain_port port) (plain_port e.port) && (a == e.node)) ends l in
    let same = first (same_port (plain_port port) (plain_port (end_at ends r.0).port)) (a == (end_at ends r.0).node) r.2 in
    let node = second (same_port (plain_port port) (plain_port (end_at ends r.0).port)) (a == (end_at ends r.0).node) r.2 in
    (r.0, r.1, sym (one_plain port (end_at ends r.0).port ((port_same (plain_port port) (plain_port (end_at ends r.0).port)).0 same)), sym ((Decides-eqb a (end_at ends r.0).node).0 node))

-- the ends of one port are done
record IsDone (c : Classes) (ends : List End) (i j : ℕ) (parts : List Part) : Type 0 where
  order : AreInOrder ends
  run : IsPortRun ends i j
  start : IsPortStart ends i
  are : AreParts c ends i j parts

counts : (c : Classes) (ends : List End) (i j : ℕ) (parts : List Part) (a v : ℕ) → IsDone c ends i j parts → HasCount parts (length parts) a v → count_at ends (end_at ends i).port a ≡ v
counts c ends i j parts a v h t =
    ap (count_at ends (end_at ends i).port) (sym t.2) ∙ (counted c ends i j (entry parts t.0) h.order h.run h.start (h.are.each t.0 t.1) ∙ t.3)

some : (c : Classes) (ends : List End) (i j : ℕ) (parts : List Part) (a v : ℕ) → IsDone c ends i j parts → HasCount parts (length parts) a v → 0 < v
some c ends i j parts a v h t = let s = (h.are.each t.0 t.1).run.some in let e = t.3 in omega arith

has : (c : Classes) (ends : List End) (i j : ℕ) (parts : List Part) (a : ℕ) → IsDone c ends i j parts → 0 < count_at ends (end_at ends i).port a → HasCount parts (length parts) a (count_at ends (end_at ends i).port a)
has c ends i j parts a h l =
    let e = some_end ends (end_at ends i).port a l in
    let b = in_run ends i j e.0 h.order h.run h.start e.1 e.2 in
    let p = h.are.all e.0 b.0 b.1 in
    let node = p.2 ∙ e.3 in
    (p.0, p.1, node, sym (counted c ends i j (entry parts p.0) h.order h.run h.start (h.are.each p.0 p.1)) ∙ ap (count_at ends (end_at ends i).port) node)

-- two nodes have one count among the parts where they have as many ends
same_counts : (c : Classes) (ends : List End) (i j : ℕ) (parts : List Part) (a b : ℕ) → IsDone c ends i j parts → HaveOneCount parts (length parts) a b
    → count_at ends (end_at ends i).port a ≡ count_at ends (end_at ends i).port b
same_counts c ends i j parts a b h same = elim (cases_lt 0 (count_at ends (end_at ends i).port a)) [
  | inl l ↦ sym (counts c ends i j parts b (count_at ends (end_at ends i).port a) h ((same (count_at ends (end_at ends i).port a)).0 (has c ends i j parts a h l)))
  | inr l ↦ elim (cases_lt 0 (count_at ends (end_at ends i).port b)) [
    | inl m ↦ counts c ends i j parts a (count_at ends (end_at ends i).port b) h ((same (count_at ends (end_at ends i).port b)).1 (has c ends i j parts b h m))
    | inr m ↦ omega arith
  ]
]

moves : (c : Classes) (ends : List End) (i j : ℕ) (parts : List Part) (a b v : ℕ) → IsDone c ends i j parts → count_at ends (end_at ends i).port a ≡ count_at ends (end_at ends i).port b
    → HasCount parts (length parts) a v → HasCount parts (length parts) b v
moves c ends i j parts a b v h e t =
    let is = counts c ends i j parts a v h t in
    let l = some c ends i j parts a v h t in
    subst (λ (x : ℕ). HasCount parts (length parts) b x) (sym e ∙ is) (has c ends i j parts b h (omega arith))

pub none : (c : Classes) (ends : List End) (n : ℕ) → ArePortsDone c c ends 0 n
none c ends n = record {
  fits = omega arith;
  start = λ l k m. absurd (omega arith);
  parted = λ a b la lb. ((λ e. (e, (λ k l. absurd (omega arith)))), (λ e. e.0));
}

-- the next port is another than those before
next_start : (ends : List End) (i j : ℕ) → AreInOrder ends → IsPortRun ends i j → IsPortStart ends i → j < length ends → IsPortStart ends j
next_start ends i j order run start lj k lk e = elim (cases_lt k i) [
  | inl l ↦
      let some = run.some in
      start k l (sym (squeezed (end_at ends k) (end_at ends i) (end_at ends j) (order k i (omega arith) (omega arith)) (order i j (omega arith) lj) (sym e)))
  | inr l ↦ run.next lj (sym e ∙ run.port k l lk)
]

pub step : (old mid new : Classes) (ends : List End) (i j n : ℕ) (parts : List Part) → AreInOrder ends → i < length ends → IsPortRun ends i j → ArePortsDone old mid ends i n → AreParts mid ends i j parts
    → ArePartedBy mid.class_of.items new.class_of.items parts (length parts) n → ArePortsDone old new ends j n
step old mid new ends i j n parts order li run was are parted =
    let h : IsDone mid ends i j parts = record { order = order; run = run; start = was.start li; are = are } in
    let some = run.some in
    record {
      fits = run.fits;
      start = λ l. next_start ends i j order run (was.start li) l;
      parted = λ a b la lb.
          let law = parted a b la lb in
          let before = was.parted a b la lb in (
            (λ e.
                let m = law.0 e in
                let o = before.0 m.0 in
                let here = same_counts mid ends i j parts a b h m.1 in (
                  o.0,
                  (λ k l. elim (cases_lt k i) [
                    | inl t ↦ o.1 k t
                    | inr t ↦ subst (λ (p : Port). count_at ends p a ≡ count_at ends p b) (sym (run.port k t l)) here
                  ]),
                )),
            (λ e.
                let here = e.1 i (omega arith) in
                law.1 (
                  before.1 (e.0, (λ k l. e.1 k (omega arith))),
                  (λ v. (moves mid ends i j parts a b v h here, moves mid ends i j parts b a v h (sym here))),
                )),
          );
    }

-- the parts are of distinct nodes of their classes
pub loose : (c : Classes) (ends : List End) (i j n : ℕ) (parts : List Part) → AreParts c ends i j parts → j ≤ length ends → ((k : ℕ) → k < length ends → (end_at ends k).node < n) → AreLoose c.class_of.items parts n
loose c ends i j n parts are lj below = record {
  below = λ e l.
      let p = are.each e l in
      let some = p.run.some in
      let high = p.high in
      subst (λ (x : ℕ). x < n) (sym p.node) (below p.start (omega arith));
  class = λ e l. (are.each e l).class;
  once = are.once;
}

pub count-map : {X Y : Type 0} (p : Y → Bool) (h : X → Y) (xs : List X) → count_by p (map h xs) ≡ count_by (λ x. p (h x)) xs
count-map p h [] = refl
count-map p h (x ∷ xs) = count-cons p (h x) (map h xs) ∙ (ap (λ (n : ℕ). cond (p (h x)) 1 0 + n) (count-map p h xs) ∙ sym (count-cons (λ y. p (h y)) x xs))

touches_at : (ends : List End) (port : PlainPort) (a : ℕ) → touches ends port a ≡ count_by (λ e. same_port port (plain_port e.port) && (a == e.node)) ends
touches_at ends port a = count-map (λ e. same_port port e.port && (a == e.node)) plain_end ends

-- a port of which a node has ends is that of one of them
port_there : (ends : List End) (port : PlainPort) (a : ℕ) → 0 < touches ends port a → (k : ℕ) × (k < length ends) × (port ≡ plain_port (end_at ends k).port)
port_there ends port a l =
    let e = touches_at ends port a in
    let r = some_passes (λ e. same_port port (plain_port e.port) && (a == e.node)) ends (omega arith) in
    (r.0, r.1, (port_same port (plain_port (end_at ends r.0).port)).0 (first (same_port port (plain_port (end_at ends r.0).port)) (a == (end_at ends r.0).node) r.2))

at_port : (ends : List End) (a b k : ℕ) (port : PlainPort) → HaveOneTouch ends (length ends) a b → k < length ends → port ≡ plain_port (end_at ends k).port → touches ends port a ≡ touches ends port b
at_port ends a b k port h l e =
    subst (λ (p : PlainPort). touches ends p a ≡ touches ends p b) (sym e)
    (touches_at ends (plain_port (end_at ends k).port) a ∙ (h k l ∙ sym (touches_at ends (plain_port (end_at ends k).port) b)))

each_port : (ends : List End) (a b : ℕ) → HaveOneTouch ends (length ends) a b → (port : PlainPort) → touches ends port a ≡ touches ends port b
each_port ends a b h port = elim (cases_lt 0 (touches ends port a)) [
  | inl l ↦ let t = port_there ends port a l in at_port ends a b t.0 port h t.1 t.2
  | inr l ↦ elim (cases_lt 0 (touches ends port b)) [
    | inl m ↦ let t = port_there ends port b m in at_port ends a b t.0 port h t.1 t.2
    | inr m ↦ omega arith
  ]
]

pub all_ports : (old new : Classes) (ends : List End) (i n : ℕ) → length ends ≤ i → ArePortsDone old new ends i n → ArePartedByEnds old new ends n
all_ports old new ends i n l h a b la lb =
    let fits = h.fits in
    let is : i ≡ length ends = omega arith in
    let law = h.parted a b la lb in (
      (λ e. let o = law.0 e in (o.0, each_port ends a b (subst (λ (m : ℕ). HaveOneTouch ends m a b) is o.1))),
      (λ e. law.1 (
        e.0,
        (λ k m. sym (touches_at ends (plain_port (end_at ends k).port) a) ∙ (e.1 (plain_port (end_at ends k).port) ∙ touches_at ends (plain_port (end_at ends k).port) b)),
      )),
    )

as_sum : (q : End → Bool) (xs : List End) → count_by q xs ≡ sum_by (λ x. cond {A = ℕ} (q x) 1 0) xs
as_sum q [] = refl
as_sum q (x ∷ xs) = count-cons q x xs ∙ (ap (λ (n : ℕ). cond (q x) 1 0 + n) (as_sum q xs) ∙ sym (sum_by-cons (λ y. cond {A = ℕ} (q y) 1 0) x xs))

touches_moved : (xs ys : List End) (port : PlainPort) (a : ℕ) → IsPermutation xs ys → touches ys port a ≡ touches xs port a
touches_moved xs ys port a h =
    touches_at ys port a
    ∙ (as_sum (λ e. same_port port (plain_port e.port) && (a == e.node)) ys
    ∙ (sum_by-IsPermutation (λ e. cond {A = ℕ} (same_port port (plain_port e.port) && (a == e.node)) 1 0) xs ys h
    ∙ (sym (as_sum (λ e. same_port port (plain_port e.port) && (a == e.node)) xs) ∙ sym (touches_at xs port a))))

-- the ends in another order part classes alike
pub moved : (old new : Classes) (xs ys : List End) (n : ℕ) → IsPermutation xs ys → ArePartedByEnds old new ys n → ArePartedByEnds old new xs n
moved old new xs ys n perm h a b la lb =
    let law = h a b la lb in (
      (λ e. let o = law.0 e in (o.0, (λ p. sym (touches_moved xs ys p a perm) ∙ (o.1 p ∙ touches_moved xs ys p b perm)))),
      (λ e. law.1 (e.0, (λ p. touches_moved xs ys p a perm ∙ (e.1 p ∙ sym (touches_moved xs ys p b perm))))),
    )
