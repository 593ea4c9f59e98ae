-- The members of marked classes, and the ends at them.
use Rattle.std.proofs.Common.{◌≡◌, ◌≢◌, inl, inr, ◌<◌, ◌≤◌, ◌+◌, ◌-◌, ◌==◌, ◌&&◌, ℕ, zero, suc, Bool, true, false, List, [], ◌∷◌, length, take, drop, slice_index, slice_index_or, sym, subst, ◌∙◌, ap, arith, true≢false, length-take, length-drop}
use Rattle.base_laws.proofs.Tests.{same_truth}
use Rattle.std.specs.List.{flat_map, list_any}
use Rattle.std.proofs.lemmas.Bool.{cases_lt, and_from, cases_Bool, or_left, or_right, false_from_ne_true}
use Rattle.std.proofs.lemmas.Bool.Decides.{Decides-eqb}
use Rattle.std.proofs.lemmas.List.{get_or-take, get_or-drop}
use Rattle.round_laws.specs.Web.{Port, same_port, End}
use Rattle.round_laws.specs.Colours.{changed_ends, ends_of, SplitsBy}
use Rattle.round_laws.proofs.Agree.{count_same, count_none, first, second}
use Rattle.round_laws.proofs.Fast.{count-filter}
use Rattle.round_laws.proofs.Few.{few}
use Rattle.match_graph.specs.declared.graph.Graph.{Graph}
use Rattle.match_graph.specs.Graph.{IsGraph, graph_web, ends_at, nodes_of}
use Rattle.match_rounds.specs.declared.classes.Classes.{Classes}
use Rattle.match_rounds.specs.declared.marks.Marks.{Marks}
use Rattle.match_rounds.specs.Marks.{AreListed, is_marked}
use Rattle.match_rounds.specs.Classes.{AreClasses, IsPartition, class_in, class_count, is_fresh}
use Rattle.match_rounds.specs.Members.{start_at, fresh_at, AreMembers}
use Rattle.match_rounds.specs.Turned.{AreAllOf}
use Rattle.match_rounds.specs.Looking.{touches, ArePartedByEnds}
use Rattle.match_rounds.specs.Rounds.{span_at, AreSpans, ArePartedBySpans, AreAhead, IsNextRound}
use Rattle.match_rounds.proofs.Started.{node_below}
use Rattle.match_rounds.proofs.Turned.{touched}

-- the classes with other marks
pub marked : (c : Classes) (m : Marks) (left n : ℕ) → IsPartition c left n → AreListed m → length m.is_fresh.items ≡ length c.marks.is_fresh.items
    → IsPartition (record { class_of = c.class_of; order = c.order; begin = c.begin; counts = c.counts; marks = m }) left n
marked c m left n h listed long = record {
  inside = h.inside;
  classes = record {
    placed = h.classes.placed;
    long = h.classes.long;
    small = h.classes.small;
    begins = h.classes.begins;
    marks = long ∙ h.classes.marks;
    below = h.classes.below;
    stands = h.classes.stands;
    fits = h.classes.fits;
    some = h.classes.some;
  };
  counted = record { flagged = h.counted.flagged; left_is = h.counted.left_is; size_is = h.counted.size_is };
  listed = listed;
}

pub step : (g : Graph) (old mid new : Classes) (members ends span : List ℕ) (j n : ℕ) → ArePartedBySpans g old mid members ends j n → span ≡ span_at members ends j
    → ArePartedByEnds mid new (flat_map (ends_at g) span) n → ArePartedBySpans g old new members ends (j + 1) n
step g old mid new members ends span j n was es look a b la lb =
    let before = was a b la lb in
    let law = look a b la lb in (
      (λ e.
          let m = law.0 e in
          let o = before.0 m.0 in (
            o.0,
            (λ k l port. elim (cases_lt k j) [
              | inl t ↦ o.1 k t port
              | inr t ↦
                  let is : k ≡ j = omega arith in
                  subst (λ (xs : List ℕ). touches (flat_map (ends_at g) xs) port a ≡ touches (flat_map (ends_at g) xs) port b) (es ∙ ap (span_at members ends) (sym is)) (m.1 port)
            ]),
          )),
      (λ e. law.1 (
        before.1 (e.0, (λ k l. e.1 k (omega arith))),
        (λ port. subst (λ (xs : List ℕ). touches (flat_map (ends_at g) xs) port a ≡ touches (flat_map (ends_at g) xs) port b) (sym es) (e.1 j (omega arith) port)),
      )),
    )

-- where the next class begins
pub next_start : (ends : List ℕ) (j : ℕ) → slice_index ends j ≡ start_at ends (j + 1)
next_start ends j = let e : suc j ≡ j + 1 = omega arith in ap (start_at ends) e

any_at : (xs : List ℕ) (i a : ℕ) → i < length xs → slice_index xs i ≡ a → list_any (λ x. x == a) xs ≡ true
any_at [] i a l e = absurd (omega arith)
any_at (x ∷ xs) zero a l e = or_left (x == a) (list_any (λ y. y == a) xs) ((Decides-eqb x a).1 e)
any_at (x ∷ xs) (suc i) a l e = or_right (x == a) (list_any (λ y. y == a) xs) (any_at xs i a (omega arith) e)

-- where the j-th class stands among the members
pub record IsStanding (c : Classes) (span : List ℕ) (d n : ℕ) : Type 0 where
  pub low : d < class_count c
  pub long : length span ≡ slice_index c.counts.size.items d
  pub each : (k : ℕ) → k < slice_index c.counts.size.items d → slice_index span k ≡ slice_index c.order.node_at.items (slice_index c.begin.items d + k)

standing : (c : Classes) (members ends : List ℕ) (i j n : ℕ) → AreClasses c n → AreListed c.marks → AreMembers c members ends i → i ≡ length c.marks.fresh.items → j < i
    → IsStanding c (span_at members ends j) (fresh_at c j) n
standing c members ends i j n h listed are ei l =
    let s = are.each j l in
    let end = s.end in
    let fits = s.fits in
    let marks = h.marks in
    let low = listed.below j (omega arith) in
    record {
      low = omega arith;
      long = length-take (slice_index ends j - start_at ends j) (drop (start_at ends j) members) ∙ (let d = length-drop (start_at ends j) members in omega arith);
      each = λ k m. get_or-take (slice_index ends j - start_at ends j) (drop (start_at ends j) members) k 0 (omega arith) ∙ (get_or-drop (start_at ends j) members k 0 ∙ s.each k m);
    }

-- they are all nodes of the class
pub all_of : (c : Classes) (span : List ℕ) (d n : ℕ) → AreClasses c n → IsStanding c span d n → AreAllOf (class_in c) d span n
all_of c span d n h s =
    let long = s.long in
    let low = s.low in
    let fits = h.fits d low in
    record {
      below = λ i l. subst (λ (x : ℕ). x < n) (sym (s.each i (omega arith))) (h.placed.node_below (slice_index c.begin.items d + i) (omega arith));
      class = λ i l. ap (class_in c) (s.each i (omega arith)) ∙ (h.stands d low (slice_index c.begin.items d + i) (omega arith)).1 (omega arith, omega arith);
      found = λ a la e.
          let place = h.placed.placed a la in
          let there = (h.stands d low (slice_index c.order.place_of.items a) (h.placed.place_below a la)).0 (ap (class_in c) place ∙ e) in
          let lo = there.0 in
          let hi = there.1 in
          let k : slice_index c.begin.items d + (slice_index c.order.place_of.items a - slice_index c.begin.items d) ≡ slice_index c.order.place_of.items a = omega arith in
          any_at span (slice_index c.order.place_of.items a - slice_index c.begin.items d) a (omega arith)
          (s.each (slice_index c.order.place_of.items a - slice_index c.begin.items d) (omega arith) ∙ (ap (slice_index c.order.node_at.items) k ∙ place));
      once = λ i j l m e.
          let same : slice_index c.order.node_at.items (slice_index c.begin.items d + j) ≡ slice_index c.order.node_at.items (slice_index c.begin.items d + i) = sym (s.each j (omega arith)) ∙ (e ∙ s.each i (omega arith)) in
          let one = sym (h.placed.ordered (slice_index c.begin.items d + j) (omega arith)) ∙ (ap (slice_index c.order.place_of.items) same ∙ h.placed.ordered (slice_index c.begin.items d + i) (omega arith)) in
          omega (arith, one);
    }

-- the classes stand in order, and their members are nodes
pub in_spans : (c : Classes) (members ends : List ℕ) (i : ℕ) → AreMembers c members ends i → AreSpans members ends
in_spans c members ends i are j l =
    let count = are.count in
    let s = are.each j (omega arith) in
    let end = s.end in
    (omega arith, s.fits)

-- each member stands in a span
span_of : (c : Classes) (members ends : List ℕ) (i k : ℕ) → AreMembers c members ends i → (m : ℕ) → m ≤ i → k < start_at ends m → (j : ℕ) × (j < m) × (start_at ends j ≤ k) × (k < slice_index ends j)
span_of c members ends i k are zero l lk = absurd (omega arith)
span_of c members ends i k are (suc m) l lk = elim (cases_lt k (start_at ends m)) [
  | inl t ↦ let r = span_of c members ends i k are m (omega arith) t in let b = r.1 in (r.0, omega arith, r.2, r.3)
  | inr t ↦ (m, omega arith, t, lk)
]

pub members_below : (c : Classes) (members ends : List ℕ) (i n : ℕ) → AreClasses c n → AreListed c.marks → AreMembers c members ends i → i ≡ length c.marks.fresh.items
    → (k : ℕ) → k < length members → slice_index members k < n
members_below c members ends i n h listed are ei k l =
    let last = are.last in
    let r = span_of c members ends i k are i (omega arith) (omega arith) in
    let s = are.each r.0 r.1 in
    let end = s.end in
    let lo = r.2 in
    let hi = r.3 in
    let at : start_at ends r.0 + (k - start_at ends r.0) ≡ k = omega arith in
    let marks = h.marks in
    let b = r.1 in
    let low = listed.below r.0 (omega arith) in
    let fits = h.fits (fresh_at c r.0) (omega arith) in
    subst (λ (x : ℕ). x < n) (sym (s.each (k - start_at ends r.0) (omega arith)) ∙ ap (slice_index members) at)
    (h.placed.node_below (slice_index c.begin.items (fresh_at c r.0) + (k - start_at ends r.0)) (omega arith))

-- so are those that stand at the places of a class
pub at_places : (c : Classes) (nodes : List ℕ) (d b s n : ℕ) → AreClasses c n → d < class_count c → nodes ≡ c.order.node_at.items → b ≡ slice_index c.begin.items d → s ≡ slice_index c.counts.size.items d
    → AreAllOf (class_in c) d (take ((b + s) - b) (drop b nodes)) n
at_places c nodes d b s n h l en eb es =
    let fits = h.fits d l in
    let long = h.placed.nodes in
    let size : (b + s) - b ≡ s = omega arith in
    let there : length nodes ≡ n = ap length en ∙ long in
    all_of c (take ((b + s) - b) (drop b nodes)) d n h (record {
      low = l;
      long = length-take ((b + s) - b) (drop b nodes) ∙ (let e = length-drop b nodes in omega arith);
      each = λ k m. get_or-take ((b + s) - b) (drop b nodes) k 0 (omega arith)
          ∙ (get_or-drop b nodes k 0 ∙ (ap (λ (xs : List ℕ). slice_index xs (b + k)) en ∙ ap (λ (x : ℕ). slice_index c.order.node_at.items (x + k)) eb));
    })

marked_below : (m : Marks) (d : ℕ) → is_marked m d ≡ true → d < length m.is_fresh.items
marked_below m d t = below m.is_fresh.items d t
  where
    below : (xs : List Bool) (d : ℕ) → slice_index_or xs d false ≡ true → d < length xs
    below [] d t = absurd (true≢false (sym t))
    below (x ∷ xs) zero t = omega arith
    below (x ∷ xs) (suc d) t = let r = below xs d t in omega arith

-- the ends at a class that is looked at, and at one that isn't
yes_ends : (changed : ℕ → Bool) (colour : ℕ → ℕ) (port : Port) (d : ℕ) (es : List (End ℕ)) → ((x : ℕ) → d ≡ colour x → changed x ≡ true) → ends_of colour port d (changed_ends changed es) ≡ ends_of colour port d es
yes_ends changed colour port d es h =
    count-filter (λ e. same_port port e.port && (d == colour e.node)) (λ e. changed e.node) es
    ∙ count_same (λ e. changed e.node && (same_port port e.port && (d == colour e.node))) (λ e. same_port port e.port && (d == colour e.node)) es (λ e i. same_truth _ _
    (λ t. second (changed e.node) (same_port port e.port && (d == colour e.node)) t)
    (λ t. and_from (changed e.node) (same_port port e.port && (d == colour e.node)) (h e.node ((Decides-eqb d (colour e.node)).0 (second (same_port port e.port) (d == colour e.node) t))) t))

no_ends : (changed : ℕ → Bool) (colour : ℕ → ℕ) (port : Port) (d : ℕ) (es : List (End ℕ)) → ((x : ℕ) → d ≡ colour x → changed x ≡ false) → ends_of colour port d (changed_ends changed es) ≡ 0
no_ends changed colour port d es h =
    count-filter (λ e. same_port port e.port && (d == colour e.node)) (λ e. changed e.node) es
    ∙ count_none (λ e. changed e.node && (same_port port e.port && (d == colour e.node))) es (λ e i. false_from_ne_true (changed e.node && (same_port port e.port && (d == colour e.node)))
    (λ t. true≢false (sym (first (changed e.node) (same_port port e.port && (d == colour e.node)) t)
    ∙ h e.node ((Decides-eqb d (colour e.node)).0 (second (same_port port e.port) (d == colour e.node) (second (changed e.node) (same_port port e.port && (d == colour e.node)) t))))))

-- a look at the marked classes is one at the changed ends
record WasLooked (g : Graph) (old new : Classes) (members ends : List ℕ) (i : ℕ) : Type 0 where
  graph : IsGraph g
  classes : AreClasses old (nodes_of g)
  listed : AreListed old.marks
  are : AreMembers old members ends i
  all : i ≡ length old.marks.fresh.items
  parted : ArePartedBySpans g old new members ends i (nodes_of g)

at_span : (g : Graph) (old new : Classes) (members ends : List ℕ) (i j a : ℕ) (port : Port) → WasLooked g old new members ends i → j < i → a < nodes_of g
    → touches (flat_map (ends_at g) (span_at members ends j)) port a ≡ ends_of (class_in old) port (fresh_at old j) ((graph_web g).near a)
at_span g old new members ends i j a port h l la =
    touched g (class_in old) (fresh_at old j) (span_at members ends j) h.graph
    (all_of old (span_at members ends j) (fresh_at old j) (nodes_of g) h.classes (standing old members ends i j (nodes_of g) h.classes h.listed h.are h.all l)) a port la

by_changed : (g : Graph) (old new : Classes) (members ends : List ℕ) (i : ℕ) → WasLooked g old new members ends i
    → SplitsBy (graph_web g) (λ a. changed_ends (is_fresh old) ((graph_web g).near a)) (class_in old) (class_in new)
by_changed g old new members ends i h a b na nb =
    let la = node_below g a na in
    let lb = node_below g b nb in
    let law = h.parted a b la lb in (
      (λ e. let o = law.0 e in (
        o.0,
        (λ port d. elim (cases_Bool (is_marked old.marks d)) [
          | inl t ↦
              let f = h.listed.found d (marked_below old.marks d t) t in
              let all = h.all in
              let lf = f.1 in
              let low : f.0 < i = omega arith in
              let yes : (x : ℕ) → d ≡ class_in old x → is_fresh old x ≡ true = λ x e2. subst (λ (y : ℕ). is_marked old.marks y ≡ true) e2 t in
              let at : ends_of (class_in old) port d ((graph_web g).near a) ≡ ends_of (class_in old) port d ((graph_web g).near b)
              = subst (λ (y : ℕ). ends_of (class_in old) port y ((graph_web g).near a) ≡ ends_of (class_in old) port y ((graph_web g).near b)) f.2
              (sym (at_span g old new members ends i f.0 a port h low la) ∙ (o.1 f.0 low port ∙ at_span g old new members ends i f.0 b port h low lb)) in
              yes_ends (is_fresh old) (class_in old) port d ((graph_web g).near a) yes ∙ (at ∙ sym (yes_ends (is_fresh old) (class_in old) port d ((graph_web g).near b) yes))
          | inr t ↦
              let no : (x : ℕ) → d ≡ class_in old x → is_fresh old x ≡ false = λ x e2. subst (λ (y : ℕ). is_marked old.marks y ≡ false) e2 t in
              no_ends (is_fresh old) (class_in old) port d ((graph_web g).near a) no ∙ sym (no_ends (is_fresh old) (class_in old) port d ((graph_web g).near b) no)
        ]),
      )),
      (λ e. law.1 (
        e.0,
        (λ j l port.
            let all = h.all in
            let t : is_marked old.marks (fresh_at old j) ≡ true = h.listed.marked j (omega arith) in
            let yes : (x : ℕ) → fresh_at old j ≡ class_in old x → is_fresh old x ≡ true = λ x e2. subst (λ (y : ℕ). is_marked old.marks y ≡ true) e2 t in
            at_span g old new members ends i j a port h l la
            ∙ (sym (yes_ends (is_fresh old) (class_in old) port (fresh_at old j) ((graph_web g).near a) yes)
            ∙ (e.1 port (fresh_at old j)
            ∙ (yes_ends (is_fresh old) (class_in old) port (fresh_at old j) ((graph_web g).near b) yes
            ∙ sym (at_span g old new members ends i j b port h l lb))))),
      )),
    )

-- so it is a round
pub is_round : (g : Graph) (old new : Classes) (members ends : List ℕ) (i : ℕ) → IsGraph g → AreClasses old (nodes_of g) → AreListed old.marks → AreMembers old members ends i → i ≡ length old.marks.fresh.items
    → ArePartedBySpans g old new members ends i (nodes_of g) → AreAhead g old → IsNextRound g old new
is_round g old new members ends i graph classes listed are all parted ahead =
    few (graph_web g) ahead.older (class_in old) (class_in new) (is_fresh old) graph.web ahead.parted
    (by_changed g old new members ends i (record { graph = graph; classes = classes; listed = listed; are = are; all = all; parted = parted }))

-- behind which the unmarked classes have parted their neighbours
pub next_ahead : (g : Graph) (old new : Classes) → IsNextRound g old new
    → ((a b : ℕ) → a < nodes_of g → b < nodes_of g → class_in old a ≡ class_in old b → is_fresh new a ≡ false → is_fresh new b ≡ false → class_in new a ≡ class_in new b) → AreAhead g new
next_ahead g old new round kept = record {
  older = class_in old;
  parted = record {
    finer = λ a b na nb e. ((round a b na nb).0 e).0;
    kept = λ a b na nb fa fb e. kept a b (node_below g a na) (node_below g b nb) e fa fb;
    whole = λ a b na nb e. ap (is_marked new.marks) e;
    steady = λ a b x na nb nx e f port. ((round a b na nb).0 e).1 port (class_in old x);
  };
}
