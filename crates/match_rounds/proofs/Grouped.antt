-- One group of entries more is parted off.
use Rattle.std.proofs.Common.{◌≡◌, inl, inr, ◌<◌, ◌≤◌, ◌+◌, ◌-◌, ℕ, true, List, length, slice_index, refl, sym, subst, ◌∙◌, ap, arith}
use Rattle.base_laws.proofs.Tests.{same_truth}
use Rattle.std.proofs.lemmas.Bool.{cases_lt}
use Rattle.match_rounds.specs.declared.classes.Classes.{Classes}
use Rattle.match_rounds.specs.declared.groups.Part.{Part}
use Rattle.match_rounds.specs.Order.{is_among}
use Rattle.match_rounds.specs.Classes.{AreClasses, AreAlike, IsPartedOff, KeepsFresh, IsGrown, class_count}
use Rattle.match_rounds.specs.Pieces.{entry, IsSameKey, IsNoLaterPart, ArePieces, IsGroup, AreNodesOf, HasCount, HaveOneCount, ArePartedSoFar}
use Rattle.match_rounds.proofs.Apart.{found, has, parted}

turned : (p q : Part) → IsSameKey p q → IsSameKey q p
turned p q h = (sym h.0, sym h.1)

through : (p q r : Part) → IsSameKey p q → IsSameKey q r → IsSameKey p r
through p q r h g = (h.0 ∙ g.0, h.1 ∙ g.1)

between : (p q r : Part) → IsNoLaterPart p q → IsNoLaterPart q r → IsSameKey p r → IsSameKey p q
between p q r (inl a) (inl b) s = let c = s.0 in absurd (omega arith)
between p q r (inl a) (inr b) s = let c = s.0 in let d = b.0 in absurd (omega arith)
between p q r (inr a) (inl b) s = let c = s.0 in let d = a.0 in absurd (omega arith)
between p q r (inr a) (inr b) s = let c = s.1 in let d = a.1 in let e = b.1 in (a.0, omega arith)

-- a node of the group
InGroup : List Part → ℕ → ℕ → ℕ → Type 0
InGroup parts i j a = (e : ℕ) × (i ≤ e) × (e < j) × ((entry parts e).node ≡ a)

among_in : (parts : List Part) (i j a : ℕ) (nodes : List ℕ) → AreNodesOf parts i j nodes → is_among nodes (length nodes) a ≡ true → InGroup parts i j a
unfolding InGroup
among_in parts i j a nodes h t =
    let f = found nodes (length nodes) a (omega arith) t in
    let l = f.1 in
    let long = h.long in
    (i + f.0, omega arith, omega arith, sym (h.each f.0 f.1) ∙ f.2)

in_among : (parts : List Part) (i j a : ℕ) (nodes : List ℕ) → AreNodesOf parts i j nodes → InGroup parts i j a → is_among nodes (length nodes) a ≡ true
unfolding InGroup
in_among parts i j a nodes h g =
    let long = h.long in
    let lo = g.1 in
    let hi = g.2 in
    let k : i + (g.0 - i) ≡ g.0 = omega arith in
    has nodes (length nodes) a (g.0 - i) (omega arith) (omega arith) (h.each (g.0 - i) (omega arith) ∙ (ap (λ (e : ℕ). (entry parts e).node) k ∙ g.3))

-- the nodes of the group are distinct nodes of one class
pub group_alike : (before cur : List ℕ) (parts : List Part) (i j n : ℕ) (nodes : List ℕ) → ArePieces before parts n → IsGroup parts i j → AreNodesOf parts i j nodes → ArePartedSoFar before cur parts i n
    → AreAlike cur nodes n
group_alike before cur parts i j n nodes p g h s =
    let long = h.long in
    let some = g.some in
    let fits = g.fits in
    let here : (k : ℕ) → k < length nodes → slice_index nodes k < n = λ k l. subst (λ (x : ℕ). x < n) (sym (h.each k l)) (p.below (i + k) (omega arith)) in
    let class_is : (k : ℕ) → k < length nodes → slice_index before (slice_index nodes k) ≡ (entry parts i).class
    = λ k l. ap (slice_index before) (h.each k l) ∙ (sym (p.class (i + k) (omega arith)) ∙ sym (g.same (i + k) (omega arith) (omega arith)).0) in
    let fresh : (k : ℕ) → k < length nodes → (v : ℕ) → HasCount parts i (slice_index nodes k) v → ⊥
    = λ k l v t. let m = t.1 in p.once (i + k) t.0 (omega arith) (omega arith) (t.2 ∙ h.each k l) in
    record {
      some = omega arith;
      below = here;
      distinct = λ k m l t e. p.once (i + k) (i + m) (omega arith) (omega arith) (sym (h.each m (omega arith)) ∙ (e ∙ h.each k l));
      alike = λ k l. (s.parted (slice_index nodes k) (slice_index nodes 0) (here k l) (here 0 (omega arith))).1
          (class_is k l ∙ sym (class_is 0 (omega arith)), (λ v. ((λ t. absurd (fresh k l v t)), (λ t. absurd (fresh 0 (omega arith) v t)))));
    }

-- one direction of what the group adds
grows : (before : List ℕ) (parts : List Part) (i j n a b : ℕ) → ArePieces before parts n → IsGroup parts i j → HaveOneCount parts i a b → (InGroup parts i j a → InGroup parts i j b) → (v : ℕ) → HasCount parts j a v → HasCount parts j b v
unfolding InGroup
grows before parts i j n a b p g same both v t =
    let some = g.some in
    elim (cases_lt t.0 i) [
      | inl l ↦ let u = (same v).0 (t.0, l, t.2, t.3) in let m = u.1 in (u.0, omega arith, u.2, u.3)
      | inr l ↦
          let u = both (t.0, l, t.1, t.2) in
          (u.0, u.2, u.3, sym (g.same u.0 u.1 u.2).1 ∙ ((g.same t.0 l t.1).1 ∙ t.3))
    ]

-- entries of like nodes are of one class
one_class : (before : List ℕ) (parts : List Part) (n e f a b : ℕ) → ArePieces before parts n → e < length parts → f < length parts → (entry parts e).node ≡ a → (entry parts f).node ≡ b
    → slice_index before a ≡ slice_index before b → (entry parts e).class ≡ (entry parts f).class
one_class before parts n e f a b p le lf ea fb same = p.class e le ∙ (ap (slice_index before) ea ∙ (same ∙ (ap (slice_index before) (sym fb) ∙ sym (p.class f lf))))

-- and what it takes
shrinks : (before cur : List ℕ) (parts : List Part) (i j n a b : ℕ) → ArePieces before parts n → IsGroup parts i j → ArePartedSoFar before cur parts i n → slice_index before a ≡ slice_index before b
    → ((v : ℕ) → HasCount parts j a v → HasCount parts j b v) → (v : ℕ) → HasCount parts i a v → HasCount parts i b v
shrinks before cur parts i j n a b p g s e more v t =
    let some = g.some in
    let fits = g.fits in
    let m = t.1 in
    let u = more v (t.0, omega arith, t.2, t.3) in
    let w = u.1 in
    elim (cases_lt u.0 i) [
      | inl l ↦ (u.0, l, u.2, u.3)
      | inr l ↦ absurd (s.apart t.0 u.0 t.1 l (omega arith) (one_class before parts n t.0 u.0 a b p (omega arith) (omega arith) t.2 u.2 e, t.3 ∙ sym u.3))
    ]

joins : (before cur : List ℕ) (parts : List Part) (i j n a b : ℕ) → ArePieces before parts n → IsGroup parts i j → ArePartedSoFar before cur parts i n → slice_index before a ≡ slice_index before b
    → ((v : ℕ) → HasCount parts j a v → HasCount parts j b v) → InGroup parts i j a → InGroup parts i j b
unfolding InGroup
joins before cur parts i j n a b p g s e more t =
    let fits = g.fits in
    let m = t.2 in
    let u = more (entry parts t.0).count (t.0, t.2, t.3, refl) in
    let w = u.1 in
    elim (cases_lt u.0 i) [
      | inl l ↦ absurd (s.apart u.0 t.0 l t.1 (omega arith) (sym (one_class before parts n t.0 u.0 a b p (omega arith) (omega arith) t.3 u.2 e), u.3))
      | inr l ↦ (u.0, l, u.1, u.2)
    ]

pub step : (old : List ℕ) (cur new : Classes) (parts : List Part) (i j n : ℕ) (nodes : List ℕ) → ArePieces old parts n → IsGroup parts i j → AreNodesOf parts i j nodes
    → ArePartedSoFar old cur.class_of.items parts i n → AreClasses cur n → IsPartedOff cur new nodes n → ArePartedSoFar old new.class_of.items parts j n
step old cur new parts i j n nodes p g h s are off =
    let alike = group_alike old cur.class_of.items parts i j n nodes p g h s in
    record {
      fits = g.fits;
      parted = λ a b la lb.
          let law = parted cur new nodes n are alike off a b la lb in
          let was = s.parted a b la lb in (
            (λ e.
                let c = law.0 e in
                let o = was.0 c.0 in (
                  o.0,
                  (λ v. (
                    grows old parts i j n a b p g o.1 (λ t. among_in parts i j b nodes h (sym c.1 ∙ in_among parts i j a nodes h t)) v,
                    grows old parts i j n b a p g (λ u. ((o.1 u).1, (o.1 u).0)) (λ t. among_in parts i j a nodes h (c.1 ∙ in_among parts i j b nodes h t)) v,
                  )),
                )),
            (λ e.
                let o = e.1 in
                law.1 (
                  was.1 (e.0, (λ v. (shrinks old cur.class_of.items parts i j n a b p g s e.0 (λ u. (o u).0) v, shrinks old cur.class_of.items parts i j n b a p g s (sym e.0) (λ u. (o u).1) v))),
                  same_truth _ _
                      (λ t. in_among parts i j b nodes h (joins old cur.class_of.items parts i j n a b p g s e.0 (λ u. (o u).0) (among_in parts i j a nodes h t)))
                      (λ t. in_among parts i j a nodes h (joins old cur.class_of.items parts i j n b a p g s (sym e.0) (λ u. (o u).1) (among_in parts i j b nodes h t))),
                )),
          );
      apart = λ f e l m k same. elim (cases_lt f i) [
        | inl r ↦ let some = g.some in s.apart f e r (omega arith) k same
        | inr r ↦
            let some = g.some in
            let fits = g.fits in
            let first = through (entry parts i) (entry parts f) (entry parts e) (g.same f r l) same in
            g.next (omega arith) (between (entry parts i) (entry parts j) (entry parts e) (p.sorted i j (omega arith) (omega arith)) (p.sorted j e k m) first)
      ];
    }

pub none : (old : List ℕ) (parts : List Part) (n : ℕ) → ArePartedSoFar old old parts 0 n
none old parts n = record {
  fits = omega arith;
  parted = λ a b la lb. ((λ e. (e, (λ v. ((λ t. let l = t.1 in absurd (omega arith)), (λ t. let l = t.1 in absurd (omega arith)))))), (λ e. e.0));
  apart = λ f e l m k same. absurd (omega arith);
}

-- of the parts of a class at most one isn't marked, nor of the parts of its parts
pub fresh_on : (old mid new : Classes) (n : ℕ) → KeepsFresh old mid n → KeepsFresh mid new n → KeepsFresh old new n
fresh_on old mid new n h g = record {
  kept = λ a b la lb e fa fb. g.kept a b la lb (h.kept a b la lb e (g.older a la fa) (g.older b lb fb)) fa fb;
  older = λ a la fa. h.older a la (g.older a la fa);
}

pub fresh_same : (c : Classes) (n : ℕ) → KeepsFresh c c n
fresh_same c n = record { kept = λ a b la lb e fa fb. e; older = λ a la fa. fa }

-- no class went on the way
pub grown_on : (old mid new : Classes) → IsGrown old mid → IsGrown mid new → IsGrown old new
grown_on old mid new h g =
    let first = h.count in
    let second = g.count in
    let long = h.long in
    record {
      count = omega arith;
      long = g.long ∙ h.long;
      kept = λ a l. elim (g.kept a (omega arith)) [
        | inl e ↦ elim (h.kept a l) [ inl f ↦ inl (e ∙ f) | inr f ↦ inr (subst (λ (d : ℕ). class_count old ≤ d) (sym e) f) ]
        | inr f ↦ inr (omega arith)
      ];
      same = λ e. g.same (omega arith) ∙ h.same (omega arith);
    }

pub grown_same : (c : Classes) → IsGrown c c
grown_same c = record { count = omega arith; long = refl; kept = λ a l. inl refl; same = λ e. refl }
