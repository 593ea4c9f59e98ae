-- Chains of links for pieces of several conductors, some of which are joined.
use Rattle.std.proofs.Common.{◌≡◌, ◌⊎◌, inl, inr, ℕ, ◌<◌, ◌+◌, ◌==◌, Bool, true, List, [], ◌∷◌, ◌++◌, length, take, get_or, refl, sym, ap, ◌∙◌, subst, arith}
use Rattle.std.proofs.Math.Decide.{ℕ_discrete}
use Rattle.std.proofs.Math.Seq.{take-length}
use Rattle.std.proofs.lemmas.Bool.{eq-eqb, eqb-true}
use Rattle.std.proofs.lemmas.List.{take_more}
use Rattle.flat_layout.specs.Layout.{Some_of}
use Rattle.link_classes.specs.Classes.{IsLinked}
use Rattle.link_classes.specs.declared.classes.Link.{Link}
use Rattle.plain_netlist.proofs.Links.{stays, single, along}
use Rattle.touching_pieces.proofs.Chains.{chains_both, chains_none, chains_same, one_back}
use Rattle.touching_pieces.proofs.Links.{among_of, among_to}
use Rattle.touching_pieces.proofs.Sides.{touching_turned}
use Rattle.touching_pieces.specs.Pairs.{IsAmong, AddsChains, AreInTouch, AreOne, of_conductor, AreOf, AreInTouchVia, AreInTouchOf, AreJoined, AreTied, AreLinksOf}
use Rattle.touching_pieces.specs.Touching.{AreTouching}
use Rattle.touching_pieces.specs.declared.conductors.Joined.{Joined}
use Rattle.touching_pieces.specs.declared.pieces.Piece.{Piece}

-- pieces of conductors

of_to : (ps : List Piece) (p : Piece) (c : ℕ) → IsAmong p ps → p.conductor ≡ c → IsAmong p (of_conductor c ps)
of_to ps p c h e = among_to (λ (q : Piece). q.conductor == c) ps p h (eq-eqb p.conductor c e)

of_from : (ps : List Piece) (p : Piece) (c : ℕ) → IsAmong p (of_conductor c ps) → IsAmong p ps × (p.conductor ≡ c)
of_from ps p c h = let k = among_of (λ (q : Piece). q.conductor == c) ps p h in (k.0, eqb-true p.conductor c k.1)

abbrev Via : Joined → List Piece → ℕ → ℕ → ℕ → Type 0
Via l ps c i j = (l.first ≡ c) × AreInTouch (of_conductor c ps) (of_conductor l.second ps) i j

via_left : (ls : List Joined) (l : Joined) (ps : List Piece) (c i j : ℕ) → AreInTouchVia ls ps c i j → AreInTouchVia (ls ++ l ∷ []) ps c i j
via_left [] l ps c i j h = absurd h
via_left (x ∷ ls) l ps c i j (inl h) = inl h
via_left (x ∷ ls) l ps c i j (inr h) = inr (via_left ls l ps c i j h)

via_last : (ls : List Joined) (l : Joined) (ps : List Piece) (c i j : ℕ) → Via l ps c i j → AreInTouchVia (ls ++ l ∷ []) ps c i j
via_last [] l ps c i j h = inl h
via_last (x ∷ ls) l ps c i j h = inr (via_last ls l ps c i j h)

via_either : (ls : List Joined) (l : Joined) (ps : List Piece) (c i j : ℕ) → AreInTouchVia (ls ++ l ∷ []) ps c i j → AreInTouchVia ls ps c i j ⊎ Via l ps c i j
via_either [] l ps c i j (inl h) = inr h
via_either [] l ps c i j (inr h) = absurd h
via_either (x ∷ ls) l ps c i j (inl h) = inl (inl h)
via_either (x ∷ ls) l ps c i j (inr h) = elim (via_either ls l ps c i j h) [ inl a ↦ inl (inr a) | inr b ↦ inr b ]

pub no_line : (ps : List Piece) (c : ℕ) (old new : List Link) → AddsChains (AreInTouch (of_conductor c ps) (of_conductor c ps)) old new → AddsChains (AreInTouchOf [] ps c) old new
no_line ps c old new h = chains_same (AreInTouch (of_conductor c ps) (of_conductor c ps)) (AreInTouchOf [] ps c) old new h (λ i j. ((λ k. inl k), (λ k. elim k [ inl m ↦ m | inr m ↦ absurd m ])))

pub line_more : (ls : List Joined) (l : Joined) (ps : List Piece) (c : ℕ) (old mid new : List Link) → AddsChains (AreInTouchOf ls ps c) old mid → l.first ≡ c
    → AddsChains (AreInTouch (of_conductor c ps) (of_conductor l.second ps)) mid new → AddsChains (AreInTouchOf (ls ++ l ∷ []) ps c) old new
line_more ls l ps c old mid new h e g =
    chains_both (AreInTouchOf ls ps c) (AreInTouch (of_conductor c ps) (of_conductor l.second ps)) (AreInTouchOf (ls ++ l ∷ []) ps c) old mid new h g
    (λ i j k. elim k [ inl m ↦ inl m | inr m ↦ inr (via_left ls l ps c i j m) ])
    (λ i j k. inr (via_last ls l ps c i j (e, k)))
    (λ i j k. elim k [
      | inl m ↦ inl (inl m)
      | inr m ↦ elim (via_either ls l ps c i j m) [ inl a ↦ inl (inr a) | inr b ↦ inr b.1 ]
    ])

pub line_other : (ls : List Joined) (l : Joined) (ps : List Piece) (c : ℕ) (old new : List Link) → AddsChains (AreInTouchOf ls ps c) old new → (l.first ≡ c → ⊥) → AddsChains (AreInTouchOf (ls ++ l ∷ []) ps c) old new
line_other ls l ps c old new h not =
    chains_same (AreInTouchOf ls ps c) (AreInTouchOf (ls ++ l ∷ []) ps c) old new h (λ i j. (
      (λ k. elim k [ inl m ↦ inl m | inr m ↦ inr (via_left ls l ps c i j m) ]),
      (λ k. elim k [
        | inl m ↦ inl m
        | inr m ↦ elim (via_either ls l ps c i j m) [ inl a ↦ inr a | inr b ↦ absurd (not b.0) ]
      ]),
    ))

pub line_at : (ls : List Joined) (k : ℕ) (d : Joined) (ps : List Piece) (c : ℕ) (old mid new : List Link) → k < length ls → AddsChains (AreInTouchOf (take k ls) ps c) old mid
    → ((get_or ls k d).first ≡ c → AddsChains (AreInTouch (of_conductor c ps) (of_conductor (get_or ls k d).second ps)) mid new) → (((get_or ls k d).first ≡ c → ⊥) → new ≡ mid)
    → AddsChains (AreInTouchOf (take (k + 1) ls) ps c) old new
line_at ls k d ps c old mid new lt h line other =
    let l = get_or ls k d in
    let now : AddsChains (AreInTouchOf (take k ls ++ l ∷ []) ps c) old new = elim (ℕ_discrete l.first c) [
      | yes e ↦ line_more (take k ls) l ps c old mid new h e (line e)
      | no n ↦ subst (λ (xs : List Link). AddsChains (AreInTouchOf (take k ls ++ l ∷ []) ps c) old xs) (sym (other n)) (line_other (take k ls) l ps c old mid h n)
    ] in
    subst (λ (xs : List Joined). AddsChains (AreInTouchOf xs ps c) old new) (sym (take_more ls k d lt)) now

pub lines_all : (ls : List Joined) (k : ℕ) (ps : List Piece) (c : ℕ) (old new : List Link) → k ≡ length ls → AddsChains (AreInTouchOf (take k ls) ps c) old new → AddsChains (AreInTouchOf ls ps c) old new
lines_all ls k ps c old new e h = subst (λ (xs : List Joined). AddsChains (AreInTouchOf xs ps c) old new) (ap (λ n. take n ls) e ∙ take-length ls) h

abbrev pub no_line_at : Joined
no_line_at = record { first = 0; second = 0 }

-- the first conductors

abbrev UpTo : List Joined → List Piece → ℕ → ℕ → ℕ → Type 0
UpTo joins ps n i j = (c : ℕ) × (c < n) × AreInTouchOf joins ps c i j

pub none_yet : (joins : List Joined) (ps : List Piece) → AddsChains (λ i j. UpTo joins ps 0 i j) [] []
none_yet joins ps = chains_none (λ i j. UpTo joins ps 0 i j) [] (λ i j h. let lt = h.1 in omega arith)

pub conductor_more : (joins : List Joined) (ps : List Piece) (n : ℕ) (mid new : List Link) → AddsChains (λ i j. UpTo joins ps n i j) [] mid → AddsChains (AreInTouchOf joins ps n) mid new → AddsChains (λ i j. UpTo joins ps (n + 1) i j) [] new
conductor_more joins ps n mid new h g =
    chains_both (λ i j. UpTo joins ps n i j) (AreInTouchOf joins ps n) (λ i j. UpTo joins ps (n + 1) i j) [] mid new h g
    (λ i j k. let lt = k.1 in (k.0, omega arith, k.2))
    (λ i j k. (n, omega arith, k))
    (λ i j k. elim (ℕ_discrete k.0 n) [
      | yes e ↦ inr (subst (λ c. AreInTouchOf joins ps c i j) e k.2)
      | no m ↦ let lt = k.1 in inl (k.0, omega arith, k.2)
    ])

via_tied : (joins : List Joined) (ps : List Piece) (c i j : ℕ) → AreInTouchVia joins ps c i j
    → (l : Joined) × Some_of (λ m. m ≡ l) joins × (l.first ≡ c) × AreInTouch (of_conductor c ps) (of_conductor l.second ps) i j
via_tied [] ps c i j h = absurd h
via_tied (l ∷ ls) ps c i j (inl h) = (l, inl refl, h.0, h.1)
via_tied (l ∷ ls) ps c i j (inr h) = let k = via_tied ls ps c i j h in (k.0, inr k.1, k.2, k.3)

joined_by : (joins : List Joined) (l : Joined) → Some_of (λ m. m ≡ l) joins → AreJoined joins l.first l.second
joined_by [] l h = absurd h
joined_by (m ∷ ls) l (inl e) = inr (inl (inl (ap (λ (k : Joined). k.first) e, ap (λ (k : Joined). k.second) e)))
joined_by (m ∷ ls) l (inr h) = elim (joined_by ls l h) [ inl e ↦ inl e | inr k ↦ inr (inr k) ]

tied_of : (joins : List Joined) (ps : List Piece) (c i j : ℕ) → AreInTouchOf joins ps c i j → AreTied joins ps i j
tied_of joins ps c i j (inl h) =
    let a = of_from ps h.one c h.in_ones in
    let b = of_from ps h.other c h.in_others in
    record { one = h.one; other = h.other; in_ones = a.0; in_others = b.0; joined = inl (a.1 ∙ sym b.1); touching = h.touching; from = h.from; to = h.to }
tied_of joins ps c i j (inr h) =
    let v = via_tied joins ps c i j h in
    let l = v.0 in
    let t = v.3 in
    let a = of_from ps t.one c t.in_ones in
    let b = of_from ps t.other l.second t.in_others in
    let first : l.first ≡ t.one.conductor = v.2 ∙ sym a.1 in
    let m : AreJoined joins t.one.conductor t.other.conductor = subst (λ x. AreJoined joins x t.other.conductor) first (subst (λ x. AreJoined joins l.first x) (sym b.1) (joined_by joins l v.1)) in
    record { one = t.one; other = t.other; in_ones = a.0; in_others = b.0; joined = m; touching = t.touching; from = t.from; to = t.to }

turned : (c e : ℕ) (ls : List Joined) → Some_of (λ l. ((l.first ≡ c) × (l.second ≡ e)) ⊎ ((l.first ≡ e) × (l.second ≡ c))) ls → Some_of (λ l. ((l.first ≡ e) × (l.second ≡ c)) ⊎ ((l.first ≡ c) × (l.second ≡ e))) ls
turned c e [] k = absurd k
turned c e (l ∷ ls) (inl (inl k)) = inl (inr k)
turned c e (l ∷ ls) (inl (inr k)) = inl (inl k)
turned c e (l ∷ ls) (inr k) = inr (turned c e ls k)

joined_back : (joins : List Joined) (c e : ℕ) → AreJoined joins c e → AreJoined joins e c
joined_back joins c e (inl h) = inl (sym h)
joined_back joins c e (inr h) = inr (turned c e joins h)

pub tied_back : (joins : List Joined) (ps : List Piece) (i j : ℕ) → AreTied joins ps i j → AreTied joins ps j i
tied_back joins ps i j h =
    record { one = h.other; other = h.one; in_ones = h.in_others; in_others = h.in_ones; joined = joined_back joins h.one.conductor h.other.conductor h.joined; touching = touching_turned h.one.rect h.other.rect h.touching; from = h.to; to = h.from }

-- a conductor without pieces adds no link
pub none_of : (joins : List Joined) (ps : List Piece) (c : ℕ) (links : List Link) → of_conductor c ps ≡ [] → AddsChains (AreInTouchOf joins ps c) links links
none_of joins ps c links none = chains_none (AreInTouchOf joins ps c) links (λ i j h. elim h [
  | inl t ↦ subst (λ (l : List Piece). IsAmong t.one l) none t.in_ones
  | inr v ↦ let t = (via_tied joins ps c i j v).3 in subst (λ (l : List Piece). IsAmong t.one l) none t.in_ones
])

-- a list that is said to be empty is
pub none_held : (ps : List Piece) (long : ℕ) (empty : Bool) → long ≡ length ps → empty ≡ (long == 0) → empty ≡ true → ps ≡ []
none_held [] long empty is told e = refl
none_held (p ∷ ps) long empty is told e = let f : long ≡ 0 = eqb-true long 0 (sym told ∙ e) in absurd (let z : ⊥ = omega (arith, is, f) in z)

one_item : (ps : List Piece) (p q : Piece) → length ps < 2 → IsAmong p ps → IsAmong q ps → p.item ≡ q.item
one_item [] p q few a b = absurd a
one_item (x ∷ []) p q few (inl a) (inl b) = ap (λ (y : Piece). y.item) (a ∙ sym b)
one_item (x ∷ []) p q few (inl a) (inr b) = absurd b
one_item (x ∷ []) p q few (inr a) b = absurd a
one_item (x ∷ y ∷ ps) p q few a b = absurd (let z : ⊥ = omega arith in z)

-- one piece by itself is tied to no other item
pub none_tied : (joins : List Joined) (ps : List Piece) (links : List Link) → length ps < 2 → links ≡ [] → AreLinksOf joins ps links
none_tied joins ps links few none = subst (AreLinksOf joins ps) (sym none) (record {
  each = λ i j k. absurd k;
  found = found;
  chains = λ i j. (
    along (IsLinked []) (AreTied joins ps) (λ x. x) (λ a b k. absurd k) i j,
    along (AreTied joins ps) (IsLinked []) (λ x. x) found i j,
  );
})
  where
    found : (i j : ℕ) → AreTied joins ps i j → AreOne [] i j
    found i j t = stays (IsLinked []) i j (sym t.from ∙ one_item ps t.one t.other few t.in_ones t.in_others ∙ t.to)

-- a tie is found from the one conductor or from the other
found_via : (joins : List Joined) (ps : List Piece) (p q : Piece) → IsAmong p ps → IsAmong q ps → AreTouching p.rect q.rect
    → Some_of (λ l. ((l.first ≡ p.conductor) × (l.second ≡ q.conductor)) ⊎ ((l.first ≡ q.conductor) × (l.second ≡ p.conductor))) joins
    → AreInTouchVia joins ps p.conductor p.item q.item ⊎ AreInTouchVia joins ps q.conductor q.item p.item
found_via [] ps p q a b t h = absurd h
found_via (l ∷ ls) ps p q a b t (inl (inl e)) =
    inl (inl (e.0, record { one = p; other = q; in_ones = of_to ps p p.conductor a refl; in_others = of_to ps q l.second b (sym e.1); touching = t; from = refl; to = refl }))
found_via (l ∷ ls) ps p q a b t (inl (inr e)) =
    inr (inl (e.0, record { one = q; other = p; in_ones = of_to ps q q.conductor b refl; in_others = of_to ps p l.second a (sym e.1); touching = touching_turned p.rect q.rect t; from = refl; to = refl }))
found_via (l ∷ ls) ps p q a b t (inr h) = elim (found_via ls ps p q a b t h) [ inl k ↦ inl (inr k) | inr k ↦ inr (inr k) ]

module _ (joins : List Joined) (ps : List Piece) (n : ℕ) (links : List Link) (few : AreOf n ps) (h : AddsChains (λ i j. UpTo joins ps n i j) [] links) where
  each : (i j : ℕ) → IsLinked links i j → AreTied joins ps i j
  each i j k = elim (h.each i j k) [
    | inl m ↦ absurd m
    | inr m ↦ elim m [ inl a ↦ tied_of joins ps a.0 i j a.2 | inr b ↦ tied_back joins ps j i (tied_of joins ps b.0 j i b.2) ]
  ]

  found_at : (p q : Piece) → IsAmong p ps → IsAmong q ps → AreTouching p.rect q.rect → AreJoined joins p.conductor q.conductor → AreOne links p.item q.item
  found_at p q a b t (inl e) =
      h.found p.item q.item (p.conductor, few p a, inl (record { one = p; other = q; in_ones = of_to ps p p.conductor a refl; in_others = of_to ps q p.conductor b (sym e); touching = t; from = refl; to = refl }))
  found_at p q a b t (inr e) = elim (found_via joins ps p q a b t e) [
    | inl k ↦ h.found p.item q.item (p.conductor, few p a, inr k)
    | inr k ↦ one_back links q.item p.item (h.found q.item p.item (q.conductor, few q b, inr k))
  ]

  found : (i j : ℕ) → AreTied joins ps i j → AreOne links i j
  found i j t =
      let k = found_at t.one t.other t.in_ones t.in_others t.touching t.joined in
      subst (λ x. AreOne links x j) t.from (subst (λ y. AreOne links t.one.item y) t.to k)

  pub all_conductors : AreLinksOf joins ps links
  all_conductors = record {
    each = each;
    found = found;
    chains = λ i j. (
      along (IsLinked links) (AreTied joins ps) (λ x. x) (λ a b k. single (AreTied joins ps) a b (each a b k)) i j,
      along (AreTied joins ps) (IsLinked links) (λ x. x) found i j,
    );
  }
