-- How many items stand before those of a placement.
use Rattle.std.proofs.Common.{◌≡◌, ℕ, zero, suc, ◌+◌, ◌<◌, ◌≤◌, Bool, true, false, List, [], ◌∷◌, ◌++◌, map, get_or, length, refl, sym, subst, arith}
use Rattle.base_laws.proofs.Tests.{not_both}
use Rattle.std.proofs.Math.Decide.{dec_lt}
use Rattle.std.proofs.lemmas.Bool.{le-ltb, lt-ltb}
use Rattle.std.specs.List.Sorted.{IsPartitionPoint, IsPartitionedBy}
use Rattle.flat_layout.specs.Layers.{Formula}
use Rattle.flat_layout.specs.Layout.{Design, Place}
use Rattle.flat_layout.specs.Nets.{Child, Global, Item, Own, Tables, child_items, items_of, own_items, run}
use Rattle.flat_layout.specs.Regions.{Wiring}
use Rattle.net_link_laws.proofs.Standing.{owned_long, run_long}
use Rattle.net_link_laws.specs.Places.{nets_before, places_of}
use Rattle.net_walk.specs.Pairs.{first_of}
use Rattle.net_phase.specs.Items.{is_before}

-- the first so many pass a test, and no other
abbrev pub IsCut : {X : Type 0} → (X → Bool) → List X → ℕ → Type 0
IsCut p [] i = i ≡ 0
IsCut p (x ∷ xs) zero = (p x ≡ false) × IsCut p xs 0
IsCut p (x ∷ xs) (suc i) = (p x ≡ true) × IsCut p xs i

abbrev AllPass : {X : Type 0} → (X → Bool) → List X → Type 0
AllPass p [] = Unit {0}
AllPass p (x ∷ xs) = (p x ≡ true) × AllPass p xs

abbrev NonePass : {X : Type 0} → (X → Bool) → List X → Type 0
NonePass p [] = Unit {0}
NonePass p (x ∷ xs) = (p x ≡ false) × NonePass p xs

all_both : {X : Type 0} (p : X → Bool) (xs ys : List X) → AllPass p xs → AllPass p ys → AllPass p (xs ++ ys)
all_both p [] ys h g = g
all_both p (x ∷ xs) ys h g = (h.0, all_both p xs ys h.1 g)

none_both : {X : Type 0} (p : X → Bool) (xs ys : List X) → NonePass p xs → NonePass p ys → NonePass p (xs ++ ys)
none_both p [] ys h g = g
none_both p (x ∷ xs) ys h g = (h.0, none_both p xs ys h.1 g)

cut_none : {X : Type 0} (p : X → Bool) (xs : List X) → NonePass p xs → IsCut p xs 0
cut_none p [] h = refl
cut_none p (x ∷ xs) h = (h.0, cut_none p xs h.1)

cut_left : {X : Type 0} (p : X → Bool) (xs ys : List X) (i k : ℕ) → k ≡ length xs + i → AllPass p xs → IsCut p ys i → IsCut p (xs ++ ys) k
cut_left p [] ys i k e h g = let same : i ≡ k = omega (arith, e) in subst (λ n. IsCut p ys n) same g
cut_left p (x ∷ xs) ys i zero e h g = absurd (omega (arith, e))
cut_left p (x ∷ xs) ys i (suc k) e h g = (h.0, cut_left p xs ys i k (omega (arith, e)) h.1 g)

cut_right : {X : Type 0} (p : X → Bool) (xs ys : List X) (i : ℕ) → IsCut p xs i → NonePass p ys → IsCut p (xs ++ ys) i
cut_right p [] ys i h g = subst (λ n. IsCut p ys n) (sym h) (cut_none p ys g)
cut_right p (x ∷ xs) ys zero h g = (h.0, cut_right p xs ys 0 h.1 g)
cut_right p (x ∷ xs) ys (suc i) h g = (h.0, cut_right p xs ys i h.1 g)

run_all : (p : Item → Bool) (f : ℕ → Item) (k n : ℕ) → ((j : ℕ) → p (f j) ≡ true) → AllPass p (run f k n)
run_all p f k zero h = tt
run_all p f k (suc n) h = (h k, run_all p f (suc k) n h)

run_none : (p : Item → Bool) (f : ℕ → Item) (k n : ℕ) → ((j : ℕ) → p (f j) ≡ false) → NonePass p (run f k n)
run_none p f k zero h = tt
run_none p f k (suc n) h = (h k, run_none p f (suc k) n h)

own_all : (place : ℕ) (t : Tables) (cell c : ℕ) (names : List Formula) → AllPass (is_before place) (own_items t cell c names)
own_all place t cell c [] = tt
own_all place t cell c (x ∷ xs) =
    all_both (is_before place) (run (Own c) 0 (length (t.own cell c))) (own_items t cell (suc c) xs) (run_all (is_before place) (Own c) 0 (length (t.own cell c)) (λ j. refl)) (own_all place t cell (suc c) xs)

children_none : (place : ℕ) (t : Tables) (k : ℕ) (ps : List Place) → place ≤ k → NonePass (is_before place) (child_items t k ps)
children_none place t k [] h = tt
children_none place t k (p ∷ ps) h =
    none_both (is_before place) (run (Child k) 0 (t.nets p.cell).count) (child_items t (suc k) ps) (run_none (is_before place) (Child k) 0 (t.nets p.cell).count (λ b. le-ltb k place h))
    (children_none place t (suc k) ps (omega (arith, h)))

children_cut : (place : ℕ) (t : Tables) (k n : ℕ) (ps : List Place) → place ≡ k + n → IsCut (is_before place) (child_items t k ps) (nets_before t ps n)
children_cut place t k n [] e = refl
children_cut place t k zero (p ∷ ps) e = cut_none (is_before place) (child_items t k (p ∷ ps)) (children_none place t k (p ∷ ps) (omega (arith, e)))
children_cut place t k (suc n) (p ∷ ps) e =
    let count = (t.nets p.cell).count in
    let long = run_long (Child k) 0 count in
    cut_left (is_before place) (run (Child k) 0 count) (child_items t (suc k) ps) (nets_before t ps n) (count + nets_before t ps n) (omega (arith, long))
    (run_all (is_before place) (Child k) 0 count (λ b. lt-ltb k place (omega (arith, e)))) (children_cut place t (suc k) n ps (omega (arith, e)))

-- before a placement's nets stand as many items as are before its first
pub items_cut : (d : Design) (w : Wiring) (t : Tables) (cell place : ℕ) → IsCut (is_before place) (items_of d w t cell) (first_of d w t cell place)
items_cut d w t cell place =
    let places = places_of d cell in
    let long = owned_long w t cell in
    let grounds = run Global 0 (length w.globals) in
    let here : place ≡ 0 + place = omega arith in
    cut_left (is_before place) (own_items t cell 0 w.conductors) (child_items t 0 places ++ grounds) (nets_before t places place) (first_of d w t cell place) (omega (arith, long))
    (own_all place t cell 0 w.conductors)
    (cut_right (is_before place) (child_items t 0 places) grounds (nets_before t places place) (children_cut place t 0 place places here) (run_none (is_before place) Global 0 (length w.globals) (λ j. refl)))

pub cut_of_map : {X Y : Type 0} (f : X → Y) (p : Y → Bool) (xs : List X) (i : ℕ) → IsCut p (map f xs) i → IsCut (λ x. p (f x)) xs i
cut_of_map f p [] i h = h
cut_of_map f p (x ∷ xs) zero h = (h.0, cut_of_map f p xs 0 h.1)
cut_of_map f p (x ∷ xs) (suc i) h = (h.0, cut_of_map f p xs i h.1)

cut_bound : {X : Type 0} (p : X → Bool) (xs : List X) (i : ℕ) → IsCut p xs i → i ≤ length xs
cut_bound p [] i h = omega (arith, h)
cut_bound p (x ∷ xs) zero h = omega arith
cut_bound p (x ∷ xs) (suc i) h = let b = cut_bound p xs i h.1 in omega (arith, b)

cut_true : {X : Type 0} (p : X → Bool) (xs : List X) (i j : ℕ) (d : X) → IsCut p xs i → j < i → p (get_or xs j d) ≡ true
cut_true p [] i j d h lt = absurd (omega (arith, h, lt))
cut_true p (x ∷ xs) zero j d h lt = absurd (omega (arith, lt))
cut_true p (x ∷ xs) (suc i) zero d h lt = h.0
cut_true p (x ∷ xs) (suc i) (suc j) d h lt = cut_true p xs i j d h.1 (omega (arith, lt))

cut_false : {X : Type 0} (p : X → Bool) (xs : List X) (i j : ℕ) (d : X) → IsCut p xs i → i ≤ j → j < length xs → p (get_or xs j d) ≡ false
cut_false p [] i j d h le lt = absurd (omega (arith, lt))
cut_false p (x ∷ xs) zero zero d h le lt = h.0
cut_false p (x ∷ xs) zero (suc j) d h le lt = cut_false p xs 0 j d h.1 (omega arith) (omega (arith, lt))
cut_false p (x ∷ xs) (suc i) zero d h le lt = absurd (omega (arith, le))
cut_false p (x ∷ xs) (suc i) (suc j) d h le lt = cut_false p xs i j d h.1 (omega (arith, le)) (omega (arith, lt))

-- such a list is parted, and a search finds that place
pub cut_parts : {X : Type 0} (p : X → Bool) (xs : List X) (i : ℕ) → IsCut p xs i → IsPartitionedBy p xs
cut_parts p xs i h = λ a b d le lt is.
    elim (dec_lt b i) [
      | yes l ↦ cut_true p xs i a d h (omega (arith, le, l))
      | no n ↦ absurd (not_both (p (get_or xs b d)) is (cut_false p xs i b d h (omega (arith, n)) lt))
    ]

pub one_cut : {X : Type 0} (p : X → Bool) (xs : List X) (i r : ℕ) (d : X) → IsCut p xs i → r ≤ length xs → IsPartitionPoint (λ y. p y ≡ true) (λ y. p y ≡ false) xs r → r ≡ i
one_cut p xs i r d h le point =
    let bound = cut_bound p xs i h in
    elim (dec_lt r i) [
      | yes l ↦ absurd (not_both (p (get_or xs r d)) (cut_true p xs i r d h l) (point.1 r d (omega arith) (omega (arith, l, bound))))
      | no n ↦ elim (dec_lt i r) [
        | yes l ↦ absurd (not_both (p (get_or xs i d)) (point.0 i d (omega arith) l) (cut_false p xs i i d h (omega arith) (omega (arith, l, le))))
        | no m ↦ omega (arith, n, m)
      ]
    ]
