-- Where the items of a cell stand in their list.
use Rattle.std.proofs.Common.{◌≡◌, ◌≤◌, ℕ, zero, suc, ◌+◌, ◌<◌, List, [], ◌∷◌, ◌++◌, Some, slice_get, length, refl, sym, ◌∙◌, ap, subst, arith}
use Rattle.flat_layout.specs.Layers.{Formula}
use Rattle.flat_layout.specs.Layout.{Design, Place}
use Rattle.flat_layout.specs.Nets.{Item, Own, Child, Global, Tables, run, own_items, child_items, items_of}
use Rattle.flat_layout.specs.Regions.{Wiring}
use Rattle.net_link_laws.specs.Places.{owned_before, nets_before, places_of, OwnPlaceLaw, ChildPlaceLaw, GlobalPlaceLaw, OwnNextLaw, ChildNextLaw}

in_front : (xs ys : List Item) (i : ℕ) (a : Item) → slice_get xs i ≡ Some a → slice_get (xs ++ ys) i ≡ Some a
in_front [] ys i a h = cc
in_front (x ∷ xs) ys zero a h = h
in_front (x ∷ xs) ys (suc i) a h = in_front xs ys i a h

behind : (xs ys : List Item) (n i : ℕ) (a : Item) → length xs ≡ n → slice_get ys i ≡ Some a → slice_get (xs ++ ys) (n + i) ≡ Some a
behind [] ys n i a e h = let z : i ≡ n + i = omega (arith, e) in subst (λ k. slice_get ys k ≡ Some a) z h
behind (x ∷ xs) ys zero i a e h = absurd (omega (arith, e))
behind (x ∷ xs) ys (suc n) i a e h =
    let z : suc (n + i) ≡ suc n + i = omega arith in
    let f : length xs ≡ n = omega (arith, e) in
    subst (λ k. slice_get (x ∷ (xs ++ ys)) k ≡ Some a) z (behind xs ys n i a f h)

pub length_append : (xs ys : List Item) (m n : ℕ) → length xs ≡ m → length ys ≡ n → length (xs ++ ys) ≡ m + n
length_append [] ys m n e f = omega (arith, e, f)
length_append (x ∷ xs) ys zero n e f = absurd (omega (arith, e))
length_append (x ∷ xs) ys (suc m) n e f = let g = length_append xs ys m n (omega (arith, e)) f in omega (arith, g)

pub nets_none : (t : Tables) (places : List Place) → nets_before t places 0 ≡ 0
nets_none t [] = refl
nets_none t (p ∷ ps) = refl

pub run_long : (f : ℕ → Item) (k n : ℕ) → length (run f k n) ≡ n
run_long f k zero = refl
run_long f k (suc n) = let e = run_long f (suc k) n in omega (arith, e)

run_at : (f : ℕ → Item) (k n i : ℕ) → i < n → slice_get (run f k n) i ≡ Some (f (k + i))
run_at f k zero i lt = absurd (omega arith)
run_at f k (suc n) zero lt = let z : k ≡ k + 0 = omega arith in ap (λ j. Some (f j)) z
run_at f k (suc n) (suc i) lt = let z : suc k + i ≡ k + suc i = omega arith in run_at f (suc k) n i (omega arith) ∙ ap (λ j. Some (f j)) z

-- from a conductor on, the rectangles of the next ones
span : Tables → ℕ → ℕ → ℕ → ℕ
span t cell c zero = 0
span t cell c (suc n) = length (t.own cell c) + span t cell (suc c) n

span_more : (t : Tables) (cell c n : ℕ) → span t cell c (suc n) ≡ span t cell c n + length (t.own cell (c + n))
unfolding span
span_more t cell c zero = let z : c ≡ c + 0 = omega arith in let e = ap (λ i. length (t.own cell i)) z in omega (arith, e)
span_more t cell c (suc n) =
    let h : span t cell (suc c) (suc n) ≡ span t cell (suc c) n + length (t.own cell (suc c + n)) = span_more t cell (suc c) n in
    let z : suc c + n ≡ c + suc n = omega arith in
    let e = ap (λ i. length (t.own cell i)) z in
    let g : length (t.own cell c) + span t cell (suc c) (suc n) ≡ (length (t.own cell c) + span t cell (suc c) n) + length (t.own cell (c + suc n)) = omega (arith, h, e) in
    g

span_before : (t : Tables) (cell c : ℕ) → span t cell 0 c ≡ owned_before t cell c
unfolding span
span_before t cell zero = refl
span_before t cell (suc c) =
    let h = span_more t cell 0 c in
    let e = span_before t cell c in
    let z : 0 + c ≡ c = omega arith in
    let f = ap (λ i. length (t.own cell i)) z in
    let g : span t cell 0 (suc c) ≡ owned_before t cell c + length (t.own cell c) = omega (arith, h, e, f) in
    g

own_long : (t : Tables) (cell c : ℕ) (names : List Formula) → length (own_items t cell c names) ≡ span t cell c (length names)
unfolding span
own_long t cell c [] = refl
own_long t cell c (x ∷ xs) =
    let a = run_long (Own c) 0 (length (t.own cell c)) in
    let b = own_long t cell (suc c) xs in
    length_append (run (Own c) 0 (length (t.own cell c))) (own_items t cell (suc c) xs) (length (t.own cell c)) (span t cell (suc c) (length xs)) a b

own_at : (t : Tables) (cell c : ℕ) (names : List Formula) (e r : ℕ) → e < length names → r < length (t.own cell (c + e)) → slice_get (own_items t cell c names) (span t cell c e + r) ≡ Some (Own (c + e) r)
unfolding span
own_at t cell c [] e r lt less = absurd (omega arith)
own_at t cell c (x ∷ xs) zero r lt less =
    let z : c + 0 ≡ c = omega arith in
    let here : r < length (t.own cell c) = subst (λ i. r < length (t.own cell i)) z less in
    let s : 0 + r ≡ r = omega arith in
    let at : slice_get (run (Own c) 0 (length (t.own cell c))) (0 + r) ≡ Some (Own c r) = subst (λ i. slice_get (run (Own c) 0 (length (t.own cell c))) i ≡ Some (Own c r)) (sym s) (run_at (Own c) 0 (length (t.own cell c)) r here ∙ ap (λ i. Some (Own c i)) s) in
    subst (λ i. slice_get (own_items t cell c (x ∷ xs)) (0 + r) ≡ Some (Own i r)) (sym z) (in_front (run (Own c) 0 (length (t.own cell c))) (own_items t cell (suc c) xs) (0 + r) (Own c r) at)
own_at t cell c (x ∷ xs) (suc e) r lt less =
    let z : suc c + e ≡ c + suc e = omega arith in
    let there : r < length (t.own cell (suc c + e)) = subst (λ i. r < length (t.own cell i)) (sym z) less in
    let n = length (t.own cell c) in
    let rest = own_at t cell (suc c) xs e r (omega arith) there in
    let s : n + (span t cell (suc c) e + r) ≡ (n + span t cell (suc c) e) + r = omega arith in
    let at : slice_get (own_items t cell c (x ∷ xs)) (n + (span t cell (suc c) e + r)) ≡ Some (Own (suc c + e) r) = behind (run (Own c) 0 n) (own_items t cell (suc c) xs) n (span t cell (suc c) e + r) (Own (suc c + e) r) (run_long (Own c) 0 n) rest in
    subst (λ i. slice_get (own_items t cell c (x ∷ xs)) ((n + span t cell (suc c) e) + r) ≡ Some (Own i r)) z (subst (λ i. slice_get (own_items t cell c (x ∷ xs)) i ≡ Some (Own (suc c + e) r)) s at)

child_at : (t : Tables) (k : ℕ) (places : List Place) (j b : ℕ) (p : Place) → slice_get places j ≡ Some p → b < (t.nets p.cell).count → slice_get (child_items t k places) (nets_before t places j + b) ≡ Some (Child (k + j) b)
child_at t k [] j b p h lt = cc
child_at t k (q ∷ ps) zero b p h lt =
    let same : q ≡ p = let f : Some q ≡ Some p = h in cc in
    let here : b < (t.nets q.cell).count = subst (λ (r : Place). b < (t.nets r.cell).count) (sym same) lt in
    let n = (t.nets q.cell).count in
    let s : 0 + b ≡ b = omega arith in
    let z : k ≡ k + 0 = omega arith in
    let at : slice_get (run (Child k) 0 n) (0 + b) ≡ Some (Child k b) = subst (λ i. slice_get (run (Child k) 0 n) i ≡ Some (Child k b)) (sym s) (run_at (Child k) 0 n b here ∙ ap (λ i. Some (Child k i)) s) in
    subst (λ i. slice_get (child_items t k (q ∷ ps)) (0 + b) ≡ Some (Child i b)) z (in_front (run (Child k) 0 n) (child_items t (suc k) ps) (0 + b) (Child k b) at)
child_at t k (q ∷ ps) (suc j) b p h lt =
    let n = (t.nets q.cell).count in
    let z : suc k + j ≡ k + suc j = omega arith in
    let s : n + (nets_before t ps j + b) ≡ (n + nets_before t ps j) + b = omega arith in
    let rest = child_at t (suc k) ps j b p h lt in
    let at : slice_get (child_items t k (q ∷ ps)) (n + (nets_before t ps j + b)) ≡ Some (Child (suc k + j) b) = behind (run (Child k) 0 n) (child_items t (suc k) ps) n (nets_before t ps j + b) (Child (suc k + j) b) (run_long (Child k) 0 n) rest in
    subst (λ i. slice_get (child_items t k (q ∷ ps)) ((n + nets_before t ps j) + b) ≡ Some (Child i b)) z (subst (λ i. slice_get (child_items t k (q ∷ ps)) i ≡ Some (Child (suc k + j) b)) s at)

pub child_long : (t : Tables) (k : ℕ) (places : List Place) → length (child_items t k places) ≡ nets_before t places (length places)
child_long t k [] = refl
child_long t k (p ∷ ps) =
    length_append (run (Child k) 0 (t.nets p.cell).count) (child_items t (suc k) ps) (t.nets p.cell).count (nets_before t ps (length ps)) (run_long (Child k) 0 (t.nets p.cell).count) (child_long t (suc k) ps)

pub own_place : OwnPlaceLaw
own_place d w t cell c r lt less =
    let z : 0 + c ≡ c = omega arith in
    let there : r < length (t.own cell (0 + c)) = subst (λ i. r < length (t.own cell i)) (sym z) less in
    let at = own_at t cell 0 w.conductors c r lt there in
    in_front (own_items t cell 0 w.conductors) (child_items t 0 (places_of d cell) ++ run Global 0 (length w.globals)) (owned_before t cell c + r) (Own c r)
    (subst (λ i. slice_get (own_items t cell 0 w.conductors) (i + r) ≡ Some (Own c r)) (span_before t cell c) (subst (λ i. slice_get (own_items t cell 0 w.conductors) (span t cell 0 c + r) ≡ Some (Own i r)) z at))

pub owned_long : (w : Wiring) (t : Tables) (cell : ℕ) → length (own_items t cell 0 w.conductors) ≡ owned_before t cell (length w.conductors)
owned_long w t cell = own_long t cell 0 w.conductors ∙ span_before t cell (length w.conductors)

pub child_place : ChildPlaceLaw
child_place d w t cell k b p h lt =
    let places = places_of d cell in
    let z : 0 + k ≡ k = omega arith in
    let at : slice_get (child_items t 0 places) (nets_before t places k + b) ≡ Some (Child k b) = subst (λ i. slice_get (child_items t 0 places) (nets_before t places k + b) ≡ Some (Child i b)) z (child_at t 0 places k b p h lt) in
    behind (own_items t cell 0 w.conductors) (child_items t 0 places ++ run Global 0 (length w.globals)) (owned_before t cell (length w.conductors)) (nets_before t places k + b) (Child k b) (owned_long w t cell)
    (in_front (child_items t 0 places) (run Global 0 (length w.globals)) (nets_before t places k + b) (Child k b) at)

pub global_place : GlobalPlaceLaw
global_place d w t cell g lt =
    let places = places_of d cell in
    let z : 0 + g ≡ g = omega arith in
    let at : slice_get (run Global 0 (length w.globals)) g ≡ Some (Global g) = run_at Global 0 (length w.globals) g lt ∙ ap (λ i. Some (Global i)) z in
    behind (own_items t cell 0 w.conductors) (child_items t 0 places ++ run Global 0 (length w.globals)) (owned_before t cell (length w.conductors)) (nets_before t places (length places) + g) (Global g) (owned_long w t cell)
    (behind (child_items t 0 places) (run Global 0 (length w.globals)) (nets_before t places (length places)) g (Global g) (child_long t 0 places) at)

pub own_next : OwnNextLaw
own_next t cell c = let z : c + 1 ≡ suc c = omega arith in ap (owned_before t cell) z

nets_more : (t : Tables) (places : List Place) (k : ℕ) (p : Place) → slice_get places k ≡ Some p → nets_before t places (suc k) ≡ nets_before t places k + (t.nets p.cell).count
nets_more t [] k p h = cc
nets_more t (q ∷ ps) zero p h =
    let same : q ≡ p = let f : Some q ≡ Some p = h in cc in
    let e : (t.nets q.cell).count ≡ (t.nets p.cell).count = ap (λ (r : Place). (t.nets r.cell).count) same in
    let none = nets_none t ps in
    omega (arith, e, none)
nets_more t (q ∷ ps) (suc k) p h = let e = nets_more t ps k p h in omega (arith, e)

pub child_next : ChildNextLaw
child_next t places k p h = let z : k + 1 ≡ suc k = omega arith in ap (nets_before t places) z ∙ nets_more t places k p h

-- how long the list is, and that the placements' nets stand in it
pub items_long : (d : Design) (w : Wiring) (t : Tables) (cell : ℕ) → length (items_of d w t cell) ≡ owned_before t cell (length w.conductors) + (nets_before t (places_of d cell) (length (places_of d cell)) + length w.globals)
items_long d w t cell =
    let places = places_of d cell in
    length_append (own_items t cell 0 w.conductors) (child_items t 0 places ++ run Global 0 (length w.globals)) (owned_before t cell (length w.conductors)) (nets_before t places (length places) + length w.globals) (owned_long w t cell)
    (length_append (child_items t 0 places) (run Global 0 (length w.globals)) (nets_before t places (length places)) (length w.globals) (child_long t 0 places) (run_long Global 0 (length w.globals)))

pub nets_under : (t : Tables) (places : List Place) (k : ℕ) (p : Place) → slice_get places k ≡ Some p → nets_before t places k + (t.nets p.cell).count ≤ nets_before t places (length places)
nets_under t [] k p h = cc
nets_under t (q ∷ ps) zero p h =
    let same : q ≡ p = let f : Some q ≡ Some p = h in cc in
    let e : (t.nets q.cell).count ≡ (t.nets p.cell).count = ap (λ (r : Place). (t.nets r.cell).count) same in
    omega (arith, e)
nets_under t (q ∷ ps) (suc k) p h = let e = nets_under t ps k p h in omega (arith, e)

pub owned_under : (t : Tables) (cell c n : ℕ) → owned_before t cell c ≤ owned_before t cell (c + n)
owned_under t cell c zero = let z : c ≡ c + 0 = omega arith in let e = ap (owned_before t cell) z in omega (arith, e)
owned_under t cell c (suc n) =
    let z : suc (c + n) ≡ c + suc n = omega arith in
    let e = ap (owned_before t cell) z in
    let h = owned_under t cell c n in
    omega (arith, e, h)
