-- The names of drawn nets in another order, and positions in lists of places and of cells.
use Rattle.std.proofs.Common.{◌≡◌, ℕ, suc, ◌+◌, ◌<◌, ◌≤◌, Bool, true, false, List, [], ◌∷◌, ◌++◌, Some, map, take, slice_get, get_or, length, refl, sym, ◌∙◌, ap, subst, arith}
use Rattle.base_laws.proofs.Items.{map_to}
use Rattle.std.proofs.lemmas.List.{length-map, map_push, take_more}
use Rattle.std.proofs.lemmas.Option.{slice_get-get_or, slice_get_within, get_or_from_slice_get}
use Rattle.deep_tables.specs.Positions.{AreApartBelow, ArePositions}
use Rattle.flat_layout.specs.Circuits.{drawn_names, drawn_nets, true_places}
use Rattle.flat_layout.specs.Names.{apart_names, net_ending, net_needs}
use Rattle.flat_layout.specs.Pins.{CellPins}
use Rattle.net_names.specs.Folding.{folded_bytes}
use Rattle.plain_netlist.specs.Lists as lists
use Rattle.circuit_phase.proofs.Leading.{at_place, places_apart}
use Rattle.circuit_phase.proofs.Marked.{place_in}
use Rattle.plain_netlist.proofs.Members.{position}

pub apart_long : (needs : List (List ℕ) → List ℕ → Bool) (ending : ℕ → List ℕ) (earlier : List (List ℕ)) (k : ℕ) (bs : List (List ℕ)) → length (apart_names needs ending earlier k bs) ≡ length bs
apart_long needs ending earlier k [] = refl
apart_long needs ending earlier k (b ∷ bs) = ap suc (apart_long needs ending (b ∷ earlier) (suc k) bs)

pub names_long : (pins : CellPins) (marks : List Bool) → length (drawn_names pins marks) ≡ length (drawn_nets marks)
names_long pins marks = apart_long net_needs net_ending [] 1 _ ∙ length-map (drawn_nets marks) (λ x. folded_bytes (get_or pins.names x []))

-- positions by places
pub by_places : (count : ℕ) (xs : List ℕ) → lists.AreApart xs → ((i x : ℕ) → slice_get xs i ≡ Some x → x < count) → AreApartBelow count xs
by_places count xs apart low = record {
  inside = λ k lt. low k (get_or xs k 0) (slice_get-get_or xs k 0 lt);
  apart = apart;
}

pub places_by : (count : ℕ) (xs : List Bool) → count ≡ length xs → AreApartBelow count (true_places 0 xs)
places_by count xs e = by_places count (true_places 0 xs) (places_apart 0 xs) (λ i x h.
    let lt = slice_get_within (true_places 0 xs) i x h in
    let low = place_in 0 xs i lt in
    let at = get_or_from_slice_get (true_places 0 xs) i x 0 h in
    omega (arith, low, at, e))

pub places_few : (k : ℕ) (xs : List Bool) → length (true_places k xs) ≤ length xs
places_few k [] = omega arith
places_few k (true ∷ xs) = let low = places_few (suc k) xs in omega (arith, low)
places_few k (false ∷ xs) = let low = places_few (suc k) xs in omega (arith, low)

-- a drawn net's position
pub drawn_place : (marks : List Bool) (order places : List ℕ) → order ≡ drawn_nets marks → ArePositions order (length order) places → (x : ℕ) → slice_get marks x ≡ Some true → (k : ℕ) × (k < length order) × (slice_get order k ≡ Some x) × (get_or places x 0 ≡ k)
drawn_place marks order places is are x told =
    let r = position (drawn_nets marks) x (at_place marks x told) in
    let at : slice_get order r.0 ≡ Some x = subst (λ (l : List ℕ). slice_get l r.0 ≡ Some x) (sym is) r.1 in
    let lt = slice_get_within order r.0 x at in
    (r.0, lt, at, ap (λ n. get_or places n 0) (sym (get_or_from_slice_get order r.0 x 0 at)) ∙ are r.0 lt)

pub named_at : (pins : CellPins) (marks : List Bool) (order places nets : List ℕ) (names out : List (List ℕ)) → order ≡ drawn_nets marks → ArePositions order (length order) places → names ≡ drawn_names pins marks → out ≡ map (λ x. get_or names (get_or places x 0) []) nets
    → (a k x : ℕ) → slice_get nets a ≡ Some x → slice_get (drawn_nets marks) k ≡ Some x → slice_get out a ≡ slice_get (drawn_names pins marks) k
named_at pins marks order places nets names out is are named made a k x at there =
    let here : slice_get order k ≡ Some x = subst (λ (l : List ℕ). slice_get l k ≡ Some x) (sym is) there in
    let lt = slice_get_within order k x here in
    let place : get_or places x 0 ≡ k = ap (λ n. get_or places n 0) (sym (get_or_from_slice_get order k x 0 here)) ∙ are k lt in
    let long : length names ≡ length order = ap (λ (l : List (List ℕ)). length l) named ∙ names_long pins marks ∙ sym (ap (λ (l : List ℕ). length l) is) in
    ap (λ (l : List (List ℕ)). slice_get l a) made ∙ map_to (λ x. get_or names (get_or places x 0) []) nets a x at ∙ ap (λ n. Some (get_or names n [])) place
    ∙ sym (slice_get-get_or names k [] (omega (arith, lt, long))) ∙ ap (λ (l : List (List ℕ)). slice_get l k) named

pub map_next : {B : Type 0} → (f : ℕ → B) (xs : List ℕ) (n : ℕ) (old new : List B) (b : B) → n < length xs → b ≡ f (get_or xs n 0) → new ≡ old ++ b ∷ [] → old ≡ map f (take n xs) → new ≡ map f (take (n + 1) xs)
map_next f xs n old new b lt is added h =
    added ∙ ap (λ l. l ++ b ∷ []) h ∙ ap (λ x. map f (take n xs) ++ x ∷ []) is ∙ sym (map_push f (take n xs) (get_or xs n 0)) ∙ sym (ap (map f) (take_more xs n 0 lt))

pub get_same : {A : Type 0} → (l : List A) (k : ℕ) (d e : A) → k < length l → get_or l k d ≡ get_or l k e
get_same l k d e lt = get_or_from_slice_get l k (get_or l k e) d (slice_get-get_or l k e lt)

pub place_in_names : (pins : CellPins) (marks : List Bool) (order places : List ℕ) (names : List (List ℕ)) → order ≡ drawn_nets marks → ArePositions order (length order) places → names ≡ drawn_names pins marks → (x p : ℕ) → slice_get marks x ≡ Some true → p ≡ get_or places x 0 → p < length names
place_in_names pins marks order places names is are named x p told e =
    let r = drawn_place marks order places is are x told in
    let lt = r.1 in
    let at = r.3 in
    let long : length names ≡ length order = ap (λ (l : List (List ℕ)). length l) named ∙ names_long pins marks ∙ sym (ap (λ (l : List ℕ). length l) is) in
    omega (arith, lt, at, long, e)
