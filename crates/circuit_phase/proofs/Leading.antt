-- Places of true, and nets that are numbered before all others.
use Rattle.std.proofs.Common.{◌≡◌, inl, inr, ℕ, zero, suc, ◌+◌, ◌<◌, ◌≤◌, Bool, true, false, ◌&&◌, List, [], ◌∷◌, Some, slice_get, get_or, length, refl, sym, ◌∙◌, ap, subst, arith}
use Rattle.std.proofs.Math.Decide.{ℕ_discrete}
use Rattle.std.proofs.lemmas.Option.{same_Some, slice_get-get_or, slice_get_within}
use Rattle.flat_layout.specs.Circuits.{both, pin_nets, true_places}
use Rattle.flat_layout.specs.Pins.{CellPins}
use Rattle.plain_netlist.proofs.Members.{listed}
use Rattle.plain_netlist.specs.Lists.{AreApart, IsListed}
use Rattle.plain_netlist.specs.Normal.{AreNumbered}

place_low : (k : ℕ) (xs : List Bool) (y : ℕ) → IsListed y (true_places k xs) → k ≤ y
place_low k [] y h = absurd h
place_low k (true ∷ xs) y (inl e) = omega (arith, e)
place_low k (true ∷ xs) y (inr h) = let low = place_low (suc k) xs y h in omega (arith, low)
place_low k (false ∷ xs) y h = let low = place_low (suc k) xs y h in omega (arith, low)

pub places_apart : (k : ℕ) (xs : List Bool) → AreApart (true_places k xs)
places_apart k [] = tt
places_apart k (true ∷ xs) = ((λ h. let low = place_low (suc k) xs k h in absurd (let z : ⊥ = omega (arith, low) in z)), places_apart (suc k) xs)
places_apart k (false ∷ xs) = places_apart (suc k) xs

pub place_true : (k : ℕ) (xs : List Bool) (y : ℕ) → IsListed y (true_places k xs) → (i : ℕ) × (y ≡ k + i) × (slice_get xs i ≡ Some true)
place_true k [] y h = absurd h
place_true k (true ∷ xs) y (inl e) = (0, omega (arith, e), refl)
place_true k (true ∷ xs) y (inr h) = let r = place_true (suc k) xs y h in let e = r.1 in (suc r.0, omega (arith, e), r.2)
place_true k (false ∷ xs) y h = let r = place_true (suc k) xs y h in let e = r.1 in (suc r.0, omega (arith, e), r.2)

pub true_place : (k : ℕ) (xs : List Bool) (i : ℕ) → slice_get xs i ≡ Some true → IsListed (k + i) (true_places k xs)
true_place k [] i h = let z : ⊥ = cc in absurd z
true_place k (true ∷ xs) zero h = inl (omega arith)
true_place k (true ∷ xs) (suc i) h = let z : suc k + i ≡ k + suc i = omega arith in inr (subst (λ j. IsListed j (true_places (suc k) xs)) z (true_place (suc k) xs i h))
true_place k (false ∷ xs) zero h = let z : ⊥ = cc in absurd z
true_place k (false ∷ xs) (suc i) h = let z : suc k + i ≡ k + suc i = omega arith in subst (λ j. IsListed j (true_places (suc k) xs)) z (true_place (suc k) xs i h)

-- the places of true from 0 are those at which true stands
pub place_at : (xs : List Bool) (y : ℕ) → IsListed y (true_places 0 xs) → slice_get xs y ≡ Some true
place_at xs y h = let r = place_true 0 xs y h in let e : r.0 ≡ y = (let f = r.1 in omega (arith, f)) in subst (λ i. slice_get xs i ≡ Some true) e r.2

pub at_place : (xs : List Bool) (y : ℕ) → slice_get xs y ≡ Some true → IsListed y (true_places 0 xs)
at_place xs y h = let z : 0 + y ≡ y = omega arith in subst (λ i. IsListed i (true_places 0 xs)) z (true_place 0 xs y h)

both_true : (xs ys : List Bool) (i : ℕ) → slice_get (both xs ys) i ≡ Some true → (slice_get xs i ≡ Some true) × (slice_get ys i ≡ Some true)
both_true [] ys i h = let z : ⊥ = cc in absurd z
both_true (x ∷ xs) [] i h = let z : ⊥ = cc in absurd z
both_true (true ∷ xs) (true ∷ ys) zero h = (refl, refl)
both_true (true ∷ xs) (false ∷ ys) zero h = let z : ⊥ = cc in absurd z
both_true (false ∷ xs) (y ∷ ys) zero h = let z : ⊥ = cc in absurd z
both_true (x ∷ xs) (y ∷ ys) (suc i) h = both_true xs ys i h

true_both : (xs ys : List Bool) (i : ℕ) → slice_get xs i ≡ Some true → slice_get ys i ≡ Some true → slice_get (both xs ys) i ≡ Some true
true_both [] ys i h g = let z : ⊥ = cc in absurd z
true_both (x ∷ xs) [] i h g = let z : ⊥ = cc in absurd z
true_both (x ∷ xs) (y ∷ ys) zero h g =
    let e : x ≡ true = same_Some x true h in
    let f : y ≡ true = same_Some y true g in
    ap (λ (b : Bool). Some (b && y)) e ∙ ap (λ (b : Bool). Some b) f
true_both (x ∷ xs) (y ∷ ys) (suc i) h g = true_both xs ys i h g

-- a drawn pin is a pin and drawn, and stands once
pub pin_true : (pins : CellPins) (marks : List Bool) (y : ℕ) → IsListed y (pin_nets pins marks) → (slice_get pins.pins y ≡ Some true) × (slice_get marks y ≡ Some true)
pin_true pins marks y h = both_true pins.pins marks y (place_at (both pins.pins marks) y h)

pub true_pin : (pins : CellPins) (marks : List Bool) (y : ℕ) → slice_get pins.pins y ≡ Some true → slice_get marks y ≡ Some true → IsListed y (pin_nets pins marks)
true_pin pins marks y h g = at_place (both pins.pins marks) y (true_both pins.pins marks y h g)

pub pins_apart : (pins : CellPins) (marks : List Bool) → AreApart (pin_nets pins marks)
pins_apart pins marks = places_apart 0 (both pins.pins marks)

pub pins_low : (pins : CellPins) (marks : List Bool) (l : List ℕ) (n : ℕ) → l ≡ pin_nets pins marks → length marks ≡ n → (i : ℕ) → i < length l → get_or l i 0 < n
pins_low pins marks l n is long i lt =
    let at : slice_get (pin_nets pins marks) i ≡ Some (get_or l i 0) = subst (λ (m : List ℕ). slice_get m i ≡ Some (get_or l i 0)) is (slice_get-get_or l i 0 lt) in
    let low = slice_get_within marks (get_or l i 0) true (pin_true pins marks (get_or l i 0) (listed (pin_nets pins marks) i (get_or l i 0) at)).1 in
    omega (arith, low, long)

-- each new number stands among those that were given
pub numbered_in : (total next : ℕ) (xs : List ℕ) → AreNumbered total next xs → (i : ℕ) → next ≤ i → i < total → IsListed i xs
numbered_in total next [] h i low lt = absurd (let z : ⊥ = omega (arith, h) in z)
numbered_in total next (x ∷ xs) (inl h) i low lt = inr (numbered_in total next xs h.1 i low lt)
numbered_in total next (x ∷ xs) (inr h) i low lt = elim (ℕ_discrete i next) [
  | yes e ↦ inl (e ∙ sym h.0)
  | no not ↦ inr (numbered_in total (suc next) xs h.1 i (omega arith) lt)
]

-- where no net repeats, and none was numbered before, they get the next numbers in turn
pub in_turn : (total k : ℕ) (nets numbers new : List ℕ) → ((j x : ℕ) → j < k → slice_get new j ≡ Some x → IsListed x nets → ⊥) → length numbers ≡ length nets
    → ((i x n : ℕ) → slice_get nets i ≡ Some x → slice_get numbers i ≡ Some n → slice_get new n ≡ Some x) → AreApart nets → AreNumbered total k numbers → (i n : ℕ) → slice_get numbers i ≡ Some n → n ≡ k + i
in_turn total k nets [] new before long each apart h i n at = let z : ⊥ = cc in absurd z
in_turn total k [] (n ∷ numbers) new before long each apart h i m at = absurd (let z : ⊥ = omega (arith, long) in z)
in_turn total k (x ∷ nets) (n ∷ numbers) new before long each apart (inl h) i m at = absurd (before n x h.0 (each 0 x n refl refl) (inl refl))
in_turn total k (x ∷ nets) (n ∷ numbers) new before long each apart (inr h) zero m at = let e : n ≡ m = same_Some n m at in let f = h.0 in omega (arith, e, f)
in_turn total k (x ∷ nets) (n ∷ numbers) new before long each apart (inr h) (suc i) m at =
    let here : slice_get new k ≡ Some x = subst (λ j. slice_get new j ≡ Some x) h.0 (each 0 x n refl refl) in
    let rest = in_turn total (suc k) nets numbers new (λ j y lt there l. elim (ℕ_discrete j k) [
      | yes e ↦ let same : x ≡ y = same_Some x y (sym here ∙ sym (ap (λ a. slice_get new a) e) ∙ there) in apart.0 (subst (λ a. IsListed a nets) (sym same) l)
      | no not ↦ before j y (omega arith) there (inr l)
    ]) (omega (arith, long)) (λ j y m there its. each (suc j) y m there its) apart.1 h.1 i m at in
    omega (arith, rest)
