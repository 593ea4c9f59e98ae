-- The right pins of a matched pair are one to one, where pins are the first nets.
use Rattle.std.proofs.Common.{◌≡◌, ◌↔◌, inl, inr, ℕ, zero, suc, ◌+◌, ◌<◌, ◌≤◌, ◌==◌, Bool, true, false, cond, List, [], ◌∷◌, length, take, slice_index, Some, slice_get, refl, sym, ◌∙◌, ap, subst, arith}
use Rattle.std.specs.List.{count_by}
use Rattle.std.proofs.Math.Decide.{ℕ_discrete}
use Rattle.std.proofs.lemmas.Bool.{eq-eqb, ne_eqb}
use Rattle.std.proofs.lemmas.List.{get_or-take, length-take-le}
use Rattle.std.proofs.lemmas.Option.{slice_get-get_or}
use Rattle.plain_netlist.specs.Lists.{IsListed}
use Rattle.round_laws.proofs.Agree.{count-cons}
use Rattle.plain_netlist.specs.Netlist.{Circuit}
use Rattle.match_laws.specs.Circuits.{Pair, Pairing, IsOneToOne, IsCorrespondence}

-- how many entries are below q, class by class
total : ℕ → List ℕ → ℕ
total zero xs = 0
total (suc q) xs = total q xs + count_by (λ x. q == x) xs

total_none : (q : ℕ) → total q [] ≡ 0
unfolding total
total_none zero = refl
total_none (suc q) = let h = total_none q in let e : count_by (λ x. q == x) [] ≡ 0 = refl in omega arith

total_high : (q x : ℕ) (xs : List ℕ) → q ≤ x → total q (x ∷ xs) ≡ total q xs
unfolding total
total_high zero x xs lt = refl
total_high (suc q) x xs lt =
    let h = total_high q x xs (omega arith) in
    let step = count-cons (λ y. q == y) x xs in
    let no : (q == x) ≡ false = ne_eqb q x (λ e. absurd (omega arith)) in
    let zero_here : ◌≡◌ {A = ℕ} (cond (q == x) 1 0) 0 = ap (λ (t : Bool). cond {A = ℕ} t 1 0) no in
    omega arith

total_low : (q x : ℕ) (xs : List ℕ) → x < q → total q (x ∷ xs) ≡ suc (total q xs)
unfolding total
total_low zero x xs lt = absurd (omega arith)
total_low (suc q) x xs lt =
    let step = count-cons (λ y. q == y) x xs in
    elim (ℕ_discrete q x) [
      | yes e ↦
          let h = total_high q x xs (omega arith) in
          let is : (q == x) ≡ true = eq-eqb q x e in
          let one_here : ◌≡◌ {A = ℕ} (cond (q == x) 1 0) 1 = ap (λ (t : Bool). cond {A = ℕ} t 1 0) is in
          omega arith
      | no not ↦
          let h = total_low q x xs (omega (arith, not)) in
          let no : (q == x) ≡ false = ne_eqb q x not in
          let zero_here : ◌≡◌ {A = ℕ} (cond (q == x) 1 0) 0 = ap (λ (t : Bool). cond {A = ℕ} t 1 0) no in
          omega arith
    ]

total_all : (q : ℕ) (xs : List ℕ) → ((x : ℕ) → IsListed x xs → x < q) → total q xs ≡ length xs
total_all q [] h = total_none q
total_all q (x ∷ xs) h = let a = total_low q x xs (h x (inl refl)) in let b = total_all q xs (λ y i. h y (inr i)) in omega arith

total_once : (q : ℕ) (xs : List ℕ) → ((j : ℕ) → j < q → count_by (λ x. j == x) xs ≡ 1) → total q xs ≡ q
unfolding total
total_once zero xs h = refl
total_once (suc q) xs h = let a = total_once q xs (λ j lt. h j (omega arith)) in let b = h q (omega arith) in omega arith

-- a number that stands only in front is counted there
none_above : (j q : ℕ) (xs : List ℕ) → j < q → ((i : ℕ) → i < length xs → slice_index xs i < q → ⊥) → count_by (λ x. j == x) xs ≡ 0
none_above j q [] lt h = refl
none_above j q (x ∷ xs) lt h =
    let step = count-cons (λ y. j == y) x xs in
    let rest = none_above j q xs lt (λ i in_range low. h (suc i) (omega arith) low) in
    let no : (j == x) ≡ false = ne_eqb j x (λ e. h 0 (omega arith) (let low : x < q = omega arith in low)) in
    let zero_here : ◌≡◌ {A = ℕ} (cond (j == x) 1 0) 0 = ap (λ (t : Bool). cond {A = ℕ} t 1 0) no in
    omega arith

in_front : (j q p : ℕ) (xs : List ℕ) → j < q → ((i : ℕ) → i < length xs → slice_index xs i < q → i < p) → count_by (λ x. j == x) (take p xs) ≡ count_by (λ x. j == x) xs
in_front j q zero xs lt h = sym (none_above j q xs lt (λ i in_range low. absurd (let z = h i in_range low in omega arith)))
in_front j q (suc p) [] lt h = refl
in_front j q (suc p) (x ∷ xs) lt h =
    let a = count-cons (λ y. j == y) x (take p xs) in
    let b = count-cons (λ y. j == y) x xs in
    let rest = in_front j q p xs lt (λ i in_range low. let z = h (suc i) (omega arith) low in omega arith) in
    omega arith

pub listed_at : (xs : List ℕ) (x : ℕ) → IsListed x xs → (i : ℕ) × (i < length xs) × (slice_index xs i ≡ x)
listed_at [] x h = absurd h
listed_at (y ∷ xs) x (inl e) = (0, omega arith, sym e)
listed_at (y ∷ xs) x (inr h) = let r = listed_at xs x h in (suc r.0, (let lt = r.1 in omega arith), r.2)

at_listed : (xs : List ℕ) (i : ℕ) → i < length xs → IsListed (slice_index xs i) xs
at_listed [] i lt = absurd (omega arith)
at_listed (y ∷ xs) zero lt = inl refl
at_listed (y ∷ xs) (suc i) lt = inr (at_listed xs i (omega arith))

-- pins that are the first nets
module _ (c : Circuit) (first : (i n : ℕ) → slice_get c.pins i ≡ Some n → n ≡ i) where
  pub pin_at : (i : ℕ) → i < length c.pins → slice_index c.pins i ≡ i
  pin_at i lt = first i (slice_index c.pins i) (slice_get-get_or c.pins i 0 lt)

  pub pin_is : (n : ℕ) → IsListed n c.pins ↔ (n < length c.pins)
  pin_is n = (
    (λ h. let r = listed_at c.pins n h in let e = pin_at r.0 r.1 in let f = r.2 in let g = r.1 in omega arith),
    (λ lt. subst (λ m. IsListed m c.pins) (pin_at n lt) (at_listed c.pins n lt)),
  )

-- the images of the pins: each right pin once
module _ (p : Pair) (f : Pairing) (h : IsCorrespondence p f) (first : (i n : ℕ) → slice_get p.left.pins i ≡ Some n → n ≡ i) (first_right : (i n : ℕ) → slice_get p.right.pins i ≡ Some n → n ≡ i)
    (inside : length p.left.pins ≤ length p.left.nets) (inside_right : length p.right.pins ≤ length p.right.nets) where
  abbrev P : ℕ
  P = length p.left.pins

  abbrev Q : ℕ
  Q = length p.right.pins

  pin_low : (i : ℕ) → i < P → slice_index f.nets i < Q
  pin_low i lt = (pin_is p.right first_right (slice_index f.nets i)).0 ((h.pin i (omega arith)).0 ((pin_is p.left first i).1 lt))

  low_pin : (i : ℕ) → i < length f.nets → slice_index f.nets i < Q → i < P
  low_pin i lt low = let e = h.nets.count in (pin_is p.left first i).0 ((h.pin i (omega arith)).1 ((pin_is p.right first_right (slice_index f.nets i)).1 low))

  abbrev places : List ℕ
  places = take P f.nets

  long : length places ≡ P
  long = let e = h.nets.count in length-take-le P f.nets (omega arith)

  below : (x : ℕ) → IsListed x places → x < Q
  below x i =
      let r = listed_at places x i in
      let lt : r.0 < P = subst (λ m. r.0 < m) long r.1 in
      let e = get_or-take P f.nets r.0 0 lt in
      subst (λ m. m < Q) (sym e ∙ r.2) (pin_low r.0 lt)

  once : (j : ℕ) → j < Q → count_by (λ x. j == x) places ≡ 1
  once j lt = in_front j Q P f.nets lt low_pin ∙ h.nets.once j (omega arith)

  pub same_long : P ≡ Q
  same_long = sym long ∙ (sym (total_all Q places below) ∙ total_once Q places once)

  pub one_to_one : IsOneToOne places P P
  one_to_one = record { count = long; below = λ x i. subst (λ m. x < m) (sym same_long) (below x i); once = λ j lt. once j (subst (λ m. j < m) same_long lt) }

  pub pin_image : (i : ℕ) → i < P → slice_index f.nets (slice_index p.left.pins i) ≡ slice_index p.right.pins (slice_index places i)
  pin_image i lt =
      let low = pin_low i lt in
      ap (slice_index f.nets) (pin_at p.left first i lt) ∙ (sym (pin_at p.right first_right (slice_index f.nets i) low) ∙ ap (slice_index p.right.pins) (sym (get_or-take P f.nets i 0 lt)))
