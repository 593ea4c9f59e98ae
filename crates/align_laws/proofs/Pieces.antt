-- Lists made piece by piece.
use Rattle.std.proofs.Common.{◌≡◌, ◌⊎◌, inl, inr, ℕ, zero, suc, List, [], ◌∷◌, ◌++◌, Some, slice_get, refl, ◌∙◌, ap, subst}
use Rattle.base_laws.proofs.Items.{get_left}
use Rattle.align_laws.specs.Lists.{over, indexed, pieces, joined_place, past, net_at_pin}

pub append_right : {B : Type 0} (xs ys : List B) (j : ℕ) (y : B) → slice_get ys j ≡ Some y → slice_get (xs ++ ys) (over xs j) ≡ Some y
append_right [] ys j y h = h
append_right (x ∷ xs) ys j y h = append_right xs ys j y h

pub append_cases : {B : Type 0} (xs ys : List B) (j : ℕ) (y : B) → slice_get (xs ++ ys) j ≡ Some y → (slice_get xs j ≡ Some y) ⊎ ((m : ℕ) × (slice_get ys m ≡ Some y) × (over xs m ≡ j))
append_cases [] ys j y h = inr (j, h, refl)
append_cases (x ∷ xs) ys zero y h = inl h
append_cases (x ∷ xs) ys (suc j) y h = elim (append_cases xs ys j y h) [
  | inl l ↦ inl l
  | inr (m, at, e) ↦ inr (m, at, ap suc e)
]

pub piece_at : {A B : Type 0} (f : ℕ → A → List B) (xs : List A) (i j : ℕ) (x : A) (y : B) → slice_get xs i ≡ Some x → slice_get (f i x) j ≡ Some y → slice_get (pieces f xs) (joined_place f xs i j) ≡ Some y
piece_at f [] i j x y h g = absurd cc
piece_at {A = A} {B = B} f (z ∷ zs) zero j x y h g =
    let e : Some z ≡ Some x = h in
    let s : x ≡ z = cc in
    get_left (f 0 z) (pieces (λ k. f (suc k)) zs) j y (subst (λ (w : A). slice_get (f 0 w) j ≡ Some y) s g)
piece_at f (z ∷ zs) (suc i) j x y h g =
    append_right (f 0 z) (pieces (λ k. f (suc k)) zs) (joined_place (λ k. f (suc k)) zs i j) y (piece_at (λ k. f (suc k)) zs i j x y h g)

pub record Piece {A B : Type 0} (f : ℕ → A → List B) (xs : List A) (m : ℕ) (y : B) : Type 0 where
  pub item : ℕ
  pub number : ℕ
  pub of : A
  pub is : slice_get xs item ≡ Some of
  pub at : slice_get (f item of) number ≡ Some y
  pub there : joined_place f xs item number ≡ m

pub piece_of : {A B : Type 0} (f : ℕ → A → List B) (xs : List A) (m : ℕ) (y : B) → slice_get (pieces f xs) m ≡ Some y → Piece f xs m y
piece_of f [] m y h = absurd cc
piece_of f (z ∷ zs) m y h = elim (append_cases (f 0 z) (pieces (λ k. f (suc k)) zs) m y h) [
  | inl l ↦ record { item = 0; number = m; of = z; is = refl; at = l; there = refl }
  | inr (n, at, e) ↦
      let p = piece_of (λ k. f (suc k)) zs n y at in
      record { item = suc p.item; number = p.number; of = p.of; is = p.is; at = p.at; there = ap (λ (q : ℕ). over (f 0 z) q) p.there ∙ e }
]

pub place_pin : (xs : List ℕ) (far : ℕ → ℕ) (n o : ℕ) → slice_get xs n ≡ Some o → net_at_pin xs far n ≡ o
place_pin [] far n o h = absurd cc
place_pin (x ∷ xs) far zero o h = let e : Some x ≡ Some o = h in cc
place_pin (x ∷ xs) far (suc n) o h = place_pin xs far n o h

-- a place among the pins, or past them
pub place_cases : {B : Type 0} (xs : List ℕ) (ys : List B) (far : ℕ → ℕ) (n : ℕ) (y : B) → slice_get ys n ≡ Some y
    → ((o : ℕ) × (slice_get xs n ≡ Some o)) ⊎ ((m : ℕ) × (slice_get (past xs ys) m ≡ Some y) × (net_at_pin xs far n ≡ far m))
place_cases [] ys far n y h = inr (n, h, refl)
place_cases (x ∷ xs) [] far n y h = absurd cc
place_cases (x ∷ xs) (z ∷ ys) far zero y h = inl (x, refl)
place_cases (x ∷ xs) (z ∷ ys) far (suc n) y h = place_cases xs ys far n y h

pub indexed_at : {A B : Type 0} (f : ℕ → A → B) (xs : List A) (i : ℕ) (x : A) → slice_get xs i ≡ Some x → slice_get (indexed f xs) i ≡ Some (f i x)
indexed_at f [] i x h = absurd cc
indexed_at {A = A} f (z ∷ zs) zero x h = let e : Some z ≡ Some x = h in let s : z ≡ x = cc in ap (λ (w : A). Some (f 0 w)) s
indexed_at f (z ∷ zs) (suc i) x h = indexed_at (λ k. f (suc k)) zs i x h

pub indexed_of : {A B : Type 0} (f : ℕ → A → B) (xs : List A) (i : ℕ) (y : B) → slice_get (indexed f xs) i ≡ Some y → (x : A) × (slice_get xs i ≡ Some x) × (f i x ≡ y)
indexed_of f [] i y h = absurd cc
indexed_of f (z ∷ zs) zero y h = let e : Some (f 0 z) ≡ Some y = h in (z, refl, cc)
indexed_of f (z ∷ zs) (suc i) y h = indexed_of (λ k. f (suc k)) zs i y h
