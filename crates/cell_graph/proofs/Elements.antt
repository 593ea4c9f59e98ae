-- Placements of arrays by reference, row and column.
use Rattle.std.proofs.Common.{◌≡◌, ◌⊎◌, inl, inr, ℕ, zero, suc, ◌+◌, ◌*◌, ◌<◌, List, [], ◌∷◌, ◌++◌, Some, None, slice_get, length, refl, sym, ◌∙◌, ap, subst, arith, length-append, ◌/◌}
use Rattle.base_laws.proofs.Items.{get_left}
use Rattle.std.proofs.Math.Nat.{mul-le-mul_right}
use Rattle.std.proofs.lemmas.Nat.{div-mul-add}
use Rattle.flat_layout.specs.Arrays.{Reference, place_at, row_places, array_places, places_of}
use Rattle.flat_layout.specs.Layout as flat

pub in_second : {A : Type 0} (xs ys : List A) (k : ℕ) (x : A) → slice_get ys k ≡ Some x → slice_get (xs ++ ys) (length xs + k) ≡ Some x
in_second [] ys k x e = subst (λ i. slice_get ys i ≡ Some x) (let f : k ≡ 0 + k = omega arith in f) e
in_second (y ∷ xs) ys k x e = subst (λ i. slice_get (y ∷ (xs ++ ys)) i ≡ Some x) (let f : suc (length xs + k) ≡ length (y ∷ xs) + k = omega arith in f) (in_second xs ys k x e)

pub in_either : {A : Type 0} (xs ys : List A) (k : ℕ) (x : A) → slice_get (xs ++ ys) k ≡ Some x → (slice_get xs k ≡ Some x) ⊎ ((j : ℕ) × (k ≡ length xs + j) × (slice_get ys j ≡ Some x))
in_either [] ys k x e = inr (k, (omega arith), e)
in_either (y ∷ xs) ys zero x e = inl e
in_either (y ∷ xs) ys (suc k) x e = elim (in_either xs ys k x e) [
  | inl f ↦ inl f
  | inr (j, f, g) ↦ inr (j, (let h : suc k ≡ suc (length xs) + j = omega arith in h), g)
]

pub row_length : (r : Reference) (row column n : ℕ) → length (row_places r row column n) ≡ n
row_length r row column zero = refl
row_length r row column (suc n) = ap suc (row_length r row (suc column) n)

pub row_of : (r : Reference) (row column n k : ℕ) (p : flat.Place) → slice_get (row_places r row column n) k ≡ Some p → (k < n) × (p ≡ place_at r row (column + k))
row_of r row column zero k p e = let f : None ≡ Some p = e in absurd (let z : ⊥ = cc in z)
row_of r row column (suc n) zero p e =
    let f : place_at r row column ≡ p = cc in
    ((omega arith), sym f ∙ ap (place_at r row) (let g : column ≡ column + 0 = omega arith in g))
row_of r row column (suc n) (suc k) p e =
    let h = row_of r row (suc column) n k p e in
    ((let lt = h.0 in omega arith), h.1 ∙ ap (place_at r row) (let g : suc column + k ≡ column + suc k = omega arith in g))

pub row_at : (r : Reference) (row column n k : ℕ) → k < n → slice_get (row_places r row column n) k ≡ Some (place_at r row (column + k))
row_at r row column zero k lt = absurd (let z : ⊥ = omega arith in z)
row_at r row column (suc n) zero lt = ap (λ i. Some (place_at r row i)) (let g : column ≡ column + 0 = omega arith in g)
row_at r row column (suc n) (suc k) lt = row_at r row (suc column) n k (omega arith) ∙ ap (λ i. Some (place_at r row i)) (let g : suc column + k ≡ column + suc k = omega arith in g)

-- the number of an element within its array
abbrev pub element_number : Reference → ℕ → ℕ → ℕ
element_number r row column = row * r.columns + column

mul_zero : (c : ℕ) → 0 * c ≡ 0
mul_zero c = omega arith

mul_suc : (i c : ℕ) → suc i * c ≡ c + i * c
mul_suc i c = omega arith

pub array_length : (r : Reference) (row n : ℕ) → length (array_places r row n) ≡ n * r.columns
array_length r row zero = sym (mul_zero r.columns)
array_length r row (suc n) =
    let a = length-append (row_places r row 0 r.columns) (array_places r (suc row) n) in
    let b = row_length r row 0 r.columns in
    let c = array_length r (suc row) n in
    let d = mul_suc n r.columns in omega arith

pub array_of : (r : Reference) (row n k : ℕ) (p : flat.Place) → slice_get (array_places r row n) k ≡ Some p
    → (i : ℕ) × (column : ℕ) × (i < n) × (column < r.columns) × (p ≡ place_at r (row + i) column) × (k ≡ element_number r i column)
array_of r row zero k p e = let f : None ≡ Some p = e in absurd (let z : ⊥ = cc in z)
array_of r row (suc n) k p e = elim (in_either (row_places r row 0 r.columns) (array_places r (suc row) n) k p e) [
  | inl f ↦
      let h = row_of r row 0 r.columns k p f in
      let at : place_at r row (0 + k) ≡ place_at r (row + 0) k = ap (λ c. place_at r row c) (let g : 0 + k ≡ k = omega arith in g) ∙ ap (λ c. place_at r c k) (let g : row ≡ row + 0 = omega arith in g) in
      (0, k, (omega arith), h.0, h.1 ∙ at, (let m = mul_zero r.columns in omega arith))
  | inr (j, f, g) ↦
      let h = array_of r (suc row) n j p g in
      let m = mul_suc h.0 r.columns in
      let b = row_length r row 0 r.columns in
      let five = h.5 in
      let lt = h.2 in
      (suc h.0, h.1, (omega arith), h.3, h.4 ∙ ap (λ c. place_at r c h.1) (let s : suc row + h.0 ≡ row + suc h.0 = omega arith in s), (omega arith))
]

pub array_at : (r : Reference) (row n i column : ℕ) → i < n → column < r.columns → slice_get (array_places r row n) (element_number r i column) ≡ Some (place_at r (row + i) column)
array_at r row zero i column lt within = absurd (let z : ⊥ = omega arith in z)
array_at r row (suc n) zero column lt within =
    let a = row_at r row 0 r.columns column within in
    let b = get_left (row_places r row 0 r.columns) (array_places r (suc row) n) column _ a in
    let m = mul_zero r.columns in
    let k : column ≡ element_number r zero column = omega arith in
    let at : place_at r row (0 + column) ≡ place_at r (row + 0) column = ap (λ c. place_at r row c) (let g : 0 + column ≡ column = omega arith in g) ∙ ap (λ c. place_at r c column) (let g : row ≡ row + 0 = omega arith in g) in
    subst (λ j. slice_get (array_places r row (suc n)) j ≡ Some (place_at r (row + 0) column)) k (b ∙ ap Some at)
array_at r row (suc n) (suc i) column lt within =
    let a = array_at r (suc row) n i column (omega arith) within in
    let b = in_second (row_places r row 0 r.columns) (array_places r (suc row) n) (element_number r i column) _ a in
    let m = mul_suc i r.columns in
    let l = row_length r row 0 r.columns in
    let k : length (row_places r row 0 r.columns) + element_number r i column ≡ element_number r (suc i) column = omega arith in
    let at : place_at r (suc row + i) column ≡ place_at r (row + suc i) column = ap (λ c. place_at r c column) (let g : suc row + i ≡ row + suc i = omega arith in g) in
    subst (λ j. slice_get (array_places r row (suc n)) j ≡ Some (place_at r (row + suc i) column)) k (b ∙ ap Some at)

-- how many placements stand before a reference
pub start_of : List Reference → ℕ → ℕ
start_of [] i = 0
start_of (r ∷ rs) zero = 0
start_of (r ∷ rs) (suc i) = r.rows * r.columns + start_of rs i

-- the number of an element of a reference
abbrev pub number_of : List Reference → ℕ → Reference → ℕ → ℕ → ℕ
number_of rs i r row column = start_of rs i + element_number r row column

-- an element of a reference
pub record IsElementOf (rs : List Reference) (k : ℕ) (p : flat.Place) : Type 0 where
  pub index : ℕ
  pub reference : Reference
  pub row : ℕ
  pub column : ℕ
  pub there : slice_get rs index ≡ Some reference
  pub row_in : row < reference.rows
  pub column_in : column < reference.columns
  pub is : p ≡ place_at reference row column
  pub number : k ≡ number_of rs index reference row column

pub element_of : (rs : List Reference) (k : ℕ) (p : flat.Place) → slice_get (places_of rs) k ≡ Some p → IsElementOf rs k p
unfolding start_of
element_of [] k p e = let f : None ≡ Some p = e in absurd (let z : ⊥ = cc in z)
element_of (r ∷ rs) k p e = elim (in_either (array_places r 0 r.rows) (places_of rs) k p e) [
  | inl f ↦
      let h = array_of r 0 r.rows k p f in
      let five = h.5 in
      record { index = 0; reference = r; row = h.0; column = h.1; there = refl; row_in = h.2; column_in = h.3; is = h.4 ∙ ap (λ c. place_at r c h.1) (let g : 0 + h.0 ≡ h.0 = omega arith in g); number = omega arith }
  | inr (j, f, g) ↦
      let h = element_of rs j p g in
      let l = array_length r 0 r.rows in
      let number = h.number in
      record { index = suc h.index; reference = h.reference; row = h.row; column = h.column; there = h.there; row_in = h.row_in; column_in = h.column_in; is = h.is; number = omega arith }
]

pub element_at : (rs : List Reference) (i : ℕ) (r : Reference) (row column : ℕ) → slice_get rs i ≡ Some r → row < r.rows → column < r.columns
    → slice_get (places_of rs) (number_of rs i r row column) ≡ Some (place_at r row column)
unfolding start_of
element_at [] i r row column e a b = let f : None ≡ Some r = e in absurd (let z : ⊥ = cc in z)
element_at (s ∷ rs) zero r row column e a b =
    let same : s ≡ r = cc in
    let at = array_at r 0 r.rows row column a b in
    let f = get_left (array_places r 0 r.rows) (places_of rs) (element_number r row column) _ at in
    let g : slice_get (places_of (r ∷ rs)) (0 + element_number r row column) ≡ Some (place_at r row column) = subst (λ j. slice_get (places_of (r ∷ rs)) j ≡ Some (place_at r row column)) (let h : element_number r row column ≡ 0 + element_number r row column = omega arith in h) (f ∙ ap (λ c. Some (place_at r c column)) (let h : 0 + row ≡ row = omega arith in h)) in
    subst (λ (t : Reference). slice_get (places_of (t ∷ rs)) (0 + element_number r row column) ≡ Some (place_at r row column)) (sym same) g
element_at (s ∷ rs) (suc i) r row column e a b =
    let f = in_second (array_places s 0 s.rows) (places_of rs) (number_of rs i r row column) _ (element_at rs i r row column e a b) in
    let l = array_length s 0 s.rows in
    subst (λ j. slice_get (places_of (s ∷ rs)) j ≡ Some (place_at r row column)) (let h : length (array_places s 0 s.rows) + number_of rs i r row column ≡ number_of (s ∷ rs) (suc i) r row column = omega arith in h) f

-- numbers tell elements apart
element_below : (r : Reference) (row column : ℕ) → row < r.rows → column < r.columns → element_number r row column < r.rows * r.columns
element_below r row column a b =
    let le = mul-le-mul_right {m = suc row} {n = r.rows} r.columns (omega arith) in
    let e = mul_suc row r.columns in
    omega arith

pub same_element : (r : Reference) (row column i j : ℕ) → column < r.columns → j < r.columns → element_number r row column ≡ element_number r i j → (row ≡ i) × (column ≡ j)
same_element r row column i j a b e =
    let rows : row ≡ i = sym (div-mul-add row r.columns column a) ∙ ap (λ n. n / r.columns) e ∙ div-mul-add i r.columns j b in
    (rows, (let f : element_number r row column ≡ element_number r row j = e ∙ ap (λ k. element_number r k j) (sym rows) in omega arith))

pub same_number : (rs : List Reference) (i j : ℕ) (r s : Reference) (row column row' column' : ℕ) → slice_get rs i ≡ Some r → slice_get rs j ≡ Some s
    → row < r.rows → column < r.columns → row' < s.rows → column' < s.columns → number_of rs i r row column ≡ number_of rs j s row' column' → i ≡ j
unfolding start_of
same_number [] i j r s row column row' column' e f a b c d h = let g : None ≡ Some r = e in absurd (let z : ⊥ = cc in z)
same_number (t ∷ rs) zero zero r s row column row' column' e f a b c d h = refl
same_number (t ∷ rs) zero (suc j) r s row column row' column' e f a b c d h =
    let same : t ≡ r = cc in
    let below = element_below r row column a b in
    let size : t.rows * t.columns ≡ r.rows * r.columns = ap (λ (x : Reference). x.rows * x.columns) same in
    absurd (let z : ⊥ = omega arith in z)
same_number (t ∷ rs) (suc i) zero r s row column row' column' e f a b c d h =
    let same : t ≡ s = cc in
    let below = element_below s row' column' c d in
    let size : t.rows * t.columns ≡ s.rows * s.columns = ap (λ (x : Reference). x.rows * x.columns) same in
    absurd (let z : ⊥ = omega arith in z)
same_number (t ∷ rs) (suc i) (suc j) r s row column row' column' e f a b c d h =
    ap suc (same_number rs i j r s row column row' column' e f a b c d (omega arith))
