-- A cell's own rectangles as a list of pieces: what stands where.
use Rattle.std.proofs.Common.{◌≡◌, ◌⊎◌, inl, inr, ℕ, zero, suc, ◌+◌, ◌<◌, ◌≤◌, List, [], ◌∷◌, ◌++◌, Some, slice_get, get_or, length, take, refl, sym, ◌∙◌, ap, subst, arith}
use Rattle.base_laws.proofs.Items.{get_left}
use Rattle.std.proofs.Math.Decide.{ℕ_discrete}
use Rattle.std.proofs.Math.Seq.{take-length}
use Rattle.std.proofs.lemmas.List.{take_more, length-take-le}
use Rattle.flat_layout.specs.Nets.{Tables}
use Rattle.geo_base.specs.declared.shapes.Rect.{Rect}
use Rattle.net_link_laws.specs.Places.{owned_before}
use Rattle.net_walk.proofs.Adding.{nowhere}
use Rattle.net_walk.specs.Owned.{IsOwnPiece, rect_pieces, owned_pieces}
use Rattle.touching_pieces.specs.Pairs.{IsAmong}
use Rattle.touching_pieces.specs.declared.pieces.Piece.{Piece}

-- lists behind one another

pub nothing_behind : {A : Type 0} (xs : List A) → xs ≡ xs ++ []
nothing_behind [] = refl
nothing_behind (x ∷ xs) = ap (λ l. x ∷ l) (nothing_behind xs)

pub behind_both : {A : Type 0} (xs ys zs : List A) → (xs ++ ys) ++ zs ≡ xs ++ (ys ++ zs)
behind_both [] ys zs = refl
behind_both (x ∷ xs) ys zs = ap (λ l. x ∷ l) (behind_both xs ys zs)

pub get_right : {A : Type 0} (xs ys : List A) (i : ℕ) (y : A) → slice_get ys i ≡ Some y → slice_get (xs ++ ys) (length xs + i) ≡ Some y
get_right [] ys i y h = let z : i ≡ 0 + i = omega arith in subst (λ j. slice_get ys j ≡ Some y) z h
get_right (x ∷ xs) ys i y h = let z : suc (length xs + i) ≡ length (x ∷ xs) + i = omega arith in subst (λ j. slice_get (x ∷ (xs ++ ys)) j ≡ Some y) z (get_right xs ys i y h)

pub get_either : {A : Type 0} (xs ys : List A) (i : ℕ) (z : A) → slice_get (xs ++ ys) i ≡ Some z → (slice_get xs i ≡ Some z) ⊎ ((j : ℕ) × (length xs + j ≡ i) × (slice_get ys j ≡ Some z))
get_either [] ys i z h = inr (i, omega arith, h)
get_either (x ∷ xs) ys zero z h = inl h
get_either (x ∷ xs) ys (suc i) z h = elim (get_either xs ys i z h) [
  | inl a ↦ inl a
  | inr b ↦ let e = b.1 in inr (b.0, omega (arith, e), b.2)
]

pub among_at : (ps : List Piece) (i : ℕ) (p : Piece) → slice_get ps i ≡ Some p → IsAmong p ps
among_at [] i p h = cc
among_at (q ∷ ps) zero p h = inl (let f : Some q ≡ Some p = h in cc)
among_at (q ∷ ps) (suc i) p h = inr (among_at ps i p h)

pub at_among : (ps : List Piece) (p : Piece) → IsAmong p ps → (i : ℕ) × (slice_get ps i ≡ Some p)
at_among [] p h = absurd h
at_among (q ∷ ps) p (inl e) = (0, (let f : Some q ≡ Some p = ap Some (sym e) in f))
at_among (q ∷ ps) p (inr h) = let r = at_among ps p h in (suc r.0, r.1)

-- rectangles of one conductor

rect_snoc : (c at : ℕ) (xs : List Rect) (x : Rect) → rect_pieces c at (xs ++ x ∷ []) ≡ rect_pieces c at xs ++ record { conductor = c; rect = x; item = at + length xs } ∷ []
rect_snoc c at [] x =
    let z : at ≡ at + 0 = omega arith in
    ap (λ (i : ℕ). let o : Piece = record { conductor = c; rect = x; item = i } in o ∷ []) z
rect_snoc c at (y ∷ xs) x =
    let z : suc at + length xs ≡ at + length (y ∷ xs) = omega arith in
    let first : Piece = record { conductor = c; rect = y; item = at } in
    ap (λ (l : List Piece). first ∷ l) (rect_snoc c (suc at) xs x)
    ∙ ap (λ (i : ℕ). let o : Piece = record { conductor = c; rect = x; item = i } in first ∷ (rect_pieces c (suc at) xs ++ o ∷ [])) z

pub none_behind : (c at : ℕ) (own : List Rect) (old : List Piece) → old ≡ old ++ rect_pieces c at (take 0 own)
none_behind c at own old = nothing_behind old

pub pieces_more : (c at : ℕ) (own : List Rect) (r : ℕ) (old mid : List Piece) → r < length own → mid ≡ old ++ rect_pieces c at (take r own)
    → mid ++ record { conductor = c; rect = get_or own r nowhere; item = at + r } ∷ [] ≡ old ++ rect_pieces c at (take (r + 1) own)
pieces_more c at own r old mid lt e =
    let rect = get_or own r nowhere in
    let o : Piece = record { conductor = c; rect = rect; item = at + r } in
    let le : r ≤ length own = omega (arith, lt) in
    let long : length (take r own) ≡ r = length-take-le r own le in
    let snoc = rect_snoc c at (take r own) rect in
    let more : rect_pieces c at (take (r + 1) own) ≡ rect_pieces c at (take r own ++ rect ∷ []) = ap (rect_pieces c at) (take_more own r nowhere lt) in
    let last : rect_pieces c at (take r own ++ rect ∷ []) ≡ rect_pieces c at (take r own) ++ o ∷ [] = snoc ∙ ap (λ (i : ℕ). let p : Piece = record { conductor = c; rect = rect; item = at + i } in rect_pieces c at (take r own) ++ p ∷ []) long in
    ap (λ (l : List Piece). l ++ o ∷ []) e ∙ behind_both old (rect_pieces c at (take r own)) (o ∷ []) ∙ ap (λ (l : List Piece). old ++ l) (sym (more ∙ last))

pub pieces_all : (c at : ℕ) (own : List Rect) (r : ℕ) (old new : List Piece) → r ≡ length own → new ≡ old ++ rect_pieces c at (take r own) → new ≡ old ++ rect_pieces c at own
pieces_all c at own r old new e h = h ∙ ap (λ (l : List Rect). old ++ rect_pieces c at l) (ap (λ i. take i own) e ∙ take-length own)

pub owned_next : (t : Tables) (cell k : ℕ) → owned_pieces t cell k ++ rect_pieces k (owned_before t cell k) (t.own cell k) ≡ owned_pieces t cell (k + 1)
owned_next t cell k = let z : suc k ≡ k + 1 = omega arith in ap (owned_pieces t cell) z

pub rect_at : (c at : ℕ) (xs : List Rect) (r : ℕ) (x : Rect) → slice_get xs r ≡ Some x → slice_get (rect_pieces c at xs) r ≡ Some (record { conductor = c; rect = x; item = at + r })
rect_at c at [] r x h = cc
rect_at c at (y ∷ xs) zero x h =
    let e : y ≡ x = (let f : Some y ≡ Some x = h in cc) in
    let z : at ≡ at + 0 = omega arith in
    ap (λ (v : Rect). let o : Piece = record { conductor = c; rect = v; item = at } in Some o) e ∙ ap (λ (i : ℕ). let o : Piece = record { conductor = c; rect = x; item = i } in Some o) z
rect_at c at (y ∷ xs) (suc r) x h =
    let z : suc at + r ≡ at + suc r = omega arith in
    rect_at c (suc at) xs r x h ∙ ap (λ (i : ℕ). let o : Piece = record { conductor = c; rect = x; item = i } in Some o) z

rects_long : (c at : ℕ) (xs : List Rect) → length (rect_pieces c at xs) ≡ length xs
rects_long c at [] = refl
rects_long c at (x ∷ xs) = let h = rects_long c (suc at) xs in omega (arith, h)

pub pieces_long : (t : Tables) (cell n : ℕ) → length (owned_pieces t cell n) ≡ owned_before t cell n
pieces_long t cell zero = refl
pieces_long t cell (suc n) =
    let h = pieces_long t cell n in
    let g = rects_long n (owned_before t cell n) (t.own cell n) in
    both_long (owned_pieces t cell n) (rect_pieces n (owned_before t cell n) (t.own cell n)) (owned_before t cell n) (length (t.own cell n)) h g
  where
    both_long : (xs ys : List Piece) (m k : ℕ) → length xs ≡ m → length ys ≡ k → length (xs ++ ys) ≡ m + k
    both_long [] ys m k e f = omega (arith, e, f)
    both_long (x ∷ xs) ys zero k e f = absurd (omega (arith, e))
    both_long (x ∷ xs) ys (suc m) k e f = let h = both_long xs ys m k (omega (arith, e)) f in omega (arith, h)

pub of_rect : (t : Tables) (cell n at : ℕ) (xs : List Rect) (r i : ℕ) (o : Piece) → slice_get (rect_pieces n at xs) i ≡ Some o → (o.conductor ≡ n) × (slice_get xs i ≡ Some o.rect) × (at + i ≡ o.item)
of_rect t cell n at [] r i o h = cc
of_rect t cell n at (x ∷ xs) r zero o h =
    let first : Piece = record { conductor = n; rect = x; item = at } in
    let e : first ≡ o = (let f : Some first ≡ Some o = h in cc) in
    let z : at + 0 ≡ at = omega arith in
    (ap (λ (p : Piece). p.conductor) (sym e), ap (λ (p : Piece). Some p.rect) e, z ∙ ap (λ (p : Piece). p.item) e)
of_rect t cell n at (x ∷ xs) r (suc i) o h =
    let g = of_rect t cell n (suc at) xs r i o h in
    let z : at + suc i ≡ suc at + i = omega arith in
    (g.0, g.1, z ∙ g.2)

pub owned_piece : (t : Tables) (cell n i : ℕ) (o : Piece) → slice_get (owned_pieces t cell n) i ≡ Some o → IsOwnPiece t cell n o × (o.item ≡ i)
owned_piece t cell zero i o h = cc
owned_piece t cell (suc n) i o h = elim (get_either (owned_pieces t cell n) (rect_pieces n (owned_before t cell n) (t.own cell n)) i o h) [
  | inl a ↦ let g = owned_piece t cell n i o a in let lt = g.0.known in (record { known = omega (arith, lt); number = g.0.number; listed = g.0.listed; place = g.0.place }, g.1)
  | inr b ↦
      let g = of_rect t cell n (owned_before t cell n) (t.own cell n) 0 b.0 o b.2 in
      let e = g.0 in
      let long = pieces_long t cell n in
      let at = b.1 in
      let is = g.2 in (
        record {
          known = omega (arith, e);
          number = b.0;
          listed = subst (λ k. slice_get (t.own cell k) b.0 ≡ Some o.rect) (sym e) g.1;
          place = ap (λ k. owned_before t cell k + b.0) e ∙ is;
        },
        omega (arith, long, at, is),
      )
]

pub piece_at : (t : Tables) (cell n c r : ℕ) (rect : Rect) → c < n → slice_get (t.own cell c) r ≡ Some rect → slice_get (owned_pieces t cell n) (owned_before t cell c + r) ≡ Some (record { conductor = c; rect = rect; item = owned_before t cell c + r })
piece_at t cell zero c r rect lt h = absurd (omega arith)
piece_at t cell (suc n) c r rect lt h = elim (ℕ_discrete c n) [
  | yes e ↦
      let there : slice_get (t.own cell n) r ≡ Some rect = subst (λ k. slice_get (t.own cell k) r ≡ Some rect) e h in
      let at = rect_at n (owned_before t cell n) (t.own cell n) r rect there in
      let o : Piece = record { conductor = n; rect = rect; item = owned_before t cell n + r } in
      let here : slice_get (owned_pieces t cell (suc n)) (owned_before t cell n + r) ≡ Some o =
      subst (λ k. slice_get (owned_pieces t cell (suc n)) (k + r) ≡ Some o) (pieces_long t cell n) (get_right (owned_pieces t cell n) (rect_pieces n (owned_before t cell n) (t.own cell n)) r o at) in
      subst (λ k. slice_get (owned_pieces t cell (suc n)) (owned_before t cell k + r) ≡ Some (record { conductor = k; rect = rect; item = owned_before t cell k + r })) (sym e) here
  | no m ↦ get_left (owned_pieces t cell n) (rect_pieces n (owned_before t cell n) (t.own cell n)) (owned_before t cell c + r) (record { conductor = c; rect = rect; item = owned_before t cell c + r }) (piece_at t cell n c r rect (omega arith) h)
]
