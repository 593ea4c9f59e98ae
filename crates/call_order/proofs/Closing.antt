-- What closing numbers does to a walk's state.
use Rattle.std.proofs.Common.{◌≡◌, ◌⊎◌, inl, inr, ℕ, zero, suc, ◌<◌, Bool, true, false, List, [], ◌∷◌, ◌++◌, length, set, Option, Some, None, refl, sym, ap, subst, ◌∙◌, arith, append_assoc, length-set}
use Rattle.std.proofs.lemmas.Bool.{cases_Bool}
use Rattle.std.specs.Prelude.{slice_index, slice_index_or, nat_lt}
use Rattle.std.proofs.Math.Decide.{ℕ_discrete}
use Rattle.std.proofs.lemmas.List.{get_or-set_same, get_or-set_other, append-nil}
use Rattle.plain_netlist.specs.Lists.{IsListed, AreApart}
use Rattle.call_order.specs.declared.walk.Place.TheVariants.{Unseen, Closed}
use Rattle.call_order.specs.Walk.{State, closing, lesser, place_of, IsClosed, LeastOf}

-- ---- members of lists, by place

pub placed : (xs : List ℕ) (i : ℕ) → i < length xs → IsListed (slice_index xs i) xs
placed [] i l = absurd (omega arith)
placed (x ∷ xs) zero l = inl refl
placed (x ∷ xs) (suc i) l = inr (placed xs i (omega arith))

pub place_in : (xs : List ℕ) (k : ℕ) → IsListed k xs → (i : ℕ) × (i < length xs) × (slice_index xs i ≡ k)
place_in [] k h = absurd h
place_in (x ∷ xs) k (inl e) = (0, (omega arith), sym e)
place_in (x ∷ xs) k (inr h) = let r = place_in xs k h in (suc r.0, (let l = r.1 in omega arith), r.2)

pub is_listed : (k : ℕ) (xs : List ℕ) → IsListed k xs ⊎ (IsListed k xs → ⊥)
is_listed k [] = inr (λ h. h)
is_listed k (x ∷ xs) = elim (ℕ_discrete k x) [
  | yes e ↦ inl (inl e)
  | no ne ↦ elim (is_listed k xs) [ inl h ↦ inl (inr h) | inr n ↦ inr (λ h. elim h [ inl e ↦ ne e | inr m ↦ n m ]) ]
]

pub listed_left : (xs ys : List ℕ) (k : ℕ) → IsListed k xs → IsListed k (xs ++ ys)
listed_left [] ys k h = absurd h
listed_left (x ∷ xs) ys k (inl e) = inl e
listed_left (x ∷ xs) ys k (inr h) = inr (listed_left xs ys k h)

pub listed_right : (xs ys : List ℕ) (k : ℕ) → IsListed k ys → IsListed k (xs ++ ys)
listed_right [] ys k h = h
listed_right (x ∷ xs) ys k h = inr (listed_right xs ys k h)

pub listed_either : (xs ys : List ℕ) (k : ℕ) → IsListed k (xs ++ ys) → IsListed k xs ⊎ IsListed k ys
listed_either [] ys k h = inr h
listed_either (x ∷ xs) ys k (inl e) = inl (inl e)
listed_either (x ∷ xs) ys k (inr h) = elim (listed_either xs ys k h) [ inl a ↦ inl (inr a) | inr b ↦ inr b ]

pub apart_append : (xs ys : List ℕ) → AreApart xs → AreApart ys → ((k : ℕ) → IsListed k xs → IsListed k ys → ⊥) → AreApart (xs ++ ys)
apart_append [] ys a b none = b
apart_append (x ∷ xs) ys a b none = (
  (λ h. elim (listed_either xs ys x h) [ inl l ↦ a.0 l | inr r ↦ none x (inl refl) r ]),
  apart_append xs ys a.1 b (λ k l r. none k (inr l) r),
)

pub apart_by : (xs : List ℕ) → ((i j : ℕ) → i < length xs → j < length xs → slice_index xs i ≡ slice_index xs j → i ≡ j) → AreApart xs
apart_by [] one = tt
apart_by (x ∷ xs) one = (
  (λ h. let r = place_in xs x h in let l = r.1 in let e = one 0 (suc r.0) (omega arith) (omega arith) (sym r.2) in omega arith),
  apart_by xs (λ i j l m e. let same = one (suc i) (suc j) (omega arith) (omega arith) e in omega arith),
)

-- ---- the least number

pub least_more : (C R : ℕ → Type 0) (o : Option ℕ) (k : ℕ) → LeastOf C R o → R k → LeastOf (λ j. C j ⊎ (j ≡ k)) R (lesser o k)
least_more C R None k h r = (r, λ j c q. elim c [ inl old ↦ absurd (h j old q) | inr e ↦ (omega arith) ])
least_more C R (Some f) k h r = elim (cases_Bool (nat_lt k f)) [
  | inl t ↦ rw t (r, λ j c q. elim c [ inl old ↦ (let l = h.1 j old q in grind (arith, t, l)) | inr e ↦ (omega arith) ])
  | inr t ↦ rw t (h.0, λ j c q. elim c [ inl old ↦ h.1 j old q | inr e ↦ grind (arith, t, e) ])
]

pub least_other : (C R : ℕ → Type 0) (o : Option ℕ) (k : ℕ) → LeastOf C R o → (R k → ⊥) → LeastOf (λ j. C j ⊎ (j ≡ k)) R o
least_other C R None k h n = λ j c q. elim c [ inl old ↦ h j old q | inr e ↦ n (subst R e q) ]
least_other C R (Some f) k h n = (h.0, λ j c q. elim c [ inl old ↦ h.1 j old q | inr e ↦ absurd (n (subst R e q)) ])

pub least_same : (C D R : ℕ → Type 0) (o : Option ℕ) → ((k : ℕ) → D k → C k) → LeastOf C R o → LeastOf D R o
least_same C D R None on h = λ k c r. h k (on k c) r
least_same C D R (Some f) on h = (h.0, λ k c r. h.1 k (on k c) r)

-- ---- numbers closed

abbrev close : Bool → State → ℕ → State
close is_cycle s k = closing is_cycle (k ∷ []) s

pub closing_followed : (c : Bool) (ks : List ℕ) (s : State) → (closing c ks s).followed ≡ s.followed
closing_followed c [] s = refl
closing_followed c (k ∷ ks) s = closing_followed c ks (close c s k)

pub closing_path : (c : Bool) (ks : List ℕ) (s : State) → (closing c ks s).path ≡ s.path
closing_path c [] s = refl
closing_path c (k ∷ ks) s = closing_path c ks (close c s k)

pub closing_work : (c : Bool) (ks : List ℕ) (s : State) → (closing c ks s).work ≡ s.work
closing_work c [] s = refl
closing_work c (k ∷ ks) s = closing_work c ks (close c s k)

pub closing_rings : (c : Bool) (ks : List ℕ) (s : State) → (closing c ks s).rings ≡ s.rings
closing_rings c [] s = refl
closing_rings c (k ∷ ks) s = closing_rings c ks (close c s k)

pub closing_order : (c : Bool) (ks : List ℕ) (s : State) → (closing c ks s).order ≡ s.order ++ ks
closing_order c [] s = sym (append-nil s.order)
closing_order c (k ∷ ks) s = closing_order c ks (close c s k) ∙ append_assoc s.order (k ∷ []) ks

pub closing_places_len : (c : Bool) (ks : List ℕ) (s : State) → length (closing c ks s).places ≡ length s.places
closing_places_len c [] s = refl
closing_places_len c (k ∷ ks) s = closing_places_len c ks (close c s k) ∙ length-set s.places k Closed

pub closing_other : (c : Bool) (ks : List ℕ) (s : State) (j : ℕ) → (IsListed j ks → ⊥) → place_of (closing c ks s) j ≡ place_of s j
closing_other c [] s j n = refl
closing_other c (k ∷ ks) s j n = closing_other c ks (close c s k) j (λ h. n (inr h)) ∙ get_or-set_other s.places k j Closed Unseen (λ e. n (inl e))

pub closing_keeps : (c : Bool) (ks : List ℕ) (s : State) (j : ℕ) → j < length s.places → IsClosed s j → IsClosed (closing c ks s) j
closing_keeps c [] s j l h = h
closing_keeps c (k ∷ ks) s j l h =
    closing_keeps c ks (close c s k) j (let e = length-set s.places k Closed in omega arith)
    (elim (ℕ_discrete j k) [
      | yes e ↦ ap (λ x. slice_index_or (set s.places k Closed) x Unseen) e ∙ get_or-set_same s.places k Closed Unseen (subst (λ x. x < length s.places) e l)
      | no ne ↦ get_or-set_other s.places k j Closed Unseen ne ∙ h
    ])

pub closing_here : (c : Bool) (ks : List ℕ) (s : State) (j : ℕ) → ((k : ℕ) → IsListed k ks → k < length s.places) → IsListed j ks → IsClosed (closing c ks s) j
closing_here c [] s j l h = absurd h
closing_here c (k ∷ ks) s j l (inl e) =
    closing_keeps c ks (close c s k) j (let f = length-set s.places k Closed in let m = l k (inl refl) in omega arith)
    (ap (λ x. slice_index_or (set s.places k Closed) x Unseen) e ∙ get_or-set_same s.places k Closed Unseen (l k (inl refl)))
closing_here c (k ∷ ks) s j l (inr h) = closing_here c ks (close c s k) j (λ x m. let f = length-set s.places k Closed in let low = l x (inr m) in omega arith) h

pub closing_cycle : (ks : List ℕ) (s : State) (C R : ℕ → Type 0) → LeastOf C R s.first → ((k : ℕ) → IsListed k ks → R k)
    → LeastOf (λ j. C j ⊎ IsListed j ks) R (closing true ks s).first
closing_cycle [] s C R h all = least_same C (λ j. C j ⊎ ⊥) R s.first (λ k c. elim c [ inl old ↦ old | inr n ↦ absurd n ]) h
closing_cycle (k ∷ ks) s C R h all =
    least_same (λ j. (C j ⊎ (j ≡ k)) ⊎ IsListed j ks) (λ j. C j ⊎ IsListed j (k ∷ ks)) R (closing true ks (close true s k)).first
    (λ j c. elim c [ inl old ↦ inl (inl old) | inr l ↦ elim l [ inl e ↦ inl (inr e) | inr m ↦ inr m ] ])
    (closing_cycle ks (close true s k) (λ j. C j ⊎ (j ≡ k)) R (least_more C R s.first k h (all k (inl refl))) (λ j l. all j (inr l)))

pub closing_plain : (k : ℕ) (s : State) (C R : ℕ → Type 0) → LeastOf C R s.first → (R k → ⊥) → LeastOf (λ j. C j ⊎ IsListed j (k ∷ [])) R (closing false (k ∷ []) s).first
closing_plain k s C R h n =
    least_same (λ j. C j ⊎ (j ≡ k)) (λ j. C j ⊎ IsListed j (k ∷ [])) R s.first
    (λ j c. elim c [ inl old ↦ inl old | inr l ↦ elim l [ inl e ↦ inr e | inr m ↦ absurd m ] ])
    (least_other C R s.first k h n)

some_lesser : (o : Option ℕ) (k : ℕ) → (f : ℕ) × (lesser o k ≡ Some f)
some_lesser None k = (k, refl)
some_lesser (Some f) k = elim (cases_Bool (nat_lt k f)) [ inl t ↦ (k, rw t refl) | inr t ↦ (f, rw t refl) ]

still_some : (ks : List ℕ) (s : State) (f : ℕ) → s.first ≡ Some f → (g : ℕ) × ((closing true ks s).first ≡ Some g)
still_some [] s f e = (f, e)
still_some (k ∷ ks) s f e = let r = some_lesser s.first k in still_some ks (close true s k) r.0 r.1

pub closing_finds : (k : ℕ) (ks : List ℕ) (s : State) → (f : ℕ) × ((closing true (k ∷ ks) s).first ≡ Some f)
closing_finds k ks s = let r = some_lesser s.first k in still_some ks (close true s k) r.0 r.1
