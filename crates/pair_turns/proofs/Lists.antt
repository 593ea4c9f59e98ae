-- Lists without repeats, put together and picked from.
use Rattle.std.proofs.Common.{◌≡◌, inl, inr, ℕ, zero, suc, ◌-◌, ◌≤◌, List, [], ◌∷◌, ◌++◌, length, map, take, drop, Bool, true, false, cond, refl, sym, ap, subst, ◌∙◌, arith}
use Rattle.std.proofs.lemmas.Bool.{or_left, or_right}
use Rattle.std.specs.Prelude.{◌||◌, replicate, slice_index_or}
use Rattle.std.specs.List.{All, filter, list_any}
use Rattle.std.specs.Str.{bytes_eq}
use Rattle.std.proofs.lemmas.List.{take_all}
use Rattle.std.proofs.lemmas.Slice.Eq.{bytes_eq-Decides}
use Rattle.plain_netlist.specs.Lists.{AreApart, IsListed}
use Rattle.plain_netlist.proofs.Members.{either_side}

pub apart_join : {A : Type 0} (xs ys : List A) → AreApart xs → AreApart ys → ((a : A) → IsListed a xs → IsListed a ys → ⊥) → AreApart (xs ++ ys)
apart_join [] ys h g none = g
apart_join (x ∷ xs) ys h g none = (
  (λ l. elim (either_side xs ys x l) [ inl k ↦ h.0 k | inr k ↦ none x (inl refl) k ]),
  apart_join xs ys h.1 g (λ a k l. none a (inr k) l),
)

pub on_map : {A B : Type 0} (f : A → B) (xs : List A) (a : A) → IsListed a xs → IsListed (f a) (map f xs)
on_map f [] a h = absurd h
on_map f (x ∷ xs) a (inl e) = inl (ap f e)
on_map f (x ∷ xs) a (inr h) = inr (on_map f xs a h)

-- b is what f makes of an item of the list
pub record IsOf {A B : Type 0} (f : A → B) (xs : List A) (b : B) : Type 0 where
  pub item : A
  pub there : IsListed item xs
  pub is : b ≡ f item

pub of_map : {A B : Type 0} (f : A → B) (xs : List A) (b : B) → IsListed b (map f xs) → IsOf f xs b
of_map f [] b h = absurd h
of_map f (x ∷ xs) b (inl e) = record { item = x; there = inl refl; is = e }
of_map f (x ∷ xs) b (inr h) = let r = of_map f xs b h in record { item = r.item; there = inr r.there; is = r.is }

-- what is picked was there, and passes
pub picked : {A : Type 0} (p : A → Bool) (xs : List A) (a : A) → IsListed a (filter p xs) → IsListed a xs × (p a ≡ true)
picked p [] a h = absurd h
picked p (x ∷ xs) a h = step (p x) refl (λ l. picked p xs a l) h
  where
    step : (t : Bool) → p x ≡ t → (IsListed a (filter p xs) → IsListed a xs × (p a ≡ true)) → IsListed a (cond t (x ∷ filter p xs) (filter p xs)) → IsListed a (x ∷ xs) × (p a ≡ true)
    step true e more (inl same) = (inl same, ap p same ∙ e)
    step true e more (inr l) = let r = more l in (inr r.0, r.1)
    step false e more l = let r = more l in (inr r.0, r.1)

pub picked_apart : {A B : Type 0} (p : A → Bool) (f : A → B) (xs : List A) → AreApart (map f xs) → AreApart (map f (filter p xs))
picked_apart p f [] h = tt
picked_apart p f (x ∷ xs) h = step (p x) (picked_apart p f xs h.1)
  where
    none : IsListed (f x) (map f (filter p xs)) → ⊥
    none l = let r = of_map f (filter p xs) (f x) l in h.0 (subst (λ b. IsListed b (map f xs)) (sym r.is) (on_map f xs r.item (picked p xs r.item r.there).0))

    step : (t : Bool) → AreApart (map f (filter p xs)) → AreApart (map f (cond t (x ∷ filter p xs) (filter p xs)))
    step true more = (none, more)
    step false more = more

-- what keeps items apart that another map does
pub apart_through : {A B C : Type 0} (f : A → B) (g : A → C) → ((a b : A) → g a ≡ g b → f a ≡ f b) → (xs : List A) → AreApart (map f xs) → AreApart (map g xs)
apart_through f g one [] h = tt
apart_through f g one (x ∷ xs) h = (
  (λ l. let r = of_map g xs (g x) l in h.0 (subst (λ b. IsListed b (map f xs)) (sym (one x r.item r.is)) (on_map f xs r.item r.there))),
  apart_through f g one xs h.1,
)

-- a text is found where it is listed

pub found : (q : List ℕ) (names : List (List ℕ)) → IsListed q names → list_any (bytes_eq q) names ≡ true
found q [] h = absurd h
found q (n ∷ ns) (inl e) = or_left (bytes_eq q n) _ ((bytes_eq-Decides q n).1 e)
found q (n ∷ ns) (inr h) = or_right (bytes_eq q n) _ (found q ns h)

pub listed_found : (q : List ℕ) (names : List (List ℕ)) → list_any (bytes_eq q) names ≡ true → IsListed q names
listed_found q [] e = absurd cc
listed_found q (n ∷ ns) e = step (bytes_eq q n) refl (λ h. listed_found q ns h) e
  where
    step : (t : Bool) → bytes_eq q n ≡ t → (list_any (bytes_eq q) ns ≡ true → IsListed q ns) → (t || list_any (bytes_eq q) ns) ≡ true → IsListed q (n ∷ ns)
    step true is more h = inl ((bytes_eq-Decides q n).0 is)
    step false is more h = inr (more h)

pub cancel : {A : Type 0} (ws us vs : List A) → ws ++ us ≡ ws ++ vs → us ≡ vs
cancel [] us vs e = e
cancel (w ∷ ws) us vs e = let more : ws ++ us ≡ ws ++ vs = cc in cancel ws us vs more

-- ---- lists of one item, and items one by one

pub filled : {A : Type 0} (n k : ℕ) (a : A) → slice_index_or (replicate n a) k a ≡ a
filled zero k a = refl
filled (suc n) zero a = refl
filled (suc n) (suc k) a = filled n k a

-- the first item and the others
pub first_and_rest : {A : Type 0} (xs : List A) (x : A) → 1 ≤ length xs → x ≡ slice_index_or xs 0 x → xs ≡ x ∷ take (length xs - 1) (drop 1 xs)
first_and_rest [] x h e = absurd (omega (arith, h))
first_and_rest {A = A} (y ∷ ys) x h e =
    let whole : take (length (y ∷ ys) - 1) ys ≡ ys = take_all (length (y ∷ ys) - 1) ys (omega arith) in
    ap (λ (z : A). z ∷ ys) (sym e) ∙ ap (λ (zs : List A). x ∷ zs) (sym whole)

pub all_rest : {A : Type 0} (P : A → Type 0) (x : A) (xs : List A) → All P (x ∷ xs) → All P xs
all_rest P x xs h k d lt = h (suc k) d (omega (arith, lt))
