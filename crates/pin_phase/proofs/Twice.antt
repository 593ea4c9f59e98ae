-- Numbers that stand twice in a list.
use Rattle.std.proofs.Common.{◌≡◌, inl, inr, ℕ, zero, suc, ◌+◌, ◌<◌, ◌==◌, ◌&&◌, ◌||◌, Bool, true, false, List, [], ◌∷◌, ◌++◌, Some, take, replicate, get_or, length, slice_get, refl, sym, ◌∙◌, ap, arith}
use Rattle.base_laws.proofs.Lists.{none_set}
use Rattle.std.proofs.lemmas.Bool.{eq-eqb, eqb-true, cases_Bool, or_cases, or_left, or_right, and_parts, and_from, false≢true}
use Rattle.std.proofs.lemmas.List.{take_more}
use Rattle.std.proofs.lemmas.List.Folds.{list_any-append}
use Rattle.std.proofs.Math.Seq.{take-length}
use Rattle.std.specs.List.{list_any}
use Rattle.pin_phase.specs.Links.{is_twice}

shuffle : (h a y t : Bool) → ((h && (a || (y || false))) || (t || (y && a))) ≡ (((h && a) || t) || ((h || a) && y))
shuffle true true true t = refl
shuffle true true false t = refl
shuffle true false true true = refl
shuffle true false true false = refl
shuffle true false false true = refl
shuffle true false false false = refl
shuffle false true true true = refl
shuffle false true true false = refl
shuffle false true false true = refl
shuffle false true false false = refl
shuffle false false true true = refl
shuffle false false true false = refl
shuffle false false false true = refl
shuffle false false false false = refl

swap : (y a : Bool) → (a && y) ≡ (y && a)
swap true true = refl
swap true false = refl
swap false true = refl
swap false false = refl

-- one number more
twice_push : (x : ℕ) (xs : List ℕ) (y : ℕ) → is_twice x (xs ++ y ∷ []) ≡ (is_twice x xs || (x == y && list_any (λ z. x == z) xs))
twice_push x [] y = one (x == y)
  where
    one : (b : Bool) → ((b && false) || false) ≡ (false || (b && false))
    one true = refl
    one false = refl
twice_push x (h ∷ xs) y =
    let a = list_any (λ z. x == z) xs in
    ap (λ (b : Bool). (x == h && b) || is_twice x (xs ++ y ∷ [])) (list_any-append (λ z. x == z) xs (y ∷ []))
    ∙ ap (λ (b : Bool). (x == h && (a || (x == y || false))) || b) (twice_push x xs y)
    ∙ shuffle (x == h) a (x == y) (is_twice x xs)
    ∙ ap (λ (b : Bool). ((x == h && a) || is_twice x xs) || b) (swap (x == y) (x == h || a))

-- after n numbers
pub record AreTwiceTo (old : List Bool) (net_of : List ℕ) (n : ℕ) (seen marks : List Bool) : Type 0 where
  pub long : length seen ≡ length old
  pub count : length marks ≡ length old
  pub stood : (x : ℕ) → get_or seen x false ≡ list_any (λ z. x == z) (take n net_of)
  pub marked : (x : ℕ) → get_or marks x false ≡ (get_or old x false || is_twice x (take n net_of))

or_none : (b : Bool) → b ≡ (b || false)
or_none true = refl
or_none false = refl

pub twice_none : (old seen : List Bool) (net_of : List ℕ) (n : ℕ) → n ≡ length old → seen ≡ replicate n false → length seen ≡ n → AreTwiceTo old net_of 0 seen old
twice_none old seen net_of n long is count = record {
  long = count ∙ long;
  count = refl;
  stood = λ x. ap (λ (l : List Bool). get_or l x false) is ∙ none_set n x;
  marked = λ x. or_none (get_or old x false);
}

either_way : (x y : ℕ) (seen : List Bool) → (x == y && get_or seen y false) ≡ (x == y && get_or seen x false)
either_way x y seen = elim (cases_Bool (x == y)) [
  | inl e ↦ ap (λ n. x == y && get_or seen n false) (sym (eqb-true x y e))
  | inr e ↦ ap (λ (b : Bool). b && get_or seen y false) e ∙ sym (ap (λ (b : Bool). b && get_or seen x false) e)
]

gather : (o t m : Bool) → (m || (o || t)) ≡ (o || (t || m))
gather true true true = refl
gather true true false = refl
gather true false true = refl
gather true false false = refl
gather false true true = refl
gather false true false = refl
gather false false true = refl
gather false false false = refl

seen_turn : (a y : Bool) → ((true && y) || a) ≡ (a || (y || false))
seen_turn true true = refl
seen_turn true false = refl
seen_turn false true = refl
seen_turn false false = refl

pub twice_more : (old seen marks seen_new marks_new : List Bool) (net_of : List ℕ) (n y : ℕ) (wanted : Bool) → n < length net_of → y ≡ get_or net_of n y → wanted ≡ get_or seen y false
    → length marks_new ≡ length marks → ((x : ℕ) → get_or marks_new x false ≡ ((wanted && (x == y)) || get_or marks x false))
    → length seen_new ≡ length seen → ((x : ℕ) → get_or seen_new x false ≡ ((true && (x == y)) || get_or seen x false))
    → AreTwiceTo old net_of n seen marks → AreTwiceTo old net_of (n + 1) seen_new marks_new
twice_more old seen marks seen_new marks_new net_of n y wanted lt is want count marked long now h =
    let split : take (n + 1) net_of ≡ take n net_of ++ y ∷ [] = take_more net_of n y lt ∙ ap (λ z. take n net_of ++ z ∷ []) (sym is) in
    record {
      long = long ∙ h.long;
      count = count ∙ h.count;
      stood = λ x. now x ∙ ap (λ (b : Bool). (true && (x == y)) || b) (h.stood x) ∙ seen_turn (list_any (λ z. x == z) (take n net_of)) (x == y)
          ∙ sym (ap (list_any (λ z. x == z)) split ∙ list_any-append (λ z. x == z) (take n net_of) (y ∷ []));
      marked = λ x.
          let t = is_twice x (take n net_of) in let a = list_any (λ z. x == z) (take n net_of) in
          marked x ∙ ap (λ (b : Bool). b || get_or marks x false) (swap (x == y) wanted) ∙ ap (λ (b : Bool). (x == y && wanted) || b) (h.marked x) ∙ ap (λ (b : Bool). (x == y && b) || (get_or old x false || t)) want
          ∙ ap (λ (b : Bool). b || (get_or old x false || t)) (either_way x y seen ∙ ap (λ (b : Bool). x == y && b) (h.stood x))
          ∙ gather (get_or old x false) t (x == y && a)
          ∙ sym (ap (λ (l : List ℕ). get_or old x false || is_twice x l) split ∙ ap (λ (b : Bool). get_or old x false || b) (twice_push x (take n net_of) y));
    }

pub twice_all : (old seen marks : List Bool) (net_of : List ℕ) (n : ℕ) → n ≡ length net_of → AreTwiceTo old net_of n seen marks → (x : ℕ) → get_or marks x false ≡ (get_or old x false || is_twice x net_of)
twice_all old seen marks net_of n e h x = h.marked x ∙ ap (λ (l : List ℕ). get_or old x false || is_twice x l) (ap (λ k. take k net_of) e ∙ take-length net_of)

-- two places have the number
any_at : (x : ℕ) (xs : List ℕ) → list_any (λ z. x == z) xs ≡ true → (i : ℕ) × (slice_get xs i ≡ Some x)
any_at x [] h = absurd (false≢true h)
any_at x (y ∷ xs) h = elim (or_cases (x == y) (list_any (λ z. x == z) xs) h) [
  | inl e ↦ (0, ap Some (sym (eqb-true x y e)))
  | inr e ↦ let r = any_at x xs e in (suc r.0, r.1)
]

at_any : (x : ℕ) (xs : List ℕ) (i : ℕ) → slice_get xs i ≡ Some x → list_any (λ z. x == z) xs ≡ true
at_any x [] i h = absurd (let z : ⊥ = cc in z)
at_any x (y ∷ xs) zero h = or_left (x == y) (list_any (λ z. x == z) xs) (eq-eqb x y (let e : Some y ≡ Some x = h in let g : x ≡ y = cc in g))
at_any x (y ∷ xs) (suc i) h = or_right (x == y) (list_any (λ z. x == z) xs) (at_any x xs i h)

pub twice_at : (x : ℕ) (xs : List ℕ) → is_twice x xs ≡ true → (i : ℕ) × (j : ℕ) × (i < j) × (slice_get xs i ≡ Some x) × (slice_get xs j ≡ Some x)
twice_at x [] h = absurd (false≢true h)
twice_at x (y ∷ xs) h = elim (or_cases (x == y && list_any (λ z. x == z) xs) (is_twice x xs) h) [
  | inl e ↦ let b = and_parts (x == y) (list_any (λ z. x == z) xs) e in let r = any_at x xs b.1 in (0, suc r.0, omega arith, ap Some (sym (eqb-true x y b.0)), r.1)
  | inr e ↦ let r = twice_at x xs e in (suc r.0, suc r.1, (let lt = r.2 in omega (arith, lt)), r.3, r.4)
]

pub at_twice : (x : ℕ) (xs : List ℕ) (i j : ℕ) → i < j → slice_get xs i ≡ Some x → slice_get xs j ≡ Some x → is_twice x xs ≡ true
at_twice x [] i j lt h g = absurd (let z : ⊥ = cc in z)
at_twice x (y ∷ xs) i zero lt h g = absurd (omega arith)
at_twice x (y ∷ xs) zero (suc j) lt h g =
    or_left (x == y && list_any (λ z. x == z) xs) (is_twice x xs) (and_from (x == y) (list_any (λ z. x == z) xs) (eq-eqb x y (let e : Some y ≡ Some x = h in let f : x ≡ y = cc in f)) (at_any x xs j g))
at_twice x (y ∷ xs) (suc i) (suc j) lt h g = or_right (x == y && list_any (λ z. x == z) xs) (is_twice x xs) (at_twice x xs i j (omega arith) h g)
