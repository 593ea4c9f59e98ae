-- The slots of the jobs stand apart, and what taking and giving back some of them leaves.
use Rattle.std.proofs.Common.{◌≡◌, ◌≢◌, ◌⊎◌, ℕ, zero, suc, ◌+◌, ◌<◌, ◌≤◌, Bool, true, false, ◌||◌, List, [], ◌∷◌, ◌++◌, map, length, set, slice_index, refl, sym, ap, ◌∙◌, arith, inl, inr, ⊎_elim, length-set}
use Rattle.std.proofs.lemmas.Bool.Decides.{nat_tests}
use Rattle.std.proofs.Math.Decide.{ℕ_discrete, dec_lt}
use mathlib.Core.Logic.{dite}
use mathlib.Core.Option.{some, none}
use mathlib.Core.Option as maybe
use lib.ListN.{get_elem?}
use Rattle.atomic_table.specs.Table.{Act, keeps, takes, gives, chain, homes_after, carried_after, Valid}
use Rattle.atomic_table.proofs.Lists.{set_here, set_else}
use Rattle.job_graph.specs.Graph.{inputs_of, AreAscending, AreInputs, has}
use Rattle.job_graph.proofs.Inputs.{has_here, has_else}
use Rattle.job_board.specs.Slots.{first, place, numbered, AreRight}

-- one block of slots behind the other
pub block : (g : List (List ℕ)) (k l : ℕ) → k < l → l ≤ length g → first g k + suc (length (inputs_of g k)) ≤ first g l
block [] k l a b = absurd (omega arith)
block (x ∷ g) k zero a b = absurd (omega arith)
block (x ∷ g) zero (suc l) a b = omega arith
block (x ∷ g) (suc k) (suc l) a b = let r = block g k l (omega arith) (omega arith) in omega arith

pub one_slot : (g : List (List ℕ)) (k l a b : ℕ) → k < length g → l < length g → a ≤ length (inputs_of g k) → b ≤ length (inputs_of g l) → first g k + a ≡ first g l + b → (k ≡ l) × (a ≡ b)
one_slot g k l a b kn ln ak bl e = dite (dec_lt k l) (λ h. let r = block g k l h (omega arith) in absurd (omega arith))
    (λ n. dite (dec_lt l k) (λ h. let r = block g l k h (omega arith) in absurd (omega arith)) (λ m. let s : k ≡ l = omega arith in let f : first g k ≡ first g l = ap (first g) s in (s, omega arith)))

-- places in a list
pub place_here : (x y : ℕ) (ys : List ℕ) → x ≡ y → place x (y ∷ ys) ≡ 0
place_here x y ys e = grind (arith, nat_tests)

pub place_else : (x y : ℕ) (ys : List ℕ) → x ≢ y → place x (y ∷ ys) ≡ suc (place x ys)
place_else x y ys e = grind (arith, nat_tests)

pub placed : (x : ℕ) (ys : List ℕ) → has x ys ≡ true → (place x ys < length ys) × (slice_index ys (place x ys) ≡ x)
placed x [] h = absurd (cc)
placed x (y ∷ ys) h = dite (ℕ_discrete x y)
    (λ e. let z = place_here x y ys e in (omega arith, ap (slice_index (y ∷ ys)) z ∙ sym e))
    (λ n. let z = place_else x y ys n in let r = placed x ys (sym (has_else x y ys n) ∙ h) in let l = r.0 in (omega arith, ap (slice_index (y ∷ ys)) z ∙ r.1))

pub has_index : (ys : List ℕ) (q : ℕ) → q < length ys → has (slice_index ys q) ys ≡ true
has_index [] q l = absurd (omega arith)
has_index (y ∷ ys) zero l = has_here y y ys refl
has_index (y ∷ ys) (suc q) l = dite (ℕ_discrete (slice_index ys q) y) (λ e. has_here (slice_index ys q) y ys e) (λ n. has_else (slice_index ys q) y ys n ∙ has_index ys q (omega arith))

low : (a : ℕ) (ys : List ℕ) (high q : ℕ) → AreAscending a ys high → q < length ys → a ≤ slice_index ys q
low a [] high q h l = absurd (omega arith)
low a (y ∷ ys) high zero h l = h.0
low a (y ∷ ys) high (suc q) h l = let r = low (suc y) ys high q h.2 (omega arith) in let s = h.0 in omega arith

pub apart_at : (a : ℕ) (ys : List ℕ) (high q r : ℕ) → AreAscending a ys high → q < length ys → r < length ys → slice_index ys q ≡ slice_index ys r → q ≡ r
apart_at a [] high q r h l m e = absurd (omega arith)
apart_at a (y ∷ ys) high zero zero h l m e = refl
apart_at a (y ∷ ys) high zero (suc r) h l m e = let t = low (suc y) ys high r h.2 (omega arith) in absurd (omega arith)
apart_at a (y ∷ ys) high (suc q) zero h l m e = let t = low (suc y) ys high q h.2 (omega arith) in absurd (omega arith)
apart_at a (y ∷ ys) high (suc q) (suc r) h l m e = ap suc (apart_at (suc y) ys high q r h.2 (omega arith) (omega arith) e)

-- the place of the q-th is q
pub its_place : (g : List (List ℕ)) (k q j : ℕ) → AreInputs g → k < length g → q < length (inputs_of g k) → slice_index (inputs_of g k) q ≡ j → q ≡ place j (inputs_of g k)
its_place g k q j a l m e = let h : has j (inputs_of g k) ≡ true = ap (λ z. has z (inputs_of g k)) (sym e) ∙ has_index (inputs_of g k) q m in let r = placed j (inputs_of g k) h in
    apart_at 0 (inputs_of g k) k q (place j (inputs_of g k)) (a.lower k l) m r.0 (e ∙ sym r.1)

pub has_append : (e : ℕ) (xs ys : List ℕ) → has e (xs ++ ys) ≡ (has e xs || has e ys)
has_append e [] ys = refl
has_append e (x ∷ xs) ys = dite (ℕ_discrete e x)
    (λ s. has_here e x (xs ++ ys) s ∙ ap (λ b. b || has e ys) (sym (has_here e x xs s)))
    (λ n. has_else e x (xs ++ ys) n ∙ has_append e xs ys ∙ ap (λ b. b || has e ys) (sym (has_else e x xs n)))

pub in_left : (e : ℕ) (xs ys : List ℕ) → has e xs ≡ true → has e (xs ++ ys) ≡ true
in_left e xs ys h = has_append e xs ys ∙ ap (λ b. b || has e ys) h

pub in_right : (e : ℕ) (xs ys : List ℕ) → has e ys ≡ true → has e (xs ++ ys) ≡ true
in_right e xs ys h = has_append e xs ys ∙ ap (λ b. has e xs || b) h ∙ or_true (has e xs) where
  or_true : (b : Bool) → (b || true) ≡ true
  or_true true = refl
  or_true false = refl

pub in_neither : (e : ℕ) (xs ys : List ℕ) → has e xs ≡ false → has e ys ≡ false → has e (xs ++ ys) ≡ false
in_neither e xs ys h k = has_append e xs ys ∙ ap (λ b. b || has e ys) h ∙ k

abbrev pub IsApart : List ℕ → Type 0
IsApart [] = Unit {0}
IsApart (n ∷ ns) = (has n ns ≡ false) × IsApart ns

-- two lists that share none
pub apart_append : (xs ys : List ℕ) → IsApart xs → IsApart ys → ((e : ℕ) → has e xs ≡ true → has e ys ≡ false) → IsApart (xs ++ ys)
apart_append [] ys a b n = b
apart_append (x ∷ xs) ys a b n = (
  in_neither x xs ys a.0 (n x (has_here x x xs refl)),
  apart_append xs ys a.1 b (λ e h. n e (dite (ℕ_discrete e x) (λ s. has_here e x xs s) (λ m. has_else e x xs m ∙ h))),
)

module _ {S : Type 0} where
  abbrev pub names : List (ℕ × S) → List ℕ
  names xs = map (λ (x : ℕ × S). x.0) xs

  abbrev pub AreAt : List (maybe.Option S) → List (ℕ × S) → Type 0
  AreAt hs [] = Unit {0}
  AreAt hs (x ∷ xs) = (get_elem? hs x.0 ≡ some (some x.1)) × AreAt hs xs

  pub at_append : (hs : List (maybe.Option S)) (xs ys : List (ℕ × S)) → AreAt hs xs → AreAt hs ys → AreAt hs (xs ++ ys)
  at_append hs [] ys a b = b
  at_append hs (x ∷ xs) ys a b = (a.0, at_append hs xs ys a.1 b)

  -- takes them, the first one last
  abbrev pub take_them : List (ℕ × S) → Act S
  take_them [] = keeps
  take_them (x ∷ xs) = chain (take_them xs) (takes x.0 x.1)

  pub carried_them : (c xs : List (ℕ × S)) → carried_after c (take_them xs) ≡ xs ++ c
  carried_them c [] = refl
  carried_them c (x ∷ xs) = ap (λ ys. x ∷ ys) (carried_them c xs)

  abbrev left : List (maybe.Option S) → List (ℕ × S) → List (ℕ × S) → List (maybe.Option S)
  left hs c xs = homes_after hs c (take_them xs)

  pub left_length : (hs : List (maybe.Option S)) (c xs : List (ℕ × S)) → length (left hs c xs) ≡ length hs
  left_length hs c [] = refl
  left_length hs c (x ∷ xs) = length-set (left hs c xs) x.0 none ∙ left_length hs c xs

  pub left_else : (hs : List (maybe.Option S)) (c xs : List (ℕ × S)) (e : ℕ) → has e (names xs) ≡ false → get_elem? (left hs c xs) e ≡ get_elem? hs e
  left_else hs c [] e h = refl
  left_else hs c (x ∷ xs) e h = dite (ℕ_discrete e x.0)
      (λ s. let t = has_here e x.0 (names xs) s in absurd (cc))
      (λ n. set_else (left hs c xs) x.0 e none n ∙ left_else hs c xs e (sym (has_else e x.0 (names xs) n) ∙ h))

  pub left_here : (hs : List (maybe.Option S)) (c xs : List (ℕ × S)) (e : ℕ) → e < length hs → has e (names xs) ≡ true → get_elem? (left hs c xs) e ≡ some none
  left_here hs c [] e l h = absurd (cc)
  left_here hs c (x ∷ xs) e l h = dite (ℕ_discrete e x.0)
      (λ s. ap (get_elem? (set (left hs c xs) x.0 none)) s ∙ set_here (left hs c xs) x.0 none (let r = left_length hs c xs in omega arith))
      (λ n. set_else (left hs c xs) x.0 e none n ∙ left_here hs c xs e l (sym (has_else e x.0 (names xs) n) ∙ h))

  pub takes_valid : (hs : List (maybe.Option S)) (c xs : List (ℕ × S)) → AreAt hs xs → IsApart (names xs) → Valid hs c (take_them xs)
  takes_valid hs c [] a n = tt
  takes_valid hs c (x ∷ xs) a n = (takes_valid hs c xs a.1 n.1, left_else hs c xs x.0 n.0 ∙ a.0)

  -- gives as many back, the first one first
  abbrev pub give_them : List (ℕ × S) → Act S
  give_them [] = keeps
  give_them (x ∷ xs) = chain gives (give_them xs)

  abbrev back : List (maybe.Option S) → List (ℕ × S) → List (ℕ × S) → List (maybe.Option S)
  back hs xs c = homes_after hs (xs ++ c) (give_them xs)

  pub gives_valid : (hs : List (maybe.Option S)) (xs c : List (ℕ × S)) → Valid hs (xs ++ c) (give_them xs)
  gives_valid hs [] c = tt
  gives_valid hs (x ∷ xs) c = (tt, gives_valid (set hs x.0 (some x.1)) xs c)

  pub given_carried : (xs c : List (ℕ × S)) → carried_after (xs ++ c) (give_them xs) ≡ c
  given_carried [] c = refl
  given_carried (x ∷ xs) c = given_carried xs c

  pub back_length : (hs : List (maybe.Option S)) (xs c : List (ℕ × S)) → length (back hs xs c) ≡ length hs
  back_length hs [] c = refl
  back_length hs (x ∷ xs) c = back_length (set hs x.0 (some x.1)) xs c ∙ length-set hs x.0 (some x.1)

  pub back_else : (hs : List (maybe.Option S)) (xs c : List (ℕ × S)) (e : ℕ) → has e (names xs) ≡ false → get_elem? (back hs xs c) e ≡ get_elem? hs e
  back_else hs [] c e h = refl
  back_else hs (x ∷ xs) c e h = dite (ℕ_discrete e x.0)
      (λ s. let t = has_here e x.0 (names xs) s in absurd (cc))
      (λ n. back_else (set hs x.0 (some x.1)) xs c e (sym (has_else e x.0 (names xs) n) ∙ h) ∙ set_else hs x.0 e (some x.1) n)

  -- a value that stands in the list of what was given
  abbrev pub Among : ℕ → S → List (ℕ × S) → Type 0
  Among e y [] = ⊥
  Among e y (x ∷ xs) = ((e ≡ x.0) × (y ≡ x.1)) ⊎ Among e y xs

  among_has : (e : ℕ) (y : S) (xs : List (ℕ × S)) → Among e y xs → has e (names xs) ≡ true
  among_has e y [] m = absurd m
  among_has e y (x ∷ xs) m = dite (ℕ_discrete e x.0) (λ s. has_here e x.0 (names xs) s) (λ n. has_else e x.0 (names xs) n ∙ among_has e y xs (⊎_elim (λ (t : (e ≡ x.0) × (y ≡ x.1)). absurd (n t.0)) (λ (t : Among e y xs). t) m))

  pub back_here : (hs : List (maybe.Option S)) (xs c : List (ℕ × S)) (e : ℕ) (y : S) → e < length hs → IsApart (names xs) → Among e y xs → get_elem? (back hs xs c) e ≡ some (some y)
  back_here hs [] c e y l n m = absurd m
  back_here hs (x ∷ xs) c e y l n m = ⊎_elim
      (λ (t : (e ≡ x.0) × (y ≡ x.1)). ap (get_elem? (back (set hs x.0 (some x.1)) xs c)) t.0 ∙ back_else (set hs x.0 (some x.1)) xs c x.0 n.0 ∙ set_here hs x.0 (some x.1) (let s = t.0 in omega arith) ∙ ap (λ z. some (some z)) (sym t.1))
      (λ (t : Among e y xs). back_here (set hs x.0 (some x.1)) xs c e y (let s = length-set hs x.0 (some x.1) in omega arith) n.1 t) m

  -- the names of values side by side
  pub numbered_out : (base : ℕ) (ys : List S) (e : ℕ) → (e < base) ⊎ (base + length ys ≤ e) → has e (names (numbered base ys)) ≡ false
  numbered_out base [] e h = refl
  numbered_out base (y ∷ ys) e h = let n : e ≢ base = λ s. ⊎_elim (λ (t : e < base). absurd (omega arith)) (λ (t : base + suc (length ys) ≤ e). absurd (omega arith)) h in
      has_else e base (names (numbered (suc base) ys)) n ∙ numbered_out (suc base) ys e (⊎_elim (λ (t : e < base). inl (omega arith)) (λ (t : base + suc (length ys) ≤ e). inr (omega arith)) h)

  pub numbered_in : (base : ℕ) (ys : List S) (e : ℕ) → base ≤ e → e < base + length ys → has e (names (numbered base ys)) ≡ true
  numbered_in base [] e a b = absurd (omega arith)
  numbered_in base (y ∷ ys) e a b = dite (ℕ_discrete e base) (λ s. has_here e base (names (numbered (suc base) ys)) s)
      (λ n. has_else e base (names (numbered (suc base) ys)) n ∙ numbered_in (suc base) ys e (omega arith) (omega arith))

  pub numbered_apart : (base : ℕ) (ys : List S) → IsApart (names (numbered base ys))
  numbered_apart base [] = tt
  numbered_apart base (y ∷ ys) = (numbered_out (suc base) ys base (inl (omega arith)), numbered_apart (suc base) ys)

  -- the names of edges
  module _ (f : ℕ → ℕ) (y : S) where
    abbrev each : List ℕ → List (ℕ × S)
    each ks = map (λ k. (f k, y)) ks

    pub each_out : (ks : List ℕ) (e : ℕ) → ((r : ℕ) → r < length ks → f (slice_index ks r) ≢ e) → has e (names (each ks)) ≡ false
    each_out [] e n = refl
    each_out (k ∷ ks) e n = has_else e (f k) (names (each ks)) (λ s. n 0 (omega arith) (sym s)) ∙ each_out ks e (λ r l. n (suc r) (omega arith))

    pub each_in : (ks : List ℕ) (r : ℕ) → r < length ks → has (f (slice_index ks r)) (names (each ks)) ≡ true
    each_in [] r l = absurd (omega arith)
    each_in (k ∷ ks) zero l = has_here (f k) (f k) (names (each ks)) refl
    each_in (k ∷ ks) (suc r) l = dite (ℕ_discrete (f (slice_index ks r)) (f k)) (λ s. has_here (f (slice_index ks r)) (f k) (names (each ks)) s)
        (λ n. has_else (f (slice_index ks r)) (f k) (names (each ks)) n ∙ each_in ks r (omega arith))

    pub each_apart : (ks : List ℕ) → ((q r : ℕ) → q < length ks → r < length ks → f (slice_index ks q) ≡ f (slice_index ks r) → q ≡ r) → IsApart (names (each ks))
    each_apart [] n = tt
    each_apart (k ∷ ks) n = (each_out ks (f k) (λ r l s. let t = n (suc r) 0 (omega arith) (omega arith) s in absurd (omega arith)), each_apart ks (λ q r a b s. let t = n (suc q) (suc r) (omega arith) (omega arith) s in omega arith))

    pub each_at : (hs : List (maybe.Option S)) (ks : List ℕ) → ((r : ℕ) → r < length ks → get_elem? hs (f (slice_index ks r)) ≡ some (some y)) → AreAt hs (each ks)
    each_at hs [] h = tt
    each_at hs (k ∷ ks) h = (h 0 (omega arith), each_at hs ks (λ r l. h (suc r) (omega arith)))

  -- the values that stand side by side
  pub collect : (right : ℕ → S → Type 0) (hs : List (maybe.Option S)) (base : ℕ) (is : List ℕ) → ((q : ℕ) → q < length is → (y : S) × (get_elem? hs (base + q) ≡ some (some y)) × right (slice_index is q) y)
      → (ys : List S) × AreAt hs (numbered base ys) × AreRight right is ys × (length ys ≡ length is)
  collect right hs base [] h = ([], tt, tt, refl)
  collect right hs base (i ∷ is) h = let a = h 0 (omega arith) in
      let r = collect right hs (suc base) is (λ q l. let b = h (suc q) (omega arith) in (b.0, ap (get_elem? hs) (let e : suc base + q ≡ base + suc q = omega arith in e) ∙ b.1, b.2)) in
      (a.0 ∷ r.0, (ap (get_elem? hs) (let e : base ≡ base + 0 = omega arith in e) ∙ a.1, r.1), (a.2, r.2), ap suc r.3)
