-- The walk along calls.
use Rattle.std.proofs.Common.{◌≡◌, ◌⊎◌, inl, inr, ℕ, zero, suc, ◌+◌, ◌-◌, ◌<◌, ◌≤◌, Bool, true, false, List, [], ◌∷◌, ◌++◌, length, Option, Some, None, take, refl, sym, ◌∙◌, ap, subst, arith, length-append}
use Rattle.std.specs.Prelude.{slice_get, slice_index_or}
use Rattle.std.specs.Global.{Vec}
use Rattle.std.specs.Option.{MatchOption, option_to_list}
use Rattle.std.proofs.lemmas.List.{append-nil}
use Rattle.plain_netlist.specs.Lists.{IsListed}
use Rattle.plain_netlist.specs.Chains.{IsChain, Reaches}
use Rattle.plain_netlist.proofs.Members.{in_left, in_right, either_side}
use Rattle.call_order.specs.Order.{Calls, lists}
use Rattle.call_order.proofs.Reach.{stays, through, one}
use Rattle.netlist_run.specs.Marks.{IsMarked, AreReached}
use Rattle.netlist_run.specs.Work.{Work, with_mark, with_row}
use Rattle.netlist_run.proofs.Marking.{Grows, left, mark_grows, row_grows}

-- the marked numbers are reached, those that wait are marked, and the calls of the others are marked
pub record Walks (calls : List (List ℕ)) (from : ℕ) (w : Work) : Type 0 where
  pub count : length w.marks ≡ length calls
  pub sound : (j : ℕ) → IsMarked w.marks j → Reaches (Calls calls) from j
  pub waits : (j : ℕ) → IsListed j w.work → IsMarked w.marks j
  pub closed : (a : ℕ) → IsMarked w.marks a → IsListed a w.work ⊎ ((b : ℕ) → Calls calls a b → b < length calls → IsMarked w.marks b)
  pub first : from < length calls → IsMarked w.marks from

-- the calls of number k marked, where k waited
pub step : (calls : List (List ℕ)) (from k : ℕ) (marks : List Bool) (front work : List ℕ) (q : Work) → Walks calls from (record { marks = marks; work = work }) → work ≡ front ++ k ∷ []
    → Grows (slice_index_or calls k []) (record { marks = marks; work = front }) q → Walks calls from q
step calls from k marks front work q w is g = record {
  count = g.count ∙ w.count;
  sound = λ j h. elim (g.only j h) [ inl a ↦ w.sound j a | inr b ↦ through calls from k j (w.sound k (w.waits k there)) (one calls k j b) ];
  waits = λ j h. elim (g.fresh j h) [ inl a ↦ g.stay j (w.waits j (front_in j a)) | inr b ↦ b ];
  closed = λ a h. elim (g.pushed a h) [
    | inl b ↦ elim (w.closed a b) [
      | inl c ↦ elim (either_side front (k ∷ []) a (subst (λ (l : List ℕ). IsListed a l) is c)) [
        | inl d ↦ inl (g.kept a d)
        | inr d ↦ elim d [
          | inl e ↦ inr (λ b call lt. g.all b (subst (λ (i : ℕ). Calls calls i b) e call) (subst (λ (n : ℕ). b < n) (sym w.count) lt))
          | inr none ↦ absurd none
        ]
      ]
      | inr c ↦ inr (λ b call lt. g.stay b (c b call lt))
    ]
    | inr b ↦ inl b
  ];
  first = λ lt. g.stay from (w.first lt);
}
  where
    there : IsListed k work
    there = subst (λ (l : List ℕ). IsListed k l) (sym is) (in_right front (k ∷ []) k (inl refl))

    front_in : (j : ℕ) → IsListed j front → IsListed j work
    front_in j h = subst (λ (l : List ℕ). IsListed j l) (sym is) (in_left front (k ∷ []) j h)

none_marked : (n j : ℕ) (marks : List Bool) → ((i : ℕ) → slice_index_or marks i false ≡ false) → IsMarked marks j → ⊥
none_marked n j marks h e = let f : true ≡ false = sym e ∙ h j in cc

-- the first number alone marked
pub begins : (calls : List (List ℕ)) (from : ℕ) (marks : List Bool) → length marks ≡ length calls → ((i : ℕ) → slice_index_or marks i false ≡ false)
    → Walks calls from (with_mark (record { marks = marks; work = [] }) from)
begins calls from marks long clear = let g = mark_grows (record { marks = marks; work = [] }) from in record {
  count = g.count ∙ long;
  sound = λ j h. elim (g.only j h) [
    | inl a ↦ absurd (none_marked 0 j marks clear a)
    | inr b ↦ elim b [ inl is ↦ subst (λ (i : ℕ). Reaches (Calls calls) from i) (sym is) (stays calls from) | inr none ↦ absurd none ]
  ];
  waits = λ j h. elim (g.fresh j h) [ inl a ↦ absurd a | inr b ↦ b ];
  closed = λ a h. elim (g.pushed a h) [ inl b ↦ absurd (none_marked 0 a marks clear b) | inr b ↦ inl b ];
  first = λ lt. g.all from (inl refl) (subst (λ (n : ℕ). from < n) (sym long) lt);
}

-- a number with a call has a list
has_list : (calls : List (List ℕ)) (a b : ℕ) → Calls calls a b → a < length calls
has_list [] a b h = absurd h
has_list (row ∷ calls) zero b h = omega arith
has_list (row ∷ calls) (suc a) b h = let e = has_list calls a b h in omega (arith, e)

within : (calls : List (List ℕ)) (via : List ℕ) (a b : ℕ) → IsChain (Calls calls) a via b → b < length calls → a < length calls
within calls [] a b h lt = subst (λ (n : ℕ). n < length calls) (sym h) lt
within calls (x ∷ via) a b h lt = has_list calls a x h.0

along : (calls : List (List ℕ)) (marks : List Bool) (via : List ℕ) (a b : ℕ) → ((a : ℕ) → IsMarked marks a → (b : ℕ) → Calls calls a b → b < length calls → IsMarked marks b)
    → IsMarked marks a → IsChain (Calls calls) a via b → b < length calls → IsMarked marks b
along calls marks [] a b closed m h lt = subst (λ (n : ℕ). IsMarked marks n) h m
along calls marks (x ∷ via) a b closed m h lt = along calls marks via x b closed (closed a m x h.0 (within calls via x b h.1 lt)) h.1 lt

-- nothing waits
pub ends : (calls : List (List ℕ)) (from : ℕ) (w : Work) → Walks calls from w → w.work ≡ [] → AreReached calls from w.marks
ends calls from w h e = record {
  count = h.count;
  each = λ k lt. (h.sound k, λ r. along calls w.marks r.via from k closed (h.first (within calls r.via from k r.chain lt)) r.chain lt);
}
  where
    closed : (a : ℕ) → IsMarked w.marks a → (b : ℕ) → Calls calls a b → b < length calls → IsMarked w.marks b
    closed a m = elim (h.closed a m) [ inl l ↦ absurd (subst (λ (l : List ℕ). IsListed a l) e l) | inr c ↦ c ]

-- the row of a number
pub row_there : (rows : List (Vec ℕ)) (k : ℕ) (r : Vec ℕ) → slice_get rows k ≡ Some r → slice_index_or (lists rows) k [] ≡ r.items
row_there [] k r e = absurd cc
row_there (x ∷ rows) zero r e = let f : x ≡ r = cc in ap (λ (v : Vec ℕ). v.items) f
row_there (x ∷ rows) (suc k) r e = row_there rows k r e

pub row_past : (rows : List (Vec ℕ)) (k : ℕ) → slice_get rows k ≡ None → slice_index_or (lists rows) k [] ≡ []
row_past [] k e = refl
row_past (x ∷ rows) zero e = absurd cc
row_past (x ∷ rows) (suc k) e = row_past rows k e

popped : (r : Option ℕ) (k : ℕ) (front : List ℕ) → r ≡ Some k → front ++ option_to_list r ≡ front ++ k ∷ []
popped r k front e = ap (λ (o : Option ℕ). front ++ option_to_list o) e

-- a popped number's calls marked
pub one_step : (calls : List (List ℕ)) (from k : ℕ) (r : Option ℕ) (marks : List Bool) (work front : List ℕ) (q : Work) → Walks calls from (record { marks = marks; work = work })
    → work ≡ front ++ option_to_list r → r ≡ Some k → q ≡ with_row (record { marks = marks; work = front }) (slice_index_or calls k []) → Walks calls from q
one_step calls from k r marks work front q w is some e =
    step calls from k marks front work q w (is ∙ popped r k front some)
    (subst (λ (x : Work). Grows (slice_index_or calls k []) (record { marks = marks; work = front }) x) (sym e) (row_grows (slice_index_or calls k []) (record { marks = marks; work = front })))

fewer_left : (marks : List Bool) (front work : List ℕ) (k : ℕ) → work ≡ front ++ k ∷ [] → left (record { marks = marks; work = front }) < left (record { marks = marks; work = work })
unfolding left
fewer_left marks front work k e = let n : length work ≡ length front + 1 = ap (λ (l : List ℕ). length l) e ∙ length-append front (k ∷ []) in omega (arith, n)

pub one_less : (calls : List (List ℕ)) (k : ℕ) (r : Option ℕ) (marks : List Bool) (work front : List ℕ) (q : Work) → work ≡ front ++ option_to_list r → r ≡ Some k
    → q ≡ with_row (record { marks = marks; work = front }) (slice_index_or calls k []) → left q < left (record { marks = marks; work = work })
one_less calls k r marks work front q is some e =
    let a = fewer_left marks front work k (is ∙ popped r k front some) in
    let b : left q ≤ left (record { marks = marks; work = front }) = subst (λ (x : Work). left x ≤ left (record { marks = marks; work = front })) (sym e)
    (row_grows (slice_index_or calls k []) (record { marks = marks; work = front })).less in
    omega (arith, a, b)

pub none_left : (r : Option ℕ) (work front : List ℕ) (n m : ℕ) → work ≡ front ++ option_to_list r → front ≡ take (n - 1) work → MatchOption r ((n ≡ 0) × (m ≡ 0)) (λ _. m + 1 ≡ n) → r ≡ None → work ≡ []
none_left (Some k) work front n m is rest cases e = absurd cc
none_left None work front n m is rest cases e =
    let z : n - 1 ≡ 0 = let l = cases.0 in omega (arith, l) in
    is ∙ append-nil front ∙ rest ∙ ap (λ (i : ℕ). take i work) z
