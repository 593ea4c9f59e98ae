-- The parts of the right to be the only seat.
use Rattle.std.proofs.Common.{◌≡◌, ◌≢◌, ◌⊎◌, ℕ, zero, suc, ◌+◌, ◌<◌, ◌≤◌, List, [], ◌∷◌, ◌++◌, set, length, Some, refl, sym, subst, ap, ◌∙◌, arith, inl, inr, ⊎_elim}
use mathlib.Core.Option.{some, some-injective}
use lib.ListN.{get_elem?}
use Rattle.atomic_table.proofs.Lists.{at_set}
use Rattle.job_board.specs.declared.view.Plan.{Plan}
use Rattle.job_board.specs.declared.view.View.{View}
use Rattle.job_board.specs.Views.{all_parts, kept_part, given_part, newcomer, spent_view, cut_view, split_off, joined_view, total_parts, AreParts}

pub gives_one : (n : ℕ) → 1 < n → (kept_part n + 1 ≡ n) × (given_part n ≡ 1)
gives_one zero l = absurd (omega arith)
gives_one (suc zero) l = absurd (omega arith)
gives_one (suc (suc n)) l = (omega arith, omega arith)

kept_less : (n : ℕ) → kept_part n ≤ n
kept_less zero = omega arith
kept_less (suc n) = omega arith

gives_few : (n : ℕ) → kept_part n + given_part n ≤ n
gives_few zero = omega arith
gives_few (suc zero) = omega arith
gives_few (suc (suc n)) = omega arith

both_some : (n : ℕ) → 0 < n → kept_part n + given_part n ≡ n → (0 < kept_part n) × (0 < given_part n)
both_some zero l e = absurd (omega arith)
both_some (suc zero) l e = absurd (omega arith)
both_some (suc (suc n)) l e = (omega arith, omega arith)

module _ {T K : Type 0} where
  pub at_new : (l : List (View T K)) (u b : View T K) (j : ℕ) → get_elem? (l ++ u ∷ []) j ≡ some b → (get_elem? l j ≡ some b) ⊎ ((j ≡ length l) × (u ≡ b))
  at_new [] u b zero e = inr (refl, some-injective u b e)
  at_new [] u b (suc j) e = absurd (cc)
  at_new (x ∷ xs) u b zero e = inl e
  at_new (x ∷ xs) u b (suc j) e = ⊎_elim (λ (t : get_elem? xs j ≡ some b). inl t) (λ (t : (j ≡ length xs) × (u ≡ b)). inr (ap suc t.0, t.1)) (at_new xs u b j e)

  pub unspent : (p : Plan T K) (v : View T K) → v.plan ≡ Some p → v ≢ spent_view
  unspent p v e s = let n = sym e ∙ ap (λ (z : View T K). z.plan) s in absurd (cc)

  pub total_set : (vs : List (View T K)) (id : ℕ) (v w : View T K) → get_elem? vs id ≡ some v → total_parts (set vs id w) + v.part ≡ total_parts vs + w.part
  total_set [] id v w e = absurd (cc)
  total_set (u ∷ us) zero v w e = let s = ap (λ (z : View T K). z.part) (some-injective u v e) in omega arith
  total_set (u ∷ us) (suc id) v w e = let r = total_set us id v w e in omega arith

  pub total_more : (vs : List (View T K)) (w : View T K) → total_parts (vs ++ w ∷ []) ≡ total_parts vs + w.part
  total_more [] w = omega arith
  total_more (u ∷ us) w = let r = total_more us w in omega arith

  one_part : (vs : List (View T K)) (id : ℕ) (v : View T K) → get_elem? vs id ≡ some v → v.part ≤ total_parts vs
  one_part [] id v e = absurd (cc)
  one_part (u ∷ us) zero v e = let s = ap (λ (z : View T K). z.part) (some-injective u v e) in omega arith
  one_part (u ∷ us) (suc id) v e = let r = one_part us id v e in omega arith

  two_parts : (vs : List (View T K)) (id other : ℕ) (v u : View T K) → get_elem? vs id ≡ some v → get_elem? vs other ≡ some u → other ≢ id → v.part + u.part ≤ total_parts vs
  two_parts [] id other v u e f n = absurd (cc)
  two_parts (x ∷ xs) zero zero v u e f n = absurd (n (let z : 0 ≡ 0 = omega arith in z))
  two_parts (x ∷ xs) zero (suc other) v u e f n = let s = ap (λ (z : View T K). z.part) (some-injective x v e) in let r = one_part xs other u f in omega arith
  two_parts (x ∷ xs) (suc id) zero v u e f n = let s = ap (λ (z : View T K). z.part) (some-injective x u f) in let r = one_part xs id v e in omega arith
  two_parts (x ∷ xs) (suc id) (suc other) v u e f n = let r = two_parts xs id other v u e f (λ z. n (ap suc z)) in omega arith

  -- where a seat has all parts, each other one is spent
  pub alone : (vs : List (View T K)) (id other : ℕ) (v u : View T K) → AreParts vs → get_elem? vs id ≡ some v → get_elem? vs other ≡ some u → other ≢ id → v.part ≡ all_parts → u ≡ spent_view
  alone vs id other v u h at there n all = let few = h.few in let two = two_parts vs id other v u at there n in ⊎_elim (λ z. z) (λ z. absurd (omega arith)) (h.each (omega arith) other u there)

  -- a seat's step keeps its parts
  pub parts_stay : (vs : List (View T K)) (id : ℕ) (v w : View T K) → get_elem? vs id ≡ some v → v ≢ spent_view → w.part ≡ v.part → AreParts vs → AreParts (set vs id w)
  parts_stay vs id v w at live same h = let t = total_set vs id v w at in let few = h.few in record {
    few = omega arith;
    each = λ e other u there. let a : total_parts vs ≡ all_parts = omega arith in ⊎_elim
        (λ (z : (other ≡ id) × (w ≡ u)). inr (⊎_elim (λ y. absurd (live y)) (λ (y : 0 < v.part). let s = ap (λ (q : View T K). q.part) z.1 in omega arith) (h.each a id v at)))
        (λ (z : (other ≢ id) × (get_elem? vs other ≡ some u)). h.each a other u z.1) (at_set vs id other w u there);
  }

  -- a seat's split gives of its parts
  pub parts_split : (vs : List (View T K)) (id : ℕ) (v : View T K) → get_elem? vs id ≡ some v → v ≢ spent_view → AreParts vs → AreParts (set vs id (cut_view v) ++ split_off v ∷ [])
  parts_split vs id v at live h = let t = total_set vs id v (cut_view v) at in let m = total_more (set vs id (cut_view v)) (split_off v) in let few = h.few in let g = gives_few v.part in record {
    few = omega arith;
    each = λ e other u there. let a : total_parts vs ≡ all_parts = omega arith in
        let some' : 0 < v.part = ⊎_elim (λ y. absurd (live y)) (λ y. y) (h.each a id v at) in
        let both = both_some v.part some' (omega arith) in ⊎_elim
        (λ (y : get_elem? (set vs id (cut_view v)) other ≡ some u). ⊎_elim
        (λ (z : (other ≡ id) × (cut_view v ≡ u)). inr (subst (λ (q : View T K). 0 < q.part) z.1 both.0))
        (λ (z : (other ≢ id) × (get_elem? vs other ≡ some u)). h.each a other u z.1) (at_set vs id other (cut_view v) u y))
        (λ (y : (other ≡ length (set vs id (cut_view v))) × (split_off v ≡ u)). inr (subst (λ (q : View T K). 0 < q.part) y.1 both.1))
        (at_new (set vs id (cut_view v)) (split_off v) u other there);
  }

  -- a join adds them up
  pub parts_join : (vs : List (View T K)) (id other : ℕ) (v w : View T K) → get_elem? vs id ≡ some v → v ≢ spent_view → get_elem? (set vs id (joined_view v w)) other ≡ some w → AreParts vs
      → AreParts (set (set vs id (joined_view v w)) other spent_view)
  parts_join vs id other v w at live there h =
      let t = total_set vs id v (joined_view v w) at in let m = total_set (set vs id (joined_view v w)) other w spent_view there in let few = h.few in record {
        few = omega arith;
        each = λ e o u is. let a : total_parts vs ≡ all_parts = omega arith in ⊎_elim
            (λ (y : (o ≡ other) × (spent_view ≡ u)). inl (sym y.1))
            (λ (y : (o ≢ other) × (get_elem? (set vs id (joined_view v w)) o ≡ some u)). ⊎_elim
            (λ (z : (o ≡ id) × (joined_view v w ≡ u)). inr (subst (λ (q : View T K). 0 < q.part) z.1
            (⊎_elim (λ x. absurd (live x)) (λ (x : 0 < v.part). let r : 0 < v.part + w.part = omega arith in r) (h.each a id v at))))
            (λ (z : (o ≢ id) × (get_elem? vs o ≡ some u)). h.each a o u z.1) (at_set vs id o (joined_view v w) u y.1))
            (at_set (set vs id (joined_view v w)) other o spent_view u is);
      }

  pub parts_open : (p : Plan T K) → AreParts (newcomer p ∷ [])
  parts_open p = record {
    few = omega arith;
    each = λ e id v at. inr (first id v at);
  }
    where
      first : (id : ℕ) (v : View T K) → get_elem? (newcomer p ∷ []) id ≡ some v → 0 < v.part
      first zero v e = let s = ap (λ (z : View T K). z.part) (some-injective (newcomer p) v e) in omega arith
      first (suc id) v e = absurd (cc)
