-- What a finished walk has found, and why numbers in an order of calls don't reach themselves.
use Rattle.std.proofs.Common.{◌≡◌, ◌⊎◌, inl, inr, ℕ, zero, suc, ◌<◌, ◌≤◌, List, [], ◌∷◌, length, take, Option, Some, None, slice_get, refl, sym, ap, subst, ◌∙◌, arith}
use Rattle.std.specs.Prelude.{slice_index_or}
use Rattle.std.proofs.lemmas.Option.{slice_get_within, get_or_from_slice_get}
use Rattle.plain_netlist.specs.Chains.{IsChain}
use Rattle.plain_netlist.specs.Lists.{IsListed, AreApart}
use Rattle.call_order.specs.Order.{Calls, ReachesItself, IsCallOrder, IsFirstInCycle, NoCycleLaw}
use Rattle.call_order.specs.declared.walk.Place.{Place}
use Rattle.call_order.specs.declared.walk.Place.TheVariants.{Unseen, Open, Closed}
use Rattle.call_order.specs.declared.walk.Ring.{Ring}
use Rattle.call_order.specs.Walk.{State, place_of, IsUnmet, IsClosed, AreRings, AreBehind, LeastOf, IsWalk}
use Rattle.call_order.proofs.Steps.{met_there, closed_met}

place_cases : (p : Place) → (p ≡ Unseen) ⊎ (((i : ℕ) × (p ≡ Open i)) ⊎ (p ≡ Closed))
place_cases Unseen = inl refl
place_cases (Open i) = inr (inl (i, refl))
place_cases Closed = inr (inr refl)

module _ (calls : List (List ℕ)) (s : State) (w : IsWalk calls s) (still : s.work ≡ []) where
  no_path : (rs : List Ring) (f : ℕ) → f ≡ 0 → AreRings calls s (length s.path) f rs → length s.path ≡ 0
  no_path [] f e h = h.0
  no_path (r ∷ rs) f e h = let some = h.0.some_work in absurd (omega arith)

  -- nothing is on the path
  pub closed_now : (k : ℕ) → (IsUnmet s k → ⊥) → IsClosed s k
  closed_now k met = elim (place_cases (place_of s k)) [
    | inl u ↦ absurd (met u)
    | inr (inl (i, o)) ↦
        let none = no_path s.rings (length s.work) (ap (λ (ks : List ℕ). length ks) still) w.rings in
        let p = (w.base.open_place k i o).0 in absurd (omega arith)
    | inr (inr c) ↦ c
  ]

  module _ (met : (k : ℕ) → k < length calls → IsUnmet s k → ⊥) where
    there : (k : ℕ) → IsClosed s k → k < length calls
    there k c = let l = met_there s k (closed_met calls s w.base k c) in let e = w.base.places_len in omega arith

    pub ordered : s.first ≡ None → IsCallOrder calls s.order
    ordered none = record {
      apart = w.base.apart;
      within = λ k h. there k (w.base.listed_closed k h);
      all = λ k low. w.base.closed_listed k (closed_now k (met k low));
      behind = λ i a b is call.
          let behind = subst (λ (o : Option ℕ). AreBehind calls s.order o) none w.base.behind in
          behind i b (slice_get_within s.order i a is) (subst (λ x. Calls calls x b) (sym (get_or_from_slice_get s.order i a 0 is)) call);
    }

    called_there : (rows : List (List ℕ)) (j b : ℕ) → IsListed b (slice_index_or rows j []) → j < length rows
    called_there [] j b h = absurd h
    called_there (row ∷ rows) zero b h = omega arith
    called_there (row ∷ rows) (suc j) b h = let l = called_there rows j b h in omega arith

    pub first_found : (f : ℕ) → s.first ≡ Some f → IsFirstInCycle calls f
    first_found f is =
        let least = subst (λ (o : Option ℕ). LeastOf (IsClosed s) (ReachesItself calls) o) is w.base.least in record {
          reaches = least.0;
          first = λ j low r.
              let l = least.1 j (closed_now j (met j (called_there calls j r.first r.called))) r in omega arith;
        }

module _ (calls : List (List ℕ)) (order : List ℕ) (o : IsCallOrder calls order) where
  in_front : (xs : List ℕ) (i b : ℕ) → IsListed b (take i xs) → (j : ℕ) × (j < i) × (slice_get xs j ≡ Some b)
  in_front xs zero b h = absurd h
  in_front [] (suc i) b h = absurd h
  in_front (x ∷ xs) (suc i) b (inl e) = (0, (omega arith), ap Some (sym e))
  in_front (x ∷ xs) (suc i) b (inr h) = let r = in_front xs i b h in (suc r.0, (let l = r.1 in omega arith), r.2)

  lower : (via : List ℕ) (i a b : ℕ) → slice_get order i ≡ Some a → IsChain (Calls calls) a via b → (j : ℕ) × (j ≤ i) × (slice_get order j ≡ Some b)
  lower [] i a b is h = (i, (omega arith), is ∙ ap Some h)
  lower (x ∷ via) i a b is h =
      let next = in_front order i x (o.behind i a x is h.0) in
      let r = lower via next.0 x b next.2 h.1 in
      (r.0, (let l = r.1 in let m = next.1 in omega arith), r.2)

  listed_at : (xs : List ℕ) (i k : ℕ) → slice_get xs i ≡ Some k → IsListed k xs
  listed_at [] i k e = let z : ⊥ = cc in absurd z
  listed_at (x ∷ xs) zero k e = inl (let z : k ≡ x = cc in z)
  listed_at (x ∷ xs) (suc i) k e = inr (listed_at xs i k e)

  one_place : (xs : List ℕ) (i j k : ℕ) → AreApart xs → slice_get xs i ≡ Some k → slice_get xs j ≡ Some k → i ≡ j
  one_place [] i j k a e f = let z : ⊥ = cc in absurd z
  one_place (x ∷ xs) zero zero k a e f = refl
  one_place (x ∷ xs) zero (suc j) k a e f = absurd (a.0 (listed_at xs j x (let z : slice_get xs j ≡ Some x = cc in z)))
  one_place (x ∷ xs) (suc i) zero k a e f = absurd (a.0 (listed_at xs i x (let z : slice_get xs i ≡ Some x = cc in z)))
  one_place (x ∷ xs) (suc i) (suc j) k a e f = ap suc (one_place xs i j k a.1 e f)

  placed : (xs : List ℕ) (k : ℕ) → IsListed k xs → (i : ℕ) × (slice_get xs i ≡ Some k)
  placed [] k h = absurd h
  placed (x ∷ xs) k (inl e) = (0, ap Some (sym e))
  placed (x ∷ xs) k (inr h) = let r = placed xs k h in (suc r.0, r.1)

  has_list : (rows : List (List ℕ)) (j b : ℕ) → IsListed b (slice_index_or rows j []) → j < length rows
  has_list [] j b h = absurd h
  has_list (row ∷ rows) zero b h = omega arith
  has_list (row ∷ rows) (suc j) b h = let l = has_list rows j b h in omega arith

  no_return : (k : ℕ) → ReachesItself calls k → ⊥
  no_return k r =
      let here = placed order k (o.all k (has_list calls k r.first r.called)) in
      let next = in_front order here.0 r.first (o.behind here.0 k r.first here.1 r.called) in
      let back = lower r.back.via next.0 r.first k next.2 r.back.chain in
      let same = one_place order here.0 back.0 k o.apart here.1 back.2 in
      let l = next.1 in let m = back.1 in omega arith

pub no_cycle : NoCycleLaw
no_cycle calls order o k r = no_return calls order o k r
