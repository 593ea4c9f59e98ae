-- A step that follows a call keeps the walk.
use Rattle.std.proofs.Common.{◌≡◌, inl, inr, ℕ, zero, suc, ◌+◌, ◌-◌, ◌*◌, ◌<◌, ◌≤◌, false, List, [], ◌∷◌, ◌++◌, length, set, refl, sym, ap, subst, ◌∙◌, arith}
use Rattle.std.specs.Prelude.{slice_index, slice_index_or}
use Rattle.std.proofs.Math.Decide.{ℕ_discrete}
use Rattle.std.proofs.lemmas.List.{length_push}
use Rattle.plain_netlist.specs.Lists.{IsListed}
use Rattle.call_order.specs.Order.{Calls}
use Rattle.call_order.specs.declared.walk.Place.{Place}
use Rattle.call_order.specs.declared.walk.Place.TheVariants.{Unseen, Open, Closed}
use Rattle.call_order.specs.declared.walk.Ring.{Ring}
use Rattle.call_order.specs.Walk.{State, opened, begun_at, begun, followed_on, joined, arrived_at, arrived, IsNext, AreThere, at, place_of, IsLast, IsUnmet, IsClosed, IsRing, IsLinked, AreRings, joined_rings, IsBase, IsWalk, IsFurther, HasMet, calls_left, weight}
use Rattle.call_order.proofs.Reach.{To, through, one}
use Rattle.call_order.proofs.Rings.{Leaves, calmed, shorter, ring_kept, linked_kept, rings_kept, joined_are, broad, back_kept}
use Rattle.call_order.proofs.Steps.{next, New, is_call, base_next, leaves_next, one_place, met_there, base_wider, leaves_wider, new_ring, at_last, place_here, place_other}

-- the weights of a call
left_less : (rows : List (List ℕ)) (ns : List ℕ) (v : ℕ) → length ns ≡ length rows → slice_index ns v < length (slice_index_or rows v [])
    → calls_left rows (set ns v (slice_index ns v + 1)) + 1 ≡ calls_left rows ns
left_less [] [] v e l = absurd (omega arith)
left_less [] (n ∷ ns) v e l = absurd (omega arith)
left_less (row ∷ rows) [] v e l = absurd (omega arith)
left_less (row ∷ rows) (n ∷ ns) zero e l = let h : n < length row = l in omega arith
left_less (row ∷ rows) (n ∷ ns) (suc v) e l = let h = left_less rows ns v (omega arith) l in omega arith

-- the first number of a walk is opened
module _ (calls : List (List ℕ)) (s : State) (k : ℕ) (w : IsWalk calls s) (still : s.work ≡ []) (new : IsUnmet s k) (low : k < length calls) where
  no_rings : (rs : List Ring) (f : ℕ) → f ≡ 0 → AreRings calls s (length s.path) f rs → (rs ≡ []) × (length s.path ≡ 0)
  no_rings [] f e h = (refl, h.0)
  no_rings (r ∷ rs) f e h = let some = h.0.some_work in absurd (omega arith)

  empty : (s.rings ≡ []) × (length s.path ≡ 0)
  empty = no_rings s.rings (length s.work) (ap (λ (ks : List ℕ). length ks) still) w.rings

  pub walk_opened : IsWalk calls (opened s k)
  walk_opened = record {
    base = base_wider calls s w.base k new low;
    rings =
        let ring = new_ring calls s w.base k new low in
        let long = length_push s.path k in
        let long_work = length_push s.work k in
        let work_none : length s.work ≡ 0 = ap (λ (ks : List ℕ). length ks) still in
        let r : Ring = record { path = length s.path; work = length s.work; is_cycle = false } in
        subst (λ (rs : List Ring). AreRings calls (opened s k) (length (s.path ++ k ∷ [])) (length (s.work ++ k ∷ [])) (r ∷ rs)) (sym empty.0)
        (subst (λ e. IsRing calls (opened s k) r e (length (s.work ++ k ∷ []))) (sym long) (subst (λ f. IsRing calls (opened s k) r (length s.path + 1) f) (sym long_work) ring), tt, (empty.1, work_none));
  }

  pub met_opened : HasMet s (opened s k) k
  met_opened = record {
    others = λ j u. elim (ℕ_discrete j k) [ yes e ↦ subst (λ x. IsUnmet s x) (sym e) new | no ne ↦ sym (place_other calls s w.base k new low j ne) ∙ u ];
    this = λ u. let e : Open (length s.path) ≡ Unseen = sym (place_here calls s w.base k new low) ∙ u in cc;
  }

begun_by : (calls : List (List ℕ)) (s : State) (k : ℕ) (p : Place) → place_of s k ≡ p → IsWalk calls s → s.work ≡ [] → k < length calls
    → IsWalk calls (begun_at s k p) × HasMet s (begun_at s k p) k
begun_by calls s k Unseen e w still low = (walk_opened calls s k w still e low, met_opened calls s k w still e low)
begun_by calls s k (Open i) e w still low = (w, record { others = λ j u. u; this = λ u. let f : Open i ≡ Unseen = sym e ∙ u in cc })
begun_by calls s k Closed e w still low = (w, record { others = λ j u. u; this = λ u. let f : Closed ≡ Unseen = sym e ∙ u in cc })

pub is_begun : (calls : List (List ℕ)) (s : State) (k : ℕ) → IsWalk calls s → s.work ≡ [] → k < length calls → IsWalk calls (begun s k) × HasMet s (begun s k) k
is_begun calls s k w still low = begun_by calls s k (place_of s k) refl w still low

-- the number that is worked on last has a call left, its nth, of b
module _ (calls : List (List ℕ)) (s : State) (v n b : ℕ) (w : IsWalk calls s) (last : IsLast v s.work)
    (count : slice_index s.followed v ≡ n) (low : n < length (slice_index_or calls v [])) (called : slice_index (slice_index_or calls v []) n ≡ b) where
  -- the last ring has it
  pub record InRing (r : Ring) (rs : List Ring) : Type 0 where
    pub rings : s.rings ≡ r ∷ rs
    pub ring : IsRing calls s r (length s.path) (length s.work)
    pub link : IsLinked calls s r rs
    pub more : AreRings calls s r.path r.work rs
    pub place : ℕ
    pub from : r.path ≤ place
    pub to : place < length s.path
    pub here : at s place ≡ v

  in_ring : (rs : List Ring) → rs ≡ s.rings → AreRings calls s (length s.path) (length s.work) rs → (r : Ring) × (qs : List Ring) × InRing r qs
  in_ring [] e h = let some = last.some in absurd (omega arith)
  in_ring (r ∷ rs) e h =
      let some = h.0.some_work in let any = last.some in
      let place = h.0.works (length s.work - 1) (omega arith) (omega arith) in
      (r, rs, record { rings = sym e; ring = h.0; link = h.1; more = h.2; place = place.0; from = place.1; to = place.2; here = place.3 ∙ last.last })

  pub top : (r : Ring) × (qs : List Ring) × InRing r qs
  top = in_ring s.rings refl w.rings

  abbrev t : InRing top.0 top.1
  t = top.2

  pub met : IsUnmet s v → ⊥
  met u = let o : place_of s v ≡ Open t.place = ap (λ k. place_of s k) (sym t.here) ∙ w.base.on_path t.place t.to in
      let e : Open t.place ≡ Unseen = sym o ∙ u in cc

  abbrev fresh_call : ℕ → ℕ → Type 0
  fresh_call = New calls s w.base v n b met count low called

  -- no ring before the last has it
  pub earlier : (i : ℕ) → i < top.0.path → at s i ≡ v → ⊥
  earlier i l e = let from = t.from in let to = t.to in
      let same : i ≡ t.place = one_place calls s w.base i t.place (omega arith) t.to (e ∙ sym t.here) in omega arith

  less_by : (m : ℕ) → m ≤ length s.work + 1 → 2 * calls_left calls (set s.followed v (slice_index s.followed v + 1)) + m < weight calls s
  less_by m h =
      let low_count : slice_index s.followed v < length (slice_index_or calls v []) = subst (λ c. c < length (slice_index_or calls v [])) (sym count) low in
      let a = left_less calls s.followed v w.base.followed_len low_count in omega arith

  abbrev follows : State
  follows = followed_on s v

  base_follows : IsBase calls follows
  base_follows = base_next calls s w.base v n b met count low called

  -- the last ring, and those before it, after a step that leaves them
  module _ (u : State) (e f : ℕ) (leaves : (d : ℕ) → Leaves calls fresh_call s u d (length s.path) (length s.work)) where
    pub rest_rings : AreRings calls u top.0.path top.0.work top.1
    rest_rings =
        let some = t.ring.some in let some_work = t.ring.some_work in
        rings_kept calls s u top.1 top.0.path top.0.work
        (calmed calls fresh_call s u 0 top.0.path top.0.work (λ i x l new. earlier i l new.0) (shorter calls fresh_call s u 0 (length s.path) (length s.work) top.0.path top.0.work (omega arith) (omega arith) (leaves 0)))
        t.more

    pub rest_link : IsLinked calls u top.0 top.1
    rest_link =
        let some = t.ring.some in
        linked_kept calls s u top.0 top.1 (length s.path) (length s.work) ((leaves 0).path top.0.path t.ring.some) (λ i l. (leaves 0).path i (omega arith)) t.more t.link

  -- ---- of a closed number

  module _ (c : IsClosed s b) where
    old_rings : AreRings calls follows (length s.path) (length s.work) (top.0 ∷ top.1)
    old_rings =
        let r = top.0 in
        let l : (d : ℕ) → Leaves calls fresh_call s follows d (length s.path) (length s.work) = λ d. leaves_next calls s w.base v n b met count low called d (length s.path) (length s.work) in (
          ring_kept calls fresh_call s follows r (length s.path) (length s.work) (l r.path)
              (λ k x new. inl (subst (λ y. IsClosed s y) (sym new.1) c))
              (λ cyc new. let o = w.base.on_path r.path t.ring.some in let e : Open r.path ≡ Closed = sym o ∙ ap (λ y. place_of s y) new.1 ∙ c in cc)
              t.ring,
          rest_link follows (length s.path) (length s.work) l,
          rest_rings follows (length s.path) (length s.work) l,
        )

    pub closed_further : IsFurther calls s follows
    closed_further = record {
      walk = record { base = base_follows; rings = subst (λ (rs : List Ring). AreRings calls follows (length s.path) (length s.work) rs) (sym t.rings) old_rings };
      less = less_by (length s.work) (omega arith);
      met = λ k u. u;
    }

  -- ---- of a number that was not met

  module _ (new : IsUnmet s b) where
    abbrev u : State
    u = opened follows b

    range : b < length calls
    range = w.base.range v b (is_call calls s w.base v n b met count low called)

    leaves_open : (d : ℕ) → Leaves calls fresh_call s u d (length s.path) (length s.work)
    leaves_open d =
        let wide = leaves_wider calls follows base_follows b new range d (length s.path) (length s.work) (omega arith) (omega arith) fresh_call in
        let old = leaves_next calls s w.base v n b met count low called d (length s.path) (length s.work) in record {
          path = wide.path;
          work = wide.work;
          followed = old.followed;
          all = old.all;
          closed = wide.closed;
          open_on = wide.open_on;
        }

    here : place_of u b ≡ Open (length s.path)
    here = place_here calls follows base_follows b new range

    all_rings : AreRings calls u (length (s.path ++ b ∷ [])) (length (s.work ++ b ∷ [])) (record { path = length s.path; work = length s.work; is_cycle = false } ∷ top.0 ∷ top.1)
    all_rings =
        let r = top.0 in
        let fresh : Ring = record { path = length s.path; work = length s.work; is_cycle = false } in
        let ring = new_ring calls follows base_follows b new range in
        let some = t.ring.some in (
          subst (λ e. IsRing calls u fresh e (length (s.work ++ b ∷ []))) (sym (length_push s.path b)) (subst (λ f. IsRing calls u fresh (length s.path + 1) f) (sym (length_push s.work b)) ring),
          reached,
          (
            ring_kept calls fresh_call s u r (length s.path) (length s.work) (leaves_open r.path)
                (λ k x new_call. inr (length s.path, (omega arith), ap (λ y. place_of u y) new_call.1 ∙ here))
                (λ cyc new_call. let o = w.base.on_path r.path t.ring.some in let e : Open r.path ≡ Unseen = sym o ∙ ap (λ y. place_of s y) new_call.1 ∙ new in cc)
                t.ring,
            rest_link u (length s.path) (length s.work) leaves_open,
            rest_rings u (length s.path) (length s.work) leaves_open,
          ),
        )
      where
        reached : To calls (at u top.0.path) (at u (length s.path))
        reached =
            let out = subst (λ y. To calls (at s top.0.path) y) t.here (t.ring.out t.place t.from t.to) in
            let on = through calls _ _ _ out (one calls v b (is_call calls s w.base v n b met count low called)) in
            subst (λ x. To calls x (at u (length s.path))) (sym ((leaves_open 0).path top.0.path t.ring.some))
            (subst (λ y. To calls (at s top.0.path) y) (sym (at_last calls follows base_follows b new range)) on)

    pub opened_further : IsFurther calls s u
    opened_further = record {
      walk = record {
        base = base_wider calls follows base_follows b new range;
        rings = subst (λ (rs : List Ring). AreRings calls u (length (s.path ++ b ∷ [])) (length (s.work ++ b ∷ [])) (record { path = length s.path; work = length s.work; is_cycle = false } ∷ rs)) (sym t.rings) all_rings;
      };
      less = less_by (length (s.work ++ b ∷ [])) (let e = length_push s.work b in omega arith);
      met = λ k unmet. elim (ℕ_discrete k b) [
        | yes e ↦ subst (λ x. IsUnmet s x) (sym e) new
        | no ne ↦ sym (place_other calls follows base_follows b new range k ne) ∙ unmet
      ];
    }

  -- ---- of a number of the path

  module _ (j : ℕ) (on : place_of s b ≡ Open j) where
    abbrev x : State
    x = joined follows j

    leaves_join : (d : ℕ) → Leaves calls fresh_call s x d (length s.path) (length s.work)
    leaves_join d = let old = leaves_next calls s w.base v n b met count low called d (length s.path) (length s.work) in record {
      path = old.path;
      work = old.work;
      followed = old.followed;
      all = old.all;
      closed = old.closed;
      open_on = old.open_on;
    }

    base_join : IsBase calls x
    base_join = let old = base_follows in record {
      range = old.range;
      followed_len = old.followed_len;
      places_len = old.places_len;
      on_path = old.on_path;
      open_place = old.open_place;
      fresh = old.fresh;
      closed_calls = old.closed_calls;
      closed_listed = old.closed_listed;
      listed_closed = old.listed_closed;
      apart = old.apart;
      least = old.least;
      behind = old.behind;
    }

    place_b : (j < length s.path) × (at s j ≡ b)
    place_b = w.base.open_place b j on

    joined_rings_are : AreRings calls x (length s.path) (length s.work) (joined_rings j (top.0 ∷ top.1))
    joined_rings_are =
        let r = top.0 in
        joined_are calls fresh_call x r top.1 (length s.path) (length s.work) (at s t.place) j (length s.path)
        (broad calls fresh_call s x r (length s.path) (length s.work) t.place (leaves_join r.path) t.ring t.from t.to)
        (λ k y new. ap (λ z. place_of s z) new.1 ∙ on)
        (rest_link x (length s.path) (length s.work) leaves_join)
        (rest_rings x (length s.path) (length s.work) leaves_join)
        (back_kept calls fresh_call s x r (length s.path) (length s.work) (leaves_join r.path) t.ring)
        place_b.0
        (subst (λ y. Calls calls (at s t.place) y) (sym place_b.1) (subst (λ y. Calls calls y b) (sym t.here) (is_call calls s w.base v n b met count low called)))

    pub joined_further : IsFurther calls s x
    joined_further = record {
      walk = record {
        base = base_join;
        rings = subst (λ (rs : List Ring). AreRings calls x (length s.path) (length s.work) (joined_rings j rs)) (sym t.rings) joined_rings_are;
      };
      less = less_by (length s.work) (omega arith);
      met = λ k unmet. unmet;
    }

  -- ---- of any number

  pub arrived_further : (p : Place) → place_of s b ≡ p → IsFurther calls s (arrived_at follows b p)
  arrived_further Unseen e = opened_further e
  arrived_further (Open j) e = joined_further j e
  arrived_further Closed e = closed_further e

pub call_further : (calls : List (List ℕ)) (s : State) (v b : ℕ) → IsWalk calls s → IsLast v s.work → IsNext calls s v b → IsFurther calls s (arrived (followed_on s v) b)
call_further calls s v b w last next = arrived_further calls s v (slice_index s.followed v) b w last refl next.low next.called (place_of s b) refl

-- where the number that is worked on last stands
pub last_there : (calls : List (List ℕ)) (s : State) (v : ℕ) → IsWalk calls s → IsLast v s.work → v < length calls
last_there calls s v w last = find s.rings refl w.rings
  where
    find : (rs : List Ring) → rs ≡ s.rings → AreRings calls s (length s.path) (length s.work) rs → v < length calls
    find [] e h = let some = last.some in let none = h.1 in absurd (omega arith)
    find (r ∷ rs) e h =
        let some = h.0.some_work in let any = last.some in
        let p = h.0.works (length s.work - 1) (omega arith) (omega arith) in
        let here : at s p.0 ≡ v = p.3 ∙ last.last in
        let l = met_there s v (λ u. let o : place_of s v ≡ Open p.0 = ap (λ k. place_of s k) (sym here) ∙ w.base.on_path p.0 p.2 in let f : Open p.0 ≡ Unseen = sym o ∙ u in cc) in
        let long = w.base.places_len in omega arith

-- the next call is of a number that has a place
pub next_there : (calls : List (List ℕ)) (s : State) (v b : ℕ) → IsBase calls s → IsNext calls s v b → b < length s.places
next_there calls s v b w next =
    let l = w.range v b (nth (slice_index_or calls v []) (slice_index s.followed v) b next.low next.called) in let e = w.places_len in omega arith
  where
    nth : (row : List ℕ) (n b : ℕ) → n < length row → slice_index row n ≡ b → IsListed b row
    nth [] n b l e = absurd (omega arith)
    nth (x ∷ row) zero b l e = inl (sym e)
    nth (x ∷ row) (suc n) b l e = inr (nth row n b (omega arith) e)

-- the numbers of the path have places
pub path_there : (calls : List (List ℕ)) (s : State) → IsBase calls s → AreThere s
path_there calls s w i l = met_there s (at s i) (λ u. let e : Open i ≡ Unseen = sym (w.on_path i l) ∙ u in cc)
