-- A step that leaves a number without calls left, and closes its ring where that has none left, keeps the walk.
use Rattle.std.proofs.Common.{◌≡◌, ◌⊎◌, inl, inr, ℕ, ◌+◌, ◌-◌, ◌*◌, ◌<◌, ◌≤◌, ◌==◌, Bool, true, false, List, [], ◌∷◌, ◌++◌, length, take, drop, Option, Some, None, refl, sym, ap, subst, ◌∙◌, arith, length-take-le, length-drop}
use Rattle.std.proofs.lemmas.Bool.{cases_Bool, cases_lt}
use Rattle.std.specs.Prelude.{slice_index, slice_index_or}
use Rattle.std.proofs.lemmas.Bool.Decides.{eqb_tells}
use Rattle.std.proofs.lemmas.List.{get_or-take, get_or-drop, get_or_append_left, take_all, take-append-le, take_at, nil_from_length}
use Rattle.plain_netlist.specs.Lists.{IsListed, AreApart}
use Rattle.call_order.specs.Order.{Calls, ReachesItself}
use Rattle.call_order.specs.declared.walk.Place.TheVariants.{Unseen, Open, Closed}
use Rattle.call_order.specs.declared.walk.Ring.{Ring}
use Rattle.call_order.specs.Walk.{State, rested, closing, without, left, left_from, at, worked, place_of, IsLast, IsUnmet, IsClosed, Followed, AreFollowed, IsBehind, IsRing, IsLinked, AreRings, AreBehind, LeastOf, IsBase, IsWalk, IsFurther, weight, calls_left}
use Rattle.call_order.proofs.Reach.{To, turned_by}
use Rattle.call_order.proofs.Rings.{Leaves, Nothing, rings_kept, linked_kept}
use Rattle.call_order.proofs.Closing.{placed, place_in, is_listed, listed_left, listed_right, listed_either, apart_append, apart_by, least_same, closing_followed, closing_path, closing_work, closing_rings, closing_order, closing_places_len, closing_other, closing_here, closing_cycle, closing_plain, closing_finds}
use Rattle.call_order.proofs.Steps.{one_place, met_there}

-- the last ring r, with the rings rs before it, has no work left, and each call of its numbers was followed
module _ (calls : List (List ℕ)) (s : State) (r : Ring) (rs : List Ring) (w : IsBase calls s) (some : r.path < length s.path) (no_work : r.work ≡ length s.work)
    (out : (i : ℕ) → r.path ≤ i → i < length s.path → To calls (at s r.path) (at s i))
    (back : (i : ℕ) → r.path ≤ i → i < length s.path → To calls (at s i) (at s r.path))
    (leads : (i b : ℕ) → r.path ≤ i → i < length s.path → Calls calls (at s i) b → IsBehind s r.path b)
    (turns : r.is_cycle ≡ true → ReachesItself calls (at s r.path))
    (alone : r.is_cycle ≡ false → length s.path ≡ r.path + 1)
    (straight : r.is_cycle ≡ false → Calls calls (at s r.path) (at s r.path) → ⊥)
    (more : AreRings calls s r.path r.work rs) where
  abbrev members : List ℕ
  members = drop r.path s.path

  abbrev open_state : State
  open_state = record s { rings = rs }

  abbrev c : State
  c = closing r.is_cycle members open_state

  abbrev t : State
  t = without open_state r

  members_len : length members ≡ length s.path - r.path
  members_len = length-drop r.path s.path

  -- a member is a number of the path, from the ring on
  member_at : (k : ℕ) → IsListed k members → (i : ℕ) × (r.path ≤ i) × (i < length s.path) × (at s i ≡ k)
  member_at k h =
      let p = place_in members k h in let l = p.1 in let long = members_len in
      (r.path + p.0, (omega arith), (omega arith), sym (get_or-drop r.path s.path p.0 0) ∙ p.2)

  is_member : (i : ℕ) → r.path ≤ i → i < length s.path → IsListed (at s i) members
  is_member i low high =
      let long = members_len in
      let e : slice_index members (i - r.path) ≡ at s i = get_or-drop r.path s.path (i - r.path) 0 ∙ ap (λ m. at s m) (let same : r.path + (i - r.path) ≡ i = omega arith in same) in
      subst (λ k. IsListed k members) e (placed members (i - r.path) (omega arith))

  member_open : (k : ℕ) → IsListed k members → (i : ℕ) × (r.path ≤ i) × (place_of s k ≡ Open i)
  member_open k h = let m = member_at k h in (m.0, m.1, ap (λ x. place_of s x) (sym m.3) ∙ w.on_path m.0 m.2)

  there : (k : ℕ) → IsListed k members → k < length s.places
  there k h = met_there s k (λ u. let m = member_open k h in let e : Open m.0 ≡ Unseen = sym m.2 ∙ u in cc)

  not_closed : (k : ℕ) → IsListed k members → IsClosed s k → ⊥
  not_closed k h closed = let m = member_open k h in let e : Open m.0 ≡ Closed = sym m.2 ∙ closed in cc

  now_closed : (k : ℕ) → IsListed k members → IsClosed t k
  now_closed k h = closing_here r.is_cycle members open_state k there h

  same_place : (k : ℕ) → (IsListed k members → ⊥) → place_of t k ≡ place_of s k
  same_place k n = closing_other r.is_cycle members open_state k n

  still_closed : (k : ℕ) → IsClosed s k → IsClosed t k
  still_closed k h = same_place k (λ m. not_closed k m h) ∙ h

  was_closed : (k : ℕ) → IsClosed t k → IsClosed s k ⊎ IsListed k members
  was_closed k h = elim (is_listed k members) [ inl m ↦ inr m | inr n ↦ inl (sym (same_place k n) ∙ h) ]

  path_is : t.path ≡ take r.path s.path
  path_is = ap (λ (ks : List ℕ). take r.path ks) (closing_path r.is_cycle members open_state)

  path_len : length t.path ≡ r.path
  path_len = ap (λ (ks : List ℕ). length ks) path_is ∙ length-take-le r.path s.path (omega arith)

  at_before : (i : ℕ) → i < r.path → at t i ≡ at s i
  at_before i l = ap (λ ks. slice_index ks i) path_is ∙ get_or-take r.path s.path i 0 l

  before_not : (i : ℕ) → i < r.path → IsListed (at s i) members → ⊥
  before_not i l h = let m = member_at (at s i) h in let from = m.1 in let e = one_place calls s w i m.0 (omega arith) m.2 (sym m.3) in omega arith

  order_is : t.order ≡ s.order ++ members
  order_is = closing_order r.is_cycle members open_state

  followed_is : t.followed ≡ s.followed
  followed_is = closing_followed r.is_cycle members open_state

  -- what a member calls is closed now
  called_closed : (k b : ℕ) → IsListed k members → Calls calls k b → IsClosed t b
  called_closed k b h call =
      let m = member_at k h in
      elim (leads m.0 b m.1 m.2 (subst (λ x. Calls calls x b) (sym m.3) call)) [
        | inl old ↦ still_closed b old
        | inr (j, low, o) ↦ let p = w.open_place b j o in subst (λ x. IsClosed t x) p.1 (now_closed (at s j) (is_member j low p.0))
      ]

  -- a chain of calls from a closed number stays in the closed ones
  stays_closed : (via : List ℕ) (a b : ℕ) → IsClosed s a → Rattle.plain_netlist.specs.Chains.IsChain (Calls calls) a via b → IsClosed s b
  stays_closed [] a b h e = subst (λ x. IsClosed s x) e h
  stays_closed (x ∷ via) a b h e = stays_closed via x b (w.closed_calls a x h e.0) e.1

  -- a ring that is no cycle is one number, whose calls are all of numbers closed before
  module _ (plain : r.is_cycle ≡ false) where
    single : members ≡ at s r.path ∷ []
    single = let long = alone plain in let two = members_len in
        Rattle.std.proofs.lemmas.List.drop_more s.path r.path 0 some ∙ ap (λ ks. at s r.path ∷ ks) (nil_from_length (drop (r.path + 1) s.path) (length-drop (r.path + 1) s.path ∙ (let z : length s.path - (r.path + 1) ≡ 0 = omega arith in z)))

    called_before : (b : ℕ) → Calls calls (at s r.path) b → IsClosed s b
    called_before b call = elim (leads r.path b (omega arith) some call) [
      | inl old ↦ old
      | inr (j, low, o) ↦
          let p = w.open_place b j o in let long = alone plain in let in_path = p.0 in
          let same : r.path ≡ j = omega arith in
          absurd (straight plain (subst (λ x. Calls calls (at s r.path) x) (sym (ap (λ m. at s m) same ∙ p.1)) call))
    ]

    no_turn : ReachesItself calls (at s r.path) → ⊥
    no_turn h =
        let closed = stays_closed h.back.via h.first (at s r.path) (called_before h.first h.called) h.back.chain in
        let e : Open r.path ≡ Closed = sym (w.on_path r.path some) ∙ closed in cc

    least_plain : LeastOf (IsClosed t) (ReachesItself calls) t.first
    least_plain =
        subst (λ (f : Option ℕ). LeastOf (IsClosed t) (ReachesItself calls) f)
        (sym (ap (λ (b : Bool). (closing b members open_state).first) plain ∙ ap (λ ks. (closing false ks open_state).first) single))
        (least_same (λ j. IsClosed s j ⊎ IsListed j (at s r.path ∷ [])) (IsClosed t) (ReachesItself calls) s.first
        (λ k h. elim (was_closed k h) [ inl o ↦ inl o | inr m ↦ inr (subst (λ ks. IsListed k ks) single m) ])
        (closing_plain (at s r.path) s (IsClosed s) (ReachesItself calls) w.least no_turn))

    first_same : t.first ≡ s.first
    first_same = ap (λ (b : Bool). (closing b members open_state).first) plain ∙ ap (λ ks. (closing false ks open_state).first) single

    behind_more : (o : Option ℕ) → AreBehind calls s.order o → AreBehind calls (s.order ++ at s r.path ∷ []) o
    behind_more (Some f) h = tt
    behind_more None h = λ i b l call. elim (cases_lt i (length s.order)) [
      | inl low ↦
          let old = h i b low (subst (λ x. Calls calls x b) (get_or_append_left s.order (at s r.path ∷ []) 0 i low) call) in
          subst (λ ks. IsListed b ks) (sym (take-append-le i s.order (at s r.path ∷ []) (omega arith))) old
      | inr high ↦
          let long = Rattle.std.proofs.lemmas.List.length_push s.order (at s r.path) in
          let last : length s.order ≡ i = omega arith in
          let here : slice_index (s.order ++ at s r.path ∷ []) i ≡ at s r.path = Rattle.std.proofs.lemmas.List.get_or_push s.order (at s r.path) 0 i last in
          subst (λ ks. IsListed b ks) (sym (take_at s.order (at s r.path ∷ []) i last))
          (w.closed_listed b (called_before b (subst (λ x. Calls calls x b) here call)))
    ]

    behind_plain : AreBehind calls t.order t.first
    behind_plain =
        subst (λ (f : Option ℕ). AreBehind calls t.order f) (sym first_same)
        (subst (λ ks. AreBehind calls ks s.first) (sym (order_is ∙ ap (λ ks. s.order ++ ks) single)) (behind_more s.first w.behind))

  -- a ring that is a cycle: each of its numbers reaches itself
  module _ (cycle : r.is_cycle ≡ true) where
    each_turns : (k : ℕ) → IsListed k members → ReachesItself calls k
    each_turns k h =
        let m = member_at k h in
        subst (λ x. ReachesItself calls x) m.3 (turned_by calls (at s m.0) (at s r.path) (back m.0 m.1 m.2) (turns cycle) (out m.0 m.1 m.2))

    least_cycle : LeastOf (IsClosed t) (ReachesItself calls) t.first
    least_cycle =
        subst (λ (b : Bool). LeastOf (IsClosed t) (ReachesItself calls) (closing b members open_state).first) (sym cycle)
        (least_same (λ j. IsClosed s j ⊎ IsListed j members) (IsClosed t) (ReachesItself calls) (closing true members open_state).first was_closed
        (closing_cycle members open_state (IsClosed s) (ReachesItself calls) w.least each_turns))

    behind_cycle : AreBehind calls t.order t.first
    behind_cycle =
        let split : members ≡ at s r.path ∷ drop (r.path + 1) s.path = Rattle.std.proofs.lemmas.List.drop_more s.path r.path 0 some in
        let found = closing_finds (at s r.path) (drop (r.path + 1) s.path) open_state in
        let first : t.first ≡ Some found.0 = ap (λ (b : Bool). (closing b members open_state).first) cycle ∙ ap (λ ks. (closing true ks open_state).first) split ∙ found.1 in
        subst (λ (f : Option ℕ). AreBehind calls t.order f) (sym first) tt

  base_without : IsBase calls t
  base_without = record {
    range = w.range;
    followed_len = ap (λ (ks : List ℕ). length ks) followed_is ∙ w.followed_len;
    places_len = closing_places_len r.is_cycle members open_state ∙ w.places_len;
    on_path = λ i l. let low : i < r.path = (let e = path_len in omega arith) in
        ap (λ x. place_of t x) (at_before i low) ∙ same_place (at s i) (before_not i low) ∙ w.on_path i (omega arith);
    open_place = λ k i o.
        let outside : IsListed k members → ⊥ = λ m. (let e : Closed ≡ Open i = sym (now_closed k m) ∙ o in cc) in
        let p = w.open_place k i (sym (same_place k outside) ∙ o) in
        let low : i < r.path = elim (cases_lt i r.path) [ inl l ↦ l | inr high ↦ absurd (outside (subst (λ x. IsListed x members) p.1 (is_member i high p.0))) ] in
        ((let e = path_len in omega arith), at_before i low ∙ p.1);
    fresh = λ k u. ap (λ ks. slice_index ks k) followed_is
        ∙ w.fresh k (elim (is_listed k members) [ inl m ↦ absurd (let e : Closed ≡ Unseen = sym (now_closed k m) ∙ u in let z : ⊥ = cc in z) | inr n ↦ sym (same_place k n) ∙ u ]);
    closed_calls = λ a b closed call. elim (was_closed a closed) [
      | inl old ↦ still_closed b (w.closed_calls a b old call)
      | inr m ↦ called_closed a b m call
    ];
    closed_listed = λ k h. subst (λ ks. IsListed k ks) (sym order_is) (elim (was_closed k h) [ inl old ↦ listed_left s.order members k (w.closed_listed k old) | inr m ↦ listed_right s.order members k m ]);
    listed_closed = λ k h. elim (listed_either s.order members k (subst (λ ks. IsListed k ks) order_is h)) [ inl old ↦ still_closed k (w.listed_closed k old) | inr m ↦ now_closed k m ];
    apart = subst AreApart (sym order_is) (apart_append s.order members w.apart (apart_by members one) (λ k l m. not_closed k m (w.listed_closed k l)));
    least = elim (cases_Bool r.is_cycle) [ inl cycle ↦ least_cycle cycle | inr plain ↦ least_plain plain ];
    behind = elim (cases_Bool r.is_cycle) [ inl cycle ↦ behind_cycle cycle | inr plain ↦ behind_plain plain ];
  }
    where
      one : (i j : ℕ) → i < length members → j < length members → slice_index members i ≡ slice_index members j → i ≡ j
      one i j l m e =
          let long = members_len in
          let same = one_place calls s w (r.path + i) (r.path + j) (omega arith) (omega arith) (sym (get_or-drop r.path s.path i 0) ∙ e ∙ get_or-drop r.path s.path j 0) in omega arith

  leaves : Leaves calls (Nothing calls) s t 0 r.path r.work
  leaves = record {
    path = at_before;
    work = λ m l. ap (λ ks. slice_index ks m) (closing_work r.is_cycle members open_state);
    followed = λ i b low high h. inl (subst (λ ks. IsListed b (take (slice_index ks (at s i)) (slice_index_or calls (at s i) []))) followed_is h);
    all = λ i low high h. subst (λ ks. length (slice_index_or calls (at s i) []) ≤ slice_index ks (at s i)) (sym followed_is) h;
    closed = still_closed;
    open_on = λ k j o. elim (is_listed k members) [ inl m ↦ inl (now_closed k m) | inr n ↦ inr (same_place k n ∙ o) ];
  }

  pub walk_without : IsWalk calls t
  walk_without = record {
    base = base_without;
    rings =
        let work_len : length t.work ≡ r.work = ap (λ (ks : List ℕ). length ks) (closing_work r.is_cycle members open_state) ∙ sym no_work in
        let rings_are : t.rings ≡ rs = closing_rings r.is_cycle members open_state in
        subst (λ (qs : List Ring). AreRings calls t (length t.path) (length t.work) qs) (sym rings_are)
        (subst (λ e. AreRings calls t e (length t.work) rs) (sym path_len) (subst (λ f. AreRings calls t r.path f rs) (sym work_len) (rings_kept calls s t rs r.path r.work leaves more)));
  }

  pub unmet_without : (k : ℕ) → IsUnmet t k → IsUnmet s k
  unmet_without k u = elim (is_listed k members) [ inl m ↦ absurd (let e : Closed ≡ Unseen = sym (now_closed k m) ∙ u in let z : ⊥ = cc in z) | inr n ↦ sym (same_place k n) ∙ u ]

  pub weight_without : weight calls t ≡ weight calls s
  weight_without = ap (λ ks. 2 * calls_left calls ks + length t.work) followed_is ∙ ap (λ (ks : List ℕ). 2 * calls_left calls s.followed + length ks) (closing_work r.is_cycle members open_state)

-- the number that is worked on last has no call left
module _ (calls : List (List ℕ)) (s : State) (v : ℕ) (w : IsWalk calls s) (last : IsLast v s.work) (all : AreFollowed calls s v) where
  abbrev s1 : State
  s1 = rested s

  shorter_len : length s1.work ≡ length s.work - 1
  shorter_len = length-take-le (length s.work - 1) s.work (omega arith)

  base_rested : IsBase calls s1
  base_rested = let b = w.base in record {
    range = b.range;
    followed_len = b.followed_len;
    places_len = b.places_len;
    on_path = b.on_path;
    open_place = b.open_place;
    fresh = b.fresh;
    closed_calls = b.closed_calls;
    closed_listed = b.closed_listed;
    listed_closed = b.listed_closed;
    apart = b.apart;
    least = b.least;
    behind = b.behind;
  }

  work_before : (m : ℕ) → m < length s.work - 1 → worked s1 m ≡ worked s m
  work_before m l = get_or-take (length s.work - 1) s.work m 0 l

  leaves_rested : (e f : ℕ) → f < length s.work → Leaves calls (Nothing calls) s s1 0 e f
  leaves_rested e f l = record {
    path = λ i k. refl;
    work = λ m k. work_before m (omega arith);
    followed = λ i b low high h. inl h;
    all = λ i low high h. h;
    closed = λ k c. c;
    open_on = λ k j o. inr o;
  }

  less_weight : weight calls s1 < weight calls s
  less_weight = let e = shorter_len in let some = last.some in omega arith

  module _ (r : Ring) (rs : List Ring) (ring : IsRing calls s r (length s.path) (length s.work)) (link : IsLinked calls s r rs) (more : AreRings calls s r.path r.work rs) where
    more_rested : AreRings calls s1 r.path r.work rs
    more_rested = rings_kept calls s s1 rs r.path r.work (leaves_rested r.path r.work ring.some_work) more

    -- some work is left to the ring
    module _ (some : (r.work == length s1.work) ≡ false) where
      not_last : r.work < length s.work - 1
      not_last = let e = shorter_len in let a = ring.some_work in elim (eqb_tells r.work (length s1.work)) [
        | inl h ↦ absurd (let z : true ≡ false = sym h.0 ∙ some in let f : ⊥ = cc in f)
        | inr h ↦ let ne = h.1 in omega arith
      ]

      ring_rested : IsRing calls s1 r (length s.path) (length s1.work)
      ring_rested = let e = shorter_len in let n = not_last in record {
        some = ring.some;
        some_work = omega arith;
        out = ring.out;
        back = ring.back;
        calls_in = ring.calls_in;
        turns = ring.turns;
        alone = ring.alone;
        straight = ring.straight;
        works = λ m low high. let p = ring.works m low (omega arith) in (p.0, p.1, p.2, p.3 ∙ sym (work_before m (omega arith)));
        waits = λ i low high. elim (ring.waits i low high) [
          | inl done ↦ inl done
          | inr (m, from, to, here) ↦ elim (cases_lt m (length s.work - 1)) [
            | inl before ↦ inr (m, from, (omega arith), here ∙ sym (work_before m before))
            | inr now ↦
                let m_is : m ≡ length s.work - 1 = omega arith in
                inl (subst (λ k. AreFollowed calls s k) (sym (here ∙ ap (λ j. worked s j) m_is ∙ last.last)) all)
          ]
        ];
      }

      walk_rested : s.rings ≡ r ∷ rs → IsWalk calls s1
      walk_rested e = record {
        base = base_rested;
        rings = subst (λ (qs : List Ring). AreRings calls s1 (length s.path) (length s1.work) qs) (sym e)
            (ring_rested, linked_kept calls s s1 r rs (length s.path) (length s.work) refl (λ i l. refl) more link, more_rested);
      }

    -- none is
    module _ (none : (r.work == length s1.work) ≡ true) where
      is_last : r.work ≡ length s.work - 1
      is_last = elim (eqb_tells r.work (length s1.work)) [
        | inl h ↦ h.1 ∙ shorter_len
        | inr h ↦ absurd (let z : true ≡ false = sym none ∙ h.0 in let f : ⊥ = cc in f)
      ]

      each_followed : (i : ℕ) → r.path ≤ i → i < length s.path → AreFollowed calls s (at s i)
      each_followed i low high = elim (ring.waits i low high) [
        | inl done ↦ done
        | inr (m, from, to, here) ↦
            let e = is_last in let m_is : m ≡ length s.work - 1 = omega arith in
            subst (λ k. AreFollowed calls s k) (sym (here ∙ ap (λ j. worked s j) m_is ∙ last.last)) all
      ]

      followed : (i b : ℕ) → r.path ≤ i → i < length s.path → Calls calls (at s i) b → Followed calls s (at s i) b
      followed i b low high call =
          subst (λ ks. IsListed b ks) (sym (take_all (slice_index s.followed (at s i)) (slice_index_or calls (at s i) []) (each_followed i low high))) call

      leads : (i b : ℕ) → r.path ≤ i → i < length s.path → Calls calls (at s i) b → IsBehind s r.path b
      leads i b low high call = ring.calls_in i b low high (followed i b low high call)

      no_work : r.work ≡ length s1.work
      no_work = is_last ∙ sym shorter_len

      straight : r.is_cycle ≡ false → Calls calls (at s r.path) (at s r.path) → ⊥
      straight plain call = ring.straight plain (followed r.path (at s r.path) (omega arith) ring.some call)

      abbrev closed_state : State
      closed_state = without (record s1 { rings = rs }) r

      walk_closed : IsWalk calls closed_state
      walk_closed = walk_without calls s1 r rs base_rested ring.some no_work ring.out ring.back leads ring.turns ring.alone straight more_rested

      unmet_closed : (k : ℕ) → IsUnmet closed_state k → IsUnmet s k
      unmet_closed = unmet_without calls s1 r rs base_rested ring.some no_work ring.out ring.back leads ring.turns ring.alone straight more_rested

      weight_closed : weight calls closed_state ≡ weight calls s1
      weight_closed = weight_without calls s1 r rs base_rested ring.some no_work ring.out ring.back leads ring.turns ring.alone straight more_rested

  further : (rs : List Ring) → rs ≡ s.rings → AreRings calls s (length s.path) (length s.work) rs → IsFurther calls s (left_from s1 rs)
  further [] e h = let some = last.some in let none = h.1 in absurd (omega arith)
  further (r ∷ rs) e h = elim (cases_Bool (r.work == length s1.work)) [
    | inl none ↦ rw none (record {
      walk = walk_closed r rs h.0 h.1 h.2 none;
      less = (let same = weight_closed r rs h.0 h.1 h.2 none in let low = less_weight in omega arith);
      met = unmet_closed r rs h.0 h.1 h.2 none;
    })
    | inr some ↦ rw some (record { walk = walk_rested r rs h.0 h.1 h.2 some (sym e); less = less_weight; met = λ k u. u })
  ]

  pub left_further : IsFurther calls s (left (rested s))
  left_further = further s.rings refl w.rings
