-- What the steps of a walk keep: calls followed, numbers opened, rings joined.
use Rattle.std.proofs.Common.{◌≡◌, ◌≢◌, ◌⊎◌, inl, inr, ℕ, zero, suc, ◌+◌, ◌<◌, ◌≤◌, false, List, [], ◌∷◌, length, take, Option, Some, None, refl, sym, ap, subst, ◌∙◌, arith, length-set, add-one}
use Rattle.std.proofs.lemmas.Bool.{cases_lt}
use Rattle.std.specs.Prelude.{slice_index, slice_index_or}
use Rattle.std.proofs.Math.Decide.{ℕ_discrete}
use Rattle.std.proofs.lemmas.List.{get_or-set_same, get_or-set_other, get_or_append_left, get_or_push, length_push}
use Rattle.plain_netlist.specs.Lists.{IsListed}
use Rattle.call_order.specs.Order.{Calls, ReachesItself}
use Rattle.call_order.specs.declared.walk.Place.{Place}
use Rattle.call_order.specs.declared.walk.Place.TheVariants.{Unseen, Open, Closed}
use Rattle.call_order.specs.Walk.{State, opened, followed_on, at, worked, place_of, IsUnmet, IsClosed, Followed, AreFollowed, IsRing, IsBase, LeastOf}
use Rattle.call_order.proofs.Reach.{To, stays}
use Rattle.call_order.proofs.Rings.{Leaves}

-- a number that was not met has a place only where there is one
pub met_there : (s : State) (k : ℕ) → (IsUnmet s k → ⊥) → k < length s.places
met_there s k h = elim (cases_lt k (length s.places)) [ inl l ↦ l | inr past ↦ absurd (h (past_places s.places k past)) ]
  where
    past_places : (ps : List Place) (k : ℕ) → length ps ≤ k → slice_index_or ps k Unseen ≡ Unseen
    past_places [] k h = refl
    past_places (p ∷ ps) zero h = absurd (omega arith)
    past_places (p ∷ ps) (suc k) h = past_places ps k (omega arith)

module _ (calls : List (List ℕ)) (s : State) (w : IsBase calls s) where
  -- one place each
  pub one_place : (i j : ℕ) → i < length s.path → j < length s.path → at s i ≡ at s j → i ≡ j
  one_place i j l m e =
      let same : Open i ≡ Open j = sym (w.on_path i l) ∙ ap (λ k. place_of s k) e ∙ w.on_path j m in cc

  open_met : (k i : ℕ) → place_of s k ≡ Open i → IsUnmet s k → ⊥
  open_met k i o u = let e : Open i ≡ Unseen = sym o ∙ u in cc

  pub closed_met : (k : ℕ) → IsClosed s k → IsUnmet s k → ⊥
  closed_met k c u = let e : Closed ≡ Unseen = sym c ∙ u in cc

  -- ---- a call more is followed

  module _ (v n b : ℕ) (met : IsUnmet s v → ⊥) (count : slice_index s.followed v ≡ n) (low : n < length (slice_index_or calls v [])) (called : slice_index (slice_index_or calls v []) n ≡ b) where
    abbrev pub next : State
    next = followed_on s v

    there : v < length s.followed
    there = let l = met_there s v met in let a = w.places_len in let c = w.followed_len in omega arith

    pub count_same : slice_index next.followed v ≡ n + 1
    count_same = get_or-set_same s.followed v (slice_index s.followed v + 1) 0 there ∙ ap (λ m. m + 1) count

    pub count_other : (k : ℕ) → k ≢ v → slice_index next.followed k ≡ slice_index s.followed k
    count_other k ne = get_or-set_other s.followed v k (slice_index s.followed v + 1) 0 ne

    pub is_call : Calls calls v b
    is_call = listed_at (slice_index_or calls v []) n b low called
      where
        listed_at : (row : List ℕ) (n b : ℕ) → n < length row → slice_index row n ≡ b → IsListed b row
        listed_at [] n b l e = absurd (omega arith)
        listed_at (x ∷ row) zero b l e = inl (sym e)
        listed_at (x ∷ row) (suc n) b l e = inr (listed_at row n b (omega arith) e)

    abbrev pub New : ℕ → ℕ → Type 0
    New k x = (k ≡ v) × (x ≡ b)

    one_more : (row : List ℕ) (n x : ℕ) → n < length row → IsListed x (take (suc n) row) → IsListed x (take n row) ⊎ (x ≡ slice_index row n)
    one_more [] n x l h = absurd (omega arith)
    one_more (y ∷ row) zero x l (inl e) = inr e
    one_more (y ∷ row) zero x l (inr h) = absurd h
    one_more (y ∷ row) (suc n) x l (inl e) = inl (inl e)
    one_more (y ∷ row) (suc n) x l (inr h) = elim (one_more row n x (omega arith) h) [ inl a ↦ inl (inr a) | inr e ↦ inr e ]

    pub followed_new : (k x : ℕ) → Followed calls next k x → Followed calls s k x ⊎ New k x
    followed_new k x h = elim (ℕ_discrete k v) [
      | yes e ↦
          let here : IsListed x (take (slice_index next.followed v) (slice_index_or calls v [])) = subst (λ j. Followed calls next j x) e h in
          elim (one_more (slice_index_or calls v []) n x low (subst (λ m. IsListed x (take m (slice_index_or calls v []))) (count_same ∙ add-one n) here)) [
            | inl old ↦ inl (subst (λ j. Followed calls s j x) (sym e) (subst (λ m. IsListed x (take m (slice_index_or calls v []))) (sym count) old))
            | inr last ↦ inr (e, last ∙ called)
          ]
      | no ne ↦ inl (subst (λ m. IsListed x (take m (slice_index_or calls k []))) (count_other k ne) h)
    ]

    pub all_on : (k : ℕ) → AreFollowed calls s k → AreFollowed calls next k
    all_on k h = elim (ℕ_discrete k v) [
      | yes e ↦
          let more : length (slice_index_or calls v []) ≤ slice_index s.followed v = subst (λ j. AreFollowed calls s j) e h in
          absurd (omega arith)
      | no ne ↦ let same = count_other k ne in omega arith
    ]

    pub base_next : IsBase calls next
    base_next = record {
      range = w.range;
      followed_len = length-set s.followed v (slice_index s.followed v + 1) ∙ w.followed_len;
      places_len = w.places_len;
      on_path = w.on_path;
      open_place = w.open_place;
      fresh = λ k u. count_other k (λ e. met (subst (λ j. IsUnmet s j) e u)) ∙ w.fresh k u;
      closed_calls = w.closed_calls;
      closed_listed = w.closed_listed;
      listed_closed = w.listed_closed;
      apart = w.apart;
      least = w.least;
      behind = w.behind;
    }

    pub leaves_next : (d e f : ℕ) → Leaves calls New s next d e f
    leaves_next d e f = record {
      path = λ i l. refl;
      work = λ m l. refl;
      followed = λ i x low high h. followed_new (at s i) x h;
      all = λ i low high h. all_on (at s i) h;
      closed = λ k c. c;
      open_on = λ k j o. inr o;
    }

  -- ---- a number is opened

  module _ (k : ℕ) (new : IsUnmet s k) (low : k < length calls) where
    abbrev pub wider : State
    wider = opened s k

    abbrev far : ℕ
    far = length s.path

    there_k : k < length s.places
    there_k = let a = w.places_len in omega arith

    pub place_here : place_of wider k ≡ Open far
    place_here = get_or-set_same s.places k (Open far) Unseen there_k

    pub place_other : (j : ℕ) → j ≢ k → place_of wider j ≡ place_of s j
    place_other j ne = get_or-set_other s.places k j (Open far) Unseen ne

    pub at_before : (i : ℕ) → i < far → at wider i ≡ at s i
    at_before i l = get_or_append_left s.path (k ∷ []) 0 i l

    pub at_last : at wider far ≡ k
    at_last = get_or_push s.path k 0 far refl

    closed_other : (j : ℕ) → IsClosed s j → j ≢ k
    closed_other j c e = closed_met j c (subst (λ x. IsUnmet s x) (sym e) new)

    open_other : (j i : ℕ) → place_of s j ≡ Open i → j ≢ k
    open_other j i o e = open_met j i o (subst (λ x. IsUnmet s x) (sym e) new)

    still_closed : (j : ℕ) → IsClosed s j → IsClosed wider j
    still_closed j c = place_other j (closed_other j c) ∙ c

    was_closed : (j : ℕ) → IsClosed wider j → IsClosed s j
    was_closed j c = elim (ℕ_discrete j k) [
      | yes e ↦ let z : Open far ≡ Closed = sym place_here ∙ ap (λ x. place_of wider x) (sym e) ∙ c in absurd (let f : ⊥ = cc in f)
      | no ne ↦ sym (place_other j ne) ∙ c
    ]

    pub base_wider : IsBase calls wider
    base_wider = record {
      range = w.range;
      followed_len = w.followed_len;
      places_len = length-set s.places k (Open far) ∙ w.places_len;
      on_path = λ i l. elim (cases_lt i far) [
        | inl before ↦ let o = w.on_path i before in
            ap (λ x. place_of wider x) (at_before i before) ∙ place_other (at s i) (open_other (at s i) i o) ∙ o
        | inr last ↦ let long = length_push s.path k in let e : i ≡ far = omega arith in
            ap (λ m. place_of wider (at wider m)) e ∙ ap (λ x. place_of wider x) at_last ∙ place_here ∙ ap Open (sym e)
      ];
      open_place = λ j i o. elim (ℕ_discrete j k) [
        | yes e ↦ let same : Open far ≡ Open i = sym place_here ∙ ap (λ x. place_of wider x) (sym e) ∙ o in let i_is : far ≡ i = cc in
            ((let long = length_push s.path k in omega arith), ap (λ m. at wider m) (sym i_is) ∙ at_last ∙ sym e)
        | no ne ↦ let old = w.open_place j i (sym (place_other j ne) ∙ o) in
            ((let long = length_push s.path k in let l = old.0 in omega arith), at_before i old.0 ∙ old.1)
      ];
      fresh = λ j u. elim (ℕ_discrete j k) [
        | yes e ↦ ap (λ x. slice_index s.followed x) e ∙ w.fresh k new
        | no ne ↦ w.fresh j (sym (place_other j ne) ∙ u)
      ];
      closed_calls = λ a b c call. still_closed b (w.closed_calls a b (was_closed a c) call);
      closed_listed = λ j c. w.closed_listed j (was_closed j c);
      listed_closed = λ j h. still_closed j (w.listed_closed j h);
      apart = w.apart;
      least = least_on s.first w.least;
      behind = w.behind;
    }
      where
        least_on : (o : Option ℕ) → LeastOf (IsClosed s) (ReachesItself calls) o → LeastOf (IsClosed wider) (ReachesItself calls) o
        least_on None h = λ j c r. h j (was_closed j c) r
        least_on (Some f) h = (h.0, λ j c r. h.1 j (was_closed j c) r)

    pub leaves_wider : (d e f : ℕ) → e ≤ far → f ≤ length s.work → (New : ℕ → ℕ → Type 0) → Leaves calls New s wider d e f
    leaves_wider d e f le lf New = record {
      path = λ i l. at_before i (omega arith);
      work = λ m l. get_or_append_left s.work (k ∷ []) 0 m (omega arith);
      followed = λ i x a b h. inl h;
      all = λ i a b h. h;
      closed = still_closed;
      open_on = λ j i o. inr (place_other j (open_other j i o) ∙ o);
    }

    pub new_ring : IsRing calls wider (record { path = far; work = length s.work; is_cycle = false }) (far + 1) (length s.work + 1)
    new_ring = record {
      some = omega arith;
      some_work = omega arith;
      out = λ i a b. subst (λ m. To calls (at wider far) (at wider m)) (let e : far ≡ i = omega arith in e) (stays calls (at wider far));
      back = λ i a b. subst (λ m. To calls (at wider m) (at wider far)) (let e : far ≡ i = omega arith in e) (stays calls (at wider far));
      calls_in = λ i b from to h. absurd (none_followed i b (omega arith) h);
      turns = λ c. absurd (let f : ⊥ = cc in f);
      alone = λ c. refl;
      straight = λ c h. none_followed far (at wider far) refl h;
      works = λ m from to. (far, (omega arith), (omega arith), at_last ∙ sym (work_last m (omega arith)));
      waits = λ i from to. inr (length s.work, (omega arith), (omega arith), ap (λ m. at wider m) (let e : i ≡ far = omega arith in e) ∙ at_last ∙ sym (work_last (length s.work) refl));
    }
      where
        work_last : (m : ℕ) → m ≡ length s.work → worked wider m ≡ k
        work_last m e = get_or_push s.work k 0 m (sym e)

        none_followed : (i b : ℕ) → i ≡ far → Followed calls wider (at wider i) b → ⊥
        none_followed i b e h =
            let here : at wider i ≡ k = ap (λ m. at wider m) e ∙ at_last in
            let zero_is : slice_index s.followed (at wider i) ≡ 0 = ap (λ x. slice_index s.followed x) here ∙ w.fresh k new in
            subst (λ m. IsListed b (take m (slice_index_or calls (at wider i) []))) zero_is h
