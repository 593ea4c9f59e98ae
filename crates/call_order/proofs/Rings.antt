-- Rings of a path: what a step leaves as it is, and rings joined.
use Rattle.std.proofs.Common.{◌≡◌, ◌⊎◌, inl, inr, ℕ, ◌<◌, ◌≤◌, true, false, nat_lt, List, [], ◌∷◌, refl, sym, subst, ◌∙◌, arith, true≢false}
use Rattle.std.proofs.lemmas.Bool.{cases_Bool, cases_lt}
use Rattle.call_order.specs.Order.{Calls, ReachesItself}
use Rattle.call_order.specs.declared.walk.Place.TheVariants.{Open, Closed}
use Rattle.call_order.specs.declared.walk.Ring.{Ring}
use Rattle.call_order.specs.Walk.{State, at, worked, place_of, Followed, AreFollowed, IsBehind, IsRing, IsLinked, AreRings, joined_rings}
use Rattle.call_order.proofs.Reach.{To, through, one, turned}

-- what a step may leave of a state, from the place d up to e of the path and up to f of the work:
-- the numbers stay, calls that were followed newly have New, and what was met stays so
pub record Leaves (calls : List (List ℕ)) (New : ℕ → ℕ → Type 0) (s t : State) (d e f : ℕ) : Type 0 where
  pub path : (i : ℕ) → i < e → at t i ≡ at s i
  pub work : (m : ℕ) → m < f → worked t m ≡ worked s m
  pub followed : (i b : ℕ) → d ≤ i → i < e → Followed calls t (at s i) b → Followed calls s (at s i) b ⊎ New (at s i) b
  pub all : (i : ℕ) → d ≤ i → i < e → AreFollowed calls s (at s i) → AreFollowed calls t (at s i)
  pub closed : (k : ℕ) → place_of s k ≡ Closed → place_of t k ≡ Closed
  pub open_on : (k j : ℕ) → place_of s k ≡ Open j → (place_of t k ≡ Closed) ⊎ (place_of t k ≡ Open j)

module _ (calls : List (List ℕ)) where
  carried : (a b c d : ℕ) → a ≡ c → b ≡ d → To calls a b → To calls c d
  carried a b c d e g h = subst (λ x. To calls x d) e (subst (λ x. To calls a x) g h)

  behind_on : (New : ℕ → ℕ → Type 0) (s t : State) (d e f p b : ℕ) → Leaves calls New s t d e f → IsBehind s p b → IsBehind t p b
  behind_on New s t d e f p b l (inl c) = inl (l.closed b c)
  behind_on New s t d e f p b l (inr (j, low, o)) = elim (l.open_on b j o) [ inl c ↦ inl c | inr k ↦ inr (j, low, k) ]

  pub ring_kept : (New : ℕ → ℕ → Type 0) (s t : State) (r : Ring) (e f : ℕ) → Leaves calls New s t r.path e f
      → ((k b : ℕ) → New k b → IsBehind t r.path b) → (r.is_cycle ≡ false → New (at s r.path) (at s r.path) → ⊥)
      → IsRing calls s r e f → IsRing calls t r e f
  ring_kept New s t r e f l new straight h = let root = l.path r.path h.some in record {
    some = h.some;
    some_work = h.some_work;
    out = λ i low high. carried _ _ _ _ (sym root) (sym (l.path i high)) (h.out i low high);
    back = λ i low high. carried _ _ _ _ (sym (l.path i high)) (sym root) (h.back i low high);
    calls_in = λ i b low high g. elim (l.followed i b low high (subst (λ k. Followed calls t k b) (l.path i high) g)) [
      | inl old ↦ behind_on New s t r.path e f r.path b l (h.calls_in i b low high old)
      | inr n ↦ new (at s i) b n
    ];
    turns = λ c. subst (λ k. ReachesItself calls k) (sym root) (h.turns c);
    alone = h.alone;
    straight = λ c g. elim (l.followed r.path (at s r.path) (omega arith) h.some (subst (λ k. Followed calls t k k) root g)) [
      | inl old ↦ h.straight c old
      | inr n ↦ straight c n
    ];
    works = λ m low high. let w = h.works m low high in (w.0, w.1, w.2, l.path w.0 w.2 ∙ w.3 ∙ sym (l.work m high));
    waits = λ i low high. elim (h.waits i low high) [
      | inl all ↦ inl (subst (λ k. AreFollowed calls t k) (sym (l.path i high)) (l.all i low high all))
      | inr (m, from, to, w) ↦ inr (m, from, to, l.path i high ∙ w ∙ sym (l.work m to))
    ];
  }

  abbrev pub Nothing : ℕ → ℕ → Type 0
  Nothing k b = ⊥

  -- nothing new where no number has it
  pub calmed : (New : ℕ → ℕ → Type 0) (s t : State) (d e f : ℕ) → ((i b : ℕ) → i < e → New (at s i) b → ⊥) → Leaves calls New s t d e f → Leaves calls Nothing s t d e f
  calmed New s t d e f none l = record {
    path = l.path;
    work = l.work;
    followed = λ i b low high h. elim (l.followed i b low high h) [ inl old ↦ inl old | inr n ↦ inr (none i b high n) ];
    all = l.all;
    closed = l.closed;
    open_on = l.open_on;
  }

  pub shorter : (New : ℕ → ℕ → Type 0) (s t : State) (d e f g h : ℕ) → g ≤ e → h ≤ f → Leaves calls New s t d e f → Leaves calls New s t d g h
  shorter New s t d e f g h le lf l = record {
    path = λ i low. l.path i (omega arith);
    work = λ m low. l.work m (omega arith);
    followed = λ i b low high. l.followed i b low (omega arith);
    all = λ i low high. l.all i low (omega arith);
    closed = l.closed;
    open_on = l.open_on;
  }

  from_later : (s t : State) (d e f : ℕ) → Leaves calls Nothing s t 0 e f → Leaves calls Nothing s t d e f
  from_later s t d e f l = record {
    path = l.path;
    work = l.work;
    followed = λ i b low high. l.followed i b (omega arith) high;
    all = λ i low high. l.all i (omega arith) high;
    closed = l.closed;
    open_on = l.open_on;
  }

  pub linked_kept : (s t : State) (r : Ring) (rs : List Ring) (e f : ℕ) → at t r.path ≡ at s r.path → ((i : ℕ) → i < r.path → at t i ≡ at s i)
      → AreRings calls s r.path r.work rs → IsLinked calls s r rs → IsLinked calls t r rs
  linked_kept s t r [] e f root low a h = h
  linked_kept s t r (q ∷ qs) e f root low a h = carried _ _ _ _ (sym (low q.path a.0.some)) (sym root) h

  -- all rings up to there stay rings
  pub rings_kept : (s t : State) (rs : List Ring) (e f : ℕ) → Leaves calls Nothing s t 0 e f → AreRings calls s e f rs → AreRings calls t e f rs
  rings_kept s t [] e f l h = h
  rings_kept s t (r ∷ rs) e f l h =
      let some = h.0.some in let some_work = h.0.some_work in (
        ring_kept Nothing s t r e f (from_later s t r.path e f l) (λ k b n. absurd n) (λ c n. n) h.0,
        linked_kept s t r rs e f (l.path r.path some) (λ i low. l.path i (omega arith)) h.2 h.1,
        rings_kept s t rs r.path r.work (shorter Nothing s t 0 e f r.path r.work (omega arith) (omega arith) l) h.2,
      )

  -- ---- rings joined by a call that leads back

  -- the rings from this one on, of which each number reaches v
  pub record IsBroad (New : ℕ → ℕ → Type 0) (t : State) (q : Ring) (e f v : ℕ) : Type 0 where
    pub some : q.path < e
    pub some_work : q.work < f
    pub out : (i : ℕ) → q.path ≤ i → i < e → To calls (at t q.path) (at t i)
    pub on : (i : ℕ) → q.path ≤ i → i < e → To calls (at t i) v
    pub calls_in : (i b : ℕ) → q.path ≤ i → i < e → Followed calls t (at t i) b → IsBehind t q.path b ⊎ New (at t i) b
    pub works : (m : ℕ) → q.work ≤ m → m < f → (i : ℕ) × (q.path ≤ i) × (i < e) × (at t i ≡ worked t m)
    pub waits : (i : ℕ) → q.path ≤ i → i < e → AreFollowed calls t (at t i) ⊎ ((m : ℕ) × (q.work ≤ m) × (m < f) × (at t i ≡ worked t m))

  behind_low : (t : State) (p q b : ℕ) → q ≤ p → IsBehind t p b → IsBehind t q b
  behind_low t p q b le (inl c) = inl c
  behind_low t p q b le (inr (j, low, o)) = inr (j, (omega arith), o)

  broader : (New : ℕ → ℕ → Type 0) (t : State) (r q : Ring) (e f v : ℕ) → IsBroad New t r e f v → To calls (at t q.path) (at t r.path) → IsRing calls t q r.path r.work → IsBroad New t q e f v
  broader New t r q e f v h link g =
      let low_path = g.some in let low_work = g.some_work in let some = h.some in let some_work = h.some_work in record {
        some = omega arith;
        some_work = omega arith;
        out = λ i low high. elim (cases_lt i r.path) [ inl l ↦ g.out i low l | inr l ↦ through calls _ _ _ link (h.out i l high) ];
        on = λ i low high. elim (cases_lt i r.path) [
          | inl l ↦ through calls _ _ _ (g.back i low l) (through calls _ _ _ link (h.on r.path (omega arith) some))
          | inr l ↦ h.on i l high
        ];
        calls_in = λ i b low high w. elim (cases_lt i r.path) [
          | inl l ↦ inl (g.calls_in i b low l w)
          | inr l ↦ elim (h.calls_in i b l high w) [ inl o ↦ inl (behind_low t r.path q.path b (omega arith) o) | inr n ↦ inr n ]
        ];
        works = λ m low high. elim (cases_lt m r.work) [
          | inl l ↦ let w = g.works m low l in (w.0, w.1, (let a = w.2 in omega arith), w.3)
          | inr l ↦ let w = h.works m l high in (w.0, (let a = w.1 in omega arith), w.2, w.3)
        ];
        waits = λ i low high. elim (cases_lt i r.path) [
          | inl l ↦ elim (g.waits i low l) [ inl a ↦ inl a | inr (m, from, to, w) ↦ inr (m, from, (omega arith), w) ]
          | inr l ↦ elim (h.waits i l high) [ inl a ↦ inl a | inr (m, from, to, w) ↦ inr (m, (omega arith), to, w) ]
        ];
      }

  turned_ring : (New : ℕ → ℕ → Type 0) (t : State) (q : Ring) (e f v j : ℕ) → IsBroad New t q e f v → ((k b : ℕ) → New k b → IsBehind t q.path b) → Calls calls v (at t j) → To calls (at t j) (at t q.path)
      → IsRing calls t (record q { is_cycle = true }) e f
  turned_ring New t q e f v j h new call root = record {
    some = h.some;
    some_work = h.some_work;
    out = h.out;
    back = λ i low high. through calls _ _ _ (h.on i low high) (through calls _ _ _ (one calls v (at t j) call) root);
    calls_in = λ i b low high w. elim (h.calls_in i b low high w) [ inl o ↦ o | inr n ↦ new (at t i) b n ];
    turns = λ c. turned calls (at t q.path) v (at t j) (h.on q.path (omega arith) h.some) call root;
    alone = λ c. absurd (true≢false c);
    straight = λ c. absurd (true≢false c);
    works = h.works;
    waits = h.waits;
  }

  -- the ring of place j, and those behind it, are one, where the new calls lead to place j
  pub joined_are : (New : ℕ → ℕ → Type 0) (t : State) (r : Ring) (rs : List Ring) (e f v j d : ℕ) → IsBroad New t r e f v → ((k b : ℕ) → New k b → place_of t b ≡ Open j)
      → IsLinked calls t r rs → AreRings calls t r.path r.work rs
      → ((i : ℕ) → r.path ≤ i → i < d → To calls (at t i) (at t r.path)) → j < d → Calls calls v (at t j)
      → AreRings calls t e f (joined_rings j (r ∷ rs))
  joined_are New t r [] e f v j d h new link more own low call = elim (cases_Bool (nat_lt j r.path)) [
    | inl b ↦ let first = more.0 in absurd (grind (arith, b, first))
    | inr b ↦ rw b (turned_ring New t r e f v j h (λ k x n. inr (j, grind (arith, b), new k x n)) call (own j (grind (arith, b)) low), link, more)
  ]
  joined_are New t r (q ∷ qs) e f v j d h new link more own low call = elim (cases_Bool (nat_lt j r.path)) [
    | inl b ↦ rw b (joined_are New t q qs e f v j r.path (broader New t r q e f v h link more.0) new more.1 more.2 more.0.back (grind (arith, b)) call)
    | inr b ↦ rw b (turned_ring New t r e f v j h (λ k x n. inr (j, grind (arith, b), new k x n)) call (own j (grind (arith, b)) low), link, more)
  ]

  -- the last ring after a step, where v stands in it
  pub broad : (New : ℕ → ℕ → Type 0) (s t : State) (r : Ring) (e f i : ℕ) → Leaves calls New s t r.path e f → IsRing calls s r e f → r.path ≤ i → i < e → IsBroad New t r e f (at s i)
  broad New s t r e f n l h from to = let root = l.path r.path h.some in record {
    some = h.some;
    some_work = h.some_work;
    out = λ i low high. carried _ _ _ _ (sym root) (sym (l.path i high)) (h.out i low high);
    on = λ i low high. carried _ _ _ _ (sym (l.path i high)) refl (through calls _ _ _ (h.back i low high) (h.out n from to));
    calls_in = λ i b low high g. elim (l.followed i b low high (subst (λ k. Followed calls t k b) (l.path i high) g)) [
      | inl old ↦ inl (behind_on New s t r.path e f r.path b l (h.calls_in i b low high old))
      | inr n ↦ inr (subst (λ k. New k b) (sym (l.path i high)) n)
    ];
    works = λ m low high. let w = h.works m low high in (w.0, w.1, w.2, l.path w.0 w.2 ∙ w.3 ∙ sym (l.work m high));
    waits = λ i low high. elim (h.waits i low high) [
      | inl all ↦ inl (subst (λ k. AreFollowed calls t k) (sym (l.path i high)) (l.all i low high all))
      | inr (m, a, b, w) ↦ inr (m, a, b, l.path i high ∙ w ∙ sym (l.work m b))
    ];
  }

  pub back_kept : (New : ℕ → ℕ → Type 0) (s t : State) (r : Ring) (e f : ℕ) → Leaves calls New s t r.path e f → IsRing calls s r e f
      → (i : ℕ) → r.path ≤ i → i < e → To calls (at t i) (at t r.path)
  back_kept New s t r e f l h i low high = carried _ _ _ _ (sym (l.path i high)) (sym (l.path r.path h.some)) (h.back i low high)
