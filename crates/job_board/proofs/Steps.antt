-- Each kind of step keeps the rule.
use Rattle.std.proofs.Common.{◌≡◌, ◌≢◌, ◌⊎◌, ℕ, zero, suc, ◌+◌, ◌-◌, ◌*◌, ◌/◌, ◌%◌, ◌^◌, ◌<◌, Bool, true, false, not, ◌==◌, ltb, bit_or, max, List, [], ◌∷◌, ◌++◌, replicate, drop, length, get_or, set, slice_index, Option, Some, None, is_some, refl, sym, ap, ◌∙◌, subst, arith, inl, inr, ⊎_elim, length-set, get_or-set_other, get_or-set_same}
use Rattle.std.proofs.lemmas.Bool.{or_cases, eq-eqb, ne_eqb, eqb-true}
use Rattle.std.proofs.lemmas.Bool.Decides.{nat_tests}
use Rattle.std.proofs.Math.Decide.{ℕ_discrete, dec_lt}
use mathlib.Core.Logic.{dite}
use Rattle.std.proofs.lemmas.Nat.{or_shifted}
use Rattle.std.specs.Int.Bits.{or_step}
use mathlib.Core.Option.{some, none, some-injective}
use mathlib.Core.Option as maybe
use lib.ListN.{get_elem?}
use Rattle.atomic_table.specs.Table.{State, Me, step, keeps, gives, stepped, homes_after, carried_after, Valid, rest, Allows, opening}
use Rattle.job_graph.specs.Graph.{inputs_of, has}
use Rattle.job_graph.specs.Machine.{less, put}
use Rattle.job_graph.specs.declared.machine.Event.{Event}
use Rattle.job_graph.specs.declared.machine.Event.TheVariants.{Claim, Publish, Arrive}
use Rattle.job_graph.specs.declared.machine.Step.TheVariants.{Done}
use Rattle.job_graph.specs.Machine.{Machine, start, answer, after, next, run, IsValid}
use Rattle.job_graph.proofs.Taken.{put_here, put_else, length_less, has_less_else, has_less}
use Rattle.job_graph.proofs.Inputs.{has_else}
use Rattle.job_graph.proofs.Events.{at_put, done_next, claim_done, publish_done, arrive_done, reached_valid}
use Rattle.job_graph.proofs.Once.{in_order}
use Rattle.job_graph.proofs.States.{run_more}
use Rattle.job_board.specs.declared.view.Plan.{Plan}
use Rattle.job_board.specs.declared.view.View.{View}
use Rattle.job_board.specs.declared.view.Work.{Work}
use Rattle.job_board.specs.declared.view.Work.TheVariants.{Resting, Working}
use Rattle.job_board.specs.Rule.{Holds, AreDependents, Standing, one_if, how_many, last_stage, has_job, AreReady, WorksAt, graph_of, dependents_of, graph_in, dependents_in, IsAt, IsNumber, SeatOk, Keeps}
use Rattle.job_board.specs.Views.{all_parts, newcomer, AreParts}
use Rattle.job_board.proofs.Parts.{unspent, alone, parts_stay, parts_open}
use Rattle.job_board.specs.Slots.{first, edge_slot, SlotsOk, taken, AreRight, held_by}
use Rattle.job_board.proofs.Slots.{take_them, carried_them, give_them, gives_valid}
use Rattle.job_board.proofs.SlotSteps.{claimed_at, filled, claimed_slots, told_slots, held_length, given_drop, ended_slots, opened_slots}
use Rattle.job_board.specs.Plays.{noting, readied, claiming, telling, resting, counting, stopping, Looks, Claims, Took, right_in, Tells, Ends, Counts, Stops}
use Rattle.job_board.proofs.Counting.{one_if_small, how_many_small, all_of_them, how_many_all, same_many, one_more}
use Rattle.job_board.proofs.Keeping.{job_stays, made_stays, ready_stays, moved, views_change, is_there, unmoved, moves}

-- one more event
pub one_on : (g : List (List ℕ)) (m : Machine) (e : Event) → (es : List Event) × (m ≡ run g (start g) es) → answer g m e ≡ Done → (es : List Event) × (after m e ≡ run g (start g) es)
one_on g m e r d = (r.0 ++ e ∷ [], sym (done_next g m e d) ∙ ap (λ x. next g x e) r.1 ∙ sym (run_more g (start g) r.0 e))

pub valid : (g : List (List ℕ)) (m : Machine) → (es : List Event) × (m ≡ run g (start g) es) → IsValid g m
valid g m r = subst (IsValid g) (sym r.1) (reached_valid g r.0)

unclaimed : (c : Option ℕ) → is_some c ≡ false → c ≡ None
unclaimed None e = refl
unclaimed (Some w) e = absurd (cc)

pub listed_ready : (m : Machine) (n j : ℕ) (js : List ℕ) → AreReady m n js → has j js ≡ true → (j < n) × (m.awaits j ≡ [])
listed_ready m n j [] a h = absurd (cc)
listed_ready m n j (k ∷ js) a h = dite (ℕ_discrete j k) (λ e. subst (λ x. (x < n) × (m.awaits x ≡ [])) (sym e) (a.0, a.1)) (λ ne. listed_ready m n j js a.2 (sym (has_else j k js ne) ∙ h))

not_zero : (st : ℕ) → st ≡ 0 → not (st == 0) ≡ false
not_zero st e = grind (arith, nat_tests)

zero_if : (st : ℕ) → st ≡ 0 → one_if (not (st == 0)) ≡ 0
zero_if st e = ap one_if (not_zero st e)

one_if_not : (st : ℕ) → st ≢ 0 → one_if (not (st == 0)) ≡ 1
one_if_not st e = let t : not (st == 0) ≡ true = grind (arith, nat_tests) in ap one_if t

both_some : (a b : ℕ) → (suc a == 0) ≡ (suc b == 0)
both_some a b = let x : (suc a == 0) ≡ false = grind (arith, nat_tests) in let y : (suc b == 0) ≡ false = grind (arith, nat_tests) in x ∙ sym y

test_zero : (a st : ℕ) → (a == 0) ≡ (st == 0) → st ≡ 0 → a ≡ 0
test_zero a st e z = let t : (st == 0) ≡ true = grind (arith, nat_tests) in grind (arith, nat_tests)

same_test : (a b c : ℕ) → a ≢ c → b ≢ c → (a == c) ≡ (b == c)
same_test a b c m n = let x : (a == c) ≡ false = grind (arith, nat_tests) in let y : (b == c) ≡ false = grind (arith, nat_tests) in x ∙ sym y

first_told : (st q : ℕ) → st ≡ 0 → ltb st (q + 2) ≡ ltb 1 (q + 2)
first_told st q e = let x : ltb st (q + 2) ≡ true = grind (arith, nat_tests) in let y : ltb 1 (q + 2) ≡ true = grind (arith, nat_tests) in x ∙ sym y

not_above : (st : ℕ) → st ≡ 0 → ltb 1 st ≡ false
not_above st e = grind (arith, nat_tests)

not_suc : (q : ℕ) → not (suc q == 0) ≡ true
not_suc q = grind (arith, nat_tests)

open_at : (q : ℕ) → ltb (suc q) (q + 2) ≡ true
open_at q = grind (arith, nat_tests)

shut_at : (q a : ℕ) → a ≡ q → ltb (suc (suc q)) (a + 2) ≡ false
shut_at q a e = grind (arith, nat_tests)

same_at : (q a : ℕ) → a ≢ q → ltb (suc q) (a + 2) ≡ ltb (suc (suc q)) (a + 2)
same_at q a n = dite (dec_lt a q)
    (λ l. let x : ltb (suc q) (a + 2) ≡ false = grind (arith, nat_tests) in let y : ltb (suc (suc q)) (a + 2) ≡ false = grind (arith, nat_tests) in x ∙ sym y)
    (λ m. let l : q < a = omega arith in let x : ltb (suc q) (a + 2) ≡ true = grind (arith, nat_tests) in let y : ltb (suc (suc q)) (a + 2) ≡ true = grind (arith, nat_tests) in x ∙ sym y)

shut_both : (q z a : ℕ) → a < q → q < z → ltb (suc q) (a + 2) ≡ ltb z (a + 2)
shut_both q z a l m = let x : ltb (suc q) (a + 2) ≡ false = grind (arith, nat_tests) in let y : ltb z (a + 2) ≡ false = grind (arith, nat_tests) in x ∙ sym y

above_one : (q : ℕ) → ltb 1 (suc (suc q)) ≡ true
above_one q = grind (arith, nat_tests)

none_told : (q : ℕ) → ltb 0 (q + 2) ≡ true
none_told q = grind (arith, nat_tests)

bit_is : (b : Bool) (n x : ℕ) → x ≡ 2 * n + one_if b → x % 2 ≡ 1 → b ≡ true
bit_is true n x e o = refl
bit_is false n x e o = absurd (omega arith)

-- the lowest bit is set
or_zero : (a : ℕ) → bit_or a 0 ≡ a
or_zero a = let e = or_shifted a 0 0 (omega arith) in let f : a * 2 ^ 0 ≡ a = omega arith in ap (λ z. bit_or z 0) (sym f) ∙ e ∙ (let g : a * 2 ^ 0 + 0 ≡ a = omega arith in g)

odd : (n : ℕ) (b : Bool) → bit_or (2 * n + one_if b) 1 ≡ 2 * n + 1
odd n true = let x = 2 * n + 1 in let h : x / 2 ≡ n = omega arith in let m : x % 2 ≡ 1 = omega arith in
    let e : bit_or x 1 ≡ bit_or (x / 2) 0 * 2 + max (x % 2) 1 = or_step x 1 in let z : bit_or (x / 2) 0 ≡ x / 2 = or_zero (x / 2) in
    e ∙ ap (λ y. y * 2 + max (x % 2) 1) z ∙ (let f : x / 2 * 2 + max (x % 2) 1 ≡ 2 * n + 1 = omega arith in f)
odd n false = ap (λ z. bit_or z 1) (let e : 2 * n + 0 ≡ n * 2 = omega arith in e) ∙ or_shifted n 1 1 (omega arith) ∙ (let e : n * 2 + 1 ≡ 2 * n + 1 = omega arith in e)

same_work : (d : List (List ℕ)) (x t : Standing) (id : ℕ) (w : Work) → ((j : ℕ) → t.holder j ≡ x.holder j) → ((j : ℕ) → t.stage j ≡ x.stage j) → WorksAt d x id w → WorksAt d t id w
same_work d x t id Resting a b h = tt
same_work d x t id (Working j q) a b h = (h.0, a j ∙ h.1, b j ∙ h.2, h.3)

same_self : (a : ℕ) → (a == a) ≡ true
same_self a = grind (arith, nat_tests)

zero_test : (a id : ℕ) → a ≡ 0 → (a == suc id) ≡ false
zero_test a id e = grind (arith, nat_tests)

has_job_here : (j w : ℕ) (cs : List (ℕ × ℕ)) → has_job j ((j, w) ∷ cs) ≡ true
has_job_here j w cs = grind (arith, nat_tests)

has_job_else : (k j w : ℕ) (cs : List (ℕ × ℕ)) → k ≢ j → has_job k ((j, w) ∷ cs) ≡ has_job k cs
has_job_else k j w cs n = grind (arith, nat_tests)

module _ {T K S : Type 0} (empty : S) (right : Plan T K → ℕ → S → Type 0) (p : Plan T K) (slots id : ℕ) (me : Me S (View T K)) (planned : me.0.plan ≡ Some p) where
  abbrev At : State S (View T K) → Type 0
  At s = get_elem? s.views id ≡ some me.0

  abbrev Rule : State S (View T K) → Type 0
  Rule s = Holds empty (right p) p s

  holding : (x : Standing) (s : State S (View T K)) → Keeps p x s → SlotsOk empty (right p) (graph_of p) (dependents_of p) x.machine.awaits x.stage s.homes → Rule s
  holding x s k h = record { standing = x; keeps = k; slots = h }

  noted : (x : Standing) (v : View T K) (i n : ℕ) → SeatOk p x id v → SeatOk p x id (noting v i n)
  noted x v i n ok = record { plan = ok.plan; claims = ok.claims; once = ok.once; made = ok.made; work = ok.work; ready = ok.ready; full = ok.full; stopped = ok.stopped; seen_stop = ok.seen_stop; number = ok.number; done = ok.done }

  -- each claimed job but the one that the seat is at is finished, also where it moves that one
  done_else : (st : Standing) (m : Machine) (j z : ℕ) (w : Work) → (me.0.work ≡ Resting) ⊎ IsAt me.0.work j → SeatOk p st id me.0 → (k : ℕ) → k ≢ j → put st.holder j (suc id) k ≡ suc id
      → (put st.stage j z k ≡ last_stage (dependents_of p) k) ⊎ IsAt w k
  done_else st m j z w at ok k ne h = ⊎_elim (λ a. inl (put_else st.stage j z k ne ∙ a))
      (λ a. absurd (⊎_elim (λ (r : me.0.work ≡ Resting). subst (λ u. IsAt u k) r a) (λ r. ne (same_job me.0.work j k r a)) at)) (ok.done k (sym (put_else st.holder j (suc id) k ne) ∙ h))
    where
      same_job : (u : Work) (i l : ℕ) → IsAt u i → IsAt u l → l ≡ i
      same_job Resting i l a b = absurd a
      same_job (Working n q) i l a b = sym b ∙ a

  pub looks : (j : ℕ) → j < length (graph_of p) → Allows Rule slots id me (2 * j + 2) (λ n. n) (Looks (step slots (2 * j + 2) 0 0 none) me)
  looks j l s r len at fits = let i = 2 * j + 2 in let x = get_or s.words i 0 in let h = r.keeps.shows in let ok = h.seats id me.0 at in dite (ℕ_discrete x 0)
      (λ hit. let w : View T K = noting (readied me.0 j) i x in let none' : r.standing.machine.awaits j ≡ [] = nil (r.standing.machine.awaits j) (sym (h.jobs j l).count ∙ hit) in (
        w,
        keeps,
        tt,
        holding r.standing _ (unmoved p s r.standing r.keeps i x id s.homes me.0 w at refl record { plan = ok.plan; claims = ok.claims; once = ok.once; made = ok.made; work = ok.work; ready = (l, none', ok.ready); full = ok.full; stopped = ok.stopped; seen_stop = ok.seen_stop; number = ok.number; done = ok.done } ((λ z. z), refl, planned)) r.slots,
        λ k e. let same : j ≡ k = omega arith in ((λ _. ap (λ z. (noting (readied me.0 z) i x, me.1)) same), λ no. absurd (no hit)),
      ))
      (λ miss. (noting me.0 i x, keeps, tt, holding r.standing _ (unmoved p s r.standing r.keeps i x id s.homes me.0 (noting me.0 i x) at refl (noted r.standing me.0 i x ok) ((λ z. z), refl, planned)) r.slots, λ k e. ((λ yes'. absurd (miss yes')), λ _. refl)))
    where
      nil : (xs : List ℕ) → length xs ≡ 0 → xs ≡ []
      nil [] e = refl
      nil (y ∷ ys) e = absurd (omega arith)

  pub claims : (j : ℕ) → has j me.0.ready ≡ true → me.0.work ≡ Resting → Allows Rule slots id me (2 * j + 1) (λ n. bit_or n 1) (Claims empty right (step slots (2 * j + 1) 1 0 none) me)
  claims j listed rest' s r len at fits = let i = 2 * j + 1 in let x = get_or s.words i 0 in let h = r.keeps.shows in let ok = h.seats id me.0 at in let st = r.standing in let m = st.machine in let g = graph_of p in let d = dependents_of p in
      let found = listed_ready m (length g) j me.0.ready ok.ready listed in let l = found.0 in let job = h.jobs j l in let v = valid g m r.keeps.reached in
      let claimed_ready : (k : ℕ) → k < length g → st.stage k ≢ 0 → m.awaits k ≡ [] = λ k kl n. v.ready k ((h.jobs k kl).claimed ∙ claimed_at (st.stage k) n) in
      dite (ℕ_discrete (st.stage j) 0)
      (λ fresh. let zero_word : x ≡ 0 = job.claim ∙ zero_if (st.stage j) fresh in
      let w : View T K = noting (claiming me.0 j id) i x in
      let free : st.holder j ≡ 0 = test_zero (st.holder j) (st.stage j) job.held fresh in
      let none' : m.claimed j ≡ None = unclaimed (m.claimed j) (job.claimed ∙ not_zero (st.stage j) fresh) in
      let did : answer g m (Claim id j) ≡ Done = claim_done g m id j l found.1 none' in
      let open_edges : (q : ℕ) → q < length (inputs_of d j) → has j (m.awaits (slice_index (inputs_of d j) q)) ≡ true = λ q ql. job.edges q ql ∙ ap (λ z. ltb z (q + 2)) fresh ∙ none_told q in
      let f = filled empty (right p) g d r.keeps.fits m.awaits st.stage s.homes r.slots j l fresh found.1 claimed_ready open_edges in
      let now = claimed_slots empty (right p) g d r.keeps.fits m.awaits st.stage s.homes r.slots j l fresh found.1 claimed_ready open_edges f.0 me.1 f.1 f.3 in
      let act = take_them (taken empty g d j f.0) in (
        w,
        act,
        now.0,
        subst (λ n. Rule (stepped s i n id me.1 w act)) (ap (λ z. bit_or z 1) (sym zero_word)) (holding (moved st (after m (Claim id j)) j 1 id) _ (claimed s st r.keeps at j x l rest' free none' fresh did (homes_after s.homes me.1 act)) now.1),
        λ k e. let same : j ≡ k = omega arith in (
          (λ _. subst (λ z. Took empty right i z x me (w, carried_after me.1 act)) same
              (subst (λ (q : Option (Plan T K)). (u : ℕ) × (ys : List S) × AreRight (right_in right q) (inputs_of (graph_in q) j) ys × ((let b : Me S (View T K) = (w, carried_after me.1 act) in b) ≡ (noting (claiming me.0 j u) i x, taken empty (graph_in q) (dependents_in q) j ys ++ me.1)) × IsNumber me.0.number u) (sym planned)
              (id, f.0, f.2, (λ z. (w, carried_them me.1 (taken empty g d j f.0) z)), ok.number))),
          λ no. absurd (no zero_word),
        ),
      ))
      (λ taken'. let one_word : x ≡ 1 = job.claim ∙ one_if_not (st.stage j) taken' in (
        noting me.0 i x,
        keeps,
        tt,
        holding st _ (unmoved p s st r.keeps i (bit_or x 1) id s.homes me.0 (noting me.0 i x) at (ap (λ z. bit_or z 1) one_word ∙ sym one_word) (noted st me.0 i x ok) ((λ z. z), refl, planned)) r.slots,
        λ k e. ((λ z. absurd (omega arith)), λ _. refl),
      ))
    where
      claimed : (s : State S (View T K)) (st : Standing) (r : Keeps p st s) (at : get_elem? s.views id ≡ some me.0) (j n : ℕ) → j < length (graph_of p) → me.0.work ≡ Resting → st.holder j ≡ 0 → st.machine.claimed j ≡ None → st.stage j ≡ 0
          → answer (graph_of p) st.machine (Claim id j) ≡ Done → (homes : List (maybe.Option S)) → Keeps p (moved st (after st.machine (Claim id j)) j 1 id) record { words = set s.words (2 * j + 1) 1; homes = homes; views = set s.views id (noting (claiming me.0 j id) (2 * j + 1) n) }
      claimed s st r at j n l rest' free none' fresh did homes = let h = r.shows in let ok = h.seats id me.0 at in let m = st.machine in let g = graph_of p in let d = dependents_of p in let i = 2 * j + 1 in let job = h.jobs j l in let wide = h.wide in
          moves p s st r (after m (Claim id j)) j 1 i 1 id homes me.0 (noting (claiming me.0 j id) i n) at l (inl free) (λ e. absurd (omega arith)) (one_on g m (Claim id j) r.reached did)
          (λ k e. e)
          (λ k u e. at_put (λ y (c : Option ℕ). c ≡ Some u) m.claimed j (Some id) k (λ y. let t : m.claimed k ≡ None = ap m.claimed y ∙ none' in absurd (cc)) (λ _. e))
          (get_or-set_other s.words i 0 1 0 (λ e. absurd (omega arith)) ∙ h.done ∙ ap (λ z. 2 * z + one_if st.stopped) (same_many (λ k. st.stage k == last_stage d k) (λ k. put st.stage j 1 k == last_stage d k) (length g)
          (λ k _. at_put (λ y z. (st.stage y == last_stage d y) ≡ (z == last_stage d y)) st.stage j 1 k (λ e. same_test (st.stage k) 1 (last_stage d k) (λ z. let t : st.stage k ≡ 0 = ap st.stage e ∙ fresh in absurd (omega arith)) (λ z. absurd (omega arith))) (λ _. refl))))
          record {
            count = get_or-set_other s.words i (2 * j + 2) 1 0 (λ e. absurd (omega arith)) ∙ job.count;
            claim = get_or-set_same s.words i 1 0 (omega arith);
            claimed = ap is_some (put_here m.claimed j (Some id) j refl);
            held = both_some id 0;
            published = job.published ∙ not_above (st.stage j) fresh;
            edges = λ q b. job.edges q b ∙ first_told (st.stage j) q fresh;
            bound = omega arith;
          }
          (λ k ne ok'. job_stays d s.words (set s.words i 1) m (after m (Claim id j)) k (st.stage k) (st.holder k) (get_or-set_other s.words i (2 * k + 2) 1 0 (λ e. absurd (omega arith))) (get_or-set_other s.words i (2 * k + 1) 1 0 (λ e. ne (omega arith)))
          refl (ap is_some (put_else m.claimed j (Some id) k ne)) refl (λ _. refl) ok')
          record {
            plan = ok.plan;
            claims = λ k. dite (ℕ_discrete k j)
                (λ e. subst (λ y. has_job y ((j, id) ∷ me.0.claims) ≡ (put st.holder j (suc id) y == suc id)) (sym e) (has_job_here j id me.0.claims ∙ sym (ap (λ y. y == suc id) (put_here st.holder j (suc id) j refl) ∙ same_self (suc id))))
                (λ ne. has_job_else k j id me.0.claims ne ∙ ok.claims k ∙ ap (λ y. y == suc id) (sym (put_else st.holder j (suc id) k ne)));
            once = (ok.claims j ∙ zero_test (st.holder j) id free, ok.once);
            made = (put_here m.claimed j (Some id) j refl, made_stays m (after m (Claim id j)) me.0.claims (λ k u e. at_put (λ y (c : Option ℕ). c ≡ Some u) m.claimed j (Some id) k (λ y. let t : m.claimed k ≡ None = ap m.claimed y ∙ none' in absurd (cc)) (λ _. e)) ok.made);
            work = (omega (arith, r.fits.count), put_here st.holder j (suc id) j refl, put_here st.stage j 1 j refl, omega arith);
            ready = ready_stays m (after m (Claim id j)) (length g) me.0.ready (λ k e. e) ok.ready;
            full = λ f. let t = ok.full f j l in absurd (omega arith);
            stopped = ok.stopped;
            seen_stop = ok.seen_stop;
            number = refl;
            done = λ k h. dite (ℕ_discrete k j) (λ e. inr (sym e)) (λ ne. done_else st m j 1 (Working j 0) (inl rest') ok k ne h);
          }
          ((λ z. z), refl, planned)

  -- the job j that was claimed is published, where it wasn't yet
  abbrev Published : Machine → ℕ → Type 0
  Published m j = (pub' : ℕ → Bool) × ((es : List Event) × ((let n : Machine = record { awaits = m.awaits; claimed = m.claimed; published = pub' } in n) ≡ run (graph_of p) (start (graph_of p)) es)) × (pub' j ≡ true) × ((k : ℕ) → k ≢ j → pub' k ≡ m.published k)

  publishes : (m : Machine) (j : ℕ) → (es : List Event) × (m ≡ run (graph_of p) (start (graph_of p)) es) → is_some (m.claimed j) ≡ true → Published m j
  publishes m j r c = by_both (m.published j) (m.claimed j) refl refl c where
    by_both : (b : Bool) (o : Option ℕ) → m.published j ≡ b → m.claimed j ≡ o → is_some o ≡ true → Published m j
    by_both true o e f s = (m.published, r, e, λ k ne. refl)
    by_both false None e f s = absurd (cc)
    by_both false (Some w) e f s = (put m.published j true, one_on (graph_of p) m (Publish w j) r (publish_done (graph_of p) m w j f e), put_here m.published j true j refl, λ k ne. put_else m.published j true k ne)

  at_work : (s : State S (View T K)) (x : Standing) (r : Keeps p x s) → At s → (j q : ℕ) → me.0.work ≡ Working j q → WorksAt (dependents_of p) x id (Working j q)
  at_work s x r at j q e = subst (WorksAt (dependents_of p) x id) e (r.shows.seats id me.0 at).work

  at_job : (w : Work) {j q : ℕ} → w ≡ Working j q → IsAt w j
  at_job w {j} {q} e = subst (λ u. IsAt u j) (sym e) refl

  pub tells : (j q k : ℕ) (y : S) (c : List (ℕ × S)) → me.0.work ≡ Working j q → q < length (inputs_of (dependents_of p) j) → slice_index (inputs_of (dependents_of p) j) q ≡ k → me.1 ≡ (edge_slot (graph_of p) j k, y) ∷ c → right p j y
      → Allows Rule slots id me (2 * k + 2) (λ n. (n + (2 ^ 64 - 1)) % 2 ^ 64) (Tells (step slots (2 * k + 2) 1 0 none) me)
  tells j q k note c working more is carried good s r len at fits = let i = 2 * k + 2 in let x = get_or s.words i 0 in let h = r.keeps.shows in let ok = h.seats id me.0 at in let st = r.standing in let m = st.machine in let g = graph_of p in let d = dependents_of p in
      let v = at_work s r.standing r.keeps at j q working in let l : j < length g = omega (arith, r.keeps.fits.count) in let job = h.jobs j l in let stage : st.stage j ≡ suc q = v.2 in
      let some' : is_some (m.claimed j) ≡ true = job.claimed ∙ ap (λ z. not (z == 0)) stage ∙ not_suc q in
      let made = publishes m j r.keeps.reached some' in let m1 : Machine = record { awaits = m.awaits; claimed = m.claimed; published = made.0 } in
      let awaited : has j (m.awaits k) ≡ true = ap (λ z. has j (m.awaits z)) (sym is) ∙ job.edges q more ∙ ap (λ z. ltb z (q + 2)) stage ∙ open_at q in
      let did : answer g m1 (Arrive j k) ≡ Done = arrive_done g m1 j k made.2 awaited in
      let ne : k ≢ j = λ e. (let t = (valid g m r.keeps.reached).ready j some' in let no : has j (m.awaits k) ≡ false = ap (λ z. has j (m.awaits z)) e ∙ ap (has j) t in cc) in
      let there = r.keeps.fits.edge j q more in let kl : k < length g = omega (arith, there.0) in
      let fewer = length_less j (m.awaits k) awaited in let was = (h.jobs k kl).count in
      let y = (x + 18446744073709551615) % 18446744073709551616 in let left : y ≡ length (less j (m.awaits k)) = omega arith in
      let order = in_order g m r.keeps.fits.inputs r.keeps.reached k in let wide = h.wide in
      let ends' : (a : ℕ) → m.awaits a ≡ [] → put m.awaits k (less j (m.awaits k)) a ≡ [] = λ a e. at_put (λ _ (z : List ℕ). z ≡ []) m.awaits k (less j (m.awaits k)) a
      (λ s'. let no : has j (m.awaits k) ≡ false = ap (λ z. has j (m.awaits z)) (sym s') ∙ ap (has j) e in absurd (cc)) (λ _. e) in
      let unclaimed' : st.stage k ≡ 0 = dite (ℕ_discrete (st.stage k) 0) (λ e. e) (λ n. let t = (valid g m r.keeps.reached).ready k ((h.jobs k kl).claimed ∙ claimed_at (st.stage k) n) in let no : has j (m.awaits k) ≡ false = ap (has j) t in absurd (cc)) in
      let edge : has j (inputs_of g k) ≡ true = (valid g m r.keeps.reached).edge j k awaited in
      let told = told_slots empty (right p) g d r.keeps.fits m.awaits st.stage s.homes r.slots j k (suc (suc q)) note l kl (λ e. absurd (omega arith)) (λ e. absurd (omega arith)) (λ e. absurd (omega arith)) (λ e. absurd (omega arith)) unclaimed' edge (has_less 0 j (m.awaits k) order.0 order.2) good in (
        telling me.0 j (suc q),
        gives,
        tt,
        holding (moved st (after m1 (Arrive j k)) j (suc (suc q)) id) _ (moves p s st r.keeps (after m1 (Arrive j k)) j (suc (suc q)) i y id (homes_after s.homes me.1 gives) me.0 (telling me.0 j (suc q)) at l (inr v.1) (λ e. absurd (omega arith)) (one_on g m1 (Arrive j k) made.1 did)
            ends'
            (λ a u e. e)
            (get_or-set_other s.words i 0 y 0 (λ e. absurd (omega arith)) ∙ h.done ∙ ap (λ z. 2 * z + one_if st.stopped) (same_many (λ a. st.stage a == last_stage d a) (λ a. put st.stage j (suc (suc q)) a == last_stage d a) (length g)
            (λ a _. at_put (λ b z. (st.stage b == last_stage d b) ≡ (z == last_stage d b)) st.stage j (suc (suc q)) a
            (λ e. let le : length (inputs_of d a) ≡ length (inputs_of d j) = ap (λ z. length (inputs_of d z)) e in let se : st.stage a ≡ st.stage j = ap st.stage e in same_test (st.stage a) (suc (suc q)) (last_stage d a) (λ z. absurd (omega arith)) (λ z. absurd (omega arith))) (λ _. refl))))
            record {
              count = get_or-set_other s.words i (2 * j + 2) y 0 (λ e. ne (omega arith)) ∙ job.count ∙ ap length (sym (put_else m.awaits k (less j (m.awaits k)) j (λ e. ne (sym e))));
              claim = get_or-set_other s.words i (2 * j + 1) y 0 (λ e. absurd (omega arith)) ∙ job.claim ∙ ap (λ z. one_if (not (z == 0))) stage ∙ ap one_if (not_suc q ∙ sym (not_suc (suc q)));
              claimed = some' ∙ sym (not_suc (suc q));
              held = both_some id (suc q);
              published = made.2 ∙ sym (above_one q);
              edges = λ a b. dite (ℕ_discrete a q)
                  (λ e. ap (has j) (put_here m.awaits k (less j (m.awaits k)) (slice_index (inputs_of d j) a) (ap (slice_index (inputs_of d j)) e ∙ is)) ∙ has_less 0 j (m.awaits k) order.0 order.2 ∙ sym (shut_at q a e))
                  (λ n. ap (has j) (put_else m.awaits k (less j (m.awaits k)) (slice_index (inputs_of d j) a) (λ e. n (r.keeps.fits.apart j a q b more (e ∙ sym is)))) ∙ job.edges a b ∙ ap (λ z. ltb z (a + 2)) stage ∙ same_at q a n);
              bound = omega arith;
            }
            (λ a na ok'. record {
              count = at_put (λ b (z : List ℕ). slice_index (set s.words i y) (2 * b + 2) ≡ length z) m.awaits k (less j (m.awaits k)) a
                  (λ e. ap (λ z. slice_index (set s.words i y) (2 * z + 2)) e ∙ get_or-set_same s.words i y 0 (omega arith) ∙ left)
                  (λ n. get_or-set_other s.words i (2 * a + 2) y 0 (λ e. n (omega arith)) ∙ ok'.count);
              claim = get_or-set_other s.words i (2 * a + 1) y 0 (λ e. absurd (omega arith)) ∙ ok'.claim;
              claimed = ok'.claimed;
              held = ok'.held;
              published = made.3 a na ∙ ok'.published;
              edges = λ b c. at_put (λ z (t : List ℕ). has a t ≡ has a (m.awaits z)) m.awaits k (less j (m.awaits k)) (slice_index (inputs_of d a) b)
                  (λ e. has_less_else j a (m.awaits k) na ∙ ap (λ z. has a (m.awaits z)) (sym e)) (λ _. refl) ∙ ok'.edges b c;
              bound = ok'.bound;
            })
            record {
              plan = ok.plan;
              claims = λ a. ok.claims a ∙ at_put (λ b z. (st.holder b == suc id) ≡ (z == suc id)) st.holder j (suc id) a (λ e. ap (λ z. z == suc id) (ap st.holder e ∙ v.1)) (λ _. refl);
              once = ok.once;
              made = ok.made;
              work = (v.0, put_here st.holder j (suc id) j refl, put_here st.stage j (suc (suc q)) j refl, omega arith);
              ready = ready_stays m (after m1 (Arrive j k)) (length g) me.0.ready ends' ok.ready;
              full = λ f. let t = ok.full f j l in absurd (omega arith);
              stopped = ok.stopped;
              seen_stop = ok.seen_stop;
              number = ok.number;
              done = λ a b. dite (ℕ_discrete a j) (λ e. inr (sym e)) (λ n. done_else st m j (suc (suc q)) (Working j (suc q)) (inr (at_job me.0.work working)) ok a n b);
            }
            ((λ z. z), refl, planned))
            (subst (λ (b : List (ℕ × S)). SlotsOk empty (right p) g d (put m.awaits k (less j (m.awaits k))) (put st.stage j (suc (suc q))) (homes_after s.homes b gives)) (sym carried) told),
        λ a b e. let same : Working a b ≡ Working j q = sym e ∙ working in let ea : j ≡ a = (cc) in let eb : q ≡ b = (cc) in λ c. (telling me.0 (ea c) (suc (eb c)), rest me.1),
      )

  pub ends : (j q : ℕ) (y : S) (c : List (ℕ × S)) → me.0.work ≡ Working j q → q ≡ length (inputs_of (dependents_of p) j) → me.1 ≡ held_by empty (graph_of p) j y ++ c → right p j y → Allows Rule slots id me 0 (λ n. (n + 2) % 2 ^ 64) (Ends (step slots 0 2 0 none) me)
  ends j q note c working all carried good s r len at fits = let x = get_or s.words 0 0 in let h = r.keeps.shows in let ok = h.seats id me.0 at in let st = r.standing in let m = st.machine in let g = graph_of p in let d = dependents_of p in
      let v = at_work s r.standing r.keeps at j q working in let l : j < length g = omega (arith, r.keeps.fits.count) in let job = h.jobs j l in let stage : st.stage j ≡ suc q = v.2 in let z = last_stage d j in
      let some' : is_some (m.claimed j) ≡ true = job.claimed ∙ ap (λ a. not (a == 0)) stage ∙ not_suc q in
      let made = publishes m j r.keeps.reached some' in let m1 : Machine = record { awaits = m.awaits; claimed = m.claimed; published = made.0 } in
      let wide = h.wide in let y = (x + 2) % 18446744073709551616 in let small = r.keeps.fits.inputs.count in
      let old = how_many (λ a. st.stage a == last_stage d a) (length g) in let new = how_many (λ a. put st.stage j z a == last_stage d a) (length g) in
      let up : new ≡ old + 1 = one_more (λ a. st.stage a == last_stage d a) (λ a. put st.stage j z a == last_stage d a) j (length g) l (ne_eqb (st.stage j) (last_stage d j) (λ e. absurd (omega arith)))
      (ap (λ a. a == last_stage d j) (put_here st.stage j z j refl) ∙ same_self z) (λ a ne. ap (λ b. b == last_stage d a) (put_else st.stage j z a ne)) in
      let xs = held_by empty g j note in let act = give_them xs in let over = ended_slots empty (right p) g d r.keeps.fits m.awaits st.stage s.homes r.slots j note c l (λ e. absurd (omega arith)) good in
      let few = how_many_small (λ a. st.stage a == last_stage d a) (length g) in let bit = one_if_small st.stopped in let was = h.done in (
        resting me.0,
        act,
        subst (λ b. Valid s.homes b act) (sym carried) (gives_valid s.homes xs c),
        holding (moved st m1 j z id) _ (moves p s st r.keeps m1 j z 0 y id (homes_after s.homes me.1 act) me.0 (resting me.0) at l (inr v.1) (λ e. absurd (omega arith)) made.1 (λ a e. e) (λ a u e. e)
            (get_or-set_same s.words 0 y 0 (omega arith) ∙ (let e : y ≡ 2 * new + one_if st.stopped = omega arith in e))
            record {
              count = get_or-set_other s.words 0 (2 * j + 2) y 0 (λ e. absurd (omega arith)) ∙ job.count;
              claim = get_or-set_other s.words 0 (2 * j + 1) y 0 (λ e. absurd (omega arith)) ∙ job.claim ∙ ap (λ a. one_if (not (a == 0))) stage ∙ ap one_if (not_suc q ∙ sym (not_suc (suc (length (inputs_of d j))) ∙ refl)) ∙ ap (λ a. one_if (not (a == 0))) (let e : suc (suc (length (inputs_of d j))) ≡ z = omega arith in e);
              claimed = some' ∙ sym (not_suc (suc (length (inputs_of d j)))) ∙ ap (λ a. not (a == 0)) (let e : suc (suc (length (inputs_of d j))) ≡ z = omega arith in e);
              held = both_some id (suc (length (inputs_of d j))) ∙ ap (λ a. a == 0) (let e : suc (suc (length (inputs_of d j))) ≡ z = omega arith in e);
              published = made.2 ∙ sym (above_one (length (inputs_of d j))) ∙ ap (ltb 1) (let e : suc (suc (length (inputs_of d j))) ≡ z = omega arith in e);
              edges = λ a b. job.edges a b ∙ ap (λ c. ltb c (a + 2)) stage ∙ shut_both q z a (omega arith) (omega arith);
              bound = omega arith;
            }
            (λ a na ok'. job_stays d s.words (set s.words 0 y) m m1 a (st.stage a) (st.holder a) (get_or-set_other s.words 0 (2 * a + 2) y 0 (λ e. absurd (omega arith))) (get_or-set_other s.words 0 (2 * a + 1) y 0 (λ e. absurd (omega arith)))
            refl refl (made.3 a na) (λ _. refl) ok')
            record {
              plan = ok.plan;
              claims = λ a. ok.claims a ∙ at_put (λ b c. (st.holder b == suc id) ≡ (c == suc id)) st.holder j (suc id) a (λ e. ap (λ c. c == suc id) (ap st.holder e ∙ v.1)) (λ _. refl);
              once = ok.once;
              made = ok.made;
              work = tt;
              ready = ok.ready;
              full = λ f. let t = ok.full f j l in absurd (omega arith);
              stopped = ok.stopped;
              seen_stop = ok.seen_stop;
              number = ok.number;
              done = λ a b. dite (ℕ_discrete a j) (λ e. inl (put_here st.stage j z a e ∙ ap (last_stage d) (sym e))) (λ n. done_else st m j z Resting (inr (at_job me.0.work working)) ok a n b);
            }
            ((λ a. a), refl, planned))
            (subst (λ (b : List (ℕ × S)). SlotsOk empty (right p) g d m.awaits (put st.stage j z) (homes_after s.homes b act)) (sym carried) over),
        λ a b e. let same : Working a b ≡ Working j q = sym e ∙ working in let ea : j ≡ a = (cc) in
            subst (λ (u : Option (Plan T K)). (let b' : Me S (View T K) = (resting me.0, carried_after me.1 act) in b') ≡ (resting me.0, drop (suc (length (inputs_of (graph_in u) a))) me.1)) (sym planned)
            (subst (λ t. (let b' : Me S (View T K) = (resting me.0, carried_after me.1 act) in b') ≡ (resting me.0, drop (suc (length (inputs_of g t))) me.1)) ea
            (λ t. (resting me.0, (given_drop me.1 xs ∙ ap (λ n. drop n me.1) (held_length empty g j note)) t))),
      )

  pub counts : Allows Rule slots id me 0 (λ n. n) (Counts (step slots 0 0 0 none) me)
  counts s r len at fits = let x = get_or s.words 0 0 in let h = r.keeps.shows in let ok = h.seats id me.0 at in let st = r.standing in let g = graph_of p in let d = dependents_of p in
      let w : View T K = noting (counting me.0 (x / 2 == length (graph_in me.0.plan)) (x % 2 == 1)) 0 x in
      let stop_is : x % 2 ≡ 1 → st.stopped ≡ true = λ odd'. bit_is st.stopped (how_many (λ b. st.stage b == last_stage d b) (length g)) x h.done odd' in (
        w,
        keeps,
        tt,
        holding r.standing _ (unmoved p s r.standing r.keeps 0 x id s.homes me.0 w at refl record {
          plan = ok.plan;
          claims = ok.claims;
          once = ok.once;
          made = ok.made;
          work = ok.work;
          ready = ok.ready;
          full = λ f j l. let a = or_cases me.0.full (x / 2 == length (graph_in me.0.plan)) f in ⊎_elim (λ t. ok.full t j l)
              (λ t. let e : x / 2 ≡ length g = eqb-true (x / 2) (length (graph_in me.0.plan)) t ∙ ap (λ (y : Option (Plan T K)). length (graph_in y)) planned in let was = h.done in let bit = one_if_small st.stopped in
              eqb-true (st.stage j) (last_stage d j) (all_of_them (λ b. st.stage b == last_stage d b) (length g) (omega arith) j l)) a;
          stopped = ok.stopped;
          seen_stop = λ f. ⊎_elim (λ t. ok.seen_stop t) (λ t. stop_is (eqb-true (x % 2) 1 t)) (or_cases me.0.seen_stop (x % 2 == 1) f);
          number = ok.number;
          done = ok.done;
        } ((λ z. z), refl, planned)) r.slots,
        (
          refl,
          (let few = how_many_small (λ b. st.stage b == last_stage d b) (length g) in let was = h.done in let bit = one_if_small st.stopped in
              let n : length (graph_in me.0.plan) ≡ length g = ap (λ (y : Option (Plan T K)). length (graph_in y)) planned in omega arith),
          (λ f. let all = how_many_all (λ b. st.stage b == last_stage d b) (length g) (λ b l. eq-eqb (st.stage b) (last_stage d b) (ok.full f b l)) in let was = h.done in let bit = one_if_small st.stopped in
              let n : length (graph_in me.0.plan) ≡ length g = ap (λ (y : Option (Plan T K)). length (graph_in y)) planned in omega arith),
          (λ f. let was = h.done in let bit : one_if st.stopped ≡ 1 = ap one_if (ok.stopped f) in omega arith),
          (λ f. let was = h.done in let bit : one_if st.stopped ≡ 1 = ap one_if (ok.seen_stop f) in omega arith),
          (λ all odd'. own_stop s.views r.keeps.parts at all (h.stop (stop_is odd'))),
        ),
      )
    where
      own_stop : (vs : List (View T K)) → AreParts vs → get_elem? vs id ≡ some me.0 → me.0.part ≡ all_parts → ((other : ℕ) × (v : View T K) × (get_elem? vs other ≡ some v) × (v.stopped ≡ true)) → me.0.stopped ≡ true
      own_stop vs parts at all h = dite (ℕ_discrete h.0 id)
          (λ e. let same : h.1 ≡ me.0 = some-injective h.1 me.0 (sym h.2 ∙ ap (get_elem? vs) e ∙ at) in ap (λ (z : View T K). z.stopped) (sym same) ∙ h.3)
          (λ n. let gone : false ≡ true = ap (λ (z : View T K). z.stopped) (sym (alone vs id h.0 me.0 h.1 parts at h.2 n all)) ∙ h.3 in absurd (cc))

  pub stops : Allows Rule slots id me 0 (λ n. bit_or n 1) (Stops (step slots 0 1 0 none) me)
  stops s r len at fits = let x = get_or s.words 0 0 in let h = r.keeps.shows in let ok = h.seats id me.0 at in let st = r.standing in let g = graph_of p in let d = dependents_of p in let wide = h.wide in
      let y = bit_or x 1 in let many = how_many (λ b. st.stage b == last_stage d b) (length g) in
      let t : Standing = record { machine = st.machine; stage = st.stage; holder = st.holder; stopped = true } in
      let goes : (other : ℕ) (v : View T K) → SeatOk p st other v → SeatOk p t other v = λ other v k. record { plan = k.plan; claims = k.claims; once = k.once; made = k.made; work = same_work d st t other v.work (λ _. refl) (λ _. refl) k.work; ready = k.ready; full = k.full; stopped = λ _. refl; seen_stop = λ _. refl; number = k.number; done = k.done } in
      let mine : SeatOk p t id (stopping me.0) = record { plan = ok.plan; claims = ok.claims; once = ok.once; made = ok.made; work = same_work d st t id me.0.work (λ _. refl) (λ _. refl) ok.work; ready = ok.ready; full = ok.full; stopped = λ _. refl; seen_stop = λ _. refl; number = ok.number; done = ok.done } in (
        stopping me.0,
        keeps,
        tt,
        holding t _ record {
          fits = r.keeps.fits;
          reached = r.keeps.reached;
          shows = record {
            wide = length-set s.words 0 y ∙ h.wide;
            done = get_or-set_same s.words 0 y 0 (omega arith) ∙ ap (λ z. bit_or z 1) h.done ∙ odd many st.stopped;
            jobs = λ k b. job_stays d s.words (set s.words 0 y) st.machine st.machine k (st.stage k) (st.holder k) (get_or-set_other s.words 0 (2 * k + 2) y 0 (λ e. absurd (omega arith))) (get_or-set_other s.words 0 (2 * k + 1) y 0 (λ e. absurd (omega arith))) refl refl refl (λ _. refl) (h.jobs k b);
            unheld = h.unheld;
            holders = λ j. let a = h.holders j in let b = length-set s.views id (stopping me.0) in omega arith;
            seats = views_change (SeatOk p t) s.views id (stopping me.0) mine (λ other u _ a. goes other u (h.seats other u a));
            stop = λ _. (id, stopping me.0, is_there s.views id me.0 (stopping me.0) at, refl);
          };
          parts = parts_stay s.views id me.0 (stopping me.0) at (unspent p me.0 planned) refl r.keeps.parts;
        } r.slots,
        refl,
      )

none_of_them : (f : ℕ → Bool) (n : ℕ) → ((k : ℕ) → f k ≡ false) → how_many f n ≡ 0
none_of_them f zero e = refl
none_of_them f (suc n) e = let a = none_of_them f n e in let b = ap one_if (e n) in omega arith

-- the table at the start
pub opens : {T K S : Type 0} (empty : S) (right : Plan T K → ℕ → S → Type 0) (p : Plan T K) (words : List ℕ) → AreDependents (graph_of p) (dependents_of p) → length words ≡ 2 * length (graph_of p) + 1 → slice_index words 0 ≡ 0
    → ((j : ℕ) → j < length (graph_of p) → (slice_index words (2 * j + 1) ≡ 0) × (slice_index words (2 * j + 2) ≡ length (inputs_of (graph_of p) j))) → Holds empty (right p) p (opening words (replicate (first (graph_of p) (length (graph_of p))) empty) (newcomer p))
opens {T} {K} {S} empty right p words fits wide first' each = record {
  standing = record { machine = start (graph_of p); stage = λ _. 0; holder = λ _. 0; stopped = false };
  slots = opened_slots empty (right p) (graph_of p) (dependents_of p);
  keeps = record {
    fits = fits;
    reached = ([], refl);
    shows = record {
      wide = wide;
      done = first' ∙ (let e = none_of_them (λ j. 0 == last_stage (dependents_of p) j) (length (graph_of p)) (λ j. ne_eqb 0 (last_stage (dependents_of p) j) (λ z. absurd (omega arith))) in omega arith);
      jobs = λ j l. record {
        count = (each j l).1;
        claim = (each j l).0;
        claimed = refl;
        held = refl;
        published = refl;
        edges = λ q b. (fits.edge j q b).1 ∙ sym (none_told q);
        bound = omega arith;
      };
      unheld = λ _ _. refl;
      holders = λ _. omega arith;
      seats = λ id v at. alone (λ i u. SeatOk p record { machine = start (graph_of p); stage = λ _. 0; holder = λ _. 0; stopped = false } i u) (newcomer p)
          record { plan = refl; claims = λ j. sym (ne_eqb 0 1 (λ e. absurd (omega arith))); once = tt; made = tt; work = tt; ready = tt; full = λ f. absurd (cc); stopped = λ f. absurd (cc); seen_stop = λ f. absurd (cc); number = tt; done = λ j e. absurd (omega arith) } id v at;
      stop = λ z. absurd (cc);
    };
    parts = parts_open p;
  };
}
  where
    alone : (Q : ℕ → View T K → Type 0) (u : View T K) → Q 0 u → (id : ℕ) (v : View T K) → get_elem? (u ∷ []) id ≡ some v → Q id v
    alone Q u q zero v e = subst (Q 0) (some-injective u v e) q
    alone Q u q (suc id) v e = absurd (cc)
