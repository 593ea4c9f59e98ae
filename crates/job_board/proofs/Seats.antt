-- Cutting a seat in two, and taking one in, keep the rule.
use Rattle.std.proofs.Common.{◌≡◌, ◌≢◌, ◌⊎◌, ℕ, zero, suc, Bool, true, false, ◌||◌, ◌==◌, if◌then◌else◌, List, [], ◌∷◌, ◌++◌, length, set, Some, refl, sym, ap, ◌∙◌, subst, arith, inl, inr, ⊎_elim, length-set, length-append}
use Rattle.std.proofs.lemmas.Bool.{ne_eqb, eqb-true}
use Rattle.base_laws.proofs.Tests.{or_true}
use Rattle.std.proofs.lemmas.Bool.Decides.{nat_tests}
use Rattle.std.proofs.Math.Decide.{ℕ_discrete}
use mathlib.Core.Logic.{dite}
use mathlib.Core.Option.{some, some-injective}
use lib.ListN.{get_elem?}
use Rattle.atomic_table.specs.Table.{State, Splits, Joins}
use Rattle.atomic_table.proofs.Lists.{set_else}
use Rattle.job_graph.specs.Machine.{Machine}
use Rattle.job_board.specs.declared.view.Plan.{Plan}
use Rattle.job_board.specs.declared.view.View.{View}
use Rattle.job_board.specs.declared.view.Work.{Work}
use Rattle.job_board.specs.declared.view.Work.TheVariants.{Resting, Working}
use Rattle.job_board.specs.Rule.{Holds, Standing, has_job, IsOnce, AreMade, WorksAt, dependents_of, IsAt, SeatOk}
use Rattle.job_board.specs.Views.{spent_view, cut_view, split_off, joined_view}
use Rattle.job_board.proofs.Parts.{unspent, at_new, parts_split, parts_join}
use Rattle.job_board.proofs.Keeping.{views_change, is_there, below, stop_stays}

same_self : (a : ℕ) → (a == a) ≡ true
same_self a = grind (arith, nat_tests)

-- what the first seat took in is now its own
unfoldable pub passed : (ℕ → ℕ) → ℕ → ℕ → ℕ → ℕ
passed holder other id j = if holder j == suc other then suc id else holder j

passed_here : (holder : ℕ → ℕ) (other id j : ℕ) → holder j ≡ suc other → passed holder other id j ≡ suc id
unfolding passed
passed_here holder other id j e = let t : (holder j == suc other) ≡ true = grind (arith, nat_tests) in ap (λ b. if b then suc id else holder j) t

passed_else : (holder : ℕ → ℕ) (other id j : ℕ) → holder j ≢ suc other → passed holder other id j ≡ holder j
unfolding passed
passed_else holder other id j n = ap (λ b. if b then suc id else holder j) (ne_eqb (holder j) (suc other) n)

joined_by : (a : ℕ) (o i : ℕ) → o ≢ i → ((a == suc o) || (a == suc i)) ≡ ((if a == suc o then suc i else a) == suc i)
joined_by a o i n = dite (ℕ_discrete a (suc o))
    (λ e. let t : (a == suc o) ≡ true = grind (arith, nat_tests) in ap (λ b. b || (a == suc i)) t ∙ sym (ap (λ b. (if b then suc i else a) == suc i) t ∙ same_self (suc i)))
    (λ ne. let t : (a == suc o) ≡ false = grind (arith, nat_tests) in ap (λ b. b || (a == suc i)) t ∙ sym (ap (λ b. (if b then suc i else a) == suc i) t))

passed_joined : (holder : ℕ → ℕ) (other id j : ℕ) → other ≢ id → ((holder j == suc other) || (holder j == suc id)) ≡ (passed holder other id j == suc id)
unfolding passed
passed_joined holder other id j n = joined_by (holder j) other id n

module _ {T K S : Type 0} (empty : S) (right : ℕ → S → Type 0) (p : Plan T K) where
  abbrev Rule : State S (View T K) → Type 0
  Rule s = Holds empty right p s

  at_longer : (l m : List (View T K)) (i : ℕ) (a : View T K) → get_elem? l i ≡ some a → get_elem? (l ++ m) i ≡ some a
  at_longer [] m i a e = absurd (cc)
  at_longer (x ∷ xs) m zero a e = e
  at_longer (x ∷ xs) m (suc i) a e = at_longer xs m i a e

  pub splits : (id : ℕ) (v : View T K) → v.plan ≡ Some p → Splits Rule id v (cut_view v) (split_off v)
  splits id v planned s r at = let h = r.keeps.shows in let x = r.standing in let ok = h.seats id v at in let vs : List (View T K) = set s.views id (cut_view v) in
      let mine : SeatOk p x id (cut_view v) = record { plan = ok.plan; claims = ok.claims; once = ok.once; made = ok.made; work = ok.work; ready = ok.ready; full = ok.full; stopped = ok.stopped; seen_stop = ok.seen_stop; number = ok.number; done = ok.done } in
      let wide' = length-set s.views id (cut_view v) in
      let new : SeatOk p x (length vs) (split_off v) = record { plan = ok.plan; claims = λ k. let a = h.holders k in sym (ne_eqb (x.holder k) (suc (length vs)) (λ z. absurd (omega arith))); once = tt; made = tt; work = tt; ready = tt; full = λ f. absurd (cc); stopped = λ f. absurd (cc); seen_stop = λ f. absurd (cc); number = tt; done = λ k e. let a = h.holders k in absurd (omega arith) } in
      record {
        standing = x;
        slots = r.slots;
        keeps = record {
          fits = r.keeps.fits;
          reached = r.keeps.reached;
          shows = record {
            wide = h.wide;
            done = h.done;
            jobs = h.jobs;
            unheld = h.unheld;
            holders = λ j. let a = h.holders j in let b = length-append vs (split_off v ∷ []) in omega arith;
            seats = λ j u e. ⊎_elim (λ (t : get_elem? vs j ≡ some u). views_change (SeatOk p x) s.views id (cut_view v) mine (λ other w _ a. h.seats other w a) j u t)
                (λ (t : (j ≡ length vs) × (split_off v ≡ u)). subst (λ (z : ℕ × View T K). SeatOk p x z.0 z.1) (λ i. (sym t.0 i, t.1 i)) new)
                (at_new vs (split_off v) u j e);
            stop = λ z. let t = stop_stays s.views id v (cut_view v) at (λ y. y) (h.stop z) in (t.0, t.1, at_longer vs (split_off v ∷ []) t.0 t.1 t.2, t.3);
          };
          parts = parts_split s.views id v at (unspent p v planned) r.keeps.parts;
        };
      }

  has_more : (j : ℕ) (xs ys : List (ℕ × ℕ)) → has_job j (xs ++ ys) ≡ (has_job j xs || has_job j ys)
  has_more j [] ys = refl
  has_more j (x ∷ xs) ys = ap (λ b. (j == x.0) || b) (has_more j xs ys) ∙ by_both (j == x.0) (has_job j xs) (has_job j ys) where
    by_both : (a b c : Bool) → (a || (b || c)) ≡ ((a || b) || c)
    by_both true b c = refl
    by_both false b c = refl

  once_more : (xs ys : List (ℕ × ℕ)) → IsOnce xs → IsOnce ys → ((j : ℕ) → has_job j xs ≡ true → has_job j ys ≡ false) → IsOnce (xs ++ ys)
  once_more [] ys a b n = b
  once_more (x ∷ xs) ys a b n = (
    has_more x.0 xs ys ∙ ap (λ c. c || has_job x.0 ys) a.0 ∙ n x.0 (ap (λ c. c || has_job x.0 xs) (same_self x.0)),
    once_more xs ys a.1 b (λ j h. n j (ap (λ c. (j == x.0) || c) h ∙ or_true (j == x.0))),
  )

  made_more : (m : Machine) (xs ys : List (ℕ × ℕ)) → AreMade m xs → AreMade m ys → AreMade m (xs ++ ys)
  made_more m [] ys a b = b
  made_more m (x ∷ xs) ys a b = (a.0, made_more m xs ys a.1 b)

  work_kept : (x y : Standing) (id : ℕ) (w : Work) → ((j : ℕ) → x.holder j ≡ suc id → y.holder j ≡ suc id) → ((j : ℕ) → y.stage j ≡ x.stage j) → WorksAt (dependents_of p) x id w → WorksAt (dependents_of p) y id w
  work_kept x y id Resting a b h = tt
  work_kept x y id (Working j q) a b h = (h.0, a j h.1, b j ∙ h.2, h.3)

  either : (a b : Bool) → (a || b) ≡ true → (a ≡ true) ⊎ (b ≡ true)
  either true b e = inl refl
  either false b e = inr e

  pub joins : (id : ℕ) (v : View T K) (other : ℕ) (w : View T K) → v.plan ≡ Some p → w.work ≡ Resting → Joins Rule id v other w (joined_view v w) spent_view
  joins id v other w planned rest' s r at apart there = let h = r.keeps.shows in let x = r.standing in let ok = h.seats id v at in
      let u : View T K = joined_view v w in let vs : List (View T K) = set s.views id u in
      let w_at : get_elem? s.views other ≡ some w = sym (set_else s.views id other u apart) ∙ there in let ow = h.seats other w w_at in
      let y : Standing = record { machine = x.machine; stage = x.stage; holder = passed x.holder other id; stopped = x.stopped } in
      let mine : SeatOk p y id u = record {
        plan = ok.plan;
        claims = λ j. has_more j w.claims v.claims ∙ ap (λ b. b || has_job j v.claims) (ow.claims j) ∙ ap (λ b. (x.holder j == suc other) || b) (ok.claims j) ∙ passes j;
        once = once_more w.claims v.claims ow.once ok.once (λ j e. let t : x.holder j ≡ suc other = eqb-true (x.holder j) (suc other) (sym (ow.claims j) ∙ e) in ok.claims j ∙ ne_eqb (x.holder j) (suc id) (λ z. apart (omega arith)));
        made = made_more x.machine w.claims v.claims ow.made ok.made;
        work = work_kept x y id v.work (λ j e. passed_else x.holder other id j (λ z. apart (omega arith)) ∙ e) (λ _. refl) ok.work;
        ready = ok.ready;
        full = λ f. ⊎_elim (λ (t : v.full ≡ true). ok.full t) (λ (t : w.full ≡ true). ow.full t) (either v.full w.full f);
        stopped = λ f. ⊎_elim (λ (t : v.stopped ≡ true). ok.stopped t) (λ (t : w.stopped ≡ true). ow.stopped t) (either v.stopped w.stopped f);
        seen_stop = λ f. ⊎_elim (λ (t : v.seen_stop ≡ true). ok.seen_stop t) (λ (t : w.seen_stop ≡ true). ow.seen_stop t) (either v.seen_stop w.seen_stop f);
        number = ok.number;
        done = λ j e. dite (ℕ_discrete (x.holder j) (suc other))
            (λ o. ⊎_elim (λ z. inl z) (λ z. absurd (subst (λ q. IsAt q j) rest' z)) (ow.done j o))
            (λ n. ok.done j (sym (passed_else x.holder other id j n) ∙ e));
      } in
      let gone : SeatOk p y other spent_view = record { plan = tt; claims = λ j. sym (none_left j); once = tt; made = tt; work = tt; ready = tt; full = λ f. absurd (cc); stopped = λ f. absurd (cc); seen_stop = λ f. absurd (cc); number = tt; done = λ j e. absurd (holds_none j e) } in
      record {
        standing = y;
        slots = r.slots;
        keeps = record {
          fits = r.keeps.fits;
          reached = r.keeps.reached;
          shows = record {
            wide = h.wide;
            done = h.done;
            jobs = λ j l. let k = h.jobs j l in record { count = k.count; claim = k.claim; claimed = k.claimed; held = held_still j ∙ k.held; published = k.published; edges = k.edges; bound = k.bound };
            unheld = λ j l. passed_else x.holder other id j (λ e. let z = h.unheld j l in absurd (omega arith)) ∙ h.unheld j l;
            holders = λ j. let a = below s.views id v at in let b = length-set vs other spent_view in let c = length-set s.views id u in let d = h.holders j in
                dite (ℕ_discrete (x.holder j) (suc other)) (λ e. let t = passed_here x.holder other id j e in omega arith) (λ n. let t = passed_else x.holder other id j n in omega arith);
            seats = views_change (SeatOk p y) vs other spent_view gone (λ o z nx e. views_change' o z nx e mine);
            stop = λ z. stopped_still z;
          };
          parts = parts_join s.views id other v w at (unspent p v planned) there r.keeps.parts;
        };
      }
    where
      passes : (j : ℕ) → ((r.standing.holder j == suc other) || (r.standing.holder j == suc id)) ≡ (passed r.standing.holder other id j == suc id)
      passes j = passed_joined r.standing.holder other id j apart

      none_left : (j : ℕ) → (passed r.standing.holder other id j == suc other) ≡ false
      none_left j = dite (ℕ_discrete (r.standing.holder j) (suc other))
          (λ e. ne_eqb (passed r.standing.holder other id j) (suc other) (λ z. let t = passed_here r.standing.holder other id j e in apart (omega arith)))
          (λ n. ne_eqb (passed r.standing.holder other id j) (suc other) (λ z. n (sym (passed_else r.standing.holder other id j n) ∙ z)))

      holds_none : (j : ℕ) → passed r.standing.holder other id j ≢ suc other
      holds_none j z = dite (ℕ_discrete (r.standing.holder j) (suc other)) (λ e. let t = passed_here r.standing.holder other id j e in apart (omega arith)) (λ n. n (sym (passed_else r.standing.holder other id j n) ∙ z))

      held_still : (j : ℕ) → (passed r.standing.holder other id j == 0) ≡ (r.standing.holder j == 0)
      held_still j = dite (ℕ_discrete (r.standing.holder j) (suc other))
          (λ e. ne_eqb (passed r.standing.holder other id j) 0 (λ z. let t = passed_here r.standing.holder other id j e in absurd (omega arith)) ∙ sym (ne_eqb (r.standing.holder j) 0 (λ z. absurd (omega arith))))
          (λ n. ap (λ z. z == 0) (passed_else r.standing.holder other id j n))

      others_kept : (o : ℕ) (z : View T K) → o ≢ id → o ≢ other → SeatOk p r.standing o z → SeatOk p record { machine = r.standing.machine; stage = r.standing.stage; holder = passed r.standing.holder other id; stopped = r.standing.stopped } o z
      others_kept o z ni nx k = record {
        plan = k.plan;
        claims = λ j. k.claims j ∙ dite (ℕ_discrete (r.standing.holder j) (suc other))
            (λ e. ne_eqb (r.standing.holder j) (suc o) (λ q. nx (omega arith)) ∙ sym (ne_eqb (passed r.standing.holder other id j) (suc o) (λ q. let t = passed_here r.standing.holder other id j e in ni (omega arith))))
            (λ n. ap (λ q. q == suc o) (sym (passed_else r.standing.holder other id j n)));
        once = k.once;
        made = k.made;
        work = work_kept r.standing record { machine = r.standing.machine; stage = r.standing.stage; holder = passed r.standing.holder other id; stopped = r.standing.stopped } o z.work (λ j e. passed_else r.standing.holder other id j (λ q. nx (omega arith)) ∙ e) (λ _. refl) k.work;
        ready = k.ready;
        full = k.full;
        stopped = k.stopped;
        seen_stop = k.seen_stop;
        number = k.number;
        done = λ j e. k.done j (dite (ℕ_discrete (r.standing.holder j) (suc other))
            (λ h. let t = passed_here r.standing.holder other id j h in absurd (ni (omega arith)))
            (λ n. sym (passed_else r.standing.holder other id j n) ∙ e));
      }

      views_change' : (o : ℕ) (z : View T K) → o ≢ other → get_elem? (set s.views id (joined_view v w)) o ≡ some z → SeatOk p record { machine = r.standing.machine; stage = r.standing.stage; holder = passed r.standing.holder other id; stopped = r.standing.stopped } id (joined_view v w)
          → SeatOk p record { machine = r.standing.machine; stage = r.standing.stage; holder = passed r.standing.holder other id; stopped = r.standing.stopped } o z
      views_change' o z nx e mine = views_change (λ q b. q ≢ other → SeatOk p record { machine = r.standing.machine; stage = r.standing.stage; holder = passed r.standing.holder other id; stopped = r.standing.stopped } q b) s.views id (joined_view v w) (λ _. mine)
          (λ q b nq eq nx'. others_kept q b nq nx' (r.keeps.shows.seats q b eq)) o z e nx

      stopped_still : r.standing.stopped ≡ true → (q : ℕ) × (b : View T K) × (get_elem? (set (set s.views id (joined_view v w)) other spent_view) q ≡ some b) × (b.stopped ≡ true)
      stopped_still z = let t = r.keeps.shows.stop z in let u : View T K = joined_view v w in let w_at : get_elem? s.views other ≡ some w = sym (set_else s.views id other u apart) ∙ there in
          let at_id : get_elem? (set (set s.views id u) other spent_view) id ≡ some u = set_else (set s.views id u) other id spent_view (λ e. apart (sym e)) ∙ is_there s.views id v u at in
          dite (ℕ_discrete t.0 id)
          (λ e. let same : t.1 ≡ v = some-injective t.1 v (sym t.2 ∙ ap (get_elem? s.views) e ∙ at) in let on : v.stopped ≡ true = ap (λ (c : View T K). c.stopped) (sym same) ∙ t.3 in (id, u, at_id, ap (λ b. b || w.stopped) on))
          (λ n. dite (ℕ_discrete t.0 other)
          (λ e. let same : t.1 ≡ w = some-injective t.1 w (sym t.2 ∙ ap (get_elem? s.views) e ∙ w_at) in let on : w.stopped ≡ true = ap (λ (c : View T K). c.stopped) (sym same) ∙ t.3 in (id, u, at_id, ap (λ b. v.stopped || b) on ∙ or_true v.stopped))
          (λ m. (t.0, t.1, set_else (set s.views id u) other t.0 spent_view m ∙ (set_else s.views id t.0 u n ∙ t.2), t.3)))
