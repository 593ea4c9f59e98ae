-- What a step doesn't touch stays.
use Rattle.std.proofs.Common.{◌≡◌, ◌≢◌, ◌⊎◌, ℕ, zero, suc, ◌+◌, ◌*◌, ◌<◌, ◌≤◌, true, false, ◌==◌, List, [], ◌∷◌, length, get_or, set, slice_index, Some, is_some, refl, sym, ap, ◌∙◌, subst, arith, inl, inr, ⊎_elim, length-set}
use Rattle.std.proofs.lemmas.Bool.Decides.{nat_tests}
use Rattle.std.proofs.Math.Decide.{ℕ_discrete}
use mathlib.Core.Logic.{dite}
use mathlib.Core.Option.{some, some-injective}
use lib.ListN.{get_elem?}
use Rattle.std.proofs.lemmas.List.{set-get_or}
use Rattle.atomic_table.specs.Table.{State}
use Rattle.atomic_table.proofs.Lists.{at_set, set_here, set_else}
use Rattle.job_graph.specs.Graph.{inputs_of, has}
use Rattle.job_graph.specs.Machine.{put}
use Rattle.job_graph.specs.declared.machine.Event.{Event}
use Rattle.job_graph.specs.Machine.{Machine, start, run}
use Rattle.job_graph.proofs.Taken.{put_here, put_else}
use Rattle.job_graph.proofs.Events.{at_put}
use Rattle.job_board.specs.declared.view.Plan.{Plan}
use Rattle.job_board.specs.declared.view.View.{View}
use Rattle.job_board.specs.declared.view.Work.{Work}
use Rattle.job_board.specs.declared.view.Work.TheVariants.{Resting, Working}
use Rattle.job_board.proofs.Parts.{unspent, parts_stay}
use Rattle.job_board.specs.Rule.{Standing, one_if, how_many, last_stage, JobOk, AreMade, AreReady, WorksAt, graph_of, dependents_of, SeatOk, Shows, Keeps}

-- a job whose words and edges a step doesn't touch
pub job_stays : (d : List (List ℕ)) (words words' : List ℕ) (m m' : Machine) (k st ho : ℕ) → slice_index words' (2 * k + 2) ≡ slice_index words (2 * k + 2) → slice_index words' (2 * k + 1) ≡ slice_index words (2 * k + 1)
    → length (m'.awaits k) ≡ length (m.awaits k) → is_some (m'.claimed k) ≡ is_some (m.claimed k) → m'.published k ≡ m.published k → ((l : ℕ) → has k (m'.awaits l) ≡ has k (m.awaits l)) → JobOk d words m k st ho → JobOk d words' m' k st ho
job_stays d words words' m m' k st ho a b c e f h ok = record {
  count = a ∙ ok.count ∙ sym c;
  claim = b ∙ ok.claim;
  claimed = e ∙ ok.claimed;
  held = ok.held;
  published = f ∙ ok.published;
  edges = λ q l. h (slice_index (inputs_of d k) q) ∙ ok.edges q l;
  bound = ok.bound;
}

pub made_stays : (m m' : Machine) (cs : List (ℕ × ℕ)) → ((k w : ℕ) → m.claimed k ≡ Some w → m'.claimed k ≡ Some w) → AreMade m cs → AreMade m' cs
made_stays m m' [] e h = tt
made_stays m m' (c ∷ cs) e h = (e c.0 c.1 h.0, made_stays m m' cs e h.1)

pub ready_stays : (m m' : Machine) (n : ℕ) (js : List ℕ) → ((k : ℕ) → m.awaits k ≡ [] → m'.awaits k ≡ []) → AreReady m n js → AreReady m' n js
ready_stays m m' n [] e h = tt
ready_stays m m' n (j ∷ js) e h = (h.0, e j h.1, ready_stays m m' n js e h.2)

-- the other seats hold what they held
same_holder : (holder : ℕ → ℕ) (j id other k : ℕ) → other ≢ id → (holder j ≡ 0) ⊎ (holder j ≡ suc id) → (put holder j (suc id) k == suc other) ≡ (holder k == suc other)
same_holder holder j id other k ne mine = at_put (λ x h. (h == suc other) ≡ (holder x == suc other)) holder j (suc id) k
    (λ e. subst (λ x. (suc id == suc other) ≡ (holder x == suc other)) (sym e) (⊎_elim
    (λ (z : holder j ≡ 0). let a : (suc id == suc other) ≡ false = grind (arith, nat_tests) in let b : (holder j == suc other) ≡ false = grind (arith, nat_tests) in a ∙ sym b)
    (λ (z : holder j ≡ suc id). let a : (suc id == suc other) ≡ false = grind (arith, nat_tests) in let b : (holder j == suc other) ≡ false = grind (arith, nat_tests) in a ∙ sym b) mine))
    (λ _. refl)

works_stays : (d : List (List ℕ)) (x x' : Standing) (id other : ℕ) (w : Work) → ((k : ℕ) → x.holder k ≡ suc other → (x'.holder k ≡ x.holder k) × (x'.stage k ≡ x.stage k)) → WorksAt d x other w → WorksAt d x' other w
works_stays d x x' id other Resting e h = tt
works_stays d x x' id other (Working j p) e h = let s = e j h.1 in (h.0, s.0 ∙ h.1, s.1 ∙ h.2, h.3)

-- the seat id moves the job j, which no other seat holds and which wasn't finished
abbrev pub moved : Standing → Machine → ℕ → ℕ → ℕ → Standing
moved x m j st id = record { machine = m; stage = put x.stage j st; holder = put x.holder j (suc id); stopped = x.stopped }

module _ {T K : Type 0} where
  pub seat_stays : (p : Plan T K) (x : Standing) (m : Machine) (j st id other : ℕ) (v : View T K) → other ≢ id → j < length (graph_of p) → (x.holder j ≡ 0) ⊎ (x.holder j ≡ suc id) → x.stage j ≢ last_stage (dependents_of p) j
      → ((k : ℕ) → x.machine.awaits k ≡ [] → m.awaits k ≡ []) → ((k w : ℕ) → x.machine.claimed k ≡ Some w → m.claimed k ≡ Some w) → SeatOk p x other v → SeatOk p (moved x m j st id) other v
  seat_stays p x m j st id other v ne l mine unfinished awaits made ok = record {
    plan = ok.plan;
    claims = λ k. ok.claims k ∙ sym (same_holder x.holder j id other k ne mine);
    once = ok.once;
    made = made_stays x.machine m v.claims made ok.made;
    work = works_stays (dependents_of p) x (moved x m j st id) id other v.work
        (λ k h. let apart : k ≢ j = λ e. ⊎_elim (λ (z : x.holder j ≡ 0). let t : x.holder k ≡ x.holder j = ap x.holder e in absurd (omega arith)) (λ (z : x.holder j ≡ suc id). let t : x.holder k ≡ x.holder j = ap x.holder e in ne (omega arith)) mine in
        (put_else x.holder j (suc id) k apart, put_else x.stage j st k apart)) ok.work;
    ready = ready_stays x.machine m (length (graph_of p)) v.ready awaits ok.ready;
    full = λ f. absurd (unfinished (ok.full f j l));
    stopped = ok.stopped;
    seen_stop = ok.seen_stop;
    number = ok.number;
    done = λ k h. dite (ℕ_discrete k j)
        (λ e. let t = put_here x.holder j (suc id) k e in absurd (ne (omega arith)))
        (λ apart. let t = put_else x.holder j (suc id) k apart in ⊎_elim
        (λ z. inl (put_else x.stage j st k apart ∙ z)) (λ z. inr z) (ok.done k (sym t ∙ h)));
  }

  -- a fact of every seat, where one view changed
  pub views_change : (Q : ℕ → View T K → Type 0) (vs : List (View T K)) (id : ℕ) (w : View T K) → Q id w → ((other : ℕ) (v : View T K) → other ≢ id → get_elem? vs other ≡ some v → Q other v)
      → (other : ℕ) (v : View T K) → get_elem? (set vs id w) other ≡ some v → Q other v
  views_change Q vs id w mine others other v e = ⊎_elim (λ (t : (other ≡ id) × (w ≡ v)). subst (λ (x : ℕ × View T K). Q x.0 x.1) (λ i. (sym t.0 i, t.1 i)) mine)
      (λ (t : (other ≢ id) × (get_elem? vs other ≡ some v)). others other v t.0 t.1) (at_set vs id other w v e)

  at_below : (vs : List (View T K)) (id : ℕ) (v : View T K) → get_elem? vs id ≡ some v → id < length vs
  at_below [] id v e = absurd (cc)
  at_below (u ∷ us) zero v e = omega arith
  at_below (u ∷ us) (suc id) v e = let r = at_below us id v e in omega arith

  pub is_there : (vs : List (View T K)) (id : ℕ) (v w : View T K) → get_elem? vs id ≡ some v → get_elem? (set vs id w) id ≡ some w
  is_there vs id v w at = set_here vs id w (at_below vs id v at)

  pub below : (vs : List (View T K)) (id : ℕ) (v : View T K) → get_elem? vs id ≡ some v → id < length vs
  below = at_below

  -- the stop is still noted
  pub stop_stays : (vs : List (View T K)) (id : ℕ) (v w : View T K) → get_elem? vs id ≡ some v → (v.stopped ≡ true → w.stopped ≡ true) → ((other : ℕ) × (u : View T K) × (get_elem? vs other ≡ some u) × (u.stopped ≡ true))
      → (other : ℕ) × (u : View T K) × (get_elem? (set vs id w) other ≡ some u) × (u.stopped ≡ true)
  stop_stays vs id v w at up h = dite (ℕ_discrete h.0 id)
      (λ e. let same : h.1 ≡ v = some-injective h.1 v (sym h.2 ∙ ap (get_elem? vs) e ∙ at) in (id, w, is_there vs id v w at, up (ap (λ (z : View T K). z.stopped) (sym same) ∙ h.3)))
      (λ n. (h.0, h.1, set_else vs id h.0 w n ∙ h.2, h.3))

  -- the seat of this plan goes on, with its parts and its stop
  abbrev pub GoesOn : Plan T K → View T K → View T K → Type 0
  GoesOn p v w = (v.stopped ≡ true → w.stopped ≡ true) × (w.part ≡ v.part) × (v.plan ≡ Some p)

  module _ {S : Type 0} where
    -- a step that moves no job
    pub unmoved : (p : Plan T K) (s : State S (View T K)) (x : Standing) (r : Keeps p x s) (i n id : ℕ) (homes : List (mathlib.Core.Option.Option S)) (v w : View T K) → get_elem? s.views id ≡ some v → n ≡ get_or s.words i 0
        → SeatOk p x id w → GoesOn p v w → Keeps p x record { words = set s.words i n; homes = homes; views = set s.views id w }
    unmoved p s x r i n id homes v w at e ok up = let h = r.shows in record {
      fits = r.fits;
      reached = r.reached;
      shows = subst (λ ws. Shows (graph_of p) (dependents_of p) p x ws (set s.views id w)) (sym (ap (set s.words i) e ∙ set-get_or s.words i 0)) record {
        wide = h.wide;
        done = h.done;
        jobs = h.jobs;
        unheld = h.unheld;
        holders = λ j. let a = h.holders j in let b = length-set s.views id w in omega arith;
        seats = views_change (SeatOk p x) s.views id w ok (λ other u _ a. h.seats other u a);
        stop = λ z. stop_stays s.views id v w at up.0 (h.stop z);
      };
      parts = parts_stay s.views id v w at (unspent p v up.2) up.1 r.parts;
    }

    -- a step of the seat id that moves the job j
    pub moves : (p : Plan T K) (s : State S (View T K)) (x : Standing) (r : Keeps p x s) (m : Machine) (j st i n id : ℕ) (homes : List (mathlib.Core.Option.Option S)) (v w : View T K) → get_elem? s.views id ≡ some v → j < length (graph_of p)
        → (x.holder j ≡ 0) ⊎ (x.holder j ≡ suc id) → x.stage j ≢ last_stage (dependents_of p) j
        → (es : List Event) × (m ≡ run (graph_of p) (start (graph_of p)) es)
        → ((k : ℕ) → x.machine.awaits k ≡ [] → m.awaits k ≡ []) → ((k u : ℕ) → x.machine.claimed k ≡ Some u → m.claimed k ≡ Some u)
        → slice_index (set s.words i n) 0 ≡ 2 * how_many (λ k. put x.stage j st k == last_stage (dependents_of p) k) (length (graph_of p)) + one_if x.stopped
        → JobOk (dependents_of p) (set s.words i n) m j st (suc id)
        → ((k : ℕ) → k ≢ j → JobOk (dependents_of p) s.words x.machine k (x.stage k) (x.holder k) → JobOk (dependents_of p) (set s.words i n) m k (x.stage k) (x.holder k))
        → SeatOk p (moved x m j st id) id w → GoesOn p v w
        → Keeps p (moved x m j st id) record { words = set s.words i n; homes = homes; views = set s.views id w }
    moves p s x r m j st i n id homes v w at l mine unfinished reached awaits made done job others ok up = let h = r.shows in record {
      fits = r.fits;
      reached = reached;
      shows = record {
        wide = length-set s.words i n ∙ h.wide;
        done = done;
        jobs = λ k b. dite (ℕ_discrete k j)
            (λ e. subst (λ (z : ℕ × ℕ × ℕ). JobOk (dependents_of p) (set s.words i n) m z.0 z.1 z.2) (λ c. (sym e c, sym (put_here x.stage j st k e) c, sym (put_here x.holder j (suc id) k e) c)) job)
            (λ ne. subst (λ (z : ℕ × ℕ). JobOk (dependents_of p) (set s.words i n) m k z.0 z.1) (λ c. (sym (put_else x.stage j st k ne) c, sym (put_else x.holder j (suc id) k ne) c)) (others k ne (h.jobs k b)));
        unheld = λ k b. put_else x.holder j (suc id) k (λ e. absurd (omega arith)) ∙ h.unheld k b;
        holders = λ k. at_put (λ _ y. y ≤ length (set s.views id w)) x.holder j (suc id) k
            (λ _. let a = below s.views id v at in let b = length-set s.views id w in omega arith)
            (λ _. let a = h.holders k in let b = length-set s.views id w in omega arith);
        seats = views_change (SeatOk p (moved x m j st id)) s.views id w ok (λ other u ne a. seat_stays p x m j st id other u ne l mine unfinished awaits made (h.seats other u a));
        stop = λ z. stop_stays s.views id v w at up.0 (h.stop z);
      };
      parts = parts_stay s.views id v w at (unspent p v up.2) up.1 r.parts;
    }
