use Rattle.std.proofs.Common.{◌≡◌, ◌<◌, ◌≤◌, ◌+◌, ℕ, List, length, get_or, All, Option, ap, ◌∙◌, sym, subst, arith}
use Rattle.std.specs.Global.{Vec}
use Rattle.std.proofs.lemmas.List.{length-map, get_or-map}
use Rattle.std.proofs.Math.Decide.{dec_lt}
use mathlib.Core.Logic.{dite}
use Rattle.job_graph.specs.Graph.{AreInputs, inputs_of, lists, has}
use Rattle.job_graph.specs.Levels.{AreLevels}
use Rattle.job_graph.specs.Machine.{Machine, machine_of, IsStateOf, start}
use Rattle.job_graph.specs.Sharing.{IsFound, KeepsFound}
use Rattle.job_graph.specs.Book.{AreFree, MayClaim, MayPublish, with_claimed, with_published}
use Rattle.job_graph.proofs.Inputs.{item_has}
use Rattle.job_graph.proofs.Booked.{IsBooked, nothing_booked, may_claim, may_publish, booked_more, all_published}
use Rattle.job_graph.proofs.Finding.{BelowFound, all_has, level_ready, all_found, none_found}
use Rattle.job_graph.proofs.run.work_levels.Goals as goal

-- the list of a level is that of its vector
list_at : (items : List (Vec ℕ)) (k : ℕ) (v : Vec ℕ) (xs : List ℕ) → k < length items → v ≡ get_or items k v → xs ≡ v.items → inputs_of (lists items) k ≡ xs
list_at items k v xs l e d = get_or-map (λ (x : Vec ℕ). x.items) items k v _ l ∙ ap (λ (x : Vec ℕ). x.items) (sym e) ∙ sym d

-- one more level was worked
below_more : {T : Type 0} (levels : List (List ℕ)) (old new : List (Option T)) (k : ℕ) (xs : List ℕ) → BelowFound levels old k → KeepsFound old new → inputs_of levels k ≡ xs → All (IsFound new) xs → BelowFound levels new (k + 1)
below_more levels old new k xs below keeps e all i job l h = dite (dec_lt i k)
    (λ m. keeps job (below i job m h))
    (λ m. let s : i ≡ k = omega arith in all_has (IsFound new) xs job all (ap (has job) (sym e) ∙ ap (λ q. has job (inputs_of levels q)) (sym s) ∙ h))

module _ (graph given levels : List (List ℕ)) (same : given ≡ graph) (l : AreLevels graph levels) (k : ℕ) (m : Machine) (b : IsBooked graph levels k m) where
  claims : (xs : List ℕ) → inputs_of levels k ≡ xs → AreInputs graph → AreFree (MayClaim given m) xs
  claims xs e a = subst (λ (g : List (List ℕ)). AreFree (MayClaim g m) xs) (sym same) (subst (AreFree (MayClaim graph m)) e (may_claim graph levels l k m a b))

  publishes : (now : Machine) (xs ys : List ℕ) → inputs_of levels k ≡ xs → inputs_of levels k ≡ ys → now ≡ with_claimed m xs → AreFree (MayPublish given now) ys
  publishes now xs ys e f is =
      let same_now : with_claimed m (inputs_of levels k) ≡ now = ap (with_claimed m) e ∙ sym is in
      subst (λ (g : List (List ℕ)). AreFree (MayPublish g now) ys) (sym same) (subst (λ (x : Machine). AreFree (MayPublish graph x) ys) same_now
      (subst (AreFree (MayPublish graph (with_claimed m (inputs_of levels k)))) f (may_publish graph levels l k m b)))

  books : (now last : Machine) (xs ys : List ℕ) → k < length levels → inputs_of levels k ≡ xs → inputs_of levels k ≡ ys → now ≡ with_claimed m xs → last ≡ with_published now ys → IsBooked graph levels (k + 1) last
  books now last xs ys lt e f is published =
      let now_is : with_claimed m (inputs_of levels k) ≡ now = ap (with_claimed m) e ∙ sym is in
      let last_is : with_published (with_claimed m (inputs_of levels k)) (inputs_of levels k) ≡ last = ap (λ x. with_published x (inputs_of levels k)) now_is ∙ ap (with_published now) f ∙ sym published in
      subst (IsBooked graph levels (k + 1)) last_is (booked_more graph levels l k m lt b)

pub loop-level-init : goal.loop-level-init
loop-level-init g c =
    let graph = g.P.Phase.graph c.args.phase.now in let started = c.in_ok-book.ensures {u = tt} in
    record {
      right = rw (c.in_ok-found.ensures) (none_found g.P.Out.Defined.is_defined (g.P.Phase.key c.args.phase.now) graph c.jobs.result (c.jobs.ensures.count ∙ ap length c.graph-graph.ensures));
      below = λ i job l h. absurd (omega arith);
      state = subst (λ (x : List (List ℕ)). IsStateOf x c.in_ok-book.book) c.graph-graph.ensures started.state;
      booked = subst (IsBooked graph (lists c.args.levels.now) 0) (sym (started.start ∙ ap start c.graph-graph.ensures)) (nothing_booked graph (lists c.args.levels.now));
    }

pub claim_level-requires-clause-level : goal.claim_level-requires-clause-level
claim_level-requires-clause-level g c =
    let graph = g.P.Phase.graph c.args.phase.now in let items = c.args.levels.now in let k = c.loop-level.level-index in
    claims graph c.graph-graph.result.now (lists items) c.graph-graph.ensures c.requires k (machine_of c.loop-level.book) c.loop-level.invariant.booked c.deref.result.now
    (list_at items k c.level-item.result c.deref.result.now c.loop-level-test.true c.level-item.is c.deref.ensures.value) (subst AreInputs c.graph-graph.ensures c.jobs.ensures.sound)

pub work_level-requires-clause-ready : goal.work_level-requires-clause-ready
work_level-requires-clause-ready g c κs within = λ i d l.
    let graph = g.P.Phase.graph c.args.phase.now in let items = c.args.levels.now in let k = c.loop-level.level-index in let now = c.deref-in-loop-level.result.now in
    let at = list_at items k c.level-item.result now c.loop-level-test.true c.level-item.is c.deref-in-loop-level.ensures.value in let job = get_or now i d in
    level_ready graph (lists items) c.requires c.loop-level.found k job (subst AreInputs c.graph-graph.ensures c.jobs.ensures.sound) c.loop-level.invariant.below (ap (has job) at ∙ item_has now i d l)

pub publish_level-requires-clause-level : goal.publish_level-requires-clause-level
publish_level-requires-clause-level g c =
    let graph = g.P.Phase.graph c.args.phase.now in let items = c.args.levels.now in let k = c.loop-level.level-index in
    publishes graph c.graph-graph.result.now (lists items) c.graph-graph.ensures c.requires k (machine_of c.loop-level.book) c.loop-level.invariant.booked (machine_of c.claim_level.new.book) c.deref.result.now c.deref-in-loop-level-2.result.now
    (list_at items k c.level-item.result c.deref.result.now c.loop-level-test.true c.level-item.is c.deref.ensures.value)
    (list_at items k c.level-item.result c.deref-in-loop-level-2.result.now c.loop-level-test.true c.level-item.is c.deref-in-loop-level-2.ensures.value) c.claim_level.ensures.claimed

pub loop-level-preserved : goal.loop-level-preserved
loop-level-preserved g c =
    let graph = g.P.Phase.graph c.args.phase.now in let items = c.args.levels.now in let k = c.loop-level.level-index in let worked = c.in_ok-work_level.ensures {u = tt} in
    record {
      right = worked.right;
      below = below_more (lists items) c.loop-level.found c.work_level.new.found k c.deref-in-loop-level.result.now c.loop-level.invariant.below worked.keeps
          (list_at items k c.level-item.result c.deref-in-loop-level.result.now c.loop-level-test.true c.level-item.is c.deref-in-loop-level.ensures.value) worked.all;
      state = subst (λ (x : List (List ℕ)). IsStateOf x c.publish_level.new.book) c.graph-graph.ensures c.publish_level.ensures.state;
      booked = books graph c.graph-graph.result.now (lists items) c.graph-graph.ensures c.requires k (machine_of c.loop-level.book) c.loop-level.invariant.booked (machine_of c.claim_level.new.book) (machine_of c.publish_level.new.book)
          c.deref.result.now c.deref-in-loop-level-2.result.now (subst (λ n. k < n) (sym (length-map items (λ (x : Vec ℕ). x.items))) c.loop-level-test.true)
          (list_at items k c.level-item.result c.deref.result.now c.loop-level-test.true c.level-item.is c.deref.ensures.value)
          (list_at items k c.level-item.result c.deref-in-loop-level-2.result.now c.loop-level-test.true c.level-item.is c.deref-in-loop-level-2.ensures.value)
          c.claim_level.ensures.claimed c.publish_level.ensures.published;
    }

-- the loop ends behind the last level
ended : (items : List (Vec ℕ)) (k : ℕ) → length items ≤ k → k ≤ length items → k ≡ length (lists items)
ended items k a b = let n = length-map items (λ (x : Vec ℕ). x.items) in omega arith

pub returns-clause-found : goal.returns-clause-found
returns-clause-found g c = λ job l.
    let graph = g.P.Phase.graph c.args.phase.now in let items = c.args.levels.now in
    let e = ended items c.loop-level.level-index c.loop-level-test.false c.loop-level.auto.level-index-end in
    all_found graph (lists items) c.requires c.loop-level.found job (subst (BelowFound (lists items) c.loop-level.found) e c.loop-level.invariant.below) l

pub returns-clause-published : goal.returns-clause-published
returns-clause-published g c = λ job l.
    let graph = g.P.Phase.graph c.args.phase.now in let items = c.args.levels.now in
    let e = ended items c.loop-level.level-index c.loop-level-test.false c.loop-level.auto.level-index-end in
    all_published graph (lists items) c.requires (machine_of c.loop-level.book) (subst (λ k. IsBooked graph (lists items) k (machine_of c.loop-level.book)) e c.loop-level.invariant.booked) job l
