use Rattle.std.proofs.Common.{◌≡◌, ◌<◌, ◌≤◌, ◌+◌, ◌++◌, ℕ, zero, suc, List, [], ◌∷◌, map, length, slice_index, refl, sym, ap, ◌∙◌, arith}
use Rattle.std.proofs.lemmas.List.{length-append}
use Rattle.std.proofs.Math.Decide.{ℕ_discrete}
use Rattle.std.proofs.lemmas.Grind.{common_steps}
use mathlib.Core.Logic.{dite}
use Rattle.job_graph.specs.Graph.{inputs_of}
use Rattle.job_board.specs.Slots.{first, own_slot}
use Rattle.job_board.specs.Layout.{edges_at, edge_to, new_edge}
use Rattle.job_board.proofs.Waiting.{waiting, first_more, first_bound, few_inputs, dependents_at}
use Rattle.job_board.proofs.Edges.{edges_next}
use Rattle.job_board.proofs.layout.Layout.of.Goals as goal

-- the item behind the others
pushed_at : (old new : List ℕ) (x k : ℕ) (f : ℕ → ℕ) → new ≡ old ++ x ∷ [] → length old ≡ k → x ≡ f k → ((j : ℕ) → j < k → slice_index old j ≡ f j) → (j : ℕ) → j < k + 1 → slice_index new j ≡ f j
pushed_at old new x k f e n is h j l = ap (λ z. slice_index z j) e ∙ go old j k f n is h l where
  go : (old : List ℕ) (j k : ℕ) (f : ℕ → ℕ) → length old ≡ k → x ≡ f k → ((i : ℕ) → i < k → slice_index old i ≡ f i) → j < k + 1 → slice_index (old ++ x ∷ []) j ≡ f j
  go [] zero k f n is h l = is ∙ ap f (let t : k ≡ 0 = omega arith in t)
  go [] (suc j) k f n is h l = absurd (omega arith)
  go (y ∷ ys) zero k f n is h l = h 0 (omega arith)
  go (y ∷ ys) (suc j) k f n is h l = let m : suc (length ys) ≡ k = n in go ys j (length ys) (λ i. f (suc i)) refl (is ∙ ap f (sym m)) (λ i t. h (suc i) (omega arith)) (omega arith)

highest : (g : List (List ℕ)) (k most n : ℕ) → length (inputs_of g k) ≤ most → n ≤ most → ((j : ℕ) → j < k → length (inputs_of g j) ≤ n) → (j : ℕ) → j < k + 1 → length (inputs_of g j) ≤ most
highest g k most n a b h j l = dite (ℕ_discrete j k)
    (λ e. let t : length (inputs_of g j) ≡ length (inputs_of g k) = ap (λ z. length (inputs_of g z)) e in omega arith)
    (λ d. let t = h j (omega arith) in omega arith)

pub add_edges-requires-clause-room : goal.add_edges-requires-clause-room
add_edges-requires-clause-room c =
    let g = c.args.graph.now in let k = c.loop-job.job in let a = c.jobs.ensures.sound in let count = c.jobs-job-end.ensures.count in let t = c.loop-job-test.true in let kn : k < length g = omega arith in
    let b = first_bound g a k (omega arith) in let n = few_inputs g a k kn in let s = c.loop-job.invariant.slots in let m = a.count in let e = ap length c.inputs-inputs.ensures in omega arith

pub overflow_add-slots : goal.overflow_add-slots
overflow_add-slots c =
    let g = c.args.graph.now in let k = c.loop-job.job in let a = c.jobs.ensures.sound in let count = c.jobs-job-end.ensures.count in let t = c.loop-job-test.true in let kn : k < length g = omega arith in
    let b = first_bound g a k (omega arith) in let n = few_inputs g a k kn in let s = c.loop-job.invariant.slots in let m = a.count in let e = ap length c.inputs-inputs.ensures in omega arith

pub overflow_add-slots-in-loop-job-2 : goal.overflow_add-slots-in-loop-job-2
overflow_add-slots-in-loop-job-2 c =
    let g = c.args.graph.now in let k = c.loop-job.job in let a = c.jobs.ensures.sound in let count = c.jobs-job-end.ensures.count in let t = c.loop-job-test.true in let kn : k < length g = omega arith in
    let b = first_bound g a k (omega arith) in let n = few_inputs g a k kn in let s = c.loop-job.invariant.slots in let m = a.count in let e = ap length c.inputs-inputs.ensures in omega arith

pub loop-job-preserved : goal.loop-job-preserved
loop-job-preserved c =
    let g = c.args.graph.now in let k = c.loop-job.job in let v = c.loop-job.invariant in let a = c.jobs.ensures.sound in let count = c.jobs-job-end.ensures.count in let t = c.loop-job-test.true in let kn : k < length g = omega arith in
    let ins = c.inputs-inputs.ensures in let e = ap length ins in let s = v.slots in let m = first_more g k kn in
    let added = c.in_ok-add_edges.ensures.edges in
    record {
      edge_count = c.in_ok-add_edges.ensures.count ∙ v.edge_count;
      own_count = (let p = ap length (c.in_ok-push.ensures {u = tt}).items in let q = length-append c.loop-job.owns.items ((c.loop-job.slots + length c.inputs-inputs.result.now) ∷ []) in let r = v.own_count in omega arith);
      edges = λ j. edges_next g k j (edges_at c.add_edges.new.edges.items j)
          (added j ∙ ap (λ z. z ++ new_edge c.inputs-inputs.result.now k c.loop-job.slots j) (v.edges j) ∙ ap (λ z. map (edge_to g j) (waiting g k j) ++ new_edge z k c.loop-job.slots j) ins ∙ ap (λ z. map (edge_to g j) (waiting g k j) ++ new_edge (inputs_of g k) k z j) s);
      owns = pushed_at c.loop-job.owns.items c.push.new.self.items (c.loop-job.slots + length c.inputs-inputs.result.now) k (own_slot g) (c.in_ok-push.ensures {u = tt}).items v.own_count (omega arith) v.owns;
      slots = (let w : suc k ≡ k + 1 = omega arith in let z = ap (first g) w in omega arith);
      most = (let up : length (inputs_of g k) ≤ c.max-most.result = grind (arith, common_steps) in let stays : c.loop-job.most ≤ c.max-most.result = grind (arith, common_steps) in highest g k c.max-most.result c.loop-job.most up stays v.most);
    }

pub returns : goal.returns
returns c =
    let g = c.args.graph.now in let v = c.loop-job.invariant in let count = c.jobs-job-end.ensures.count in let t = c.loop-job-test.false in let o = c.loop-job.auto.job-end in let all : c.loop-job.job ≡ length g = omega arith in
    record {
      sound = c.jobs.ensures.sound;
      graph = c.in_ok-copied.ensures;
      edge_count = v.edge_count;
      own_count = v.own_count ∙ all;
      edges = λ j l. v.edges j ∙ ap (λ n. map (edge_to g j) (waiting g n j)) all ∙ ap (map (edge_to g j)) (sym (dependents_at g j l));
      owns = λ j l. v.owns j (omega arith);
      slots = v.slots ∙ ap (first g) all;
      most = λ j l. v.most j (omega arith);
    }
