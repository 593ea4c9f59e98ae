-- Lists of inputs that ascend.
use Rattle.std.proofs.Common.{◌≡◌, ◌<◌, ◌≤◌, ◌+◌, ℕ, zero, suc, List, [], ◌∷◌, ◌++◌, length, refl, subst, arith}
use Rattle.std.specs.Global.{Vec}
use Rattle.job_graph.specs.Graph.{AreAscending, inputs_of, lists}

pub ascending_up : (low : ℕ) (xs : List ℕ) (high more : ℕ) → high ≤ more → AreAscending low xs high → AreAscending low xs more
ascending_up low [] high more l a = tt
ascending_up low (x ∷ xs) high more l a = let b = a.1 in (a.0, omega arith, ascending_up (suc x) xs high more l a.2)

pub ascending_more : (low : ℕ) (xs : List ℕ) (i : ℕ) → low ≤ i → AreAscending low xs i → AreAscending low (xs ++ i ∷ []) (i + 1)
ascending_more low [] i l a = (l, omega arith, tt)
ascending_more low (x ∷ xs) i l a = let b = a.1 in (a.0, omega arith, ascending_more (suc x) xs i (omega arith) a.2)

pub lower_more : (us : List (Vec ℕ)) (v : Vec ℕ) (k : ℕ) → length us ≡ k → ((job : ℕ) → job < k → AreAscending 0 (inputs_of (lists us) job) job) → AreAscending 0 v.items k → (job : ℕ) → job < k + 1 → AreAscending 0 (inputs_of (lists (us ++ v ∷ [])) job) job
lower_more us v k n h a job l = go us job k (λ i. i) n h a l where
  go : (us : List (Vec ℕ)) (job k : ℕ) (f : ℕ → ℕ) → length us ≡ k → ((i : ℕ) → i < k → AreAscending 0 (inputs_of (lists us) i) (f i)) → AreAscending 0 v.items (f k) → job < k + 1 → AreAscending 0 (inputs_of (lists (us ++ v ∷ [])) job) (f job)
  go [] zero k f n h a l = subst (λ z. AreAscending 0 v.items (f z)) (let t : k ≡ 0 = omega arith in t) a
  go [] (suc job) k f n h a l = absurd (omega arith)
  go (u ∷ us) zero k f n h a l = h 0 (omega arith)
  go (u ∷ us) (suc job) k f n h a l = let m : k ≡ suc (length us) = omega arith in go us job (length us) (λ i. f (suc i)) refl (λ i t. h (suc i) (omega arith)) (subst (λ z. AreAscending 0 v.items (f z)) m a) (omega arith)
