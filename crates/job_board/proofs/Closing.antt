-- What the table holds once every job is finished.
use Rattle.std.proofs.Common.{◌≡◌, ◌≢◌, ℕ, zero, suc, ◌+◌, ◌<◌, ◌≤◌, true, not, ◌==◌, List, [], ◌∷◌, ◌++◌, length, slice_index, slice_get, IsSomeAnd, Option, Some, None, inl, inr, length-append, refl, sym, ap, ◌∙◌, subst, arith}
use Rattle.std.proofs.lemmas.Bool.{eq-eqb}
use mathlib.Core.Option.{some, some-injective}
use mathlib.Core.Logic.{dite}
use Rattle.std.proofs.Math.Decide.{ℕ_discrete}
use lib.ListN.{get_elem?}
use Rattle.atomic_table.specs.Table.{Final, Seen}
use Rattle.job_graph.specs.declared.notes.CellNote.{CellNote}
use Rattle.job_graph.specs.Graph.{inputs_of}
use Rattle.job_board.specs.declared.view.Plan.{Plan}
use Rattle.job_board.specs.declared.view.View.{View}
use Rattle.job_board.specs.Notes.{IsRight, EachRight, KeptOwn}
use Rattle.job_board.specs.Pieces.{AreOwn}
use Rattle.job_board.specs.Slots.{first, own_slot, own_spot, SpotOk, Filled}
use Rattle.job_board.specs.Rule.{Holds, IsOnce, graph_of, dependents_of}
use Rattle.job_board.proofs.Slots.{block}
use Rattle.job_board.proofs.SlotSteps.{claimed_at, own_filled}

-- the own slot of each job holds a right note
pub closed_right : {T K : Type 0} (defined : K → ℕ → T → Type 0) (p : Plan T K) (words : List ℕ) (xs : List (Option (CellNote T))) (id : ℕ) (v : View T K) → Final (Seen (Holds None (IsRight defined p) p) id v) words xs → v.full ≡ true → (k : ℕ) → k < length (graph_of p)
    → (y : CellNote T) × (get_elem? xs (own_slot (graph_of p) k) ≡ some (Some y)) × IsRight defined p k (Some y)
closed_right {T} defined p words xs id v f full k l = let s = f.0 in let r = f.1.0 in let st = r.standing in let ok = r.keeps.shows.seats id v f.1.1 in
    let done : st.stage k ≡ length (inputs_of (dependents_of p) k) + 2 = ok.full full k l in
    let spot : own_spot (not (st.stage k == 0)) (st.stage k == length (inputs_of (dependents_of p) k) + 2) ≡ Filled = own_filled (not (st.stage k == 0)) (st.stage k == length (inputs_of (dependents_of p) k) + 2) (claimed_at (st.stage k) (λ z. absurd (omega arith))) (eq-eqb (st.stage k) (length (inputs_of (dependents_of p) k) + 2) done) in
    let h = subst (λ z. SpotOk None (IsRight defined p) z k (get_elem? s.homes (own_slot (graph_of p) k))) spot (r.slots.own k l) in
    there h.0 (f.4 (own_slot (graph_of p) k) h.0 h.1) h.2
  where
    there : (y : Option (CellNote T)) → get_elem? xs (own_slot (graph_of p) k) ≡ some y → IsRight defined p k y → (z : CellNote T) × (get_elem? xs (own_slot (graph_of p) k) ≡ some (Some z)) × IsRight defined p k (Some z)
    there None e h = absurd h
    there (Some z) e h = (z, e, h)

-- the closing seat's claims hold no job twice
pub closed_once : {T K : Type 0} (defined : K → ℕ → T → Type 0) (p : Plan T K) (words : List ℕ) (xs : List (Option (CellNote T))) (id : ℕ) (v : View T K) → Final (Seen (Holds None (IsRight defined p) p) id v) words xs → IsOnce v.claims
closed_once defined p words xs id v f = (f.1.0.keeps.shows.seats id v f.1.1).once

pub closed_length : {T K : Type 0} (defined : K → ℕ → T → Type 0) (p : Plan T K) (words : List ℕ) (xs : List (Option (CellNote T))) (id : ℕ) (v : View T K) → Final (Seen (Holds None (IsRight defined p) p) id v) words xs → length xs ≡ first (graph_of p) (length (graph_of p))
closed_length defined p words xs id v f = sym f.3 ∙ f.1.0.slots.deep

pub own_rises : (g : List (List ℕ)) (k l : ℕ) → k < l → l < length g → own_slot g k < own_slot g l
own_rises g k l a b = let r = block g k l a (omega arith) in omega arith

pub own_inside : (g : List (List ℕ)) (k : ℕ) → k < length g → own_slot g k < first g (length g)
own_inside g k l = let r = block g k (length g) l (omega arith) in omega arith

pub found_some : {S : Type 0} (items : List (Option S)) (slot e : ℕ) (y : S) (found : Option S) → get_elem? items e ≡ some (Some y) → get_elem? items slot ≡ some found → slot ≡ e → found ≡ Some y
found_some items slot e y found h f s = some-injective found (Some y) (sym f ∙ ap (get_elem? items) s ∙ h)

get_behind : {A : Type 0} (xs : List A) (x : A) (k : ℕ) → k ≡ length xs → slice_get (xs ++ x ∷ []) k ≡ Some x
get_behind [] x zero e = refl
get_behind [] x (suc k) e = absurd (omega arith)
get_behind (y ∷ ys) x zero e = absurd (omega arith)
get_behind (y ∷ ys) x (suc k) e = get_behind ys x k (omega arith)

get_before : {A : Type 0} (xs : List A) (x : A) (k : ℕ) → k < length xs → slice_get (xs ++ x ∷ []) k ≡ slice_get xs k
get_before [] x k l = absurd (omega arith)
get_before (y ∷ ys) x zero l = refl
get_before (y ∷ ys) x (suc k) l = get_before ys x k (omega arith)

module _ {T K : Type 0} (defined : K → ℕ → T → Type 0) (p : Plan T K) (own : List ℕ) (items : List (Option (CellNote T))) (are : AreOwn (graph_of p) own)
    (right : (k : ℕ) → k < length (graph_of p) → (y : CellNote T) × (get_elem? items (own_slot (graph_of p) k) ≡ some (Some y)) × IsRight defined p k (Some y)) where
  abbrev Each : ℕ → List (CellNote T) → Type 0
  Each a ns = (k : ℕ) → k < a → IsSomeAnd (slice_get ns k) (λ n. IsRight defined p k (Some n))

  abbrev Ahead : ℕ → ℕ → Type 0
  Ahead a slot = (k : ℕ) → a ≤ k → k < length own → slot ≤ slice_index own k

  pub closing_step : (slot a b : ℕ) (found : Option (CellNote T)) (ns ms : List (CellNote T)) → get_elem? items slot ≡ some found → KeptOwn found slot own a b ns ms → a ≤ length own → Ahead a slot → length ns ≡ a → Each a ns
      → (b ≤ length own) × Ahead b (slot + 1) × (length ms ≡ b) × Each b ms
  closing_step slot a b found ns ms f (inl h) al ahead count each = let al' = h.2 in let an : a < length (graph_of p) = omega (arith, are.count) in let r = right a an in let at = are.each a an in
      let same : found ≡ Some r.0 = found_some items slot (own_slot (graph_of p) a) r.0 found r.1 f (sym h.3 ∙ at) in
      let it : IsRight defined p a (Some h.0) = subst (IsRight defined p a) (sym same ∙ h.1) r.2 in let e = h.4 in (
        omega arith,
        (λ k kb kl. let kn : k < length (graph_of p) = omega (arith, are.count) in let atk = are.each k kn in let up = own_rises (graph_of p) a k (omega arith) kn in let s = h.3 in omega arith),
        (let len = ap length h.5 in let more = length-append ns (h.0 ∷ []) in omega arith),
        λ k kb. subst (λ (l : List (CellNote T)). IsSomeAnd (slice_get l k) (λ n. IsRight defined p k (Some n))) (sym h.5)
            (dite (ℕ_discrete k a)
            (λ s. subst (λ o. IsSomeAnd o (λ n. IsRight defined p k (Some n))) (sym (get_behind ns h.0 k (s ∙ sym count))) (subst (λ z. IsRight defined p z (Some h.0)) (sym s) it))
            (λ n. subst (λ o. IsSomeAnd o (λ n. IsRight defined p k (Some n))) (sym (get_before ns h.0 k (omega arith))) (each k (omega arith)))),
      )
  closing_step slot a b found ns ms f (inr h) al ahead count each = let e = h.1 in (
    omega arith,
    (λ k kb kl. let kn : k < length (graph_of p) = omega (arith, are.count) in let low = ahead k (omega arith) kl in let atk = are.each k kn in
        let apart : slice_index own k ≢ slot = λ s. dite (ℕ_discrete k a) (λ t. h.0 (omega arith) (ap (slice_index own) (sym t) ∙ s))
        (λ t. let an : a < length (graph_of p) = omega arith in let ata = are.each a an in let up = own_rises (graph_of p) a k (omega arith) kn in let la = ahead a (omega arith) (omega arith) in absurd (omega arith)) in
        omega arith),
    (ap length h.2 ∙ count ∙ sym e),
    λ k kb. subst (λ (l : List (CellNote T)). IsSomeAnd (slice_get l k) (λ n. IsRight defined p k (Some n))) (sym h.2) (each k (omega arith)),
  )

-- past the last slot each job's note was kept
pub all_kept : {T K : Type 0} (defined : K → ℕ → T → Type 0) (p : Plan T K) (own : List ℕ) (ns : List (CellNote T)) (a slot : ℕ) → AreOwn (graph_of p) own → a ≤ length own → ((k : ℕ) → a ≤ k → k < length own → slot ≤ slice_index own k) → length ns ≡ a
    → ((k : ℕ) → k < a → IsSomeAnd (slice_get ns k) (λ n. IsRight defined p k (Some n))) → first (graph_of p) (length (graph_of p)) ≤ slot → EachRight defined p (length (graph_of p)) ns
all_kept defined p own ns a slot are al ahead count each past =
    let all : a ≡ length own = dite (ℕ_discrete a (length own)) (λ e. e) (λ n. let l : a < length own = omega arith in let an : a < length (graph_of p) = omega (arith, are.count) in let i = own_inside (graph_of p) a an in let at = are.each a an in let h = ahead a (omega arith) l in absurd (omega arith)) in
    record { count = count ∙ all ∙ are.count; each = λ k l. each k (omega (arith, are.count)) }
