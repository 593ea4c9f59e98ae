-- The lists of edges grow as jobs are added.
use Rattle.std.proofs.Common.{◌≡◌, ◌≢◌, ℕ, suc, ◌+◌, ◌<◌, Bool, true, false, ◌||◌, ◌==◌, if◌then◌else◌, List, [], ◌∷◌, ◌++◌, map, take, length, get_or, set, slice_index, refl, sym, ap, ◌∙◌, arith, append-nil, get_or-set_same, get_or-set_other}
use Rattle.std.specs.Global.{Vec}
use Rattle.std.proofs.lemmas.Bool.Decides.{nat_tests}
use Rattle.std.proofs.lemmas.List.{length-map, map-append, map-set, get_or-map, take_more}
use Rattle.std.proofs.Math.Decide.{ℕ_discrete}
use mathlib.Core.Logic.{dite}
use Rattle.job_graph.specs.Graph.{inputs_of, AreAscending, has}
use Rattle.job_graph.proofs.Booking.{has_more}
use Rattle.job_graph.proofs.Taken.{none_before}
use Rattle.job_board.specs.declared.layout.Edge.{Edge}
use Rattle.job_board.specs.Slots.{first, place}
use Rattle.job_board.specs.Layout.{edges_at, edge_to, new_edge}
use Rattle.job_board.proofs.Slots.{placed, has_index, apart_at}
use Rattle.job_board.proofs.Waiting.{waiting, filter_next}

-- the new edge from a job, once the first q inputs were seen
abbrev pub edge_so_far : List ℕ → ℕ → ℕ → ℕ → ℕ → List Edge
edge_so_far inputs job first q from = if has from (take q inputs) then record { to = job; slot = first + place from inputs } ∷ [] else []

edges_set : (now : List (Vec Edge)) (i : ℕ) (w : Vec Edge) → map (λ v. v.items) (set now i w) ≡ set (map (λ v. v.items) now) i w.items
edges_set now i w = map-set (λ (v : Vec Edge). v.items) now i w

module _ (inputs : List ℕ) (job first q : ℕ) (a : AreAscending 0 inputs job) (l : q < length inputs) where
  seen_more : (j : ℕ) → has j (take (q + 1) inputs) ≡ (j == slice_index inputs q) || has j (take q inputs)
  seen_more j = ap (has j) (take_more inputs q 0 l) ∙ has_more j (take q inputs) (slice_index inputs q)

  so_far_here : (j : ℕ) → j ≡ slice_index inputs q → (edge_so_far inputs job first q j ≡ []) × (edge_so_far inputs job first (q + 1) j ≡ record { to = job; slot = first + q } ∷ [])
  so_far_here j e =
      let before : has j (take q inputs) ≡ false = ap (λ z. has z (take q inputs)) e ∙ none_before 0 inputs job q a l in
      let test : (j == slice_index inputs q) ≡ true = grind (arith, nat_tests) in
      let now : has j (take (q + 1) inputs) ≡ true = seen_more j ∙ ap (λ b. b || has j (take q inputs)) test in
      let h : has j inputs ≡ true = ap (λ z. has z inputs) e ∙ has_index inputs q l in let p = placed j inputs h in
      let at : place j inputs ≡ q = apart_at 0 inputs job (place j inputs) q a p.0 l (p.1 ∙ e) in (
        ap (λ b. if b then record { to = job; slot = first + place j inputs } ∷ [] else []) before,
        ap (λ b. if b then record { to = job; slot = first + place j inputs } ∷ [] else []) now ∙ ap (λ z. record { to = job; slot = first + z } ∷ []) at,
      )

  so_far_else : (j : ℕ) → j ≢ slice_index inputs q → edge_so_far inputs job first (q + 1) j ≡ edge_so_far inputs job first q j
  so_far_else j d =
      let test : (j == slice_index inputs q) ≡ false = grind (arith, nat_tests) in
      ap (λ b. if b then record { to = job; slot = first + place j inputs } ∷ [] else []) (seen_more j ∙ ap (λ b. b || has j (take q inputs)) test)

  -- one more edge
  pub edge_pushed : (old now new : List (Vec Edge)) (v w : Vec Edge) → slice_index inputs q < length now
      → ((j : ℕ) → edges_at now j ≡ edges_at old j ++ edge_so_far inputs job first q j)
      → new ≡ set now (slice_index inputs q) w → v ≡ get_or now (slice_index inputs q) v → w.items ≡ v.items ++ record { to = job; slot = first + q } ∷ []
      → (j : ℕ) → edges_at new j ≡ edges_at old j ++ edge_so_far inputs job first (q + 1) j
  edge_pushed old now new v w inside h is at more j =
      let i = slice_index inputs q in let many = length-map now (λ (x : Vec Edge). x.items) in
      let stood : edges_at now i ≡ v.items = get_or-map (λ (x : Vec Edge). x.items) now i v [] inside ∙ ap (λ (x : Vec Edge). x.items) (sym at) in
      ap (λ z. edges_at z j) is ∙ ap (λ z. get_or z j []) (edges_set now i w) ∙ dite (ℕ_discrete j i)
      (λ e. let s = so_far_here j e in
      ap (λ z. get_or (set (map (λ (x : Vec Edge). x.items) now) i w.items) z []) e ∙ get_or-set_same (map (λ (x : Vec Edge). x.items) now) i w.items [] (omega arith) ∙ more
      ∙ ap (λ z. z ++ record { to = job; slot = first + q } ∷ []) (sym stood ∙ ap (edges_at now) (sym e) ∙ h j ∙ ap (λ z. edges_at old j ++ z) s.0 ∙ append-nil (edges_at old j))
      ∙ ap (λ z. edges_at old j ++ z) (sym s.1))
      (λ d. get_or-set_other (map (λ (x : Vec Edge). x.items) now) i j w.items [] d ∙ h j ∙ ap (λ z. edges_at old j ++ z) (sym (so_far_else j d)))

mapped : (g : List (List ℕ)) (j k : ℕ) (b : Bool) → map (edge_to g j) (if b then k ∷ [] else []) ≡ (if b then edge_to g j k ∷ [] else [])
mapped g j k true = refl
mapped g j k false = refl

-- one more job
pub edges_next : (g : List (List ℕ)) (k j : ℕ) (now : List Edge) → now ≡ map (edge_to g j) (waiting g k j) ++ new_edge (inputs_of g k) k (first g k) j → now ≡ map (edge_to g j) (waiting g (k + 1) j)
edges_next g k j now e = e ∙ ap (λ z. map (edge_to g j) (waiting g k j) ++ z) (sym (mapped g j k (has j (inputs_of g k))))
    ∙ sym (map-append (edge_to g j) (waiting g k j) (if has j (inputs_of g k) then k ∷ [] else [])) ∙ ap (map (edge_to g j)) (sym (filter_next (λ i. has j (inputs_of g i)) k))
    ∙ ap (λ n. map (edge_to g j) (waiting g n j)) (let s : suc k ≡ k + 1 = omega arith in s)
