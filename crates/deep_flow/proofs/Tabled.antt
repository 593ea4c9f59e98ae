-- The values of a phase's jobs have a table.
use Rattle.std.proofs.Common.{◌≡◌, ℕ, zero, suc, ◌<◌, ◌+◌, List, [], ◌∷◌, Option, length, slice_index, refl, ◌∙◌, ap, arith}
use Rattle.cell_graph.specs.Linked.{IsOrder, Linked}
use Rattle.deep_tables.specs.Entries.{IsUpward}
use Rattle.deep_tables.specs.Positions.{ArePositions}
use Rattle.deep_tables.proofs.Finding.{by_upward, seen}
use Rattle.job_board.specs.Slots.{place}
use Rattle.job_board.proofs.Slots.{has_index, placed}

-- of each number from k on, n of them, its place
abbrev places_from : List ℕ → ℕ → ℕ → List ℕ
places_from order k zero = []
places_from order k (suc n) = place k order ∷ places_from order (suc k) n

places_count : (order : List ℕ) (k n : ℕ) → length (places_from order k n) ≡ n
places_count order k zero = refl
places_count order k (suc n) = ap suc (places_count order (suc k) n)

places_at : (order : List ℕ) (k n i : ℕ) → i < n → slice_index (places_from order k n) i ≡ place (k + i) order
places_at order k zero i lt = absurd (omega arith)
places_at order k (suc n) zero lt = let e : k ≡ k + 0 = omega arith in ap (λ (x : ℕ). place x order) e
places_at order k (suc n) (suc i) lt = let e : suc k + i ≡ k + suc i = omega arith in places_at order (suc k) n i (omega arith) ∙ ap (λ (x : ℕ). place x order) e

are_positions : (d : Linked) → IsOrder d → ArePositions d.order (length d.order) (places_from d.order 0 (length d.cells))
are_positions d order k lt =
    let cell = slice_index d.order k in
    let at = placed cell d.order (has_index d.order k lt) in
    let from : 0 + cell ≡ cell = omega arith in
    places_at d.order 0 (length d.cells) cell (order.inside k lt) ∙ ap (λ (x : ℕ). place x d.order) from ∙ order.once (place cell d.order) k at.0 lt at.1

pub table_there : {T : Type 0} (d : Linked) (values : List T) → IsOrder d → (table : List (Option T)) × IsUpward d values table
table_there d values order =
    let jobs = places_from d.order 0 (length d.cells) in
    (seen values jobs, by_upward d values jobs order (places_count d.order 0 (length d.cells)) (are_positions d order))
