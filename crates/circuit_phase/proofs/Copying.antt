-- The cells of placements, one by one.
use Rattle.std.proofs.Common.{◌≡◌, ℕ, zero, suc, ◌+◌, ◌*◌, ◌<◌, pos, List, [], ◌∷◌, ◌++◌, append_assoc, map, slice_get, get_or, length, take, refl, sym, ◌∙◌, ap, arith}
use Rattle.std.specs.Prelude.{replicate}
use Rattle.std.proofs.Math.Seq.{take-length}
use Rattle.std.proofs.lemmas.List.{append-nil, map-append, map_more, replicate_more, replicate-append-replicate}
use Rattle.cell_graph.specs.Linked.{Linked, cell_at, places_at, plain, plain_cell, reference}
use Rattle.cell_graph.specs.declared.cells.CellPart.{CellPart}
use Rattle.cell_graph.specs.declared.cells.Place.{Place}
use Rattle.flat_layout.specs.Arrays.{Reference, array_places, places_of, row_places}
use Rattle.flat_layout.specs.Layout as flat
use Rattle.flat_layout.specs.Nets.{no_cell}
use Rattle.geo_base.specs.declared.motion.Turn.TheVariants.{R0}
use Rattle.circuit_phase.specs.Placed.{placed_cells}

row_cells : (r : Reference) (row column n : ℕ) → map (λ p. p.cell) (row_places r row column n) ≡ replicate n r.cell
row_cells r row column zero = refl
row_cells r row column (suc n) = ap (λ (l : List ℕ). r.cell ∷ l) (row_cells r row (suc column) n)

array_cells : (r : Reference) (row n : ℕ) → map (λ p. p.cell) (array_places r row n) ≡ replicate (n * r.columns) r.cell
array_cells r row zero = let z : 0 ≡ 0 * r.columns = omega arith in ap (λ (k : ℕ). replicate k r.cell) z
array_cells r row (suc n) =
    map-append (λ (p : flat.Place). p.cell) (row_places r row 0 r.columns) (array_places r (suc row) n)
    ∙ ap (λ (l : List ℕ). l ++ map (λ (p : flat.Place). p.cell) (array_places r (suc row) n)) (row_cells r row 0 r.columns)
    ∙ ap (λ (l : List ℕ). replicate r.columns r.cell ++ l) (array_cells r (suc row) n)
    ∙ replicate-append-replicate r.columns (n * r.columns) r.cell
    ∙ (let z : r.columns + n * r.columns ≡ suc n * r.columns = grind arith in ap (λ (k : ℕ). replicate k r.cell) z)

pub one_copy : (old mid new : List ℕ) (x n : ℕ) → mid ≡ old ++ replicate n x → new ≡ mid ++ x ∷ [] → new ≡ old ++ replicate (n + 1) x
one_copy old mid new x n h g = g ∙ ap (λ (l : List ℕ). l ++ x ∷ []) h ∙ append_assoc old (replicate n x) (x ∷ []) ∙ ap (λ (l : List ℕ). old ++ l) (replicate_more n x)

pub all_copies : (p : Place) (old new : List ℕ) (n : ℕ) → n ≡ p.rows * p.columns → new ≡ old ++ replicate n p.cell → new ≡ old ++ map (λ p. p.cell) (array_places (reference p) 0 p.rows)
all_copies p old new n e h = h ∙ ap (λ (k : ℕ). old ++ replicate k p.cell) e ∙ ap (λ (l : List ℕ). old ++ l) (sym (array_cells (reference p) 0 p.rows))

places_last : (rs : List Reference) (r : Reference) → places_of (rs ++ r ∷ []) ≡ places_of rs ++ array_places r 0 r.rows
places_last [] r = append-nil (array_places r 0 r.rows)
places_last (x ∷ rs) r = ap (λ (l : List flat.Place). array_places x 0 x.rows ++ l) (places_last rs r) ∙ sym (append_assoc (array_places x 0 x.rows) (places_of rs) (array_places r 0 r.rows))

pub one_array : (refs : List Place) (k : ℕ) (o : Place) (mid new : List ℕ) → k < length refs → mid ≡ map (λ p. p.cell) (places_of (map reference (take k refs)))
    → new ≡ mid ++ map (λ p. p.cell) (array_places (reference (get_or refs k o)) 0 (get_or refs k o).rows) → new ≡ map (λ p. p.cell) (places_of (map reference (take (k + 1) refs)))
one_array refs k o mid new lt h g =
    let r = reference (get_or refs k o) in
    let first = map reference (take k refs) in
    g ∙ ap (λ (l : List ℕ). l ++ map (λ (p : flat.Place). p.cell) (array_places r 0 r.rows)) h
    ∙ sym (map-append (λ (p : flat.Place). p.cell) (places_of first) (array_places r 0 r.rows))
    ∙ ap (λ (l : List flat.Place). map (λ (p : flat.Place). p.cell) l) (sym (places_last first r))
    ∙ ap (λ (l : List Reference). map (λ (p : flat.Place). p.cell) (places_of l)) (sym (map_more reference refs k o lt))

-- a cell's references as the plain layout has them
plain_places : (d : Linked) (cell : ℕ) → places_of (map reference (places_at (cell_at d cell))) ≡ (get_or (plain d).cells cell no_cell).places
plain_places d cell = at d.cells cell
  where
    at : (cells : List CellPart) (k : ℕ) → places_of (map reference (places_at (slice_get cells k))) ≡ (get_or (map plain_cell cells) k no_cell).places
    at [] k = refl
    at (c ∷ cells) zero = refl
    at (c ∷ cells) (suc k) = at cells k

pub all_arrays : (d : Linked) (cell k : ℕ) (refs : List Place) (new : List ℕ) → refs ≡ places_at (cell_at d cell) → k ≡ length refs → new ≡ map (λ p. p.cell) (places_of (map reference (take k refs))) → new ≡ placed_cells (plain d) cell
all_arrays d cell k refs new same e h =
    h ∙ ap (λ (l : List Place). map (λ (p : flat.Place). p.cell) (places_of (map reference l))) (ap (λ (i : ℕ). take i refs) e ∙ take-length refs ∙ same)
    ∙ ap (λ (l : List flat.Place). map (λ (p : flat.Place). p.cell) l) (plain_places d cell)

abbrev pub no_place : Place
no_place = record { cell = 0; motion = record { turn = R0; dx = pos 0; dy = pos 0 }; columns = 0; rows = 0; column_step = record { x = pos 0; y = pos 0 }; row_step = record { x = pos 0; y = pos 0 } }
