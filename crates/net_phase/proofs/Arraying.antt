-- The placements of arrays, one by one.
use Rattle.std.proofs.Common.{◌≡◌, ℕ, zero, suc, ◌+◌, ◌<◌, ◌^◌, ℤ, pos, ◌+ℤ◌, ◌*ℤ◌, List, [], ◌∷◌, ◌++◌, Some, ◌≤◌, map, slice_get, get_or, length, take, refl, sym, ◌∙◌, ap, subst, arith}
use Rattle.std.proofs.Math.Seq.{take-length}
use Rattle.std.proofs.lemmas.Int.{ints}
use Rattle.std.proofs.lemmas.List.{map_more, map_push}
use Rattle.std.proofs.lemmas.Option.{slice_get-get_or}
use Rattle.cell_context.proofs.Collecting.{close_array}
use Rattle.cell_context.specs.Arrays.{IsCloseArray, shift_x, shift_y}
use Rattle.cell_graph.proofs.Bridge.{step_of}
use Rattle.cell_graph.specs.Linked.{IsSound, Linked, cell_at, motion_at, places_at, plain, plain_cell, reference}
use Rattle.cell_graph.specs.declared.cells.CellPart.{CellPart}
use Rattle.cell_graph.specs.declared.cells.Place.{Place}
use Rattle.flat_laws.proofs.Items.{placed_at}
use Rattle.flat_layout.specs.Arrays.{Reference, array_places, place_at, places_of, row_places}
use Rattle.flat_layout.specs.Layout as flat
use Rattle.flat_layout.specs.Nets.{no_cell}
use Rattle.geo_base.specs.Near.{IsWithin}
use Rattle.geo_base.specs.declared.motion.Motion.{Motion}
use Rattle.geo_base.specs.declared.motion.Turn.TheVariants.{R0}
use Rattle.net_link_laws.specs.Places as laws
use Rattle.net_walk.specs.Walk.{AreClose, IsClose, place_of}
use Rattle.net_walk.specs.declared.cells.Element.{Element}
use Rattle.net_walk.proofs.Placing.{behind_both, nothing_behind}
use Rattle.net_phase.specs.Elements.{AreElements}

row_suc : (r : Reference) (row column n : ℕ) → row_places r row column (suc n) ≡ row_places r row column n ++ place_at r row (column + n) ∷ []
row_suc r row column zero = let z : column ≡ column + 0 = omega arith in ap (λ (c : ℕ). place_at r row c ∷ []) z
row_suc r row column (suc n) =
    let z : suc column + n ≡ column + suc n = omega arith in
    ap (λ (l : List flat.Place). place_at r row column ∷ l) (row_suc r row (suc column) n)
    ∙ ap (λ (c : ℕ). place_at r row column ∷ (row_places r row (suc column) n ++ place_at r row c ∷ [])) z

rows_suc : (r : Reference) (row n : ℕ) → array_places r row (suc n) ≡ array_places r row n ++ row_places r (row + n) 0 r.columns
rows_suc r row zero =
    let z : row ≡ row + 0 = omega arith in
    sym (nothing_behind (row_places r row 0 r.columns)) ∙ ap (λ (k : ℕ). row_places r k 0 r.columns) z
rows_suc r row (suc n) =
    let z : suc row + n ≡ row + suc n = omega arith in
    let first = row_places r row 0 r.columns in
    ap (λ (l : List flat.Place). first ++ l) (rows_suc r (suc row) n)
    ∙ ap (λ (k : ℕ). first ++ (array_places r (suc row) n ++ row_places r k 0 r.columns)) z
    ∙ sym (behind_both first (array_places r (suc row) n) (row_places r (row + suc n) 0 r.columns))

places_last : (rs : List Reference) (r : Reference) → places_of (rs ++ r ∷ []) ≡ places_of rs ++ array_places r 0 r.rows
places_last [] r = sym (nothing_behind (array_places r 0 r.rows))
places_last (x ∷ rs) r = ap (λ (l : List flat.Place). array_places x 0 x.rows ++ l) (places_last rs r) ∙ sym (behind_both (array_places x 0 x.rows) (places_of rs) (array_places r 0 r.rows))

pub row_more : (p : Place) (row column : ℕ) (old mid : List Element) (m : Motion) → m ≡ motion_at p row column → map place_of mid ≡ map place_of old ++ row_places (reference p) row 0 column
    → map place_of (mid ++ record { cell = p.cell; motion = m } ∷ []) ≡ map place_of old ++ row_places (reference p) row 0 (column + 1)
row_more p row column old mid m e h =
    let o : Element = record { cell = p.cell; motion = m } in
    let at : place_of o ≡ place_at (reference p) row (0 + column) =
    ap (λ (v : Motion). let q : flat.Place = record { cell = p.cell; motion = v } in q) e ∙ ap (λ (c : ℕ). place_at (reference p) row c) (let z : column ≡ 0 + column = omega arith in z) in
    let z : suc column ≡ column + 1 = omega arith in
    map_push place_of mid o
    ∙ ap (λ (l : List flat.Place). l ++ place_of o ∷ []) h
    ∙ behind_both (map place_of old) (row_places (reference p) row 0 column) (place_of o ∷ [])
    ∙ ap (λ (q : flat.Place). map place_of old ++ (row_places (reference p) row 0 column ++ q ∷ [])) at
    ∙ ap (λ (l : List flat.Place). map place_of old ++ l) (sym (row_suc (reference p) row 0 column))
    ∙ ap (λ (n : ℕ). map place_of old ++ row_places (reference p) row 0 n) z

pub array_more : (p : Place) (row : ℕ) (old mid new : List flat.Place) → mid ≡ old ++ array_places (reference p) 0 row → new ≡ mid ++ row_places (reference p) row 0 p.columns → new ≡ old ++ array_places (reference p) 0 (row + 1)
array_more p row old mid new h g =
    let z : suc row ≡ row + 1 = omega arith in
    let y : row ≡ 0 + row = omega arith in
    g ∙ ap (λ (l : List flat.Place). l ++ row_places (reference p) row 0 p.columns) h
    ∙ behind_both old (array_places (reference p) 0 row) (row_places (reference p) row 0 p.columns)
    ∙ ap (λ (k : ℕ). old ++ (array_places (reference p) 0 row ++ row_places (reference p) k 0 p.columns)) y
    ∙ ap (λ (l : List flat.Place). old ++ l) (sym (rows_suc (reference p) 0 row))
    ∙ ap (λ (n : ℕ). old ++ array_places (reference p) 0 n) z

pub refs_more : (refs : List Place) (k : ℕ) (o : Place) (mid new : List flat.Place) → k < length refs → mid ≡ places_of (map reference (take k refs)) → new ≡ mid ++ array_places (reference (get_or refs k o)) 0 (get_or refs k o).rows
    → new ≡ places_of (map reference (take (k + 1) refs))
refs_more refs k o mid new lt h g =
    let r = reference (get_or refs k o) in
    g ∙ ap (λ (l : List flat.Place). l ++ array_places r 0 r.rows) h ∙ sym (places_last (map reference (take k refs)) r) ∙ ap (λ (l : List Reference). places_of l) (sym (map_more reference refs k o lt))

-- a cell's references as the plain layout has them
plain_places : (d : Linked) (cell : ℕ) → places_of (map reference (places_at (cell_at d cell))) ≡ laws.places_of (plain d) cell
plain_places d cell = at d.cells cell
  where
    at : (cells : List CellPart) (k : ℕ) → places_of (map reference (places_at (slice_get cells k))) ≡ (get_or (map plain_cell cells) k no_cell).places
    at [] k = refl
    at (c ∷ cells) zero = refl
    at (c ∷ cells) (suc k) = at cells k

close_sum : (a b c z : ℤ) → IsWithin (2 ^ 36) a → IsWithin (2 ^ 37) b → IsWithin (2 ^ 37) c → z ≡ (a +ℤ b) +ℤ c → IsWithin (2 ^ 39) z
close_sum a b c z h g f e = let h1 = h.low in let h2 = h.high in let g1 = g.low in let g2 = g.high in let f1 = f.low in let f2 = f.high in record { low = omega (arith, ints); high = omega (arith, ints) }

close_motion : (p : Place) (row column : ℕ) → IsCloseArray p → row < p.rows → column < p.columns → IsClose (motion_at p row column)
close_motion p row column near a b = record {
  dx = close_sum p.motion.dx (pos column *ℤ p.column_step.x) (pos row *ℤ p.row_step.x) (shift_x p row column) near.dx (near.column_x column b) (near.row_x row a) refl;
  dy = close_sum p.motion.dy (pos column *ℤ p.column_step.y) (pos row *ℤ p.row_step.y) (shift_y p row column) near.dy (near.column_y column b) (near.row_y row a) refl;
}

are_close : (es : List Element) → ((k : ℕ) (p : flat.Place) → slice_get (map place_of es) k ≡ Some p → IsClose p.motion) → AreClose es
are_close [] f = tt
are_close (e ∷ es) f = (f 0 (place_of e) refl, are_close es (λ k p h. f (suc k) p h))

pub close_elements : (d : Linked) (cell : ℕ) (es : List Element) → IsSound d → map place_of es ≡ laws.places_of (plain d) cell → AreClose es
close_elements d cell es sound all = are_close es (λ k p h.
    let there : slice_get (laws.places_of (plain d) cell) k ≡ Some p = subst (λ (l : List flat.Place). slice_get l k ≡ Some p) all h in
    let s = step_of d cell k p (placed_at (plain d) cell k p there) in
    let close = close_motion s.from s.row s.column (close_array d cell s.index s.from sound s.step.there) s.step.row_in s.step.column_in in
    subst (λ (q : flat.Place). IsClose q.motion) (sym s.is) close)

pub elements_all : (d : Linked) (cell k : ℕ) (refs : List Place) (es : List Element) → IsSound d → refs ≡ places_at (cell_at d cell) → k ≡ length refs → map place_of es ≡ places_of (map reference (take k refs)) → length es < 4294967296 → AreElements d cell es
elements_all d cell k refs es sound same e h few =
    let all : map place_of es ≡ laws.places_of (plain d) cell = h ∙ ap (λ (l : List Place). places_of (map reference l)) (ap (λ i. take i refs) e ∙ take-length refs ∙ same) ∙ plain_places d cell in
    record { all = all; close = close_elements d cell es sound all; few = few }

abbrev pub no_place : Place
no_place = record { cell = 0; motion = record { turn = R0; dx = pos 0; dy = pos 0 }; columns = 0; rows = 0; column_step = record { x = pos 0; y = pos 0 }; row_step = record { x = pos 0; y = pos 0 } }

pub place_there : (d : Linked) (cell k : ℕ) (refs : List Place) → refs ≡ places_at (cell_at d cell) → k < length refs → slice_get (places_at (cell_at d cell)) k ≡ Some (get_or refs k no_place)
place_there d cell k refs e lt = subst (λ (l : List Place). slice_get l k ≡ Some (get_or refs k no_place)) e (slice_get-get_or refs k no_place lt)

-- cells past the last have none
pub no_elements : (d : Linked) (cell : ℕ) → length d.cells ≤ cell → AreElements d cell []
no_elements d cell le = record { all = sym (past d.cells cell le); close = tt; few = (let z : 0 < 4294967296 = omega arith in z) }
  where
    past : (cells : List CellPart) (k : ℕ) → length cells ≤ k → (get_or (map plain_cell cells) k no_cell).places ≡ []
    past [] k h = refl
    past (c ∷ cells) zero h = absurd (omega arith)
    past (c ∷ cells) (suc k) h = past cells k (omega arith)
