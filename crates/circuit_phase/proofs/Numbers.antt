-- The numbers and names of the cells with circuits.
use Rattle.std.proofs.Common.{◌≡◌, inl, inr, ℕ, ◌+◌, ◌<◌, List, [], ◌∷◌, ◌++◌, Option, Some, map, take, slice_get, get_or, length, sym, ◌∙◌, ap, subst, arith}
use Rattle.base_laws.proofs.Items.{map_to, item_at}
use Rattle.std.proofs.lemmas.List.{length-map, map_push, take_more}
use Rattle.std.proofs.lemmas.Option.{slice_get-get_or, slice_get_within, get_or_from_slice_get}
use Rattle.std.specs.Borrow.{Bor}
use Rattle.cell_graph.specs.Linked.{IsSound, Linked, cell_at, height_at, plain, plain_cell}
use Rattle.cell_graph.specs.declared.cells.CellPart.{CellPart}
use Rattle.deep_tables.specs.Positions.{AreApartBelow, ArePositions}
use Rattle.flat_layout.specs.Circuits.{AreCircuitCells, cell_circuit_names, cell_name}
use Rattle.flat_layout.specs.GateTables.{GateEntry}
use Rattle.flat_layout.specs.Layout.{Cell, Design, IsReached}
use Rattle.flat_layout.specs.Names.{circuit_ending, circuit_needs}
use Rattle.flat_layout.specs.Nets.{no_cell}
use Rattle.flat_layout.specs.Order.{IsCellBefore}
use Rattle.net_names.specs.Folding.{folded_bytes}
use Rattle.plain_netlist.proofs.Listing.{rising_apart}
use Rattle.plain_netlist.proofs.Members.{listed, position}
use Rattle.plain_netlist.specs.Lists.{IsListed}
use Rattle.circuit_phase.specs.Names.{folded_names}
use Rattle.circuit_phase.specs.Placed.{IsNumberOf}
use Rattle.circuit_phase.proofs.Naming.{apart_long, by_places}

not_before : (level : ℕ → ℕ) (a : ℕ) → IsCellBefore level a a → ⊥
not_before level a (inl h) = omega (arith, h)
not_before level a (inr h) = let lt = h.1 in omega (arith, lt)

pub within : (d : Linked) (cell : ℕ) → IsSound d → IsReached (plain d) cell → cell < length d.cells
within d cell sound reached = let at = sound.order.all cell reached in subst (λ c. c < length d.cells) at.2 (sound.order.inside at.0 at.1)

pub cells_within : (d : Linked) (of : ℕ → List GateEntry) (cells : List ℕ) → IsSound d → AreCircuitCells (plain d) (height_at d) of cells → (i x : ℕ) → slice_get cells i ≡ Some x → x < length d.cells
cells_within d of cells sound are i x at = within d x sound ((are.each x).0 (listed cells i x at)).0

pub cells_apart : (d : Linked) (of : ℕ → List GateEntry) (cells : List ℕ) → IsSound d → AreCircuitCells (plain d) (height_at d) of cells → AreApartBelow (length d.cells) cells
cells_apart d of cells sound are = by_places (length d.cells) cells (rising_apart (IsCellBefore (height_at d)) cells (not_before (height_at d)) are.rising) (cells_within d of cells sound are)

-- a cell's number

pub number_there : (cells : List ℕ) (n cell : ℕ) → n < length cells → get_or cells n 0 ≡ cell → slice_get cells n ≡ Some cell
number_there cells n cell lt e = slice_get-get_or cells n 0 lt ∙ ap (λ x. Some x) e

pub number_none : (cells numbers : List ℕ) (cell n : ℕ) → ArePositions cells (length cells) numbers → n ≡ get_or numbers cell 0 → (n < length cells → get_or cells n 0 ≡ cell → ⊥) → IsListed cell cells → ⊥
number_none cells numbers cell n are is not h =
    let r = position cells cell h in
    let lt = slice_get_within cells r.0 cell r.1 in
    let at = get_or_from_slice_get cells r.0 cell 0 r.1 in
    let e : n ≡ r.0 = is ∙ ap (λ c. get_or numbers c 0) (sym at) ∙ are r.0 lt in
    not (omega (arith, lt, e)) (ap (λ k. get_or cells k 0) e ∙ at)

-- names

pub name_of : (d : Linked) (cell : ℕ) (name : List ℕ) → cell < length d.cells → ((c : CellPart) → cell_at d cell ≡ Some c → name ≡ c.name) → name ≡ cell_name (plain d) cell
name_of d cell name lt is =
    let c = item_at d.cells cell lt in
    let there : get_or (plain d).cells cell no_cell ≡ plain_cell c.0 = get_or_from_slice_get (plain d).cells cell (plain_cell c.0) no_cell (map_to plain_cell d.cells cell c.0 c.1) in
    is c.0 c.1 ∙ sym (ap (λ (e : Cell). e.name) there)

abbrev pub name_at : Linked → ℕ → List ℕ
name_at d cell = folded_bytes (cell_name (plain d) cell)

pub one_name : (d : Linked) (cells : List ℕ) (names new : List (Bor (List ℕ))) (n cell : ℕ) (name : Bor (List ℕ)) → n < length cells → cell ≡ get_or cells n 0 → name.now ≡ cell_name (plain d) cell → new ≡ names ++ name ∷ []
    → folded_names names ≡ map (name_at d) (take n cells) → folded_names new ≡ map (name_at d) (take (n + 1) cells)
one_name d cells names new n cell name lt is named added h =
    ap folded_names added ∙ map_push (λ (b : Bor (List ℕ)). folded_bytes b.now) names name
    ∙ ap (λ l. l ++ folded_bytes name.now ∷ []) h ∙ ap (λ s. map (name_at d) (take n cells) ++ folded_bytes s ∷ []) named
    ∙ sym (map_push (name_at d) (take n cells) cell)
    ∙ sym (ap (map (name_at d)) (take_more cells n 0 lt ∙ ap (λ x. take n cells ++ x ∷ []) (sym is)))

pub circuit_names_long : (d : Design) (cells : List ℕ) → length (cell_circuit_names d cells) ≡ length cells
circuit_names_long d cells = apart_long circuit_needs circuit_ending [] 1 _ ∙ length-map cells (λ cell. folded_bytes (cell_name d cell))

pub name_in : (d : Design) (cells l : List ℕ) (names : List (List ℕ)) (cell : ℕ) (o : Option ℕ) → l ≡ cells → names ≡ cell_circuit_names d cells → IsNumberOf l cell o → (n : ℕ) → o ≡ Some n → n < length names
name_in d cells l names cell o is named h n e =
    let at : slice_get l n ≡ Some cell = subst (λ (x : Option ℕ). IsNumberOf l cell x) e h in
    let lt = slice_get_within l n cell at in
    let long = ap (λ (x : List ℕ). length x) is in
    let size = ap (λ (x : List (List ℕ)). length x) named in
    let all = circuit_names_long d cells in
    omega (arith, lt, long, size, all)
