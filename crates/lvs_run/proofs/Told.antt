-- The bad gates that are told are of cells of the design.
use Rattle.std.proofs.Common.{◌≡◌, ℕ, ◌<◌, List, [], ◌∷◌, length, Option, sym, subst}
use Rattle.std.proofs.lemmas.List.Elements.{All-append, All-cons, All-map, All-nil, All-from_get_or, All-from_recursion, recursion_from_All}
use Rattle.std.specs.List.{All}
use Rattle.flat_layout.specs.GateTables.{BadGate, GateEntry, GateSquare, Verdict, Good, Bad, all_bad_gates, bad_gates, with_bad}
use Rattle.cell_graph.specs.Linked.{Linked, IsSound}
use Rattle.deep_flow.specs.Bad.{told_bad, told_gates}
use Rattle.deep_tables.specs.Gates.{gates_of}
use Rattle.deep_tables.specs.declared.gates.BadGate.{BadGate as Told}
use Rattle.deep_tables.specs.declared.gates.CellGates.{CellGates}
use Rattle.rule_text.specs.Rules.{Rules}

at_cell : (n cell : ℕ) (at : GateSquare) (v : Verdict) (rest : List BadGate) → cell < n → All (λ b. b.cell < n) rest → All (λ b. b.cell < n) (with_bad cell at v rest)
at_cell n cell at (Good row) rest h more = more
at_cell n cell at (Bad cause) rest h more = All-cons (λ (b : BadGate). b.cell < n) (record { cell = cell; at = at; cause = cause }) rest h more

of_cell : (n cell : ℕ) (xs : List GateEntry) → cell < n → All (λ b. b.cell < n) (bad_gates cell xs)
of_cell n cell [] h = All-nil (λ (b : BadGate). b.cell < n)
of_cell n cell (x ∷ xs) h = at_cell n cell x.at x.verdict (bad_gates cell xs) h (of_cell n cell xs h)

of_cells : (n : ℕ) (gates : ℕ → List GateEntry) (cells : List ℕ) → All (λ c. c < n) cells → All (λ b. b.cell < n) (all_bad_gates gates cells)
of_cells n gates [] h = All-nil (λ (b : BadGate). b.cell < n)
of_cells n gates (c ∷ cs) h =
    let both = recursion_from_All (λ (k : ℕ). k < n) (c ∷ cs) h in
    All-append (λ (b : BadGate). b.cell < n) (bad_gates c (gates c)) (all_bad_gates gates cs) (of_cell n c (gates c) both.0)
    (of_cells n gates cs (All-from_recursion (λ (k : ℕ). k < n) cs both.1))

pub told_inside : (d : Linked) (r : Rules) (gates : List (Option CellGates)) (bad : List Told) → IsSound d → bad ≡ told_gates r gates d.order → All (λ x. x.cell < length d.cells) bad
told_inside d r gates bad sound e =
    let order = sound.order in
    let cells = All-from_get_or (λ (c : ℕ). c < length d.cells) d.order 0 (λ i lt. order.inside i lt) in
    subst (λ (bs : List Told). All (λ x. x.cell < length d.cells) bs) (sym e)
    (All-map (λ (x : Told). x.cell < length d.cells) (told_bad r) (all_bad_gates (gates_of gates) d.order) (of_cells (length d.cells) (gates_of gates) d.order cells))
