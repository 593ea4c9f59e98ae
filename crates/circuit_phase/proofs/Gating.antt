-- Cells with a good gate in or below them, along the order.
use Rattle.std.proofs.Common.{◌≡◌, ◌↔◌, inl, inr, ℕ, zero, suc, ◌+◌, ◌<◌, ◌||◌, Bool, true, false, List, [], ◌∷◌, Option, Some, None, map, slice_get, slice_set, slice_index, get_or, length, refl, sym, ◌∙◌, ap, subst, arith}
use Rattle.std.proofs.lemmas.Bool.{or_cases, or_left, or_right, false≢true}
use Rattle.std.proofs.Math.Decide.{dec_lt, ℕ_discrete}
use Rattle.std.proofs.lemmas.Option.{same_Some}
use Rattle.cell_graph.proofs.Bridge.{lower, placed_of, reference_at, step_of}
use Rattle.cell_graph.proofs.Elements.{number_of}
use Rattle.cell_graph.specs.Linked.{IsSound, Linked, cell_at, height_at, places_at, plain, reference}
use Rattle.cell_graph.specs.declared.cells.Place.{Place}
use Rattle.deep_tables.specs.Entries.{entry}
use Rattle.deep_tables.specs.Gates.{gates_in, gates_of, list_of, plain_gate, plain_state}
use Rattle.deep_tables.specs.declared.gates.CellGates.{CellGates}
use Rattle.deep_tables.specs.declared.gates.Gate.{Gate}
use Rattle.flat_laws.proofs.Cover.{reached_below}
use Rattle.flat_layout.specs.Arrays.{place_at}
use Rattle.flat_layout.specs.GateTables.{Bad, GateEntry, GateSquare, Good, GoodGate, Verdict, good_gates, with_good}
use Rattle.flat_layout.specs.Layout as flat
use Rattle.flat_layout.specs.Layout.{IsPlaced, IsReached, Leads}
use Rattle.plain_netlist.specs.Lists.{IsListed}
use Rattle.circuit_phase.specs.Gated.{IsGated, has_good, has_marked, is_good}

-- good gates of a list

one_good : (at : GateSquare) (v : Verdict) (b : Bool) (gates : List GoodGate) → (b ≡ true → (g : GoodGate) × IsListed g gates) → (is_good v || b) ≡ true → (g : GoodGate) × IsListed g (with_good at v gates)
one_good at (Good row) b gates rest h = (record { at = at; row = row }, inl refl)
one_good at (Bad cause) b gates rest h = rest h

good_of : (l : List Gate) → has_good l ≡ true → (g : GoodGate) × IsListed g (good_gates (map plain_gate l))
good_of [] h = absurd (false≢true h)
good_of (x ∷ l) h = one_good (plain_gate x).at (plain_state x.state) (has_good l) (good_gates (map plain_gate l)) (good_of l) h

good_one : (at : GateSquare) (v : Verdict) (b : Bool) (gates : List GoodGate) (g : GoodGate) → (IsListed g gates → b ≡ true) → IsListed g (with_good at v gates) → (is_good v || b) ≡ true
good_one at (Good row) b gates g rest h = refl
good_one at (Bad cause) b gates g rest h = rest h

of_good : (l : List Gate) (g : GoodGate) → IsListed g (good_gates (map plain_gate l)) → has_good l ≡ true
of_good [] g h = absurd h
of_good (x ∷ l) g h = good_one (plain_gate x).at (plain_state x.state) (has_good l) (good_gates (map plain_gate l)) g (of_good l g) h

pub gates_read : (table : List (Option CellGates)) (cell : ℕ) (l : List Gate) → list_of (entry table cell) ≡ Some l → gates_of table cell ≡ map plain_gate l
gates_read table cell l h = at (entry table cell) h
  where
    at : (o : Option CellGates) → list_of o ≡ Some l → gates_in o ≡ map plain_gate l
    at None h = let e : None ≡ Some l = h in absurd (let z : ⊥ = cc in z)
    at (Some v) h = ap (map plain_gate) (same_Some v.gates.items l h)

-- references to marked cells

marked_some : (marks : List Bool) (l : List Place) → has_marked marks l ≡ true → (i : ℕ) × (p : Place) × (slice_get l i ≡ Some p) × (get_or marks p.cell false ≡ true)
marked_some marks [] h = absurd (false≢true h)
marked_some marks (x ∷ l) h = elim (or_cases (get_or marks x.cell false) (has_marked marks l) h) [
  | inl e ↦ (0, x, refl, e)
  | inr e ↦ let r = marked_some marks l e in (suc r.0, r.1, r.2, r.3)
]

some_marked : (marks : List Bool) (l : List Place) (i : ℕ) (p : Place) → slice_get l i ≡ Some p → get_or marks p.cell false ≡ true → has_marked marks l ≡ true
some_marked marks [] i p h e = let z : ⊥ = cc in absurd z
some_marked marks (x ∷ l) zero p h e = or_left (get_or marks x.cell false) (has_marked marks l) (subst (λ (q : Place). get_or marks q.cell false ≡ true) (sym (same_Some x p h)) e)
some_marked marks (x ∷ l) (suc i) p h e = or_right (get_or marks x.cell false) (has_marked marks l) (some_marked marks l i p h e)

-- a placed cell comes earlier in the order

before : (d : Linked) (n c : ℕ) → IsSound d → n < length d.order → IsReached (plain d) c → height_at d c < height_at d (slice_index d.order n) → (j : ℕ) × (j < n) × (slice_index d.order j ≡ c)
before d n c sound lt reached less =
    let at = sound.order.all c reached in
    let same = ap (height_at d) at.2 in
    elim (dec_lt at.0 n) [
      | yes l ↦ (at.0, l, at.2)
      | no m ↦ elim (ℕ_discrete n at.0) [
        | yes e ↦ let k = ap (λ (i : ℕ). height_at d (slice_index d.order i)) e in absurd (let z : ⊥ = omega (arith, k, same, less) in z)
        | no u ↦ let up = sound.order.rising n at.0 (omega arith) at.1 in absurd (let z : ⊥ = omega (arith, up, same, less) in z)
      ]
    ]

first_element : (d : Linked) (cell i : ℕ) (p : Place) → IsSound d → slice_get (places_at (cell_at d cell)) i ≡ Some p
    → IsPlaced (plain d) cell (number_of (map reference (places_at (cell_at d cell))) i (reference p) 0 0) (place_at (reference p) 0 0)
first_element d cell i p sound there =
    let r = (reference_at d cell i p sound there).2 in
    placed_of d cell i 0 0 p (record { there = there; row_in = r.rows; column_in = r.columns })

-- after the first n cells of the order
pub record AreGatedTo (d : Linked) (of : ℕ → List GateEntry) (n : ℕ) (marks : List Bool) : Type 0 where
  pub count : length marks ≡ length d.cells
  pub marked : (j : ℕ) → j < n → (get_or marks (slice_index d.order j) false ≡ true) ↔ IsGated (plain d) of (slice_index d.order j)

-- of each placed cell it is known already
below : (d : Linked) (of : ℕ → List GateEntry) (n : ℕ) (marks : List Bool) → IsSound d → n < length d.order → AreGatedTo d of n marks → (i : ℕ) (p : Place) → slice_get (places_at (cell_at d (slice_index d.order n))) i ≡ Some p → (get_or marks p.cell false ≡ true) ↔ IsGated (plain d) of p.cell
below d of n marks sound lt h i p there =
    let cell = slice_index d.order n in
    let k = number_of (map reference (places_at (cell_at d cell))) i (reference p) 0 0 in
    let reached = reached_below (plain d) cell k (place_at (reference p) 0 0) (sound.order.reached n lt) (first_element d cell i p sound there) in
    let at = before d n p.cell sound lt reached (lower d cell i p sound there).1 in
    subst (λ (c : ℕ). (get_or marks c false ≡ true) ↔ IsGated (plain d) of c) at.2 (h.marked at.0 at.1)

by_path : (d : Linked) (of : ℕ → List GateEntry) (cell : ℕ) (marks : List Bool) (gates : List Gate) → of cell ≡ map plain_gate gates
    → ((i : ℕ) (p : Place) → slice_get (places_at (cell_at d cell)) i ≡ Some p → (get_or marks p.cell false ≡ true) ↔ IsGated (plain d) of p.cell)
    → (path : List ℕ) (e : ℕ) → Leads (plain d) cell path e → (gate : GoodGate) → IsListed gate (good_gates (of e)) → (has_good gates || has_marked marks (places_at (cell_at d cell))) ≡ true
by_path d of cell marks gates is known [] e leads gate listed =
    let here = subst (λ (l : List GateEntry). IsListed gate (good_gates l)) is (subst (λ (c : ℕ). IsListed gate (good_gates (of c))) (sym leads) listed) in
    or_left (has_good gates) (has_marked marks (places_at (cell_at d cell))) (of_good gates gate here)
by_path d of cell marks gates is known (k ∷ path) e leads gate listed =
    let s = step_of d cell k leads.0 leads.1 in
    let same : leads.0.cell ≡ s.from.cell = ap (λ (p : flat.Place). p.cell) s.is in
    let gated : IsGated (plain d) of s.from.cell = subst (λ (c : ℕ). IsGated (plain d) of c) same (e, (path, leads.2), gate, listed) in
    or_right (has_good gates) (has_marked marks (places_at (cell_at d cell)))
    (some_marked marks (places_at (cell_at d cell)) s.index s.from s.step.there ((known s.index s.from s.step.there).1 gated))

here : (d : Linked) (of : ℕ → List GateEntry) (cell : ℕ) (marks : List Bool) (gates : List Gate) → IsSound d → of cell ≡ map plain_gate gates
    → ((i : ℕ) (p : Place) → slice_get (places_at (cell_at d cell)) i ≡ Some p → (get_or marks p.cell false ≡ true) ↔ IsGated (plain d) of p.cell)
    → ((has_good gates || has_marked marks (places_at (cell_at d cell))) ≡ true) ↔ IsGated (plain d) of cell
here d of cell marks gates sound is known = (
  (λ h. elim (or_cases (has_good gates) (has_marked marks (places_at (cell_at d cell))) h) [
    | inl e ↦ let g = good_of gates e in (cell, ([], refl), g.0, subst (λ (l : List GateEntry). IsListed g.0 (good_gates l)) (sym is) g.1)
    | inr e ↦
        let m = marked_some marks (places_at (cell_at d cell)) e in
        let r = (known m.0 m.1 m.2).0 m.3 in
        let k = number_of (map reference (places_at (cell_at d cell))) m.0 (reference m.1) 0 0 in
        (r.0, (k ∷ r.1.0, (place_at (reference m.1) 0 0, first_element d cell m.0 m.1 sound m.2, r.1.1)), r.2, r.3)
  ]),
  (λ h. by_path d of cell marks gates is known h.1.0 h.0 h.1.1 h.2 h.3),
)

-- one mark more

set_here : (xs : List Bool) (k : ℕ) (v : Bool) → k < length xs → get_or (slice_set xs k v) k false ≡ v
set_here [] k v h = absurd (omega arith)
set_here (x ∷ xs) zero v h = refl
set_here (x ∷ xs) (suc k) v h = set_here xs k v (omega arith)

set_other : (xs : List Bool) (k : ℕ) (v : Bool) (j : ℕ) → (j ≡ k → ⊥) → get_or (slice_set xs k v) j false ≡ get_or xs j false
set_other [] k v j h = refl
set_other (x ∷ xs) zero v zero h = absurd (h refl)
set_other (x ∷ xs) zero v (suc j) h = refl
set_other (x ∷ xs) (suc k) v zero h = refl
set_other (x ∷ xs) (suc k) v (suc j) h = set_other xs k v j (λ e. h (ap suc e))

set_long : (xs : List Bool) (k : ℕ) (v : Bool) → length (slice_set xs k v) ≡ length xs
set_long [] k v = refl
set_long (x ∷ xs) zero v = refl
set_long (x ∷ xs) (suc k) v = ap suc (set_long xs k v)

pub one_cell : (d : Linked) (of : ℕ → List GateEntry) (n cell : ℕ) (marks : List Bool) (gates : List Gate) (marked : Bool) → IsSound d → n < length d.order → cell ≡ slice_index d.order n → of cell ≡ map plain_gate gates
    → marked ≡ (has_good gates || has_marked marks (places_at (cell_at d cell))) → AreGatedTo d of n marks → AreGatedTo d of (n + 1) (slice_set marks cell marked)
one_cell d of n cell marks gates marked sound lt at is found h =
    let inside = sound.order.inside n lt in
    let long = h.count in
    let within : cell < length marks = omega (arith, at, inside, long) in
    let known = subst (λ (c : ℕ). (i : ℕ) (p : Place) → slice_get (places_at (cell_at d c)) i ≡ Some p → (get_or marks p.cell false ≡ true) ↔ IsGated (plain d) of p.cell) (sym at) (below d of n marks sound lt h) in
    let new = here d of cell marks gates sound is known in
    record {
      count = set_long marks cell marked ∙ long;
      marked = λ j less. elim (ℕ_discrete j n) [
        | yes e ↦
            let same : slice_index d.order j ≡ cell = ap (slice_index d.order) e ∙ sym at in
            let set = set_here marks cell marked within ∙ found in
            subst (λ (c : ℕ). (get_or (slice_set marks cell marked) c false ≡ true) ↔ IsGated (plain d) of c) (sym same)
            (subst (λ (b : Bool). (b ≡ true) ↔ IsGated (plain d) of cell) (sym set) new)
        | no m ↦
            let less : j < n = omega arith in
            let apart : slice_index d.order j ≡ cell → ⊥ = λ e. m (sound.order.once j n (omega (arith, less, lt)) lt (e ∙ at)) in
            subst (λ (b : Bool). (b ≡ true) ↔ IsGated (plain d) of (slice_index d.order j)) (sym (set_other marks cell marked (slice_index d.order j) apart)) (h.marked j less)
      ];
    }

pub all_cells : (d : Linked) (of : ℕ → List GateEntry) (n : ℕ) (marks : List Bool) → IsSound d → n ≡ length d.order → AreGatedTo d of n marks → (cell : ℕ) → IsReached (plain d) cell → (get_or marks cell false ≡ true) ↔ IsGated (plain d) of cell
all_cells d of n marks sound e h cell reached =
    let at = sound.order.all cell reached in
    let lt = at.1 in
    subst (λ (c : ℕ). (get_or marks c false ≡ true) ↔ IsGated (plain d) of c) at.2 (h.marked at.0 (omega (arith, e, lt)))
