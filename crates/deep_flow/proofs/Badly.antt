-- Lists of bad gates, gate by gate and cell by cell.
use Rattle.std.proofs.Common.{◌≡◌, ◌∙◌, ◌++◌, ◌<◌, ℕ, List, [], ◌∷◌, Option, Some, ap, sym, subst, refl, length, length-append, map, option_map, slice_get, get_or, take, ◌+◌, ◌≤◌, arith}
use Rattle.std.proofs.lemmas.Grind.{flat_map-append}
use Rattle.std.proofs.lemmas.List.{append-nil, length-map, map-append, take_all, take_more}
use Rattle.std.proofs.lemmas.Option.{slice_get-map, slice_get_within}
use Rattle.std.specs.List.{flat_map}
use Rattle.cell_graph.specs.Linked.{IsSound, Linked, plain}
use Rattle.deep_tables.proofs.Together.{right_gates}
use Rattle.deep_tables.specs.Entries.{entry}
use Rattle.deep_tables.specs.Gates.{AreGates, gates_of, list_of, plain_gate, plain_state}
use Rattle.deep_tables.specs.Nets.{AreRightNets}
use Rattle.deep_tables.specs.declared.gates.BadGate.{BadGate}
use Rattle.deep_tables.specs.declared.gates.CellGates.{CellGates}
use Rattle.deep_tables.specs.declared.gates.Gate.{Gate}
use Rattle.deep_tables.specs.declared.gates.GateState.{GateState}
use Rattle.deep_tables.specs.declared.gates.GateState.TheVariants.{Good, Bad}
use Rattle.flat_layout.specs.GateTables.{GateEntry, GateSquare, all_bad_gates, bad_gates, with_bad}
use Rattle.flat_layout.specs.GateTables as flat
use Rattle.flat_layout.specs.Layout.{Design, IsReached}
use Rattle.flat_layout.specs.Nets.{Tables}
use Rattle.plain_netlist.proofs.Members.{listed}
use Rattle.rule_layers.specs.Meaning.{device_rule, device_rules, more_rule, mos_rules, wiring_of}
use Rattle.rule_text.specs.Rules.{Rules, class_in}
use Rattle.rule_text.specs.declared.rules.MosRule.{MosRule}
use Rattle.circuit_phase.proofs.Gating.{gates_read}
use Rattle.deep_flow.specs.Bad.{HaveRules, device_count, told_bad, told_gates, told_of}

-- what a cell tells
abbrev pub told_in : Rules → List (Option CellGates) → ℕ → List BadGate
told_in r gates cell = map (told_bad r) (bad_gates cell (gates_of gates cell))

told_first : (r : Rules) (cell : ℕ) (at : GateSquare) (s : GateState) (rest : List flat.BadGate)
    → map (told_bad r) (with_bad cell at (plain_state s) rest) ≡ map (told_bad r) (with_bad cell at (plain_state s) []) ++ map (told_bad r) rest
told_first r cell at (Good kind w l nets) rest = refl
told_first r cell at (Bad cause) rest = refl

pub told_list : (r : Rules) (cell : ℕ) (xs : List Gate) → flat_map (told_of r cell) xs ≡ map (told_bad r) (bad_gates cell (map plain_gate xs))
told_list r cell [] = refl
told_list r cell (x ∷ xs) =
    ap (λ l. told_of r cell x ++ l) (told_list r cell xs)
    ∙ sym (told_first r cell (plain_gate x).at x.state (bad_gates cell (map plain_gate xs)))

pub told_cells : (r : Rules) (gates : List (Option CellGates)) (cells : List ℕ) → flat_map (told_in r gates) cells ≡ told_gates r gates cells
told_cells r gates [] = refl
told_cells r gates (c ∷ cs) =
    ap (λ l. told_in r gates c ++ l) (told_cells r gates cs)
    ∙ sym (map-append (told_bad r) (bad_gates c (gates_of gates c)) (all_bad_gates (gates_of gates) cs))

-- there are as many classes as device rules
many_rules : (r : Rules) → device_count r ≡ length (device_rules r)
many_rules r =
    let rules = length-append (mos_rules r) (map (more_rule r) r.more) in
    let classes = length-append (map (λ (m : MosRule). m.class) r.devices) (map class_in r.more) in
    let a = length-map r.devices (device_rule r) in let b = length-map r.more (more_rule r) in
    let e = length-map r.devices (λ (m : MosRule). m.class) in let f = length-map r.more class_in in
    omega (arith, rules, classes, a, b, e, f)

-- over right nets each gate of a cell's list has a rule of the rule set
-- the cells of the order that was read are reached
pub reached_in : (d : Linked) (order : List ℕ) (n : ℕ) → IsSound d → order ≡ d.order → n < length order → IsReached (plain d) (get_or order n 0)
reached_in d order n sound same lt = subst (λ c. IsReached (plain d) c) (sym (ap (λ (o : List ℕ). get_or o n 0) same)) (sound.order.reached n (subst (λ (o : List ℕ). n < length o) same lt))

pub have_rules : (d : Design) (r : Rules) (t : Tables) (table : List (Option CellGates)) (cell : ℕ) (l : List Gate) → AreRightNets d (wiring_of r) t → AreGates d r table → IsReached d cell → list_of (entry table cell) ≡ Some l → HaveRules (device_count r) l
have_rules d r t table cell l nets right reached read i x there =
    let all = subst (λ (v : List GateEntry). flat.AreGates d (wiring_of r) t (device_rules r) cell v) (gates_read table cell l read) (right_gates d r t table nets right cell reached) in
    let at : slice_get (map plain_gate l) i ≡ Some (plain_gate x) = slice_get-map plain_gate l i ∙ ap (option_map plain_gate) there in
    let one = all.each (plain_gate x) (listed (map plain_gate l) i (plain_gate x) at) in
    let lt = slice_get_within (device_rules r) x.device one.rule one.is in
    omega (arith, lt, many_rules r)

-- one cell more
pub told_more : (r : Rules) (gates : List (Option CellGates)) (cells : List ℕ) (n cell : ℕ) (l : List Gate) (old new : List BadGate) → n < length cells → cell ≡ get_or cells n 0 → list_of (entry gates cell) ≡ Some l
    → old ≡ flat_map (told_in r gates) (take n cells) → new ≡ old ++ flat_map (told_of r cell) l → new ≡ flat_map (told_in r gates) (take (n + 1) cells)
told_more r gates cells n cell l old new lt at read before pushed =
    let here : flat_map (told_of r cell) l ≡ told_in r gates cell = told_list r cell l ∙ ap (λ (v : List GateEntry). map (told_bad r) (bad_gates cell v)) (sym (gates_read gates cell l read)) in
    let alone : flat_map (told_in r gates) (cell ∷ []) ≡ told_in r gates cell = append-nil (told_in r gates cell) in
    let both : old ++ flat_map (told_of r cell) l ≡ flat_map (told_in r gates) (take n cells) ++ told_in r gates cell = ap (λ (v : List BadGate). v ++ flat_map (told_of r cell) l) before ∙ ap (λ (v : List BadGate). flat_map (told_in r gates) (take n cells) ++ v) here in
    let joined : flat_map (told_in r gates) (take n cells ++ cell ∷ []) ≡ flat_map (told_in r gates) (take n cells) ++ told_in r gates cell = flat_map-append (told_in r gates) (take n cells) (cell ∷ []) ∙ ap (λ (v : List BadGate). flat_map (told_in r gates) (take n cells) ++ v) alone in
    let taken : take (n + 1) cells ≡ take n cells ++ cell ∷ [] = take_more cells n 0 lt ∙ ap (λ (x : ℕ). take n cells ++ x ∷ []) (sym at) in
    pushed ∙ both ∙ sym joined ∙ ap (flat_map (told_in r gates)) (sym taken)

pub told_all : (r : Rules) (gates : List (Option CellGates)) (cells : List ℕ) (n : ℕ) → length cells ≤ n → flat_map (told_in r gates) (take n cells) ≡ told_gates r gates cells
told_all r gates cells n le = ap (flat_map (told_in r gates)) (take_all n cells le) ∙ told_cells r gates cells
