-- What a phase of pins is made from, and what it reads, is known.
use Rattle.std.proofs.Common.{◌≡◌, ◌∙◌, ℕ, ◌<◌, ◌-◌, inl, inr, List, [], Option, Some, None, get_or, length, slice_get, slice_index, refl, sym, ap, subst, arith}
use Rattle.std.specs.Global.{Vec}
use Rattle.std.proofs.lemmas.List.{get_or-map, length-map}
use Rattle.std.proofs.lemmas.Option.{slice_get_cases}
use Rattle.cell_graph.proofs.Bridge.{step_of}
use Rattle.cell_graph.specs.Linked.{IsSound, Linked, cell_at, plain}
use Rattle.cell_graph.specs.declared.cells.CellPart.{CellPart}
use Rattle.cell_graph.specs.declared.cells.RawText.{RawText}
use Rattle.deep_tables.proofs.Finding.{some_at}
use Rattle.deep_tables.proofs.Together.{right_gates}
use Rattle.deep_tables.specs.Entries.{downward_cell, entry}
use Rattle.deep_tables.specs.Gates.{AreCellGates, AreGates, AreRightGates, gates_of}
use Rattle.deep_tables.specs.Nets.{AreCellNets, AreNets, AreRightNets, nets_in}
use Rattle.deep_tables.specs.declared.gates.CellGates.{CellGates}
use Rattle.deep_tables.specs.declared.nets.CellNets.{CellNets}
use Rattle.flat_laws.proofs.Items.{items_sound}
use Rattle.flat_laws.proofs.Paths.{same_place}
use Rattle.flat_layout.specs.GateTables.{GateEntry}
use Rattle.flat_layout.specs.Layout.{IsReached, Place}
use Rattle.flat_layout.specs.Nets.{Child, Tables}
use Rattle.gate_phase.proofs.Terminal.{nets_under}
use Rattle.geo_base.specs.declared.shapes.Rect.{Rect}
use Rattle.job_graph.specs.Graph.{Waits}
use Rattle.net_marks.proofs.Grounding.{terminals}
use Rattle.net_marks.proofs.Listed.{gate_of}
use Rattle.net_phase.proofs.Righting.{tables_by}
use Rattle.rule_layers.specs.Meaning.{device_rules, wiring_of}
use Rattle.rule_text.specs.Rules.{Rules}
use Rattle.rule_text.specs.Sound as rules
use Rattle.zone_phase.proofs.Entries.{job_reached}
use Rattle.zone_phase.specs.Graph.{AreParentJobs}
use Rattle.pin_phase.specs.Links.{AreKnownGates, AreKnownNets, AreLinks, lists_of}
use Rattle.pin_phase.specs.Tagged.{AreTextsOf}
use Rattle.pin_phase.specs.declared.links.Link.{Link}
use Rattle.pin_phase.proofs.Naming.{texts_of}
use Rattle.pin_phase.proofs.Working.{IsKnown, link_at}

pub known_all : (d : Linked) (r : Rules) (all : List (List (List Rect))) (table known : List (Option CellNets)) → IsSound d → rules.IsSound r → AreNets (plain d) r table
    → ((cell : ℕ) → IsReached (plain d) cell → get_or known cell None ≡ entry table cell) → AreRightNets (plain d) (wiring_of r) (tables_by all known)
    → AreKnownNets (plain d) (wiring_of r) (tables_by all known) table
known_all d r all table known sound ruled nets same right = record {
  some = λ cell reached. some_at (AreCellNets (plain d) r cell) (entry table cell) (nets cell reached);
  same = λ cell reached. ap nets_in (sym (same cell reached));
  right = λ cell reached. nets_under d r (tables_by all known) sound ruled right cell reached cell ([], refl);
}

pub gates_all : (d : Linked) (r : Rules) (all : List (List (List Rect))) (known : List (Option CellNets)) (gates : List (Option CellGates)) → IsSound d → rules.IsSound r → AreGates (plain d) r gates
    → AreRightNets (plain d) (wiring_of r) (tables_by all known) → AreKnownGates (plain d) (tables_by all known) gates
gates_all d r all known gates sound ruled are right = record {
  some = λ cell reached. some_at (AreCellGates (plain d) r cell) (entry gates cell) (are cell reached);
  terminals = λ cell x reached h.
      terminals (plain d) (wiring_of r) (tables_by all known) (device_rules r) (gates_of gates) cell x (nets_under d r (tables_by all known) sound ruled right cell reached cell ([], refl))
      (right_gates (plain d) r (tables_by all known) gates right are cell reached) (gate_of x (gates_of gates cell) h);
}

-- so a job knows all that it reads
pub known : (d : Linked) (r : Rules) (t : Tables) (gates : ℕ → List GateEntry) → IsSound d → rules.IsSound r → AreRightNets (plain d) (wiring_of r) t → AreRightGates (plain d) (wiring_of r) t (device_rules r) gates → IsKnown d r t gates
known d r t gates sound ruled nets right = record { sound = sound; nets = nets; under = λ cell reached. nets_under d r t sound ruled nets cell reached; right = right }

-- the texts of a design's cell
pub cell_texts : (d : Linked) (cell : ℕ) (texts : List RawText) → cell < length d.cells → ((c : CellPart) → cell_at d cell ≡ Some c → texts ≡ c.texts.items) → AreTextsOf (plain d) cell texts
cell_texts d cell texts lt is = elim (slice_get_cases d.cells cell).1 [
  | inl h ↦ texts_of d cell h.0 texts h.2 (is h.0 h.2)
  | inr h ↦ absurd (let past = h.0 in let z : ⊥ = omega (arith, past, lt) in z)
]

-- the list of the cell of a job
pub links_here : (d : Linked) (vs : List (Vec Link)) (order : List ℕ) (job : ℕ) (v : Vec Link) (links : List Link) → IsSound d → length (lists_of vs) ≡ length d.cells → order ≡ d.order → job < length d.order
    → v ≡ get_or vs (slice_index order (length order - 1 - job)) v → links ≡ v.items → links ≡ get_or (lists_of vs) (downward_cell d job) []
links_here d vs order job v links sound count same lt at is =
    let cell = ap (λ (o : List ℕ). slice_index o (length o - 1 - job)) same in
    let inside = sound.order.inside (length d.order - 1 - job) (omega (arith, lt)) in
    let long = length-map vs (λ (x : Vec Link). x.items) in
    let here : v ≡ get_or vs (downward_cell d job) v = at ∙ ap (λ k. get_or vs k v) cell in
    is ∙ sym (get_or-map (λ (x : Vec Link). x.items) vs (downward_cell d job) v [] (omega (arith, inside, count, long)) ∙ ap (λ (x : Vec Link). x.items) (sym here))

-- the net of a link is one of the cell's
pub net_in : (d : Linked) (r : Rules) (t : Tables) (gates : ℕ → List GateEntry) (lists : List (List Link)) (cell : ℕ) (links : List Link) → IsKnown d r t gates → AreLinks d t gates lists → links ≡ get_or lists cell []
    → (i : ℕ) (l : Link) → slice_get links i ≡ Some l → l.net < (t.nets cell).count
net_in d r t gates lists cell links k are of i l at =
    let is = link_at d t gates lists cell links are of i l at in
    let parent = downward_cell d l.job in
    let there = job_reached d l.job k.sound is.job_in in
    let item = items_sound (plain d) (wiring_of r) t parent (t.nets parent) (k.under parent there parent ([], refl)) is.is_of.0 (Child is.number l.net) is.is_of.1.listed in
    let same : item.0 ≡ is.place = same_place (plain d) parent is.number item.0 is.place item.1 is.placed in
    subst (λ c. l.net < (t.nets c).count) (ap (λ (p : Place). p.cell) same ∙ is.here) item.2

-- what holds of the jobs that a job waits for holds of those of its cell's links
pub waited : (d : Linked) (t : Tables) (gates : ℕ → List GateEntry) (lists : List (List Link)) (graph : List (List ℕ)) (job : ℕ) (links : List Link) (P : ℕ → Type 0) → AreLinks d t gates lists → links ≡ get_or lists (downward_cell d job) []
    → AreParentJobs d graph → job < length d.order → ((i : ℕ) → Waits graph job i → P i) → (i : ℕ) (l : Link) → slice_get links i ≡ Some l → P l.job
waited d t gates lists graph job links P are of jobs lt f i l at =
    let is = link_at d t gates lists (downward_cell d job) links are of i l at in
    let s = step_of d (downward_cell d l.job) is.number is.place is.placed in
    f l.job ((jobs.waits job l.job lt).1 (is.job_in, (s.index, s.from, s.step.there, sym (ap (λ (p : Place). p.cell) s.is) ∙ is.here)))
