-- Right layers and right nets below a cell are tables that are right there.
use Rattle.std.proofs.Common.{◌≡◌, inl, inr, ℕ, ◌<◌, ◌≤◌, List, [], ◌∷◌, ◌++◌, Option, Some, None, IsSomeAnd, slice_get, get_or, refl, sym, ◌∙◌, ap, subst, length, slice_index}
use Rattle.cell_graph.proofs.Bridge.{heights, hulls}
use Rattle.cell_graph.proofs.Growing.{wider_grown, within_grown}
use Rattle.cell_graph.specs.Grown.{IsInGrown}
use Rattle.cell_graph.specs.Linked.{HullHas, IsSound, Linked, cell_at, height_at, hull_of, plain}
use Rattle.deep_tables.proofs.Reading.{some_and}
use Rattle.deep_tables.specs.Nets.{AreCellNets, nets_in, plain_nets}
use Rattle.deep_tables.specs.declared.nets.CellNets.{CellNets}
use Rattle.deep_tables.proofs.Agreeing.{nets_over_any}
use Rattle.flat_laws.proofs.Cover.{reached_below}
use Rattle.flat_laws.proofs.Items.{together as nets_together}
use Rattle.flat_laws.proofs.Moves.{within_back, within_none}
use Rattle.flat_laws.proofs.Names.{near_input}
use Rattle.flat_layout.specs.Layers.{Binary, Empty, Input, Sized, InFlat, IsLocal, Formula, reach}
use Rattle.flat_layout.specs.Layout.{Design, IsPlaced, IsReached, Leads, Place}
use Rattle.flat_layout.specs.Nets.{AreListed, AreNets, AreRightBelow, IsNetsOf, Tables}
use Rattle.flat_layout.specs.Plane.{AreWithin}
use Rattle.flat_layout.specs.Regions.{formula}
use Rattle.geo_base.specs.declared.shapes.Rect.{Rect}
use Rattle.geo_base.specs.declared.shapes.Square.{Square}
use Rattle.net_walk.proofs.Insides.{rect_of}
use Rattle.rule_layers.specs.Meaning.{wiring_of}
use Rattle.rule_text.specs.Rules.{Rules}
use Rattle.table_laws.proofs.Tabled.{leads_both, reached_under}
use Rattle.table_laws.proofs.Tabled as tabled
use Rattle.rule_text.specs.Seen.{rules_seen}
use Rattle.rule_text.specs.declared.rules.RuleSet.{RuleSet}
use Rattle.net_phase.proofs.Holding.{to_bound}
use Rattle.net_phase.specs.Indexes.{IsNetReach, bound_of}
use Rattle.net_phase.specs.Below.{AreHeldOwn, BelowSeen, tables_seen, wiring_seen}
use Rattle.job_graph.specs.Graph.{inputs_of}
use Rattle.net_phase.specs.Graph.{AreBelowJobs, IsBelow}
use Rattle.net_phase.specs.Own.{AreOwnLists, own_at}
use Rattle.net_phase.specs.Reading.{AreRead}

abbrev pub tables_by : List (List (List Rect)) → List (Option CellNets) → Tables
tables_by all nets = record { own = own_at all; nets = λ cell. nets_in (get_or nets cell None) }

pub right_below : (d : Linked) (r : Rules) (all : List (List (List Rect))) (nets : List (Option CellNets)) (cell : ℕ) → IsSound d → IsReached (plain d) cell → AreOwnLists d r all
    → ((e : ℕ) → IsBelow (plain d) cell e → IsSomeAnd (get_or nets e None) (AreCellNets (plain d) r e)) → AreRightBelow (plain d) (wiring_of r) (tables_by all nets) cell
right_below d r all nets cell sound reached own read = record {
  own = λ e c under. listed e c (reached_under (plain d) cell e reached under);
  nets = λ k e p placed under.
      nets_together (plain d) (wiring_of r) (tables_by all nets) (height_at d) (heights d sound) e
      (λ f c more. listed f c (reached_under (plain d) e f (reached_under (plain d) cell e reached (k ∷ under.0, (p, placed, under.1))) more))
      (λ f more. by_itself k f p placed (under.0 ++ more.0) (leads_both (plain d) p.cell e f under.0 more.0 under.1 more.1));
}
  where
    listed : (e c : ℕ) → IsReached (plain d) e → AreListed (plain d) (wiring_of r) (tables_by all nets) e c
    listed e c there = tabled.own_of (plain d) (wiring_of r) (tables_by all nets) e c (own.reached e c there)

    by_itself : (k f : ℕ) (p : Place) → IsPlaced (plain d) cell k p → (path : List ℕ) → Leads (plain d) p.cell path f → IsNetsOf (plain d) (wiring_of r) f (nets_in (get_or nets f None))
    by_itself k f p placed path leads =
        let v = some_and (AreCellNets (plain d) r f) (get_or nets f None) (read f (k, p, placed, (path, leads))) in
        subst (λ o. IsNetsOf (plain d) (wiring_of r) f (nets_in o)) (sym v.1) v.2

-- a name that isn't sized has its flat squares in the hull
pub flat_in_hull : (d : Linked) (name : Formula) (cell : ℕ) (q : Square) → IsSound d → reach name ≡ 0 → InFlat (plain d) cell name q → HullHas (hull_of (cell_at d cell)) q
flat_in_hull d name cell q sound none h =
    let u = near_input (plain d) cell name q h in
    subst (λ s. HullHas (hull_of (cell_at d cell)) s) (within_none u.2 q (subst (λ n. AreWithin n u.2 q) none u.3)) (hulls d sound cell u.0 u.2 u.4)

-- the flat squares of a name that reaches no further than n lie in the hull grown by n
flat_in_grown : (n : ℕ) (d : Linked) (name : Formula) (cell : ℕ) (q : Square) → IsSound d → reach name ≤ n → InFlat (plain d) cell name q → IsInGrown n (hull_of (cell_at d cell)) q
flat_in_grown n d name cell q sound le h =
    let u = near_input (plain d) cell name q h in
    wider_grown (reach name) n (hull_of (cell_at d cell)) q le (within_grown (reach name) (hull_of (cell_at d cell)) q u.2 (hulls d sound cell u.0 u.2 u.4) (within_back (reach name) u.2 q u.3))

local_flat : (d : Design) (name : Formula) (cell : ℕ) (q : Square) → IsLocal d cell name q → InFlat d cell name q
local_flat d (Input key) cell q h = record { path = []; end = cell; square = q; takes = (refl, refl); own = h }
local_flat d Empty cell q h = absurd h
local_flat d (Binary op a b) cell q h = h.0.0
local_flat d (Sized by a) cell q h = h.0.0

local_in_bound : (n : ℕ) (d : Linked) (name : Formula) (cell : ℕ) (q : Square) → IsSound d → reach name ≤ n → IsLocal (plain d) cell name q → HullHas (bound_of n d cell) q
local_in_bound n d name cell q sound le h = to_bound n (hull_of (cell_at d cell)) q (flat_in_grown n d name cell q sound le (local_flat (plain d) name cell q h))

nothing_listed : (l : List Rect) (r : ℕ) (o : Rect) → l ≡ [] → slice_get l r ≡ Some o → ⊥
nothing_listed l r o e h = let f : slice_get [] r ≡ Some o = subst (λ (m : List Rect). slice_get m r ≡ Some o) e h in cc

pub held_own : (n : ℕ) (d : Linked) (r : Rules) (all : List (List (List Rect))) → IsSound d → IsNetReach r n → AreOwnLists d r all → AreHeldOwn n d all
held_own n d r all sound near own = record {
  some = λ cell c k o h. elim (own.others cell c) [
    | inl reached ↦ let filled = (listed cell c reached).own.filled k o h in rect_of o filled.0 filled.1
    | inr none ↦ absurd (nothing_listed (own_at all cell c) k o none h)
  ];
  held = λ cell c k o q h inside. elim (own.others cell c) [
    | inl reached ↦ local_in_bound n d (formula (wiring_of r) c) cell q sound (near.all c) ((listed cell c reached).own.local k o q h inside)
    | inr none ↦ absurd (nothing_listed (own_at all cell c) k o none h)
  ];
}
  where
    listed : (cell c : ℕ) → IsReached (plain d) cell → AreListed (plain d) (wiring_of r) (tables_by all []) cell c
    listed cell c there = tabled.own_of (plain d) (wiring_of r) (tables_by all []) cell c (own.reached cell c there)

-- what a job read is all that it needs
pub read_below : (d : Linked) (r : Rules) (graph : List (List ℕ)) (job : ℕ) (nets : List (Option CellNets)) → IsSound d → AreBelowJobs d graph → job < length d.order → AreRead d r (inputs_of graph job) d.order nets
    → (e : ℕ) → IsBelow (plain d) (slice_index d.order job) e → IsSomeAnd (get_or nets e None) (AreCellNets (plain d) r e)
read_below d r graph job nets sound jobs lt read e below =
    let here = sound.order.reached job lt in
    let placed = reached_below (plain d) (slice_index d.order job) below.0 below.1 here below.2 in
    let there = sound.order.all e (reached_under (plain d) below.1.cell e placed below.3) in
    let input = there.0 in
    let under : IsBelow (plain d) (slice_index d.order job) (slice_index d.order input) = subst (λ k. IsBelow (plain d) (slice_index d.order job) k) (sym there.2) below in
    subst (λ k. IsSomeAnd (get_or nets k None) (AreCellNets (plain d) r k)) there.2 (read input ((jobs.waits job input lt).1 (there.1, under)))

-- and the cell's nets over these are right over any
pub cell_right : (d : Linked) (r : Rules) (all : List (List (List Rect))) (nets : List (Option CellNets)) (cell : ℕ) (v : CellNets) → IsSound d → AreRightBelow (plain d) (wiring_of r) (tables_by all nets) cell
    → AreNets (plain d) (wiring_of r) (tables_by all nets) cell (plain_nets v) → AreCellNets (plain d) r cell v
cell_right d r all nets cell v sound right made = nets_over_any d (wiring_of r) (tables_by all nets) cell (plain_nets v) sound right made

-- what a job sees of the cells below its own

abbrev pub seen_by : Linked → RuleSet → List (List (List Rect)) → List (Option CellNets) → BelowSeen
seen_by d r all nets = record { design = d; rules = r; own = all; nets = nets }

pub same_below : (v : BelowSeen) (d : Linked) (r : RuleSet) (all : List (List (List Rect))) (nets : List (Option CellNets)) → v.design ≡ d → v.rules ≡ r → v.own ≡ all → v.nets ≡ nets → v ≡ seen_by d r all nets
same_below v d r all nets a b c e =
    ap (λ x. seen_by x v.rules v.own v.nets) a ∙ ap (λ x. seen_by d x v.own v.nets) b ∙ ap (λ x. seen_by d r x v.nets) c ∙ ap (λ x. seen_by d r all x) e

pub below_right : (v : BelowSeen) (d : Linked) (r : RuleSet) (all : List (List (List Rect))) (nets : List (Option CellNets)) (cell : ℕ) → v ≡ seen_by d r all nets
    → AreRightBelow (plain d) (wiring_of (rules_seen r)) (tables_by all nets) cell → AreRightBelow (plain v.design) (wiring_seen v) (tables_seen v) cell
below_right v d r all nets cell same h = subst (λ (z : BelowSeen). AreRightBelow (plain z.design) (wiring_seen z) (tables_seen z) cell) (sym same) h

pub nets_seen : (v : BelowSeen) (d : Linked) (r : RuleSet) (all : List (List (List Rect))) (nets : List (Option CellNets)) (cell : ℕ) (n : CellNets) → v ≡ seen_by d r all nets
    → AreNets (plain v.design) (wiring_seen v) (tables_seen v) cell (plain_nets n) → AreNets (plain d) (wiring_of (rules_seen r)) (tables_by all nets) cell (plain_nets n)
nets_seen v d r all nets cell n same h = subst (λ (z : BelowSeen). AreNets (plain z.design) (wiring_seen z) (tables_seen z) cell (plain_nets n)) same h

-- over what a job read
pub job_right : (d : Linked) (r : RuleSet) (graph : List (List ℕ)) (all : List (List (List Rect))) (nets : List (Option CellNets)) (job : ℕ) (inputs order : List ℕ) → IsSound d → AreBelowJobs d graph → job < length d.order
    → AreOwnLists d (rules_seen r) all → inputs ≡ inputs_of graph job → order ≡ d.order → AreRead d (rules_seen r) inputs order nets → AreRightBelow (plain d) (wiring_of (rules_seen r)) (tables_by all nets) (slice_index order job)
job_right d r graph all nets job inputs order sound jobs lt own e f h =
    let read : AreRead d (rules_seen r) (inputs_of graph job) d.order nets =
    subst (λ o. AreRead d (rules_seen r) (inputs_of graph job) o nets) f (subst (λ l. AreRead d (rules_seen r) l order nets) e h) in
    subst (λ o. AreRightBelow (plain d) (wiring_of (rules_seen r)) (tables_by all nets) (slice_index o job)) (sym f)
    (right_below d (rules_seen r) all nets (slice_index d.order job) sound (sound.order.reached job lt) own (read_below d (rules_seen r) graph job nets sound jobs lt read))
