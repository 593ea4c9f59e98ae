-- The device of a good gate: its rule's, with the terminals of its kind, each on the net of the gate's.
use Rattle.std.proofs.Common.{◌≡◌, ℕ, List, [], ◌∷◌, Some, slice_get, length, refl, sym, ◌∙◌, ap, subst}
use Rattle.flat_layout.specs.Circuits.{IsDeviceOfGate}
use Rattle.flat_layout.specs.Gates.{Rule, sizes_of}
use Rattle.flat_layout.specs.GateTables.{GateRow, GoodGate, counted_device, device_by, gate_nets}
use Rattle.plain_netlist.specs.Devices.{Ends, NoEnds, Both, Row, Terminal, First, Second, Other, AreEndsJoined, IsAt, IsFormed, IsRowOver, have_ends, terminal_nets}
use Rattle.plain_netlist.specs.Flats.{Reversed}
use Rattle.plain_netlist.specs.Kinds.{has_ends, other_count}
use Rattle.plain_netlist.specs.Lists.{IsListed}
use Rattle.plain_netlist.specs.Netlist.{DeviceRow}
use Rattle.plain_netlist.proofs.Rows.{ends_reversed, joined_length, joined_reversed, over_alike, over_each, rows_terminal}
use Rattle.flat_laws.specs.NetlistLaws.{DeviceOfRuleLaw}
use Rattle.flat_laws.specs.Planned.{ArePlanned}
use Rattle.flat_laws.proofs.Planned.{planned}
use Rattle.flat_laws.proofs.Rows.{rows}

-- ---- devices over others' nets

pub over_reversed : {N M : Type 0} (net : N → M → Type 0) (r : Row N) (s : Row M) → IsRowOver net r s → IsRowOver (Reversed net) s r
over_reversed net r s o = record { kind = sym o.kind; class = sym o.class; sizes = sym o.sizes; ends = ends_reversed net r.ends s.ends o.ends; others = joined_reversed net r.others s.others o.others }

have_joined : {N M : Type 0} (net : N → M → Type 0) (d : Ends N) (e : Ends M) → AreEndsJoined net d e → have_ends d ≡ have_ends e
have_joined net NoEnds NoEnds h = refl
have_joined net (Both a b) (Both c d) h = refl
have_joined net NoEnds (Both c d) h = absurd h
have_joined net (Both a b) NoEnds h = absurd h

-- a device over another's nets is formed with it
pub formed_over : {N M : Type 0} (net : N → M → Type 0) (r : Row N) (s : Row M) → IsRowOver net r s → IsFormed r → IsFormed s
formed_over net r s o f = record {
  ends = sym (have_joined net r.ends s.ends o.ends) ∙ f.ends ∙ ap has_ends o.kind;
  others = sym (joined_length net r.others s.others o.others) ∙ f.others ∙ ap other_count o.kind;
  sizes = ap (λ (l : List ℕ). length l) (sym o.sizes) ∙ f.sizes;
}

-- ---- devices of gates

-- a gate's terminals are those of its device by any rule, whatever its sizes
same_at : (u v : Rule) (k l : List ℕ) (row : GateRow) (t : Terminal) (x : ℕ) → IsAt t (device_by u k row) x → IsAt t (device_by v l row) x
same_at u v k l row First x h = h
same_at u v k l row Second x h = h
same_at u v k l row (Other place) x h = h

abbrev pub OnNets : List ℕ → ℕ → ℕ → Type 0
OnNets nets x a = slice_get nets a ≡ Some x

pub record IsRuleDevice (u : Rule) (unit : ℕ) (nets : List ℕ) (gate : GoodGate) (row : DeviceRow) : Type 0 where
  pub kind : row.kind ≡ u.kind
  pub class : row.class ≡ u.class
  pub sizes : row.sizes ≡ sizes_of u unit gate.row.twice_w gate.row.twice_l
  pub formed : IsFormed row
  pub back : (t : Terminal) (a : ℕ) → IsAt t row a → (x : ℕ) × IsAt t (counted_device u gate.row) x × (slice_get nets a ≡ Some x)

pub rule_device : (rules : List Rule) (unit : ℕ) (nets : List ℕ) (gate : GoodGate) (row : DeviceRow) → IsDeviceOfGate rules unit nets gate row → (u : Rule) → slice_get rules gate.at.rule ≡ Some u → gate.row.kind ≡ u.kind → IsFormed (counted_device u gate.row)
    → IsRuleDevice u unit nets gate row
rule_device rules unit nets gate row h u is of f =
    let same : h.rule ≡ u = (let a = h.is in cc) in
    let own : Row ℕ = device_by u (sizes_of u unit gate.row.twice_w gate.row.twice_l) gate.row in
    let over : IsRowOver (OnNets nets) own row = subst (λ (v : Rule). IsRowOver (OnNets nets) (device_by v (sizes_of v unit gate.row.twice_w gate.row.twice_l) gate.row) row) same h.over in
    let formed : IsFormed own = record { ends = f.ends; others = f.others; sizes = refl } in
    record {
      kind = sym over.kind ∙ of;
      class = sym over.class;
      sizes = sym over.sizes;
      formed = formed_over (OnNets nets) own row over formed;
      back = λ t a at.
          let r = over_each (Reversed (OnNets nets)) row own (over_reversed (OnNets nets) own row over) t a at in
          (r.0, same_at u u (sizes_of u unit gate.row.twice_w gate.row.twice_l) (gate.row.twice_l ∷ gate.row.twice_w ∷ []) gate.row t r.0 r.1, r.2);
    }

-- the gate's net of a device's net
pub gate_net : (rules : List Rule) (unit : ℕ) (nets : List ℕ) (gate : GoodGate) (row : DeviceRow) → IsDeviceOfGate rules unit nets gate row → (a : ℕ) → IsListed a (terminal_nets row)
    → (x : ℕ) × IsListed x (gate_nets gate.row) × (slice_get nets a ≡ Some x)
gate_net rules unit nets gate row h a on =
    let own : Row ℕ = device_by h.rule (sizes_of h.rule unit gate.row.twice_w gate.row.twice_l) gate.row in
    rows_terminal (Reversed (OnNets nets)) row own (over_alike (Reversed (OnNets nets)) row own (over_reversed (OnNets nets) own row h.over)) a on

-- the device's net of a gate's net
pub device_net : (rules : List Rule) (unit : ℕ) (nets : List ℕ) (gate : GoodGate) (row : DeviceRow) → IsDeviceOfGate rules unit nets gate row → (x : ℕ) → IsListed x (gate_nets gate.row)
    → (a : ℕ) × IsListed a (terminal_nets row) × (slice_get nets a ≡ Some x)
device_net rules unit nets gate row h x on =
    let own : Row ℕ = device_by h.rule (sizes_of h.rule unit gate.row.twice_w gate.row.twice_l) gate.row in
    rows_terminal (OnNets nets) own row (over_alike (OnNets nets) own row h.over) x on

pub device_of_rule : DeviceOfRuleLaw
device_of_rule d w t g nl rules unit height x cell n i row reached num (c, is, at) =
    let plan : ArePlanned d w t g nl rules unit = planned d w t g nl rules unit height x in
    let r = (plan.circuits cell n c reached num is).rows_each i row at in
    let o = (rows d w t rules cell (g.gates cell) (x.gates cell reached)).each i r.0 r.1 in
    let own = rule_device rules unit (g.parts cell).nets r.0 row r.2 o.0 o.1 o.3.kind o.3.formed in
    (r.0.at.rule, o.0, o.1, own.kind, own.class, own.formed)
