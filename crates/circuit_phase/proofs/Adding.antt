-- The devices of good gates, one after the other.
use Rattle.std.proofs.Common.{◌≡◌, ℕ, zero, suc, ◌+◌, ◌<◌, List, [], ◌∷◌, ◌++◌, append-nil, append_assoc, Some, flat_map, map, take, slice_get, get_or, length, refl, sym, ◌∙◌, ap, subst}
use Rattle.std.proofs.Math.Seq.{take-length}
use Rattle.std.proofs.lemmas.Grind.{flat_map-append}
use Rattle.std.proofs.lemmas.List.{map-append, take_more}
use Rattle.deep_tables.specs.Gates.{plain_gate}
use Rattle.deep_tables.specs.declared.gates.Gate.{Gate}
use Rattle.flat_layout.specs.Circuits.{AreCircuitDevices, IsDeviceOfGate}
use Rattle.flat_layout.specs.Gates.{Rule, sizes_of}
use Rattle.flat_layout.specs.GateTables.{Bad, GateEntry, GateRow, GateSquare, Good, GoodGate, Verdict, device_by, good_gates, with_good}
use Rattle.flat_laws.proofs.Devices.{OnNets}
use Rattle.plain_netlist.proofs.Rows.{over_wider}
use Rattle.plain_netlist.specs.Devices.{terminal_nets}
use Rattle.plain_netlist.specs.Netlist.{Circuit, DeviceRow}
use Rattle.plain_netlist.specs.Normal.{AreNumbered}
use Rattle.rule_layers.specs.Meaning.{device_rules}
use Rattle.rule_text.specs.Rules.{Rules}
use Rattle.circuit_phase.specs.Devices.{AddDevices, AreDevicesOf}
use Rattle.circuit_phase.specs.Numbering.{AreKept}
use Rattle.circuit_phase.proofs.Series.{numbered_on}

pub good_added : (rules : List Rule) (unit : ℕ) (e : GateEntry) (row : GateRow) (old new : List ℕ) (before after : List DeviceRow) (dev : DeviceRow) → e.verdict ≡ Good row → AreKept old new → after ≡ before ++ dev ∷ []
    → IsDeviceOfGate rules unit new (record { at = e.at; row = row }) dev → AreNumbered (length new) (length old) (terminal_nets dev) → AddDevices rules unit (e ∷ []) old new before after
good_added rules unit e row old new before after dev good kept rows is numbered = record {
  kept = kept;
  added = dev ∷ [];
  rows = rows;
  devices = subst (λ (v : Verdict). AreDevicesOf rules unit new (with_good e.at v []) (dev ∷ [])) (sym good) (is, tt);
  numbered = subst (λ (l : List ℕ). AreNumbered (length new) (length old) l) (sym (append-nil (terminal_nets dev))) numbered;
}

pub device_kept : (rules : List Rule) (unit : ℕ) (old new : List ℕ) (gate : GoodGate) (row : DeviceRow) → AreKept old new → IsDeviceOfGate rules unit old gate row → IsDeviceOfGate rules unit new gate row
device_kept rules unit old new gate row keep h = record {
  rule = h.rule;
  is = h.is;
  over = over_wider (OnNets old) (OnNets new) (λ x a at. keep a x at) (device_by h.rule (sizes_of h.rule unit gate.row.twice_w gate.row.twice_l) gate.row) row h.over;
}

devices_on : (rules : List Rule) (unit : ℕ) (mid new : List ℕ) (gates more : List GoodGate) (rows added : List DeviceRow) → AreKept mid new → AreDevicesOf rules unit mid gates rows → AreDevicesOf rules unit new more added → AreDevicesOf rules unit new (gates ++ more) (rows ++ added)
devices_on rules unit mid new [] more [] added keep h g = g
devices_on rules unit mid new [] more (row ∷ rows) added keep h g = absurd h
devices_on rules unit mid new (gate ∷ gates) more [] added keep h g = absurd h
devices_on rules unit mid new (gate ∷ gates) more (row ∷ rows) added keep h g = (device_kept rules unit mid new gate row keep h.0, devices_on rules unit mid new gates more rows added keep h.1 g)

good_on : (a b : List GateEntry) → good_gates (a ++ b) ≡ good_gates a ++ good_gates b
good_on [] b = refl
good_on (e ∷ a) b = ap (with_good e.at e.verdict) (good_on a b) ∙ one e.at e.verdict (good_gates a) (good_gates b)
  where
    one : (at : GateSquare) (v : Verdict) (xs ys : List GoodGate) → with_good at v (xs ++ ys) ≡ with_good at v xs ++ ys
    one at (Good row) xs ys = refl
    one at (Bad cause) xs ys = refl

add_on : (rules : List Rule) (unit : ℕ) (gates more : List GateEntry) (old mid new : List ℕ) (before rows after : List DeviceRow) → AddDevices rules unit gates old mid before rows → AddDevices rules unit more mid new rows after → AddDevices rules unit (gates ++ more) old new before after
add_on rules unit gates more old mid new before rows after h g = record {
  kept = λ i x k. g.kept i x (h.kept i x k);
  added = h.added ++ g.added;
  rows = g.rows ∙ ap (λ (l : List DeviceRow). l ++ g.added) h.rows ∙ append_assoc before h.added g.added;
  devices = subst (λ (l : List GoodGate). AreDevicesOf rules unit new l (h.added ++ g.added)) (sym (good_on gates more)) (devices_on rules unit mid new (good_gates gates) (good_gates more) h.added g.added g.kept h.devices g.devices);
  numbered = subst (λ (l : List ℕ). AreNumbered (length new) (length old) l) (sym (flat_map-append terminal_nets h.added g.added))
      (numbered_on (length new) (length mid) (length old) (flat_map terminal_nets h.added) (flat_map terminal_nets g.added) h.numbered g.numbered);
}

-- after n gates
pub record AreDevicesTo (r : Rules) (unit size : ℕ) (old : List ℕ) (gates : List Gate) (count : ℕ) (nets : List ℕ) (n : ℕ) (rows : List DeviceRow) : Type 0 where
  pub same : count ≡ size
  pub are : AddDevices (device_rules r) unit (map plain_gate (take n gates)) old nets [] rows

pub no_devices : (r : Rules) (unit size : ℕ) (old : List ℕ) (gates : List Gate) → AreDevicesTo r unit size old gates size old 0 []
no_devices r unit size old gates = record { same = refl; are = record { kept = λ i x h. h; added = []; rows = refl; devices = tt; numbered = refl } }

pub one_gate : (r : Rules) (unit size : ℕ) (old : List ℕ) (gates : List Gate) (count more : ℕ) (mid new : List ℕ) (n : ℕ) (gate : Gate) (rows after : List DeviceRow) → n < length gates → gate ≡ get_or gates n gate → more ≡ count
    → AddDevices (device_rules r) unit (plain_gate gate ∷ []) mid new rows after → AreDevicesTo r unit size old gates count mid n rows → AreDevicesTo r unit size old gates more new (n + 1) after
one_gate r unit size old gates count more mid new n gate rows after lt is same added h = record {
  same = same ∙ h.same;
  are =
      let first = take n gates in
      let split : take (n + 1) gates ≡ first ++ gate ∷ [] = take_more gates n gate lt ∙ ap (λ (g : Gate). first ++ g ∷ []) (sym is) in
      let mapped = ap (λ (l : List Gate). map plain_gate l) split ∙ map-append plain_gate first (gate ∷ []) in
      subst (λ (l : List GateEntry). AddDevices (device_rules r) unit l old new [] after) (sym mapped)
      (add_on (device_rules r) unit (map plain_gate first) (plain_gate gate ∷ []) old mid new [] rows after h.are added);
}

pub end_kept : (r : Rules) (unit size : ℕ) (old : List ℕ) (gates : List Gate) (count : ℕ) (nets : List ℕ) (n : ℕ) (rows : List DeviceRow) → AreDevicesTo r unit size old gates count nets n rows → AreKept old nets
end_kept r unit size old gates count nets n rows h = h.are.kept

pub end_numbered : (r : Rules) (unit size : ℕ) (old : List ℕ) (gates : List Gate) (count : ℕ) (nets : List ℕ) (n : ℕ) (rows : List DeviceRow) → AreDevicesTo r unit size old gates count nets n rows → AreNumbered (length nets) (length old) (flat_map terminal_nets rows)
end_numbered r unit size old gates count nets n rows h =
    let a = h.are in
    subst (λ (l : List DeviceRow). AreNumbered (length nets) (length old) (flat_map terminal_nets l)) (sym a.rows) a.numbered

devices_long : (rules : List Rule) (unit : ℕ) (nets : List ℕ) (gates : List GoodGate) (rows : List DeviceRow) → AreDevicesOf rules unit nets gates rows → length rows ≡ length gates
devices_long rules unit nets [] [] h = refl
devices_long rules unit nets [] (row ∷ rows) h = absurd h
devices_long rules unit nets (gate ∷ gates) [] h = absurd h
devices_long rules unit nets (gate ∷ gates) (row ∷ rows) h = ap suc (devices_long rules unit nets gates rows h.1)

devices_each : (rules : List Rule) (unit : ℕ) (nets : List ℕ) (gates : List GoodGate) (rows : List DeviceRow) → AreDevicesOf rules unit nets gates rows → (i : ℕ) (gate : GoodGate) (row : DeviceRow) → slice_get gates i ≡ Some gate → slice_get rows i ≡ Some row → IsDeviceOfGate rules unit nets gate row
devices_each rules unit nets [] rows h i gate row g f = let z : ⊥ = cc in absurd z
devices_each rules unit nets (x ∷ gates) [] h i gate row g f = absurd h
devices_each rules unit nets (x ∷ gates) (y ∷ rows) h zero gate row g f =
    let e : x ≡ gate = cc in
    let k : y ≡ row = cc in
    subst (λ (z : GoodGate). IsDeviceOfGate rules unit nets z row) e (subst (λ (z : DeviceRow). IsDeviceOfGate rules unit nets x z) k h.0)
devices_each rules unit nets (x ∷ gates) (y ∷ rows) h (suc i) gate row g f = devices_each rules unit nets gates rows h.1 i gate row g f

pub end_devices : (r : Rules) (unit size : ℕ) (old : List ℕ) (gates : List Gate) (count : ℕ) (nets : List ℕ) (n : ℕ) (rows : List DeviceRow) → n ≡ length gates → AreDevicesTo r unit size old gates count nets n rows
    → (c : Circuit) → c.devices ≡ rows → AreCircuitDevices (device_rules r) unit (map plain_gate gates) nets c
end_devices r unit size old gates count nets n rows e h c has =
    let all = ap (λ (k : ℕ). take k gates) e ∙ take-length gates in
    let a = subst (λ (l : List Gate). AddDevices (device_rules r) unit (map plain_gate l) old nets [] rows) all h.are in
    let are = subst (λ (l : List DeviceRow). AreDevicesOf (device_rules r) unit nets (good_gates (map plain_gate gates)) l) (sym (has ∙ a.rows)) a.devices in
    record {
      count = devices_long (device_rules r) unit nets (good_gates (map plain_gate gates)) c.devices are;
      each = devices_each (device_rules r) unit nets (good_gates (map plain_gate gates)) c.devices are;
    }
