-- The sides of a comparison as their pairs are answered: the nets, pins, names and calls of the aligned ones.
use Rattle.std.proofs.Common.{◌≡◌, ℕ, Bool, true, false, cond, List, map, length, refl, ◌∙◌}
use Rattle.align_laws.specs.Partners.{AreSides}
use Rattle.match_flow.proofs.Again.{as_many}
use Rattle.match_flow.specs.Again.{IsAnswered, as_answered}
use Rattle.match_laws.specs.Answer.{Answer}
use Rattle.merge_laws.proofs.Kept.{good_merged}
use Rattle.merge_laws.proofs.Nets as nets
use Rattle.merge_laws.proofs.Sides.{merged_sides}
use Rattle.merge_laws.specs.Grouped.{groups, merged_row}
use Rattle.plain_netlist.specs.Netlist.{Circuit, InOneNet, IsCircuit, Netlist, Slot}
use Rattle.plain_netlist.specs.Sound.{IsGood}
use Rattle.report_file.proofs.Compared.{HaveOrder}

-- a circuit, as it is answered
abbrev pub circuit_answered : Bool → Circuit → Circuit
circuit_answered again c = record {
  name = c.name;
  nets = c.nets;
  pins = c.pins;
  devices = cond again (map merged_row (groups c.devices)) c.devices;
  calls = c.calls;
}

pub there : (again : Bool) (nl : Netlist) (k : ℕ) (c : Circuit) → IsCircuit nl k c → IsCircuit (as_answered again nl) k (circuit_answered again c)
there true nl k c is = nets.circuit_there nl k c is
there false nl k c is = is

pub net_there : (again : Bool) (nl : Netlist) (t : ℕ) (a b : Slot) → InOneNet nl t a b → InOneNet (as_answered again nl) t a b
net_there true nl t a b h = nets.net_there nl t a b h
net_there false nl t a b h = h

pub net_back : (again : Bool) (nl : Netlist) (t : ℕ) (a b : Slot) → InOneNet (as_answered again nl) t a b → InOneNet nl t a b
net_back true nl t a b h = nets.net_back nl t a b h
net_back false nl t a b h = h

pub answered_good : (again : Bool) (nl : Netlist) (height : ℕ → ℕ) → IsGood nl height → IsGood (as_answered again nl) height
answered_good true nl height h = good_merged nl height h
answered_good false nl height h = h

pub answered_sides : (again : Bool) (left right : Netlist) → AreSides left right → AreSides (as_answered again left) (as_answered again right)
answered_sides true left right h = merged_sides left right h
answered_sides false left right h = h

pub answered_order : (again : Bool) (left right : Netlist) → HaveOrder left right → HaveOrder (as_answered again left) (as_answered again right)
answered_order again left right h = record { sides = answered_sides again left right h.sides; good = answered_good again left (λ k. k) h.good }

-- there are as many circuits
pub answered_long : (again : Bool) (nl : Netlist) → length (as_answered again nl).circuits ≡ length nl.circuits
answered_long true nl = as_many nl
answered_long false nl = refl

-- and as many answers
pub answer_count : (merges : Bool) (limit : ℕ) (same_pins : Bool) (left right : Netlist) (again : Bool) (answers : List Answer) → IsAnswered merges limit same_pins left right again answers → length answers ≡ length left.circuits
answer_count merges limit same_pins left right again answers h = h.at_last.count ∙ answered_long again left
