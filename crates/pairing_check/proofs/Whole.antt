-- A correspondence from its parts.
use Rattle.std.proofs.Common.{◌≡◌, ℕ, Bool, false, List, length, sym, subst, ◌∙◌, arith, true≢false, Decides}
use Rattle.std.proofs.lemmas.List.{length-map}
use Rattle.round_laws.specs.Nodes.{Layout}
use Rattle.match_parts.proofs.Fitted as fitted
use Rattle.match_parts.proofs.Marked.{one_long}
use Rattle.match_laws.specs.Circuits.{IsOneToOne, IsCorrespondence, IsFitting}
use Rattle.match_laws.proofs.Sums.{index_below}
use Rattle.net_model.specs.declared.netlist.Circuit.{Circuit}
use Rattle.net_model.specs.Rows.{plain_circuit, plain_device, plain_call}
use Rattle.match_types.specs.declared.child_pins.ChildPins.{ChildPins}
use Rattle.match_types.specs.declared.answer.Pairing.{Pairing}
use Rattle.match_types.specs.Plain.{pair_of, plain_pairing}
use Rattle.match_types.specs.Children.{children_of, is_told}
use Rattle.pairing_check.specs.Parts.{AreMaps, AreNamesKept, ArePinsKept, AreDeviceImages, AreCallImages}
use Rattle.match_parts.specs.Rows.{AreBelow, AreDevicesOn, AreCallsOn}

pub whole : (l r : Circuit) (ch : ChildPins) (f : Pairing) → AreMaps l r f → ArePinsKept (plain_circuit l) (plain_circuit r) f.nets.items
    → AreNamesKept (is_told ch) (plain_circuit l) (plain_circuit r) f.nets.items → AreDeviceImages (plain_circuit l) (plain_circuit r) f.nets.items f.devices.items → AreCallImages (children_of ch) (plain_circuit l) (plain_circuit r) f.nets.items f.calls.items
    → IsCorrespondence (pair_of l r ch) (plain_pairing f)
whole l r ch f m pins names devices calls = record {
  nets = m.nets;
  devices = subst (λ (n : ℕ). IsOneToOne f.devices.items (length (plain_circuit l).devices) n) (sym (length-map r.devices.items plain_device))
      (subst (λ (n : ℕ). IsOneToOne f.devices.items n (length r.devices.items)) (sym (length-map l.devices.items plain_device)) m.devices);
  calls = subst (λ (n : ℕ). IsOneToOne f.calls.items (length (plain_circuit l).calls) n) (sym (length-map r.calls.items plain_call))
      (subst (λ (n : ℕ). IsOneToOne f.calls.items n (length r.calls.items)) (sym (length-map l.calls.items plain_call)) m.calls);
  pin = λ n h. let e = m.nets.count in pins n (omega arith);
  named = λ n h. let e = m.nets.count in names n (omega arith);
  device = devices;
  call = calls;
}

pub pins_of : (l r : Circuit) (ch : ChildPins) (f : Pairing) → AreMaps l r f → IsCorrespondence (pair_of l r ch) (plain_pairing f) → ArePinsKept (plain_circuit l) (plain_circuit r) f.nets.items
pins_of l r ch f m h n low = let e = m.nets.count in h.pin n (omega arith)

pub names_of : (l r : Circuit) (ch : ChildPins) (f : Pairing) → AreMaps l r f → IsCorrespondence (pair_of l r ch) (plain_pairing f) → AreNamesKept (is_told ch) (plain_circuit l) (plain_circuit r) f.nets.items
names_of l r ch f m h n low = let e = m.nets.count in h.named n (omega arith)

pub below : (xs : List ℕ) (m n : ℕ) → IsOneToOne xs m n → AreBelow xs n
below xs m n one i l = let e = one.count in index_below xs m n i one (omega arith)

pub devices_on : (l r : Circuit) (ch : ChildPins) (n : ℕ) → IsFitting (pair_of l r ch) Layout → length l.nets.items ≡ n → AreDevicesOn (plain_circuit l) n
devices_on l r ch n h e = subst (λ (m : ℕ). AreDevicesOn (plain_circuit l) m) e (fitted.devices_on (pair_of l r ch) Layout h)

pub calls_on : (l r : Circuit) (ch : ChildPins) (n : ℕ) → IsFitting (pair_of l r ch) Layout → length l.nets.items ≡ n → AreCallsOn (plain_circuit l) n
calls_on l r ch n h e = subst (λ (m : ℕ). AreCallsOn (plain_circuit l) m) e (fitted.calls_on (pair_of l r ch) Layout h)

pub refuse : {P Q : Type 0} (b : Bool) → Decides b P → b ≡ false → (Q → P) → Decides false Q
refuse b d e f = ((λ t. absurd (true≢false (sym t))), (λ q. absurd (true≢false (sym (d.1 (f q)) ∙ e))))

-- a one-to-one map onto n numbers has n entries
pub as_many : (xs : List ℕ) (m n : ℕ) → IsOneToOne xs m n → length xs ≡ n
as_many xs m n one = one_long xs n (record { below = below xs m n one; once = one.once })
