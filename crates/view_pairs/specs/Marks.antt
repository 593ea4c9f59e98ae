-- How partners are marked.
use Rattle.std.specs.Prelude.{ℕ, Bool, true, false, ◌&&◌, ◌||◌, not, List, [], ◌++◌}
use Rattle.std.specs.Prelude.{Option, Some, None, get_or, length, bytes_eq}
use Rattle.std.specs.List.{list_all}
use Rattle.net_names.specs.Folding.{folded_bytes}
use Rattle.plain_netlist.specs.Netlist.{CallRow, Circuit, DeviceRow}
use Rattle.view_cross.specs.declared.rows.Mark.{Mark}
use Rattle.view_cross.specs.declared.rows.Mark.TheVariants.{Matched, Mismatched, Warned}
use Rattle.view_pairs.specs.Alike.{marks_of, pin_marks}
use Rattle.view_pairs.specs.Joints.{call_joints, device_joints, is_met, odd_lefts, odd_rights}
use Rattle.view_pairs.specs.Terminals.{joints_of_calls, joints_of_devices}
use Rattle.view_pairs.specs.declared.joints.Joint.{Joint}
use Rattle.view_pairs.specs.declared.partners.Partner.{Partner}
use Rattle.view_pairs.specs.declared.partners.Partners.{Partners}
use Rattle.view_pairs.specs.declared.proposal.Proposal.{Proposal}

-- all terminals of a pair
abbrev pub joints_of : Circuit → Circuit → List (List (Option Partner)) → Proposal → List Joint
joints_of a b pins x =
    joints_of_devices a b x.nets x.devices ++ joints_of_calls a b pins x.calls

-- the nets on which a terminal isn't met
abbrev pub left_odds : Circuit → Circuit → List (List (Option Partner)) → Proposal → List Bool
left_odds a b pins x = marks_of (length a.nets) (odd_lefts x.nets (joints_of a b pins x))

abbrev pub right_odds : Circuit → Circuit → List (List (Option Partner)) → Proposal → List Bool
right_odds a b pins x = marks_of (length b.nets) (odd_rights x.nets (joints_of a b pins x))

abbrev pub same_names : Circuit → Circuit → ℕ → ℕ → Bool
same_names a b n m =
    bytes_eq (folded_bytes (get_or a.nets n [])) (folded_bytes (get_or b.nets m []))

-- pins of other names, where names tell pins apart
abbrev pub is_misnamed : Bool → Circuit → Circuit → ℕ → ℕ → Bool
is_misnamed told a b n m = told && (get_or (pin_marks a) n false && not (same_names a b n m))

-- a match where nothing is at odds; a warning for one of several that look alike
abbrev pub mark_by : Partner → Bool → Mark
mark_by p odd = elim p.tied [
  | true ↦ Warned
  | false ↦ elim odd [ true ↦ Mismatched | false ↦ Matched ]
]

-- nets: each terminal on either is met
abbrev pub net_mark : Bool → Circuit → Circuit → List Bool → List Bool → ℕ → Partner → Mark
net_mark told a b lefts rights n p = mark_by p
    (get_or lefts n false || (get_or rights p.number false || is_misnamed told a b n p.number))

-- a pin, by the nets at it and at its partner
abbrev pub pin_net_mark : Bool → Circuit → Circuit → List Bool → List Bool → ℕ → ℕ → Partner
    → Mark
pin_net_mark told a b lefts rights n m p =
    net_mark told a b lefts rights n (record { number = m; tied = p.tied })

-- a warning too where only sizes differ
abbrev pub sized_mark : Mark → Bool → Mark
sized_mark Matched false = Warned
sized_mark m same = m

abbrev pub same_sizes : DeviceRow → DeviceRow → Bool
same_sizes d e = bytes_eq d.sizes e.sizes

-- devices: each terminal is met
abbrev pub device_mark : Partners → DeviceRow → DeviceRow → Partner → Mark
device_mark nets d e p =
    sized_mark (mark_by p (not (list_all (is_met nets) (device_joints nets d e)))) (same_sizes d e)

-- calls: each pin that has a partner is met
abbrev pub call_mark : Partners → List (List (Option Partner)) → CallRow → CallRow → Partner
    → Mark
call_mark nets pins c e p = mark_by p (not (list_all (is_met nets) (call_joints pins c e)))

abbrev pub mark_both : {T : Type 0} → (T → T → Partner → Mark) → Option T → Option T → Partner
    → Mark
mark_both mark None y p = Mismatched
mark_both mark (Some x) None p = Mismatched
mark_both mark (Some x) (Some y) p = mark x y p
