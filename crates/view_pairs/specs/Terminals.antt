-- The terminals of all devices and calls of a pair, with those of their partners.
use Rattle.std.specs.Prelude.{ℕ, List, [], ◌∷◌, ◌++◌, Option, Some, None, slice_get}
use Rattle.match_types.specs.declared.answer.Side.TheVariants.{Layout, Schematic}
use Rattle.plain_netlist.specs.Devices.{terminal_nets}
use Rattle.plain_netlist.specs.Netlist.{CallRow, Circuit}
use Rattle.view_pairs.specs.Joints.{call_joints, device_joints, lone_joints}
use Rattle.view_pairs.specs.declared.joints.Joint.{Joint}
use Rattle.view_pairs.specs.declared.partners.Partner.{Partner}
use Rattle.view_pairs.specs.declared.partners.Partners.{Partners}

-- the joints of a left node that has this entry; none where its partner isn't there
abbrev pub entry_joints : {T : Type 0} → (T → List ℕ) → (T → T → List Joint) → List T → T
    → Option Partner → List Joint
entry_joints nets joints rights x None = lone_joints Layout (nets x)
entry_joints nets joints rights x (Some p) =
    elim (slice_get rights p.number) [ None ↦ [] | Some y ↦ joints x y ]

-- those of the left nodes
abbrev pub left_joints : {T : Type 0} → (T → List ℕ) → (T → T → List Joint) → List T → List T
    → List (Option Partner) → List Joint
left_joints nets joints rights [] entries = []
left_joints nets joints rights (x ∷ xs) [] = []
left_joints nets joints rights (x ∷ xs) (e ∷ entries) =
    entry_joints nets joints rights x e ++ left_joints nets joints rights xs entries

-- those of a right node that has no partner
abbrev pub free_joint : {T : Type 0} → (T → List ℕ) → Option T → List Joint
free_joint nets None = []
free_joint nets (Some y) = lone_joints Schematic (nets y)

abbrev pub free_joints : {T : Type 0} → (T → List ℕ) → List T → List ℕ → List Joint
free_joints nets rights [] = []
free_joints nets rights (m ∷ ms) =
    free_joint nets (slice_get rights m) ++ free_joints nets rights ms

-- those of the devices
abbrev pub joints_of_devices : Circuit → Circuit → Partners → Partners → List Joint
joints_of_devices a b nets x =
    left_joints terminal_nets (device_joints nets) b.devices a.devices x.lefts.items
    ++ free_joints terminal_nets b.devices x.free.items

abbrev pub call_nets : CallRow → List ℕ
call_nets c = c.nets

-- and of the calls
abbrev pub joints_of_calls : Circuit → Circuit → List (List (Option Partner)) → Partners
    → List Joint
joints_of_calls a b pins x =
    left_joints call_nets (call_joints pins) b.calls a.calls x.lefts.items
    ++ free_joints call_nets b.calls x.free.items
