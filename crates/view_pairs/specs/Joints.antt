-- The terminals of partners, and which of them are met: the nets there are partners too.
use Rattle.std.specs.Prelude.{ℕ, ◌+◌, Bool, false, ◌&&◌, ◌||◌, not, List, [], ◌∷◌, ◌++◌}
use Rattle.std.specs.Prelude.{Option, Some, None, get_or, slice_get, if◌then◌else◌}
use Rattle.match_types.specs.declared.answer.Side.{Side}
use Rattle.match_types.specs.declared.answer.Side.TheVariants.{Layout, Schematic}
use Rattle.plain_netlist.specs.Devices.{Ends, NoEnds, Both as TwoEnds, exchanged}
use Rattle.plain_netlist.specs.Netlist.{CallRow, DeviceRow}
use Rattle.view_pairs.specs.Partners.{meets, number_in}
use Rattle.view_pairs.specs.declared.joints.Joint.{Joint}
use Rattle.view_pairs.specs.declared.joints.Joint.TheVariants.{Both, Left, Right}
use Rattle.view_pairs.specs.declared.partners.Partner.{Partner}
use Rattle.view_pairs.specs.declared.partners.Partners.{Partners}

abbrev pub is_met : Partners → Joint → Bool
is_met nets (Both n m) = meets nets n m
is_met nets (Left n) = false
is_met nets (Right m) = false

-- one of the ends is met by its like
abbrev pub are_ends_met : Partners → Ends ℕ → Ends ℕ → Bool
are_ends_met nets (TwoEnds a b) (TwoEnds c d) = meets nets a c || meets nets b d
are_ends_met nets x y = false

-- ends are exchanged where they are met that way only
abbrev pub is_crossed : Partners → Ends ℕ → Ends ℕ → Bool
is_crossed nets x y = not (are_ends_met nets x y) && are_ends_met nets x (exchanged y)

abbrev pub end_joints : Ends ℕ → Ends ℕ → List Joint
end_joints (TwoEnds a b) (TwoEnds c d) = Both a c ∷ Both b d ∷ []
end_joints x y = []

-- terminals with places of their own, place by place
abbrev pub other_joints : List ℕ → List ℕ → List Joint
other_joints [] ms = []
other_joints (n ∷ ns) [] = []
other_joints (n ∷ ns) (m ∷ ms) = Both n m ∷ other_joints ns ms

-- the ends, exchanged or not
abbrev pub met_joints : Partners → Ends ℕ → Ends ℕ → List Joint
met_joints nets x y = end_joints x (if is_crossed nets x y then exchanged y else y)

abbrev pub device_joints : Partners → DeviceRow → DeviceRow → List Joint
device_joints nets d e = other_joints d.others e.others ++ met_joints nets d.ends e.ends

abbrev pub ends_seen : Option (ℕ × ℕ) → Ends ℕ
ends_seen None = NoEnds
ends_seen (Some x) = TwoEnds x.0 x.1

-- a net of a node without a partner
abbrev pub lone : Side → ℕ → Joint
lone Layout n = Left n
lone Schematic n = Right n

abbrev pub lone_joints : Side → List ℕ → List Joint
lone_joints side [] = []
lone_joints side (n ∷ ns) = lone side n ∷ lone_joints side ns

-- the nets at a pin and at its partner; a pin without a partner doesn't count
abbrev pub joint_at : ℕ → Option ℕ → List Joint
joint_at n None = []
joint_at n (Some m) = Both n m ∷ []

abbrev pub net_in : List ℕ → Option ℕ → Option ℕ
net_in ms None = None
net_in ms (Some i) = slice_get ms i

-- a call's pins from the k-th on
abbrev pub pin_joints : List (Option Partner) → ℕ → List ℕ → List ℕ → List Joint
pin_joints pins k [] ms = []
pin_joints pins k (n ∷ ns) ms = joint_at n (net_in ms (number_in (slice_get pins k)))
    ++ pin_joints pins (k + 1) ns ms

-- by the partners of the pins of each pair that is called
abbrev pub call_joints : List (List (Option Partner)) → CallRow → CallRow → List Joint
call_joints pins c e = pin_joints (get_or pins c.circuit []) 0 c.nets e.nets

-- the left net at a terminal that isn't met
abbrev pub odd_left : Partners → Joint → List ℕ
odd_left nets (Both n m) = if meets nets n m then [] else n ∷ []
odd_left nets (Left n) = n ∷ []
odd_left nets (Right m) = []

abbrev pub odd_lefts : Partners → List Joint → List ℕ
odd_lefts nets [] = []
odd_lefts nets (j ∷ js) = odd_left nets j ++ odd_lefts nets js

-- the right one
abbrev pub odd_right : Partners → Joint → List ℕ
odd_right nets (Both n m) = if meets nets n m then [] else m ∷ []
odd_right nets (Left n) = []
odd_right nets (Right m) = m ∷ []

abbrev pub odd_rights : Partners → List Joint → List ℕ
odd_rights nets [] = []
odd_rights nets (j ∷ js) = odd_right nets j ++ odd_rights nets js
