-- Files to which the inputs come are there when their lines are joined.
use Rattle.std.specs.Prelude.{◌≡◌, ℕ, Bool, List, length, Err}
use Rattle.netlist_join.specs.Joining.{joined}
use Rattle.netlist_join.specs.Loaded.{StartsWith, paths_of}
use Rattle.netlist_join.specs.Named.{AreAsked}
use Rattle.netlist_join.specs.declared.files.File.{File}
use Rattle.netlist_join.specs.declared.join.JoinFault.{JoinFault}
use Rattle.netlist_join.specs.declared.join.JoinFault.TheVariants.{At}
use Rattle.netlist_join.specs.declared.join.Why.TheVariants.{Absent}

-- not that a file isn't there
abbrev pub IsPresent : JoinFault → Type 0
IsPresent (At Absent at) = ⊥
IsPresent e = Unit {0}

-- where all that is asked for was loaded, no line is refused for a file that isn't there
abbrev pub AllThereLaw : Type 0
AllThereLaw = (inputs : List (List ℕ)) (files : List File) (has_title : Bool) (e : JoinFault)
    → AreAsked inputs files → StartsWith (paths_of files) inputs
    → joined files (length inputs) has_title ≡ Err e → IsPresent e
