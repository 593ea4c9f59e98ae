-- What is compared by rules that combine devices: netlists in whose circuits each group of alike
-- transistors is one.
use Rattle.std.specs.Prelude.{◌≡◌, ℕ, Bool, true, ◌==◌, ◌&&◌, ◌||◌, not, List, length, Option}
use Rattle.std.specs.Prelude.{None, cond, slice_get}
use Rattle.std.specs.Option.{option_map}
use Rattle.device_merge.specs.Merged.{IsNarrow}
use Rattle.match_report.specs.Pairs.{name_of}
use Rattle.merge_laws.specs.Grouped.{is_too_wide, merged_netlist}
use Rattle.net_align.specs.Compared.{AreCalleesFirst, IsAlignable}
use Rattle.net_model.specs.Tests.{first_of}
use Rattle.plain_netlist.specs.Netlist.{Netlist}
use Rattle.rule_text.specs.Rules.{Rules}

-- a netlist as it is compared
abbrev pub compared_of : Rules → Netlist → Netlist
compared_of r nl = cond r.combine (merged_netlist nl) nl

-- the rules flatten circuits: those that their lines name, or those that differ
abbrev pub flattens : Rules → Bool
flattens r = r.flattens_unmatched
    || not (length r.flat_layouts == 0 && length r.flat_schematics == 0)

-- then, by rules that combine devices, alike transistors that come to stand in one circuit are made
-- one once more, where pairs differ
abbrev pub merges_again : Rules → Bool
merges_again r = r.combine && flattens r

-- no device of either netlist is too wide to be made one with others once more
abbrev pub AreNarrow : Rules → Netlist → Netlist → Type 0
AreNarrow r layout schematic = merges_again r ≡ true → IsNarrow layout × IsNarrow schematic

-- the name of the first circuit with a group of alike transistors that is too wide for one
abbrev pub first_wide : Netlist → Option (List ℕ)
first_wide nl =
    option_map (λ (k : ℕ). name_of (slice_get nl.circuits k)) (first_of is_too_wide nl.circuits)

-- the same where the rules combine devices; else there is none
abbrev pub wide_name : Rules → Netlist → Option (List ℕ)
wide_name r nl = cond r.combine (first_wide nl) None

-- what can be aligned still can
abbrev pub CombinedAlignableLaw : Type 0
CombinedAlignableLaw = (nl : Netlist) → IsAlignable nl → IsAlignable (merged_netlist nl)

-- and no circuit calls a later one
abbrev pub CombinedOrderLaw : Type 0
CombinedOrderLaw = (nl : Netlist) → AreCalleesFirst nl → AreCalleesFirst (merged_netlist nl)
