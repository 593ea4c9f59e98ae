-- The nested circuits, flattened.
use Rattle.std.proofs.Common.{◌≡◌, ℕ, zero, suc, refl, ap}
use Rattle.std.proofs.lemmas.Option.{same_Some, none-some}
use Rattle.plain_netlist.specs.Netlist.{Circuit, IsCircuit}
use Rattle.align_laws.specs.Lists.{inlined, plain}
use Rattle.align_laws.specs.Sample.{nested, middle_goes, flat_nested, flat_netlist, NestedLaw}

each : (c : ℕ) (given : Circuit) → IsCircuit nested c given → flat_nested c ≡ inlined middle_goes flat_nested given
each zero given h = ap (inlined middle_goes flat_nested) (same_Some _ _ h)
each (suc zero) given h = ap (inlined middle_goes flat_nested) (same_Some _ _ h)
each (suc (suc zero)) given h = ap (inlined middle_goes flat_nested) (same_Some _ _ h)
each (suc (suc (suc c))) given h = absurd (none-some given h)

there : (c : ℕ) (given : Circuit) → IsCircuit nested c given → IsCircuit flat_netlist c (plain (flat_nested c))
there zero given h = refl
there (suc zero) given h = refl
there (suc (suc zero)) given h = refl
there (suc (suc (suc c))) given h = absurd (none-some given h)

back : (c : ℕ) (flat : Circuit) → IsCircuit flat_netlist c flat → (given : Circuit) × IsCircuit nested c given
back zero flat h = (_, refl)
back (suc zero) flat h = (_, refl)
back (suc (suc zero)) flat h = (_, refl)
back (suc (suc (suc c))) flat h = absurd (none-some flat h)

pub nested_flat : NestedLaw
nested_flat = (record { each = each; there = there; back = back }, refl, refl)
