-- The circuit of a number.
use Rattle.std.proofs.Common.{◌≡◌, ◌<◌, ◌∙◌, ℕ, List, Some, map, length, slice_get, get_or, refl, ap}
use Rattle.std.specs.Option.{option_map}
use Rattle.std.proofs.lemmas.Option.{slice_get-map, slice_get_read}
use Rattle.net_model.specs.Rows.{plain_circuit}
use Rattle.net_model.specs.declared.netlist.Circuit.{Circuit}

pub there : (cs : List Circuit) (k : ℕ) (x : Circuit) → k < length cs → x ≡ get_or cs k x → slice_get (map plain_circuit cs) k ≡ Some (plain_circuit x)
there cs k x lt e =
    slice_get-map plain_circuit cs k ∙ ap (option_map plain_circuit) (slice_get_read cs (length cs) k x refl lt e)
