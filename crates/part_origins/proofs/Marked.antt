-- Marks of circuits that are called.
use Rattle.std.proofs.Common.{◌≡◌, Bool, false, List, [], ◌∷◌, map, refl, ap}
use Rattle.std.specs.Prelude.{slice_index_or, ◌||◌}
use Rattle.std.specs.List.{list_any}
use Rattle.plain_netlist.specs.Netlist.{CallRow}
use Rattle.net_model.specs.Rows.{plain_call}
use Rattle.net_model.specs.declared.netlist.CallRow.{CallRow as Call}

pub marked_calls : (marks : List Bool) (rs : List Call) → list_any (λ (r : CallRow). slice_index_or marks r.circuit false) (map plain_call rs) ≡ list_any (λ (r : Call). slice_index_or marks r.circuit false) rs
marked_calls marks [] = refl
marked_calls marks (r ∷ rs) = ap (λ (b : Bool). slice_index_or marks r.circuit false || b) (marked_calls marks rs)
