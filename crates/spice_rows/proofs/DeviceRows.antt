-- What a card of a device says, by its tests.
use Rattle.std.proofs.Common.{◌≡◌, ℕ, true, false, Bool, List, Option, Some, Err, ap, ◌∙◌}
use Rattle.std.specs.Prelude.{not, if◌then◌else◌}
use Rattle.std.specs.List.{list_any}
use Rattle.spice_cards.specs.Parts.{Param}
use Rattle.plain_netlist.specs.declared.kinds.DeviceKind.{DeviceKind}
use Rattle.spice_rows.specs.Params.{copies_of, is_refused}
use Rattle.spice_rows.specs.Rows.{device_of, device_row, is_formed}
use Rattle.spice_rows.specs.Sizes.{Limits, sizes_of}
use Rattle.spice_rows.specs.declared.fault.SpiceFault.TheVariants.{BadLine, ParameterRefused}

module _ (limits : Option Limits) (kind : DeviceKind) (line : ℕ) (o : Option (List (List ℕ))) (names : List (List ℕ)) (ps : List Param) (is : o ≡ Some names) where
  pub unformed : is_formed kind names ps ≡ false → device_row limits kind line o ps ≡ Err (BadLine line)
  unformed e = rw is (ap (λ (b : Bool). if not b then Err (BadLine line) else if list_any (is_refused kind) ps then Err (ParameterRefused line) else device_of line (copies_of ps) kind names (sizes_of limits kind ps)) e)

  pub refused : is_formed kind names ps ≡ true → list_any (is_refused kind) ps ≡ true → device_row limits kind line o ps ≡ Err (ParameterRefused line)
  refused e f =
      rw is (ap (λ (b : Bool). if not b then Err (BadLine line) else if list_any (is_refused kind) ps then Err (ParameterRefused line) else device_of line (copies_of ps) kind names (sizes_of limits kind ps)) e
      ∙ ap (λ (b : Bool). if b then Err (ParameterRefused line) else device_of line (copies_of ps) kind names (sizes_of limits kind ps)) f)

  pub taken : is_formed kind names ps ≡ true → list_any (is_refused kind) ps ≡ false → device_row limits kind line o ps ≡ device_of line (copies_of ps) kind names (sizes_of limits kind ps)
  taken e f =
      rw is (ap (λ (b : Bool). if not b then Err (BadLine line) else if list_any (is_refused kind) ps then Err (ParameterRefused line) else device_of line (copies_of ps) kind names (sizes_of limits kind ps)) e
      ∙ ap (λ (b : Bool). if b then Err (ParameterRefused line) else device_of line (copies_of ps) kind names (sizes_of limits kind ps)) f)
