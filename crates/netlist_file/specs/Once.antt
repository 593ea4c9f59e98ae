-- A netlist has one text.
use Rattle.std.specs.Prelude.{◌≡◌, ℕ, List}
use Rattle.plain_netlist.specs.Netlist.{Netlist}
use Rattle.spice_text.specs.Written.{IsWritten}

abbrev pub OneTextLaw : Type 0
OneTextLaw = (nl : Netlist) (a b : List ℕ) → IsWritten nl a → IsWritten nl b → a ≡ b
