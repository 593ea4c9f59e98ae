-- The netlist of a layout's circuits can be written, and what is written means it.
use Rattle.std.specs.Prelude.{◌≡◌, ℕ, true, List, None, Some, slice_get}
use Rattle.flat_layout.specs.Expanded.{AreTablesRight, CircuitTables}
use Rattle.flat_layout.specs.Gates.{Rule}
use Rattle.flat_layout.specs.Layout.{Design}
use Rattle.flat_layout.specs.Nets.{Tables}
use Rattle.flat_layout.specs.Regions.{Wiring}
use Rattle.net_names.specs.Folding.{folded_bytes}
use Rattle.plain_netlist.specs.Netlist.{Netlist}
use Rattle.plain_netlist.specs.Sound.{IsSoundNetlist}
use Rattle.netlist_file.specs.Spelled.{IsSpelled}
use Rattle.spice_rows.specs.Rows.{is_class}
use Rattle.spice_text.specs.Cards.{AreFormed}
use Rattle.spice_text.specs.Laws.{IsWritable}
use Rattle.spice_text.specs.Means.{Means}
use Rattle.spice_text.specs.Written.{IsWritten}

-- a rule's class has no small letter, and is one that cards of its kind have
pub record IsClassed (u : Rule) : Type 0 where
  pub folded : folded_bytes u.class ≡ u.class
  pub model : is_class u.kind u.class ≡ true

abbrev pub AreClassed : List Rule → Type 0
AreClassed rules = (r : ℕ) (u : Rule) → slice_get rules r ≡ Some u → IsClassed u

-- each device of a layout's netlist has the terminals and sizes of its kind
abbrev pub ExtractedFormedLaw : Type 0
ExtractedFormedLaw = (d : Design) (w : Wiring) (t : Tables) (g : CircuitTables) (nl : Netlist)
    (rules : List Rule) (unit : ℕ) (level : ℕ → ℕ) → AreTablesRight d w t g nl rules unit level
    → AreFormed nl

abbrev pub ExtractedWritableLaw : Type 0
ExtractedWritableLaw = (d : Design) (w : Wiring) (t : Tables) (g : CircuitTables) (nl : Netlist)
    (rules : List Rule) (unit : ℕ) (level : ℕ → ℕ) → AreTablesRight d w t g nl rules unit level
    → AreClassed rules → IsSpelled nl → IsWritable nl

abbrev pub ExtractedMeansLaw : Type 0
ExtractedMeansLaw = (d : Design) (w : Wiring) (t : Tables) (g : CircuitTables) (nl : Netlist)
    (rules : List Rule) (unit : ℕ) (level : ℕ → ℕ) (text : List ℕ)
    → AreTablesRight d w t g nl rules unit level → AreClassed rules → IsSpelled nl
    → IsSoundNetlist nl → IsWritten nl text → Means None text nl
