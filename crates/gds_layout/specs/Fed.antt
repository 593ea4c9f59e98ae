-- The fields of a reader of layouts in pieces.
use Rattle.std.specs.Prelude.{◌≡◌, None}
use Rattle.std.specs.Option.{option_map}
use Rattle.gds_layout.specs.Causes.{of_stream}
use Rattle.gds_layout.specs.Drafts.{AreDrawn}
use Rattle.gds_layout.specs.FedSoFar.{FedSoFar}
use Rattle.gds_layout.specs.declared.reader.LayoutReader.TheInside.{Inside}

-- the bytes fed and the fault
abbrev pub fed_so_far : Inside → FedSoFar
fed_so_far r = record { fed = r.reader.fed; fault = option_map of_stream r.reader.fault }

-- where there was no fault, the cells of the structures that were handed over are drawn
abbrev pub IsReading : Inside → Type 0
IsReading r = r.reader.fault ≡ None → AreDrawn r.reader.taken r.drawn
