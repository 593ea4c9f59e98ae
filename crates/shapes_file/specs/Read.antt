-- Layouts that were read fit a stream.
use Rattle.std.specs.Prelude.{ℕ, List, Option}
use Rattle.gds_layout.specs.declared.layout.Layout.{Layout}
use Rattle.gds_layout.specs.Layouts.{IsRead}
use Rattle.layout_shapes.specs.Writable.{FitsStream}

-- what was read of some bytes, from some top, can be written and read again
abbrev pub FitsStreamLaw : Type 0
FitsStreamLaw = (bytes : List ℕ) (top : Option (List ℕ)) (l : Layout) → IsRead bytes top l
    → FitsStream l
