-- What the rules say of texts.
use Rattle.std.specs.Prelude.{ℕ, List, map}
use Rattle.std.specs.Global.{Vec}
use Rattle.flat_layout.specs.Regions.{Label}
use Rattle.pin_phase.specs.declared.lines.TextLine.{TextLine}

abbrev pub label : TextLine → Label
label l = record { key = l.key; conductor = l.conductor }

abbrev pub names_of : List (Vec ℕ) → List (List ℕ)
names_of names = map (λ v. v.items) names
