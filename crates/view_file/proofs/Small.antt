-- Regions whose rectangles are small, one after the other.
use Rattle.std.proofs.Common.{◌≡◌, ◌-◌, ◌≤◌, length, take, drop, get_or, sym, subst, arith, List}
use Rattle.std.specs.List.{All}
use Rattle.std.proofs.lemmas.List.Elements.{All-drop, All-take}
use Rattle.view_words.specs.Numbers.{IsSmallRect}
use Rattle.view_file.specs.declared.regions.Region.{Region}

abbrev pub IsSmallRegion : Region → Type 0
IsSmallRegion r = All IsSmallRect r.rects.items

abbrev pub AreSmallRegions : List Region → Type 0
AreSmallRegions rs = All IsSmallRegion rs

pub small_first : (rs : List Region) (r : Region) → 1 ≤ length rs → r ≡ get_or rs 0 r → AreSmallRegions rs → IsSmallRegion r
small_first rs r some e h = subst IsSmallRegion (sym e) (h 0 r (omega (arith, some)))

pub small_rest : (rs : List Region) → AreSmallRegions rs → AreSmallRegions (take (length rs - 1) (drop 1 rs))
small_rest rs h = All-take IsSmallRegion (length rs - 1) (drop 1 rs) (All-drop IsSmallRegion 1 rs h)
