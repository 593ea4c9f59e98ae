-- Links of a cell's rectangles and placements, found apart.
use Rattle.std.specs.Prelude.{ℕ, List}
use Rattle.flat_layout.specs.Layout.{Design}
use Rattle.flat_layout.specs.Nets.{Tables}
use Rattle.flat_layout.specs.Regions.{Wiring}
use Rattle.link_classes.specs.declared.classes.Link.{Link}
use Rattle.net_walk.specs.Beside.{AddsBeside}
use Rattle.net_walk.specs.Owned.{AreOwnLinks}
use Rattle.net_walk.specs.Pairs.{AddsChildren}

-- of two rectangles or two placements
abbrev pub AreApartLinks : Design → Wiring → Tables → ℕ → List Link → Type 0
AreApartLinks d w t cell links =
    (own : List Link) × AreOwnLinks d w t cell own × AddsChildren d w t cell own links

-- and of a rectangle and a placement
abbrev pub AreSquareLinks : Design → Wiring → Tables → ℕ → List Link → Type 0
AreSquareLinks d w t cell links =
    (apart : List Link) × AreApartLinks d w t cell apart × AddsBeside d w t cell apart links
