-- What the calls read together.
use Rattle.std.specs.Prelude.{◌≡◌, ◌<◌, ◌≤◌, ◌^◌, ℕ, Some, length, slice_get}
use Rattle.cell_graph.specs.Linked.{Linked, cell_at, places_at}
use Rattle.cell_graph.specs.declared.cells.Place.{Place}
use Rattle.rule_text.specs.Seen.{rules_seen}
use Rattle.layer_phase.specs.Names.{IsReady}
use Rattle.layer_phase.specs.declared.work.CellWork.{CellWork}
use Rattle.layer_phase.specs.declared.work.View.{View}

-- a reached cell of a layout, with what its cells leave for sound rules
pub record IsWork (w : CellWork) : Type 0 where
  pub inside : w.cell < length w.design.now.cells
  pub ready : IsReady w.design.now (rules_seen w.rules.now) w.zones.now w.cell

-- names that can be numbered, a mark for each, and a reach that names may have
pub record IsView (v : View) : Type 0 where
  pub few : length v.names.now < 2 ^ 32
  pub count : length v.members.now ≡ length v.names.now
  pub most : v.reach ≤ 10000

-- a reference of one of the layout's cells
pub record IsReference (d : Linked) (p : Place) : Type 0 where
  pub cell : ℕ
  pub index : ℕ
  pub there : slice_get (places_at (cell_at d cell)) index ≡ Some p
