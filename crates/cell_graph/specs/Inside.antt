-- The fields of a design.
use Rattle.std.specs.Prelude.{◌≡◌, []}
use Rattle.cell_graph.specs.Linked.{Linked, IsSound}
use Rattle.cell_graph.specs.Indexes.{AreIndexed}
use Rattle.cell_graph.specs.declared.design.Design.TheInside.{Inside}

abbrev pub linked : Inside → Linked
linked a = record { cells = a.cells.items; top = a.top; order = a.order.items; way = a.way }

pub record IsLinked (a : Inside) : Type 0 where
  pub sound : IsSound (linked a)
  pub nothing : a.nothing ≡ []
  pub indexed : AreIndexed a.cells.items a.indexes.items
