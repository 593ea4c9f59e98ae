-- A design is as sound in each way of keeping squares.
use Rattle.std.proofs.Common.{ℕ, map}
use Rattle.flat_layout.specs.Layout as flat
use Rattle.flat_layout.specs.declared.way.Way.{Way}
use Rattle.flat_laws.proofs.Anyway.{hull_is, reached, takes_point}
use Rattle.cell_graph.specs.Linked.{Linked, IsSound, IsOrder, cell_at, hull_of, keeping, plain_cell, origin}

order_kept : (way : Way) (d : Linked) → IsOrder d → IsOrder (keeping way d)
order_kept way d h =
    let cells = map plain_cell d.cells in
    record {
      few = h.few;
      inside = h.inside;
      reached = λ k lt. reached cells d.top d.way way _ (h.reached k lt);
      all = λ cell there. h.all cell (reached cells d.top way d.way cell there);
      once = h.once;
      rising = h.rising;
    }

pub sound_kept : (way : Way) (d : Linked) → IsSound d → IsSound (keeping way d)
sound_kept way d h =
    let cells = map plain_cell d.cells in
    record {
      count = h.count;
      top = h.top;
      each = h.each;
      hulls = record { each = λ cell. hull_is cells d.top d.way way cell (hull_of (cell_at d cell)) (h.hulls.each cell) };
      paths = record { each = λ from to path p takes. h.paths.each from to path p (takes_point cells d.top way d.way from path to origin p takes) };
      order = order_kept way d h.order;
      levels = record { just = h.levels.just; filed = h.levels.filed };
    }
