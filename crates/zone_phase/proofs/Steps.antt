-- Disturbed squares of a cell from those of its parents.
use Rattle.std.proofs.Common.{◌≡◌, inl, inr, true, [], ◌∷◌, sym, subst}
use Rattle.geo_base.specs.Motions.{moved_square}
use Rattle.rect_sets.specs.Rects.{covers}
use Rattle.flat_layout.specs.Layout.{IsDisturbed}
use Rattle.cell_graph.specs.Linked.{plain, motion_at, hull_of, cell_at}
use Rattle.cell_graph.proofs.Growing as growing
use Rattle.deep_laws.proofs.Zones.{array_zones}
use Rattle.deep_tables.specs.Frames.{IsInGrown}
use Rattle.zone_phase.specs.Steps.{GrownLaw, ZoneStepLaw}

pub grown_up : GrownLaw
grown_up n d cell i row column p q sound step h = growing.grown_up n d cell i row column p q sound step h

pub zone_step : ZoneStepLaw
zone_step n d zones cell key zone sound above made q = (to, from)
  where
    to : covers zone q ≡ true → IsDisturbed (plain d) (key ∷ []) cell q × IsInGrown n (hull_of (cell_at d cell)) q
    to e =
        let h = (made q).0 e in
        let b = h.0 in (
          (array_zones d sound cell key q).1 (record {
            parent = b.parent;
            index = b.index;
            row = b.row;
            column = b.column;
            from = b.from;
            reached = b.reached;
            step = b.step;
            here = b.here;
            why = elim b.why [
              | inl z ↦ inl ((above b.parent b.index b.row b.column b.from b.reached b.step b.here (moved_square (motion_at b.from b.row b.column) q)).0 z).0
              | inr o ↦ inr o
            ];
          }),
          h.1,
        )

    from : IsDisturbed (plain d) (key ∷ []) cell q × IsInGrown n (hull_of (cell_at d cell)) q → covers zone q ≡ true
    from (h, g) =
        let b = (array_zones d sound cell key q).0 h in
        let up = grown_up n d b.parent b.index b.row b.column b.from q sound b.step (subst (λ c. IsInGrown n (hull_of (cell_at d c)) q) (sym b.here) g) in
        (made q).1 (
          record {
            parent = b.parent;
            index = b.index;
            row = b.row;
            column = b.column;
            from = b.from;
            reached = b.reached;
            step = b.step;
            here = b.here;
            why = elim b.why [
              | inl z ↦ inl ((above b.parent b.index b.row b.column b.from b.reached b.step b.here (moved_square (motion_at b.from b.row b.column) q)).1 (z, up))
              | inr o ↦ inr o
            ];
          },
          g,
        )
