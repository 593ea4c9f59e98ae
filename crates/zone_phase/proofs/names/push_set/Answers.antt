use Rattle.std.proofs.Common.{subst, sym, List}
use Rattle.std.specs.List.{All}
use Rattle.std.proofs.lemmas.List.Elements.{All-push}
use Rattle.geo_base.specs.declared.shapes.Rect.{Rect}
use Rattle.rect_sets.specs.Rects.{IsCanonical}
use Rattle.zone_phase.proofs.names.push_set.Goals as goal

pub returns-clause-canonical : goal.returns-clause-canonical
returns-clause-canonical c =
    let P : List (List Rect) → Type 0 = λ sets. All IsCanonical sets in
    subst P (sym c.in_ok-push.ensures.items) (All-push IsCanonical c.args.sets.now.items c.args.set c.requires c.rects-canonical.ensures.canonical)
