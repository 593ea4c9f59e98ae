-- Cells that draw and place the same are one plain layout.
use Rattle.std.proofs.Common.{◌≡◌, ℕ, List, [], ◌∷◌, map, refl, ap, ◌∙◌}
use Rattle.flat_layout.specs.Layout as flat
use Rattle.flat_layout.specs.declared.way.Way.{Way}
use Rattle.cell_graph.specs.declared.cells.CellPart.{CellPart}
use Rattle.cell_graph.specs.declared.cells.Place.{Place}
use Rattle.cell_graph.specs.Linked.{Linked, plain, plain_cell}
use Rattle.gds_layout.specs.Once.{contents}

plain_map : (xs ys : List CellPart) → map contents xs ≡ map contents ys → map plain_cell xs ≡ map plain_cell ys
plain_map [] [] e = refl
plain_map (x ∷ xs) [] e = absurd cc
plain_map [] (y ∷ ys) e = absurd cc
plain_map (x ∷ xs) (y ∷ ys) e =
    let first : contents x ≡ contents y = cc in
    let rest : map contents xs ≡ map contents ys = cc in
    ap (λ (p : flat.Cell × List Place). p.0 ∷ map plain_cell xs) first ∙ ap (λ (cs : List flat.Cell). plain_cell y ∷ cs) (plain_map xs ys rest)

-- designs whose cells draw and place the same, and keep squares in one way, are one plain layout
pub same_plain : (d e : Linked) → map contents d.cells ≡ map contents e.cells → d.top ≡ e.top → d.way ≡ e.way → plain d ≡ plain e
same_plain d e cells top way =
    ap (λ (cs : List flat.Cell). let f : flat.Design = record { cells = cs; top = d.top; way = d.way } in f) (plain_map d.cells e.cells cells)
    ∙ ap (λ (t : ℕ). let f : flat.Design = record { cells = map plain_cell e.cells; top = t; way = d.way } in f) top
    ∙ ap (λ (w : Way). let f : flat.Design = record { cells = map plain_cell e.cells; top = e.top; way = w } in f) way
