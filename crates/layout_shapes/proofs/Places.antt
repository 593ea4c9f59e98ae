-- A single placement is the same whatever its steps.
use Rattle.std.proofs.Common.{◌≡◌, ℕ, Bool, true, false, cond, [], ◌∷◌, refl, sym, ap, ◌∙◌, arith, ℤ, pos}
use Rattle.std.specs.Prelude.{◌==◌, ◌&&◌, ◌+ℤ◌, ◌*ℤ◌}
use Rattle.std.proofs.lemmas.Bool.{eqb-true, and_parts}
use Rattle.std.proofs.lemmas.Int.{ints}
use Rattle.geo_base.specs.declared.motion.Turn.{Turn}
use Rattle.geo_base.specs.declared.shapes.Point.{Point}
use Rattle.flat_layout.specs.Arrays.{Reference, place_at, places_of}
use Rattle.flat_layout.specs.Layout.{Place}
use Rattle.cell_graph.specs.Linked.{reference}
use Rattle.gds_elements.specs.Meaning.{single}
use Rattle.layout_shapes.specs.Writable.{PlacesLaw, placing}
use Rattle.layout_shapes.specs.Written.{ref_of}

abbrev made : ℕ → Turn → Point → ℕ → ℕ → Point → Point → Reference
made cell turn origin columns rows a b = record { cell = cell; turn = turn; origin = origin; columns = columns; rows = rows; column_step = a; row_step = b }

-- the placement at the origin
abbrev first : ℕ → Turn → Point → Place
first cell turn origin = record { cell = cell; motion = record { turn = turn; dx = origin.x; dy = origin.y } }

still : (z a b : ℤ) → (z +ℤ (pos 0 *ℤ a)) +ℤ (pos 0 *ℤ b) ≡ z
still z a b = omega (arith, ints)

at_origin : (cell : ℕ) (turn : Turn) (o a b : Point) (columns rows : ℕ) → place_at (made cell turn o columns rows a b) 0 0 ≡ first cell turn o
at_origin cell turn o a b columns rows = rw (still o.x a.x b.x, still o.y a.y b.y) refl

one : (cell : ℕ) (turn : Turn) (o a b : Point) (columns rows : ℕ) → columns ≡ 1 → rows ≡ 1 → places_of (made cell turn o columns rows a b ∷ []) ≡ first cell turn o ∷ []
one cell turn o a b columns rows e f =
    ap (λ (n : ℕ). places_of (made cell turn o n rows a b ∷ [])) e ∙ ap (λ (n : ℕ). places_of (made cell turn o 1 n a b ∷ [])) f
    ∙ ap (λ (p : Place). p ∷ []) (at_origin cell turn o a b 1 1)

pub law : PlacesLaw
law d p = by_test (p.columns == 1 && p.rows == 1) refl
  where
    by_test : (b : Bool) → (p.columns == 1 && p.rows == 1) ≡ b → places_of (placing p.cell (cond b (single (ref_of d p).cell p.motion) (ref_of d p)) ∷ []) ≡ places_of (reference p ∷ [])
    by_test false e = refl
    by_test true e =
        let t = and_parts (p.columns == 1) (p.rows == 1) e in
        let o : Point = record { x = p.motion.dx; y = p.motion.dy } in
        let zero_point : Point = record { x = pos 0; y = pos 0 } in
        one p.cell p.motion.turn o zero_point zero_point 1 1 refl refl ∙ sym (one p.cell p.motion.turn o p.column_step p.row_step p.columns p.rows (eqb-true _ _ t.0) (eqb-true _ _ t.1))
