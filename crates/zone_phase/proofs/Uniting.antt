-- What a cell leaves for two lists of layers together.
use Rattle.std.proofs.Common.{◌≡◌, inl, inr, ℕ, Bool, true, false, ◌||◌, ◌++◌, List, refl, sym, ◌∙◌}
use Rattle.std.proofs.lemmas.Bool.{false≢true, or_cases}
use Rattle.geo_base.specs.declared.layer.LayerKey.{LayerKey}
use Rattle.geo_base.specs.declared.shapes.Rect.{Rect}
use Rattle.geo_base.specs.declared.shapes.Square.{Square}
use Rattle.rect_sets.specs.Rects.{covers}
use Rattle.flat_laws.proofs.Names.{more_left, more_right}
use Rattle.flat_laws.proofs.Shut.{shut_both, shut_fewer}
use Rattle.cell_graph.specs.Linked.{Linked, plain}
use Rattle.deep_tables.specs.Frames.{IsFramedOpen}

neither : (s t : Bool) → (s || t) ≡ false → (s ≡ false) × (t ≡ false)
neither true t e = absurd (false≢true (sym e))
neither false t e = (refl, e)

pub united : (a b r : List Rect) → ((s : Square) → covers r s ≡ (covers a s || covers b s)) → (margin : ℕ) (d : Linked) (xs ys : List LayerKey) (cell : ℕ) → IsFramedOpen margin d xs cell a → IsFramedOpen margin d ys cell b → IsFramedOpen margin d (xs ++ ys) cell r
united a b r e margin d xs ys cell h g = record {
  inside = λ q c. elim (or_cases (covers a q) (covers b q) (sym (e q) ∙ c)) [
    | inl x ↦ (let i = h.inside q x in (i.0, λ shut. i.1 (shut_fewer d.way (plain d) xs (xs ++ ys) cell q (λ key l. more_left (λ k. k ≡ key) xs ys l) shut)))
    | inr y ↦ (let i = g.inside q y in (i.0, λ shut. i.1 (shut_fewer d.way (plain d) ys (xs ++ ys) cell q (λ key l. more_right (λ k. k ≡ key) xs ys l) shut)))
  ];
  shut = λ q inner off.
      let none = neither (covers a q) (covers b q) (sym (e q) ∙ off) in
      shut_both d.way (plain d) xs ys cell q (h.shut q inner none.0) (g.shut q inner none.1);
}
