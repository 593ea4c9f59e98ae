-- Lists of points walked from the front: what is done and what is left make the whole.
use Rattle.std.proofs.Common.{◌≡◌, ℕ, ◌+◌, ◌<◌, Bool, true, false, not, List, [], ◌∷◌, ◌++◌, length, get_or, drop, refl, sym, ap, ◌∙◌, append_assoc}
use Rattle.std.proofs.lemmas.List.{drop_more}
use Rattle.geo_base.specs.declared.shapes.Point.{Point}
use Rattle.poly_fill.specs.Fills.{same_point, distinct_behind}

-- one point on
pub kept_more : (done new whole : List Point) (last next : Point) (points : List Point) (i : ℕ) (d : Point) → i < length points → true ≡ not (same_point last (get_or points i d))
    → new ≡ done ++ get_or points i d ∷ [] → next ≡ get_or points i d → done ++ distinct_behind last (drop i points) ≡ whole → new ++ distinct_behind next (drop (i + 1) points) ≡ whole
kept_more done new whole last next points i d lt other added moved e =
    let q : Point = get_or points i d in
    let left = drop (i + 1) points in
    let apart : same_point last q ≡ false = flip (same_point last q) other in
    let here : distinct_behind last (q ∷ left) ≡ q ∷ distinct_behind q left = rw apart refl in
    ap (λ p. new ++ distinct_behind p left) moved
    ∙ ap (λ xs. xs ++ distinct_behind q left) added ∙ append_assoc done (q ∷ []) (distinct_behind q left) ∙ ap (λ xs. done ++ xs) (sym here)
    ∙ ap (λ xs. done ++ distinct_behind last xs) (sym (drop_more points i d lt)) ∙ e
  where
    flip : (b : Bool) → true ≡ not b → b ≡ false
    flip true h = h
    flip false h = refl

pub kept_same : (done new whole : List Point) (last next : Point) (points : List Point) (i : ℕ) (d : Point) → i < length points → false ≡ not (same_point last (get_or points i d))
    → new ≡ done → next ≡ last → done ++ distinct_behind last (drop i points) ≡ whole → new ++ distinct_behind next (drop (i + 1) points) ≡ whole
kept_same done new whole last next points i d lt same added moved e =
    let q : Point = get_or points i d in
    let left = drop (i + 1) points in
    let one : same_point last q ≡ true = flip (same_point last q) same in
    let here : distinct_behind last (q ∷ left) ≡ distinct_behind last left = rw one refl in
    ap (λ p. new ++ distinct_behind p left) moved ∙ ap (λ xs. xs ++ distinct_behind last left) added
    ∙ ap (λ xs. done ++ xs) (sym here) ∙ ap (λ xs. done ++ distinct_behind last xs) (sym (drop_more points i d lt)) ∙ e
  where
    flip : (b : Bool) → false ≡ not b → b ≡ true
    flip true h = refl
    flip false h = h
