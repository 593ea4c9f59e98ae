-- Notes of all cells.
use Rattle.std.proofs.Common.{◌≡◌, ℕ, ◌<◌, List, [], ◌∷◌, ◌++◌, length, map, get_or, sym, ap, ◌∙◌, subst}
use Rattle.std.proofs.lemmas.List.{get_or-map, length-map, map-append}
use Rattle.job_graph.specs.declared.notes.CellNote.{CellNote}
use Rattle.job_graph.specs.Notes.{names_of}

module _ {T A : Type 0} (f : A → ℕ) where
  -- as many notes as cells
  pub same_count : (cells : List A) (notes : List (CellNote T)) → names_of notes ≡ map f cells → length notes ≡ length cells
  same_count cells notes e = sym (length-map notes (λ (n : CellNote T). n.cell)) ∙ ap length e ∙ length-map cells f

  -- a note is that of the cell beside it
  pub named_at : (cells : List A) (notes : List (CellNote T)) (j : ℕ) (c : A) (d : CellNote T) → names_of notes ≡ map f cells → j < length notes → (get_or notes j d).cell ≡ f (get_or cells j c)
  named_at cells notes j c d e l =
      sym (get_or-map (λ (n : CellNote T). n.cell) notes j d 0 l) ∙ ap (λ xs. get_or xs j 0) e ∙ get_or-map f cells j c 0 (subst (λ n. j < n) (same_count cells notes e) l)

  -- one more cell
  pub names_more : (notes more : List (CellNote T)) (cells also : List A) (n : CellNote T) (cell : A) → names_of notes ≡ map f cells → more ≡ notes ++ n ∷ [] → also ≡ cells ++ cell ∷ [] → n.cell ≡ f cell → names_of more ≡ map f also
  names_more notes more cells also n cell e a b s =
      ap names_of a ∙ map-append (λ (m : CellNote T). m.cell) notes (n ∷ []) ∙ ap (λ xs. xs ++ n.cell ∷ []) e ∙ ap (λ x. map f cells ++ x ∷ []) s ∙ sym (ap (map f) b ∙ map-append f cells (cell ∷ []))
