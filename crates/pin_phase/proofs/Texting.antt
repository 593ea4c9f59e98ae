-- The tags of the nets of pieces.
use Rattle.std.proofs.Common.{◌≡◌, ◌⊎◌, inl, inr, ℕ, suc, zero, ◌<◌, ◌+◌, List, [], ◌∷◌, ◌++◌, length, take, get_or, refl, sym, ◌∙◌, ap, subst, arith}
use Rattle.std.proofs.Math.Seq.{take-length}
use Rattle.std.proofs.lemmas.List.{take_more}
use Rattle.net_link_laws.specs.declared.piece.NetPiece.{NetPiece}
use Rattle.pin_phase.specs.Corners.{IsPieceOf}
use Rattle.pin_phase.specs.Sets.{Adds}

-- these nets have the text
abbrev pub IsTold : List NetPiece → List ℕ → ℕ → List ℕ → Type 0
IsTold pieces text x s = IsPieceOf pieces x × (s ≡ text)

pub none_told : (text : List ℕ) (tags : List (List (List ℕ))) → Adds (IsTold [] text) tags tags
none_told text tags = record { count = refl; each = λ x s. ((λ h. inl h), (λ h. elim h [ inl a ↦ a | inr e ↦ absurd e.0 ])) }

pub piece_at : (pieces : List NetPiece) (i : ℕ) (d : NetPiece) → i < length pieces → IsPieceOf pieces (get_or pieces i d).net
piece_at [] i d lt = absurd (omega arith)
piece_at (p ∷ ps) zero d lt = inl refl
piece_at (p ∷ ps) (suc i) d lt = inr (piece_at ps i d (omega arith))

of_front : (ps : List NetPiece) (p : NetPiece) (x : ℕ) → IsPieceOf ps x → IsPieceOf (ps ++ p ∷ []) x
of_front [] p x h = absurd h
of_front (q ∷ ps) p x (inl e) = inl e
of_front (q ∷ ps) p x (inr h) = inr (of_front ps p x h)

of_last : (ps : List NetPiece) (p : NetPiece) (x : ℕ) → x ≡ p.net → IsPieceOf (ps ++ p ∷ []) x
of_last [] p x e = inl (sym e)
of_last (q ∷ ps) p x e = inr (of_last ps p x e)

of_split : (ps : List NetPiece) (p : NetPiece) (x : ℕ) → IsPieceOf (ps ++ p ∷ []) x → IsPieceOf ps x ⊎ (x ≡ p.net)
of_split [] p x (inl e) = inr (sym e)
of_split [] p x (inr h) = absurd h
of_split (q ∷ ps) p x (inl e) = inl (inl e)
of_split (q ∷ ps) p x (inr h) = elim (of_split ps p x h) [ inl a ↦ inl (inr a) | inr e ↦ inr e ]

one_told : (ps : List NetPiece) (p : NetPiece) (text : List ℕ) (first old new : List (List (List ℕ))) → Adds (IsTold ps text) first old → Adds (λ (x : ℕ) (s : List ℕ). (x ≡ p.net) × (s ≡ text)) old new → Adds (IsTold (ps ++ p ∷ []) text) first new
one_told ps p text first old new h g = record {
  count = g.count ∙ h.count;
  each = λ x s.
      let a = h.each x s in let b = g.each x s in (
        (λ m. elim (b.0 m) [
          | inl k ↦ elim (a.0 k) [ inl f ↦ inl f | inr e ↦ inr (of_front ps p x e.0, e.1) ]
          | inr e ↦ inr (of_last ps p x e.0, e.1)
        ]),
        (λ m. elim m [
          | inl f ↦ b.1 (inl (a.1 (inl f)))
          | inr e ↦ elim (of_split ps p x e.0) [ inl k ↦ b.1 (inl (a.1 (inr (k, e.1)))) | inr k ↦ b.1 (inr (k, e.1)) ]
        ]),
      );
}

pub more_told : (pieces : List NetPiece) (i : ℕ) (d : NetPiece) (text : List ℕ) (first old new : List (List (List ℕ))) → i < length pieces → Adds (IsTold (take i pieces) text) first old → Adds (λ (x : ℕ) (s : List ℕ). (x ≡ (get_or pieces i d).net) × (s ≡ text)) old new → Adds (IsTold (take (i + 1) pieces) text) first new
more_told pieces i d text first old new lt h g = subst (λ (l : List NetPiece). Adds (IsTold l text) first new) (sym (take_more pieces i d lt)) (one_told (take i pieces) (get_or pieces i d) text first old new h g)

pub all_told : (pieces : List NetPiece) (n : ℕ) (text : List ℕ) (first new : List (List (List ℕ))) → n ≡ length pieces → Adds (IsTold (take n pieces) text) first new → Adds (IsTold pieces text) first new
all_told pieces n text first new e h = subst (λ (l : List NetPiece). Adds (IsTold l text) first new) (ap (λ k. take k pieces) e ∙ take-length pieces) h
