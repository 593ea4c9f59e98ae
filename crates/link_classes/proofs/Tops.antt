-- Each tree has one top: all ways up from its numbers end there.
use Rattle.std.proofs.Common.{◌≡◌, ◌⊎◌, inl, inr, ℕ, zero, suc, ◌+◌, ◌<◌, ◌≤◌, List, [], ◌∷◌, length, get_or, refl, sym, ◌∙◌, ap, subst, arith}
use Rattle.std.proofs.Math.Decide.{ℕ_discrete}
use Rattle.plain_netlist.specs.Chains.{IsChain}
use Rattle.link_classes.specs.Forest.{IsUp, IsEdge, InOneTree, IsTop, IsForest}

-- so many steps up
up : List ℕ → ℕ → ℕ → ℕ
up p zero x = x
up p (suc n) x = up p n (get_or p x 0)

module _ (p r : List ℕ) (forest : IsForest p r) where
  up_stays : (n x : ℕ) → get_or p x 0 ≡ x → up p n x ≡ x
  unfolding up
  up_stays zero x e = refl
  up_stays (suc n) x e = ap (up p n) e ∙ up_stays n x e

  up_in : (n x : ℕ) → x < length p → up p n x < length p
  unfolding up
  up_in zero x lt = lt
  up_in (suc n) x lt = up_in n (get_or p x 0) (forest.inside x lt)

  -- a step at a time, at a top or ever higher
  higher : (n x : ℕ) → x < length p → (get_or p (up p n x) 0 ≡ up p n x) ⊎ (n + get_or r x 0 ≤ get_or r (up p n x) 0)
  unfolding up
  higher zero x lt = inr (omega arith)
  higher (suc n) x lt = elim (ℕ_discrete (get_or p x 0) x) [
    | yes e ↦ let stay : up p n (get_or p x 0) ≡ x = ap (up p n) e ∙ up_stays n x e in inl (subst (λ k. get_or p k 0 ≡ k) (sym stay) e)
    | no not ↦
        let a = forest.rises x lt not in
        elim (higher n (get_or p x 0) (forest.inside x lt)) [ inl h ↦ inl h | inr h ↦ inr (omega arith) ]
  ]

  top_of : ℕ → ℕ
  top_of x = up p (length p + 1) x

  is_top : (x : ℕ) → x < length p → get_or p (top_of x) 0 ≡ top_of x
  unfolding top_of
  is_top x lt = elim (higher (length p + 1) x lt) [
    | inl h ↦ h
    | inr h ↦ let a = forest.few (up p (length p + 1) x) (up_in (length p + 1) x lt) in absurd (omega arith)
  ]

  up_last : (n x : ℕ) → up p n (get_or p x 0) ≡ get_or p (up p n x) 0
  unfolding up
  up_last zero x = refl
  up_last (suc n) x = up_last n (get_or p x 0)

  same_up : (i j : ℕ) → IsUp p i j → top_of i ≡ top_of j
  unfolding top_of
  same_up i j (lt, e) = sym (ap (up p (length p + 1)) (sym e) ∙ up_last (length p + 1) i ∙ is_top i lt)

  same_edge : (i j : ℕ) → IsEdge p i j → top_of i ≡ top_of j
  same_edge i j (inl h) = same_up i j h
  same_edge i j (inr h) = sym (same_up j i h)

  same_chain : (i j : ℕ) (via : List ℕ) → IsChain (IsEdge p) i via j → top_of i ≡ top_of j
  same_chain i j [] h = ap top_of h
  same_chain i j (x ∷ xs) h = same_edge i x h.0 ∙ same_chain x j xs h.1

  of_top : (i : ℕ) → IsTop p i → top_of i ≡ i
  unfolding top_of
  of_top i h = up_stays (length p + 1) i h.1

  -- two tops of one tree are one
  pub one_top : (i j : ℕ) → IsTop p i → IsTop p j → InOneTree p i j → i ≡ j
  one_top i j a b way = sym (of_top i a) ∙ same_chain i j way.via way.chain ∙ of_top j b
