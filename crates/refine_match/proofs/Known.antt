-- Calls whose pairs are matched.
use Rattle.std.proofs.Common.{◌≡◌, ℕ, ◌+◌, ◌<◌, List, slice_get, Option, Some, None, is_some, IfSome, true, sym, subst, ◌∙◌, arith, true≢false}
use Rattle.std.proofs.Math.Decide.{ℕ_discrete}
use Rattle.std.proofs.lemmas.Option.{same_Some}
use Rattle.plain_netlist.specs.Netlist.{CallRow}

pub known : {X : Type 0} (o : Option X) (P : X → Type 0) → is_some o ≡ true → IfSome o P → (x : X) × P x
known None P t h = absurd (true≢false (sym t))
known (Some x) P t h = (x, h)

pub more : (P : CallRow → Type 0) (rows : List CallRow) (i : ℕ) (r : CallRow) → ((j : ℕ) (c : CallRow) → j < i → slice_get rows j ≡ Some c → P c) → slice_get rows i ≡ Some r → P r
    → (j : ℕ) (c : CallRow) → j < i + 1 → slice_get rows j ≡ Some c → P c
more P rows i r h e p j c l g = elim (ℕ_discrete j i) [
  | yes is ↦
      let s : slice_get rows i ≡ Some c = subst (λ (k : ℕ). slice_get rows k ≡ Some c) is g in
      let d : r ≡ c = same_Some _ _ (sym e ∙ s) in
      subst P d p
  | no not ↦ h j c (omega (arith, not)) g
]
