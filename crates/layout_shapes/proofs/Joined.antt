-- Records written one behind the other.
use Rattle.std.proofs.Common.{◌≡◌, ℕ, List, [], ◌∷◌, ◌++◌, refl, append_assoc}
use Rattle.std.specs.Prelude.{OnOk, Result, Ok, Err}
use Rattle.std.specs.List.{flat_map}
use Rattle.std.proofs.lemmas.List.{append-nil}
use Rattle.std.proofs.lemmas.Grind.{flat_map-append}

-- a cell's start, its references, its layers and its end
pub cell_in_turn : {X : Type 0} (f : X → List ℕ) (a b d : X) (refs layers : List X) (o p q r : List ℕ)
    → p ≡ o ++ flat_map f (a ∷ b ∷ []) → q ≡ p ++ flat_map f refs → r ≡ q ++ flat_map f layers → r ++ f d ≡ o ++ flat_map f (a ∷ b ∷ (refs ++ layers) ++ d ∷ [])
cell_in_turn f a b d refs layers o p q r e1 e2 e3 = rw (e3, e2, e1) (simp (flat_map-append, append_assoc, append-nil) refl)

-- what stands before the cells, the cells, and the end
pub library_in_turn : {X : Type 0} (f : X → List ℕ) (front middle : List X) (d : X) (o p q r : List ℕ) → o ≡ []
    → p ≡ o ++ flat_map f front → q ≡ p ++ flat_map f middle → r ≡ q ++ f d → r ≡ flat_map f (front ++ middle ++ d ∷ [])
library_in_turn f front middle d o p q r e0 e1 e2 e3 = rw (e3, e2, e1, e0) (simp (flat_map-append, append_assoc, append-nil) refl)

pub whatever : {T E P : Type 0} (r : Result T E) → P → OnOk r P
whatever (Ok x) h = h
whatever (Err e) h = tt
