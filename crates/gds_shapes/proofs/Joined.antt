-- Records written one behind the other.
use Rattle.std.proofs.Common.{◌≡◌, ℕ, List, [], ◌∷◌, ◌++◌, refl, sym, ◌∙◌, append_assoc}
use Rattle.std.specs.List.{flat_map}
use Rattle.std.proofs.lemmas.List.{append-nil}
use Rattle.std.proofs.lemmas.Grind.{flat_map-append}
use Rattle.gds_records.specs.Records.{Rec, record_bytes, Records, ◌▸◌, bytes_of, followed_by_all}
use Rattle.gds_shapes.proofs.More.{texts}

pub bytes_more : (rs : Records) (xs : List Rec) → bytes_of (followed_by_all rs xs) ≡ bytes_of rs ++ texts xs
bytes_more rs [] = sym (append-nil (bytes_of rs))
bytes_more rs (x ∷ xs) = bytes_more (rs ▸ x) xs ∙ append_assoc (bytes_of rs) (record_bytes x) (texts xs)

-- five pieces, before the last of which four stand
pub five : {X : Type 0} (f : X → List ℕ) (a b c d e : X) (o p q r s : List ℕ) → p ≡ o ++ f a → q ≡ p ++ f b → r ≡ q ++ f c → s ≡ r ++ f d
    → s ++ f e ≡ o ++ flat_map f (a ∷ b ∷ c ∷ d ∷ e ∷ [])
five f a b c d e o p q r s e1 e2 e3 e4 = rw (e4, e3, e2, e1) (simp (append_assoc, append-nil) refl)

-- two pieces, several, two more, before the last of which these stand
pub around : {X : Type 0} (f : X → List ℕ) (middle : List X) (a b d e g : X) (o p q r s t : List ℕ) → p ≡ o ++ f a → q ≡ p ++ f b → r ≡ q ++ flat_map f middle → s ≡ r ++ f d → t ≡ s ++ f e
    → t ++ f g ≡ o ++ flat_map f (a ∷ b ∷ middle ++ d ∷ e ∷ g ∷ [])
around f middle a b d e g o p q r s t e1 e2 e3 e4 e5 = rw (e5, e4, e3, e2, e1) (simp (flat_map-append, append_assoc, append-nil) refl)
