-- One item more of a list, as a loop over it comes by it.
use Rattle.std.proofs.Common.{◌≡◌, ℕ, List, [], ◌∷◌, ◌++◌, sym, ap, ◌∙◌, append_assoc, subst, ℤ, SFits, w64, to_z, of_z}
use Rattle.std.specs.List.{flat_map}
use Rattle.std.proofs.lemmas.List.{append-nil}
use Rattle.std.proofs.lemmas.Grind.{flat_map-append}
use Rattle.std.proofs.lemmas.Int.{to_z-of_z}
use Rattle.gds_records.specs.Records.{Rec, record_bytes}
use Rattle.geo_base.specs.Near.{IsLong}

-- the bytes of records that stand one behind the other
abbrev pub texts : List Rec → List ℕ
texts rs = flat_map record_bytes rs

pub texts_push : {X : Type 0} (f : X → List Rec) (xs ys : List X) (x : X) (before so_far new : List ℕ) → ys ≡ xs ++ x ∷ []
    → so_far ≡ before ++ texts (flat_map f xs) → new ≡ so_far ++ texts (f x) → new ≡ before ++ texts (flat_map f ys)
texts_push {X} f xs ys x before so_far new e h g =
    let one : flat_map f (x ∷ []) ≡ f x = append-nil (f x) in
    let both : texts (flat_map f ys) ≡ texts (flat_map f xs) ++ texts (f x) =
    ap (λ (zs : List X). texts (flat_map f zs)) e ∙ ap (λ (rs : List Rec). texts rs) (flat_map-append f xs (x ∷ [])) ∙ flat_map-append record_bytes (flat_map f xs) (flat_map f (x ∷ []))
    ∙ ap (λ (rs : List Rec). texts (flat_map f xs) ++ texts rs) one in
    g ∙ ap (λ (bytes : List ℕ). bytes ++ texts (f x)) h ∙ append_assoc before (texts (flat_map f xs)) (texts (f x)) ∙ ap (λ (bytes : List ℕ). before ++ bytes) (sym both)

-- a coordinate as code holds it
pub as_held : (z : ℤ) → SFits w64 z → IsLong (to_z w64 (of_z w64 z)) → IsLong z
as_held z f h = let P : ℤ → Type 0 = λ x. IsLong x in subst P (to_z-of_z w64 z f) h
