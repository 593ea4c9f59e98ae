-- A word round its first `=`.
use Rattle.std.proofs.Common.{◌≡◌, ℕ, Bool, List, [], ◌∷◌, length, map, Option, Some, None, refl, sym, ◌∙◌, ap, arith}
use Rattle.std.specs.Prelude.{◌||◌}
use Rattle.std.specs.Str.{bytes_eq}
use Rattle.std.specs.Borrow.{Bor}
use Rattle.std.specs.List.{list_any}
use Rattle.std.proofs.lemmas.List.{length-map}
use Rattle.std.proofs.lemmas.Str.Pattern.{IsSplitOnceResult, split_once_first}
use Rattle.netlist_run.specs.Words.{AreParts}

pub parts_are : (word : List ℕ) (r : Option (Bor (List ℕ) × Bor (List ℕ))) → IsSplitOnceResult 0x3D word r → AreParts word r
parts_are word None h = let e = split_once_first 0x3D word None h (omega arith) in grind arith
parts_are word (Some p) h = let e = split_once_first 0x3D word (Some p) h (omega arith) in (let lt = e.0 in grind arith, e.1, e.2)

pub any_mapped : {A : Type 0} (g : A → List ℕ) (test : List ℕ → Bool) (xs : List A) → list_any test (map g xs) ≡ list_any (λ x. test (g x)) xs
any_mapped g test [] = refl
any_mapped g test (x ∷ xs) = ap (λ (b : Bool). test (g x) || b) (any_mapped g test xs)

pub count_is : {A : Type 0} (g : A → List ℕ) (xs : List A) (n : ℕ) → n ≡ length xs → n ≡ length (map g xs)
count_is g xs n e = e ∙ sym (length-map xs g)

pub behind_is : {A : Type 0} (g : A → List ℕ) (path : List ℕ) (xs : List A) (r : Bool) → r ≡ list_any (λ x. bytes_eq path (g x)) xs → r ≡ list_any (λ q. bytes_eq path q) (map g xs)
behind_is g path xs r e = e ∙ sym (any_mapped g (λ q. bytes_eq path q) xs)

pub input_is : {A : Type 0} (g : A → List ℕ) (out : List ℕ) (xs : List A) (r : Bool) → r ≡ list_any (λ x. bytes_eq (g x) out) xs → r ≡ list_any (λ p. bytes_eq p out) (map g xs)
input_is g out xs r e = e ∙ sym (any_mapped g (λ p. bytes_eq p out) xs)
