-- Marks at nets with tags, and base names, net by net.
use Rattle.std.proofs.Common.{◌≡◌, ◌↔◌, inl, ℕ, zero, suc, Bool, true, false, List, [], ◌∷◌, ◌++◌, append_assoc, Some, length, map, get_or, slice_get, refl, sym, ◌∙◌, ap, subst, arith}
use Rattle.plain_netlist.specs.Lists.{IsListed}
use Rattle.pin_phase.specs.Bases.{AreBasesOf, IsBaseOf}
use Rattle.pin_phase.specs.Sets.{HasAny}

abbrev pub has_some : {A : Type 0} → List A → Bool
has_some [] = false
has_some (x ∷ xs) = true

some_any : {A : Type 0} (xs : List A) → (has_some xs ≡ true) ↔ ((s : A) × IsListed s xs)
some_any [] = ((λ e. absurd (let z : ⊥ = cc in z)), (λ h. absurd h.1))
some_any (x ∷ xs) = ((λ e. (x, inl refl)), (λ h. refl))

-- the marks of lists
pub marks_all : {A B : Type 0} (f : A → List B) (lists : List A) (x : ℕ) → (get_or (map (λ v. has_some (f v)) lists) x false ≡ true) ↔ HasAny (map f lists) x
marks_all f [] x = ((λ e. absurd (let z : ⊥ = cc in z)), (λ h. absurd h.1))
marks_all f (l ∷ lists) zero = some_any (f l)
marks_all f (l ∷ lists) (suc x) = marks_all f lists x

-- each list with its base name
abbrev AreEach : List (List (List ℕ)) → List (List ℕ) → Type 0
AreEach [] [] = Unit {0}
AreEach [] (n ∷ names) = ⊥
AreEach (t ∷ tags) [] = ⊥
AreEach (t ∷ tags) (n ∷ names) = IsBaseOf t n × AreEach tags names

-- the first lists have their base names, and the rest is left
pub record AreBasesTo (all rest : List (List (List ℕ))) (names : List (List ℕ)) : Type 0 where
  pub first : List (List (List ℕ))
  pub parts : all ≡ first ++ rest
  pub each : AreEach first names

pub bases_none : (all : List (List (List ℕ))) → AreBasesTo all all []
bases_none all = record { first = []; parts = refl; each = tt }

each_push : (tags : List (List (List ℕ))) (names : List (List ℕ)) (t : List (List ℕ)) (n : List ℕ) → AreEach tags names → IsBaseOf t n → AreEach (tags ++ t ∷ []) (names ++ n ∷ [])
each_push [] [] t n h is = (is, tt)
each_push [] (m ∷ names) t n h is = absurd h
each_push (u ∷ tags) [] t n h is = absurd h
each_push (u ∷ tags) (m ∷ names) t n h is = (h.0, each_push tags names t n h.1 is)

pub bases_more : (all rest tail : List (List (List ℕ))) (t : List (List ℕ)) (names : List (List ℕ)) (n : List ℕ) → rest ≡ t ∷ tail → IsBaseOf t n → AreBasesTo all rest names → AreBasesTo all tail (names ++ n ∷ [])
bases_more all rest tail t names n e is h = record {
  first = h.first ++ t ∷ [];
  parts = h.parts ∙ ap (λ (l : List (List (List ℕ))). h.first ++ l) e ∙ sym (append_assoc h.first (t ∷ []) tail);
  each = each_push h.first names t n h.each is;
}

each_long : (tags : List (List (List ℕ))) (names : List (List ℕ)) → AreEach tags names → length names ≡ length tags
each_long [] [] h = refl
each_long [] (n ∷ names) h = absurd h
each_long (t ∷ tags) [] h = absurd h
each_long (t ∷ tags) (n ∷ names) h = ap suc (each_long tags names h.1)

each_at : (tags : List (List (List ℕ))) (names : List (List ℕ)) (x : ℕ) (base : List ℕ) → AreEach tags names → slice_get names x ≡ Some base → IsBaseOf (get_or tags x []) base
each_at tags [] x base h e = absurd (let z : ⊥ = cc in z)
each_at [] (n ∷ names) x base h e = absurd h
each_at (t ∷ tags) (n ∷ names) zero base h e = subst (IsBaseOf t) (let f : Some n ≡ Some base = e in let g : n ≡ base = cc in g) h.0
each_at (t ∷ tags) (n ∷ names) (suc x) base h e = each_at tags names x base h.1 e

append_none : (xs : List (List (List ℕ))) → xs ++ [] ≡ xs
append_none [] = refl
append_none (x ∷ xs) = ap (λ (l : List (List (List ℕ))). x ∷ l) (append_none xs)

pub bases_all : (all rest : List (List (List ℕ))) (names : List (List ℕ)) → rest ≡ [] → AreBasesTo all rest names → AreBasesOf all names
bases_all all rest names e h =
    let same : all ≡ h.first = h.parts ∙ ap (λ (l : List (List (List ℕ))). h.first ++ l) e ∙ append_none h.first in
    record {
      count = each_long h.first names h.each ∙ ap length (sym same);
      each = λ x base at. subst (λ (l : List (List (List ℕ))). IsBaseOf (get_or l x []) base) (sym same) (each_at h.first names x base h.each at);
    }

pub nothing : {A : Type 0} (xs : List A) → length xs ≡ 0 → xs ≡ []
nothing [] e = refl
nothing (x ∷ xs) e = absurd (omega arith)
