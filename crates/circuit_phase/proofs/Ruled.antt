-- Which rule a device's number is.
use Rattle.std.proofs.Common.{◌≡◌, ◌<◌, ◌+◌, ℕ, zero, suc, List, [], ◌∷◌, ◌++◌, Some, length, map, slice_get, refl, subst, arith}
use Rattle.flat_layout.specs.Gates.{Rule}
use Rattle.rule_layers.specs.Meaning.{device_rule, device_rules, more_rule}
use Rattle.rule_text.specs.Rules.{Rules}
use Rattle.rule_text.specs.declared.rules.MoreRule.{MoreRule}
use Rattle.rule_text.specs.declared.rules.MosRule.{MosRule}

first_of : {A : Type 0} (f : A → Rule) (xs : List A) (ys : List Rule) (n : ℕ) (u : Rule) → n < length xs → slice_get (map f xs ++ ys) n ≡ Some u → (x : A) × (slice_get xs n ≡ Some x) × (f x ≡ u)
first_of f [] ys n u lt h = absurd (let z : ⊥ = omega (arith, lt) in z)
first_of f (x ∷ xs) ys zero u lt h = (x, refl, cc)
first_of f (x ∷ xs) ys (suc n) u lt h = first_of f xs ys n u (omega (arith, lt)) h

of_map : {A : Type 0} (f : A → Rule) (xs : List A) (n : ℕ) (u : Rule) → slice_get (map f xs) n ≡ Some u → (x : A) × (slice_get xs n ≡ Some x) × (f x ≡ u)
of_map f [] n u h = absurd (let z : ⊥ = cc in z)
of_map f (x ∷ xs) zero u h = (x, refl, cc)
of_map f (x ∷ xs) (suc n) u h = of_map f xs n u h

second_of : {A B : Type 0} (f : A → Rule) (g : B → Rule) (xs : List A) (ys : List B) (n k : ℕ) (u : Rule) → n ≡ length xs + k → slice_get (map f xs ++ map g ys) n ≡ Some u → (y : B) × (slice_get ys k ≡ Some y) × (g y ≡ u)
second_of f g [] ys n k u e h = let same : n ≡ k = omega (arith, e) in of_map g ys k u (subst (λ (m : ℕ). slice_get (map g ys) m ≡ Some u) same h)
second_of f g (x ∷ xs) ys zero k u e h = absurd (let z : ⊥ = omega (arith, e) in z)
second_of f g (x ∷ xs) ys (suc n) k u e h = second_of f g xs ys n k u (omega (arith, e)) h

pub is_mos : (r : Rules) (n : ℕ) (u : Rule) → n < length r.devices → slice_get (device_rules r) n ≡ Some u → (m : MosRule) × (slice_get r.devices n ≡ Some m) × (device_rule r m ≡ u)
is_mos r n u lt h = first_of (device_rule r) r.devices (map (more_rule r) r.more) n u lt h

pub is_more : (r : Rules) (n k : ℕ) (u : Rule) → n ≡ length r.devices + k → slice_get (device_rules r) n ≡ Some u → (m : MoreRule) × (slice_get r.more k ≡ Some m) × (more_rule r m ≡ u)
is_more r n k u e h = second_of (device_rule r) (more_rule r) r.devices r.more n k u e h
