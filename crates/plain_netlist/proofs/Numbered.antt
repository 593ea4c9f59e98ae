-- In normal form each net that is named is there.
use Rattle.std.proofs.Common.{◌≡◌, ◌⊎◌, inl, inr, ℕ, suc, ◌==◌, ◌<◌, ◌≤◌, ltb, cond, Bool, true, false, List, [], ◌∷◌, length, refl, sym, true≢false, arith}
use Rattle.std.proofs.lemmas.Bool.Decides.{Decides-eqb, Decides-ltb}
use Rattle.plain_netlist.specs.Lists.{IsListed}
use Rattle.plain_netlist.specs.Normal.{appearances, AreNumbered}
use Rattle.plain_netlist.specs.Sound.{NormalNetsLaw}
use Rattle.plain_netlist.proofs.Faults.{nets_there}

least : (total next : ℕ) (xs : List ℕ) → AreNumbered total next xs → next ≤ total
least total next [] h = omega arith
least total next (x ∷ xs) (inl h) = least total next xs h.1
least total next (x ∷ xs) (inr h) = let a = least total (suc next) xs h.1 in omega arith

-- numbers that appear are below the total
pub below_total : (total next : ℕ) (xs : List ℕ) → AreNumbered total next xs → (x : ℕ) → IsListed x xs → x < total
below_total total next [] h x i = absurd i
below_total total next (y ∷ xs) (inl h) x (inl i) = let a = least total next xs h.1 in let b = h.0 in omega arith
below_total total next (y ∷ xs) (inl h) x (inr i) = below_total total next xs h.1 x i
below_total total next (y ∷ xs) (inr h) x (inl i) = let a = least total (suc next) xs h.1 in let b = h.0 in omega arith
below_total total next (y ∷ xs) (inr h) x (inr i) = below_total total (suc next) xs h.1 x i

pub normal_nets : NormalNetsLaw
normal_nets nl normal = nets_there nl (λ c n x is h. below_total (length x.nets) 0 (appearances x) (normal c x is).numbered n h)

-- a test for numbers that appear as 0, 1, 2, ..
abbrev pub numbered_by : ℕ → ℕ → List ℕ → Bool
numbered_by total next [] = next == total
numbered_by total next (x ∷ xs) = cond (ltb x next) (numbered_by total next xs) (cond (x == next) (numbered_by total (suc next) xs) false)

pick : (x next : ℕ) (P Q : Type 0) (p q : Bool) → (p ≡ true → P) → (q ≡ true → Q) → (b c : Bool) → ltb x next ≡ b → (x == next) ≡ c → cond b p (cond c q false) ≡ true
    → ((x < next) × P) ⊎ ((x ≡ next) × Q)
pick x next P Q p q f g true c e d k = inl ((Decides-ltb x next).0 e, f k)
pick x next P Q p q f g false true e d k = inr ((Decides-eqb x next).0 d, g k)
pick x next P Q p q f g false false e d k = absurd (true≢false (sym k))

pub numbered : (total next : ℕ) (xs : List ℕ) → numbered_by total next xs ≡ true → AreNumbered total next xs
numbered total next [] h = (Decides-eqb _ _).0 h
numbered total next (x ∷ xs) h =
    pick x next (AreNumbered total next xs) (AreNumbered total (suc next) xs) (numbered_by total next xs) (numbered_by total (suc next) xs)
    (λ k. numbered total next xs k) (λ k. numbered total (suc next) xs k) (ltb x next) (x == next) refl refl h
