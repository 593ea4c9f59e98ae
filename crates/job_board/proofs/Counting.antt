-- How many of the numbers below n.
use Rattle.std.proofs.Common.{◌≡◌, ◌≢◌, ℕ, zero, suc, ◌+◌, ◌<◌, ◌≤◌, Bool, true, false, refl, sym, ap, ◌∙◌, arith}
use Rattle.std.proofs.Math.Decide.{ℕ_discrete}
use mathlib.Core.Logic.{dite}
use Rattle.job_board.specs.Rule.{how_many, one_if}

pub one_if_small : (b : Bool) → one_if b ≤ 1
one_if_small true = omega arith
one_if_small false = omega arith

pub how_many_small : (f : ℕ → Bool) (n : ℕ) → how_many f n ≤ n
how_many_small f zero = omega arith
how_many_small f (suc n) = let a = how_many_small f n in let b = one_if_small (f n) in omega arith

-- all of them
pub all_of_them : (f : ℕ → Bool) (n : ℕ) → how_many f n ≡ n → (j : ℕ) → j < n → f j ≡ true
all_of_them f zero e j l = absurd (omega arith)
all_of_them f (suc n) e j l = last (f n) refl (λ h m. all_of_them f n h j m) where
  last : (b : Bool) → f n ≡ b → (how_many f n ≡ n → j < n → f j ≡ true) → f j ≡ true
  last true b ih = let o : one_if (f n) ≡ 1 = ap one_if b in dite (ℕ_discrete j n) (λ s. ap f s ∙ b) (λ s. ih (omega arith) (omega arith))
  last false b ih = let h = how_many_small f n in let o : one_if (f n) ≡ 0 = ap one_if b in absurd (omega arith)

pub same_many : (f g : ℕ → Bool) (n : ℕ) → ((k : ℕ) → k < n → f k ≡ g k) → how_many f n ≡ how_many g n
same_many f g zero e = refl
same_many f g (suc n) e = let a = same_many f g n (λ k l. e k (omega arith)) in let b = ap one_if (e n (omega arith)) in omega arith

-- one more
pub one_more : (f g : ℕ → Bool) (j n : ℕ) → j < n → f j ≡ false → g j ≡ true → ((k : ℕ) → k ≢ j → g k ≡ f k) → how_many g n ≡ how_many f n + 1
one_more f g j zero l a b e = absurd (omega arith)
one_more f g j (suc n) l a b e = dite (ℕ_discrete j n)
    (λ s. let h = same_many g f n (λ k m. e k (λ z. absurd (omega arith))) in let x : one_if (f n) ≡ 0 = ap (λ z. one_if (f z)) (sym s) ∙ ap one_if a in let y : one_if (g n) ≡ 1 = ap (λ z. one_if (g z)) (sym s) ∙ ap one_if b in omega arith)
    (λ s. let h = one_more f g j n (omega arith) a b e in let x = ap one_if (e n (λ z. s (sym z))) in omega arith)

pub how_many_all : (f : ℕ → Bool) (n : ℕ) → ((j : ℕ) → j < n → f j ≡ true) → how_many f n ≡ n
how_many_all f zero e = refl
how_many_all f (suc n) e = let a = how_many_all f n (λ j l. e j (omega arith)) in let b = ap one_if (e n (omega arith)) in omega arith
