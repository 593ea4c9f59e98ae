-- Nets numbered in a row.
use Rattle.std.proofs.Common.{◌≡◌, inl, inr, ℕ, zero, suc, ◌+◌, ◌<◌, List, [], ◌∷◌, ◌++◌, Some, take, slice_get, get_or, length, refl, sym, ◌∙◌, ap, subst, arith}
use Rattle.std.proofs.Math.Seq.{take-length}
use Rattle.std.proofs.lemmas.List.{take_more}
use Rattle.plain_netlist.specs.Normal.{AreNumbered}
use Rattle.circuit_phase.specs.Numbering.{AreNumbersOf, with_net}
use Rattle.circuit_phase.proofs.Counting.{at_first, kept_in}

pub numbered_on : (z m a : ℕ) (xs ys : List ℕ) → AreNumbered m a xs → AreNumbered z m ys → AreNumbered z a (xs ++ ys)
numbered_on z m a [] ys h g = subst (λ (k : ℕ). AreNumbered z k ys) (sym h) g
numbered_on z m a (x ∷ xs) ys (inl h) g = inl (h.0, numbered_on z m a xs ys h.1 g)
numbered_on z m a (x ∷ xs) ys (inr h) g = inr (h.0, numbered_on z m (suc a) xs ys h.1 g)

push_long : (l : List ℕ) (x : ℕ) → length (l ++ x ∷ []) ≡ suc (length l)
push_long [] x = refl
push_long (y ∷ l) x = ap suc (push_long l x)

-- after n nets
pub record AreNumberedTo (size : ℕ) (old : List ℕ) (count : ℕ) (mid nets : List ℕ) (n : ℕ) (numbers : List ℕ) : Type 0 where
  pub same : count ≡ size
  pub are : AreNumbersOf old mid (take n nets) numbers

pub one_more : (size count more : ℕ) (old mid new nets numbers pushed : List ℕ) (n net number : ℕ) → n < length nets → net ≡ get_or nets n 0 → more ≡ count → new ≡ with_net mid net → slice_get new number ≡ Some net → AreNumbered (length new) (length mid) (number ∷ []) → pushed ≡ numbers ++ number ∷ []
    → AreNumberedTo size old count mid nets n numbers → AreNumberedTo size old more new nets (n + 1) pushed
one_more size count more old mid new nets numbers pushed n net number lt is same added at next last h =
    let split : take (n + 1) nets ≡ take n nets ++ net ∷ [] = take_more nets n 0 lt ∙ ap (λ (x : ℕ). take n nets ++ x ∷ []) (sym is) in
    let all : AreNumbersOf old new (take n nets ++ net ∷ []) (numbers ++ number ∷ []) = record {
      kept = λ i x g. kept_in mid new net i x added (h.are.kept i x g);
      count = (let c = h.are.count in let a = push_long numbers number in let b = push_long (take n nets) net in omega (arith, a, b, c));
      each = λ i x k g f. elim (at_first (take n nets) net i x g) [
        | inl e ↦ elim (at_first numbers number i k f) [
          | inl u ↦ kept_in mid new net k x added (h.are.each i x k e u)
          | inr u ↦ absurd (past (take n nets) i x e (let v = u.0 in let c = h.are.count in omega (arith, v, c)))
        ]
        | inr e ↦ elim (at_first numbers number i k f) [
          | inl u ↦ absurd (past numbers i k u (let v = e.0 in let c = h.are.count in omega (arith, v, c)))
          | inr u ↦ subst (λ (j : ℕ). slice_get new j ≡ Some x) u.1 (subst (λ (y : ℕ). slice_get new number ≡ Some y) e.1 at)
        ]
      ];
      numbered = numbered_on (length new) (length mid) (length old) numbers (number ∷ []) h.are.numbered next;
    } in
    record {
      same = same ∙ h.same;
      are = subst (λ (l : List ℕ). AreNumbersOf old new l pushed) (sym split) (subst (λ (l : List ℕ). AreNumbersOf old new (take n nets ++ net ∷ []) l) (sym last) all);
    }
  where
    past : (l : List ℕ) (i x : ℕ) → slice_get l i ≡ Some x → i ≡ length l → ⊥
    past [] i x h e = let z : ⊥ = cc in z
    past (y ∷ l) zero x h e = absurd (omega (arith, e))
    past (y ∷ l) (suc i) x h e = past l i x h (omega (arith, e))

pub no_more : (size : ℕ) (old : List ℕ) (nets : List ℕ) (n : ℕ) (count : ℕ) (new numbers : List ℕ) → n ≡ length nets → AreNumberedTo size old count new nets n numbers → AreNumbersOf old new nets numbers
no_more size old nets n count new numbers e h = subst (λ (l : List ℕ). AreNumbersOf old new l numbers) (ap (λ (k : ℕ). take k nets) e ∙ take-length nets) h.are

pub at_start : (size : ℕ) (old nets : List ℕ) → AreNumberedTo size old size old nets 0 []
at_start size old nets = record { same = refl; are = record { kept = λ i x h. h; count = refl; each = λ i x n h g. (let z : ⊥ = cc in absurd z); numbered = refl } }
