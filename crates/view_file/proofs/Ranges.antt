-- The numbers below a count.
use Rattle.std.proofs.Common.{◌≡◌, ◌<◌, ◌∙◌, ℕ, suc, ◌+◌, List, [], ◌∷◌, ◌++◌, length, map, get_or, sym, subst, ap, arith}
use Rattle.base_laws.proofs.Lists.{range_more}
use Rattle.std.specs.List.{All, range_with_len}
use Rattle.std.proofs.lemmas.List.{length-map}
use Rattle.std.proofs.lemmas.List.FromFn.{get_or-range_with_len, length-range_with_len}
use Rattle.net_model.specs.Rows.{plain_circuit}
use Rattle.net_model.specs.declared.netlist.Circuit.{Circuit}

pub next : (n : ℕ) → range_with_len 0 (n + 1) ≡ range_with_len 0 n ++ n ∷ []
next n = ap (λ m. range_with_len 0 m) (let f : n + 1 ≡ suc n = omega arith in f) ∙ range_more 0 n ∙ ap (λ b. range_with_len 0 n ++ b ∷ []) (let e : 0 + n ≡ n = omega arith in e)

in_range : (n : ℕ) → All (λ k. k < n) (range_with_len 0 n)
in_range n k d lt =
    let l = length-range_with_len 0 n in
    let at : get_or (range_with_len 0 n) k d ≡ 0 + k = get_or-range_with_len 0 n k d (omega (arith, lt, l)) in
    omega (arith, at, lt, l)

-- the circuits of all numbers are there
pub all_there : (cs : List Circuit) (count : ℕ) (order : List ℕ) → count ≡ length cs → order ≡ range_with_len 0 count → All (λ k. k < length cs) order
all_there cs count order e f =
    subst (λ (ks : List ℕ). All (λ k. k < length cs) ks) (sym (f ∙ ap (λ n. range_with_len 0 n) e)) (in_range (length cs))

pub all_numbers : (cs : List Circuit) (count : ℕ) (order : List ℕ) → count ≡ length cs → order ≡ range_with_len 0 count → order ≡ range_with_len 0 (length (map plain_circuit cs))
all_numbers cs count order e f = f ∙ ap (λ n. range_with_len 0 n) (e ∙ sym (length-map cs plain_circuit))
