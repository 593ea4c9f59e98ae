-- The random sequence, and the inverters that it gives.
use Rattle.std.proofs.Common.{◌≡◌, ℕ, zero, suc, ◌+◌, ◌-◌, ◌*◌, min, List, [], ◌∷◌, ◌++◌, map, refl, sym, ap, ◌∙◌, arith}
use Rattle.std.specs.List.{range_with_len}
use Rattle.std.proofs.lemmas.List.FromFn.{map-range_with_len_more}
use Rattle.chip_maker.specs.Inverters.{next, random, kind_by, inverter, row}
use Rattle.chip_maker.specs.declared.inverters.Kind.{Kind}

same_at : (s i j : ℕ) → i ≡ j → random s i ≡ random s j
same_at s i j e = ap (λ (k : ℕ). random s k) e

same_from : (s i j m : ℕ) → i ≡ j → map (inverter s) (range_with_len i m) ≡ map (inverter s) (range_with_len j m)
same_from s i j m e = ap (λ (k : ℕ). map (inverter s) (range_with_len k m)) e

pub step : (s k : ℕ) → next (random s k) ≡ random s (k + 1)
step s k = same_at s (suc k) (k + 1) (omega arith)

-- one inverter more
pub more : (s k x : ℕ) (kinds : List Kind) (kind : Kind) → kinds ≡ map (inverter s) (range_with_len 0 k) → x ≡ random s (k + 1) → kind ≡ kind_by x
    → kinds ++ kind ∷ [] ≡ map (inverter s) (range_with_len 0 (k + 1))
more s k x kinds kind e f g =
    ap (λ (ks : List Kind). ks ++ kind ∷ []) e ∙ ap (λ (k1 : Kind). map (inverter s) (range_with_len 0 k) ++ k1 ∷ []) (g ∙ ap kind_by f)
    ∙ sym (map-range_with_len_more (inverter s) 0 k k (omega arith))

-- what follows number k of a sequence is the sequence from there on
pub after : (s k j : ℕ) → random (random s k) j ≡ random s (k + j)
after s k zero = same_at s k (k + 0) (omega arith)
after s k (suc j) = ap next (after s k j) ∙ step s (k + j) ∙ same_at s (k + j + 1) (k + suc j) (omega arith)

from : (s k a m : ℕ) → map (inverter (random s k)) (range_with_len a m) ≡ map (inverter s) (range_with_len (k + a) m)
from s k a zero = refl
from s k a (suc m) =
    let head : inverter (random s k) a ≡ inverter s (k + a) = ap kind_by (after s k (a + 1) ∙ same_at s (k + (a + 1)) (k + a + 1) (omega arith)) in
    let rest : map (inverter (random s k)) (range_with_len (a + 1) m) ≡ map (inverter s) (range_with_len (k + a + 1) m) =
    from s k (a + 1) m ∙ same_from s (k + (a + 1)) (k + a + 1) m (omega arith) in
    ap (λ (x : Kind). x ∷ map (inverter (random s k)) (range_with_len (a + 1) m)) head ∙ ap (λ (xs : List Kind). inverter s (k + a) ∷ xs) rest

-- the row that begins with inverter 100 i
pub one_row : (n s i k m state : ℕ) (kinds : List Kind) → k ≡ 100 * i → m ≡ min 100 (n - 100 * i) → state ≡ random s k → kinds ≡ map (inverter state) (range_with_len 0 m) → kinds ≡ row n s i
one_row n s i k m state kinds e f g h =
    h ∙ ap (λ (x : ℕ). map (inverter x) (range_with_len 0 m)) g ∙ from s k 0 m
    ∙ same_from s (k + 0) (100 * i) m (omega arith) ∙ ap (λ (l : ℕ). map (inverter s) (range_with_len (100 * i) l)) f

pub state_after : (s k m state new j : ℕ) → state ≡ random s k → new ≡ random state m → k + m ≡ j → new ≡ random s j
state_after s k m state new j e f g = f ∙ ap (λ (x : ℕ). random x m) e ∙ after s k m ∙ ap (λ (i : ℕ). random s i) g
