-- Where nets of called circuits stand.
use Rattle.std.proofs.Common.{◌≡◌, ℕ, zero, suc, ◌+◌, ◌-◌, ◌<◌, ◌≤◌, List, [], ◌∷◌, ◌++◌, length, slice_index, refl, ap, ◌∙◌, arith}
use Rattle.std.specs.List.{range_with_len}
use Rattle.align_laws.specs.Lists.{net_at_pin}

pub near : (pins : List ℕ) (far : ℕ → ℕ) (n : ℕ) → n < length pins → slice_index pins n ≡ net_at_pin pins far n
near [] far n low = absurd (omega arith)
near (x ∷ xs) far zero low = refl
near (x ∷ xs) far (suc n) low = near xs far n (omega arith)

pub behind : (pins : List ℕ) (far : ℕ → ℕ) (n : ℕ) → length pins ≤ n → net_at_pin pins far n ≡ far (n - length pins)
behind [] far n low = ap far (let e : n ≡ n - 0 = omega arith in e)
behind (x ∷ xs) far zero low = absurd (omega arith)
behind (x ∷ xs) far (suc n) low = behind xs far n (omega arith) ∙ ap far (let e : n - length xs ≡ suc n - suc (length xs) = omega arith in e)

pub range_more : (a n : ℕ) → range_with_len a (n + 1) ≡ range_with_len a n ++ (a + n) ∷ []
range_more a zero = ap (λ (x : ℕ). x ∷ []) (let e : a ≡ a + 0 = omega arith in e)
range_more a (suc n) =
    ap (λ (m : ℕ). range_with_len a m) (let e : suc n + 1 ≡ suc (n + 1) = omega arith in e)
    ∙ (ap (λ (t : List ℕ). a ∷ t) (range_more (a + 1) n ∙ ap (λ (x : ℕ). range_with_len (a + 1) n ++ x ∷ []) (let e : (a + 1) + n ≡ a + suc n = omega arith in e)))

pub range_next : (n : ℕ) → range_with_len 0 (n + 1) ≡ range_with_len 0 n ++ n ∷ []
range_next n = range_more 0 n ∙ ap (λ (x : ℕ). range_with_len 0 n ++ x ∷ []) (let e : 0 + n ≡ n = omega arith in e)
