-- A string without the NULs at its end.
use Rattle.std.proofs.Common.{◌≡◌, ℕ, zero, suc, ◌-◌, ◌<◌, ◌≤◌, List, [], ◌∷◌, length, get_or, take, refl, sym, ap, ◌∙◌, arith}
use Rattle.gds_elements.specs.Data.{trimmed, put_before}

-- one NUL less
pub one_less : (bytes : List ℕ) (n : ℕ) → n < length bytes → get_or bytes n 0 ≡ 0 → trimmed (take (suc n) bytes) ≡ trimmed (take n bytes)
one_less [] n h e = absurd (omega arith)
one_less (b ∷ bytes) zero h e = rw e refl
one_less (b ∷ bytes) (suc n) h e = ap (λ (rest : List ℕ). put_before b rest) (one_less bytes n (omega arith) e)

kept : (b : ℕ) (bytes : List ℕ) → 0 < length bytes → put_before b bytes ≡ b ∷ bytes
kept b [] h = absurd (omega arith)
kept zero (c ∷ bytes) h = refl
kept (suc b) (c ∷ bytes) h = refl

last_kept : (b : ℕ) → (b ≡ 0 → ⊥) → put_before b [] ≡ b ∷ []
last_kept zero h = absurd (h refl)
last_kept (suc b) h = refl

-- another byte stays
pub all_kept : (bytes : List ℕ) (n : ℕ) → n < length bytes → (get_or bytes n 0 ≡ 0 → ⊥) → trimmed (take (suc n) bytes) ≡ take (suc n) bytes
all_kept [] n h e = absurd (omega arith)
all_kept (b ∷ bytes) zero h e = last_kept b e
all_kept (b ∷ bytes) (suc n) h e =
    ap (λ (rest : List ℕ). put_before b rest) (all_kept bytes n (omega arith) e)
    ∙ kept b (take (suc n) bytes) (more bytes n (omega arith))
  where
    more : (bytes : List ℕ) (n : ℕ) → n < length bytes → 0 < length (take (suc n) bytes)
    more [] n h = absurd (omega arith)
    more (c ∷ rest) n h = omega arith

-- the loop's turn, and its ends
pub end_less : (bytes : List ℕ) (end : ℕ) → 0 < end → end ≤ length bytes → get_or bytes (end - 1) 0 ≡ 0 → trimmed (take end bytes) ≡ trimmed bytes → trimmed (take (end - 1) bytes) ≡ trimmed bytes
end_less bytes zero some le e h = absurd (omega arith)
end_less bytes (suc n) some le e h = let one : suc n - 1 ≡ n = omega arith in rw one (let f : get_or bytes n 0 ≡ 0 = rw one at e in sym (one_less bytes n (omega arith) f) ∙ h)

pub end_kept : (bytes : List ℕ) (end : ℕ) → 0 < end → end ≤ length bytes → (get_or bytes (end - 1) 0 ≡ 0 → ⊥) → trimmed (take end bytes) ≡ trimmed bytes → take end bytes ≡ trimmed bytes
end_kept bytes zero some le e h = absurd (omega arith)
end_kept bytes (suc n) some le e h = let one : suc n - 1 ≡ n = omega arith in let f : get_or bytes n 0 ≡ 0 → ⊥ = rw one at e in sym (all_kept bytes n (omega arith) f) ∙ h

pub none_left : (bytes : List ℕ) (end : ℕ) → end ≤ 0 → trimmed (take end bytes) ≡ trimmed bytes → take end bytes ≡ trimmed bytes
none_left bytes zero le h = h
none_left bytes (suc n) le h = absurd (omega arith)
