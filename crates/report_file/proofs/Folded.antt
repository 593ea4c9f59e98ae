-- Names that folding leaves as they are.
use Rattle.std.proofs.Common.{◌≡◌, inl, inr, ℕ, zero, suc, ◌/◌, ◌%◌, ◌<◌, ◌==◌, false, List, [], ◌∷◌, ◌++◌, map, Some, refl, sym, ap, subst, ◌∙◌, arith}
use Rattle.std.specs.Prelude.{decimal, nat_lt, slice_get}
use Rattle.std.specs.Fmt.{digits, digits_onto, digit_glyph}
use Rattle.std.proofs.lemmas.Bool.{cases_Bool}
use Rattle.std.proofs.lemmas.Bool.Decides.{nat_tests}
use Rattle.std.proofs.lemmas.List.{map-append}
use Rattle.std.proofs.lemmas.Option.{none-some, same_Some}
use Rattle.align_laws.specs.Partners.{AreNamesApart}
use Rattle.flat_layout.specs.Names.{circuit_ending, circuit_names, circuit_needs}
use Rattle.net_names.specs.Folding.{folded_byte, folded_bytes}
use Rattle.plain_netlist.specs.Netlist.{Circuit, Netlist, IsCircuit}
use Rattle.plain_netlist.specs.Sound.{IsSoundNetlist}

abbrev pub IsFolded : List ℕ → Type 0
IsFolded text = folded_bytes text ≡ text

twice : (b : ℕ) → folded_byte (folded_byte b) ≡ folded_byte b
twice b = grind (arith, nat_tests)

pub folded_twice : (text : List ℕ) → IsFolded (folded_bytes text)
folded_twice [] = refl
folded_twice (b ∷ bs) =
    ap (λ (x : ℕ). x ∷ folded_bytes (folded_bytes bs)) (twice b) ∙ ap (λ (xs : List ℕ). folded_byte b ∷ xs) (folded_twice bs)

folded_append : (xs ys : List ℕ) → IsFolded xs → IsFolded ys → IsFolded (xs ++ ys)
folded_append xs ys g h = map-append folded_byte xs ys ∙ ap (λ (zs : List ℕ). zs ++ folded_bytes ys) g ∙ ap (λ (zs : List ℕ). xs ++ zs) h

-- bytes before the small letters
folded_more : (b : ℕ) (bs : List ℕ) → b < 97 → IsFolded bs → IsFolded (b ∷ bs)
folded_more b bs low h = ap (λ (x : ℕ). x ∷ folded_bytes bs) (same b low) ∙ ap (λ (xs : List ℕ). b ∷ xs) h
  where
    same : (b : ℕ) → b < 97 → folded_byte b ≡ b
    same b low = grind (arith, nat_tests)

folded_digits : (k n : ℕ) (acc : List ℕ) → IsFolded acc → IsFolded (digits_onto k 10 false n acc)
folded_digits zero n acc h = h
folded_digits (suc k) n acc h = elim (cases_Bool (n / 10 == 0)) [
  | inl t ↦ rw t (folded_more (digit_glyph false (n % 10)) acc (glyph (n % 10) (omega arith)) h)
  | inr f ↦ rw f (folded_digits k (n / 10) (digit_glyph false (n % 10) ∷ acc) (folded_more (digit_glyph false (n % 10)) acc (glyph (n % 10) (omega arith)) h))
]
  where
    glyph : (d : ℕ) → d < 10 → digit_glyph false d < 97
    glyph d low = elim (cases_Bool (nat_lt d 10)) [ inl t ↦ rw t (omega arith) | inr f ↦ absurd (grind (arith, f, low)) ]

folded_decimal : (n : ℕ) → IsFolded (decimal n)
unfolding digits
folded_decimal n = folded_digits 64 n [] refl

folded_ending : (k : ℕ) → IsFolded (circuit_ending k)
folded_ending k = folded_more 36 (36 ∷ decimal k) (omega arith) (folded_more 36 (decimal k) (omega arith) (folded_decimal k))

-- circuits' names are made from folded ones
pub folded_names : (f : ℕ → List ℕ) (earlier : List (List ℕ)) (k : ℕ) (cells : List ℕ) (i : ℕ) (a : List ℕ)
    → slice_get (circuit_names earlier k (map (λ c. folded_bytes (f c)) cells)) i ≡ Some a → IsFolded a
folded_names f earlier k [] i a h = absurd (none-some a h)
folded_names f earlier k (c ∷ cs) zero a h = subst IsFolded (same_Some _ _ h) (elim (cases_Bool (circuit_needs earlier (folded_bytes (f c)))) [
  | inl t ↦ rw t (folded_append (folded_bytes (f c)) (circuit_ending k) (folded_twice (f c)) (folded_ending k))
  | inr n ↦ rw n (folded_twice (f c))
])
folded_names f earlier k (c ∷ cs) (suc i) a h = folded_names f (folded_bytes (f c) ∷ earlier) (suc k) cs i a h

-- folded names that are apart are apart without regard to case
pub apart_folded : (nl : Netlist) → IsSoundNetlist nl → ((c : ℕ) (x : Circuit) → IsCircuit nl c x → IsFolded x.name) → AreNamesApart nl
apart_folded nl sound folded a b name (x, is, e) (y, at, f) = sound.names a b x y is at (sym (folded a x is) ∙ (e ∙ (sym f ∙ folded b y at)))
