-- A name with an ending ends in its number; one without is its base, which no earlier one is.
use Rattle.std.proofs.Common.{◌≡◌, ◌⊎◌, inl, inr, ℕ, zero, suc, ◌+◌, ◌<◌, ◌==◌, ◌&&◌, ◌||◌, ◌^◌, Bool, true, false, List, [], ◌∷◌, ◌++◌, Some, slice_get, length, refl, sym, ◌∙◌, ap, subst, append_assoc, arith}
use Rattle.std.specs.Prelude.{decimal, bytes_eq, if◌then◌else◌}
use Rattle.std.specs.Str.Parse.{AllDigits}
use Rattle.std.proofs.Math.Decide.{ℕ_discrete}
use Rattle.std.proofs.lemmas.Bool.{eq-eqb, cases_Bool, or_parts, true≢false}
use Rattle.std.proofs.lemmas.Fmt.{decimal_digit, decimal_injective, decimal_is_IsNumeral}
use Rattle.std.proofs.lemmas.Option.{same_Some}
use Rattle.std.proofs.lemmas.Slice.Eq.{bytes_eq-Decides}
use Rattle.std.proofs.lemmas.Str.Parse.{digit_from_value}
use Rattle.flat_layout.specs.Names.{apart_names, circuit_ending, circuit_needs, has_byte, has_two, is_empty, is_used, net_ending, net_needs}
use Rattle.plain_netlist.specs.Lists.{IsListed}
use Rattle.table_laws.specs.NameLaws.{CircuitNamesApartLaw, NetNamesApartLaw, SecondNameLaw}

-- a text that isn't used is none of the earlier ones
unused : (b : List ℕ) (earlier : List (List ℕ)) → is_used b earlier ≡ false → (c : List ℕ) → IsListed c earlier → b ≡ c → ⊥
unused b [] h c i e = i
unused b (x ∷ earlier) h c (inl i) e =
    let same : bytes_eq b x ≡ true = (bytes_eq-Decides b x).1 (e ∙ i) in
    true≢false (sym (ap (λ t. t || is_used b earlier) same) ∙ h)
unused b (x ∷ earlier) h c (inr i) e = unused b earlier (or_parts (bytes_eq b x) (is_used b earlier) h).1 c i e

-- tests and endings that keep names apart
pub record IsFit (needs : List (List ℕ) → List ℕ → Bool) (ending : ℕ → List ℕ) : Type 0 where
  used : (seen : List (List ℕ)) (b : List ℕ) → needs seen b ≡ false → is_used b seen ≡ false
  plain : (seen : List (List ℕ)) (b : List ℕ) (k : ℕ) → needs seen (b ++ ending k) ≡ false → ⊥
  one : (b c : List ℕ) (i j : ℕ) → i < 2 ^ 64 → j < 2 ^ 64 → b ++ ending i ≡ c ++ ending j → i ≡ j

module _ (needs : List (List ℕ) → List ℕ → Bool) (ending : ℕ → List ℕ) where
  -- a base as it is, and the texts that were seen before it
  record IsPlain (earlier bases : List (List ℕ)) (i : ℕ) (a : List ℕ) : Type 0 where
    base : slice_get bases i ≡ Some a
    seen : List (List ℕ)
    clean : needs seen a ≡ false
    first : (c : List ℕ) → IsListed c earlier → IsListed c seen
    before : (j : ℕ) (c : List ℕ) → j < i → slice_get bases j ≡ Some c → IsListed c seen

  abbrev Made : List (List ℕ) → ℕ → List (List ℕ) → ℕ → List ℕ → Type 0
  Made earlier k bases i a = (i < length bases) × (IsPlain earlier bases i a ⊎ ((b : List ℕ) × (a ≡ b ++ ending (k + i))))

  first_made : (earlier : List (List ℕ)) (k : ℕ) (b : List ℕ) (bs : List (List ℕ)) (a : List ℕ) (t : Bool) → needs earlier b ≡ t → (if t then b ++ ending k else b) ≡ a → Made earlier k (b ∷ bs) 0 a
  first_made earlier k b bs a true e h = (omega arith, inr (b, sym h ∙ ap (λ m. b ++ ending m) (let z : k ≡ k + 0 = omega arith in z)))
  first_made earlier k b bs a false e h = (omega arith, inl (record { base = ap Some h; seen = earlier; clean = ap (needs earlier) (sym h) ∙ e; first = λ c l. l; before = λ j c lt g. absurd (omega arith) }))

  later_made : (earlier : List (List ℕ)) (k : ℕ) (b : List ℕ) (bs : List (List ℕ)) (i : ℕ) (a : List ℕ) → Made (b ∷ earlier) (suc k) bs i a → Made earlier k (b ∷ bs) (suc i) a
  later_made earlier k b bs i a (lt, inr (c, e)) = (omega arith, inr (c, e ∙ ap (λ m. c ++ ending m) (let z : suc k + i ≡ k + suc i = omega arith in z)))
  later_made earlier k b bs i a (lt, inl p) = (omega arith, inl (record { base = p.base; seen = p.seen; clean = p.clean; first = λ c l. p.first c (inr l); before = before }))
    where
      before : (j : ℕ) (c : List ℕ) → j < suc i → slice_get (b ∷ bs) j ≡ Some c → IsListed c p.seen
      before zero c small g = p.first c (inl (sym (same_Some _ _ g)))
      before (suc j) c small g = p.before j c (omega arith) g

  made : (earlier : List (List ℕ)) (k : ℕ) (bases : List (List ℕ)) (i : ℕ) (a : List ℕ) → slice_get (apart_names needs ending earlier k bases) i ≡ Some a → Made earlier k bases i a
  made earlier k [] i a h = cc
  made earlier k (b ∷ bs) zero a h = first_made earlier k b bs a (needs earlier b) refl (same_Some _ _ h)
  made earlier k (b ∷ bs) (suc i) a h = later_made earlier k b bs i a (made (b ∷ earlier) (suc k) bs i a h)

  less : (i j : ℕ) → (i ≡ j → ⊥) → (i < j) ⊎ (j < i)
  less zero zero h = absurd (h refl)
  less zero (suc j) h = inl (omega arith)
  less (suc i) zero h = inr (omega arith)
  less (suc i) (suc j) h = elim (less i j (λ e. h (ap suc e))) [ inl a ↦ inl (omega arith) | inr a ↦ inr (omega arith) ]

  module _ (fit : IsFit needs ending) (bases : List (List ℕ)) (short : length bases < 2 ^ 32) where
    not_both : (i j : ℕ) (a : List ℕ) → i < j → IsPlain [] bases i a → IsPlain [] bases j a → ⊥
    not_both i j a lt p q = unused a q.seen (fit.used q.seen a q.clean) a (q.before i a lt p.base) refl

    not_ending : (i : ℕ) (a b : List ℕ) (k : ℕ) → IsPlain [] bases i a → a ≡ b ++ ending k → ⊥
    not_ending i a b k p e = fit.plain p.seen b k (ap (needs p.seen) (sym e) ∙ p.clean)

    pub apart : (i j : ℕ) (a : List ℕ) → slice_get (apart_names needs ending [] 1 bases) i ≡ Some a → slice_get (apart_names needs ending [] 1 bases) j ≡ Some a → i ≡ j
    apart i j a h g = by (made [] 1 bases i a h) (made [] 1 bases j a g)
      where
        by : Made [] 1 bases i a → Made [] 1 bases j a → i ≡ j
        by (li, inl p) (lj, inl q) = elim (ℕ_discrete i j) [
          | yes e ↦ e
          | no other ↦ absurd (elim (less i j other) [ inl lt ↦ not_both i j a lt p q | inr lt ↦ not_both j i a lt q p ])
        ]
        by (li, inl p) (lj, inr (b, e)) = absurd (not_ending i a b (1 + j) p e)
        by (li, inr (b, e)) (lj, inl q) = absurd (not_ending j a b (1 + i) q e)
        by (li, inr (b, e)) (lj, inr (c, f)) = let same = fit.one b c (1 + i) (1 + j) (omega arith) (omega arith) (sym e ∙ f) in omega arith

-- numbers have no $
in_middle : (b x : List ℕ) → IsListed 36 (b ++ 36 ∷ x)
in_middle [] x = inl refl
in_middle (c ∷ b) x = inr (in_middle b x)

listed_has : (s : List ℕ) → IsListed 36 s → has_byte 36 s ≡ true
listed_has [] h = absurd h
listed_has (c ∷ s) (inl e) = ap (λ t. t || has_byte 36 s) (eq-eqb c 36 (sym e))
listed_has (c ∷ s) (inr h) = elim (cases_Bool (c == 36)) [ inl e ↦ ap (λ t. t || has_byte 36 s) e | inr e ↦ ap (λ t. t || has_byte 36 s) e ∙ listed_has s h ]

digits_none : (s : List ℕ) → AllDigits 10 s → IsListed 36 s → ⊥
digits_none [] d h = h
digits_none (c ∷ s) d (inl e) = let r = digit_from_value c d.0 in let low = r.0 in absurd (omega arith)
digits_none (c ∷ s) d (inr h) = digits_none s d.1 h

decimal_none : (k : ℕ) → k < 2 ^ 64 → IsListed 36 (decimal k) → ⊥
decimal_none k lt h = digits_none (decimal k) (decimal_is_IsNumeral k lt).0.1 h

-- behind the last $
behind : (b c x y : List ℕ) → b ++ 36 ∷ x ≡ c ++ 36 ∷ y → (IsListed 36 x → ⊥) → (IsListed 36 y → ⊥) → x ≡ y
behind [] [] x y e p q = cc
behind [] (d ∷ c) x y e p q = let f : x ≡ c ++ 36 ∷ y = cc in absurd (p (subst (λ s. IsListed 36 s) (sym f) (in_middle c y)))
behind (d ∷ b) [] x y e p q = let f : b ++ 36 ∷ x ≡ y = cc in absurd (q (subst (λ s. IsListed 36 s) f (in_middle b x)))
behind (d ∷ b) (f ∷ c) x y e p q = behind b c x y (let g : b ++ 36 ∷ x ≡ c ++ 36 ∷ y = cc in g) p q

one_number : (b c : List ℕ) (i j : ℕ) → i < 2 ^ 64 → j < 2 ^ 64 → b ++ 36 ∷ decimal i ≡ c ++ 36 ∷ decimal j → i ≡ j
one_number b c i j li lj e = decimal_injective i j li lj (behind b c (decimal i) (decimal j) e (decimal_none i li) (decimal_none j lj))

net_fit : IsFit net_needs net_ending
net_fit = record {
  used = λ seen b h. (or_parts (has_byte 36 b) (is_used b seen) (or_parts (is_empty b) (has_byte 36 b || is_used b seen) h).1).1;
  plain = λ seen b k h.
      let s = b ++ 36 ∷ decimal k in
      let no_byte = (or_parts (has_byte 36 s) (is_used s seen) (or_parts (is_empty s) (has_byte 36 s || is_used s seen) h).1).0 in
      true≢false (sym (listed_has s (in_middle b (decimal k))) ∙ no_byte);
  one = one_number;
}

two_in_middle : (b x : List ℕ) → has_two (b ++ 36 ∷ 36 ∷ x) ≡ true
two_in_middle [] x = refl
two_in_middle (c ∷ []) x = elim (cases_Bool ((c == 36) && (36 == 36))) [ inl e ↦ ap (λ t. t || has_two (36 ∷ 36 ∷ x)) e | inr e ↦ ap (λ t. t || has_two (36 ∷ 36 ∷ x)) e ]
two_in_middle (c ∷ e ∷ b) x = elim (cases_Bool ((c == 36) && (e == 36))) [ inl f ↦ ap (λ t. t || has_two (e ∷ (b ++ 36 ∷ 36 ∷ x))) f | inr f ↦ ap (λ t. t || has_two (e ∷ (b ++ 36 ∷ 36 ∷ x))) f ∙ two_in_middle (e ∷ b) x ]

circuit_fit : IsFit circuit_needs circuit_ending
circuit_fit = record {
  used = λ seen b h. (or_parts (has_two b) (is_used b seen) h).1;
  plain = λ seen b k h. true≢false (sym (two_in_middle b (decimal k)) ∙ (or_parts (has_two (b ++ 36 ∷ 36 ∷ decimal k)) (is_used (b ++ 36 ∷ 36 ∷ decimal k) seen) h).0);
  one = λ b c i j li lj e. one_number (b ++ 36 ∷ []) (c ++ 36 ∷ []) i j li lj (append_assoc b (36 ∷ []) (36 ∷ decimal i) ∙ e ∙ sym (append_assoc c (36 ∷ []) (36 ∷ decimal j)));
}

pub net_names_apart : NetNamesApartLaw
net_names_apart bases short i j a h g = apart net_needs net_ending net_fit bases short i j a h g

pub circuit_names_apart : CircuitNamesApartLaw
circuit_names_apart names short i j a h g = apart circuit_needs circuit_ending circuit_fit names short i j a h g

pub second : SecondNameLaw
second = ap (λ (s : List ℕ). (71 ∷ []) ∷ (83 ∷ []) ∷ (83 ∷ 36 ∷ s) ∷ (86 ∷ []) ∷ []) (decimal_digit 3 (omega arith))
