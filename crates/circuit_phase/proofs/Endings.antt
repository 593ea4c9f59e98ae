-- Names with endings, one by one.
use Rattle.std.proofs.Common.{◌≡◌, ℕ, zero, suc, ◌+◌, ◌<◌, Bool, true, false, ◌==◌, ◌&&◌, ◌||◌, inl, inr, List, [], ◌∷◌, ◌++◌, append_assoc, append-nil, get_or, length, drop, refl, sym, ◌∙◌, ap, subst, arith}
use Rattle.std.proofs.lemmas.Bool.{cases_Bool}
use Rattle.std.specs.Prelude.{bytes_eq, if◌then◌else◌, Option}
use Rattle.std.specs.Borrow.{Bor}
use Rattle.std.proofs.Math.Bool.{or_comm}
use Rattle.std.proofs.Math.Seq.{drop-cons}
use Rattle.std.proofs.lemmas.List.Folds.{list_any-append}
use Rattle.std.proofs.lemmas.Slice.Eq.{bytes_eq-Decides}
use Rattle.flat_layout.specs.Names.{apart_names, circuit_needs, has_byte, has_two, is_empty, is_used, net_needs}
use Rattle.net_names.specs.Folding.{folded_bytes}
use Rattle.circuit_phase.specs.Names.{folded_base, folded_bases, folded_names}
use Rattle.text_table.specs.Texts.{has_text, with_text}

and_none : (b : Bool) → (b && false) ≡ false
and_none true = refl
and_none false = refl

pub two_step : (s : List ℕ) (i : ℕ) → i < length s → has_two (drop i s) ≡ (((get_or s i 0 == 36) && (get_or s (i + 1) 0 == 36)) || has_two (drop (i + 1) s))
two_step [] i h = absurd (omega arith)
two_step (a ∷ []) zero h = sym (ap (λ (b : Bool). b || false) (and_none (a == 36)))
two_step (a ∷ b ∷ s) zero h = refl
two_step (a ∷ s) (suc i) h =
    let e : suc (i + 1) ≡ suc i + 1 = omega arith in
    subst (λ (j : ℕ). has_two (drop i s) ≡ (((get_or s i 0 == 36) && (get_or (a ∷ s) j 0 == 36)) || has_two (drop j (a ∷ s)))) e (two_step s i (omega arith))

pub two_end : (s : List ℕ) (i : ℕ) → i ≡ length s → has_two (drop i s) ≡ false
two_end [] zero h = refl
two_end [] (suc i) h = refl
two_end (a ∷ s) zero h = absurd (omega arith)
two_end (a ∷ s) (suc i) h = two_end s i (omega arith)

-- two lists of the same texts
abbrev pub HaveSame : List (List ℕ) → List (List ℕ) → Type 0
HaveSame e f = (s : List ℕ) → is_used s e ≡ is_used s f

-- a test that asks of earlier names only which they are
abbrev pub AsksUse : (List (List ℕ) → List ℕ → Bool) → Type 0
AsksUse needs = (e f : List (List ℕ)) → HaveSame e f → (s : List ℕ) → needs e s ≡ needs f s

pub net_asks : AsksUse net_needs
net_asks e f h s = ap (λ (b : Bool). is_empty s || (has_byte 36 s || b)) (h s)

pub circuit_asks : AsksUse circuit_needs
circuit_asks e f h s = ap (λ (b : Bool). has_two s || b) (h s)

same_apart : (needs : List (List ℕ) → List ℕ → Bool) (ending : ℕ → List ℕ) → AsksUse needs → (e f : List (List ℕ)) (k : ℕ) (bs : List (List ℕ)) → HaveSame e f → apart_names needs ending e k bs ≡ apart_names needs ending f k bs
same_apart needs ending asks e f k [] h = refl
same_apart needs ending asks e f k (b ∷ bs) h =
    ap (λ (t : Bool). (if t then b ++ ending k else b) ∷ apart_names needs ending (b ∷ e) (suc k) bs) (asks e f h b)
    ∙ ap (λ (l : List (List ℕ)). (if needs f b then b ++ ending k else b) ∷ l) (same_apart needs ending asks (b ∷ e) (b ∷ f) (suc k) bs (λ s. ap (λ (t : Bool). bytes_eq s b || t) (h s)))

used_again : (e : List (List ℕ)) (b : List ℕ) → has_text e b ≡ true → (s : List ℕ) → is_used s (b ∷ e) ≡ is_used s e
used_again e b h s = elim (cases_Bool (bytes_eq s b)) [
  | inl same ↦ let is : s ≡ b = (bytes_eq-Decides s b).0 same in ap (λ (t : Bool). t || is_used s e) same ∙ sym (ap (λ (t : List ℕ). is_used t e) is ∙ h)
  | inr not ↦ ap (λ (t : Bool). t || is_used s e) not
]

used_last : (e : List (List ℕ)) (b s : List ℕ) → is_used s (b ∷ e) ≡ is_used s (e ++ b ∷ [])
used_last e b s = or_comm (bytes_eq s b) (is_used s e) ∙ ap (λ (t : Bool). is_used s e || t) (or_comm false (bytes_eq s b)) ∙ sym (list_any-append (bytes_eq s) e (b ∷ []))

pub with_same : (e : List (List ℕ)) (b : List ℕ) → HaveSame (b ∷ e) (with_text e b)
with_same e b s = elim (cases_Bool (has_text e b)) [
  | inl has ↦ used_again e b has s ∙ sym (ap (λ (t : Bool). is_used s (if t then e else e ++ b ∷ [])) has)
  | inr not ↦ used_last e b s ∙ sym (ap (λ (t : Bool). is_used s (if t then e else e ++ b ∷ [])) not)
]

pub name_more : (needs : List (List ℕ) → List ℕ → Bool) (ending : ℕ → List ℕ) → AsksUse needs → (earlier more : List (List ℕ)) (i : ℕ) (bases names new : List (List ℕ)) (base name : List ℕ) (all : List (List ℕ)) → i < length bases → base ≡ get_or bases i []
    → name ≡ (if needs earlier base then base ++ ending (i + 1) else base) → more ≡ with_text earlier base → new ≡ names ++ name ∷ [] → names ++ apart_names needs ending earlier (i + 1) (drop i bases) ≡ all
    → new ++ apart_names needs ending more (i + 1 + 1) (drop (i + 1) bases) ≡ all
name_more needs ending asks earlier more i bases names new base name all lt is named added pushed h =
    let e : suc i ≡ i + 1 = omega arith in
    let f : suc (i + 1) ≡ i + 1 + 1 = omega arith in
    let split : drop i bases ≡ base ∷ drop (i + 1) bases =
    drop-cons bases i [] lt ∙ ap (λ (b : List ℕ). b ∷ drop (suc i) bases) (sym is) ∙ ap (λ (j : ℕ). base ∷ drop j bases) e in
    let rest = drop (i + 1) bases in
    let step : apart_names needs ending earlier (i + 1) (drop i bases) ≡ name ∷ apart_names needs ending more (i + 1 + 1) rest =
    ap (λ (l : List (List ℕ)). apart_names needs ending earlier (i + 1) l) split
    ∙ ap (λ (n : List ℕ). n ∷ apart_names needs ending (base ∷ earlier) (suc (i + 1)) rest) (sym named)
    ∙ ap (λ (l : List (List ℕ)). name ∷ l) (same_apart needs ending asks (base ∷ earlier) (with_text earlier base) (suc (i + 1)) rest (with_same earlier base))
    ∙ ap (λ (l : List (List ℕ)). name ∷ apart_names needs ending l (suc (i + 1)) rest) (sym added)
    ∙ ap (λ (j : ℕ). name ∷ apart_names needs ending more j rest) f in
    ap (λ (l : List (List ℕ)). l ++ apart_names needs ending more (i + 1 + 1) rest) pushed ∙ append_assoc names (name ∷ []) (apart_names needs ending more (i + 1 + 1) rest) ∙ sym (ap (λ (l : List (List ℕ)). names ++ l) step) ∙ h

drop_all : (i : ℕ) (xs : List (List ℕ)) → i ≡ length xs → drop i xs ≡ []
drop_all zero [] h = refl
drop_all (suc i) [] h = refl
drop_all zero (x ∷ xs) h = absurd (omega arith)
drop_all (suc i) (x ∷ xs) h = drop_all i xs (omega arith)

pub names_end : (needs : List (List ℕ) → List ℕ → Bool) (ending : ℕ → List ℕ) (earlier : List (List ℕ)) (i : ℕ) (bases names all : List (List ℕ)) → i ≡ length bases → names ++ apart_names needs ending earlier (i + 1) (drop i bases) ≡ all → names ≡ all
names_end needs ending earlier i bases names all e h =
    sym (append-nil names) ∙ sym (ap (λ (l : List (List ℕ)). names ++ apart_names needs ending earlier (i + 1) l) (drop_all i bases e)) ∙ h

pub base_at : (xs : List (Option (Bor (List ℕ)))) (i : ℕ) (d : Option (Bor (List ℕ))) → i < length xs → folded_base (get_or xs i d) ≡ get_or (folded_bases xs) i []
base_at [] i d h = absurd (omega arith)
base_at (x ∷ xs) zero d h = refl
base_at (x ∷ xs) (suc i) d h = base_at xs i d (omega arith)

pub name_at : (xs : List (Bor (List ℕ))) (i : ℕ) (d : Bor (List ℕ)) → i < length xs → folded_bytes (get_or xs i d).now ≡ get_or (folded_names xs) i []
name_at [] i d h = absurd (omega arith)
name_at (x ∷ xs) zero d h = refl
name_at (x ∷ xs) (suc i) d h = name_at xs i d (omega arith)

pub bases_long : (xs : List (Option (Bor (List ℕ)))) → length (folded_bases xs) ≡ length xs
bases_long [] = refl
bases_long (x ∷ xs) = ap suc (bases_long xs)

pub names_long : (xs : List (Bor (List ℕ))) → length (folded_names xs) ≡ length xs
names_long [] = refl
names_long (x ∷ xs) = ap suc (names_long xs)
