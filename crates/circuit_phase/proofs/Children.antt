-- Nets with drawn pins of placed cells, as marks.
use Rattle.std.proofs.Common.{◌≡◌, ℕ, zero, suc, ◌+◌, ◌<◌, ◌==◌, ◌&&◌, ◌||◌, Bool, true, false, List, [], ◌∷◌, drop, get_or, length, refl, sym, ◌∙◌, ap, arith}
use Rattle.std.proofs.lemmas.List.{drop_more}
use Rattle.flat_layout.specs.Nets.{Item}
use Rattle.circuit_phase.specs.Placed.{is_marked_by}

-- what is left to mark, and what is marked
pub record AreMarkedFrom (test : Item → Bool) (items : List Item) (nets : List ℕ) (old : List Bool) (n : ℕ) (new : List Bool) : Type 0 where
  pub count : length new ≡ length old
  pub marked : (x : ℕ) → (is_marked_by test (drop n items) (drop n nets) x || get_or new x false) ≡ (is_marked_by test items nets x || get_or old x false)

turn : (m rest o : Bool) → (rest || (m || o)) ≡ ((m || rest) || o)
turn true true o = refl
turn true false o = refl
turn false rest o = refl

pub marked_next : (test : Item → Bool) (items : List Item) (nets : List ℕ) (old mid new : List Bool) (n : ℕ) (item : Item) (net : ℕ) (wanted : Bool) → n < length items → length nets ≡ length items → item ≡ get_or items n item → net ≡ get_or nets n net → wanted ≡ test item → length new ≡ length mid
    → ((x : ℕ) → get_or new x false ≡ ((wanted && (x == net)) || get_or mid x false)) → AreMarkedFrom test items nets old n mid → AreMarkedFrom test items nets old (n + 1) new
marked_next test items nets old mid new n item net wanted lt same is its told long added h = record {
  count = long ∙ h.count;
  marked = λ x.
      let first : drop n items ≡ item ∷ drop (n + 1) items = drop_more items n item lt ∙ ap (λ (i : Item). i ∷ drop (n + 1) items) (sym is) in
      let second : drop n nets ≡ net ∷ drop (n + 1) nets = drop_more nets n net (omega (arith, lt, same)) ∙ ap (λ (i : ℕ). i ∷ drop (n + 1) nets) (sym its) in
      let rest = is_marked_by test (drop (n + 1) items) (drop (n + 1) nets) x in
      ap (λ (b : Bool). rest || b) (added x) ∙ turn (wanted && (x == net)) rest (get_or mid x false)
      ∙ ap (λ (b : Bool). ((b && (x == net)) || rest) || get_or mid x false) told
      ∙ sym (ap (λ (l : List Item). is_marked_by test l (drop n nets) x || get_or mid x false) first ∙ ap (λ (l : List ℕ). is_marked_by test (item ∷ drop (n + 1) items) l x || get_or mid x false) second)
      ∙ h.marked x;
}

pub none_left : {A : Type 0} → (xs : List A) (n : ℕ) → n ≡ length xs → drop n xs ≡ []
none_left [] zero h = refl
none_left [] (suc n) h = refl
none_left (x ∷ xs) zero h = absurd (omega arith)
none_left (x ∷ xs) (suc n) h = none_left xs n (omega arith)

pub marked_end : (test : Item → Bool) (items : List Item) (nets : List ℕ) (old new : List Bool) (n : ℕ) → n ≡ length items → AreMarkedFrom test items nets old n new → (x : ℕ) → get_or new x false ≡ (is_marked_by test items nets x || get_or old x false)
marked_end test items nets old new n e h x = sym (ap (λ (l : List Item). is_marked_by test l (drop n nets) x || get_or new x false) (none_left items n e)) ∙ h.marked x
