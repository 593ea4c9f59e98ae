-- Marks of the numbers that stand in a list.
use Rattle.std.proofs.Common.{◌≡◌, inl, inr, ℕ, zero, suc, ◌+◌, ◌<◌, ◌≤◌, ◌==◌, cond, Bool, true, false, List, [], ◌∷◌, length, slice_index, get_or, take, refl, sym, subst, ◌∙◌, ap, arith, true≢false, length-set}
use Rattle.std.proofs.lemmas.Bool.{ne_eqb}
use Rattle.std.specs.List.{count_by}
use Rattle.std.specs.Bool.{Decides}
use Rattle.std.proofs.Math.Decide.{ℕ_discrete}
use Rattle.std.proofs.Math.ListN.{set}
use Rattle.std.proofs.lemmas.List.{get_or-set_same, get_or-set_other}
use Rattle.std.proofs.lemmas.List.Sums.{sum_by-cons, sum_by-take-le, count_by_more_yes, count_by_more_no}
use Rattle.std.proofs.lemmas.Bool.Decides.{Decides-eqb}
use Rattle.plain_netlist.specs.Lists.{IsListed}
use Rattle.match_laws.specs.Circuits.{IsOneToOne}
use Rattle.match_laws.proofs.Sums.{index_below}
use Rattle.match_parts.specs.Marks.{StandsOnce, IsMarked, AreUnset}

-- the sum of f below n
abbrev below_sum : (ℕ → ℕ) → ℕ → ℕ
below_sum f zero = 0
below_sum f (suc n) = f n + below_sum f n

sum_add : (f g : ℕ → ℕ) (n : ℕ) → below_sum (λ j. f j + g j) n ≡ below_sum f n + below_sum g n
sum_add f g zero = refl
sum_add f g (suc n) = let h = sum_add f g n in omega arith

sum_zero : (f : ℕ → ℕ) (n : ℕ) → ((j : ℕ) → j < n → f j ≡ 0) → below_sum f n ≡ 0
sum_zero f zero h = refl
sum_zero f (suc n) h = let a = h n (omega arith) in let b = sum_zero f n (λ j l. h j (omega arith)) in omega arith

sum_same : (f g : ℕ → ℕ) (n : ℕ) → ((j : ℕ) → j < n → f j ≡ g j) → below_sum f n ≡ below_sum g n
sum_same f g zero h = refl
sum_same f g (suc n) h = let a = h n (omega arith) in let b = sum_same f g n (λ j l. h j (omega arith)) in omega arith

sum_hit : (x n : ℕ) → x < n → below_sum (λ j. cond {A = ℕ} (j == x) 1 0) n ≡ 1
sum_hit x zero h = absurd (omega arith)
sum_hit x (suc n) h = elim (ℕ_discrete n x) [
  | yes e ↦
      let one : ◌≡◌ {A = ℕ} (cond {A = ℕ} (n == x) 1 0) 1 = ap (λ (t : Bool). cond {A = ℕ} t 1 0) ((Decides-eqb n x).1 e) in
      let rest = sum_zero (λ j. cond {A = ℕ} (j == x) 1 0) n (λ j l. ap (λ (t : Bool). cond {A = ℕ} t 1 0) (ne_eqb j x (λ s. omega arith))) in
      omega arith
  | no not ↦
      let none : ◌≡◌ {A = ℕ} (cond {A = ℕ} (n == x) 1 0) 0 = ap (λ (t : Bool). cond {A = ℕ} t 1 0) (ne_eqb n x not) in
      let rest = sum_hit x n (omega (arith, not)) in
      omega arith
]

-- counts of all numbers below n sum to the length
total : (xs : List ℕ) (n : ℕ) → ((k : ℕ) → k < length xs → slice_index xs k < n) → below_sum (λ j. count_by (λ x. j == x) xs) n ≡ length xs
total [] n h = sum_zero (λ j. count_by (λ x. j == x) []) n (λ j l. refl)
total (x ∷ xs) n h =
    let step = sum_same (λ j. count_by (λ y. j == y) (x ∷ xs)) (λ j. cond {A = ℕ} (j == x) 1 0 + count_by (λ y. j == y) xs) n (λ j l. sum_by-cons (λ y. cond {A = ℕ} (j == y) 1 0) x xs) in
    let parts = sum_add (λ j. cond {A = ℕ} (j == x) 1 0) (λ j. count_by (λ y. j == y) xs) n in
    let hit = sum_hit x n (h 0 (omega arith)) in
    let rest = total xs n (λ k l. h (suc k) (omega arith)) in
    omega arith

sum_most : (f : ℕ → ℕ) (n : ℕ) → ((j : ℕ) → j < n → f j ≤ 1) → below_sum f n ≤ n
sum_most f zero h = omega arith
sum_most f (suc n) h = let a = h n (omega arith) in let b = sum_most f n (λ j l. h j (omega arith)) in omega arith

-- n counts of at most one that sum to n are all one
all_one : (f : ℕ → ℕ) (n : ℕ) → ((j : ℕ) → j < n → f j ≤ 1) → below_sum f n ≡ n → (j : ℕ) → j < n → f j ≡ 1
all_one f zero h e j l = absurd (omega arith)
all_one f (suc n) h e j l =
    let a = h n (omega arith) in
    let b = sum_most f n (λ i m. h i (omega arith)) in
    elim (ℕ_discrete j n) [
      | yes is ↦ subst (λ (x : ℕ). f x ≡ 1) (sym is) (omega arith)
      | no not ↦ all_one f n (λ i m. h i (omega arith)) (omega arith) j (omega (arith, not))
    ]

ones : (n : ℕ) → below_sum (λ j. 1) n ≡ n
ones zero = refl
ones (suc n) = let h = ones n in omega arith

pub one_long : (xs : List ℕ) (n : ℕ) → StandsOnce xs n → length xs ≡ n
one_long xs n one = sym (total xs n one.below) ∙ (sum_same _ (λ j. 1) n (λ j l. one.once j l) ∙ ones n)

mark_most : (b : Bool) → cond {A = ℕ} b 1 0 ≤ 1
mark_most true = omega arith
mark_most false = omega arith

pub marked_all : (xs : List ℕ) (i n : ℕ) (marks : List Bool) → IsMarked xs i n marks → i ≡ length xs → take i xs ≡ xs → Decides (length xs == n) (StandsOnce xs n)
marked_all xs i n marks h is whole = (
  (λ e.
      let long : length xs ≡ n = (Decides-eqb (length xs) n).0 e in
      let below : (k : ℕ) → k < length xs → slice_index xs k < n = λ k l. h.below k (omega arith) in
      let most : (j : ℕ) → j < n → count_by (λ x. j == x) xs ≤ 1
      = λ j l. let m = h.mark j l in let o = mark_most (get_or marks j false) in let s : count_by (λ x. j == x) (take i xs) ≡ count_by (λ x. j == x) xs = ap (count_by (λ x. j == x)) whole in omega arith in
      record { below = below; once = all_one (λ j. count_by (λ x. j == x) xs) n most (total xs n below ∙ long) }),
  (λ one. (Decides-eqb (length xs) n).1 (one_long xs n one)),
)

pub too_high : (xs : List ℕ) (n i : ℕ) → i < length xs → n ≤ slice_index xs i → Decides false (StandsOnce xs n)
too_high xs n i l h = ((λ e. absurd (true≢false (sym e))), (λ one. let b = one.below i l in absurd (omega arith)))

pub twice : (xs : List ℕ) (i n : ℕ) (marks : List Bool) → IsMarked xs i n marks → i < length xs → slice_index xs i < n → get_or marks (slice_index xs i) false ≡ true → Decides false (StandsOnce xs n)
twice xs i n marks h l low set_before = (
  (λ e. absurd (true≢false (sym e))),
  (λ one.
      let v : ℕ = slice_index xs i in
      let before = h.mark (slice_index xs i) low ∙ ap (λ (t : Bool). cond {A = ℕ} t 1 0) set_before in
      let after = count_by_more_yes (λ x. slice_index xs i == x) xs i 0 l ((Decides-eqb (slice_index xs i) (slice_index xs i)).1 refl) in
      let most = sum_by-take-le (λ x. cond {A = ℕ} (slice_index xs i == x) 1 0) xs (i + 1) in
      let once = one.once (slice_index xs i) low in
      absurd (omega arith)),
)

pub unset : (xs : List ℕ) (marks : List Bool) → AreUnset (length marks) marks → IsMarked xs 0 (length marks) marks
unset xs marks h = record {
  long = refl;
  mark = λ j l. sym (ap (λ (t : Bool). cond {A = ℕ} t 1 0) (h j l));
  below = λ k l. absurd (omega arith);
}

pub marked : (xs : List ℕ) (i n : ℕ) (marks more : List Bool) → IsMarked xs i n marks → i < length xs → slice_index xs i < n → get_or marks (slice_index xs i) false ≡ false
    → more ≡ set marks (slice_index xs i) true → IsMarked xs (i + 1) n more
marked xs i n marks more h l low unset_before e = record {
  long = ap length e ∙ (length-set marks (slice_index xs i) true ∙ h.long);
  mark = λ j m. elim (ℕ_discrete j (slice_index xs i)) [
    | yes is ↦
        let before = h.mark j m in
        let none : get_or marks j false ≡ false = subst (λ (x : ℕ). get_or marks x false ≡ false) (sym is) unset_before in
        let zero_before : ◌≡◌ {A = ℕ} (cond {A = ℕ} (get_or marks j false) 1 0) 0 = ap (λ (t : Bool). cond {A = ℕ} t 1 0) none in
        let after = count_by_more_yes (λ x. j == x) xs i 0 l ((Decides-eqb j (slice_index xs i)).1 is) in
        let w = h.long in
        let now : get_or more j false ≡ true
        = ap (λ (ms : List Bool). get_or ms j false) e ∙ subst (λ (x : ℕ). get_or (set marks (slice_index xs i) true) x false ≡ true) (sym is) (get_or-set_same marks (slice_index xs i) true false (omega arith)) in
        let one_now : ◌≡◌ {A = ℕ} (cond {A = ℕ} (get_or more j false) 1 0) 1 = ap (λ (t : Bool). cond {A = ℕ} t 1 0) now in
        omega arith
    | no not ↦
        let before = h.mark j m in
        let after = count_by_more_no (λ x. j == x) xs i 0 l (ne_eqb j (slice_index xs i) not) in
        let now : get_or more j false ≡ get_or marks j false = ap (λ (ms : List Bool). get_or ms j false) e ∙ get_or-set_other marks (slice_index xs i) j true false not in
        let same : ◌≡◌ {A = ℕ} (cond {A = ℕ} (get_or more j false) 1 0) (cond {A = ℕ} (get_or marks j false) 1 0) = ap (λ (t : Bool). cond {A = ℕ} t 1 0) now in
        omega arith
  ];
  below = λ k m. elim (ℕ_discrete k i) [ yes is ↦ subst (λ (x : ℕ). slice_index xs x < n) (sym is) low | no not ↦ h.below k (omega (arith, not)) ];
}

listed_at : (xs : List ℕ) (x : ℕ) → IsListed x xs → (k : ℕ) × (k < length xs) × (slice_index xs k ≡ x)
listed_at [] x h = absurd h
listed_at (y ∷ ys) x (inl e) = (0, omega arith, sym e)
listed_at (y ∷ ys) x (inr h) = let f = listed_at ys x h in let l = f.1 in (suc f.0, omega arith, f.2)

-- so the list is a one-to-one map
pub one_to_one : (b : Bool) (xs : List ℕ) (n : ℕ) → Decides b (StandsOnce xs n) → Decides b (IsOneToOne xs (length xs) n)
one_to_one b xs n d = (
  (λ e.
      let s = d.0 e in
      record { count = refl; below = λ x i. let f = listed_at xs x i in subst (λ (v : ℕ). v < n) f.2 (s.below f.0 f.1); once = s.once }),
  (λ one. d.1 (record { below = λ k l. index_below xs (length xs) n k one l; once = one.once })),
)
