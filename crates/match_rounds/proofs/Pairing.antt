-- Two nodes as parts.
use Rattle.std.proofs.Common.{◌≡◌, ◌≢◌, inl, inr, ◌<◌, ◌==◌, ℕ, zero, suc, true, slice_index, refl, sym, ◌∙◌, arith}
use Rattle.base_laws.proofs.Tests.{same_truth}
use Rattle.std.proofs.lemmas.Bool.{or_cases, or_left, or_right}
use Rattle.std.proofs.lemmas.Bool.Decides.{Decides-eqb}
use Rattle.match_rounds.specs.declared.classes.Classes.{Classes}
use Rattle.match_rounds.specs.Pieces.{entry, AreLoose, ArePartedBy, HasCount}
use Rattle.match_rounds.specs.Pairs.{pair_of, is_of_pair, IsPairParted}

pub loose : (c : Classes) (a b n : ℕ) → a < n → b < n → a ≢ b → AreLoose c.class_of.items (pair_of c a b) n
loose c a b n la lb not = record {
  below = λ e l. below e l;
  class = λ e l. class e l;
  once = λ e f l m. once e f l m;
}
  where
    below : (e : ℕ) → e < 2 → (entry (pair_of c a b) e).node < n
    below zero l = la
    below (suc zero) l = lb
    below (suc (suc e)) l = absurd (omega arith)

    class : (e : ℕ) → e < 2 → (entry (pair_of c a b) e).class ≡ slice_index c.class_of.items (entry (pair_of c a b) e).node
    class zero l = refl
    class (suc zero) l = refl
    class (suc (suc e)) l = absurd (omega arith)

    once : (e f : ℕ) → e < 2 → f < e → (entry (pair_of c a b) f).node ≢ (entry (pair_of c a b) e).node
    once zero f l m = absurd (omega arith)
    once (suc zero) zero l m = not
    once (suc zero) (suc f) l m = absurd (omega arith)
    once (suc (suc e)) f l m = absurd (omega arith)

-- whose count is 1 exactly where they are of the pair
counts : (c : Classes) (a b x v : ℕ) → HasCount (pair_of c a b) 2 x v → (is_of_pair a b x ≡ true) × (v ≡ 1)
counts c a b x v (zero, l, e, f) = (or_left (a == x) (b == x) ((Decides-eqb a x).1 e), sym f)
counts c a b x v (suc zero, l, e, f) = (or_right (a == x) (b == x) ((Decides-eqb b x).1 e), sym f)
counts c a b x v (suc (suc k), l, e, f) = absurd (omega arith)

has_count : (c : Classes) (a b x v : ℕ) → is_of_pair a b x ≡ true → v ≡ 1 → HasCount (pair_of c a b) 2 x v
has_count c a b x v t e = elim (or_cases (a == x) (b == x) t) [
  | inl h ↦ (0, omega arith, (Decides-eqb a x).0 h, sym e)
  | inr h ↦ (1, omega arith, (Decides-eqb b x).0 h, sym e)
]

pub parted : (old new : Classes) (a b n : ℕ) → ArePartedBy old.class_of.items new.class_of.items (pair_of old a b) 2 n → IsPairParted old new a b n
parted old new a b n h x y lx ly = (
  (λ e.
      let g = (h x y lx ly).0 e in (
        g.0,
        same_truth (is_of_pair a b x) (is_of_pair a b y)
            (λ t. (counts old a b y 1 ((g.1 1).0 (has_count old a b x 1 t refl))).0)
            (λ t. (counts old a b x 1 ((g.1 1).1 (has_count old a b y 1 t refl))).0),
      )),
  (λ e. (h x y lx ly).1 (
    e.0,
    (λ v. (
      (λ t. let r = counts old a b x v t in has_count old a b y v (sym e.1 ∙ r.0) r.1),
      (λ t. let r = counts old a b y v t in has_count old a b x v (e.1 ∙ r.0) r.1),
    )),
  )),
)
