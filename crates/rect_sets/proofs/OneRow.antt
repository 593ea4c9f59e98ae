-- Runs of one row: those that are listed are exactly the longest ones.
use Rattle.std.proofs.Common.{◌≡◌, ◌⊎◌, inl, inr, ℤ, pos, ◌-ℤ◌, ◌≤ℤ◌, ◌<ℤ◌, List, [], ◌∷◌, Bool, true, false, ◌||◌, refl, sym, ap, ◌∙◌, subst, arith}
use Rattle.std.proofs.lemmas.Int.{ints, by_lt_z}
use Rattle.std.proofs.lemmas.Bool.{false≢true, or_left, or_parts}
use Rattle.rect_sets.specs.Spans.{covers, is_inside, AreApart}
use Rattle.rect_sets.specs.Rects.{IsRun}
use Rattle.rect_sets.specs.Sweeps.{IsIn, IsRowOf}
use Rattle.rect_sets.specs.declared.row.Span.{Span}
use Rattle.geo_base.specs.declared.shapes.Square.{Square}

pub record IsLongest (runs : List Span) (a b : ℤ) : Type 0 where
  pub some : a <ℤ b
  pub inside : (x : ℤ) → a ≤ℤ x → x <ℤ b → covers runs x ≡ true
  pub before : covers runs (a -ℤ pos 1) ≡ false
  pub after : covers runs b ≡ false

in_span : (x : ℤ) (t : Span) → t.x1 ≤ℤ x → x <ℤ t.x2 → is_inside x t ≡ true
in_span x t h g = grind (arith, ints)

left_of : (x : ℤ) (t : Span) → x <ℤ t.x1 → is_inside x t ≡ false
left_of x t h = grind (arith, ints)

right_of : (x : ℤ) (t : Span) → t.x2 ≤ℤ x → is_inside x t ≡ false
right_of x t h = grind (arith, ints)

or_false : (b c : Bool) → b ≡ false → (b || c) ≡ c
or_false true c e = absurd (false≢true (sym e))
or_false false c e = refl

or_cases : (b c : Bool) → (b || c) ≡ true → (b ≡ true) ⊎ ((b ≡ false) × (c ≡ true))
or_cases true c e = inl refl
or_cases false c e = inr (refl, e)

inside_low : (x : ℤ) (t : Span) → is_inside x t ≡ true → t.x1 ≤ℤ x
inside_low x t h = by_lt_z x t.x1 (λ lt. absurd (false≢true (sym (left_of x t lt) ∙ h))) (λ le. le)

inside_high : (x : ℤ) (t : Span) → is_inside x t ≡ true → x <ℤ t.x2
inside_high x t h = by_lt_z x t.x2 (λ lt. lt) (λ le. absurd (false≢true (sym (right_of x t le) ∙ h)))

pub covers_left : (from x : ℤ) (runs : List Span) → AreApart from runs → x ≤ℤ from → covers runs x ≡ false
covers_left from x [] h le = refl
covers_left from x (t ∷ runs) h le =
    let h0 = h.0 in let h1 = h.1 in
    or_false (is_inside x t) (covers runs x) (left_of x t (omega (arith, ints))) ∙ covers_left t.x2 x runs h.2 (omega (arith, ints))

pub in_right : (from : ℤ) (s : Span) (runs : List Span) → AreApart from runs → IsIn s runs → from <ℤ s.x1
in_right from s [] h g = absurd g
in_right from s (t ∷ runs) h (inl e) = subst (λ (q : Span). from <ℤ q.x1) (sym e) h.0
in_right from s (t ∷ runs) h (inr g) = let k = in_right t.x2 s runs h.2 g in let h0 = h.0 in let h1 = h.1 in omega (arith, ints)

head_run : (from : ℤ) (t : Span) (runs : List Span) → AreApart from (t ∷ runs) → IsLongest (t ∷ runs) t.x1 t.x2
head_run from t runs h =
    let h1 = h.1 in
    record {
      some = h.1;
      inside = λ x low high. or_left (is_inside x t) (covers runs x) (in_span x t low high);
      before = or_false (is_inside (t.x1 -ℤ pos 1) t) _ (left_of (t.x1 -ℤ pos 1) t (omega (arith, ints))) ∙ covers_left t.x2 (t.x1 -ℤ pos 1) runs h.2 (omega (arith, ints));
      after = or_false (is_inside t.x2 t) _ (right_of t.x2 t (omega (arith, ints))) ∙ covers_left t.x2 t.x2 runs h.2 (omega (arith, ints));
    }

behind_run : (t : Span) (runs : List Span) (a b : ℤ) → t.x2 <ℤ a → IsLongest runs a b → IsLongest (t ∷ runs) a b
behind_run t runs a b lt k =
    let ks = k.some in
    record {
      some = k.some;
      inside = λ x low high. or_false (is_inside x t) _ (right_of x t (omega (arith, ints))) ∙ k.inside x low high;
      before = or_false (is_inside (a -ℤ pos 1) t) _ (right_of (a -ℤ pos 1) t (omega (arith, ints))) ∙ k.before;
      after = or_false (is_inside b t) _ (right_of b t (omega (arith, ints))) ∙ k.after;
    }

pub in_to_longest : (from : ℤ) (s : Span) (runs : List Span) → AreApart from runs → IsIn s runs → IsLongest runs s.x1 s.x2
in_to_longest from s [] h g = absurd g
in_to_longest from s (t ∷ runs) h (inl e) = subst (λ (q : Span). IsLongest (t ∷ runs) q.x1 q.x2) (sym e) (head_run from t runs h)
in_to_longest from s (t ∷ runs) h (inr g) = behind_run t runs s.x1 s.x2 (in_right t.x2 s runs h.2 g) (in_to_longest t.x2 s runs h.2 g)

same_span : (s t : Span) → s.x1 ≡ t.x1 → s.x2 ≡ t.x2 → s ≡ t
same_span s t e f = ap (λ (a : ℤ). let r : Span = record { x1 = a; x2 = s.x2 } in r) e ∙ ap (λ (b : ℤ). let r : Span = record { x1 = t.x1; x2 = b } in r) f

-- at its left end the run is in the first span
begins_here : (from a b : ℤ) (t : Span) (runs : List Span) → AreApart from (t ∷ runs) → IsLongest (t ∷ runs) a b → is_inside a t ≡ true → (a ≡ t.x1) × (b ≡ t.x2)
begins_here from a b t runs h k e =
    let low : t.x1 ≤ℤ a = inside_low a t e in
    let high : a <ℤ t.x2 = inside_high a t e in
    let ks = k.some in
    let not_before : is_inside (a -ℤ pos 1) t ≡ false = (or_parts (is_inside (a -ℤ pos 1) t) (covers runs (a -ℤ pos 1)) k.before).0 in
    let first : a ≤ℤ t.x1 = by_lt_z t.x1 a (λ lt. absurd (false≢true (sym not_before ∙ in_span (a -ℤ pos 1) t (omega (arith, ints)) (omega (arith, ints))))) (λ le. le) in
    let own = head_run from t runs h in
    let up : b ≤ℤ t.x2 = by_lt_z t.x2 b (λ lt. absurd (false≢true (sym own.after ∙ k.inside t.x2 (omega (arith, ints)) lt))) (λ le. le) in
    let not_after : is_inside b t ≡ false = (or_parts (is_inside b t) (covers runs b) k.after).0 in
    let down : t.x2 ≤ℤ b = by_lt_z b t.x2 (λ lt. absurd (false≢true (sym not_after ∙ in_span b t (omega (arith, ints)) lt))) (λ le. le) in
    (omega (arith, ints), omega (arith, ints))

later : (t : Span) (runs : List Span) (a b : ℤ) → t.x2 <ℤ a → IsLongest (t ∷ runs) a b → IsLongest runs a b
later t runs a b lt k =
    let ks = k.some in
    record {
      some = k.some;
      inside = λ x low high. sym (or_false (is_inside x t) _ (right_of x t (omega (arith, ints)))) ∙ k.inside x low high;
      before = sym (or_false (is_inside (a -ℤ pos 1) t) _ (right_of (a -ℤ pos 1) t (omega (arith, ints)))) ∙ k.before;
      after = sym (or_false (is_inside b t) _ (right_of b t (omega (arith, ints)))) ∙ k.after;
    }

pub longest_to_in : (from : ℤ) (s : Span) (runs : List Span) → AreApart from runs → IsLongest runs s.x1 s.x2 → IsIn s runs
longest_to_in from s [] h k = let ks = k.some in false≢true (k.inside s.x1 (omega (arith, ints)) k.some)
longest_to_in from s (t ∷ runs) h k =
    let ks = k.some in
    elim (or_cases (is_inside s.x1 t) (covers runs s.x1) (k.inside s.x1 (omega (arith, ints)) k.some)) [
      | inl e ↦ (let b = begins_here from s.x1 s.x2 t runs h k e in inl (same_span s t b.0 b.1))
      | inr e ↦
          let right : t.x2 <ℤ s.x1 = by_lt_z t.x2 s.x1 (λ lt. lt) (λ le. absurd (false≢true (sym (covers_left t.x2 s.x1 runs h.2 le) ∙ e.1))) in
          inr (longest_to_in t.x2 s runs h.2 (later t runs s.x1 s.x2 right k))
    ]

-- the same of a set

pub in_to_run : (set : Square → Bool) (row : ℤ) (runs : List Span) (s : Span) → IsRowOf set row runs → IsIn s runs → IsRun set row s.x1 s.x2
in_to_run set row runs s h g =
    let k = in_to_longest h.from s runs h.apart g in
    record {
      some = k.some;
      inside = λ x low high. sym (h.same x) ∙ k.inside x low high;
      before = sym (h.same (s.x1 -ℤ pos 1)) ∙ k.before;
      after = sym (h.same s.x2) ∙ k.after;
    }

pub run_to_in : (set : Square → Bool) (row : ℤ) (runs : List Span) (s : Span) → IsRowOf set row runs → IsRun set row s.x1 s.x2 → IsIn s runs
run_to_in set row runs s h k = longest_to_in h.from s runs h.apart (record {
  some = k.some;
  inside = λ x low high. h.same x ∙ k.inside x low high;
  before = h.same (s.x1 -ℤ pos 1) ∙ k.before;
  after = h.same s.x2 ∙ k.after;
})
