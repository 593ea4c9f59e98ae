-- Runs that grow.
use Rattle.std.proofs.Common.{◌≡◌, ℤ, ◌≤ℤ◌, ◌<ℤ◌, List, [], ◌∷◌, ◌++◌, ◌||◌, sym, ◌∙◌, ap, arith}
use Rattle.base_laws.proofs.Tests.{or_false, or_assoc}
use Rattle.std.proofs.lemmas.Int.{ints}
use Rattle.std.proofs.lemmas.List.Folds.{list_any-append}
use Rattle.geo_base.specs.Rects.{is_between}
use Rattle.rect_sets.specs.Spans.{covers, is_inside, AreApart}
use Rattle.rect_sets.specs.declared.row.Span.{Span}

-- two ranges that meet are one
pub meet : (x a b c d : ℤ) → a ≤ℤ c → c ≤ℤ b → b <ℤ d → (is_between a x b || is_between c x d) ≡ is_between a x d
meet x a b c d h g f = grind (arith, ints)

-- a range that begins past the last run is a run of its own
pub beyond : (low from : ℤ) (closed : List Span) (c d : Span) → c.x2 <ℤ d.x1 → d.x1 <ℤ d.x2 → AreApart from (closed ++ c ∷ []) → AreApart from ((closed ++ c ∷ []) ++ d ∷ [])
beyond low from [] c d lt some h = (h.0, h.1, (lt, some, tt))
beyond low from (s ∷ closed) c d lt some h = (h.0, h.1, beyond low s.x2 closed c d lt some h.2)

-- the last run may be changed to one that begins where it began
pub changed : (from : ℤ) (closed : List Span) (c d : Span) → d.x1 ≡ c.x1 → c.x2 ≤ℤ d.x2 → AreApart from (closed ++ c ∷ []) → AreApart from (closed ++ d ∷ [])
changed from [] c d e le h = (omega (arith, ints, h.0), omega (arith, ints, h.1), tt)
changed from (s ∷ closed) c d e le h = (h.0, h.1, changed s.x2 closed c d e le h.2)

pub one_more : (xs : List Span) (s : Span) (x : ℤ) → covers (xs ++ s ∷ []) x ≡ (covers xs x || is_inside x s)
one_more xs s x = list_any-append (is_inside x) xs (s ∷ []) ∙ ap (λ b. covers xs x || b) (or_false (is_inside x s))

pub last_joined : (closed : List Span) (c d s : Span) (x : ℤ) → (is_inside x c || is_inside x s) ≡ is_inside x d → covers (closed ++ d ∷ []) x ≡ (covers (closed ++ c ∷ []) x || is_inside x s)
last_joined closed c d s x e =
    one_more closed d x ∙ ap (λ b. covers closed x || b) (sym e) ∙ sym (or_assoc (covers closed x) (is_inside x c) (is_inside x s)) ∙ ap (λ b. b || is_inside x s) (sym (one_more closed c x))
