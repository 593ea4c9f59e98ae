-- Rounds of windows end: each takes squares that none took before, of a bounded plane.
use Rattle.std.proofs.Common.{◌≡◌, ◌⊎◌, inl, inr, ℕ, ◌+◌, ◌*◌, ◌^◌, ◌<◌, ◌≤◌, ℤ, pos, ◌-ℤ◌, Option, Some, None, List, true, ◌&&◌, ◌||◌, not, refl, sym, ◌∙◌, ap, subst, arith}
use Rattle.std.proofs.lemmas.Bool.{false≢true, or_left, or_right, and_parts}
use Rattle.std.proofs.lemmas.Int.{ints}
use Rattle.std.specs.Option.{MatchOption, is_some}
use Rattle.geo_base.specs.declared.shapes.Rect.{Rect}
use Rattle.geo_base.specs.declared.shapes.Square.{Square}
use Rattle.rect_sets.specs.Near.{IsNearSet}
use Rattle.rect_sets.specs.Rects.{covers, IsCanonical}
use Rattle.flat_layout.specs.Parts.{Counts}
use Rattle.flat_laws.proofs.Count.{fewer}
use Rattle.gate_shapes.specs.Sets.{in_set, area}
use Rattle.gate_shapes.proofs.Areas.{IsWithin, box_count, canonical_count}
use Rattle.gate_shapes.proofs.Counting.{counts_one, counts_or}
use Rattle.gate_search.specs.Gather.{IsGathering}

-- what is done and what is fresh share no square
pub record IsRound (keeps : Square → Type 0) (windows done fresh : List Rect) : Type 0 where
  pub gathering : IsGathering keeps windows done fresh
  pub apart : (q : Square) → in_set done q → in_set fresh q → ⊥

-- of what lies in another, there is no more
fewer_of : {A : Type 0} (P Q : A → Type 0) (m n : ℕ) → Counts P m → Counts Q n → ((a : A) → P a → Q a) → m ≤ n
fewer_of P Q m n c d sub =
    let le = fewer c.all d.all c.apart (λ a l. (d.each a).0 (sub a ((c.each a).1 l))) in
    let e = c.count in
    let f = d.count in
    omega (arith, le, e, f)

-- a set in a box of this width and height has no more squares than the box
in_box : (rects : List Rect) (corner : ℤ) (w : ℕ) → IsCanonical rects → ((q : Square) → in_set rects q → IsWithin corner w corner w q) → area rects ≤ w * w
in_box rects corner w good within =
    fewer_of (in_set rects) (IsWithin corner w corner w) (area rects) (w * w) (canonical_count rects good) (box_count corner w corner w) within

pub at_most : (rects : List Rect) → IsCanonical rects → IsNearSet rects → area rects ≤ 2 ^ 82
at_most rects good near =
    in_box rects (pos 0 -ℤ pos (2 ^ 40)) (2 ^ 41) good
    (λ q e. let n = near q e in
    let a = n.low.x.low in let b = n.high.x.high in let c = n.low.y.low in let d = n.high.y.high in
    record { low_x = a; high_x = omega (arith, ints, b); low_y = c; high_y = omega (arith, ints, d) })

-- with a square that isn't done there are more
pub grows : (done fresh joined : List Rect) (q : Square) → IsCanonical done → IsCanonical joined → ((s : Square) → covers joined s ≡ (covers done s || covers fresh s))
    → in_set fresh q → (in_set done q → ⊥) → area done < area joined
grows done fresh joined q good good' is here not =
    let more : Counts (λ a. in_set done a ⊎ (a ≡ q)) (area done + 1) =
    counts_or (in_set done) (λ a. a ≡ q) (area done) 1 (area done + 1) refl (λ a e f. not (subst (λ (s : Square). in_set done s) f e)) (canonical_count done good) (counts_one (λ a. a ≡ q) q refl (λ a e. e)) in
    let le = fewer_of (λ a. in_set done a ⊎ (a ≡ q)) (in_set joined) (area done + 1) (area joined) more (canonical_count joined good')
    (λ a e. elim e [
      | inl f ↦ is a ∙ or_left (covers done a) (covers fresh a) f
      | inr f ↦ is a ∙ or_right (covers done a) (covers fresh a) (subst (λ (s : Square). in_set fresh s) (sym f) here)
    ]) in
    omega (arith, le)

-- what is left of a set without what is done
pub apart_left : (done next fresh : List Rect) → ((q : Square) → covers fresh q ≡ (covers next q && not (covers done q))) → (q : Square) → in_set done q → in_set fresh q → ⊥
apart_left done next fresh left q there here =
    let neither = (and_parts (covers next q) (not (covers done q)) (sym (left q) ∙ here)).1 in
    false≢true (sym (ap not there) ∙ neither)

pub some_from : (o : Option Square) (P : Type 0) (Q : Square → Type 0) → is_some o ≡ true → MatchOption o P Q → (q : Square) × Q q
some_from None P Q e h = absurd (false≢true e)
some_from (Some q) P Q e h = (q, h)
