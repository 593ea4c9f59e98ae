-- A set has one canonical list.
use Rattle.std.proofs.Common.{◌≡◌, inl, inr, ℕ, zero, suc, ◌<◌, length, get_or, ℤ, pos, ◌-ℤ◌, List, [], ◌∷◌, Bool, refl, sym, ap, ◌∙◌, subst, arith}
use Rattle.std.proofs.lemmas.Int.{ints}
use Rattle.std.specs.List.{All}
use Rattle.geo_base.specs.declared.shapes.Rect.{Rect}
use Rattle.geo_base.specs.declared.shapes.Square.{Square}
use Rattle.geo_base.specs.Rects.{IsRect}
use Rattle.rect_sets.specs.Rects.{covers, IsRun, IsBlock, IsBelow, AreAbove, IsOrdered, IsListed, OneListLaw}

run_of : (f g : Square → Bool) (y a b : ℤ) → ((s : Square) → f s ≡ g s) → IsRun f y a b → IsRun g y a b
run_of f g y a b same h = record {
  some = h.some;
  inside = λ x low high. sym (same (record { x = x; y = y })) ∙ h.inside x low high;
  before = sym (same (record { x = a -ℤ pos 1; y = y })) ∙ h.before;
  after = sym (same (record { x = b; y = y })) ∙ h.after;
}

pub block_of : (f g : Square → Bool) (r : Rect) → ((s : Square) → f s ≡ g s) → IsBlock f r → IsBlock g r
block_of f g r same h = record {
  some = h.some;
  rows = λ y low high. run_of f g y r.x1 r.x2 same (h.rows y low high);
  below = λ run. h.below (run_of g f (r.y1 -ℤ pos 1) r.x1 r.x2 (λ s. sym (same s)) run);
  above = λ run. h.above (run_of g f r.y2 r.x1 r.x2 (λ s. sym (same s)) run);
}

not_both : (r s : Rect) → IsBelow r s → IsBelow s r → ⊥
not_both r s (inl a) (inl b) = omega (arith, ints)
not_both r s (inl a) (inr b) = let e = b.0 in omega (arith, ints)
not_both r s (inr a) (inl b) = let e = a.0 in omega (arith, ints)
not_both r s (inr a) (inr b) = let e = a.1 in let f = b.1 in omega (arith, ints)

listed_above : (r s : Rect) (rects : List Rect) → AreAbove r rects → IsListed s rects → IsBelow r s
listed_above r s [] h g = absurd g
listed_above r s (t ∷ rects) h (inl e) = subst (λ (q : Rect). IsBelow r q) (sym e) h.0
listed_above r s (t ∷ rects) h (inr g) = listed_above r s rects h.1 g

heads : (x y : Rect) (xs ys : List Rect) → AreAbove x xs → AreAbove y ys → IsListed x (y ∷ ys) → IsListed y (x ∷ xs) → x ≡ y
heads x y xs ys hx hy (inl e) g = e
heads x y xs ys hx hy (inr f) (inl e) = sym e
heads x y xs ys hx hy (inr f) (inr g) = absurd (not_both y x (listed_above y x ys hy f) (listed_above x y xs hx g))

behind : (x y r : Rect) (xs ys : List Rect) → x ≡ y → AreAbove x xs → IsListed r xs → IsListed r (y ∷ ys) → IsListed r ys
behind x y r xs ys e hx g (inr f) = f
behind x y r xs ys e hx g (inl f) = let b = listed_above x r xs hx g in let c : IsBelow x x = subst (λ (q : Rect). IsBelow x q) (f ∙ sym e) b in absurd (not_both x x c c)

one : (a b : List Rect) → IsOrdered a → IsOrdered b → ((r : Rect) → IsListed r a → IsListed r b) → ((r : Rect) → IsListed r b → IsListed r a) → a ≡ b
one [] [] oa ob f g = refl
one [] (y ∷ ys) oa ob f g = absurd (g y (inl refl))
one (x ∷ xs) [] oa ob f g = absurd (f x (inl refl))
one (x ∷ xs) (y ∷ ys) oa ob f g =
    let e : x ≡ y = heads x y xs ys oa.0 ob.0 (f x (inl refl)) (g y (inl refl)) in
    let rest : xs ≡ ys = one xs ys oa.1 ob.1 (λ r h. behind x y r xs ys e oa.0 h (f r (inr h))) (λ r h. behind y x r ys xs (sym e) ob.0 h (g r (inr h))) in
    ap (λ (q : Rect). q ∷ xs) e ∙ ap (λ (zs : List Rect). y ∷ zs) rest

pub one_list : OneListLaw
one_list a b ca cb same = one a b ca.ordered cb.ordered
    (λ r h. (cb.each r).1 (block_of (covers a) (covers b) r same ((ca.each r).0 h)))
    (λ r h. (ca.each r).1 (block_of (covers b) (covers a) r (λ s. sym (same s)) ((cb.each r).0 h)))

pub listed_get : (rects : List Rect) (k : ℕ) (d : Rect) → k < length rects → IsListed (get_or rects k d) rects
listed_get [] k d lt = absurd (omega arith)
listed_get (r ∷ rects) zero d lt = inl refl
listed_get (r ∷ rects) (suc k) d lt = inr (listed_get rects k d (omega arith))

-- each block has area
pub rect_of : (set : Square → Bool) (r : Rect) → IsBlock set r → IsRect r
rect_of set r b =
    let some = b.some in record { wide = (b.rows r.y1 (omega (arith, ints)) some).some; high = some }

pub all_rects : (rects : List Rect) → ((r : Rect) → IsListed r rects → IsRect r) → All IsRect rects
all_rects rects h k d lt = h (get_or rects k d) (listed_get rects k d lt)
