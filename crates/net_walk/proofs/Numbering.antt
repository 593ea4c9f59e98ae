-- The numbers below a count.
use Rattle.std.proofs.Common.{◌≡◌, ◌∙◌, ◌<◌, ◌+◌, ◌++◌, ◌∷◌, [], ℕ, suc, List, inr, length, get_or, ap, sym, arith}
use Rattle.base_laws.proofs.Lists.{range_more}
use Rattle.std.specs.List.{range_with_len}
use Rattle.std.proofs.lemmas.List.FromFn.{get_or-range_with_len, length-range_with_len}
use Rattle.std.proofs.lemmas.Option.{slice_get_within}
use Rattle.flat_layout.specs.Layout.{Design}
use Rattle.flat_layout.specs.Nets.{Tables}
use Rattle.geo_base.specs.declared.shapes.Rect.{Rect}
use Rattle.net_link_laws.specs.Places.{places_of}
use Rattle.net_walk.specs.Windows.{AreAllNumbers, AreOwnNear, ArePlacesNear}

-- one number more
pub counted_more : (n k : ℕ) → k ≡ n → range_with_len 0 (n + 1) ≡ range_with_len 0 n ++ k ∷ []
counted_more n k is =
    let e : suc n ≡ n + 1 = omega arith in
    let f : 0 + n ≡ k = omega (arith, is) in
    ap (range_with_len 0) (sym e) ∙ range_more 0 n ∙ ap (λ j. range_with_len 0 n ++ j ∷ []) f

pub numbers_all : (n : ℕ) (numbers : List ℕ) → numbers ≡ range_with_len 0 n → AreAllNumbers n numbers
numbers_all n numbers e =
    let long : length numbers ≡ n = ap (λ (l : List ℕ). length l) e ∙ length-range_with_len 0 n in
    record {
      inside = λ j lt.
          let before : j < n = omega (arith, long, lt) in
          let is : get_or numbers j 0 ≡ 0 + j = ap (λ (l : List ℕ). get_or l j 0) e ∙ get_or-range_with_len 0 n j 0 before in
          omega (arith, is, before);
      all = λ k lt.
          let is : get_or numbers k k ≡ 0 + k = ap (λ (l : List ℕ). get_or l k k) e ∙ get_or-range_with_len 0 n k k lt in
          (k, omega (arith, long, lt), omega (arith, is));
    }

pub all_own : (own : List Rect) (window : Rect) (near : List ℕ) → AreAllNumbers (length own) near → AreOwnNear own window near
all_own own window near h = record {
  inside = h.inside;
  all = λ r rect q at here within. h.all r (slice_get_within own r rect at);
}

pub all_places : (d : Design) (t : Tables) (cell : ℕ) (window : Rect) (near : List ℕ) → AreAllNumbers (length (places_of d cell)) near → ArePlacesNear d t cell window near
all_places d t cell window near h = record {
  inside = h.inside;
  all = λ k p at. inr (h.all k (slice_get_within (places_of d cell) k p at));
}
