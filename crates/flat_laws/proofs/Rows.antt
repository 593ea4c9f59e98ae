-- The good gates of a list, as entries and as rows.
use Rattle.std.proofs.Common.{◌≡◌, ◌⊎◌, inl, inr, ℕ, List, [], ◌∷◌, Some, slice_get, refl, sym, ap, subst, arith}
use Rattle.std.proofs.lemmas.Int.{ints}
use Rattle.std.proofs.Math.Decide.{dec_lt}
use Rattle.flat_laws.specs.NetlistLaws.{RowsLaw}
use Rattle.flat_layout.specs.Gates.{Sides, Geometry, Rule, geometry, InGate, IsBadGate, IsGoodGate, IsLeast, IsListedGate}
use Rattle.flat_layout.specs.GateTables.{AreGates, Bad, GateEntry, GateRow, GateSquare, Good, GoodGate, IsGateBefore, IsGateRow, IsVerdict, Verdict, good_gates, with_good}
use Rattle.flat_layout.specs.Layout.{Design}
use Rattle.flat_layout.specs.Nets.{Tables}
use Rattle.flat_layout.specs.Plane.{IsSquareBefore}
use Rattle.flat_layout.specs.Regions.{Wiring}
use Rattle.geo_base.specs.declared.shapes.Square.{Square}
use Rattle.plain_netlist.specs.Lists.{AreRising, IsListed}
use Rattle.plain_netlist.proofs.Listing.{rising_at}
use Rattle.plain_netlist.proofs.Members.{position, listed}
use Rattle.flat_laws.proofs.Once.{gate_back}
use Rattle.flat_laws.proofs.Same.{good_same}
use Rattle.flat_laws.proofs.Judged.{not_both}

-- no square comes before itself, and of two at most one before the other
pub square_apart : (p q : Square) → IsSquareBefore p q → IsSquareBefore q p → ⊥
square_apart p q (inl h) (inl g) = omega (arith, ints)
square_apart p q (inl h) (inr (e, g)) = omega (arith, ints)
square_apart p q (inr (e, h)) (inl g) = omega (arith, ints)
square_apart p q (inr (e, h)) (inr (f, g)) = omega (arith, ints)

-- a gate has one least square
pub one_least : (d : Design) (g : Geometry) (cell : ℕ) (s q : Square) → IsLeast (InGate d g cell s) s → IsLeast (InGate d g cell q) q → InGate d g cell s q → s ≡ q
one_least d g cell s q h k one = elim (h.least q one) [
  | inl e ↦ e
  | inr a ↦ elim (k.least s (gate_back d g cell s q one)) [ inl e ↦ sym e | inr b ↦ absurd (square_apart s q a b) ]
]

from_first : (at : GateSquare) (v : Verdict) (gates : List GoodGate) (x : GoodGate) → IsListed x (with_good at v gates) → ((at ≡ x.at) × (v ≡ Good x.row)) ⊎ IsListed x gates
from_first at (Good row) gates x (inl e) = let f = sym e in inl (ap (λ (y : GoodGate). y.at) f, ap (λ (y : GoodGate). Good y.row) f)
from_first at (Good row) gates x (inr h) = inr h
from_first at (Bad cause) gates x h = inr h

-- a good gate's entry
pub entry_of : (v : List GateEntry) (x : GoodGate) → IsListed x (good_gates v) → (e : GateEntry) × IsListed e v × (e.at ≡ x.at) × (e.verdict ≡ Good x.row)
entry_of [] x h = absurd h
entry_of (e ∷ es) x h = elim (from_first e.at e.verdict (good_gates es) x h) [
  | inl g ↦ (e, inl refl, g.0, g.1)
  | inr g ↦ let r = entry_of es x g in (r.0, inr r.1, r.2, r.3)
]

here_first : (at : GateSquare) (v : Verdict) (gates : List GoodGate) (row : GateRow) → v ≡ Good row → IsListed (record { at = at; row = row }) (with_good at v gates)
here_first at (Good own) gates row e = inl (ap (λ (r : GateRow). let g : GoodGate = record { at = at; row = r } in g) (let f : own ≡ row = cc in sym f))
here_first at (Bad cause) gates row e = cc

behind_first : (at : GateSquare) (v : Verdict) (gates : List GoodGate) (x : GoodGate) → IsListed x gates → IsListed x (with_good at v gates)
behind_first at (Good row) gates x h = inr h
behind_first at (Bad cause) gates x h = h

-- a good entry's gate
pub good_of : (v : List GateEntry) (e : GateEntry) (row : GateRow) → IsListed e v → e.verdict ≡ Good row → IsListed (record { at = e.at; row = row }) (good_gates v)
good_of [] e row h g = absurd h
good_of (x ∷ xs) e row (inl h) g =
    subst (λ (y : GateEntry). IsListed (record { at = e.at; row = row }) (with_good y.at y.verdict (good_gates xs))) h (here_first e.at e.verdict (good_gates xs) row g)
good_of (x ∷ xs) e row (inr h) g = behind_first x.at x.verdict (good_gates xs) (record { at = e.at; row = row }) (good_of xs e row h g)

abbrev pub IsGoodBefore : GoodGate → GoodGate → Type 0
IsGoodBefore x y = IsGateBefore x.at y.at

first_rising : (at : GateSquare) (v : Verdict) (gates : List GoodGate) → ((x : GoodGate) → IsListed x gates → IsGateBefore at x.at) → AreRising IsGoodBefore gates → AreRising IsGoodBefore (with_good at v gates)
first_rising at (Good row) gates all rising = (all, rising)
first_rising at (Bad cause) gates all rising = rising

pub good_rising : (v : List GateEntry) → AreRising (λ x y. IsGateBefore x.at y.at) v → AreRising IsGoodBefore (good_gates v)
good_rising [] h = tt
good_rising (e ∷ es) h = first_rising e.at e.verdict (good_gates es)
    (λ x l. let r = entry_of es x l in subst (λ a. IsGateBefore e.at a) r.2 (h.0 r.0 r.1)) (good_rising es h.1)

module _ (d : Design) (w : Wiring) (t : Tables) (rules : List Rule) (cell : ℕ) (v : List GateEntry) (h : AreGates d w t rules cell v) where
  -- what is known of a good gate
  record Known (x : GoodGate) : Type 0 where
    rule : Rule
    is : slice_get rules x.at.rule ≡ Some rule
    gate : IsListedGate d (geometry w rule) cell x.at.square
    least : IsLeast (InGate d (geometry w rule) cell x.at.square) x.at.square
    row : IsGateRow d w t rule cell x.at.square x.row

  known : (x : GoodGate) → IsListed x (good_gates v) → Known x
  known x l =
      let r = entry_of v x l in
      let e = h.each r.0 r.1 in record {
        rule = e.rule;
        is = subst (λ (a : GateSquare). slice_get rules a.rule ≡ Some e.rule) r.2 e.is;
        gate = subst (λ (a : GateSquare). IsListedGate d (geometry w e.rule) cell a.square) r.2 e.gate;
        least = subst (λ (a : GateSquare). IsLeast (InGate d (geometry w e.rule) cell a.square) a.square) r.2 e.least;
        row = subst (λ (a : GateSquare). IsGateRow d w t e.rule cell a.square x.row) r.2 (subst (λ f. IsVerdict d w t e.rule cell r.0.at.square f) r.3 e.verdict);
      }

  each : (i : ℕ) (x : GoodGate) → slice_get (good_gates v) i ≡ Some x → (u : Rule) × (slice_get rules x.at.rule ≡ Some u) × IsListedGate d (geometry w u) cell x.at.square × IsGateRow d w t u cell x.at.square x.row
  each i x at = let k = known x (listed (good_gates v) i x at) in (k.rule, k.is, k.gate, k.row)

  found : (r : ℕ) (u : Rule) (s : Square) (sides : Sides) (m n : ℕ) → slice_get rules r ≡ Some u → IsListedGate d (geometry w u) cell s → IsGoodGate d w u cell s sides m n
      → (i : ℕ) × (x : GoodGate) × (slice_get (good_gates v) i ≡ Some x) × (x.at.rule ≡ r) × InGate d (geometry w u) cell s x.at.square
  found r u s sides m n rule gate good = by x.0.verdict refl
    where
      x : (y : GateEntry) × IsListed y v × (y.at.rule ≡ r) × InGate d (geometry w u) cell s y.at.square
      x = h.found r u s rule gate

      by : (verdict : Verdict) → x.0.verdict ≡ verdict → (i : ℕ) × (y : GoodGate) × (slice_get (good_gates v) i ≡ Some y) × (y.at.rule ≡ r) × InGate d (geometry w u) cell s y.at.square
      by (Good row) is = let l = position (good_gates v) (record { at = x.0.at; row = row }) (good_of v x.0 row x.1 is) in (l.0, record { at = x.0.at; row = row }, l.1, x.2, x.3)
      by (Bad cause) is =
          let k = h.each x.0 x.1 in
          let there : slice_get rules r ≡ Some k.rule = subst (λ j. slice_get rules j ≡ Some k.rule) x.2 k.is in
          let same : k.rule ≡ u = cc in
          let bad : IsBadGate d w k.rule cell x.0.at.square cause = subst (λ f. IsVerdict d w t k.rule cell x.0.at.square f) is k.verdict in
          absurd (not_both d w u cell x.0.at.square sides m n cause (good_same d w u cell s x.0.at.square x.3 sides m n good) (subst (λ y. IsBadGate d w y cell x.0.at.square cause) same bad))

  once : (i j : ℕ) (x y : GoodGate) (u : Rule) → slice_get (good_gates v) i ≡ Some x → slice_get (good_gates v) j ≡ Some y → x.at.rule ≡ y.at.rule → slice_get rules x.at.rule ≡ Some u
      → InGate d (geometry w u) cell x.at.square y.at.square → i ≡ j
  once i j x y u ix iy rule is one =
      elim (dec_lt i j) [
        | yes lt ↦ absurd (clash x y (rising_at IsGoodBefore (good_gates v) i j x y rising lt ix iy) rule squares)
        | no not ↦ elim (dec_lt j i) [
          | yes lt ↦ absurd (clash y x (rising_at IsGoodBefore (good_gates v) j i y x rising lt iy ix) (sym rule) (sym squares))
          | no more ↦ omega arith
        ]
      ]
    where
      rising : AreRising IsGoodBefore (good_gates v)
      rising = good_rising v h.rising

      kx : Known x
      kx = known x (listed (good_gates v) i x ix)

      ky : Known y
      ky = known y (listed (good_gates v) j y iy)

      same : kx.rule ≡ u
      same = let a = kx.is in let b = is in cc

      other : ky.rule ≡ u
      other = let a : slice_get rules x.at.rule ≡ Some ky.rule = subst (λ k. slice_get rules k ≡ Some ky.rule) (sym rule) ky.is in cc

      squares : x.at.square ≡ y.at.square
      squares = one_least d (geometry w u) cell x.at.square y.at.square (subst (λ r. IsLeast (InGate d (geometry w r) cell x.at.square) x.at.square) same kx.least) (subst (λ r. IsLeast (InGate d (geometry w r) cell y.at.square) y.at.square) other ky.least) one

      clash : (a b : GoodGate) → IsGateBefore a.at b.at → a.at.rule ≡ b.at.rule → a.at.square ≡ b.at.square → ⊥
      clash a b (inl lt) e f = omega arith
      clash a b (inr (g, before)) e f = let self : IsSquareBefore a.at.square a.at.square = subst (λ q. IsSquareBefore a.at.square q) (sym f) before in square_apart a.at.square a.at.square self self

pub rows : RowsLaw
rows d w t rules cell v h = record { each = each d w t rules cell v h; found = found d w t rules cell v h; once = once d w t rules cell v h }
