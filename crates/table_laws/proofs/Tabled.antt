-- Disturbed squares, local layers and rectangles are determined; local layers and nets that are right by themselves are right tables.
use Rattle.std.proofs.Common.{◌≡◌, inl, inr, ℕ, zero, suc, true, false, ◌||◌, List, [], ◌∷◌, ◌++◌, Some, slice_get, pos, refl, sym, ◌∙◌, ap, subst, arith}
use Rattle.base_laws.proofs.Tests.{same_truth, or_true}
use Rattle.std.proofs.lemmas.Bool.{cases_Bool}
use Rattle.std.proofs.lemmas.Int.{ints}
use Rattle.std.proofs.lemmas.Option.{slice_get-get_or, slice_get_within}
use Rattle.std.specs.List.{All}
use Rattle.std.specs.Prelude.{get_or}
use Rattle.geo_base.specs.Rects.{has, IsRect}
use Rattle.geo_base.specs.declared.shapes.Rect.{Rect}
use Rattle.geo_base.specs.declared.shapes.Square.{Square}
use Rattle.rect_sets.specs.Rects.{covers}
use Rattle.rect_sets.proofs.Unique.{all_rects, one_list, rect_of}
use Rattle.flat_layout.specs.Layout.{Design, IsReached, Leads}
use Rattle.flat_layout.specs.Nets.{AreListed, Tables, IsUnder}
use Rattle.flat_layout.specs.Plane.{IsIn}
use Rattle.flat_layout.specs.Regions.{Wiring, formula}
use Rattle.flat_layout.specs.Values.{IsLocalLayer}
use Rattle.flat_laws.proofs.Items.{together}
use Rattle.table_laws.specs.TableLaws.{OneLayerLaw, OneOwnLaw, OneZoneLaw, TablesLaw}

has_in : (r : Rect) (q : Square) → has r q ≡ true → IsIn q r
has_in r q h = (grind (arith, ints), grind (arith, ints), grind (arith, ints), grind (arith, ints))

has_out : (r : Rect) (q : Square) → has r q ≡ false → IsIn q r → ⊥
has_out r q h (a, b, c, d) = grind (arith, ints)

in_has : (r : Rect) (q : Square) → IsIn q r → has r q ≡ true
in_has r q i = elim (cases_Bool (has r q)) [ inl h ↦ h | inr h ↦ absurd (has_out r q h i) ]

-- a list covers a square where one of its rectangles has it
pub covered : (list : List Rect) (q : Square) → covers list q ≡ true → (r : ℕ) × (rect : Rect) × (slice_get list r ≡ Some rect) × IsIn q rect
covered [] q h = absurd (let z : ⊥ = cc in z)
covered (x ∷ xs) q h = elim (cases_Bool (has x q)) [
  | inl a ↦ (0, x, refl, has_in x q a)
  | inr a ↦ let rest : covers xs q ≡ true = sym (ap (λ t. t || covers xs q) a) ∙ h in let k = covered xs q rest in (suc k.0, k.1, k.2, k.3)
]

pub tells : (list : List Rect) (r : ℕ) (rect : Rect) (q : Square) → slice_get list r ≡ Some rect → IsIn q rect → covers list q ≡ true
tells [] r rect q e i = absurd (let z : ⊥ = cc in z)
tells (x ∷ xs) zero rect q e i = let s : x ≡ rect = cc in ap (λ t. t || covers xs q) (subst (λ (y : Rect). has y q ≡ true) (sym s) (in_has rect q i))
tells (x ∷ xs) (suc r) rect q e i = ap (λ t. has x q || t) (tells xs r rect q e i) ∙ or_true (has x q)

pub one_zone : OneZoneLaw
one_zone d keys n cell v z a b = one_list v z a.canonical b.canonical (λ q. same_truth (covers v q) (covers z q) (λ e. (b.each q).1 ((a.each q).0 e)) (λ e. (a.each q).1 ((b.each q).0 e)))

pub one_layer : OneLayerLaw
one_layer d name cell v z a b = one_list v z a.canonical b.canonical (λ q. same_truth (covers v q) (covers z q) (λ e. (b.each q).1 ((a.each q).0 e)) (λ e. (a.each q).1 ((b.each q).0 e)))

pub one_own : OneOwnLaw
one_own d w s t cell c a b =
    let to : (u v : Tables) → AreListed d w u cell c → AreListed d w v cell c → (q : Square) → covers (u.own cell c) q ≡ true → covers (v.own cell c) q ≡ true = λ u v g h q k.
    let at = covered (u.own cell c) q k in
    let there = h.own.found q (g.own.local at.0 at.1 q at.2 at.3) in
    tells (v.own cell c) there.0 there.1 q there.2 there.3 in
    one_list (s.own cell c) (t.own cell c) a.canonical b.canonical (λ q. same_truth (covers (s.own cell c) q) (covers (t.own cell c) q) (to s t a b q) (to t s b a q))

abbrev no_rect : Rect
no_rect = record { x1 = pos 0; y1 = pos 0; x2 = pos 0; y2 = pos 0 }

at_listed : (P : Rect → Type 0) (list : List Rect) (r : ℕ) (rect : Rect) → All P list → slice_get list r ≡ Some rect → P rect
at_listed P list r rect all e =
    let lt = slice_get_within list r rect e in
    let same : get_or list r no_rect ≡ rect = (let f : slice_get list r ≡ Some (get_or list r no_rect) = slice_get-get_or list r no_rect lt in cc) in
    subst P same (all r no_rect lt)

-- the corner of a rectangle lies in it
has_corner : (rect : Rect) → IsRect rect → (q : Square) × IsIn q rect
has_corner rect is = let a = is.wide in let b = is.high in (record { x = rect.x1; y = rect.y1 }, (omega (arith, ints), omega (arith, ints), omega (arith, ints), omega (arith, ints)))

-- a local layer as a table
pub own_of : (d : Design) (w : Wiring) (t : Tables) (cell c : ℕ) → IsLocalLayer d (formula w c) cell (t.own cell c) → AreListed d w t cell c
own_of d w t cell c h = record {
  own = record {
    local = λ r rect q e i. (h.each q).0 (tells (t.own cell c) r rect q e i);
    found = λ q l. covered (t.own cell c) q ((h.each q).1 l);
    filled = λ r rect e. has_corner rect (at_listed IsRect (t.own cell c) r rect (all_rects (t.own cell c) (λ x i. rect_of _ x ((h.canonical.each x).0 i))) e);
  };
  canonical = h.canonical;
}

pub leads_both : (d : Design) (from mid to : ℕ) (ks js : List ℕ) → Leads d from ks mid → Leads d mid js to → Leads d from (ks ++ js) to
leads_both d from mid to [] js h g = subst (λ c. Leads d c js to) (sym h) g
leads_both d from mid to (k ∷ ks) js h g = (h.0, h.1, leads_both d h.0.cell mid to ks js h.2 g)

pub reached_under : (d : Design) (cell e : ℕ) → IsReached d cell → IsUnder d cell e → IsReached d e
reached_under d cell e reached under = record { path = reached.path ++ under.0; leads = leads_both d d.top cell e reached.path under.0 reached.leads under.1 }

pub tables : TablesLaw
tables d w t height lower layers nets = (
  record {
    lower = lower;
    parted = λ cell c q reached kept. (layers cell c reached).parted q kept;
    own = λ cell c reached. (own_of d w t cell c (layers cell c reached)).own;
    nets = λ cell reached. together d w t height lower cell (λ e c under. own_of d w t e c (layers e c (reached_under d cell e reached under))) (λ e under. nets e (reached_under d cell e reached under));
  },
  (λ cell c reached. own_of d w t cell c (layers cell c reached)),
)
