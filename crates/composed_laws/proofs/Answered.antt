-- Answers that are matches compose.
use Rattle.std.proofs.Common.{◌≡◌, ℕ, suc, ◌<◌, false, List, length, take, slice_index, Option, Some, refl, sym, ◌∙◌, ap, subst, arith}
use Rattle.plain_netlist.specs.Netlist.{Circuit, Netlist, IsCircuit}
use Rattle.match_laws.specs.Circuits.{Pairing, IsOneToOne, IsCorrespondence}
use Rattle.match_laws.specs.Answer.{Answer, equal_names, IsAnswer}
use Rattle.align_laws.specs.Lists.{circuit_or}
use Rattle.align_laws.specs.Partners.{AreSides}
use Rattle.composed_laws.specs.Composed.{IsMatch, IsComparable}
use Rattle.composed_laws.specs.Answered.{pairing_or, right_pins, children_of, children_in, pair_in, Asked, AreAnswers, AreMatches, AnsweredLaw}
use Rattle.composed_laws.proofs.Fitting.{kids_in, list_of, left_first, right_first, left_inside, right_inside, corresponds}
use Rattle.composed_laws.proofs.PinLists.{pin_image}

module _ (left right : Netlist) (asked : Asked) (answers : ℕ → Answer) (pairings : ℕ → Pairing) (sides : AreSides left right) (each : AreAnswers left right asked answers) (all : AreMatches left answers pairings) where
  abbrev height : ℕ → ℕ
  height = sides.left_good.0

  abbrev kids : ℕ → Option (List ℕ)
  kids = children_of left answers

  kids_are : (k : ℕ) (c : Circuit) → IsCircuit left k c → kids k ≡ Some (take (length c.pins) (pairings k).nets)
  kids_are k c is = ap (λ (x : Circuit). right_pins x (pairing_or (answers k))) (ap circuit_or is) ∙ ap (λ a. right_pins c (pairing_or a)) (all k c is)

  whole : (k : ℕ) (c d : Circuit) → IsCircuit left k c → IsCircuit right k d → IsCorrespondence (pair_in (asked.told k) left answers c d) (pairings k)
  whole k c d is it = corresponds left right height sides.left_good.1 sides.right_good.0 sides.right_good.1 asked answers sides (suc (height k)) (λ j x y low at there. each j x y at there) k c d (pairings k) (omega arith) is it (all k c is)

  -- the same over all children
  plain : (k : ℕ) (c d : Circuit) → IsCorrespondence (pair_in (asked.told k) left answers c d) (pairings k) → IsCorrespondence (record { left = c; right = d; children = kids; told = false }) (pairings k)
  plain k c d h = record {
    nets = h.nets;
    devices = h.devices;
    calls = h.calls;
    pin = h.pin;
    named = λ n lt. refl;
    device = h.device;
    call = λ j row other at there.
        let r = h.call j row other at there in
        record { pair = r.pair; pins = r.pins; matched = kid c row.circuit r.pins r.matched; count = r.count; at = r.at };
  }
    where
      kid : (c : Circuit) (q : ℕ) (pins : List ℕ) → children_in left answers c q ≡ Some pins → kids q ≡ Some pins
      kid c q pins h = (kids_in left right height sides.left_good.1 sides.right_good.0 sides.right_good.1 asked answers sides 0 (λ j x y low at there. absurd (omega arith)) c q pins h).0

  -- the list of a called pair
  list_at : (k : ℕ) (c d : Circuit) (pins : List ℕ) → IsCircuit left k c → IsCircuit right k d → kids k ≡ Some pins → IsOneToOne pins (length c.pins) (length c.pins) × (length c.pins ≡ length d.pins)
  list_at k c d pins is it kid =
      let one = list_of left right height sides.left_good.1 sides.right_good.0 sides.right_good.1 asked answers sides 0 (λ j x y low at there. absurd (omega arith)) kids false k c d (pairings k) is it (plain k c d (whole k c d is it)) in
      let same : take (length c.pins) (pairings k).nets ≡ pins = let e = kids_are k c is in cc in
      (subst (λ (l : List ℕ). IsOneToOne l (length c.pins) (length c.pins)) same one.0, one.1)

  pub match_all : IsMatch left right kids pairings
  match_all = record {
    there = sides.there;
    back = sides.back;
    each = λ k c d is it. plain k c d (whole k c d is it);
    pins = λ k c d pins is it kid i lt.
        let z = λ (j : ℕ) (x y : Circuit) (low : height j < 0) (at : IsCircuit left j x) (there : IsCircuit right j y). absurd {A = IsAnswer (pair_in (asked.told j) left answers x y) (equal_names (pair_in (asked.told j) left answers x y)) asked.limit (answers j)} (omega arith) in
        let image = pin_image (pair_in (asked.told k) left answers c d) (pairings k) (whole k c d is it)
        (left_first left right height sides.left_good.1 sides.right_good.0 sides.right_good.1 asked answers sides 0 z k c is)
        (right_first left right height sides.left_good.1 sides.right_good.0 sides.right_good.1 asked answers sides 0 z k d it)
        (left_inside left right height sides.left_good.1 sides.right_good.0 sides.right_good.1 asked answers sides 0 z k c is)
        (right_inside left right height sides.left_good.1 sides.right_good.0 sides.right_good.1 asked answers sides 0 z k d it) i lt in
        let same : take (length c.pins) (pairings k).nets ≡ pins = let e = kids_are k c is in cc in
        subst (λ (l : List ℕ). slice_index (pairings k).nets (slice_index c.pins i) ≡ slice_index d.pins (slice_index l i)) same image;
  }

  pub comparable_left : IsComparable left kids
  comparable_left = record {
    within = sides.left_good.1.within;
    called = sides.left_good.1.called;
    lists = λ c k row pins call kid.
        let x = sides.left_good.1.called c k row call in
        let y = sides.there row.circuit x.0 x.1 in
        let one = list_at row.circuit x.0 y.0 pins x.1 y.1 kid in
        subst (λ z. IsOneToOne pins z z) (sym x.2) one.0;
  }

  pub comparable_right : IsComparable right kids
  comparable_right = record {
    within = sides.right_good.1.within;
    called = sides.right_good.1.called;
    lists = λ c k row pins call kid.
        let y = sides.right_good.1.called c k row call in
        let x = sides.back row.circuit y.0 y.1 in
        let one = list_at row.circuit x.0 y.0 pins x.1 y.1 kid in
        subst (λ z. IsOneToOne pins z z) (one.1 ∙ sym y.2) one.0;
  }

pub answered : AnsweredLaw
answered left right asked answers pairings sides each all = (
  match_all left right asked answers pairings sides each all,
  comparable_left left right asked answers pairings sides each all,
  comparable_right left right asked answers pairings sides each all,
)
