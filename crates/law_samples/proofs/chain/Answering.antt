-- The rounds of both pairs leave single classes, so both answers are matches.
use Rattle.std.proofs.Common.{◌≡◌, inl, inr, ℕ, zero, suc, ◌<◌, ◌≤◌, ◌==◌, ltb, true, false, List, [], ◌∷◌, length, Some, slice_get, slice_index, refl, sym, ◌∙◌, ap, subst, arith}
use Rattle.plain_netlist.proofs.Members.{listed}
use Rattle.std.specs.List.{list_all, count_by}
use Rattle.std.proofs.lemmas.Bool.Decides.{Decides-ltb}
use Rattle.std.proofs.lemmas.Option.{none-some, same_Some}
use Rattle.plain_netlist.specs.Lists.{IsListed}
use Rattle.plain_netlist.specs.Netlist.{DeviceRow, Circuit}
use Rattle.round_laws.specs.Nodes.{Node, Side, Layout, Schematic, Kind, Net, Device, Call}
use Rattle.round_laws.specs.Web.{End, Web, IsWeb, IsEven, IsSolved, under, first_of, mate}
use Rattle.round_laws.proofs.Agree.{under_web}
use Rattle.match_laws.specs.Circuits.{Pair, Pairing, circuit_of, device_ends, node, numbers_from, web_of, IsOneToOne, IsFitting, AreMatched, numbers_of}
use Rattle.match_laws.specs.Answer.{equal_names, IsPairing, IsAnswer}
use Rattle.match_laws.proofs.Images.{web_good, nodes_has, size}
use Rattle.match_laws.proofs.Sums.{in_numbers}
use Rattle.law_samples.specs.Latch.{untold}
use Rattle.composed_laws.specs.Answered.{pair_in, AreAnswers}
use Rattle.law_samples.proofs.latch.Checks.{all_at, Holds, started, went_on, stable_by, even_by, single_left, single_right, first_same, map_same}
use Rattle.law_samples.specs.Chain.{unit, flat_outer, left, part, whole, schematic, pairings, answers}
use Rattle.law_samples.proofs.chain.Sound.{one_call}

-- nodes by their lists of colours
abbrev pub by_lists : List ℕ → List ℕ → ℕ → ℕ → Node → ℕ
by_lists left right device call n = elim n.kind [
  | Net ↦ elim n.side [ Layout ↦ slice_index left n.number | Schematic ↦ slice_index right n.number ]
  | Device ↦ device
  | Call ↦ call
]

-- so many nets, and no terminals but these
pub fits_by : (size : ℕ) (side : Side) (p : Pair) → length (circuit_of p side).nets ≡ size → list_all (λ (d : DeviceRow). list_all (λ (e : End Node). ltb e.node.number size) (device_ends side d)) (circuit_of p side).devices ≡ true
    → (k : ℕ) (d : DeviceRow) → slice_get (circuit_of p side).devices k ≡ Some d → (e : End Node) → IsListed e (device_ends side d) → e.node.number < length (circuit_of p side).nets
fits_by size side p same all k d at e i =
    let low : e.node.number < size = (Decides-ltb _ _).0 (all_at (λ (x : End Node). ltb x.node.number size) e (device_ends side d)
    (all_at (λ (y : DeviceRow). list_all (λ (x : End Node). ltb x.node.number size) (device_ends side y)) d (circuit_of p side).devices all (listed _ k d at)) i) in
    subst (λ (n : ℕ). e.node.number < n) (sym same) low

-- the mates of a round by its colours
module _ (p : Pair) (round : ℕ) (colour : Node → ℕ) (holds : Holds (under (web_of p) []) round colour) where
  abbrev pub u : Web Node
  u = under (web_of p) []

  abbrev pub image : Node → Node
  image x = first_of (λ y. colour x == colour y) u.right x

  mated : (kind : Kind) (k : ℕ) → k < size p Layout kind → (mate u round (node Layout kind k)).number ≡ (image (node Layout kind k)).number
  mated kind k low = ap (λ (n : Node). n.number) (first_same _ _ u.right (node Layout kind k) (λ x i. holds (node Layout kind k) x (inl (nodes_has p Layout kind k low)) (inr i)))

  pub numbers_by : (kind : Kind) → numbers_of (mate u round) kind (size p Layout kind) ≡ numbers_of image kind (size p Layout kind)
  numbers_by kind = map_same _ _ (numbers_from 0 (size p Layout kind)) (λ k i. let l = in_numbers k 0 (size p Layout kind) i in mated kind k (let m = l.1 in omega arith))

-- the pair of UNIT and the schematic's MID
abbrev units : Pair
units = pair_in false left answers unit part

units_fit : (side : Side) → IsFitting units side
units_fit Layout = record {
  devices = fits_by 2 Layout units refl refl;
  calls = λ k c h n i. absurd (none-some c h);
  pins = λ k c h pins m. absurd (none-some c h);
}
units_fit Schematic = record {
  devices = fits_by 2 Schematic units refl refl;
  calls = λ k c h n i. absurd (none-some c h);
  pins = λ k c h pins m. absurd (none-some c h);
}

abbrev units_web : Web Node
units_web = under (web_of units) []

units_good : IsWeb units_web
units_good = under_web (web_of units) [] (web_good units (units_fit Layout) (units_fit Schematic))

abbrev units0 : Node → ℕ
units0 = by_lists (0 ∷ 0 ∷ []) (0 ∷ 0 ∷ []) 1 2

abbrev units1 : Node → ℕ
units1 = by_lists (0 ∷ 1 ∷ []) (1 ∷ 0 ∷ []) 2 3

u0 : Holds units_web 0 units0
u0 = started units_web units0 refl

u1 : Holds units_web 1 units1
u1 = went_on units_web 0 units0 units1 units_good u0 refl

u2 : Holds units_web 2 units1
u2 = went_on units_web 1 units1 units1 units_good u1 refl

units_even : (j : ℕ) → j ≤ 1 → IsEven units_web j
units_even zero h = even_by units_web 0 units0 u0 refl
units_even (suc zero) h = even_by units_web 1 units1 u1 refl
units_even (suc (suc j)) h = absurd (omega arith)

abbrev units_solved : IsSolved units_web
units_solved = record { round = 1; stable = stable_by units_web 1 units1 u1 u2; even = units_even; left = single_left units_web 1 units1 u1 refl; right = single_right units_web 1 units1 u1 refl }

units_pairing : IsPairing units [] (pairings 0)
units_pairing = (
  units_solved,
  ap (λ (x : List ℕ). let f : Pairing = record { nets = x; devices = 0 ∷ []; calls = [] } in f) (sym (numbers_by units 1 units1 u1 Net))
      ∙ ap (λ (x : List ℕ). let f : Pairing = record { nets = numbers_of (mate units_web 1) Net 2; devices = x; calls = [] } in f) (sym (numbers_by units 1 units1 u1 Device)),
)

-- the pair of the two TOPs
abbrev tops : Pair
tops = pair_in false left answers flat_outer whole

pub crossed : IsOneToOne (1 ∷ 0 ∷ []) 2 2
crossed = record { count = refl; below = below; once = once }
  where
    below : (x : ℕ) → IsListed x (1 ∷ 0 ∷ []) → x < 2
    below x (inl e) = omega arith
    below x (inr (inl e)) = omega arith
    below x (inr (inr h)) = absurd h

    once : (j : ℕ) → j < 2 → count_by (λ x. j == x) (1 ∷ 0 ∷ []) ≡ 1
    once zero h = refl
    once (suc zero) h = refl
    once (suc (suc j)) h = absurd (omega arith)

low_net : (x y : ℕ) → x < 2 → y < 2 → (n : ℕ) → IsListed n (x ∷ y ∷ []) → n < 2
low_net x y h k n (inl e) = subst (λ m. m < 2) (sym e) h
low_net x y h k n (inr (inl e)) = subst (λ m. m < 2) (sym e) k
low_net x y h k n (inr (inr i)) = absurd i

tops_matched : AreMatched tops
tops_matched = one_call (λ c. (pins : List ℕ) × (tops.children c.circuit ≡ Some pins)) _ (1 ∷ 0 ∷ [], refl)

tops_fit : (side : Side) → IsFitting tops side
tops_fit Layout = record {
  devices = fits_by 2 Layout tops refl refl;
  calls = one_call (λ c. (n : ℕ) → IsListed n c.nets → n < 2) _ (low_net 0 1 (omega arith) (omega arith));
  pins = one_call (λ c. (pins : List ℕ) → tops.children c.circuit ≡ Some pins → IsOneToOne pins (length c.nets) (length c.nets)) _ (λ pins e. subst (λ (xs : List ℕ). IsOneToOne xs 2 2) (same_Some _ _ e) crossed);
}
tops_fit Schematic = record {
  devices = fits_by 2 Schematic tops refl refl;
  calls = one_call (λ c. (n : ℕ) → IsListed n c.nets → n < 2) _ (low_net 1 0 (omega arith) (omega arith));
  pins = one_call (λ c. (pins : List ℕ) → tops.children c.circuit ≡ Some pins → IsOneToOne pins (length c.nets) (length c.nets)) _ (λ pins e. subst (λ (xs : List ℕ). IsOneToOne xs 2 2) (same_Some _ _ e) crossed);
}

abbrev tops_web : Web Node
tops_web = under (web_of tops) []

tops_good : IsWeb tops_web
tops_good = under_web (web_of tops) [] (web_good tops (tops_fit Layout) (tops_fit Schematic))

abbrev tops0 : Node → ℕ
tops0 = by_lists (0 ∷ 1 ∷ []) (0 ∷ 1 ∷ []) 2 3

t0 : Holds tops_web 0 tops0
t0 = started tops_web tops0 refl

t1 : Holds tops_web 1 tops0
t1 = went_on tops_web 0 tops0 tops0 tops_good t0 refl

tops_even : (j : ℕ) → j ≤ 0 → IsEven tops_web j
tops_even zero h = even_by tops_web 0 tops0 t0 refl
tops_even (suc j) h = absurd (omega arith)

abbrev tops_solved : IsSolved tops_web
tops_solved = record { round = 0; stable = stable_by tops_web 0 tops0 t0 t1; even = tops_even; left = single_left tops_web 0 tops0 t0 refl; right = single_right tops_web 0 tops0 t0 refl }

tops_pairing : IsPairing tops [] (pairings 1)
tops_pairing = (
  tops_solved,
  ap (λ (x : List ℕ). let f : Pairing = record { nets = x; devices = 0 ∷ []; calls = 0 ∷ [] } in f) (sym (numbers_by tops 0 tops0 t0 Net))
      ∙ (ap (λ (x : List ℕ). let f : Pairing = record { nets = numbers_of (mate tops_web 0) Net 2; devices = x; calls = 0 ∷ [] } in f) (sym (numbers_by tops 0 tops0 t0 Device))
      ∙ ap (λ (x : List ℕ). let f : Pairing = record { nets = numbers_of (mate tops_web 0) Net 2; devices = numbers_of (mate tops_web 0) Device 1; calls = x } in f) (sym (numbers_by tops 0 tops0 t0 Call))),
)

abbrev Answered : ℕ → Circuit → Circuit → Type 0
Answered k c d = IsAnswer (pair_in false left answers c d) (equal_names (pair_in false left answers c d)) 1 (answers k)

units_answered : Answered 0 unit part
units_answered = ((λ k c h. absurd (none-some c h)), inl units_pairing)

tops_answered : Answered 1 flat_outer whole
tops_answered = (tops_matched, inl tops_pairing)

pub answered : AreAnswers left schematic untold answers
answered zero c d h g = subst (λ (x : Circuit). Answered 0 x d) (same_Some _ _ h) (subst (λ (y : Circuit). Answered 0 unit y) (same_Some _ _ g) units_answered)
answered (suc zero) c d h g = subst (λ (x : Circuit). Answered 1 x d) (same_Some _ _ h) (subst (λ (y : Circuit). Answered 1 flat_outer y) (same_Some _ _ g) tops_answered)
answered (suc (suc k)) c d h g = absurd (none-some c h)
