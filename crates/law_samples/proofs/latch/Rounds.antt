-- The rounds of the two latches, without a guess and with one, and the answer.
use Rattle.std.proofs.Common.{◌≡◌, inl, inr, ℕ, zero, suc, ◌==◌, ◌&&◌, ◌||◌, ◌<◌, ◌≤◌, ltb, not, Bool, true, List, [], ◌∷◌, ◌++◌, length, slice_get, slice_index, refl, sym, subst, ◌∙◌, ap, ap₂, arith}
use Rattle.std.proofs.lemmas.Bool.{or_cases}
use Rattle.plain_netlist.proofs.Members.{listed}
use Rattle.std.specs.List.{list_all, count_by}
use Rattle.std.proofs.lemmas.Option.{none-some}
use Rattle.std.proofs.lemmas.Bool.Decides.{Decides-eqb, Decides-ltb}
use Rattle.plain_netlist.specs.Netlist.{DeviceRow}
use Rattle.round_laws.specs.Web.{End, Web, IsWeb, IsNode, on_left, IsEven, IsSolved, Guess, under, first_of, mate}
use Rattle.round_laws.specs.Nodes.{Node, Side, Layout, Schematic, Kind, Net, Device, Call}
use Rattle.round_laws.specs.Guesses.{rank, IsNoLater, IsChosen, candidates, Found, guessed, IsWholeSearch}
use Rattle.round_laws.proofs.Agree.{under_web}
use Rattle.match_laws.specs.Circuits.{circuit_of, device_ends, node, numbers_from, web_of, IsFitting, AreMatched, Pairing, numbers_of, pairing_of}
use Rattle.match_laws.specs.Answer.{Match, equal_names, setting_of, IsAnswer}
use Rattle.match_laws.proofs.Images.{web_good, nodes_has, size}
use Rattle.match_laws.proofs.Sums.{in_numbers}
use Rattle.law_samples.specs.Latch.{latches, swapped}
use Rattle.law_samples.proofs.latch.Checks.{all_at, Holds, started, went_on, stable_by, left_by, even_by, single_left, single_right, filter_same, first_same, map_same}

fits_by : (side : Side) → list_all (λ d. list_all (λ (e : End Node). ltb e.node.number 7) (device_ends side d)) (circuit_of latches side).devices ≡ true
fits_by Layout = refl
fits_by Schematic = refl

seven : (side : Side) → length (circuit_of latches side).nets ≡ 7
seven Layout = refl
seven Schematic = refl

no_calls : (side : Side) → (circuit_of latches side).calls ≡ []
no_calls Layout = refl
no_calls Schematic = refl

pub fits : (side : Side) → IsFitting latches side
fits side = record {
  devices = λ k d h e i.
      let low : e.node.number < 7 = (Decides-ltb _ _).0 (all_at (λ (x : End Node). ltb x.node.number 7) e (device_ends side d)
      (all_at (λ (y : DeviceRow). list_all (λ (x : End Node). ltb x.node.number 7) (device_ends side y)) d (circuit_of latches side).devices (fits_by side) (listed _ k d h)) i) in
      subst (λ (n : ℕ). e.node.number < n) (sym (seven side)) low;
  calls = λ k c h n i. absurd (none-some c (ap (λ (cs : List _). slice_get cs k) (sym (no_calls side)) ∙ h));
  pins = λ k c h pins m. absurd (none-some pins m);
}

pub all_matched : AreMatched latches
all_matched k c h = absurd (none-some c h)

-- colours as lists: of the nets and devices of the layout, then of the schematic
abbrev by_lists : List ℕ → List ℕ → List ℕ → List ℕ → Node → ℕ
by_lists a b c d n = elim n.side [
  | Layout ↦ elim n.kind [ Net ↦ slice_index a n.number | Device ↦ slice_index b n.number | Call ↦ 0 ]
  | Schematic ↦ elim n.kind [ Net ↦ slice_index c n.number | Device ↦ slice_index d n.number | Call ↦ 0 ]
]

abbrev w : Web Node
w = web_of latches

web : IsWeb w
web = web_good latches (fits Layout) (fits Schematic)

abbrev c0 : Node → ℕ
c0 = by_lists (0 ∷ 0 ∷ 0 ∷ 0 ∷ 0 ∷ 1 ∷ 1 ∷ []) (2 ∷ 2 ∷ 3 ∷ 3 ∷ 4 ∷ 4 ∷ []) (0 ∷ 0 ∷ 0 ∷ 0 ∷ 0 ∷ 1 ∷ 1 ∷ []) (2 ∷ 2 ∷ 3 ∷ 3 ∷ 4 ∷ 4 ∷ [])

abbrev c1 : Node → ℕ
c1 = by_lists (0 ∷ 0 ∷ 1 ∷ 2 ∷ 3 ∷ 4 ∷ 4 ∷ []) (5 ∷ 5 ∷ 6 ∷ 6 ∷ 7 ∷ 7 ∷ []) (0 ∷ 0 ∷ 1 ∷ 2 ∷ 3 ∷ 4 ∷ 4 ∷ []) (5 ∷ 5 ∷ 6 ∷ 6 ∷ 7 ∷ 7 ∷ [])

h0 : Holds w 0 c0
h0 = started w c0 refl

h1 : Holds w 1 c1
h1 = went_on w 0 c0 c1 web h0 refl

h2 : Holds w 2 c1
h2 = went_on w 1 c1 c1 web h1 refl

even_to : (j : ℕ) → j ≤ 1 → IsEven w j
even_to zero h = even_by w 0 c0 h0 refl
even_to (suc zero) h = even_by w 1 c1 h1 refl
even_to (suc (suc j)) h = absurd (omega arith)

-- the guess: BL with BL
abbrev left_bit : Node
left_bit = node Layout Net 0

abbrev right_bit : Node
right_bit = node Schematic Net 0

bit_there : IsNode w left_bit
bit_there = inl (inl refl)

two : on_left w 1 left_bit ≡ 2
two = left_by w 1 c1 h1 left_bit bit_there

abbrev tied_by : Node → ℕ
tied_by b = count_by (λ x. c1 b == c1 x) w.left

no_later : (m n : ℕ) (b : Node) → m ≡ n → IsNoLater m n left_bit b
no_later m n b e = after b.kind refl
  where
    after : (kind : Kind) → b.kind ≡ kind → IsNoLater m n left_bit b
    after Net k = inr (e, inr (sym (ap (λ (x : Kind). rank x) k), omega arith))
    after Device k = inr (e, inl (subst (λ (x : Kind). 0 < rank x) (sym k) (omega arith)))
    after Call k = inr (e, inl (subst (λ (x : Kind). 0 < rank x) (sym k) (omega arith)))

chosen : IsChosen w 1 left_bit
chosen = record {
  stable = stable_by w 1 c1 h1 h2;
  even = even_to;
  there = inl refl;
  tied = let e = two in omega arith;
  least = λ b i more.
      let n : on_left w 1 b ≡ tied_by b = left_by w 1 c1 h1 b (inl i) in
      let one_or_two = all_at (λ x. (tied_by x == 1) || (tied_by x == 2)) b w.left refl i in
      elim (or_cases (tied_by b == 1) (tied_by b == 2) one_or_two) [
        | inl one ↦ let e : tied_by b ≡ 1 = (Decides-eqb _ _).0 one in absurd (omega arith)
        | inr also ↦ let e : tied_by b ≡ 2 = (Decides-eqb _ _).0 also in no_later _ _ b (two ∙ sym (n ∙ e))
      ];
}

abbrev bits : List (Guess Node)
bits = guessed [] left_bit right_bit

abbrev u : Web Node
u = under w bits

u_web : IsWeb u
u_web = under_web w bits web

abbrev d0 : Node → ℕ
d0 = by_lists (0 ∷ 1 ∷ 1 ∷ 1 ∷ 1 ∷ 2 ∷ 2 ∷ []) (3 ∷ 3 ∷ 4 ∷ 4 ∷ 5 ∷ 5 ∷ []) (0 ∷ 1 ∷ 1 ∷ 1 ∷ 1 ∷ 2 ∷ 2 ∷ []) (3 ∷ 3 ∷ 4 ∷ 4 ∷ 5 ∷ 5 ∷ [])

abbrev d1 : Node → ℕ
d1 = by_lists (0 ∷ 1 ∷ 2 ∷ 3 ∷ 4 ∷ 5 ∷ 5 ∷ []) (6 ∷ 6 ∷ 7 ∷ 7 ∷ 8 ∷ 9 ∷ []) (0 ∷ 1 ∷ 2 ∷ 3 ∷ 4 ∷ 5 ∷ 5 ∷ []) (6 ∷ 6 ∷ 7 ∷ 7 ∷ 8 ∷ 9 ∷ [])

abbrev d2 : Node → ℕ
d2 = by_lists (0 ∷ 1 ∷ 2 ∷ 3 ∷ 4 ∷ 5 ∷ 6 ∷ []) (7 ∷ 7 ∷ 8 ∷ 8 ∷ 9 ∷ 10 ∷ []) (0 ∷ 1 ∷ 2 ∷ 3 ∷ 4 ∷ 6 ∷ 5 ∷ []) (7 ∷ 7 ∷ 8 ∷ 8 ∷ 9 ∷ 10 ∷ [])

abbrev d3 : Node → ℕ
d3 = by_lists (0 ∷ 1 ∷ 2 ∷ 3 ∷ 4 ∷ 5 ∷ 6 ∷ []) (7 ∷ 8 ∷ 9 ∷ 10 ∷ 11 ∷ 12 ∷ []) (0 ∷ 1 ∷ 2 ∷ 3 ∷ 4 ∷ 6 ∷ 5 ∷ []) (8 ∷ 7 ∷ 10 ∷ 9 ∷ 11 ∷ 12 ∷ [])

g0 : Holds u 0 d0
g0 = started u d0 refl

g1 : Holds u 1 d1
g1 = went_on u 0 d0 d1 u_web g0 refl

g2 : Holds u 2 d2
g2 = went_on u 1 d1 d2 u_web g1 refl

g3 : Holds u 3 d3
g3 = went_on u 2 d2 d3 u_web g2 refl

g4 : Holds u 4 d3
g4 = went_on u 3 d3 d3 u_web g3 refl

even_on : (j : ℕ) → j ≤ 3 → IsEven u j
even_on zero h = even_by u 0 d0 g0 refl
even_on (suc zero) h = even_by u 1 d1 g1 refl
even_on (suc (suc zero)) h = even_by u 2 d2 g2 refl
even_on (suc (suc (suc zero))) h = even_by u 3 d3 g3 refl
even_on (suc (suc (suc (suc j)))) h = absurd (omega arith)

abbrev solved : IsSolved u
solved = record { round = 3; stable = stable_by u 3 d3 g3 g4; even = even_on; left = single_left u 3 d3 g3 refl; right = single_right u 3 d3 g3 refl }

-- the two schematic nets of its class, BL first
tries : (limit : ℕ) → candidates (setting_of latches (equal_names latches) limit) w 1 left_bit ≡ right_bit ∷ node Schematic Net 1 ∷ []
tries limit =
    ap₂ (λ (xs ys : List Node). xs ++ ys)
    (filter_same _ (λ b. (c1 left_bit == c1 b) && equal_names latches left_bit b) w.right (λ b i. ap (λ (t : Bool). t && equal_names latches left_bit b) (h1 left_bit b bit_there (inr i))))
    (filter_same _ (λ b. (c1 left_bit == c1 b) && not (equal_names latches left_bit b)) w.right (λ b i. ap (λ (t : Bool). t && not (equal_names latches left_bit b)) (h1 left_bit b bit_there (inr i))))

-- the mates by colours
abbrev image : Node → Node
image a = first_of (λ x. d3 a == d3 x) w.right a

mated : (kind : Kind) (k : ℕ) → k < size latches Layout kind → (mate u 3 (node Layout kind k)).number ≡ (image (node Layout kind k)).number
mated kind k low =
    ap (λ (n : Node). n.number) (first_same _ _ w.right (node Layout kind k) (λ x i. g3 (node Layout kind k) x (inl (nodes_has latches Layout kind k low)) (inr i)))

numbers_by : (kind : Kind) → numbers_of (mate u 3) kind (size latches Layout kind) ≡ numbers_of image kind (size latches Layout kind)
numbers_by kind = map_same _ _ (numbers_from 0 (size latches Layout kind)) (λ k i. let l = in_numbers k 0 (size latches Layout kind) i in mated kind k (let m = l.1 in omega arith))

pairing_is : swapped ≡ pairing_of latches (mate u 3)
pairing_is =
    ap (λ (x : List ℕ). let f : Pairing = record { nets = x; devices = 1 ∷ 0 ∷ 3 ∷ 2 ∷ 4 ∷ 5 ∷ []; calls = [] } in f) (sym (numbers_by Net))
    ∙ ap (λ (x : List ℕ). let f : Pairing = record { nets = numbers_of (mate u 3) Net 7; devices = x; calls = [] } in f) (sym (numbers_by Device))

pub answered : (limit : ℕ) → 0 < limit → IsAnswer latches (equal_names latches) limit (Match swapped)
answered limit some =
    let whole : IsWholeSearch (setting_of latches (equal_names latches) limit) (Found right_bit)
    = record { round = 1; node = left_bit; chosen = chosen; search = (node Schematic Net 1 ∷ [], record { is = tries limit; before = some }, solved) } in
    (all_matched, inr (record { search = Found right_bit; whole = whole; found = tt; pairing = (solved, pairing_is) }))
