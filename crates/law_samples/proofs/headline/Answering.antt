-- The rounds of both pairs leave single classes, so both answers are matches.
use Rattle.std.proofs.Common.{◌≡◌, inl, inr, ℕ, false, zero, suc, ◌<◌, ◌≤◌, List, [], ◌∷◌, length, Some, refl, sym, ◌∙◌, ap, subst, arith}
use Rattle.std.proofs.lemmas.Option.{none-some, same_Some}
use Rattle.composed_laws.specs.Answered.{AreAnswers, pair_in}
use Rattle.law_samples.specs.Transistors.{child_circuit, gate_netlist, parent_circuit}
use Rattle.law_samples.specs.Matched.{answers, pairings, part, schematic, whole}
use Rattle.law_samples.proofs.latch.Checks.{even_by, Holds, single_left, single_right, stable_by, started, went_on}
use Rattle.law_samples.specs.Latch.{untold}
use Rattle.match_laws.proofs.Images.{web_good}
use Rattle.match_laws.specs.Answer.{equal_names, IsAnswer, IsPairing}
use Rattle.match_laws.specs.Circuits.{AreMatched, IsFitting, IsOneToOne, numbers_of, Pair, Pairing, web_of}
use Rattle.law_samples.proofs.chain.Answering.{by_lists, crossed, fits_by, numbers_by}
use Rattle.law_samples.proofs.chain.Sound.{one_call}
use Rattle.plain_netlist.specs.Lists.{IsListed}
use Rattle.plain_netlist.specs.Netlist.{Circuit}
use Rattle.round_laws.proofs.Agree.{under_web}
use Rattle.round_laws.specs.Nodes.{Call, Device, Layout, Net, Node, Schematic, Side}
use Rattle.round_laws.specs.Web.{IsEven, IsSolved, IsWeb, mate, under, Web}

-- the pair of the two c
abbrev parts : Pair
parts = pair_in false gate_netlist answers child_circuit part

parts_fit : (side : Side) → IsFitting parts side
parts_fit Layout = record {
  devices = fits_by 4 Layout parts refl refl;
  calls = λ k c h n i. absurd (none-some c h);
  pins = λ k c h pins m. absurd (none-some c h);
}
parts_fit Schematic = record {
  devices = fits_by 4 Schematic parts refl refl;
  calls = λ k c h n i. absurd (none-some c h);
  pins = λ k c h pins m. absurd (none-some c h);
}

abbrev parts_web : Web Node
parts_web = under (web_of parts) []

parts_good : IsWeb parts_web
parts_good = under_web (web_of parts) [] (web_good parts (parts_fit Layout) (parts_fit Schematic))

abbrev parts0 : Node → ℕ
parts0 = by_lists (0 ∷ 0 ∷ 1 ∷ 1 ∷ []) (0 ∷ 0 ∷ 1 ∷ 1 ∷ []) 2 3

abbrev parts1 : Node → ℕ
parts1 = by_lists (0 ∷ 1 ∷ 2 ∷ 3 ∷ []) (1 ∷ 0 ∷ 3 ∷ 2 ∷ []) 4 5

p0 : Holds parts_web 0 parts0
p0 = started parts_web parts0 refl

p1 : Holds parts_web 1 parts1
p1 = went_on parts_web 0 parts0 parts1 parts_good p0 refl

p2 : Holds parts_web 2 parts1
p2 = went_on parts_web 1 parts1 parts1 parts_good p1 refl

parts_even : (j : ℕ) → j ≤ 1 → IsEven parts_web j
parts_even zero h = even_by parts_web 0 parts0 p0 refl
parts_even (suc zero) h = even_by parts_web 1 parts1 p1 refl
parts_even (suc (suc j)) h = absurd (omega arith)

abbrev parts_solved : IsSolved parts_web
parts_solved = record { round = 1; stable = stable_by parts_web 1 parts1 p1 p2; even = parts_even; left = single_left parts_web 1 parts1 p1 refl; right = single_right parts_web 1 parts1 p1 refl }

parts_pairing : IsPairing parts [] (pairings 0)
parts_pairing = (
  parts_solved,
  ap (λ (x : List ℕ). let f : Pairing = record { nets = x; devices = 0 ∷ []; calls = [] } in f) (sym (numbers_by parts 1 parts1 p1 Net))
      ∙ ap (λ (x : List ℕ). let f : Pairing = record { nets = numbers_of (mate parts_web 1) Net 4; devices = x; calls = [] } in f) (sym (numbers_by parts 1 parts1 p1 Device)),
)

-- the pair of the two p
abbrev wholes : Pair
wholes = pair_in false gate_netlist answers parent_circuit whole

low_net : (x y : ℕ) → x < 4 → y < 4 → (n : ℕ) → IsListed n (x ∷ y ∷ []) → n < 4
low_net x y h k n (inl e) = subst (λ m. m < 4) (sym e) h
low_net x y h k n (inr (inl e)) = subst (λ m. m < 4) (sym e) k
low_net x y h k n (inr (inr i)) = absurd i

wholes_matched : AreMatched wholes
wholes_matched = one_call (λ c. (pins : List ℕ) × (wholes.children c.circuit ≡ Some pins)) _ (1 ∷ 0 ∷ [], refl)

wholes_fit : (side : Side) → IsFitting wholes side
wholes_fit Layout = record {
  devices = fits_by 4 Layout wholes refl refl;
  calls = one_call (λ c. (n : ℕ) → IsListed n c.nets → n < 4) _ (low_net 0 1 (omega arith) (omega arith));
  pins = one_call (λ c. (pins : List ℕ) → wholes.children c.circuit ≡ Some pins → IsOneToOne pins (length c.nets) (length c.nets)) _ (λ pins e. subst (λ (xs : List ℕ). IsOneToOne xs 2 2) (same_Some _ _ e) crossed);
}
wholes_fit Schematic = record {
  devices = fits_by 4 Schematic wholes refl refl;
  calls = one_call (λ c. (n : ℕ) → IsListed n c.nets → n < 4) _ (low_net 1 0 (omega arith) (omega arith));
  pins = one_call (λ c. (pins : List ℕ) → wholes.children c.circuit ≡ Some pins → IsOneToOne pins (length c.nets) (length c.nets)) _ (λ pins e. subst (λ (xs : List ℕ). IsOneToOne xs 2 2) (same_Some _ _ e) crossed);
}

abbrev wholes_web : Web Node
wholes_web = under (web_of wholes) []

wholes_good : IsWeb wholes_web
wholes_good = under_web (web_of wholes) [] (web_good wholes (wholes_fit Layout) (wholes_fit Schematic))

abbrev wholes0 : Node → ℕ
wholes0 = by_lists (0 ∷ 0 ∷ 1 ∷ 1 ∷ []) (0 ∷ 0 ∷ 1 ∷ 1 ∷ []) 2 3

abbrev wholes1 : Node → ℕ
wholes1 = by_lists (0 ∷ 1 ∷ 2 ∷ 3 ∷ []) (0 ∷ 1 ∷ 2 ∷ 3 ∷ []) 4 5

w0 : Holds wholes_web 0 wholes0
w0 = started wholes_web wholes0 refl

w1 : Holds wholes_web 1 wholes1
w1 = went_on wholes_web 0 wholes0 wholes1 wholes_good w0 refl

w2 : Holds wholes_web 2 wholes1
w2 = went_on wholes_web 1 wholes1 wholes1 wholes_good w1 refl

wholes_even : (j : ℕ) → j ≤ 1 → IsEven wholes_web j
wholes_even zero h = even_by wholes_web 0 wholes0 w0 refl
wholes_even (suc zero) h = even_by wholes_web 1 wholes1 w1 refl
wholes_even (suc (suc j)) h = absurd (omega arith)

abbrev wholes_solved : IsSolved wholes_web
wholes_solved = record { round = 1; stable = stable_by wholes_web 1 wholes1 w1 w2; even = wholes_even; left = single_left wholes_web 1 wholes1 w1 refl; right = single_right wholes_web 1 wholes1 w1 refl }

wholes_pairing : IsPairing wholes [] (pairings 1)
wholes_pairing = (
  wholes_solved,
  ap (λ (x : List ℕ). let f : Pairing = record { nets = x; devices = 0 ∷ []; calls = 0 ∷ [] } in f) (sym (numbers_by wholes 1 wholes1 w1 Net))
      ∙ (ap (λ (x : List ℕ). let f : Pairing = record { nets = numbers_of (mate wholes_web 1) Net 4; devices = x; calls = 0 ∷ [] } in f) (sym (numbers_by wholes 1 wholes1 w1 Device))
      ∙ ap (λ (x : List ℕ). let f : Pairing = record { nets = numbers_of (mate wholes_web 1) Net 4; devices = numbers_of (mate wholes_web 1) Device 1; calls = x } in f) (sym (numbers_by wholes 1 wholes1 w1 Call))),
)

abbrev Answered : ℕ → Circuit → Circuit → Type 0
Answered k c d = IsAnswer (pair_in false gate_netlist answers c d) (equal_names (pair_in false gate_netlist answers c d)) 1 (answers k)

parts_answered : Answered 0 child_circuit part
parts_answered = ((λ k c h. absurd (none-some c h)), inl parts_pairing)

wholes_answered : Answered 1 parent_circuit whole
wholes_answered = (wholes_matched, inl wholes_pairing)

pub answered : AreAnswers gate_netlist schematic untold answers
answered zero c d h g = subst (λ (x : Circuit). Answered 0 x d) (same_Some _ _ h) (subst (λ (y : Circuit). Answered 0 child_circuit y) (same_Some _ _ g) parts_answered)
answered (suc zero) c d h g = subst (λ (x : Circuit). Answered 1 x d) (same_Some _ _ h) (subst (λ (y : Circuit). Answered 1 parent_circuit y) (same_Some _ _ g) wholes_answered)
answered (suc (suc k)) c d h g = absurd (none-some c h)
