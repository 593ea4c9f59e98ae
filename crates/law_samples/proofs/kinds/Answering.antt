-- The rounds of the pair with equal names leave single classes; those of the other one begin with unequal counts.
use Rattle.std.proofs.Common.{◌≡◌, inl, inr, ℕ, ◌==◌, ◌&&◌, ◌||◌, Bool, zero, suc, ◌≤◌, true, false, List, [], ◌∷◌, refl, sym, ◌∙◌, ap, subst, arith}
use Rattle.std.specs.Prelude.{slice_index, slice_index_or}
use Rattle.std.proofs.lemmas.Bool.{cases_Bool}
use Rattle.std.proofs.lemmas.Bool.Decides.{Decides-eqb}
use Rattle.std.proofs.lemmas.Option.{none-some}
use Rattle.law_samples.proofs.chain.Answering.{fits_by, numbers_by}
use Rattle.law_samples.proofs.latch.Checks.{even_by, Holds, left_by, right_by, single_left, single_right, stable_by, started, went_on}
use Rattle.law_samples.specs.Kinds.{alike, NamedMatchLaw, OtherPinLaw, pairing, unlike}
use Rattle.law_samples.specs.Taken.{far, near, TakenApartLaw}
use Rattle.pair_turns.specs.Going.{AreGoing, goes}
use Rattle.match_laws.proofs.Answer.{matched, uneven_differs}
use Rattle.match_laws.proofs.Images.{web_good}
use Rattle.match_laws.specs.Answer.{Answer, DiffersInRound, equal_names, IsAnswer, IsDifference, IsPairing, Match, Skipped}
use Rattle.match_laws.specs.Circuits.{IsFitting, node, numbers_of, Pairing, web_of}
use Rattle.round_laws.proofs.Agree.{under_web}
use Rattle.round_laws.specs.Nodes.{Call, Device, Layout, Net, Node, Schematic, Side}
use Rattle.round_laws.specs.Web.{IsEven, IsNode, IsSolved, IsUneven, IsWeb, mate, under, Web}

-- nodes by their lists of colours
abbrev coloured : List ℕ → List ℕ → List ℕ → List ℕ → Node → ℕ
coloured lefts rights left_devices right_devices n = elim n.kind [
  | Net ↦ elim n.side [ Layout ↦ slice_index lefts n.number | Schematic ↦ slice_index rights n.number ]
  | Device ↦ elim n.side [ Layout ↦ slice_index left_devices n.number | Schematic ↦ slice_index right_devices n.number ]
  | Call ↦ 7
]

-- ---- equal names

fit : (side : Side) → IsFitting alike side
fit Layout = record {
  devices = fits_by 4 Layout alike refl refl;
  calls = λ k c h n i. absurd (none-some c h);
  pins = λ k c h pins m. absurd (none-some c h);
}
fit Schematic = record {
  devices = fits_by 4 Schematic alike refl refl;
  calls = λ k c h n i. absurd (none-some c h);
  pins = λ k c h pins m. absurd (none-some c h);
}

abbrev web : Web Node
web = under (web_of alike) []

good : IsWeb web
good = under_web (web_of alike) [] (web_good alike (fit Layout) (fit Schematic))

abbrev first : Node → ℕ
first = coloured (0 ∷ 1 ∷ 2 ∷ 2 ∷ []) (1 ∷ 0 ∷ 2 ∷ 2 ∷ []) (3 ∷ 4 ∷ []) (4 ∷ 3 ∷ [])

abbrev second : Node → ℕ
second = coloured (0 ∷ 1 ∷ 2 ∷ 5 ∷ []) (1 ∷ 0 ∷ 5 ∷ 2 ∷ []) (3 ∷ 4 ∷ []) (4 ∷ 3 ∷ [])

h0 : Holds web 0 first
h0 = started web first refl

h1 : Holds web 1 second
h1 = went_on web 0 first second good h0 refl

h2 : Holds web 2 second
h2 = went_on web 1 second second good h1 refl

even : (j : ℕ) → j ≤ 1 → IsEven web j
even zero h = even_by web 0 first h0 refl
even (suc zero) h = even_by web 1 second h1 refl
even (suc (suc j)) h = absurd (omega arith)

abbrev solved : IsSolved web
solved = record { round = 1; stable = stable_by web 1 second h1 h2; even = even; left = single_left web 1 second h1 refl; right = single_right web 1 second h1 refl }

paired : IsPairing alike [] pairing
paired = (
  solved,
  ap (λ (x : List ℕ). let f : Pairing = record { nets = x; devices = 1 ∷ 0 ∷ []; calls = [] } in f) (sym (numbers_by alike 1 second h1 Net))
      ∙ ap (λ (x : List ℕ). let f : Pairing = record { nets = numbers_of (mate web 1) Net 4; devices = x; calls = [] } in f) (sym (numbers_by alike 1 second h1 Device)),
)

answered : IsAnswer alike (equal_names alike) 0 (Match pairing)
answered = ((λ k c h. absurd (none-some c h)), inl paired)

pub named_match : NamedMatchLaw
named_match = (answered, matched alike (equal_names alike) 0 pairing (fit Layout) (fit Schematic) answered)

-- ---- another name

abbrev begun : Node → ℕ
begun = coloured (0 ∷ 1 ∷ 2 ∷ 2 ∷ []) (1 ∷ 6 ∷ 2 ∷ 2 ∷ []) (3 ∷ 4 ∷ []) (4 ∷ 3 ∷ [])

other0 : Holds (web_of unlike) 0 begun
other0 = started (web_of unlike) begun refl

-- the pin "a"
abbrev pin : Node
pin = node Layout Net 0

is_node : IsNode (web_of unlike) pin
is_node = inl (inl refl)

uneven : IsUneven (web_of unlike) 0 pin
uneven = record {
  node = is_node;
  counts = λ e.
      let one : 1 ≡ 0 = sym (left_by (web_of unlike) 0 begun other0 pin is_node) ∙ (e ∙ right_by (web_of unlike) 0 begun other0 pin is_node) in
      omega (arith, one);
}

pub other_pin : OtherPinLaw
other_pin a h =
    let d = uneven_differs unlike (equal_names unlike) 0 a pin h uneven in
    subst IsDifference (sym d.3) tt

-- ---- taken apart

pub taken_apart : TakenApartLaw
taken_apart a h =
    let d = uneven_differs unlike (equal_names unlike) 0 a pin h uneven in
    subst (λ (x : Answer). AreGoing near far (x ∷ Skipped 0 ∷ []) (true ∷ false ∷ [])) (sym d.3) (record { long = refl; each = each d.0 d.1 d.2 })
  where
    later : (k : ℕ) → (suc (suc k) == 0) ≡ false
    later k = elim (cases_Bool (suc (suc k) == 0)) [
      | inl e ↦ let z = (Decides-eqb (suc (suc k)) 0).0 e in absurd (omega (arith, z))
      | inr e ↦ e
    ]

    each : (x : Node) (m n k : ℕ) → slice_index_or (true ∷ false ∷ []) k false ≡ goes near far (DiffersInRound 0 x m n ∷ Skipped 0 ∷ []) k
    each x m n zero = refl
    each x m n (suc zero) = refl
    each x m n (suc (suc k)) = sym (ap (λ (b : Bool). (b && true) || false) (later k))
