-- What stands for sure in the rows of a pair: of a match the partners of its pairing, of any other
-- pair the nets that alone have a name on both sides. Devices and calls have no names.
use Rattle.std.specs.Prelude.{◌≡◌, ◌↔◌, ℕ, true, List, Option, Some, slice_get}
use Rattle.match_laws.specs.Circuits.{IsCorrespondence, Pair, Pairing}
use Rattle.match_types.specs.Plain.{plain_pairing}
use Rattle.match_types.specs.declared.answer.Answer.{Answer}
use Rattle.match_types.specs.declared.answer.Answer.TheVariants as answer
use Rattle.match_types.specs.declared.answer.Pairing.{Pairing as Found}
use Rattle.plain_netlist.specs.Lists.{IsListed}
use Rattle.plain_netlist.specs.Netlist.{Circuit}
use Rattle.view_cross.specs.declared.rows.Kind.{Kind}
use Rattle.view_cross.specs.declared.rows.Kind.TheVariants.{Net, Device, Call}
use Rattle.view_cross.specs.declared.rows.Row.{Row}
use Rattle.view_pairs.specs.Only.{IsOnly, is_given}

-- a row has these two as partners
pub record HaveRow (rows : List Row) (kind : Kind) (k m : ℕ) : Type 0 where
  pub row : Row
  pub listed : IsListed row rows
  pub kind_is : row.kind ≡ kind
  pub left_is : row.left ≡ Some k
  pub right_is : row.right ≡ Some m

-- each left node of a kind has this right one as its partner
abbrev pub ArePartnersBy : Kind → List ℕ → List Row → Type 0
ArePartnersBy kind ms rows = (k m : ℕ) → slice_get ms k ≡ Some m → HaveRow rows kind k m

pub record HavePairing (f : Pairing) (rows : List Row) : Type 0 where
  pub nets : ArePartnersBy Net f.nets rows
  pub devices : ArePartnersBy Device f.devices rows
  pub calls : ArePartnersBy Call f.calls rows

-- the partners of a match, if its pairing is a correspondence of the circuits
abbrev pub AreMatchRows : Circuit → Circuit → Pairing → List Row → Type 0
AreMatchRows a b f rows = (p : Pair) → p.left ≡ a → p.right ≡ b → IsCorrespondence p f
    → HavePairing f rows

-- the only nets of a name that someone gave, both pins or neither
pub record AreOnlyNets (a b : Circuit) (k m : ℕ) : Type 0 where
  pub name : List ℕ
  pub given : is_given name ≡ true
  pub left : IsOnly name k a.nets
  pub right : IsOnly name m b.nets
  pub pins : IsListed k a.pins ↔ IsListed m b.pins

-- are partners
abbrev pub AreNameRows : Circuit → Circuit → List Row → Type 0
AreNameRows a b rows = (k m : ℕ) → AreOnlyNets a b k m → HaveRow rows Net k m

-- by the pair's answer
abbrev pub HaveSure : Circuit → Circuit → Answer → List Row → Type 0
HaveSure a b (answer.Match f) rows = AreMatchRows a b (plain_pairing f) rows
HaveSure a b (answer.Differs e) rows = AreNameRows a b rows
HaveSure a b (answer.Undecided gs) rows = AreNameRows a b rows
HaveSure a b (answer.Skipped q) rows = AreNameRows a b rows

-- of each pair of two netlists
abbrev pub AreAllSure : List Circuit → List Circuit → (ℕ → Option Answer) → List (List Row)
    → Type 0
AreAllSure lefts rights answers lists = (k : ℕ) (a b : Circuit) (x : Answer) (rows : List Row)
    → slice_get lefts k ≡ Some a → slice_get rights k ≡ Some b → answers k ≡ Some x
    → slice_get lists k ≡ Some rows → HaveSure a b x rows

-- the rows of each match
abbrev pub AreMatched : List Circuit → List Circuit → (ℕ → Option Answer) → List (List Row)
    → Type 0
AreMatched lefts rights answers lists = (k : ℕ) (a b : Circuit) (f : Found) (rows : List Row)
    → slice_get lefts k ≡ Some a → slice_get rights k ≡ Some b
    → answers k ≡ Some (answer.Match f) → slice_get lists k ≡ Some rows
    → AreMatchRows a b (plain_pairing f) rows

abbrev pub IsNoMatch : Answer → Type 0
IsNoMatch (answer.Match f) = ⊥
IsNoMatch (answer.Differs e) = Unit {0}
IsNoMatch (answer.Undecided gs) = Unit {0}
IsNoMatch (answer.Skipped q) = Unit {0}

-- and those of each other pair: the only nets of a name are partners
abbrev pub AreNamed : List Circuit → List Circuit → (ℕ → Option Answer) → List (List Row)
    → Type 0
AreNamed lefts rights answers lists = (k : ℕ) (a b : Circuit) (x : Answer) (rows : List Row)
    → slice_get lefts k ≡ Some a → slice_get rights k ≡ Some b → answers k ≡ Some x
    → IsNoMatch x → slice_get lists k ≡ Some rows → AreNameRows a b rows
