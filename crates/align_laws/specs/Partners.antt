-- Which circuits of a layout and of a schematic are partners, and which pairs are compared, in
-- which order.
use Rattle.std.specs.Prelude.{◌≡◌, ◌⊎◌, ◌↔◌, ◌<◌, ℕ, true, List}
use Rattle.net_names.specs.Folding.{folded_bytes}
use Rattle.plain_netlist.specs.Lists.{IsListed}
use Rattle.plain_netlist.specs.Netlist.{Circuit, CallRow, Netlist, IsCircuit, IsCall}
use Rattle.plain_netlist.specs.Sound.{HasDevices, IsCalledFrom, IsGood}
use Rattle.align_laws.specs.Cut.{Alignment}
use Rattle.align_laws.specs.Aligned.{IsAligned, HasOnlyKept, AreKeptFrom}

-- circuit c has this name, small letters being large ones
abbrev pub HasName : Netlist → ℕ → List ℕ → Type 0
HasName nl c name = (x : Circuit) × IsCircuit nl c x × (folded_bytes x.name ≡ folded_bytes name)

-- same: the lines `same_circuits`, each with a name of the layout and one of the schematic
module _ (layout schematic : Netlist) (top : ℕ) (same : List (List ℕ × List ℕ)) where
  -- a line names circuit a of the layout
  abbrev pub IsLeftSaid : ℕ → Type 0
  IsLeftSaid a = (line : List ℕ × List ℕ) × IsListed line same × HasName layout a line.0

  -- a line names circuit b of the schematic
  abbrev pub IsRightSaid : ℕ → Type 0
  IsRightSaid b = (line : List ℕ × List ℕ) × IsListed line same × HasName schematic b line.1

  -- one line names both
  abbrev pub AreSaidSame : ℕ → ℕ → Type 0
  AreSaidSame a b = (line : List ℕ × List ℕ)
      × IsListed line same × HasName layout a line.0 × HasName schematic b line.1

  -- they have one name
  abbrev pub AreNamesakes : ℕ → ℕ → Type 0
  AreNamesakes a b = (name : List ℕ) × HasName layout a name × HasName schematic b name

  -- partners by name: a line says so; or no line names either, and they have one name
  abbrev pub IsPartnerByName : ℕ → ℕ → Type 0
  IsPartnerByName a b =
      AreSaidSame a b ⊎ ((IsLeftSaid a → ⊥) × (IsRightSaid b → ⊥) × AreNamesakes a b)

  -- a circuit of the schematic that no call names
  pub record IsUncalled (b : ℕ) : Type 0 where
    pub there : (x : Circuit) × IsCircuit schematic b x
    pub uncalled : (c k : ℕ) (row : CallRow) → IsCall schematic c k row → row.circuit ≡ b → ⊥

  -- the top's partner, where names give it none: the one circuit that no call names; a line may
  -- name neither
  pub record IsPartnerOfTop (b : ℕ) : Type 0 where
    pub unnamed : (c : ℕ) → IsPartnerByName top c → ⊥
    pub unsaid : IsLeftSaid top → ⊥
    pub uncalled : IsUncalled b
    pub one : (c : ℕ) → IsUncalled c → c ≡ b
    pub right_unsaid : IsRightSaid b → ⊥

  -- circuit b of the schematic is the partner of circuit a of the layout; that of the top by its
  -- place is no other circuit's
  abbrev pub IsPartner : ℕ → ℕ → Type 0
  IsPartner a b =
      ((a ≡ top) × IsPartnerOfTop b) ⊎ (IsPartnerByName a b × (IsPartnerOfTop b → ⊥))

  -- a pair that is compared: partners called from the two tops, and the tops themselves or with a
  -- device in or below both
  pub record IsPair (right_top a b : ℕ) : Type 0 where
    pub tops : IsPartner top right_top
    pub partner : IsPartner a b
    pub called : IsCalledFrom layout top a
    pub right_called : IsCalledFrom schematic right_top b
    pub devices : (a ≡ top) ⊎ (HasDevices layout a × HasDevices schematic b)

  -- the circuits that are kept are those of the pairs; a pair's circuits have one number, and
  -- numbers rise as in the layout
  pub record ArePairs (right_top : ℕ) (left right : Alignment) : Type 0 where
    pub left_kept : (a : ℕ) → (left.kept a ≡ true) ↔ ((b : ℕ) × IsPair right_top a b)
    pub right_kept : (b : ℕ) → (right.kept b ≡ true) ↔ ((a : ℕ) × IsPair right_top a b)
    pub together : (a b : ℕ) → IsPair right_top a b → left.number a ≡ right.number b
    pub rising : (a b : ℕ) → a < b → left.kept a ≡ true → left.kept b ≡ true
        → left.number a < left.number b

-- a circuit that a line names has no partner but by a line
abbrev pub SaidLaw : Type 0
SaidLaw = (layout schematic : Netlist) (top : ℕ) (same : List (List ℕ × List ℕ)) (a b : ℕ)
    → IsLeftSaid layout schematic top same a ⊎ IsRightSaid layout schematic top same b
    → IsPartner layout schematic top same a b → AreSaidSame layout schematic top same a b

-- no two circuits have one name
abbrev pub AreNamesApart : Netlist → Type 0
AreNamesApart nl = (a b : ℕ) (name : List ℕ) → HasName nl a name → HasName nl b name → a ≡ b

-- no two lines have one name on one side
pub record AreLinesApart (same : List (List ℕ × List ℕ)) : Type 0 where
  pub left : (k l : List ℕ × List ℕ) → IsListed k same → IsListed l same
      → folded_bytes k.0 ≡ folded_bytes l.0 → k ≡ l
  pub right : (k l : List ℕ × List ℕ) → IsListed k same → IsListed l same
      → folded_bytes k.1 ≡ folded_bytes l.1 → k ≡ l

-- then partners are one to one
abbrev pub OnePartnerLaw : Type 0
OnePartnerLaw = (layout schematic : Netlist) (top : ℕ) (same : List (List ℕ × List ℕ))
    → AreNamesApart layout → AreNamesApart schematic → AreLinesApart same
    → ((a b c : ℕ) → IsPartner layout schematic top same a b
    → IsPartner layout schematic top same a c → b ≡ c)
    × ((a b c : ℕ) → IsPartner layout schematic top same a c
    → IsPartner layout schematic top same b c → a ≡ b)

-- and each kept circuit is a top, or is called from it and has devices
abbrev pub KeptLaw : Type 0
KeptLaw = (layout schematic : Netlist) (top right_top : ℕ) (same : List (List ℕ × List ℕ))
    (v w : Alignment) → AreNamesApart layout → AreNamesApart schematic → AreLinesApart same
    → ArePairs layout schematic top same right_top v w
    → AreKeptFrom layout top v.kept × AreKeptFrom schematic right_top w.kept

-- left and right are the aligned netlists of a layout and of a schematic: those of the pairs'
-- circuits, and no others, for a top with this partner
pub record IsAlignedPair (layout schematic : Netlist) (top right_top : ℕ)
    (same : List (List ℕ × List ℕ)) (left right : Netlist) (v w : Alignment) : Type 0 where
  pub partner : IsPartner layout schematic top same top right_top
  pub pairs : ArePairs layout schematic top same right_top v w
  pub left_aligned : IsAligned layout left v
  pub right_aligned : IsAligned schematic right w
  pub left_only : HasOnlyKept left v
  pub right_only : HasOnlyKept right w

-- there is one aligned pair
abbrev pub OnePairLaw : Type 0
OnePairLaw = (layout schematic : Netlist) (top right_top : ℕ) (same : List (List ℕ × List ℕ))
    (l r m s : Netlist) (v w x y : Alignment)
    → IsAlignedPair layout schematic top right_top same l r v w
    → IsAlignedPair layout schematic top right_top same m s x y → (l ≡ m) × (r ≡ s)

-- two netlists whose circuits are compared by position: each has a circuit of each number of the
-- other, and both are good
pub record AreSides (left right : Netlist) : Type 0 where
  pub there : (k : ℕ) (c : Circuit) → IsCircuit left k c → (d : Circuit) × IsCircuit right k d
  pub back : (k : ℕ) (d : Circuit) → IsCircuit right k d → (c : Circuit) × IsCircuit left k c
  pub left_good : (height : ℕ → ℕ) × IsGood left height
  pub right_good : (height : ℕ → ℕ) × IsGood right height

-- so are the sides of an aligned pair
abbrev pub AlignedSidesLaw : Type 0
AlignedSidesLaw = (layout schematic : Netlist) (top right_top : ℕ) (same : List (List ℕ × List ℕ))
    (left right : Netlist) (v w : Alignment)
    → IsAlignedPair layout schematic top right_top same left right v w → AreSides left right

-- where children stand before callers in the layout, they do on the left
abbrev pub LeftOrderLaw : Type 0
LeftOrderLaw = (layout schematic : Netlist) (top right_top : ℕ) (same : List (List ℕ × List ℕ))
    (left right : Netlist) (v w : Alignment) → IsGood layout (λ k. k)
    → IsAlignedPair layout schematic top right_top same left right v w → IsGood left (λ k. k)
