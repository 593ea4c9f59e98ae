-- What follows from the answer of a comparison.
use Rattle.std.specs.Prelude.{◌≢◌, ◌⊎◌, ◌<◌, ◌≤◌, ◌&&◌, ℕ, Bool, List, bytes_eq, count_by}
use Rattle.plain_netlist.specs.declared.kinds.DeviceKind.{DeviceKind}
use Rattle.plain_netlist.specs.Kinds.{same_device_kind}
use Rattle.plain_netlist.specs.Netlist.{DeviceRow}
use Rattle.round_laws.specs.Web.{Web, IsNode, IsStable, on_left, on_right}
use Rattle.round_laws.specs.Nodes.{Node}
use Rattle.round_laws.specs.Guesses.{Search as Guesses, HasEnded, HasFound, IsWholeSearch}
use Rattle.round_laws.specs.Guesses.{refuted_in}
use Rattle.match_laws.specs.Circuits.{Pair, Pairing, IsCorrespondence}
use Rattle.match_laws.specs.Answer.{equal_names, setting_of}
use Rattle.match_types.specs.declared.answer.Answer.{Answer}
use Rattle.match_types.specs.declared.answer.Answer.TheVariants as answer
use Rattle.match_types.specs.Plain.{plain_pairing}

-- a match carries a correspondence
abbrev pub CarriesPairing : Pair → Answer → Type 0
CarriesPairing p (answer.Match pairing) = IsCorrespondence p (plain_pairing pairing)
CarriesPairing p (answer.Differs evidence) = Unit {0}
CarriesPairing p (answer.Undecided guesses) = Unit {0}
CarriesPairing p (answer.Skipped pair) = Unit {0}

-- a difference excludes every correspondence that keeps the children's pins
abbrev pub ExcludesPairings : Pair → Answer → Type 0
ExcludesPairings p (answer.Match pairing) = Unit {0}
ExcludesPairings p (answer.Differs evidence) = (f : Pairing) → IsCorrespondence p f → ⊥
ExcludesPairings p (answer.Undecided guesses) = Unit {0}
ExcludesPairings p (answer.Skipped pair) = Unit {0}

abbrev pub IsDifference : Answer → Type 0
IsDifference (answer.Match pairing) = ⊥
IsDifference (answer.Differs evidence) = Unit {0}
IsDifference (answer.Undecided guesses) = ⊥
IsDifference (answer.Skipped pair) = ⊥

-- a match or a difference
abbrev pub IsDecided : Answer → Type 0
IsDecided (answer.Match pairing) = Unit {0}
IsDecided (answer.Differs evidence) = Unit {0}
IsDecided (answer.Undecided guesses) = ⊥
IsDecided (answer.Skipped pair) = ⊥

abbrev pub IsUndecided : Answer → Type 0
IsUndecided (answer.Match pairing) = ⊥
IsUndecided (answer.Differs evidence) = ⊥
IsUndecided (answer.Undecided guesses) = Unit {0}
IsUndecided (answer.Skipped pair) = ⊥

-- whether a device is of this kind and class
abbrev pub has_class : DeviceKind → List ℕ → DeviceRow → Bool
has_class kind class d = same_device_kind kind d.kind && bytes_eq class d.class

-- whether it is of this kind and class, and has these sizes
abbrev pub is_of : DeviceKind → List ℕ → List ℕ → DeviceRow → Bool
is_of kind class sizes d =
    same_device_kind kind d.kind && (bytes_eq class d.class && bytes_eq sizes d.sizes)

-- of some kind, class and sizes one circuit has more devices than the other
abbrev pub HaveUnevenDevices : Pair → Type 0
HaveUnevenDevices p = (kind : DeviceKind) × (class : List ℕ) × (sizes : List ℕ)
    × (count_by (is_of kind class sizes) p.left.devices
    ≢ count_by (is_of kind class sizes) p.right.devices)

-- of some kind and class, whatever the sizes, one circuit has more devices than the other
abbrev pub HaveUnevenClass : Pair → Type 0
HaveUnevenClass p = (kind : DeviceKind) × (class : List ℕ)
    × (count_by (has_class kind class) p.left.devices
    ≢ count_by (has_class kind class) p.right.devices)

-- each class of a stable round has one node of each circuit at most
abbrev pub AreSingleClasses : Web Node → Type 0
AreSingleClasses w = (k : ℕ) × IsStable w k
    × ((a : Node) → IsNode w a → (on_left w k a ≤ 1) × (on_right w k a ≤ 1))

-- the whole search over guesses has fewer refuted ones than the limit
pub record IsEnough (p : Pair) (limit : ℕ) : Type 0 where
  pub larger : ℕ
  pub guesses : Guesses
  pub whole : IsWholeSearch (setting_of p (equal_names p) larger) guesses
  pub ends : HasEnded guesses ⊎ HasFound guesses
  pub few : refuted_in guesses < limit
