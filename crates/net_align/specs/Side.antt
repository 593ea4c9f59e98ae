-- One side of an aligned pair.
use Rattle.std.specs.Prelude.{◌≡◌, ◌<◌, ◌&&◌, ℕ, Bool, true, not, List, length, Option, Some}
use Rattle.std.specs.Prelude.{slice_get, slice_index_or, false}
use Rattle.plain_netlist.specs.Netlist.{Netlist}
use Rattle.align_laws.specs.Aligned.{IsAligned, HasOnlyKept}
use Rattle.align_laws.specs.Cut.{Alignment}
use Rattle.net_align.specs.Laid.{goes_of}
use Rattle.net_align.specs.Flattened.{IsFlattening}
use Rattle.net_align.specs.Kept.{AreHeights, Flattened}
use Rattle.net_align.specs.Sights.{has_number, is_kept}
use Rattle.net_align.specs.Walked.{IsMarked}

-- the numbers are circuits that are marked
abbrev pub AreMarkedCircuits : Netlist → List Bool → List ℕ → Type 0
AreMarkedCircuits g marks circuits = (i c : ℕ) → slice_get circuits i ≡ Some c
    → (c < length g.circuits) × IsMarked marks c

-- those go into their callers that aren't kept and have a device in or below them
pub record AreGoing (numbers : List (Option ℕ)) (holds : List Bool) (n : ℕ) (goes : List Bool) :
    Type 0 where
  pub long : length goes ≡ n
  pub each : (c : ℕ) → c < n
      → goes_of goes c ≡ (not (is_kept numbers c) && slice_index_or holds c false)

-- what the tables of a side stand for
pub record IsGiven (g : Netlist) (order : List ℕ) (marks holds : List Bool) (circuits : List ℕ)
    (given : Flattened) : Type 0 where
  pub netlist : given.netlist ≡ g
  pub marks_are : given.marks ≡ marks
  pub goes_are : (c : ℕ)
      → given.goes c ≡ (not (has_number circuits c) && slice_index_or holds c false)
  pub flattened : IsFlattening given.netlist given.goes given.flattening
  pub heights : AreHeights given.flattening order

-- o is the aligned netlist of g in which these circuits are kept, under their places
pub record IsSide (g : Netlist) (circuits : List ℕ) (o : Netlist) : Type 0 where
  pub by : Alignment
  pub aligned : IsAligned g o by
  pub only : HasOnlyKept o by
  pub kept : (k c : ℕ) → slice_get circuits k ≡ Some c → (by.kept c ≡ true) × (by.number c ≡ k)
  pub listed : (c : ℕ) → by.kept c ≡ true → slice_get circuits (by.number c) ≡ Some c
