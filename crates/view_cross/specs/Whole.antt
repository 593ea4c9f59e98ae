-- Rows that have each node of both circuits once.
use Rattle.std.specs.Prelude.{◌≡◌, ℕ, List, Option, Some, length, slice_get}
use Rattle.std.specs.List.{range_with_len}
use Rattle.std.specs.List.Sorted.{IsPermutation}
use Rattle.plain_netlist.specs.Netlist.{Circuit}
use Rattle.view_cross.specs.declared.matched.Counts.{Counts}
use Rattle.view_cross.specs.declared.rows.Kind.TheVariants.{Net, Pin, Device, Call}
use Rattle.view_cross.specs.declared.rows.Row.{Row}
use Rattle.view_cross.specs.Laws.{numbers}
use Rattle.view_cross.specs.Matched.{apart_rows}

-- the numbers below a count, each once, in any order
abbrev pub AreOnce : ℕ → List ℕ → Type 0
AreOnce n ns = IsPermutation (range_with_len 0 n) ns

-- each node of one side stands in one row of its kind
pub record HasEachOnce (side : Row → Option ℕ) (c : Counts) (rows : List Row) : Type 0 where
  pub nets : AreOnce c.nets (numbers side Net rows)
  pub pins : AreOnce c.pins (numbers side Pin rows)
  pub devices : AreOnce c.devices (numbers side Device rows)
  pub calls : AreOnce c.calls (numbers side Call rows)

pub record IsWhole (a b : Counts) (rows : List Row) : Type 0 where
  pub lefts : HasEachOnce (λ r. r.left) a rows
  pub rights : HasEachOnce (λ r. r.right) b rows

-- how many nodes of each kind a circuit has
abbrev pub counts_of : Circuit → Counts
counts_of c = record {
  nets = length c.nets;
  pins = length c.pins;
  devices = length c.devices;
  calls = length c.calls;
}

-- the rows of pairs of circuits, by number, have each node of both once
abbrev pub AreWhole : List Circuit → List Circuit → List (List Row) → Type 0
AreWhole lefts rights lists = (k : ℕ) (a b : Circuit) (rows : List Row)
    → slice_get lefts k ≡ Some a → slice_get rights k ≡ Some b → slice_get lists k ≡ Some rows
    → IsWhole (counts_of a) (counts_of b) rows

abbrev pub ApartLaw : Type 0
ApartLaw = (a b : Counts) → IsWhole a b (apart_rows a b)
