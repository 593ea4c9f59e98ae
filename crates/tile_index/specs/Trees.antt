-- Nodes over entries: each stands for some that are neighbours, and its rectangle holds theirs.
use Rattle.std.specs.Prelude.{◌≡◌, ◌<◌, ◌≤◌, ℕ, zero, suc, List, ◌++◌, ◌-◌, take, drop, Option}
use Rattle.std.specs.Prelude.{Some, None, length, slice_get}
use Rattle.geo_base.specs.declared.shapes.Rect.{Rect}
use Rattle.tile_index.specs.declared.entries.Entry.{Entry}
use Rattle.tile_index.specs.declared.tree.Node.{Node}
use Rattle.geo_base.specs.Rects.{IsInside}

abbrev pub from_of : ℕ → Option Node → ℕ
from_of end None = end
from_of end (Some node) = node.from

-- where the entries begin that have nodes among the first n: those of the n-th node, or none
abbrev pub begin_of : List Entry → List Node → ℕ → ℕ
begin_of entries nodes zero = length entries
begin_of entries nodes (suc n) = from_of (length entries) (slice_get nodes n)

abbrev pub HoldsAll : List Entry → Rect → Type 0
HoldsAll entries hull = (k : ℕ) (e : Entry)
    → slice_get entries k ≡ Some e → IsInside e.rect hull

-- the rectangle holds those of the entries from one number up to another
abbrev pub HoldsRange : List Entry → ℕ → ℕ → Rect → Type 0
HoldsRange entries from to hull = (k : ℕ) (e : Entry) → from ≤ k → k < to
    → slice_get entries k ≡ Some e → IsInside e.rect hull

-- The i-th node: what stands before the nodes that it is made of begins where its entries end.
-- Where it is made of some, they begin where its entries do.
pub record IsNode (entries : List Entry) (nodes : List Node) (i : ℕ) (node : Node) : Type 0 where
  pub low : node.skip ≤ i
  pub range : node.from ≤ node.to
  pub inside : node.to ≤ length entries
  pub behind : begin_of entries nodes node.skip ≡ node.to
  pub inner : node.skip < i → begin_of entries nodes i ≡ node.from
  pub holds : HoldsRange entries node.from node.to node.hull

abbrev pub AreNodes : List Entry → List Node → Type 0
AreNodes entries nodes = (i : ℕ) (node : Node)
    → slice_get nodes i ≡ Some node → IsNode entries nodes i node

-- the entries under a node
pub record IsPart (entries : List Entry) (node : Node) : Type 0 where
  pub range_is : node.from ≤ node.to
  pub within : node.to ≤ length entries

abbrev pub part : List Entry → Node → List Entry
part entries node = take (node.to - node.from) (drop node.from entries)

-- a node of these entries may come next, above the nodes from `skip` on
pub record IsAbove (entries : List Entry) (nodes : List Node) (from to skip : ℕ) : Type 0 where
  pub low_skip : skip ≤ length nodes
  pub ends : begin_of entries nodes skip ≡ to
  pub begins_too : skip < length nodes → begin_of entries nodes (length nodes) ≡ from

-- more nodes, for the entries from a number on up to those that had nodes
pub record Grows (entries : List Entry) (from : ℕ) (old new : List Node) : Type 0 where
  pub nodes : AreNodes entries new
  pub begins : begin_of entries new (length new) ≡ from
  pub kept : (more : List Node) × (new ≡ old ++ more)

-- all entries have nodes
pub record IsTree (entries : List Entry) (nodes : List Node) : Type 0 where
  pub nodes_are : AreNodes entries nodes
  pub whole : begin_of entries nodes (length nodes) ≡ 0
