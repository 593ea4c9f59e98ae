-- Edges that cross a row.
use Rattle.std.specs.Prelude.{◌≡◌, ◌⊎◌, ℕ, ℤ, pos, negsuc, ◌+◌, ◌<◌, ◌≤◌, ◌+ℤ◌, ◌≤ℤ◌, ◌<ℤ◌, Bool}
use Rattle.std.specs.Prelude.{true, false, List, [], ◌∷◌, length, take, drop, slice_index_or, ◌-◌}
use Rattle.std.specs.Prelude.{int_lt, insert}
use Rattle.rect_sets.specs.Edges.{sum_where}
use Rattle.rect_sets.specs.Rows.{AreInOrder, AreUpTo}
use Rattle.rect_sets.specs.declared.row.Edge.{Edge}
use Rattle.rect_sets.specs.declared.active.Pick.{Pick}
use Rattle.rect_sets.specs.declared.active.Pick.TheVariants.{Done, Ended, Active, Starting}

-- no edge is left of this number, -2^63
abbrev pub leftmost : ℤ
leftmost = negsuc 9223372036854775807

-- the edge at a place
abbrev pub edge_at : List Edge → ℕ → Edge
edge_at edges k = slice_index_or edges k (record {
  x = pos 0;
  y1 = pos 0;
  y2 = pos 0;
  first = pos 0;
  second = pos 0;
})

-- the edge comes at or after a place in the order of y1, then x
abbrev pub Follows : ℤ → ℤ → Edge → Type 0
Follows y x e = (y <ℤ e.y1) ⊎ ((y ≡ e.y1) × (x ≤ℤ e.x))

-- in order of y1, then x, from a place on; none is empty or too far left
abbrev pub AreNext : ℤ → ℤ → List Edge → Type 0
AreNext y x [] = Unit {0}
AreNext y x (e ∷ edges) =
    Follows y x e × (leftmost ≤ℤ e.x) × (e.y1 <ℤ e.y2) × AreNext e.y1 e.x edges

-- all begin at or below a row
abbrev pub HaveBegun : ℤ → List Edge → Type 0
HaveBegun y [] = Unit {0}
HaveBegun y (e ∷ edges) = (e.y1 ≤ℤ y) × HaveBegun y edges

-- all cross the row
abbrev pub AreCrossing : ℤ → List Edge → Type 0
AreCrossing y [] = Unit {0}
AreCrossing y (e ∷ edges) = (e.y1 ≤ℤ y) × (y <ℤ e.y2) × AreCrossing y edges

-- none ends below this row
abbrev pub EndFrom : ℤ → List Edge → Type 0
EndFrom end [] = Unit {0}
EndFrom end (e ∷ edges) = (end ≤ℤ e.y2) × EndFrom end edges

-- which comes next: an active edge that has ended, one that goes on, or one that begins, by x
abbrev pub IsPick : ℤ → List Edge → ℕ → List Edge → ℕ → Pick → Type 0
IsPick y active i edges j Done =
    (length active ≤ i) × (j < length edges → y <ℤ (edge_at edges j).y1)
IsPick y active i edges j Ended = (i < length active) × ((edge_at active i).y2 ≤ℤ y)
IsPick y active i edges j Active = (i < length active) × (y <ℤ (edge_at active i).y2)
    × (j < length edges → (y <ℤ (edge_at edges j).y1)
    ⊎ ((edge_at active i).x ≤ℤ (edge_at edges j).x))
IsPick y active i edges j Starting = (j < length edges) × ((edge_at edges j).y1 ≤ℤ y)
    × (i < length active → (edge_at edges j).x ≤ℤ (edge_at active i).x)

-- in the midst of a merge: what was taken crosses the row, and what is left is in order
pub record MergeState (y : ℤ) (active edges : List Edge) (i j : ℕ) (out : List Edge) : Type 0 where
  pub i_in : i ≤ length active
  pub j_in : j ≤ length edges
  pub low : ℤ
  pub low_in : leftmost ≤ℤ low
  pub active_order : AreInOrder low (drop i active)
  pub active_begun : HaveBegun y (drop i active)
  pub edges_next : AreNext y low (drop j edges)
  pub out_order : AreInOrder leftmost out
  pub out_up_to : AreUpTo low out
  pub out_crossing : AreCrossing y out

-- a test that no edge passes that ended
abbrev pub Ignores : ℤ → (Edge → Bool) → Type 0
Ignores y test = (e : Edge) → e.y2 ≤ℤ y → test e ≡ false

-- one edge was taken or left out; sums of those that still count stay the same
pub record Takes (y : ℤ) (active edges : List Edge) (i i' j j' : ℕ) (out out' : List Edge)
    (more : Bool) : Type 0 where
  pub state : MergeState y active edges i' j' out'
  pub sums : (test : Edge → Bool) (field : Edge → ℤ) → Ignores y test
      → (sum_where test field out' +ℤ (sum_where test field (drop i' active)
      +ℤ sum_where test field (drop j' edges)))
      ≡ (sum_where test field out +ℤ (sum_where test field (drop i active)
      +ℤ sum_where test field (drop j edges)))
  pub on : more ≡ true → i + j < i' + j'
  pub not_back : i + j ≤ i' + j'
  pub end : more ≡ false → (length active ≤ i') × (j' < length edges → y <ℤ (edge_at edges j').y1)

-- active edges in order of x, and the others in order of y1, none of which ended below the row
pub record IsReady (y : ℤ) (active edges : List Edge) (at : ℕ) : Type 0 where
  pub at_in : at ≤ length edges
  pub order : AreInOrder leftmost active
  pub begun : HaveBegun y active
  pub next : AreNext y leftmost (drop at edges)

-- the same from the beginning on
pub record MergeSoFar (y : ℤ) (active edges : List Edge) (at i j : ℕ) (out : List Edge)
    (more : Bool) : Type 0 where
  pub state : MergeState y active edges i j out
  pub sums : (test : Edge → Bool) (field : Edge → ℤ) → Ignores y test
      → (sum_where test field out +ℤ (sum_where test field (drop i active)
      +ℤ sum_where test field (drop j edges))) ≡ (sum_where test field active
      +ℤ sum_where test field (drop at edges))
  pub end : more ≡ false → (length active ≤ i) × (j < length edges → y <ℤ (edge_at edges j).y1)

-- the edges that cross row y are active, and the others begin later
pub record Merged (y : ℤ) (active edges : List Edge) (at at' : ℕ) (out : List Edge) : Type 0 where
  pub at_in : at' ≤ length edges
  pub order : AreInOrder leftmost out
  pub crossing : AreCrossing y out
  pub low : ℤ
  pub next : AreNext y low (drop at' edges)
  pub later : at' < length edges → y <ℤ (edge_at edges at').y1
  pub sums : (test : Edge → Bool) (field : Edge → ℤ) → Ignores y test
      → (sum_where test field out +ℤ sum_where test field (drop at' edges))
      ≡ (sum_where test field active +ℤ sum_where test field (drop at edges))

-- above y, and up to there no active edge ends and no other begins
pub record IsEnd (y : ℤ) (active edges : List Edge) (at : ℕ) (end : ℤ) : Type 0 where
  pub some : y <ℤ end
  pub ends : EndFrom end active
  pub later : at < length edges → end ≤ℤ (edge_at edges at).y1

-- the same of the active edges that were seen
pub record EndSoFar (y : ℤ) (active edges : List Edge) (at seen : ℕ) (end : ℤ) : Type 0 where
  pub some : y <ℤ end
  pub ends : EndFrom end (take seen active)
  pub rest : AreCrossing y (drop seen active)
  pub later : at < length edges → end ≤ℤ (edge_at edges at).y1

-- the edge doesn't end at or below y
abbrev pub goes_on : ℤ → Edge → Bool
goes_on y e = int_lt y e.y2

-- where an edge at x belongs among those in order
pub record IsPlace (edges : List Edge) (x : ℤ) (place : ℕ) : Type 0 where
  pub place_in : place ≤ length edges
  pub left : 0 < place → (edge_at edges (place - 1)).x ≤ℤ x
  pub right : place < length edges → x ≤ℤ (edge_at edges place).x

-- an edge was put where it belongs
pub record IsInserted (old new : List Edge) (e : Edge) : Type 0 where
  pub place : ℕ
  pub is : IsPlace old e.x place
  pub new_are : new ≡ insert old place e

-- those that go on are active, and some that begin at y
pub record BeginSoFar (y : ℤ) (before edges : List Edge) (from : ℕ) (active : List Edge) (at : ℕ)
    : Type 0 where
  pub at_in : at ≤ length edges
  pub order : AreInOrder leftmost active
  pub crossing : AreCrossing y active
  pub low : ℤ
  pub next : AreNext y low (drop at edges)
  pub sums : (test : Edge → Bool) (field : Edge → ℤ) → Ignores y test
      → (sum_where test field active +ℤ sum_where test field (drop at edges))
      ≡ (sum_where test field before +ℤ sum_where test field (drop from edges))
