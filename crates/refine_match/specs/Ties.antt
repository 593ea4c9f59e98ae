-- The tied classes, with their left nodes.
use Rattle.std.specs.Prelude.{◌≡◌, ◌≢◌, ◌⊎◌, ◌<◌, ◌≤◌, ◌==◌, ◌++◌, ◌∷◌, [], ℕ, count_by}
use Rattle.std.specs.Prelude.{Option, Some, None, List, length, map, slice_index, slice_index_or}
use Rattle.std.specs.declared.cmp.Ordering.{Ordering}
use Rattle.std.specs.declared.cmp.Reverse.{Reverse}
use Rattle.std.specs.Ordering.{nat_cmp, ordering_then}
use Rattle.std.specs.BinaryHeap.{IsHeap, heap_items}
use Rattle.std.specs.List.{Contains}
use Rattle.match_laws.specs.Circuits.{numbers_from}
use Rattle.match_graph.specs.declared.graph.Graph.{Graph}
use Rattle.match_graph.specs.Graph.{left_of}
use Rattle.match_rounds.specs.declared.classes.Classes.{Classes}
use Rattle.match_rounds.specs.Classes.{class_count, class_in}
use Rattle.match_rounds.specs.Sides.{left_members}
use Rattle.refine_match.specs.declared.ties.Span.{Span}
use Rattle.refine_match.specs.declared.ties.Tie.{Tie}
use Rattle.refine_match.specs.declared.ties.Ties.{Ties}
use Rattle.refine_match.specs.Choosing.{tied_with}

-- how many of the left nodes are of class d
abbrev pub lefts_of : (ℕ → ℕ) → ℕ → ℕ → ℕ
lefts_of class left d = count_by (λ a. d == class a) (numbers_from 0 left)

-- the nodes of class d between these numbers, in order
pub record AreInOrder (nodes : List ℕ) (class : ℕ → ℕ) (from to d : ℕ) : Type 0 where
  pub within : (k : ℕ) → k < length nodes
      → (from ≤ slice_index nodes k) × (slice_index nodes k < to)
  pub rising : (j k : ℕ) → j ≤ k → k < length nodes → slice_index nodes j ≤ slice_index nodes k
  pub found : (a : ℕ) → from ≤ a → a < to → class a ≡ d
      → (k : ℕ) × (k < length nodes) × (slice_index nodes k ≡ a)

-- those of the first i nodes that are between these numbers
pub record AreWithin (taken nodes : List ℕ) (i from to : ℕ) : Type 0 where
  pub within : (k : ℕ) → k < length taken
      → (from ≤ slice_index taken k) × (slice_index taken k < to)
  pub found : (j : ℕ) → j < i → from ≤ slice_index nodes j → slice_index nodes j < to
      → (k : ℕ) × (k < length taken) × (slice_index taken k ≡ slice_index nodes j)

-- no place before this one has a node of class d
pub record IsFirstIn (nodes : List ℕ) (class : ℕ → ℕ) (d from to place : ℕ) : Type 0 where
  pub fits : place ≤ to
  pub inside : place < to → (from ≤ place) × (class (slice_index nodes place) ≡ d)
  pub none : (k : ℕ) → from ≤ k → k < place → class (slice_index nodes k) ≢ d

-- the count of class d and the node at this place, or that the class has one left node at most
abbrev pub IsTieOrNone : Graph → Classes → ℕ → List ℕ → ℕ → Option Tie → Type 0
IsTieOrNone g c d nodes place (Some t) = (1 < t.count) × (t.count ≡ left_members g c d)
    × (t.node ≡ slice_index nodes place)
IsTieOrNone g c d nodes place None = left_members g c d ≤ 1

-- where the nodes of class d between these numbers stand, in order
pub record IsSpanOf (nodes : List ℕ) (s : Span) (class : ℕ → ℕ) (from to d : ℕ) : Type 0 where
  pub fits : s.end ≤ length nodes
  pub within : (k : ℕ) → s.next ≤ k → k < s.end
      → (from ≤ slice_index nodes k) × (slice_index nodes k < to)
  pub rising : (j k : ℕ) → s.next ≤ j → j ≤ k → k < s.end
      → slice_index nodes j ≤ slice_index nodes k
  pub found : (a : ℕ) → from ≤ a → a < to → class a ≡ d
      → (k : ℕ) × (s.next ≤ k) × (k < s.end) × (slice_index nodes k ≡ a)

abbrev pub span_at : Ties → ℕ → Span
span_at t d = slice_index_or t.spans.items d record { next = 0; end = 0 }

-- each class has its span
abbrev pub AreSpansIn : Ties → (ℕ → ℕ) → ℕ → Type 0
AreSpansIn t class left = (d : ℕ) → d < length t.spans.items
    → IsSpanOf t.nodes.items (span_at t d) class 0 left d

abbrev pub AreSpansOf : Ties → Graph → Classes → Type 0
AreSpansOf t g c = AreSpansIn t (class_in c) (left_of g)

-- the entries
abbrev pub ties_in : Ties → List Tie
ties_in t = map (λ (r : Reverse Tie). r.0) (heap_items t.queue)

-- fewer left nodes come first, then the lesser node
abbrev pub tie_order : Reverse Tie → Reverse Tie → Ordering
tie_order x y = ordering_then (nat_cmp y.0.count x.0.count) (nat_cmp y.0.node x.0.node)

abbrev pub IsNoLaterEntry : Tie → Tie → Type 0
IsNoLaterEntry t u = (t.count < u.count) ⊎ ((t.count ≡ u.count) × (t.node ≤ u.node))

-- how many left nodes class d has, and the first of them
pub record IsTieOf (class : ℕ → ℕ) (left d : ℕ) (t : Tie) : Type 0 where
  pub count : t.count ≡ lefts_of class left d
  pub below : t.node < left
  pub of : class t.node ≡ d
  pub first : (a : ℕ) → a < left → class a ≡ d → t.node ≤ a

pub record IsEntered (class : ℕ → ℕ) (left d : ℕ) (ties : List Tie) : Type 0 where
  pub tie : Tie
  pub there : Contains ties tie
  pub is : IsTieOf class left d tie

-- class d is entered, if it is tied
abbrev pub HasTie : (ℕ → ℕ) → ℕ → List Tie → ℕ → Type 0
HasTie class left ties d = 1 < lefts_of class left d → IsEntered class left d ties

-- the ties of these classes
pub record AreTiesOf (t : Ties) (g : Graph) (c : Classes) : Type 0 where
  pub long : length t.class_of.items ≡ left_of g
  pub told : (a : ℕ) → a < left_of g → slice_index t.class_of.items a ≡ class_in c a
  pub count : length t.spans.items ≡ class_count c
  pub spans : AreSpansOf t g c
  pub ties : (d : ℕ) → d < class_count c → HasTie (class_in c) (left_of g) (ties_in t) d
  pub ordered : IsHeap tie_order (heap_items t.queue)

-- the class that a left node was of
abbrev pub told_in : Ties → ℕ → ℕ
told_in t a = slice_index t.class_of.items a

-- the ties of classes of which these are parts: a left node is of the class that it was of, or of
-- one that came
pub record AreFormer (t : Ties) (g : Graph) (c : Classes) : Type 0 where
  pub long : length t.class_of.items ≡ left_of g
  pub below : (a : ℕ) → a < left_of g → told_in t a < class_count c
  pub kept : (a : ℕ) → a < left_of g
      → (class_in c a ≡ told_in t a) ⊎ (length t.spans.items ≤ class_in c a)
  pub fewer : length t.spans.items ≤ class_count c
  pub spans : AreSpansIn t (told_in t) (left_of g)
  pub ties : (d : ℕ) → d < length t.spans.items
      → HasTie (told_in t) (left_of g) (ties_in t) d
  pub ordered : IsHeap tie_order (heap_items t.queue)

-- the nodes from this place on are left ones
abbrev pub AreLow : Ties → Graph → ℕ → Type 0
AreLow t g from = (k : ℕ) → from ≤ k → k < length t.nodes.items
    → slice_index t.nodes.items k < left_of g

-- these nodes and the place of them were added
pub record IsSpanAdded (old new : Ties) (nodes : List ℕ) : Type 0 where
  pub nodes_are : new.nodes.items ≡ old.nodes.items ++ nodes
  pub spans_are : new.spans.items ≡ old.spans.items
      ++ record { next = length old.nodes.items; end = length new.nodes.items } ∷ []
  pub told : new.class_of ≡ old.class_of
  pub queue : new.queue ≡ old.queue

-- the classes that came, below n, are listed behind what was there
pub record AreListed (old new : Ties) (g : Graph) (c : Classes) (n : ℕ) : Type 0 where
  pub told : new.class_of ≡ old.class_of
  pub queue : new.queue ≡ old.queue
  pub longer : length old.nodes.items ≤ length new.nodes.items
  pub nodes : (k : ℕ) → k < length old.nodes.items
      → slice_index new.nodes.items k ≡ slice_index old.nodes.items k
  pub count : length new.spans.items ≡ n
  pub kept : (d : ℕ) → d < length old.spans.items → span_at new d ≡ span_at old d
  pub each : (d : ℕ) → length old.spans.items ≤ d → d < n
      → IsSpanOf new.nodes.items (span_at new d) (class_in c) 0 (left_of g) d
  pub low : AreLow new g (length old.nodes.items)
  pub moved : (a : ℕ) → a < left_of g → length old.spans.items ≤ class_in c a → class_in c a < n
      → (k : ℕ) × (length old.nodes.items ≤ k) × (k < length new.nodes.items)
      × (slice_index new.nodes.items k ≡ a)

-- what is asked of the nodes from this place on, and of the classes that they were of
pub record AreMovedFrom (t : Ties) (g : Graph) (c : Classes) (from : ℕ) : Type 0 where
  pub long : length t.class_of.items ≡ left_of g
  pub count : length t.spans.items ≡ class_count c
  pub low : AreLow t g from
  pub below : (a : ℕ) → a < left_of g → told_in t a < class_count c

-- a class is entered, and all is kept that was
pub record IsRenewed (old new : Ties) (g : Graph) (c : Classes) (d : ℕ) : Type 0 where
  pub told : new.class_of ≡ old.class_of
  pub nodes : new.nodes ≡ old.nodes
  pub count : length new.spans.items ≡ length old.spans.items
  pub spans : AreSpansOf new g c
  pub ordered : IsHeap tie_order (heap_items new.queue)
  pub kept : (t : Tie) → Contains (ties_in old) t → Contains (ties_in new) t
  pub entered : HasTie (class_in c) (left_of g) (ties_in new) d

-- so are the classes of the nodes between these places, and those that they were of
pub record AreRenewed (old new : Ties) (g : Graph) (c : Classes) (from to : ℕ) : Type 0 where
  pub told : new.class_of ≡ old.class_of
  pub nodes : new.nodes ≡ old.nodes
  pub count : length new.spans.items ≡ length old.spans.items
  pub spans : AreSpansOf new g c
  pub ordered : IsHeap tie_order (heap_items new.queue)
  pub kept : (t : Tie) → Contains (ties_in old) t → Contains (ties_in new) t
  pub former : (k : ℕ) → from ≤ k → k < to → HasTie (class_in c) (left_of g) (ties_in new)
      (told_in old (slice_index old.nodes.items k))
  pub entered : (k : ℕ) → from ≤ k → k < to → HasTie (class_in c) (left_of g) (ties_in new)
      (class_in c (slice_index old.nodes.items k))

-- the nodes between these places have their classes, and no other node another class
pub record AreTaken (old new : Ties) (g : Graph) (c : Classes) (from to : ℕ) : Type 0 where
  pub nodes : new.nodes ≡ old.nodes
  pub spans : new.spans ≡ old.spans
  pub queue : new.queue ≡ old.queue
  pub long : length new.class_of.items ≡ length old.class_of.items
  pub taken : (k : ℕ) → from ≤ k → k < to
      → told_in new (slice_index old.nodes.items k) ≡ class_in c (slice_index old.nodes.items k)
  pub rest : (a : ℕ) → (told_in new a ≡ told_in old a) ⊎ (told_in new a ≡ class_in c a)

-- the entry is that of a tied class
abbrev pub IsRight : Graph → Classes → Tie → Type 0
IsRight g c t = (1 < t.count) × (t.node < left_of g) × (tied_with g c t.node ≡ t.count)
