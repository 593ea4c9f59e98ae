-- Nodes in classes that stand side by side.
use Rattle.std.specs.Prelude.{◌≡◌, ◌≢◌, ◌⊎◌, ◌↔◌, ◌<◌, ◌≤◌, ◌+◌, ◌^◌, ◌==◌, ℕ, Bool, false, cond}
use Rattle.std.specs.Prelude.{count_by, List, length, slice_index}
use Rattle.match_laws.specs.Circuits.{numbers_from}
use Rattle.match_rounds.specs.Order.{IsPlaced, StandsAt, whole_of, is_among}
use Rattle.match_rounds.specs.Counts.{AreFlagged}
use Rattle.match_rounds.specs.Marks.{AreListed, is_marked}
use Rattle.match_rounds.specs.declared.classes.Classes.{Classes}

-- the class of a node
abbrev pub class_in : Classes → ℕ → ℕ
class_in c a = slice_index c.class_of.items a

-- how many classes there are
abbrev pub class_count : Classes → ℕ
class_count c = length c.counts.size.items

abbrev pub node_count : Classes → ℕ
node_count c = length c.class_of.items

-- each class stands at its places
pub record AreClasses (c : Classes) (n : ℕ) : Type 0 where
  pub placed : IsPlaced c.order n
  pub long : length c.class_of.items ≡ n
  pub small : n < 2 ^ 32
  pub begins : length c.begin.items ≡ class_count c
  pub marks : length c.marks.is_fresh.items ≡ class_count c
  pub below : (a : ℕ) → a < n → class_in c a < class_count c
  pub stands : (d : ℕ) → d < class_count c
      → StandsAt c.class_of.items c.order n d (slice_index c.begin.items d) (slice_index
      c.counts.size.items d)
  pub fits : (d : ℕ) → d < class_count c → slice_index c.begin.items d + slice_index
      c.counts.size.items d ≤ n
  pub some : (d : ℕ) → d < class_count c → 0 < slice_index c.counts.size.items d

-- how many of the first n nodes are of class d
abbrev pub members : List ℕ → ℕ → ℕ → ℕ
members classes d n = count_by (λ a. d == slice_index classes a) (numbers_from 0 n)

-- the counts are right: of n nodes, the first of which are left ones
pub record AreCounted (c : Classes) (left n : ℕ) : Type 0 where
  pub flagged : AreFlagged c.counts
  pub left_is : (d : ℕ) → d < class_count c
      → slice_index c.counts.left.items d ≡ members c.class_of.items d left
  pub size_is : (d : ℕ) → d < class_count c
      → slice_index c.counts.size.items d ≡ members c.class_of.items d n

-- n nodes in classes, none of them empty, with their counts, and the marked classes in a list
pub record IsPartition (c : Classes) (left n : ℕ) : Type 0 where
  pub inside : left ≤ n
  pub classes : AreClasses c n
  pub counted : AreCounted c left n
  pub listed : AreListed c.marks

-- some distinct nodes of one class
pub record AreAlike (classes nodes : List ℕ) (n : ℕ) : Type 0 where
  pub some : 0 < length nodes
  pub below : (i : ℕ) → i < length nodes → slice_index nodes i < n
  pub distinct : (i j : ℕ) → i < length nodes → j < i → slice_index nodes j ≢ slice_index nodes i
  pub alike : (i : ℕ) → i < length nodes → slice_index classes (slice_index nodes i)
      ≡ whole_of classes nodes

-- the nodes are a new class now, or they were no fewer than their class
abbrev pub IsPartedOff : Classes → Classes → List ℕ → ℕ → Type 0
IsPartedOff old new nodes n = ((a : ℕ) → a < n
    → class_in new a ≡ cond {A = ℕ} (is_among nodes (length nodes) a) (class_count old) (class_in
    old a))
    ⊎ ((slice_index old.counts.size.items (whole_of old.class_of.items nodes) ≤ length nodes)
    × (new.class_of.items ≡ old.class_of.items))

-- whether the class of a node is marked
abbrev pub is_fresh : Classes → ℕ → Bool
is_fresh c a = is_marked c.marks (class_in c a)

-- of the parts of a class one at most isn't marked, and none where the whole was
pub record KeepsFresh (old new : Classes) (n : ℕ) : Type 0 where
  pub kept : (a b : ℕ) → a < n → b < n → class_in old a ≡ class_in old b → is_fresh new a ≡ false
      → is_fresh new b ≡ false → class_in new a ≡ class_in new b
  pub older : (a : ℕ) → a < n → is_fresh new a ≡ false → is_fresh old a ≡ false

-- no class went, each node is of the class that it was of or of one that came, and where none came,
-- of the former
pub record IsGrown (old new : Classes) : Type 0 where
  pub count : class_count old ≤ class_count new
  pub long : node_count new ≡ node_count old
  pub kept : (a : ℕ) → a < node_count old
      → (class_in new a ≡ class_in old a) ⊎ (class_count old ≤ class_in new a)
  pub same : class_count new ≡ class_count old → new.class_of.items ≡ old.class_of.items

-- two nodes are of one class now exactly where they were, and both or neither are among the nodes
-- that were parted off
abbrev pub PartedLaw : Type 0
PartedLaw = (old new : Classes) (nodes : List ℕ) (n : ℕ) → AreClasses old n
    → AreAlike old.class_of.items nodes n → IsPartedOff old new nodes n → (a b : ℕ) → a < n → b < n
    → (class_in new a ≡ class_in new b)
    ↔ ((class_in old a ≡ class_in old b) × (is_among nodes (length nodes) a
    ≡ is_among nodes (length nodes) b))
