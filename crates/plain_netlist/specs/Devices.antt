-- Devices: what one is, its class, its sizes, its terminals; one device over other nets; and when
-- two are the same where their nets are joined.
use Rattle.std.specs.Prelude.{◌≡◌, ◌⊎◌, ℕ, Bool, true, false, List, [], ◌∷◌, map, length}
use Rattle.std.specs.Prelude.{Some, slice_get}
use Rattle.plain_netlist.specs.declared.kinds.DeviceKind.{DeviceKind}
use Rattle.plain_netlist.specs.Kinds.{has_ends, other_count}

-- the two terminals that may change places, where a device has such
pub data Ends (N : Type 0) : Type 0 where
  NoEnds : Ends N
  Both : (a b : N) → Ends N

-- a device over nets of any kind: what it is, its class, its sizes in the kind's order, the two
-- terminals that may change places, and the others in the kind's order
pub record Row (N : Type 0) : Type 0 where
  pub kind : DeviceKind
  pub class : List ℕ
  pub sizes : List ℕ
  pub ends : Ends N
  pub others : List N

-- the nets of its terminals in the order in which a netlist's text first names them: the second
-- end, the first of the others, the first end, the rest; of a transistor drain, gate, source, bulk
abbrev pub nets_of : {N : Type 0} → Ends N → List N → List N
nets_of NoEnds others = others
nets_of (Both a b) [] = b ∷ a ∷ []
nets_of (Both a b) (n ∷ others) = b ∷ n ∷ a ∷ others

abbrev pub terminal_nets : {N : Type 0} → Row N → List N
terminal_nets r = nets_of r.ends r.others

-- ---- terminals

-- one of the two ends, or the other terminal of this place
pub data Terminal : Type 0 where
  First : Terminal
  Second : Terminal
  Other : (place : ℕ) → Terminal

-- these are the ends
abbrev pub HasEnds : {N : Type 0} → N → N → Ends N → Type 0
HasEnds c d NoEnds = ⊥
HasEnds c d (Both a b) = (c ≡ a) × (d ≡ b)

-- the terminal stands on the net
abbrev pub IsAt : {N : Type 0} → Terminal → Row N → N → Type 0
IsAt {N} First r n = (m : N) × HasEnds n m r.ends
IsAt {N} Second r n = (m : N) × HasEnds m n r.ends
IsAt {N} (Other place) r n = slice_get r.others place ≡ Some n

abbrev pub have_ends : {N : Type 0} → Ends N → Bool
have_ends NoEnds = false
have_ends (Both a b) = true

-- it has the terminals and sizes of its kind, no more and no fewer
pub record IsFormed {N : Type 0} (r : Row N) : Type 0 where
  pub ends : have_ends r.ends ≡ has_ends r.kind
  pub others : length r.others ≡ other_count r.kind
  pub sizes : length r.sizes ≡ 2

-- ---- over other nets

abbrev pub ends_over : {N M : Type 0} → (N → M) → Ends N → Ends M
ends_over f NoEnds = NoEnds
ends_over f (Both a b) = Both (f a) (f b)

-- the same device, each net being another's image
abbrev pub row_over : {N M : Type 0} → (N → M) → Row N → Row M
row_over f r = record {
  kind = r.kind;
  class = r.class;
  sizes = r.sizes;
  ends = ends_over f r.ends;
  others = map f r.others;
}

-- ---- where nets are joined

-- one by one
abbrev pub AreJoined : {N M : Type 0} → (N → M → Type 0) → List N → List M → Type 0
AreJoined net [] [] = Unit {0}
AreJoined net (n ∷ ns) (m ∷ ms) = net n m × AreJoined net ns ms
AreJoined net [] (m ∷ ms) = ⊥
AreJoined net (n ∷ ns) [] = ⊥

-- the first to the first, the second to the second
abbrev pub AreEndsJoined : {N M : Type 0} → (N → M → Type 0) → Ends N → Ends M → Type 0
AreEndsJoined net NoEnds NoEnds = Unit {0}
AreEndsJoined net (Both a b) (Both c d) = net a c × net b d
AreEndsJoined net NoEnds (Both c d) = ⊥
AreEndsJoined net (Both a b) NoEnds = ⊥

-- the other way round
abbrev pub exchanged : {N : Type 0} → Ends N → Ends N
exchanged NoEnds = NoEnds
exchanged (Both a b) = Both b a

-- what a device is, its class and sizes are kept; its ends go to the ends, in either order; each
-- other terminal goes to that of its place
pub record AreRowsAlike {N M : Type 0} (net : N → M → Type 0) (a : Row N) (b : Row M) : Type 0 where
  pub kind : a.kind ≡ b.kind
  pub class : a.class ≡ b.class
  pub sizes : a.sizes ≡ b.sizes
  pub ends : AreEndsJoined net a.ends b.ends ⊎ AreEndsJoined net a.ends (exchanged b.ends)
  pub others : AreJoined net a.others b.others

-- and in the same order: the device of the one, over the nets of the other
pub record IsRowOver {N M : Type 0} (net : N → M → Type 0) (a : Row N) (b : Row M) : Type 0 where
  pub kind : a.kind ≡ b.kind
  pub class : a.class ≡ b.class
  pub sizes : a.sizes ≡ b.sizes
  pub ends : AreEndsJoined net a.ends b.ends
  pub others : AreJoined net a.others b.others
