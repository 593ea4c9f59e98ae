-- Links that are found apart.
use Rattle.std.proofs.Common.{◌⊎◌, inl, inr, ℕ, ◌+◌, List, [], ◌∷◌, ◌++◌}
use Rattle.flat_layout.specs.Layout.{Design}
use Rattle.flat_layout.specs.Nets.{Tables}
use Rattle.flat_layout.specs.Regions.{Wiring}
use Rattle.link_classes.specs.Classes.{AreInRange}
use Rattle.link_classes.specs.declared.classes.Link.{Link}
use Rattle.net_link_laws.specs.Found.{AreAllFound}
use Rattle.net_link_laws.specs.Places.{owned_before}
use Rattle.net_phase.specs.Linked.{AreSquareLinks}
use Rattle.net_walk.proofs.Pairing.{linked_either, linked_left, linked_right}
use Rattle.net_walk.proofs.Uniting.{united}
use Rattle.net_walk.specs.Beside.{AddsBeside}
use Rattle.net_walk.specs.Globals.{AddsToGlobals, IsAny}
use Rattle.net_walk.specs.Pairs.{AddsChildren, AddsPairs, first_of}
use Rattle.touching_pieces.proofs.Chains.{one_on}

-- what was added to none, behind others
pub beside_on : (d : Design) (w : Wiring) (t : Tables) (cell : ℕ) (old new : List Link) → AddsBeside d w t cell [] new → AddsBeside d w t cell old (old ++ new)
beside_on d w t cell old new h = record {
  kept = linked_left old new;
  each = λ i j m. elim (linked_either old new i j m) [
    | inl a ↦ inl a
    | inr b ↦ elim (h.each i j b) [ inl n ↦ absurd n | inr p ↦ inr p ]
  ];
  found = λ c r k x l. one_on new (old ++ new) (linked_right old new) (owned_before t cell c + r) (first_of d w t cell k + x) (h.found c r k x l);
}

-- with the links to globals they are all
pub all_of : (d : Design) (w : Wiring) (t : Tables) (cell : ℕ) (links all : List Link) → AreSquareLinks d w t cell links → AddsToGlobals d w t cell IsAny links all → AreAllFound d w t cell all
all_of d w t cell links all h globals = united d w t cell h.1.0 h.0 links all h.1.1 h.1.2 h.2 globals

pub children_on : (d : Design) (w : Wiring) (t : Tables) (cell : ℕ) (old new : List Link) → AddsChildren d w t cell [] new → AddsChildren d w t cell old (old ++ new)
children_on d w t cell old new h = record {
  kept = linked_left old new;
  each = λ i j m. elim (linked_either old new i j m) [
    | inl a ↦ inl a
    | inr b ↦ elim (h.each i j b) [ inl n ↦ absurd n | inr p ↦ inr p ]
  ];
  found = λ k l x y not s. one_on new (old ++ new) (linked_right old new) (first_of d w t cell k + x) (first_of d w t cell l + y) (h.found k l x y not s);
}

-- what two parts of some pairs add, together
pub pairs_both : (d : Design) (w : Wiring) (t : Tables) (cell : ℕ) (ps qs ls ms : List Link) → AddsPairs d w t cell ps [] ls → AddsPairs d w t cell qs [] ms → AddsPairs d w t cell (ps ++ qs) [] (ls ++ ms)
pairs_both d w t cell ps qs ls ms h g = record {
  kept = λ i j m. absurd m;
  each = λ i j m. elim (linked_either ls ms i j m) [ inl a ↦ h.each i j a | inr b ↦ g.each i j b ];
  found = λ k l x y m s. elim (linked_either ps qs k l m) [
    | inl a ↦ one_on ls (ls ++ ms) (linked_left ls ms) (first_of d w t cell k + x) (first_of d w t cell l + y) (h.found k l x y a s)
    | inr b ↦ one_on ms (ls ++ ms) (linked_right ls ms) (first_of d w t cell k + x) (first_of d w t cell l + y) (g.found k l x y b s)
  ];
}

-- each part's pairs are in the range of all
pub range_both : (n : ℕ) (ps qs : List Link) → AreInRange n (ps ++ qs) → AreInRange n ps × AreInRange n qs
range_both n [] qs h = (tt, h)
range_both n (p ∷ ps) qs h = let r = range_both n ps qs h.2 in ((h.0, h.1, r.0), r.1)
