-- Over all calls, what is read of a net is what it holds.
use Rattle.std.proofs.Common.{◌≡◌, ◌⊎◌, inl, inr, ℕ, zero, suc, Bool, true, false, refl, subst}
use Rattle.flat_laws.proofs.Paths.{same_place}
use Rattle.flat_layout.specs.Layout.{Place, Design, IsPlaced}
use Rattle.flat_layout.specs.Nets.{Item, Own, Child, Global, Tables, IsOf, HoldsAt, ItemHolds, NetHolds}
use Rattle.flat_layout.specs.Regions.{Node, moved}
use Rattle.view_shapes.specs.ReadLaws.{Called, IsShown, NetShows, ReadsAt, NetReads, ReadLaw}

-- what an item at the front of a path holds
below_holds : (d : Design) (t : Tables) (cell net i k b : ℕ) (p : Place) (m n : Node) → IsOf (t.nets cell) net i (Child k b) → IsPlaced d cell k p
    → NetHolds d t p.cell b m → moved p.motion m ≡ n → NetHolds d t cell net n
below_holds d t cell net i k b p m n is_of placed h e = record {
  index = i;
  item = Child k b;
  is_of = is_of;
  holds = record { depth = suc h.holds.depth; holds = (p, placed, h.index, h.item, h.is_of, m, h.holds.holds, e) };
}

shown_holds : (d : Design) (t : Tables) (called : Called) (cell net : ℕ) (n : Node) → NetShows d t called cell net n → NetHolds d t cell net n
shown_holds d t called cell net n s = record { index = s.index; item = s.item; is_of = s.is_of; holds = s.holds }

read_holds : (d : Design) (t : Tables) (called : Called) (h cell net : ℕ) (n : Node) → ReadsAt d t called h cell net n → NetHolds d t cell net n
read_holds d t called zero cell net n r = shown_holds d t called cell net n r
read_holds d t called (suc h) cell net n (inl s) = shown_holds d t called cell net n s
read_holds d t called (suc h) cell net n (inr r) =
    below_holds d t cell net r.0 r.1 r.2 r.3 r.7 n r.4 r.5 (read_holds d t called h r.3.cell r.2 r.7 r.8) r.9

-- what a net of a placed cell holds is read: in the placed cell where a call has a pin on it, else
-- here
below_reads : (d : Design) (t : Tables) (called : Called) (cell net i k b : ℕ) (p : Place) (m n : Node) (h : ℕ) → IsOf (t.nets cell) net i (Child k b) → IsPlaced d cell k p
    → moved p.motion m ≡ n → HoldsAt d t (suc h) cell (Child k b) n → NetReads d t called p.cell b m → (v : Bool) → called p.cell b ≡ v → NetReads d t called cell net n
below_reads d t called cell net i k b p m n h is_of placed e holds r true c = record { depth = suc r.depth; reads = inr (i, k, b, p, is_of, placed, c, m, r.reads, e) }
below_reads d t called cell net i k b p m n h is_of placed e holds r false c = record {
  depth = zero;
  reads = record {
    index = i;
    item = Child k b;
    is_of = is_of;
    shown = λ q there. subst (λ (s : Place). called s.cell b ≡ false) (same_place d cell k p q placed there) c;
    holds = record { depth = suc h; holds = holds };
  };
}

held_reads : (d : Design) (t : Tables) (called : Called) (h cell net i : ℕ) (item : Item) (n : Node) → IsOf (t.nets cell) net i item → HoldsAt d t h cell item n
    → NetReads d t called cell net n
held_reads d t called zero cell net i (Own c r) n is_of holds =
    record { depth = zero; reads = record { index = i; item = Own c r; is_of = is_of; shown = tt; holds = record { depth = zero; holds = holds } } }
held_reads d t called zero cell net i (Child k b) n is_of holds = absurd holds
held_reads d t called zero cell net i (Global g) n is_of holds =
    record { depth = zero; reads = record { index = i; item = Global g; is_of = is_of; shown = tt; holds = record { depth = zero; holds = holds } } }
held_reads d t called (suc h) cell net i (Own c r) n is_of holds = absurd holds
held_reads d t called (suc h) cell net i (Child k b) n is_of holds =
    let p = holds.0 in
    let below = held_reads d t called h p.cell b holds.2 holds.3 holds.5 holds.4 holds.6 in
    below_reads d t called cell net i k b p holds.5 n h is_of holds.1 holds.7 holds below (called p.cell b) refl
held_reads d t called (suc h) cell net i (Global g) n is_of holds = absurd holds

pub whole : ReadLaw
whole d t called cell net n = (
  (λ r. read_holds d t called r.depth cell net n r.reads),
  (λ h. held_reads d t called h.holds.depth cell net h.index h.item n h.is_of h.holds.holds),
)
