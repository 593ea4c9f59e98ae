-- What an aligned pair is: comparable, and of the same expansions as before.
use Rattle.std.proofs.Common.{◌≡◌, inl, inr, ℕ, zero, suc, ◌<◌, ◌≤◌, List, length, Some, slice_get, refl, sym, ◌∙◌, ap, subst, arith}
use Rattle.base_laws.proofs.Items.{map_to, map_from, item_at}
use Rattle.std.proofs.lemmas.Option.{slice_get_within}
use Rattle.net_names.specs.Folding.{folded_bytes}
use Rattle.plain_netlist.specs.Lists.{AreApart}
use Rattle.plain_netlist.specs.Netlist.{Circuit, Netlist, IsCircuit}
use Rattle.plain_netlist.specs.Sound.{IsGood}
use Rattle.plain_netlist.proofs.Listing.{apart_at}
use Rattle.plain_netlist.proofs.Members.{position}
use Rattle.align_laws.specs.Aligned.{IsAligned, IsKeptExpansion, HasOnlyKept, aligned_net, aligned_device}
use Rattle.align_laws.specs.Cut.{Alignment, cut}
use Rattle.align_laws.specs.Lists.{FlatCircuit, circuit_or, given_of, plain}
use Rattle.align_laws.specs.Partners.{AreLinesApart, AreNamesApart, IsPartner, AreSides}
use Rattle.align_laws.proofs.Kept.{kept_alike}
use Rattle.align_laws.proofs.Sides.{aligned_sides, ordered}
use Rattle.align_laws.proofs.Soundness.{aligned_sound, aligned_fault}
use Rattle.net_align.specs.Compared.{IsAlignable, AreCalleesFirst, AreAligned, KeepsExpansions, AreComparable}
use Rattle.net_align.specs.Names.{AreOnce, left_names, names_of, right_names}

-- a list that has each place of the other is as long
at_least : (xs ys : List Circuit) → ((k : ℕ) (x : Circuit) → slice_get xs k ≡ Some x → (y : Circuit) × (slice_get ys k ≡ Some y)) → (n : ℕ) → n ≡ length xs → n ≤ length ys
at_least xs ys there zero e = omega arith
at_least xs ys there (suc n) e =
    let x = item_at xs n (omega (arith, e)) in
    let y = there n x.0 x.1 in
    let l = slice_get_within ys n y.0 y.1 in
    omega (arith, l)

same_count : (left right : Netlist) → AreSides left right → length left.circuits ≡ length right.circuits
same_count left right s =
    let a = at_least left.circuits right.circuits s.there (length left.circuits) refl in
    let b = at_least right.circuits left.circuits s.back (length right.circuits) refl in
    omega (arith, a, b)

good_first : (nl : Netlist) → IsAlignable nl → AreCalleesFirst nl → IsGood nl (λ k. k)
good_first nl h first = record {
  within = h.sound.nets;
  called = h.sound.calls;
  lower = first;
  pins = λ c i n (x, is, e). (h.normal c x is).pins i n e;
}

pub comparable : (layout schematic : Netlist) (top : ℕ) (same : List (List ℕ × List ℕ)) (left right : Netlist) → IsAlignable layout → IsAlignable schematic → AreCalleesFirst layout
    → AreAligned layout schematic top same left right → AreComparable left right
comparable layout schematic top same left right h g first a =
    let p = a.are in
    let sides = aligned_sides layout schematic top a.right_top same left right a.left_by a.right_by p in record {
      count = same_count left right sides;
      sides = sides;
      order = (ordered layout schematic top a.right_top same left right a.left_by a.right_by (good_first layout h first) p).lower;
      left_normal = (aligned_sound layout left a.left_by p.left_aligned p.left_only).0;
      right_normal = (aligned_sound schematic right a.right_by p.right_aligned p.right_only).0;
      left_faults = aligned_fault layout left a.left_by p.left_aligned p.left_only h.sound;
      right_faults = aligned_fault schematic right a.right_by p.right_aligned p.right_only g.sound;
    }

pub keeps_expansions : (g o : Netlist) (w : Alignment) → IsAligned g o w → HasOnlyKept o w → KeepsExpansions g o
keeps_expansions g o w a only k low =
    let x = item_at o.circuits k low in
    let f = only.from k x.0 x.1 in
    let c = f.0 in
    let flat = a.by.cut_down.given c f.1 in
    let given = a.by.flattened.back c flat.0 flat.1 in
    let made = cut a.by.flat w c in
    let there = a.by.cut_down.there c f.1 in
    let in_flat : given_of a.by.flat c ≡ plain (a.by.flats c) = ap circuit_or (a.by.flattened.there c given.0 given.1) in
    let name : (plain (a.by.flats c)).name ≡ given.0.name = ap (λ (z : FlatCircuit). z.name) (a.by.flattened.each c given.0 given.1) in
    let alike = kept_alike g o w a c f.1 in record {
      number = c;
      given = given.0;
      made = made;
      is = given.1;
      becomes = subst (λ (n : ℕ). IsCircuit o n made) f.2 there;
      name = sym (ap (λ (z : Circuit). z.name) in_flat ∙ name);
      net = aligned_net g o w a c;
      device = aligned_device g o w a c;
      alike = subst (λ (n : ℕ). IsKeptExpansion g o c n (aligned_net g o w a c) (aligned_device g o w a c)) f.2 alike;
    }

-- folded names stand once where no two circuits have one
pub names_once : (nl : Netlist) → AreNamesApart nl → AreOnce (names_of nl)
names_once nl apart i j name h g =
    let x = map_from (λ (c : Circuit). folded_bytes c.name) nl.circuits i name h in
    let y = map_from (λ (c : Circuit). folded_bytes c.name) nl.circuits j name g in
    apart i j x.0.name (x.0, x.1, refl) (y.0, y.1, y.2 ∙ sym x.2)

pub is_once : (names : List (List ℕ)) → AreApart names → AreOnce names
is_once names apart i j name h g = apart_at name names i j apart h g

-- lines without a name twice on one side are apart
pub lines_apart : (same : List (List ℕ × List ℕ)) → AreApart (left_names same) → AreApart (right_names same) → AreLinesApart same
lines_apart same lefts rights = record {
  left = λ k l i j e.
      let p = position same k i in
      let q = position same l j in
      let n = apart_at (folded_bytes l.0) (left_names same) p.0 q.0 lefts
      (map_to (λ (z : List ℕ × List ℕ). folded_bytes z.0) same p.0 k p.1 ∙ ap Some e) (map_to (λ (z : List ℕ × List ℕ). folded_bytes z.0) same q.0 l q.1) in
      one_line p.0 q.0 k l n p.1 q.1;
  right = λ k l i j e.
      let p = position same k i in
      let q = position same l j in
      let n = apart_at (folded_bytes l.1) (right_names same) p.0 q.0 rights
      (map_to (λ (z : List ℕ × List ℕ). folded_bytes z.1) same p.0 k p.1 ∙ ap Some e) (map_to (λ (z : List ℕ × List ℕ). folded_bytes z.1) same q.0 l q.1) in
      one_line p.0 q.0 k l n p.1 q.1;
}
  where
    one_line : (i j : ℕ) (k l : List ℕ × List ℕ) → i ≡ j → slice_get same i ≡ Some k → slice_get same j ≡ Some l → k ≡ l
    one_line i j k l n h g =
        let s : Some k ≡ Some l = sym h ∙ (ap (λ (m : ℕ). slice_get same m) n ∙ g) in
        let e : k ≡ l = cc in e

-- a partner is a circuit of the schematic
pub partner_there : (layout schematic : Netlist) (top : ℕ) (same : List (List ℕ × List ℕ)) (a b : ℕ) → IsPartner layout schematic top same a b → b < length schematic.circuits
partner_there layout schematic top same a b (inl (is, h)) = slice_get_within schematic.circuits b h.uncalled.there.0 h.uncalled.there.1
partner_there layout schematic top same a b (inr (inl h, none)) = slice_get_within schematic.circuits b h.3.0 h.3.1
partner_there layout schematic top same a b (inr (inr h, none)) = let n = h.2 in slice_get_within schematic.circuits b n.2.0 n.2.1
