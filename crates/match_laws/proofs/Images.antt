-- A correspondence of circuits is one of their web.
use Rattle.std.proofs.Common.{◌≡◌, ◌⊎◌, inl, inr, ℕ, suc, ◌+◌, ◌<◌, ◌==◌, cond, Bool, true, false, List, [], ◌∷◌, map, length, slice_index, Option, Some, None, slice_get, bytes_eq, refl, sym, subst, ◌∙◌, ap, ap₂, arith, true≢false}
use Rattle.base_laws.proofs.Tests.{same_truth}
use Rattle.base_laws.proofs.Items.{item_at}
use Rattle.std.proofs.lemmas.Bool.{and_from, cases_Bool}
use Rattle.std.specs.List.{count_by, sum_by, flat_map, list_any}
use Rattle.std.specs.Cmp.{bool_eq_equiv}
use Rattle.std.specs.Bool.{Decides, beq}
use Rattle.std.proofs.lemmas.List.Sums.{sum_by-cons, sum_by-append}
use Rattle.std.proofs.lemmas.Bool.Decides.{Decides-eqb}
use Rattle.std.proofs.lemmas.Slice.Eq.{bytes_eq-Decides}
use Rattle.plain_netlist.specs.Lists.{IsListed}
use Rattle.plain_netlist.specs.Kinds.{same_device_kind}
use Rattle.plain_netlist.specs.Devices.{AreJoined, AreEndsJoined, Ends, NoEnds, Both, exchanged, nets_of, terminal_nets}
use Rattle.plain_netlist.proofs.Rows as rows
use Rattle.round_laws.specs.Web.{Port, EitherEnd, Other, Pin, End, IsWeb, IsWebMap}
use Rattle.round_laws.specs.Nodes.{Node, Side, Layout, Schematic, Kind, Net, Device, Call}
use Rattle.plain_netlist.specs.Netlist.{DeviceRow, CallRow}
use Rattle.match_laws.specs.Circuits.{Pair, circuit_of, right_pin, numbers_from, node, end_at, other_ends, terminal_ends, device_ends, call_ends, terminals, terminals_of, owners, nodes, same_side, same_kind, same_node, ends_on, near_at, Own, OfNet, OfDevice, OfCall, OfNone, same_own, own_at, own, web_of, IsOneToOne, Pairing, IsDeviceImage, IsCallImage, IsCorrespondence, IsFitting, image_at, node_image}
use Rattle.round_laws.proofs.Agree.{at_equivalence, first, second, in_left, in_right}
use Rattle.round_laws.proofs.Stable.{in_either, any_found, any_of}
use Rattle.round_laws.proofs.Unique.{node_is}
use Rattle.match_laws.proofs.Sums.{decided_equivalence, sum_same, sum-map, sum-flat, in_numbers, numbers_has, onto_sum, index_below, index_one, listed_index, map_has, in_map}

-- nodes
pub side_decides : (a b : Side) → Decides (same_side a b) (a ≡ b)
side_decides Layout Layout = ((λ _. refl), (λ _. refl))
side_decides Layout Schematic = ((λ h. absurd (true≢false (sym h))), (λ h. absurd cc))
side_decides Schematic Layout = ((λ h. absurd (true≢false (sym h))), (λ h. absurd cc))
side_decides Schematic Schematic = ((λ _. refl), (λ _. refl))

pub kind_decides : (a b : Kind) → Decides (same_kind a b) (a ≡ b)
kind_decides Net Net = ((λ _. refl), (λ _. refl))
kind_decides Net Device = ((λ h. absurd (true≢false (sym h))), (λ h. absurd cc))
kind_decides Net Call = ((λ h. absurd (true≢false (sym h))), (λ h. absurd cc))
kind_decides Device Net = ((λ h. absurd (true≢false (sym h))), (λ h. absurd cc))
kind_decides Device Device = ((λ _. refl), (λ _. refl))
kind_decides Device Call = ((λ h. absurd (true≢false (sym h))), (λ h. absurd cc))
kind_decides Call Net = ((λ h. absurd (true≢false (sym h))), (λ h. absurd cc))
kind_decides Call Device = ((λ h. absurd (true≢false (sym h))), (λ h. absurd cc))
kind_decides Call Call = ((λ _. refl), (λ _. refl))

pub node_decides : (a b : Node) → Decides (same_node a b) (a ≡ b)
node_decides a b = (
  (λ h. node_is a b ((side_decides a.side b.side).0 (first (same_side a.side b.side) _ h))
      ((kind_decides a.kind b.kind).0 (first (same_kind a.kind b.kind) _ (second (same_side a.side b.side) _ h)))
      ((Decides-eqb a.number b.number).0 (second (same_kind a.kind b.kind) _ (second (same_side a.side b.side) _ h)))),
  (λ h. and_from (same_side a.side b.side) _ ((side_decides a.side b.side).1 (ap (λ (x : Node). x.side) h))
      (and_from (same_kind a.kind b.kind) _ ((kind_decides a.kind b.kind).1 (ap (λ (x : Node). x.kind) h))
      ((Decides-eqb a.number b.number).1 (ap (λ (x : Node). x.number) h)))),
)

abbrev pub size : Pair → Side → Kind → ℕ
size p side Net = length (circuit_of p side).nets
size p side Device = length (circuit_of p side).devices
size p side Call = length (circuit_of p side).calls

-- the nodes of a side by kind and number
pub nodes_has : (p : Pair) (side : Side) (kind : Kind) (k : ℕ) → k < size p side kind → IsListed (node side kind k) (nodes p side)
nodes_has p side Net k h = in_left (node side Net k) (map (node side Net) (numbers_from 0 (size p side Net))) (owners p side)
    (map_has (node side Net) k _ (numbers_has k 0 (size p side Net) (omega arith) (omega arith)))
nodes_has p side Device k h = in_right (node side Device k) (map (node side Net) (numbers_from 0 (size p side Net))) (owners p side)
    (in_left (node side Device k) (map (node side Device) (numbers_from 0 (size p side Device))) (map (node side Call) (numbers_from 0 (size p side Call)))
    (map_has (node side Device) k _ (numbers_has k 0 (size p side Device) (omega arith) (omega arith))))
nodes_has p side Call k h = in_right (node side Call k) (map (node side Net) (numbers_from 0 (size p side Net))) (owners p side)
    (in_right (node side Call k) (map (node side Device) (numbers_from 0 (size p side Device))) (map (node side Call) (numbers_from 0 (size p side Call)))
    (map_has (node side Call) k _ (numbers_has k 0 (size p side Call) (omega arith) (omega arith))))

pub record IsThere (p : Pair) (side : Side) (a : Node) : Type 0 where
  pub stands : a.side ≡ side
  pub below : a.number < size p side a.kind

there_by : (p : Pair) (side : Side) (kind : Kind) (a : Node) → IsListed a (map (node side kind) (numbers_from 0 (size p side kind))) → IsThere p side a
there_by p side kind a i =
    let f = in_map (node side kind) a (numbers_from 0 (size p side kind)) i in
    let h = in_numbers f.0 0 (size p side kind) f.1 in
    let high = h.1 in
    let low : f.0 < size p side kind = omega arith in
    let here : IsThere p side (node side kind f.0) = record { stands = refl; below = low } in
    subst (λ (x : Node). IsThere p side x) (sym f.2) here

pub nodes_there : (p : Pair) (side : Side) (a : Node) → IsListed a (nodes p side) → IsThere p side a
nodes_there p side a i =
    elim (in_either a (map (node side Net) (numbers_from 0 (size p side Net))) (owners p side) i) [
      | inl j ↦ there_by p side Net a j
      | inr j ↦ elim (in_either a (map (node side Device) (numbers_from 0 (size p side Device))) (map (node side Call) (numbers_from 0 (size p side Call))) j) [
        | inl l ↦ there_by p side Device a l
        | inr l ↦ there_by p side Call a l
      ]
    ]

-- a fact of each numbered node of a side is one of each listed node
pub each_node : (p : Pair) (side : Side) (P : Node → Type 0) → ((kind : Kind) (k : ℕ) → k < size p side kind → P (node side kind k)) → (a : Node) → IsListed a (nodes p side) → P a
each_node p side P h a i =
    let t = nodes_there p side a i in
    subst (λ (s : Side). P (node s a.kind a.number)) (sym t.stands) (h a.kind a.number t.below)

-- sums over the nodes of a side
pub sum_nodes : (p : Pair) (side : Side) (g : Node → ℕ) → sum_by g (nodes p side)
    ≡ sum_by (λ k. g (node side Net k)) (numbers_from 0 (size p side Net)) + sum_by g (owners p side)
sum_nodes p side g =
    let a = sum_by-append g (map (node side Net) (numbers_from 0 (size p side Net))) (owners p side) in
    let b = sum-map g (node side Net) (numbers_from 0 (size p side Net)) in
    omega arith

pub sum_owners : (p : Pair) (side : Side) (g : Node → ℕ) → sum_by g (owners p side)
    ≡ sum_by (λ k. g (node side Device k)) (numbers_from 0 (size p side Device)) + sum_by (λ k. g (node side Call k)) (numbers_from 0 (size p side Call))
sum_owners p side g =
    let a = sum_by-append g (map (node side Device) (numbers_from 0 (size p side Device))) (map (node side Call) (numbers_from 0 (size p side Call))) in
    let b = sum-map g (node side Device) (numbers_from 0 (size p side Device)) in
    let c = sum-map g (node side Call) (numbers_from 0 (size p side Call)) in
    omega arith

-- the images of a kind's nodes
abbrev list_of : Pairing → Kind → List ℕ
list_of f Net = f.nets
list_of f Device = f.devices
list_of f Call = f.calls

maps : (p : Pair) (f : Pairing) → IsCorrespondence p f → (kind : Kind) → IsOneToOne (list_of f kind) (size p Layout kind) (size p Schematic kind)
maps p f c Net = c.nets
maps p f c Device = c.devices
maps p f c Call = c.calls

image_is : (f : Pairing) (kind : Kind) (k : ℕ) → image_at f kind k ≡ slice_index (list_of f kind) k
image_is f Net k = refl
image_is f Device k = refl
image_is f Call k = refl

image_below : (p : Pair) (f : Pairing) → IsCorrespondence p f → (kind : Kind) (k : ℕ) → k < size p Layout kind → image_at f kind k < size p Schematic kind
image_below p f c kind k h = let b = index_below (list_of f kind) _ _ k (maps p f c kind) h in let e = image_is f kind k in omega arith

image_one : (p : Pair) (f : Pairing) → IsCorrespondence p f → (kind : Kind) (j k : ℕ) → j < size p Layout kind → k < size p Layout kind → image_at f kind j ≡ image_at f kind k → j ≡ k
image_one p f c kind j k a b e = index_one (list_of f kind) _ _ j k (maps p f c kind) a b (sym (image_is f kind j) ∙ (e ∙ image_is f kind k))

pub carried_there : (p : Pair) (f : Pairing) → IsCorrespondence p f → (a : Node) → IsListed a (nodes p Layout) → IsListed (node_image f a) (nodes p Schematic)
carried_there p f c a i = each_node p Layout (λ x. IsListed (node_image f x) (nodes p Schematic))
    (λ kind k h. nodes_has p Schematic kind (image_at f kind k) (image_below p f c kind k h)) a i

carried_one : (p : Pair) (f : Pairing) → IsCorrespondence p f → (a b : Node) → IsListed a (nodes p Layout) → IsListed b (nodes p Layout) → node_image f a ≡ node_image f b → a ≡ b
carried_one p f c a b i j e =
    let s = nodes_there p Layout a i in
    let t = nodes_there p Layout b j in
    let kind : a.kind ≡ b.kind = ap (λ (x : Node). x.kind) e in
    let below : b.number < size p Layout a.kind = subst (λ (k : Kind). b.number < size p Layout k) (sym kind) t.below in
    let number : image_at f a.kind a.number ≡ image_at f a.kind b.number = ap (λ (x : Node). x.number) e ∙ ap (λ (k : Kind). image_at f k b.number) (sym kind) in
    node_is a b (s.stands ∙ sym t.stands) kind (image_one p f c a.kind a.number b.number s.below below number)

onto_kind : (p : Pair) (f : Pairing) → IsCorrespondence p f → (kind : Kind) (g : Node → ℕ)
    → sum_by (λ k. g (node Schematic kind k)) (numbers_from 0 (size p Schematic kind)) ≡ sum_by (λ k. g (node_image f (node Layout kind k))) (numbers_from 0 (size p Layout kind))
onto_kind p f c kind g =
    onto_sum (list_of f kind) _ _ (maps p f c kind) (λ k. g (node Schematic kind k))
    ∙ sum_same _ _ (numbers_from 0 (size p Layout kind)) (λ k i. ap (λ (n : ℕ). g (node Schematic kind n)) (sym (image_is f kind k)))

onto_owners : (p : Pair) (f : Pairing) → IsCorrespondence p f → (g : Node → ℕ) → sum_by g (owners p Schematic) ≡ sum_by (λ a. g (node_image f a)) (owners p Layout)
onto_owners p f c g =
    let a = sum_owners p Schematic g in
    let b = sum_owners p Layout (λ x. g (node_image f x)) in
    let d = onto_kind p f c Device g in
    let e = onto_kind p f c Call g in
    omega arith

onto_nodes : (p : Pair) (f : Pairing) → IsCorrespondence p f → (g : Node → ℕ) → sum_by g (nodes p Schematic) ≡ sum_by (λ a. g (node_image f a)) (nodes p Layout)
onto_nodes p f c g =
    let a = sum_nodes p Schematic g in
    let b = sum_nodes p Layout (λ x. g (node_image f x)) in
    let d = onto_kind p f c Net g in
    let e = onto_owners p f c g in
    omega arith

-- round 0
pub own_decides : (a b : Own) → Decides (same_own a b) (a ≡ b)
own_decides (OfNet a m) (OfNet b n) = (
  (λ h. ap₂ OfNet (bool_is a b (first (beq a b) _ h)) ((bytes_eq-Decides m n).0 (second (beq a b) _ h))),
  (λ h.
      let e : a ≡ b = cc in
      let q : m ≡ n = cc in
      and_from (beq a b) _ (subst (λ (x : Bool). beq a x ≡ true) e (bool_eq_equiv.refl a)) ((bytes_eq-Decides m n).1 q)),
)
  where
    bool_is : (a b : Bool) → beq a b ≡ true → a ≡ b
    bool_is true true h = refl
    bool_is true false h = absurd (true≢false (sym h))
    bool_is false true h = absurd (true≢false (sym h))
    bool_is false false h = refl
own_decides (OfDevice k c s) (OfDevice j d t) = (
  (λ h.
      let o : k ≡ j = (rows.same_kind k j).0 (first (same_device_kind k j) _ h) in
      let p : c ≡ d = (bytes_eq-Decides c d).0 (first (bytes_eq c d) _ (second (same_device_kind k j) _ h)) in
      let q : s ≡ t = (bytes_eq-Decides s t).0 (second (bytes_eq c d) _ (second (same_device_kind k j) _ h)) in
      cc),
  (λ h.
      let o : k ≡ j = cc in
      let p : c ≡ d = cc in
      let q : s ≡ t = cc in
      and_from (same_device_kind k j) _ ((rows.same_kind k j).1 o) (and_from (bytes_eq c d) _ ((bytes_eq-Decides c d).1 p) ((bytes_eq-Decides s t).1 q))),
)
own_decides (OfCall p) (OfCall q) = ((λ h. ap OfCall ((Decides-eqb p q).0 h)), (λ h. let e : p ≡ q = cc in (Decides-eqb p q).1 e))
own_decides OfNone OfNone = ((λ _. refl), (λ _. refl))
own_decides a b = ((λ h. absurd (true≢false (sym h))), (λ h. absurd cc))

device_at : (p : Pair) (f : Pairing) → IsCorrespondence p f → (k : ℕ) → k < size p Layout Device
    → (d : DeviceRow) × (slice_get p.left.devices k ≡ Some d) × (e : DeviceRow) × (slice_get p.right.devices (slice_index f.devices k) ≡ Some e) × IsDeviceImage f.nets d e
device_at p f c k h =
    let d = item_at p.left.devices k h in
    let e = item_at p.right.devices (slice_index f.devices k) (image_below p f c Device k h) in
    (d.0, d.1, e.0, e.1, c.device k d.0 e.0 d.1 e.1)

call_at : (p : Pair) (f : Pairing) → IsCorrespondence p f → (k : ℕ) → k < size p Layout Call
    → (d : CallRow) × (slice_get p.left.calls k ≡ Some d) × (e : CallRow) × (slice_get p.right.calls (slice_index f.calls k) ≡ Some e) × IsCallImage p.children f.nets d e
call_at p f c k h =
    let d = item_at p.left.calls k h in
    let e = item_at p.right.calls (slice_index f.calls k) (image_below p f c Call k h) in
    (d.0, d.1, e.0, e.1, c.call k d.0 e.0 d.1 e.1)

abbrev device_own : Option DeviceRow → Own
device_own o = elim o [ None ↦ OfNone | Some d ↦ OfDevice d.kind d.class d.sizes ]

abbrev call_own : Option CallRow → Own
call_own o = elim o [ None ↦ OfNone | Some c ↦ OfCall c.circuit ]

pub listed_any : (n : ℕ) (xs : List ℕ) → IsListed n xs → list_any (λ x. x == n) xs ≡ true
listed_any n xs i = any_of (λ x. x == n) n xs i ((Decides-eqb n n).1 refl)

pub any_listed : (n : ℕ) (xs : List ℕ) → list_any (λ x. x == n) xs ≡ true → IsListed n xs
any_listed n xs h =
    let f = any_found (λ x. x == n) xs h in
    subst (λ (x : ℕ). IsListed x xs) ((Decides-eqb f.0 n).0 f.2) f.1

own_carried : (p : Pair) (f : Pairing) → IsCorrespondence p f → (kind : Kind) (k : ℕ) → k < size p Layout kind → own_at p Layout kind k ≡ own_at p Schematic kind (image_at f kind k)
own_carried p f c Net k h = ap₂ OfNet (same_truth _ _
    (λ t. listed_any (slice_index f.nets k) p.right.pins ((c.pin k h).0 (any_listed k p.left.pins t)))
    (λ t. listed_any k p.left.pins ((c.pin k h).1 (any_listed (slice_index f.nets k) p.right.pins t)))) (c.named k h)
own_carried p f c Device k h =
    let t = device_at p f c k h in
    let i = t.4 in
    ap device_own t.1 ∙ ((let l = i.kind in let m = i.class in let n = i.sizes in cc) ∙ sym (ap device_own t.3))
own_carried p f c Call k h =
    let t = call_at p f c k h in
    ap call_own t.1 ∙ (ap OfCall t.4.pair ∙ sym (ap call_own t.3))

carried_alike : (p : Pair) (f : Pairing) → IsCorrespondence p f → (a : Node) → IsListed a (nodes p Layout) → same_own (own p a) (own p (node_image f a)) ≡ true
carried_alike p f c a i = each_node p Layout (λ x. same_own (own p x) (own p (node_image f x)) ≡ true)
    (λ kind k h. (own_decides (own_at p Layout kind k) (own_at p Schematic kind (image_at f kind k))).1 (own_carried p f c kind k h)) a i

-- terminals
abbrev pub device_terms : Side → Option DeviceRow → List (End Node)
device_terms side o = elim o [ None ↦ [] | Some d ↦ device_ends side d ]

abbrev pub call_terms : Pair → Side → Option CallRow → List (End Node)
call_terms p side o = elim o [ None ↦ [] | Some c ↦ call_ends p side c ]

abbrev moved : Pairing → End Node → End Node
moved f e = end_at e.port (node_image f e.node)

-- the ends alone
abbrev pub ends_part : Side → Ends ℕ → List (End Node)
ends_part side NoEnds = []
ends_part side (Both a b) = end_at EitherEnd (node side Net a) ∷ end_at EitherEnd (node side Net b) ∷ []

sum_two : {X : Type 0} (g : X → ℕ) (a b : X) (xs : List X) → sum_by g (a ∷ b ∷ xs) ≡ g a + (g b + sum_by g xs)
sum_two g a b xs =
    let p = sum_by-cons g a (b ∷ xs) in
    let q = sum_by-cons g b xs in
    omega arith

-- a sum over the terminals is one over the ends and the others
pub parted_sum : (g : End Node → ℕ) (side : Side) (e : Ends ℕ) (ns : List ℕ) → sum_by g (terminal_ends side e ns) ≡ sum_by g (ends_part side e) + sum_by g (other_ends side 0 ns)
parted_sum g side NoEnds ns = let z : sum_by g [] ≡ 0 = refl in omega arith
parted_sum g side (Both a b) [] =
    let p = sum_two g (end_at EitherEnd (node side Net a)) (end_at EitherEnd (node side Net b)) [] in
    let q = sum_two g (end_at EitherEnd (node side Net b)) (end_at EitherEnd (node side Net a)) [] in
    let z : sum_by g [] ≡ 0 = refl in
    omega arith
parted_sum g side (Both a b) (n ∷ ns) =
    let p = sum_two g (end_at EitherEnd (node side Net a)) (end_at EitherEnd (node side Net b)) [] in
    let q = sum_two g (end_at EitherEnd (node side Net b)) (end_at (Other 0) (node side Net n)) (end_at EitherEnd (node side Net a) ∷ other_ends side 1 ns) in
    let r = sum_by-cons g (end_at EitherEnd (node side Net a)) (other_ends side 1 ns) in
    let s = sum_by-cons g (end_at (Other 0) (node side Net n)) (other_ends side 1 ns) in
    let z : sum_by g [] ≡ 0 = refl in
    omega arith

exchanged_sum : (g : End Node → ℕ) (side : Side) (e : Ends ℕ) → sum_by g (ends_part side (exchanged e)) ≡ sum_by g (ends_part side e)
exchanged_sum g side NoEnds = refl
exchanged_sum g side (Both a b) =
    let p = sum_two g (end_at EitherEnd (node side Net a)) (end_at EitherEnd (node side Net b)) [] in
    let q = sum_two g (end_at EitherEnd (node side Net b)) (end_at EitherEnd (node side Net a)) [] in
    omega arith

module _ (f : Pairing) (g : End Node → ℕ) where
  -- the net of the right device is the image of the left one's
  at_image : (port : Port) (n m : ℕ) → slice_index f.nets n ≡ m → g (end_at port (node Schematic Net m)) ≡ g (moved f (end_at port (node Layout Net n)))
  at_image port n m e = ap (λ (k : ℕ). g (end_at port (node Schematic Net k))) (sym e)

  others_sum : (i : ℕ) (ns ms : List ℕ) → AreJoined (λ n m. slice_index f.nets n ≡ m) ns ms → sum_by g (other_ends Schematic i ms) ≡ sum_by (λ x. g (moved f x)) (other_ends Layout i ns)
  others_sum i [] [] h = refl
  others_sum i (n ∷ ns) (m ∷ ms) h =
      let a = sum_by-cons g (end_at (Other i) (node Schematic Net m)) (other_ends Schematic (suc i) ms) in
      let b = sum_by-cons (λ x. g (moved f x)) (end_at (Other i) (node Layout Net n)) (other_ends Layout (suc i) ns) in
      let e = at_image (Other i) n m h.0 in
      let rest = others_sum (suc i) ns ms h.1 in
      cc
  others_sum i [] (m ∷ ms) h = absurd h
  others_sum i (n ∷ ns) [] h = absurd h

  ends_sum : (d e : Ends ℕ) → AreEndsJoined (λ n m. slice_index f.nets n ≡ m) d e → sum_by g (ends_part Schematic e) ≡ sum_by (λ x. g (moved f x)) (ends_part Layout d)
  ends_sum NoEnds NoEnds h = refl
  ends_sum (Both a b) (Both c d) h =
      let p = sum_two g (end_at EitherEnd (node Schematic Net c)) (end_at EitherEnd (node Schematic Net d)) [] in
      let q = sum_two (λ x. g (moved f x)) (end_at EitherEnd (node Layout Net a)) (end_at EitherEnd (node Layout Net b)) [] in
      let s = at_image EitherEnd a c h.0 in
      let t = at_image EitherEnd b d h.1 in
      cc
  ends_sum NoEnds (Both c d) h = absurd h
  ends_sum (Both a b) NoEnds h = absurd h

device_sums : (f : Pairing) (d e : DeviceRow) (g : End Node → ℕ) → IsDeviceImage f.nets d e
    → sum_by g (device_ends Schematic e) ≡ sum_by (λ x. g (moved f x)) (device_ends Layout d)
device_sums f d e g i =
    let a = parted_sum g Schematic e.ends e.others in
    let b = parted_sum (λ x. g (moved f x)) Layout d.ends d.others in
    let others = others_sum f g 0 d.others e.others i.others in
    elim i.ends [
      | inl h ↦ let ends = ends_sum f g d.ends e.ends h in omega arith
      | inr h ↦ let ends = ends_sum f g d.ends (exchanged e.ends) h in let turned = exchanged_sum g Schematic e.ends in omega arith
    ]

call_sums : (p : Pair) (f : Pairing) (c e : CallRow) (g : End Node → ℕ) → (i : IsCallImage p.children f.nets c e) → IsOneToOne i.pins (length c.nets) (length c.nets)
    → sum_by g (call_ends p Schematic e) ≡ sum_by (λ x. g (moved f x)) (call_ends p Layout c)
call_sums p f c e g i one =
    sum-map g (λ j. end_at (Pin e.circuit j) (node Schematic Net (slice_index e.nets j))) (numbers_from 0 (length e.nets))
    ∙ (ap (λ (n : ℕ). sum_by (λ j. g (end_at (Pin e.circuit j) (node Schematic Net (slice_index e.nets j)))) (numbers_from 0 n)) (sym i.count)
    ∙ (onto_sum i.pins (length c.nets) (length c.nets) one (λ j. g (end_at (Pin e.circuit j) (node Schematic Net (slice_index e.nets j))))
    ∙ (sum_same _ _ (numbers_from 0 (length c.nets)) (λ j l. ap g (end_same p f c e i j (let b = in_numbers j 0 (length c.nets) l in let t = b.1 in omega arith)))
    ∙ sym (sum-map (λ x. g (moved f x)) (λ j. end_at (Pin c.circuit (right_pin p Layout c.circuit j)) (node Layout Net (slice_index c.nets j))) (numbers_from 0 (length c.nets))))))
  where
    end_same : (p : Pair) (f : Pairing) (c e : CallRow) (i : IsCallImage p.children f.nets c e) (j : ℕ) → j < length c.nets
        → end_at (Pin e.circuit (slice_index i.pins j)) (node Schematic Net (slice_index e.nets (slice_index i.pins j)))
        ≡ end_at (Pin c.circuit (right_pin p Layout c.circuit j)) (node Schematic Net (slice_index f.nets (slice_index c.nets j)))
    end_same p f c e i j h =
        let at_place : slice_index i.pins j ≡ right_pin p Layout c.circuit j = sym (ap (λ (o : Option (List ℕ)). elim o [ None ↦ j | Some pins ↦ slice_index pins j ]) i.matched) in
        ap₂ (λ (port : Port) (n : ℕ). end_at port (node Schematic Net n)) (ap₂ Pin (sym i.pair) at_place) (sym (i.at j h))

terminals_carried : (p : Pair) (f : Pairing) → IsFitting p Layout → IsCorrespondence p f → (kind : Kind) (k : ℕ) → k < size p Layout kind → (g : End Node → ℕ)
    → sum_by g (terminals p Schematic kind (image_at f kind k)) ≡ sum_by (λ x. g (moved f x)) (terminals p Layout kind k)
terminals_carried p f fit c Net k h g = refl
terminals_carried p f fit c Device k h g =
    let t = device_at p f c k h in
    ap (λ (o : Option DeviceRow). sum_by g (device_terms Schematic o)) t.3
    ∙ (device_sums f t.0 t.2 g t.4 ∙ sym (ap (λ (o : Option DeviceRow). sum_by (λ x. g (moved f x)) (device_terms Layout o)) t.1))
terminals_carried p f fit c Call k h g =
    let t = call_at p f c k h in
    ap (λ (o : Option CallRow). sum_by g (call_terms p Schematic o)) t.3
    ∙ (call_sums p f t.0 t.2 g t.4 (fit.pins k t.0 t.1 t.4.pins t.4.matched) ∙ sym (ap (λ (o : Option CallRow). sum_by (λ x. g (moved f x)) (call_terms p Layout o)) t.1))

-- the nodes at the terminals
pub seen : {X : Type 0} (o : Option X) → (o ≡ None) ⊎ ((x : X) × (o ≡ Some x))
seen None = inl refl
seen (Some x) = inr (x, refl)

-- a terminal's end is at the net of its number, which is a terminal's
pub record IsAtNet (side : Side) (e : End Node) (ns : List ℕ) : Type 0 where
  pub net : e.node ≡ node side Net e.node.number
  pub listed : IsListed e.node.number ns

at_net_of : (side : Side) (port : Port) (n : ℕ) (e : End Node) (ns : List ℕ) → e ≡ end_at port (node side Net n) → IsListed n ns → IsAtNet side e ns
at_net_of side port n e ns h i = subst (λ (x : End Node). IsAtNet side x ns) (sym h) (record { net = refl; listed = i })

at_net_more : (side : Side) (e : End Node) (ns ms : List ℕ) → ((n : ℕ) → IsListed n ns → IsListed n ms) → IsAtNet side e ns → IsAtNet side e ms
at_net_more side e ns ms on a = record { net = a.net; listed = on e.node.number a.listed }

pub in_others : (side : Side) (i : ℕ) (ns : List ℕ) (e : End Node) → IsListed e (other_ends side i ns) → IsAtNet side e ns
in_others side i [] e h = absurd h
in_others side i (n ∷ ns) e (inl h) = at_net_of side (Other i) n e (n ∷ ns) h (inl refl)
in_others side i (n ∷ ns) e (inr h) = at_net_more side e ns (n ∷ ns) (λ m l. inr l) (in_others side (suc i) ns e h)

in_terminals : (side : Side) (d : Ends ℕ) (ns : List ℕ) (e : End Node) → IsListed e (terminal_ends side d ns) → IsAtNet side e (nets_of d ns)
in_terminals side NoEnds ns e h = in_others side 0 ns e h
in_terminals side (Both a b) [] e (inl h) = at_net_of side EitherEnd b e (b ∷ a ∷ []) h (inl refl)
in_terminals side (Both a b) [] e (inr (inl h)) = at_net_of side EitherEnd a e (b ∷ a ∷ []) h (inr (inl refl))
in_terminals side (Both a b) [] e (inr (inr h)) = absurd h
in_terminals side (Both a b) (n ∷ ns) e (inl h) = at_net_of side EitherEnd b e (b ∷ n ∷ a ∷ ns) h (inl refl)
in_terminals side (Both a b) (n ∷ ns) e (inr (inl h)) = at_net_of side (Other 0) n e (b ∷ n ∷ a ∷ ns) h (inr (inl refl))
in_terminals side (Both a b) (n ∷ ns) e (inr (inr (inl h))) = at_net_of side EitherEnd a e (b ∷ n ∷ a ∷ ns) h (inr (inr (inl refl)))
in_terminals side (Both a b) (n ∷ ns) e (inr (inr (inr h))) = at_net_more side e ns (b ∷ n ∷ a ∷ ns) (λ m l. inr (inr (inr l))) (in_others side 1 ns e h)

pub device_net : (side : Side) (d : DeviceRow) (e : End Node) → IsListed e (device_ends side d) → IsAtNet side e (terminal_nets d)
device_net side d e i = in_terminals side d.ends d.others e i

-- each terminal's net has an end
others_has : (side : Side) (i : ℕ) (ns : List ℕ) (n : ℕ) → IsListed n ns → (port : Port) × IsListed (end_at port (node side Net n)) (other_ends side i ns)
others_has side i [] n h = absurd h
others_has side i (m ∷ ns) n (inl h) = (Other i, inl (ap (λ (k : ℕ). end_at (Other i) (node side Net k)) h))
others_has side i (m ∷ ns) n (inr h) = let r = others_has side (suc i) ns n h in (r.0, inr r.1)

terminals_has : (side : Side) (d : Ends ℕ) (ns : List ℕ) (n : ℕ) → IsListed n (nets_of d ns) → (port : Port) × IsListed (end_at port (node side Net n)) (terminal_ends side d ns)
terminals_has side NoEnds ns n h = others_has side 0 ns n h
terminals_has side (Both a b) [] n (inl h) = (EitherEnd, inl (ap (λ (k : ℕ). end_at EitherEnd (node side Net k)) h))
terminals_has side (Both a b) [] n (inr (inl h)) = (EitherEnd, inr (inl (ap (λ (k : ℕ). end_at EitherEnd (node side Net k)) h)))
terminals_has side (Both a b) [] n (inr (inr h)) = absurd h
terminals_has side (Both a b) (m ∷ ns) n (inl h) = (EitherEnd, inl (ap (λ (k : ℕ). end_at EitherEnd (node side Net k)) h))
terminals_has side (Both a b) (m ∷ ns) n (inr (inl h)) = (Other 0, inr (inl (ap (λ (k : ℕ). end_at (Other 0) (node side Net k)) h)))
terminals_has side (Both a b) (m ∷ ns) n (inr (inr (inl h))) = (EitherEnd, inr (inr (inl (ap (λ (k : ℕ). end_at EitherEnd (node side Net k)) h))))
terminals_has side (Both a b) (m ∷ ns) n (inr (inr (inr h))) = let r = others_has side 1 ns n h in (r.0, inr (inr (inr r.1)))

pub net_has_end : (side : Side) (d : DeviceRow) (n : ℕ) → IsListed n (terminal_nets d) → (port : Port) × IsListed (end_at port (node side Net n)) (device_ends side d)
net_has_end side d n h = terminals_has side d.ends d.others n h

pub terminals_listed : (p : Pair) (side : Side) → IsFitting p side → (kind : Kind) (k : ℕ) (e : End Node) → IsListed e (terminals p side kind k) → IsListed e.node (nodes p side)
terminals_listed p side fit Net k e i = absurd i
terminals_listed p side fit Device k e i = elim (seen (slice_get (circuit_of p side).devices k)) [
  | inl none ↦ absurd (subst (λ (o : Option DeviceRow). IsListed e (device_terms side o)) none i)
  | inr some ↦
      let j : IsListed e (device_ends side some.0) = subst (λ (o : Option DeviceRow). IsListed e (device_terms side o)) some.1 i in
      subst (λ (n : Node). IsListed n (nodes p side)) (sym (device_net side some.0 e j).net) (nodes_has p side Net e.node.number (fit.devices k some.0 some.1 e j))
]
terminals_listed p side fit Call k e i = elim (seen (slice_get (circuit_of p side).calls k)) [
  | inl none ↦ absurd (subst (λ (o : Option CallRow). IsListed e (call_terms p side o)) none i)
  | inr some ↦
      let j : IsListed e (call_ends p side some.0) = subst (λ (o : Option CallRow). IsListed e (call_terms p side o)) some.1 i in
      let m = in_map (λ x. end_at (Pin some.0.circuit (right_pin p side some.0.circuit x)) (node side Net (slice_index some.0.nets x))) e (numbers_from 0 (length some.0.nets)) j in
      let b = in_numbers m.0 0 (length some.0.nets) m.1 in
      let high = b.1 in
      subst (λ (x : End Node). IsListed x.node (nodes p side)) (sym m.2)
      (nodes_has p side Net (slice_index some.0.nets m.0) (fit.calls k some.0 some.1 (slice_index some.0.nets m.0) (listed_index some.0.nets m.0 (omega arith))))
]

pub in_flat : {X Y : Type 0} (h : X → List Y) (y : Y) (xs : List X) → IsListed y (flat_map h xs) → (x : X) × IsListed x xs × IsListed y (h x)
in_flat h y [] i = absurd i
in_flat h y (x ∷ xs) i = elim (in_either y (h x) (flat_map h xs) i) [
  | inl j ↦ (x, inl refl, j)
  | inr j ↦ let f = in_flat h y xs j in (f.0, inr f.1, f.2)
]

pub in_turned : (net owner : Node) (es : List (End Node)) (e : End Node) → IsListed e (ends_on net owner es) → e.node ≡ owner
in_turned net owner [] e i = absurd i
in_turned net owner (x ∷ xs) e i = elim (cases_Bool (same_node x.node net)) [
  | inl r ↦ elim (subst (λ (b : Bool). IsListed e (cond b (end_at x.port owner ∷ ends_on net owner xs) (ends_on net owner xs))) r i) [
    | inl h ↦ ap (λ (y : End Node). y.node) h
    | inr j ↦ in_turned net owner xs e j
  ]
  | inr r ↦ in_turned net owner xs e (subst (λ (b : Bool). IsListed e (cond b (end_at x.port owner ∷ ends_on net owner xs) (ends_on net owner xs))) r i)
]

pub near_listed : (p : Pair) (side : Side) → IsFitting p side → (kind : Kind) (k : ℕ) (e : End Node) → IsListed e (near_at p side kind k) → IsListed e.node (nodes p side)
near_listed p side fit Net k e i =
    let f = in_flat (λ o. ends_on (node side Net k) o (terminals_of p o)) e (owners p side) i in
    subst (λ (n : Node). IsListed n (nodes p side)) (sym (in_turned (node side Net k) f.0 (terminals_of p f.0) e f.2))
    (in_right f.0 (map (node side Net) (numbers_from 0 (size p side Net))) (owners p side) f.1)
near_listed p side fit Device k e i = terminals_listed p side fit Device k e i
near_listed p side fit Call k e i = terminals_listed p side fit Call k e i

pub web_good : (p : Pair) → IsFitting p Layout → IsFitting p Schematic → IsWeb (web_of p)
web_good p l r = record {
  is = node_decides;
  alike = at_equivalence same_own (own p) (decided_equivalence same_own own_decides);
  left_near = λ a i. each_node p Layout (λ x. (e : End Node) → IsListed e (near_at p x.side x.kind x.number) → IsListed e.node (nodes p Layout)) (λ kind k h e j. near_listed p Layout l kind k e j) a i;
  right_near = λ a i. each_node p Schematic (λ x. (e : End Node) → IsListed e (near_at p x.side x.kind x.number) → IsListed e.node (nodes p Schematic)) (λ kind k h e j. near_listed p Schematic r kind k e j) a i;
  apart = λ a i j. let s = nodes_there p Layout a i in let t = nodes_there p Schematic a j in let e : Layout ≡ Schematic = sym s.stands ∙ t.stands in cc;
}

-- nets
pub sum-turned : (g : End Node → ℕ) (net owner : Node) (es : List (End Node)) → sum_by g (ends_on net owner es) ≡ sum_by (λ e. cond (same_node e.node net) (g (end_at e.port owner)) 0) es
sum-turned g net owner [] = refl
sum-turned g net owner (e ∷ es) =
    let b = sum_by-cons (λ x. cond {A = ℕ} (same_node x.node net) (g (end_at x.port owner)) 0) e es in
    let rest = sum-turned g net owner es in
    elim (cases_Bool (same_node e.node net)) [
      | inl r ↦
          let h : sum_by g (ends_on net owner (e ∷ es)) ≡ sum_by g (end_at e.port owner ∷ ends_on net owner es)
          = ap (λ (t : Bool). sum_by g (cond t (end_at e.port owner ∷ ends_on net owner es) (ends_on net owner es))) r in
          let a = sum_by-cons g (end_at e.port owner) (ends_on net owner es) in
          let one : ◌≡◌ {A = ℕ} (cond (same_node e.node net) (g (end_at e.port owner)) 0) (g (end_at e.port owner)) = ap (λ (t : Bool). cond {A = ℕ} t (g (end_at e.port owner)) 0) r in
          omega arith
      | inr r ↦
          let h : sum_by g (ends_on net owner (e ∷ es)) ≡ sum_by g (ends_on net owner es)
          = ap (λ (t : Bool). sum_by g (cond t (end_at e.port owner ∷ ends_on net owner es) (ends_on net owner es))) r in
          let none : ◌≡◌ {A = ℕ} (cond (same_node e.node net) (g (end_at e.port owner)) 0) 0 = ap (λ (t : Bool). cond {A = ℕ} t (g (end_at e.port owner)) 0) r in
          omega arith
    ]

same_carried : (p : Pair) (f : Pairing) → IsCorrespondence p f → (a b : Node) → IsListed a (nodes p Layout) → IsListed b (nodes p Layout) → same_node (node_image f a) (node_image f b) ≡ same_node a b
same_carried p f c a b i j = same_truth _ _
    (λ h. (node_decides a b).1 (carried_one p f c a b i j ((node_decides (node_image f a) (node_image f b)).0 h)))
    (λ h. (node_decides (node_image f a) (node_image f b)).1 (ap (node_image f) ((node_decides a b).0 h)))

turned_carried : (p : Pair) (f : Pairing) → IsFitting p Layout → IsCorrespondence p f → (k : ℕ) → k < size p Layout Net → (g : End Node → ℕ) (kind : Kind) (j : ℕ) → j < size p Layout kind
    → sum_by g (ends_on (node_image f (node Layout Net k)) (node_image f (node Layout kind j)) (terminals_of p (node_image f (node Layout kind j))))
    ≡ sum_by (λ e. g (moved f e)) (ends_on (node Layout Net k) (node Layout kind j) (terminals_of p (node Layout kind j)))
turned_carried p f fit c k low g kind j h =
    sum-turned g (node_image f (node Layout Net k)) (node_image f (node Layout kind j)) (terminals p Schematic kind (image_at f kind j))
    ∙ (terminals_carried p f fit c kind j h (λ e. cond (same_node e.node (node_image f (node Layout Net k))) (g (end_at e.port (node_image f (node Layout kind j)))) 0)
    ∙ (sum_same _ _ (terminals p Layout kind j) (λ e i. ap (λ (t : Bool). cond {A = ℕ} t (g (end_at e.port (node_image f (node Layout kind j)))) 0)
    (same_carried p f c e.node (node Layout Net k) (terminals_listed p Layout fit kind j e i) (nodes_has p Layout Net k low)))
    ∙ sym (sum-turned (λ e. g (moved f e)) (node Layout Net k) (node Layout kind j) (terminals p Layout kind j))))

near_carried : (p : Pair) (f : Pairing) → IsFitting p Layout → IsCorrespondence p f → (kind : Kind) (k : ℕ) → k < size p Layout kind → (g : End Node → ℕ)
    → sum_by g (near_at p Schematic kind (image_at f kind k)) ≡ sum_by (λ x. g (moved f x)) (near_at p Layout kind k)
near_carried p f fit c Net k h g =
    sum-flat g (λ o. ends_on (node_image f (node Layout Net k)) o (terminals_of p o)) (owners p Schematic)
    ∙ (onto_owners p f c (λ o. sum_by g (ends_on (node_image f (node Layout Net k)) o (terminals_of p o)))
    ∙ (sum_same _ _ (owners p Layout) (λ o i. each_node p Layout
    (λ x. sum_by g (ends_on (node_image f (node Layout Net k)) (node_image f x) (terminals_of p (node_image f x))) ≡ sum_by (λ e. g (moved f e)) (ends_on (node Layout Net k) x (terminals_of p x)))
    (λ kind j l. turned_carried p f fit c k h g kind j l) o (in_right o (map (node Layout Net) (numbers_from 0 (size p Layout Net))) (owners p Layout) i))
    ∙ sym (sum-flat (λ e. g (moved f e)) (λ o. ends_on (node Layout Net k) o (terminals_of p o)) (owners p Layout))))
near_carried p f fit c Device k h g = terminals_carried p f fit c Device k h g
near_carried p f fit c Call k h g = terminals_carried p f fit c Call k h g

pub carries : (p : Pair) (f : Pairing) → IsFitting p Layout → IsFitting p Schematic → IsCorrespondence p f → IsWebMap (web_of p) (node_image f)
carries p f l r c = record {
  there = λ a i. carried_there p f c a i;
  one = λ a b i j e. carried_one p f c a b i j e;
  onto = λ q. onto_nodes p f c (λ n. cond (q n) 1 0);
  alike = λ a i. carried_alike p f c a i;
  near = λ a i q. each_node p Layout
      (λ x. count_by q (near_at p Schematic x.kind (image_at f x.kind x.number)) ≡ count_by (λ e. q (moved f e)) (near_at p x.side x.kind x.number))
      (λ kind k h. near_carried p f l c kind k h (λ e. cond (q e) 1 0)) a i;
}
