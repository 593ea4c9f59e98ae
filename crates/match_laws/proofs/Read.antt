-- A correspondence of the web of two circuits is one of the circuits.
use Rattle.std.proofs.Common.{◌≡◌, ◌⊎◌, inl, inr, ℕ, zero, suc, ◌+◌, ◌<◌, ◌≤◌, ◌==◌, ◌&&◌, cond, Bool, true, false, List, [], ◌∷◌, map, length, slice_index, Option, Some, None, slice_get, refl, sym, subst, ◌∙◌, ap, ap₂, arith}
use Rattle.base_laws.proofs.Tests.{same_truth}
use Rattle.base_laws.proofs.Items.{item_at}
use Rattle.std.proofs.lemmas.Bool.{and_from, cases_Bool}
use Rattle.std.specs.List.{count_by, list_any}
use Rattle.std.proofs.Math.Decide.{ℕ_discrete}
use Rattle.std.proofs.lemmas.Option.{same_Some, slice_get_within}
use Rattle.std.proofs.lemmas.Bool.Decides.{Decides-eqb}
use Rattle.plain_netlist.specs.Lists.{IsListed}
use Rattle.plain_netlist.specs.Devices.{Ends, NoEnds, Both, exchanged, AreEndsJoined, AreJoined}
use Rattle.plain_netlist.proofs.Rows.{rows_where}
use Rattle.round_laws.specs.Web.{Port, EitherEnd, Other, Pin, same_port, End, IsWebMap}
use Rattle.round_laws.specs.Nodes.{Node, Side, Layout, Schematic, Kind, Net, Device, Call}
use Rattle.plain_netlist.specs.Netlist.{DeviceRow, CallRow}
use Rattle.match_laws.specs.Circuits.{Pair, circuit_of, right_pin, numbers_from, node, end_at, other_ends, device_ends, call_ends, nodes, same_node, near_at, Own, OfNet, OfDevice, OfCall, OfNone, own_at, own, web_of, IsOneToOne, IsDeviceImage, IsCallImage, IsCorrespondence, IsFitting, numbers_of, pairing_of, AreMatched, pin_name}
use Rattle.round_laws.proofs.Agree.{count-cons, first, second, count_same, port_same}
use Rattle.round_laws.proofs.Stable.{any_found, any_of}
use Rattle.round_laws.proofs.Solved.{count-has, cut, here_mid}
use Rattle.match_laws.proofs.Sums.{sum-map, in_numbers, numbers_has, number_once, map_has, in_map, listed_index}
use Rattle.match_laws.proofs.Images.{size, nodes_has, nodes_there, own_decides, node_decides, ends_part, parted_sum, net_has_end, device_terms, call_terms}

-- kinds
abbrev kind_of : Own → Option Kind
kind_of (OfNet b n) = Some Net
kind_of (OfDevice k c s) = Some Device
kind_of (OfCall p) = Some Call
kind_of OfNone = None

abbrev device_own : Option DeviceRow → Own
device_own o = elim o [ None ↦ OfNone | Some d ↦ OfDevice d.kind d.class d.sizes ]

abbrev call_own : Option CallRow → Own
call_own o = elim o [ None ↦ OfNone | Some c ↦ OfCall c.circuit ]

own_kind : (p : Pair) (side : Side) (kind : Kind) (k : ℕ) → k < size p side kind → kind_of (own_at p side kind k) ≡ Some kind
own_kind p side Net k h = refl
own_kind p side Device k h = let d = item_at (circuit_of p side).devices k h in ap (λ (o : Option DeviceRow). kind_of (device_own o)) d.1
own_kind p side Call k h = let c = item_at (circuit_of p side).calls k h in ap (λ (o : Option CallRow). kind_of (call_own o)) c.1

record HasImage (p : Pair) (f : Node → Node) (kind : Kind) (k : ℕ) : Type 0 where
  is : f (node Layout kind k) ≡ node Schematic kind (f (node Layout kind k)).number
  below : (f (node Layout kind k)).number < size p Schematic kind
  own : own_at p Layout kind k ≡ own_at p Schematic kind (f (node Layout kind k)).number

image : (p : Pair) (f : Node → Node) → IsWebMap (web_of p) f → (kind : Kind) (k : ℕ) → k < size p Layout kind → HasImage p f kind k
image p f c kind k h =
    let i = nodes_has p Layout kind k h in
    let t = nodes_there p Schematic (f (node Layout kind k)) (c.there (node Layout kind k) i) in
    let same : own p (node Layout kind k) ≡ own p (f (node Layout kind k)) = (own_decides _ _).0 (c.alike (node Layout kind k) i) in
    let o = own_kind p Schematic (f (node Layout kind k)).kind (f (node Layout kind k)).number t.below in
    let s : own p (f (node Layout kind k)) ≡ own_at p Schematic (f (node Layout kind k)).kind (f (node Layout kind k)).number
    = ap (λ (x : Side). own_at p x (f (node Layout kind k)).kind (f (node Layout kind k)).number) t.stands in
    let some : Some kind ≡ Some (f (node Layout kind k)).kind = sym (own_kind p Layout kind k h) ∙ (ap kind_of (same ∙ s) ∙ o) in
    let e : (f (node Layout kind k)).kind ≡ kind = sym (same_Some _ _ some) in
    record {
      is = ap₂ (λ (x : Side) (y : Kind). node x y (f (node Layout kind k)).number) t.stands e;
      below = subst (λ (y : Kind). (f (node Layout kind k)).number < size p Schematic y) e t.below;
      own = same ∙ (s ∙ ap (λ (y : Kind). own_at p Schematic y (f (node Layout kind k)).number) e);
    }

-- the lists
index_map : (h : ℕ → ℕ) (a m k : ℕ) → k < m → slice_index (map h (numbers_from a m)) k ≡ h (a + k)
index_map h a zero k l = absurd (omega arith)
index_map h a (suc m) zero l = let e : a ≡ a + 0 = omega arith in ap h e
index_map h a (suc m) (suc k) l = let e : suc a + k ≡ a + suc k = omega arith in index_map h (suc a) m k (omega arith) ∙ ap h e

index_image : (f : Node → Node) (kind : Kind) (m k : ℕ) → k < m → slice_index (numbers_of f kind m) k ≡ (f (node Layout kind k)).number
index_image f kind m k l =
    let e : 0 + k ≡ k = omega arith in
    index_map (λ x. (f (node Layout kind x)).number) 0 m k l ∙ ap (λ (x : ℕ). (f (node Layout kind x)).number) e

length-images : (h : ℕ → ℕ) (a m : ℕ) → length (map h (numbers_from a m)) ≡ m
length-images h a zero = refl
length-images h a (suc m) = let rest = length-images h (suc a) m in omega arith

-- each schematic node is the image of one of its kind
came_from : (p : Pair) (f : Node → Node) → IsWebMap (web_of p) f → (kind : Kind) (j : ℕ) → j < size p Schematic kind
    → (k : ℕ) × (k < size p Layout kind) × ((f (node Layout kind k)).number ≡ j)
came_from p f c kind j h =
    let there = count-has (same_node (node Schematic kind j)) (node Schematic kind j) (nodes p Schematic) (nodes_has p Schematic kind j h) ((node_decides (node Schematic kind j) (node Schematic kind j)).1 refl) in
    let over = c.onto (same_node (node Schematic kind j)) in
    let x = cut (λ a. same_node (node Schematic kind j) (f a)) (nodes p Layout) (omega arith) in
    let i : IsListed x.item (nodes p Layout) = subst (λ (l : List Node). IsListed x.item l) (sym x.is) (here_mid x.before x.item x.behind) in
    let t = nodes_there p Layout x.item i in
    let form : x.item ≡ node Layout x.item.kind x.item.number = ap (λ (s : Side). node s x.item.kind x.item.number) t.stands in
    let e : node Schematic kind j ≡ f (node Layout x.item.kind x.item.number) = (node_decides (node Schematic kind j) (f x.item)).0 x.passes ∙ ap f form in
    let m = image p f c x.item.kind x.item.number t.below in
    let k : x.item.kind ≡ kind = sym (ap (λ (n : Node). n.kind) (e ∙ m.is)) in (
      x.item.number,
      subst (λ (y : Kind). x.item.number < size p Layout y) k t.below,
      subst (λ (y : Kind). (f (node Layout y x.item.number)).number ≡ j) k (sym (ap (λ (n : Node). n.number) e)),
    )

one_to_one : (p : Pair) (f : Node → Node) → IsWebMap (web_of p) f → (kind : Kind) → IsOneToOne (numbers_of f kind (size p Layout kind)) (size p Layout kind) (size p Schematic kind)
one_to_one p f c kind = record {
  count = length-images (λ k. (f (node Layout kind k)).number) 0 (size p Layout kind);
  below = λ x i.
      let m = in_map (λ k. (f (node Layout kind k)).number) x (numbers_from 0 (size p Layout kind)) i in
      let b = in_numbers m.0 0 (size p Layout kind) m.1 in
      let high = b.1 in
      let g = image p f c kind m.0 (omega arith) in
      let low = g.below in
      let e = m.2 in
      omega arith;
  once = λ j h.
      let k = came_from p f c kind j h in
      let low = k.1 in
      sum-map (λ x. cond (j == x) 1 0) (λ x. (f (node Layout kind x)).number) (numbers_from 0 (size p Layout kind))
      ∙ (count_same (λ x. j == (f (node Layout kind x)).number) (λ x. k.0 == x) (numbers_from 0 (size p Layout kind)) (λ x i.
      let b = in_numbers x 0 (size p Layout kind) i in
      let high = b.1 in
      same_truth _ _
      (λ t. (Decides-eqb k.0 x).1 (number_one p f c kind k.0 x low (omega arith) (k.2 ∙ (Decides-eqb j _).0 t)))
      (λ t. (Decides-eqb j _).1 (sym k.2 ∙ ap (λ (y : ℕ). (f (node Layout kind y)).number) ((Decides-eqb k.0 x).0 t))))
      ∙ number_once k.0 0 (size p Layout kind) (omega arith) (omega arith));
}
  where
    number_one : (p : Pair) (f : Node → Node) → IsWebMap (web_of p) f → (kind : Kind) (j k : ℕ) → j < size p Layout kind → k < size p Layout kind
        → (f (node Layout kind j)).number ≡ (f (node Layout kind k)).number → j ≡ k
    number_one p f c kind j k a b e =
        let x = image p f c kind j a in
        let y = image p f c kind k b in
        let same : f (node Layout kind j) ≡ f (node Layout kind k) = x.is ∙ (ap (node Schematic kind) e ∙ sym y.is) in
        ap (λ (n : Node). n.number) (c.one (node Layout kind j) (node Layout kind k) (nodes_has p Layout kind j a) (nodes_has p Layout kind k b) same)

-- pins
same_pins : (a b : Bool) (m n : List ℕ) → OfNet a m ≡ OfNet b n → (a ≡ b) × (m ≡ n)
same_pins a b m n h = let e : a ≡ b = cc in let f : m ≡ n = cc in (e, f)

listed_by : (n : ℕ) (xs : List ℕ) (m : ℕ) (ys : List ℕ) → list_any (λ x. x == n) xs ≡ list_any (λ x. x == m) ys → IsListed n xs → IsListed m ys
listed_by n xs m ys e i =
    let found = any_found (λ x. x == m) ys (sym e ∙ any_of (λ x. x == n) n xs i ((Decides-eqb n n).1 refl)) in
    subst (λ (x : ℕ). IsListed x ys) ((Decides-eqb found.0 m).0 found.2) found.1

-- devices
abbrev one_for : Bool → ℕ
one_for b = cond b 1 0

is_one : (b : Bool) → 1 ≤ one_for b → b ≡ true
is_one true h = refl
is_one false h = absurd (omega arith)

at_most_one : (b : Bool) → one_for b ≤ 1
at_most_one true = omega arith
at_most_one false = omega arith

equal_one : (m x : ℕ) → m ≡ x → one_for (m == x) ≡ 1
equal_one m x e = ap one_for ((Decides-eqb m x).1 e)

unequal_none : (m x : ℕ) → (m ≡ x → ⊥) → one_for (m == x) ≡ 0
unequal_none m x h = elim (cases_Bool (m == x)) [ inl r ↦ absurd (h ((Decides-eqb m x).0 r)) | inr r ↦ ap one_for r ]

two_of_two : (s d t u : ℕ) → ((m : ℕ) → one_for (m == s) + one_for (m == d) ≡ one_for (m == t) + one_for (m == u)) → ((s ≡ t) × (d ≡ u)) ⊎ ((s ≡ u) × (d ≡ t))
two_of_two s d t u h =
    elim (ℕ_discrete s t) [
      | yes e ↦
          let at = h d in
          let one = equal_one d d refl in
          let same : one_for (d == s) ≡ one_for (d == t) = ap (λ (x : ℕ). one_for (d == x)) e in
          inl (e, (Decides-eqb d u).0 (is_one (d == u) (omega arith)))
      | no not ↦
          let at = h s in
          let one = equal_one s s refl in
          let none = unequal_none s t not in
          let f : s ≡ u = (Decides-eqb s u).0 (is_one (s == u) (omega arith)) in
          let at_d = h d in
          let one_d = equal_one d d refl in
          let same : one_for (d == s) ≡ one_for (d == u) = ap (λ (x : ℕ). one_for (d == x)) f in
          inr (f, (Decides-eqb d t).0 (is_one (d == t) (omega arith)))
    ]

-- how many ends of a port are at the net of a number
abbrev at_net : Port → ℕ → End Node → Bool
at_net port m x = same_port port x.port && (m == x.node.number)

device_near : (p : Pair) (f : Node → Node) → IsWebMap (web_of p) f → (k : ℕ) (d e : DeviceRow) → k < size p Layout Device → slice_get p.left.devices k ≡ Some d
    → slice_get p.right.devices (f (node Layout Device k)).number ≡ Some e → (q : End Node → Bool)
    → count_by q (device_ends Schematic e) ≡ count_by (λ x. q (end_at x.port (f x.node))) (device_ends Layout d)
device_near p f c k d e h left right q =
    let m = image p f c Device k h in
    sym (ap (λ (o : Option DeviceRow). count_by q (device_terms Schematic o)) right)
    ∙ (ap (λ (n : Node). count_by q (near_at p n.side n.kind n.number)) (sym m.is)
    ∙ (c.near (node Layout Device k) (nodes_has p Layout Device k h) q
    ∙ ap (λ (o : Option DeviceRow). count_by (λ x. q (end_at x.port (f x.node))) (device_terms Layout o)) left))

-- ends at net m, by where each net goes
ends_count : (ℕ → ℕ) → ℕ → Ends ℕ → ℕ
ends_count go m NoEnds = 0
ends_count go m (Both a b) = one_for (m == go a) + one_for (m == go b)

-- and others of place k, counted from place i
others_count : (ℕ → ℕ) → ℕ → ℕ → ℕ → List ℕ → ℕ
others_count go k m i [] = 0
others_count go k m i (n ∷ ns) = one_for ((k == i) && (m == go n)) + others_count go k m (suc i) ns

module _ (f : Node → Node) (side : Side) where
  abbrev goes : ℕ → ℕ
  goes n = (f (node side Net n)).number

  abbrev moves : (End Node → Bool) → End Node → Bool
  moves q x = q (end_at x.port (f x.node))

  either_ends : (m : ℕ) (e : Ends ℕ) → count_by (moves (at_net EitherEnd m)) (ends_part side e) ≡ ends_count goes m e
  unfolding ends_count
  either_ends m NoEnds = refl
  either_ends m (Both a b) =
      let p = count-cons (moves (at_net EitherEnd m)) (end_at EitherEnd (node side Net a)) (end_at EitherEnd (node side Net b) ∷ []) in
      let q = count-cons (moves (at_net EitherEnd m)) (end_at EitherEnd (node side Net b)) [] in
      omega arith

  no_other : (m i : ℕ) (ns : List ℕ) → count_by (moves (at_net EitherEnd m)) (other_ends side i ns) ≡ 0
  no_other m i [] = refl
  no_other m i (n ∷ ns) =
      let step = count-cons (moves (at_net EitherEnd m)) (end_at (Other i) (node side Net n)) (other_ends side (suc i) ns) in
      let rest = no_other m (suc i) ns in
      omega arith

  no_end : (k m : ℕ) (e : Ends ℕ) → count_by (moves (at_net (Other k) m)) (ends_part side e) ≡ 0
  no_end k m NoEnds = refl
  no_end k m (Both a b) = refl

  placed : (k m i : ℕ) (ns : List ℕ) → count_by (moves (at_net (Other k) m)) (other_ends side i ns) ≡ others_count goes k m i ns
  unfolding others_count
  placed k m i [] = refl
  placed k m i (n ∷ ns) =
      count-cons (moves (at_net (Other k) m)) (end_at (Other i) (node side Net n)) (other_ends side (suc i) ns)
      ∙ ap (λ (z : ℕ). one_for ((k == i) && (m == goes n)) + z) (placed k m (suc i) ns)

  of_ends : (m : ℕ) (d : DeviceRow) → count_by (moves (at_net EitherEnd m)) (device_ends side d) ≡ ends_count goes m d.ends
  of_ends m d =
      let a = parted_sum (λ x. one_for (moves (at_net EitherEnd m) x)) side d.ends d.others in
      let b = either_ends m d.ends in
      let z = no_other m 0 d.others in
      omega arith

  of_others : (k m : ℕ) (d : DeviceRow) → count_by (moves (at_net (Other k) m)) (device_ends side d) ≡ others_count goes k m 0 d.others
  of_others k m d =
      let a = parted_sum (λ x. one_for (moves (at_net (Other k) m) x)) side d.ends d.others in
      let b = placed k m 0 d.others in
      let z = no_end k m d.ends in
      omega arith

both_one : (k m n : ℕ) → m ≡ n → one_for ((k == k) && (m == n)) ≡ 1
both_one k m n e = ap one_for (and_from (k == k) _ ((Decides-eqb k k).1 refl) ((Decides-eqb m n).1 e))

-- none of an earlier place
none_before : (go : ℕ → ℕ) (k m i : ℕ) (ns : List ℕ) → k < i → others_count go k m i ns ≡ 0
unfolding others_count
none_before go k m i [] low = refl
none_before go k m i (n ∷ ns) low =
    let e : (k == i) ≡ false = elim (cases_Bool (k == i)) [ inl t ↦ absurd (let s = (Decides-eqb k i).0 t in omega arith) | inr r ↦ r ] in
    let rest = none_before go k m (suc i) ns (omega arith) in
    let head : one_for ((k == i) && (m == go n)) ≡ 0 = ap (λ (b : Bool). one_for (b && (m == go n))) e in
    omega arith

-- equal counts at each net and place: the nets go to those of their places
others_go : (go : ℕ → ℕ) (i : ℕ) (ns ms : List ℕ) → ((k m : ℕ) → others_count (λ n. n) k m i ms ≡ others_count go k m i ns) → AreJoined (λ n m. go n ≡ m) ns ms
unfolding others_count
others_go go i [] [] same = tt
others_go go i [] (m ∷ ms) same = absurd (let e = same i m in let one = both_one i m m refl in omega arith)
others_go go i (n ∷ ns) [] same = absurd (let e = same i (go n) in let one = both_one i (go n) (go n) refl in omega arith)
others_go go i (n ∷ ns) (m ∷ ms) same =
    let at = same i m in
    let one = both_one i m m refl in
    let none = none_before (λ x. x) i m (suc i) ms (omega arith) in
    let none_here = none_before go i m (suc i) ns (omega arith) in
    let is : go n ≡ m = sym ((Decides-eqb m (go n)).0 (second (i == i) _ (is_one ((i == i) && (m == go n)) (omega arith)))) in (
      is,
      others_go go (suc i) ns ms (λ k x.
          let e = same k x in
          let h : one_for ((k == i) && (x == go n)) ≡ one_for ((k == i) && (x == m)) = ap (λ (y : ℕ). one_for ((k == i) && (x == y))) is in
          omega arith),
    )

ends_go : (go : ℕ → ℕ) (d e : Ends ℕ) → ((m : ℕ) → ends_count (λ n. n) m e ≡ ends_count go m d)
    → AreEndsJoined (λ n m. go n ≡ m) d e ⊎ AreEndsJoined (λ n m. go n ≡ m) d (exchanged e)
unfolding ends_count
ends_go go NoEnds NoEnds same = inl tt
ends_go go NoEnds (Both a b) same = absurd (let e = same a in let one = equal_one a a refl in omega arith)
ends_go go (Both a b) NoEnds same = absurd (let e = same (go a) in let one = equal_one (go a) (go a) refl in omega arith)
ends_go go (Both a b) (Both c d) same = two_of_two (go a) (go b) c d (λ m. sym (same m))

device_image : (p : Pair) (f : Node → Node) → IsFitting p Layout → IsWebMap (web_of p) f → (k : ℕ) (d e : DeviceRow) → k < size p Layout Device → slice_get p.left.devices k ≡ Some d
    → slice_get p.right.devices (f (node Layout Device k)).number ≡ Some e → IsDeviceImage (numbers_of f Net (length p.left.nets)) d e
device_image p f fit c k d e h left right =
    let m = image p f c Device k h in
    let same : OfDevice d.kind d.class d.sizes ≡ OfDevice e.kind e.class e.sizes = sym (ap device_own left) ∙ (m.own ∙ ap device_own right) in
    let kind : d.kind ≡ e.kind = cc in
    let class : d.class ≡ e.class = cc in
    let sizes : d.sizes ≡ e.sizes = cc in
    let near = device_near p f c k d e h left right in
    rows_where (λ n x. (f (node Layout Net n)).number ≡ x) (λ n x. slice_index (numbers_of f Net (length p.left.nets)) n ≡ x) d e
    (λ n x listed at.
    let port = net_has_end Layout d n listed in
    index_image f Net (length p.left.nets) n (fit.devices k d left (end_at port.0 (node Layout Net n)) port.1) ∙ at)
    (record {
      kind = kind;
      class = class;
      sizes = sizes;
      ends = ends_go (goes f Layout) d.ends e.ends (λ x. sym (of_ends (λ n. n) Schematic x e) ∙ (near (at_net EitherEnd x) ∙ of_ends f Layout x d));
      others = others_go (goes f Layout) 0 d.others e.others (λ j x. sym (of_others (λ n. n) Schematic j x e) ∙ (near (at_net (Other j) x) ∙ of_others f Layout j x d));
    })

-- calls
all_count : {X : Type 0} (xs : List X) → count_by (λ x. true) xs ≡ length xs
all_count [] = refl
all_count (x ∷ xs) = let step = count-cons (λ y. true) x xs in let rest = all_count xs in omega arith

length-ends : {X : Type 0} (h : ℕ → X) (a n : ℕ) → length (map h (numbers_from a n)) ≡ n
length-ends h a zero = refl
length-ends h a (suc n) = let rest = length-ends h (suc a) n in omega arith

call_near : (p : Pair) (f : Node → Node) → IsWebMap (web_of p) f → (k : ℕ) (d e : CallRow) → k < size p Layout Call → slice_get p.left.calls k ≡ Some d
    → slice_get p.right.calls (f (node Layout Call k)).number ≡ Some e → (q : End Node → Bool)
    → count_by q (call_ends p Schematic e) ≡ count_by (λ x. q (end_at x.port (f x.node))) (call_ends p Layout d)
call_near p f c k d e h left right q =
    let m = image p f c Call k h in
    sym (ap (λ (o : Option CallRow). count_by q (call_terms p Schematic o)) right)
    ∙ (ap (λ (n : Node). count_by q (near_at p n.side n.kind n.number)) (sym m.is)
    ∙ (c.near (node Layout Call k) (nodes_has p Layout Call k h) q
    ∙ ap (λ (o : Option CallRow). count_by (λ x. q (end_at x.port (f x.node))) (call_terms p Layout o)) left))

call_image : (p : Pair) (f : Node → Node) → IsFitting p Layout → AreMatched p → IsWebMap (web_of p) f → (k : ℕ) (d e : CallRow) → k < size p Layout Call → slice_get p.left.calls k ≡ Some d
    → slice_get p.right.calls (f (node Layout Call k)).number ≡ Some e → IsCallImage p.children (numbers_of f Net (length p.left.nets)) d e
call_image p f fit matched c k d e h left right =
    let m = image p f c Call k h in
    let same : OfCall d.circuit ≡ OfCall e.circuit = sym (ap call_own left) ∙ (m.own ∙ ap call_own right) in
    let pair : d.circuit ≡ e.circuit = cc in
    let ends : (q : End Node → Bool) → count_by q (call_ends p Schematic e) ≡ count_by (λ x. q (end_at x.port (f x.node))) (call_ends p Layout d) = call_near p f c k d e h left right in
    let pins = matched k d left in
    let total = ends (λ x. true) in
    let there = all_count (call_ends p Schematic e) in
    let here = all_count (call_ends p Layout d) in
    let there_long = length-ends (λ i. end_at (Pin e.circuit (right_pin p Schematic e.circuit i)) (node Schematic Net (slice_index e.nets i))) 0 (length e.nets) in
    let here_long = length-ends (λ i. end_at (Pin d.circuit (right_pin p Layout d.circuit i)) (node Layout Net (slice_index d.nets i))) 0 (length d.nets) in
    record {
      pair = pair;
      pins = pins.0;
      matched = pins.1;
      count = omega arith;
      at = λ i l. index_image f Net (length p.left.nets) (slice_index d.nets i) (fit.calls k d left (slice_index d.nets i) (listed_index d.nets i l))
          ∙ pin_of p f d e pins.0 pins.1 i l (ends (at_net (Pin d.circuit (slice_index pins.0 i)) (f (node Layout Net (slice_index d.nets i))).number));
    }
  where
    pin_of : (p : Pair) (f : Node → Node) (d e : CallRow) (pins : List ℕ) → p.children d.circuit ≡ Some pins → (i : ℕ) → i < length d.nets
        → count_by (at_net (Pin d.circuit (slice_index pins i)) (f (node Layout Net (slice_index d.nets i))).number) (call_ends p Schematic e)
        ≡ count_by (λ x. at_net (Pin d.circuit (slice_index pins i)) (f (node Layout Net (slice_index d.nets i))).number (end_at x.port (f x.node))) (call_ends p Layout d)
        → (f (node Layout Net (slice_index d.nets i))).number ≡ slice_index e.nets (slice_index pins i)
    pin_of p f d e pins matched i l h =
        let m : ℕ = (f (node Layout Net (slice_index d.nets i))).number in
        let q : End Node → Bool = at_net (Pin d.circuit (slice_index pins i)) m in
        let at_place : slice_index pins i ≡ right_pin p Layout d.circuit i = sym (ap (λ (o : Option (List ℕ)). elim o [ None ↦ i | Some ps ↦ slice_index ps i ]) matched) in
        let port : same_port (Pin d.circuit (slice_index pins i)) (Pin d.circuit (right_pin p Layout d.circuit i)) ≡ true = (port_same _ _).1 (ap (Pin d.circuit) at_place) in
        let mine : End Node = end_at (Pin d.circuit (right_pin p Layout d.circuit i)) (node Layout Net (slice_index d.nets i)) in
        let some = count-has (λ x. q (end_at x.port (f x.node))) mine (call_ends p Layout d)
        (map_has (λ j. end_at (Pin d.circuit (right_pin p Layout d.circuit j)) (node Layout Net (slice_index d.nets j))) i (numbers_from 0 (length d.nets)) (numbers_has i 0 (length d.nets) (omega arith) (omega arith)))
        (and_from (same_port (Pin d.circuit (slice_index pins i)) (Pin d.circuit (right_pin p Layout d.circuit i))) (m == m) port ((Decides-eqb m m).1 refl)) in
        let x = cut (at_net (Pin d.circuit (slice_index pins i)) m) (call_ends p Schematic e) (omega arith) in
        let listed : IsListed x.item (call_ends p Schematic e) = subst (λ (y : List (End Node)). IsListed x.item y) (sym x.is) (here_mid x.before x.item x.behind) in
        let j = in_map (λ y. end_at (Pin e.circuit y) (node Schematic Net (slice_index e.nets y))) x.item (numbers_from 0 (length e.nets)) listed in
        let port_is : Pin d.circuit (slice_index pins i) ≡ x.item.port = (port_same _ _).0 (first (same_port (Pin d.circuit (slice_index pins i)) x.item.port) _ x.passes) in
        let net_is : m ≡ x.item.node.number = (Decides-eqb m _).0 (second (same_port (Pin d.circuit (slice_index pins i)) x.item.port) _ x.passes) in
        let same_pin : Pin d.circuit (slice_index pins i) ≡ Pin e.circuit j.0 = port_is ∙ ap (λ (y : End Node). y.port) j.2 in
        let number : slice_index pins i ≡ j.0 = cc in
        net_is ∙ (ap (λ (y : End Node). y.node.number) j.2 ∙ ap (slice_index e.nets) (sym number))

pub reads : (p : Pair) (f : Node → Node) → IsFitting p Layout → IsFitting p Schematic → AreMatched p → IsWebMap (web_of p) f → IsCorrespondence p (pairing_of p f)
reads p f l r matched c = record {
  nets = one_to_one p f c Net;
  devices = one_to_one p f c Device;
  calls = one_to_one p f c Call;
  pin = λ n h.
      let m = image p f c Net n h in
      let e : list_any (λ x. x == n) p.left.pins ≡ list_any (λ x. x == (f (node Layout Net n)).number) p.right.pins = (same_pins _ _ _ _ m.own).0 in
      let at : slice_index (numbers_of f Net (length p.left.nets)) n ≡ (f (node Layout Net n)).number = index_image f Net (length p.left.nets) n h in (
        (λ i. subst (λ (x : ℕ). IsListed x p.right.pins) (sym at) (listed_by n p.left.pins _ p.right.pins e i)),
        (λ i. listed_by (f (node Layout Net n)).number p.right.pins n p.left.pins (sym e) (subst (λ (x : ℕ). IsListed x p.right.pins) at i)),
      );
  named = λ n h.
      let m = image p f c Net n h in
      let at : slice_index (numbers_of f Net (length p.left.nets)) n ≡ (f (node Layout Net n)).number = index_image f Net (length p.left.nets) n h in
      (same_pins _ _ _ _ m.own).1 ∙ ap (λ (x : ℕ). pin_name p.told p.right x) (sym at);
  device = λ k d e left right.
      let h = slice_get_within p.left.devices k d left in
      device_image p f l c k d e h left (ap (slice_get p.right.devices) (sym (index_image f Device (length p.left.devices) k h)) ∙ right);
  call = λ k d e left right.
      let h = slice_get_within p.left.calls k d left in
      call_image p f l matched c k d e h left (ap (slice_get p.right.calls) (sym (index_image f Call (length p.left.calls) k h)) ∙ right);
}
