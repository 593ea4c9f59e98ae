-- The arrays are the graph of the pair.
use Rattle.std.proofs.Common.{◌≡◌, ◌⊎◌, inl, inr, ℕ, zero, suc, ◌+◌, ◌-◌, ◌<◌, ◌≤◌, ◌==◌, ◌&&◌, Bool, true, false, cond, List, [], ◌∷◌, ◌++◌, map, length, slice_index, slice_get, get_or, Option, Some, None, refl, sym, subst, ◌∙◌, ap, ap₂, arith, length-append}
use Rattle.base_laws.proofs.Tests.{turned_test, same_truth}
use Rattle.std.proofs.lemmas.Bool.{cases_Bool}
use Rattle.std.proofs.lemmas.List.{length-map, get_or_append_left, get_or-append_right}
use Rattle.std.proofs.lemmas.Bool.Decides.{Decides-eqb}
use Rattle.plain_netlist.specs.Devices.{Ends, NoEnds, Both}
use Rattle.plain_netlist.specs.Netlist.{DeviceRow, CallRow, Circuit}
use Rattle.plain_netlist.specs.Lists.{IsListed}
use Rattle.round_laws.specs.Web.{Port as PlainPort, same_port, EitherEnd, Other, Pin, End as PlainEnd, IsNode}
use Rattle.round_laws.specs.Nodes.{Node, Side, Layout, Schematic, Kind, Net, Device, Call}
use Rattle.round_laws.specs.Colours.{ends_of}
use Rattle.round_laws.proofs.Stable.{in_either}
use Rattle.match_laws.specs.Circuits.{Pair, is_pin, pin_name, circuit_of, numbers_from, node, end_at, right_pin, other_ends, terminal_ends, call_ends, terminals, terminals_of, owners, nodes, same_node, ends_on, near_at, web_of, IsFitting, Own, OfNet, OfCall, OfNone, same_own, own_at, own}
use Rattle.match_laws.proofs.Sums.{sum_same, sum-map, sum-flat, in_map}
use Rattle.match_laws.proofs.Images.{size, seen, in_flat, in_turned, device_terms, call_terms, own_decides}
use Rattle.match_graph.specs.declared.graph.End.{End}
use Rattle.match_graph.specs.declared.graph.Port.TheVariants as port
use Rattle.match_graph.specs.declared.edges.Edge.{Edge}
use Rattle.match_graph.specs.Numbering.{nodes_in, first_of_side, first_of_kind, index_of}
use Rattle.match_graph.specs.Graph.{plain_port, plain_end, port_name}
use Rattle.match_graph.specs.Edges.{edge, pair_edges}
use Rattle.match_graph.specs.Filling.{end, one_end, ends_from, edge_at, AreBetween}
use Rattle.match_graph.specs.Kinds.{net_own, net_owns, device_own, call_own, circuit_owns, AreKindsOf}
use Rattle.match_graph.proofs.Placed.{index-first, index-last, there}
use Rattle.match_graph.proofs.Joined.{all_owners, owner_edges, edge_of, edges_are}
use Rattle.match_graph.proofs.Near.{owner_node, owner_terminal, one_sum, owner_side, fits_both}

listed_at : {X : Type 0} (xs : List X) (i : ℕ) (d : X) → i < length xs → IsListed (get_or xs i d) xs
listed_at [] i d l = absurd (omega arith)
listed_at (x ∷ xs) zero d l = inl refl
listed_at (x ∷ xs) (suc i) d l = inr (listed_at xs i d (omega arith))

-- an edge stays on one side
record IsSided (p : Pair) (side : Side) (x : Edge) : Type 0 where
  owner_from : first_of_side p side ≤ x.owner
  owner_to : x.owner < first_of_side p side + nodes_in (circuit_of p side)
  net_from : first_of_side p side ≤ x.net
  net_to : x.net < first_of_side p side + nodes_in (circuit_of p side)

sided : (p : Pair) → IsFitting p Layout → IsFitting p Schematic → (x : Edge) → IsListed x (pair_edges p) → (side : Side) × IsSided p side x
sided p fl fr x i =
    let f = in_flat (owner_edges p) x (all_owners p) (subst (λ (es : List Edge). IsListed x es) (edges_are p) i) in
    let s = owner_side p f.0 f.1 in
    let m = in_map (edge_of p f.0) x (terminals_of p f.0) f.2 in
    let o : IsListed f.0 (nodes p s.0) = owner_node p s.0 f.0 s.1 in
    let n : IsListed m.0.node (nodes p s.0) = owner_terminal p s.0 (fits_both p fl fr s.0) f.0 s.1 m.0 m.1 in
    let here : IsSided p s.0 (edge_of p f.0 m.0) = record { owner_from = index-first p s.0 f.0 o; owner_to = index-last p s.0 f.0 o; net_from = index-first p s.0 m.0.node n; net_to = index-last p s.0 m.0.node n } in
    (s.0, subst (λ (y : Edge). IsSided p s.0 y) (sym m.2) here)

side_end : (p : Pair) (side : Side) → first_of_side p side + nodes_in (circuit_of p side) ≤ nodes_in p.left + nodes_in p.right
side_end p Layout = omega arith
side_end p Schematic = omega arith

pub between_nodes : (p : Pair) → IsFitting p Layout → IsFitting p Schematic → AreBetween (pair_edges p) (nodes_in p.left + nodes_in p.right)
between_nodes p fl fr = record {
  owner = λ i l.
      let s = sided p fl fr (edge_at (pair_edges p) i) (listed_at (pair_edges p) i (edge 0 port.EitherEnd 0) l) in
      let e = side_end p s.0 in
      let t = s.1.owner_to in
      omega arith;
  net = λ i l.
      let s = sided p fl fr (edge_at (pair_edges p) i) (listed_at (pair_edges p) i (edge 0 port.EitherEnd 0) l) in
      let e = side_end p s.0 in
      let t = s.1.net_to in
      omega arith;
}

-- where an end came from
record CameFrom (a : ℕ) (x : End) (y : Edge) : Type 0 where
  whence : ((y.owner ≡ a) × (x.node ≡ y.net)) ⊎ ((y.net ≡ a) × (x.node ≡ y.owner))

in_cond : (t : Bool) (x y : End) → IsListed x (cond t (y ∷ []) []) → (t ≡ true) × (x ≡ y)
in_cond true x y (inl e) = (refl, e)
in_cond true x y (inr i) = absurd i
in_cond false x y i = absurd i

end_from : (a : ℕ) (edges : List Edge) (x : End) → IsListed x (ends_from a edges) → (y : Edge) × IsListed y edges × CameFrom a x y
end_from a edges x i =
    let f = in_flat (one_end a) x edges i in
    let y : Edge = f.0 in (
      f.0,
      f.1,
      elim (in_either x (cond (f.0.owner == a) (end f.0.port f.0.net ∷ []) []) (cond (f.0.net == a) (end f.0.port f.0.owner ∷ []) []) f.2) [
        | inl j ↦ let c = in_cond (f.0.owner == a) x (end f.0.port f.0.net) j in record { whence = inl ((Decides-eqb f.0.owner a).0 c.0, ap (λ (z : End). z.node) c.1) }
        | inr j ↦ let c = in_cond (f.0.net == a) x (end f.0.port f.0.owner) j in record { whence = inr ((Decides-eqb f.0.net a).0 c.0, ap (λ (z : End). z.node) c.1) }
      ],
    )

-- the other node of an end stands on the node's side
pub near_left : (p : Pair) → IsFitting p Layout → IsFitting p Schematic → (a : ℕ) (x : End) → a < nodes_in p.left → IsListed x (ends_from a (pair_edges p)) → x.node < nodes_in p.left
near_left p fl fr a x l i =
    let f = end_from a (pair_edges p) x i in
    on_side (sided p fl fr f.0 f.1).0 (sided p fl fr f.0 f.1).1 f.2.whence
  where
    on_side : {y : Edge} (side : Side) → IsSided p side y → ((y.owner ≡ a) × (x.node ≡ y.net)) ⊎ ((y.net ≡ a) × (x.node ≡ y.owner)) → x.node < nodes_in p.left
    on_side Layout s (inl e) = let t = s.net_to in let u = e.1 in omega arith
    on_side Layout s (inr e) = let t = s.owner_to in let u = e.1 in omega arith
    on_side Schematic s (inl e) = let t = s.owner_from in let u = e.0 in absurd (omega arith)
    on_side Schematic s (inr e) = let t = s.net_from in let u = e.0 in absurd (omega arith)

pub near_right : (p : Pair) → IsFitting p Layout → IsFitting p Schematic → (a : ℕ) (x : End) → nodes_in p.left ≤ a → IsListed x (ends_from a (pair_edges p))
    → (nodes_in p.left ≤ x.node) × (x.node < nodes_in p.left + nodes_in p.right)
near_right p fl fr a x l i =
    let f = end_from a (pair_edges p) x i in
    on_side (sided p fl fr f.0 f.1).0 (sided p fl fr f.0 f.1).1 f.2.whence
  where
    on_side : {y : Edge} (side : Side) → IsSided p side y → ((y.owner ≡ a) × (x.node ≡ y.net)) ⊎ ((y.net ≡ a) × (x.node ≡ y.owner))
        → (nodes_in p.left ≤ x.node) × (x.node < nodes_in p.left + nodes_in p.right)
    on_side Layout s (inl e) = let t = s.owner_to in let u = e.0 in absurd (omega arith)
    on_side Layout s (inr e) = let t = s.net_to in let u = e.0 in absurd (omega arith)
    on_side Schematic s (inl e) = let f = s.net_from in let t = s.net_to in let u = e.1 in (omega arith, omega arith)
    on_side Schematic s (inr e) = let f = s.owner_from in let t = s.owner_to in let u = e.1 in (omega arith, omega arith)

-- each end stands at both of its nodes
swapped : (s t q : Bool) → ◌≡◌ {A = ℕ} (cond s (cond (q && t) 1 0) 0) (cond t (cond (q && s) 1 0) 0)
swapped true true q = refl
swapped true false true = refl
swapped true false false = refl
swapped false true true = refl
swapped false true false = refl
swapped false false q = refl

one_turned : (q : PlainPort) (a b : ℕ) (y : Edge) → cond (y.owner == a) (cond {A = ℕ} (same_port q (plain_port y.port) && (b == y.net)) 1 0) 0
    ≡ cond (y.net == b) (cond {A = ℕ} (same_port q (plain_port y.port) && (a == y.owner)) 1 0) 0
one_turned q a b y =
    swapped (y.owner == a) (b == y.net) (same_port q (plain_port y.port))
    ∙ ap₂ (λ (s t : Bool). cond t (cond {A = ℕ} (same_port q (plain_port y.port) && s) 1 0) 0) (turned_test y.owner a) (turned_test b y.net)

pub edges_turned : (q : PlainPort) (a b : ℕ) (edges : List Edge) → ends_of (λ x. x) q b (map plain_end (ends_from a edges)) ≡ ends_of (λ x. x) q a (map plain_end (ends_from b edges))
edges_turned q a b edges =
    sum-map (λ e. cond {A = ℕ} (same_port q e.port && (b == e.node)) 1 0) plain_end (ends_from a edges)
    ∙ (sum-flat (λ x. cond {A = ℕ} (same_port q (plain_port x.port) && (b == x.node)) 1 0) (one_end a) edges
    ∙ (sum_same _ _ edges (λ y l.
    let u = one_sum (λ x. cond {A = ℕ} (same_port q (plain_port x.port) && (b == x.node)) 1 0) a y in
    let v = one_sum (λ x. cond {A = ℕ} (same_port q (plain_port x.port) && (a == x.node)) 1 0) b y in
    let s = one_turned q a b y in
    let t = one_turned q b a y in
    omega arith)
    ∙ (sym (sum-flat (λ x. cond {A = ℕ} (same_port q (plain_port x.port) && (a == x.node)) 1 0) (one_end b) edges)
    ∙ sym (sum-map (λ e. cond {A = ℕ} (same_port q e.port && (a == e.node)) 1 0) plain_end (ends_from b edges)))))

-- what the first round goes by, by number
number_at : (a n k d : ℕ) → k < n → get_or (numbers_from a n) k d ≡ a + k
number_at a zero k d l = absurd (omega arith)
number_at a (suc n) zero d l = omega arith
number_at a (suc n) (suc k) d l = let h = number_at (suc a) n k d (omega arith) in omega arith

mapped_number : {X : Type 0} (f : ℕ → X) (a n k : ℕ) (d : X) → k < n → get_or (map f (numbers_from a n)) k d ≡ f (a + k)
mapped_number f a zero k d l = absurd (omega arith)
mapped_number f a (suc n) zero d l = let e : a ≡ a + 0 = omega arith in ap f e
mapped_number f a (suc n) (suc k) d l = let e : suc a + k ≡ a + suc k = omega arith in mapped_number f (suc a) n k d (omega arith) ∙ ap f e

mapped_row : {X Y : Type 0} (f : X → Y) (xs : List X) (k : ℕ) (d : Y) → get_or (map f xs) k d ≡ elim (slice_get xs k) [ None ↦ d | Some x ↦ f x ]
mapped_row f [] k d = refl
mapped_row f (x ∷ xs) zero d = refl
mapped_row f (x ∷ xs) (suc k) d = mapped_row f xs k d

length-numbers : {X : Type 0} (f : ℕ → X) (a n : ℕ) → length (map f (numbers_from a n)) ≡ n
length-numbers f a zero = refl
length-numbers f a (suc n) = ap suc (length-numbers f (suc a) n)

nets_long : (told : Bool) (c : Circuit) → length (net_owns (pin_name told c) c) ≡ length c.nets
nets_long told c = length-numbers (net_own (pin_name told c) c) 0 (length c.nets)

rows_long : (told : Bool) (c : Circuit) → length (net_owns (pin_name told c) c ++ map device_own c.devices) ≡ length c.nets + length c.devices
rows_long told c =
    let a = length-append (net_owns (pin_name told c) c) (map device_own c.devices) in
    let n = nets_long told c in
    let d = length-map c.devices device_own in
    omega arith

pub owns_long : (told : Bool) (c : Circuit) → length (circuit_owns told c) ≡ nodes_in c
owns_long told c =
    let a = length-append (net_owns (pin_name told c) c ++ map device_own c.devices) (map call_own c.calls) in
    let r = rows_long told c in
    let l = length-map c.calls call_own in
    omega arith

own_in : (p : Pair) (side : Side) (kind : Kind) (k : ℕ) → k < size p side kind → get_or (circuit_owns p.told (circuit_of p side)) (first_of_kind (circuit_of p side) kind + k) OfNone ≡ own_at p side kind k
own_in p side Net k l =
    let c : Circuit = circuit_of p side in
    let z : 0 + k ≡ k = omega arith in
    let r = rows_long p.told (circuit_of p side) in
    let n = nets_long p.told (circuit_of p side) in
    ap (λ (i : ℕ). get_or (circuit_owns p.told (circuit_of p side)) i OfNone) z
    ∙ (get_or_append_left (net_owns (pin_name p.told (circuit_of p side)) (circuit_of p side) ++ map device_own (circuit_of p side).devices) (map call_own (circuit_of p side).calls) OfNone k (omega arith)
    ∙ (get_or_append_left (net_owns (pin_name p.told (circuit_of p side)) (circuit_of p side)) (map device_own (circuit_of p side).devices) OfNone k (omega arith)
    ∙ (mapped_number (net_own (pin_name p.told (circuit_of p side)) (circuit_of p side)) 0 (length (circuit_of p side).nets) k OfNone l
    ∙ ap (net_own (pin_name p.told (circuit_of p side)) (circuit_of p side)) z)))
own_in p side Device k l =
    let r = rows_long p.told (circuit_of p side) in
    let n = nets_long p.told (circuit_of p side) in
    let e : length (circuit_of p side).nets + k - length (circuit_of p side).nets ≡ k = omega arith in
    get_or_append_left (net_owns (pin_name p.told (circuit_of p side)) (circuit_of p side) ++ map device_own (circuit_of p side).devices) (map call_own (circuit_of p side).calls) OfNone (length (circuit_of p side).nets + k) (omega arith)
    ∙ (get_or-append_right (net_owns (pin_name p.told (circuit_of p side)) (circuit_of p side)) (map device_own (circuit_of p side).devices) (length (circuit_of p side).nets) (length (circuit_of p side).nets + k) OfNone n (omega arith)
    ∙ (ap (λ (i : ℕ). get_or (map device_own (circuit_of p side).devices) i OfNone) e ∙ mapped_row device_own (circuit_of p side).devices k OfNone))
own_in p side Call k l =
    let r = rows_long p.told (circuit_of p side) in
    let e : length (circuit_of p side).nets + length (circuit_of p side).devices + k - (length (circuit_of p side).nets + length (circuit_of p side).devices) ≡ k = omega arith in
    get_or-append_right (net_owns (pin_name p.told (circuit_of p side)) (circuit_of p side) ++ map device_own (circuit_of p side).devices) (map call_own (circuit_of p side).calls) (length (circuit_of p side).nets + length (circuit_of p side).devices)
    (length (circuit_of p side).nets + length (circuit_of p side).devices + k) OfNone r (omega arith)
    ∙ (ap (λ (i : ℕ). get_or (map call_own (circuit_of p side).calls) i OfNone) e ∙ mapped_row call_own (circuit_of p side).calls k OfNone)

-- both sides
abbrev pub pair_owns : Pair → List Own
pair_owns p = circuit_owns p.told p.left ++ circuit_owns p.told p.right

kind_end : (c : Circuit) (kind : Kind) (k n : ℕ) → n ≡ elim kind [ Net ↦ length c.nets | Device ↦ length c.devices | Call ↦ length c.calls ] → k < n → first_of_kind c kind + k < nodes_in c
kind_end c Net k n e l = omega arith
kind_end c Device k n e l = omega arith
kind_end c Call k n e l = omega arith

size_is : (p : Pair) (side : Side) (kind : Kind) → size p side kind ≡ elim kind [ Net ↦ length (circuit_of p side).nets | Device ↦ length (circuit_of p side).devices | Call ↦ length (circuit_of p side).calls ]
size_is p side Net = refl
size_is p side Device = refl
size_is p side Call = refl

own_on : (p : Pair) (side : Side) (kind : Kind) (k : ℕ) → k < size p side kind → get_or (pair_owns p) (index_of p (node side kind k)) OfNone ≡ own_at p side kind k
own_on p Layout kind k l =
    let z : 0 + first_of_kind p.left kind + k ≡ first_of_kind p.left kind + k = omega arith in
    let low = kind_end p.left kind k (size p Layout kind) (size_is p Layout kind) l in
    let long = owns_long p.told p.left in
    ap (λ (i : ℕ). get_or (pair_owns p) i OfNone) z
    ∙ (get_or_append_left (circuit_owns p.told p.left) (circuit_owns p.told p.right) OfNone (first_of_kind p.left kind + k) (omega arith) ∙ own_in p Layout kind k l)
own_on p Schematic kind k l =
    let e : nodes_in p.left + first_of_kind p.right kind + k - nodes_in p.left ≡ first_of_kind p.right kind + k = omega arith in
    get_or-append_right (circuit_owns p.told p.left) (circuit_owns p.told p.right) (nodes_in p.left) (nodes_in p.left + first_of_kind p.right kind + k) OfNone (owns_long p.told p.left) (omega arith)
    ∙ (ap (λ (i : ℕ). get_or (circuit_owns p.told p.right) i OfNone) e ∙ own_in p Schematic kind k l)

own_of : (p : Pair) (a : Node) → IsNode (web_of p) a → get_or (pair_owns p) (index_of p a) OfNone ≡ own p a
own_of p a i =
    let t = there p a i in
    subst (λ (s : Side). get_or (pair_owns p) (index_of p (node s a.kind a.number)) OfNone ≡ own_at p s a.kind a.number) (sym t.1.stands) (own_on p t.0 a.kind a.number t.1.below)

pub index_below : (p : Pair) (a : Node) → IsNode (web_of p) a → index_of p a < nodes_in p.left + nodes_in p.right
index_below p a (inl i) = let h = index-last p Layout a i in omega arith
index_below p a (inr i) = let h = index-last p Schematic a i in omega arith

pub alike_same : (p : Pair) (kinds : List ℕ) → AreKindsOf kinds (pair_owns p) → (a b : Node) → IsNode (web_of p) a → IsNode (web_of p) b
    → (slice_index kinds (index_of p a) == slice_index kinds (index_of p b)) ≡ same_own (own p a) (own p b)
alike_same p kinds h a b i j =
    let long : length (pair_owns p) ≡ nodes_in p.left + nodes_in p.right = length-append (circuit_owns p.told p.left) (circuit_owns p.told p.right) ∙ ap₂ (λ (m n : ℕ). m + n) (owns_long p.told p.left) (owns_long p.told p.right) in
    let la = index_below p a i in
    let lb = index_below p b j in
    let s = h.same (index_of p a) (index_of p b) (omega arith) (omega arith) in
    same_truth _ _
    (λ t. (own_decides (own p a) (own p b)).1 (sym (own_of p a i) ∙ (s.0 ((Decides-eqb (slice_index kinds (index_of p a)) (slice_index kinds (index_of p b))).0 t) ∙ own_of p b j)))
    (λ t. (Decides-eqb (slice_index kinds (index_of p a)) (slice_index kinds (index_of p b))).1 (s.1 (own_of p a i ∙ ((own_decides (own p a) (own p b)).0 t ∙ sym (own_of p b j)))))

-- no terminal of a device is a pin
no_other_pin : (side : Side) (place : ℕ) (ns : List ℕ) (e : PlainEnd Node) (q i : ℕ) → IsListed e (other_ends side place ns) → e.port ≡ Pin q i → ⊥
no_other_pin side place [] e q i l is = l
no_other_pin side place (n ∷ ns) e q i (inl s) is = let x : Other place ≡ Pin q i = ap (λ (x : PlainEnd Node). x.port) (sym s) ∙ is in cc
no_other_pin side place (n ∷ ns) e q i (inr l) is = no_other_pin side (suc place) ns e q i l is

end_no_pin : (e : PlainEnd Node) (n : Node) (q i : ℕ) → e ≡ end_at EitherEnd n → e.port ≡ Pin q i → ⊥
end_no_pin e n q i s is = let x : EitherEnd ≡ Pin q i = ap (λ (x : PlainEnd Node). x.port) (sym s) ∙ is in cc

no_pin : (side : Side) (ends : Ends ℕ) (ns : List ℕ) (e : PlainEnd Node) (q i : ℕ) → IsListed e (terminal_ends side ends ns) → e.port ≡ Pin q i → ⊥
no_pin side NoEnds ns e q i l is = no_other_pin side 0 ns e q i l is
no_pin side (Both a b) [] e q i (inl s) is = end_no_pin e (node side Net b) q i s is
no_pin side (Both a b) [] e q i (inr (inl s)) is = end_no_pin e (node side Net a) q i s is
no_pin side (Both a b) [] e q i (inr (inr l)) is = l
no_pin side (Both a b) (n ∷ ns) e q i (inl s) is = end_no_pin e (node side Net b) q i s is
no_pin side (Both a b) (n ∷ ns) e q i (inr (inl s)) is = no_other_pin side 0 (n ∷ []) e q i (inl s) is
no_pin side (Both a b) (n ∷ ns) e q i (inr (inr (inl s))) is = end_no_pin e (node side Net a) q i s is
no_pin side (Both a b) (n ∷ ns) e q i (inr (inr (inr l))) is = no_other_pin side 1 ns e q i l is

-- pins of one number at nodes that look alike are of one pair
terminal_pin : (p : Pair) (side : Side) (kind : Kind) (k : ℕ) (e : PlainEnd Node) (q i : ℕ) → IsListed e (terminals p side kind k) → e.port ≡ Pin q i → own_at p side kind k ≡ OfCall q
terminal_pin p side Net k e q i l is = absurd l
terminal_pin p side Device k e q i l is = elim (seen (slice_get (circuit_of p side).devices k)) [
  | inl none ↦ absurd (subst (λ (o : Option DeviceRow). IsListed e (device_terms side o)) none l)
  | inr some ↦ absurd (no_pin side some.0.ends some.0.others e q i (subst (λ (o : Option DeviceRow). IsListed e (device_terms side o)) some.1 l) is)
]
terminal_pin p side Call k e q i l is = elim (seen (slice_get (circuit_of p side).calls k)) [
  | inl none ↦ absurd (subst (λ (o : Option CallRow). IsListed e (call_terms p side o)) none l)
  | inr some ↦
      let j : IsListed e (call_ends p side some.0) = subst (λ (o : Option CallRow). IsListed e (call_terms p side o)) some.1 l in
      let m = in_map (λ x. end_at (Pin some.0.circuit (right_pin p side some.0.circuit x)) (node side Net (slice_index some.0.nets x))) e (numbers_from 0 (length some.0.nets)) j in
      let s : Pin some.0.circuit (right_pin p side some.0.circuit m.0) ≡ Pin q i = sym (ap (λ (x : PlainEnd Node). x.port) m.2) ∙ is in
      let same : some.0.circuit ≡ q = cc in
      ap (λ (o : Option CallRow). elim o [ None ↦ OfNone | Some c ↦ OfCall c.circuit ]) some.1 ∙ ap OfCall same
]

turned_port : (net owner : Node) (es : List (PlainEnd Node)) (e : PlainEnd Node) → IsListed e (ends_on net owner es) → (x : PlainEnd Node) × IsListed x es × (e.port ≡ x.port)
turned_port net owner [] e i = absurd i
turned_port net owner (x ∷ xs) e i = elim (cases_Bool (same_node x.node net)) [
  | inl r ↦ elim (subst (λ (b : Bool). IsListed e (cond b (end_at x.port owner ∷ ends_on net owner xs) (ends_on net owner xs))) r i) [
    | inl h ↦ (x, inl refl, ap (λ (y : PlainEnd Node). y.port) h)
    | inr j ↦ let f = turned_port net owner xs e j in (f.0, inr f.1, f.2)
  ]
  | inr r ↦ let f = turned_port net owner xs e (subst (λ (b : Bool). IsListed e (cond b (end_at x.port owner ∷ ends_on net owner xs) (ends_on net owner xs))) r i) in (f.0, inr f.1, f.2)
]

-- the pair of a pin is that of the node, or of the node at its end
abbrev KnowsPair : Pair → Node → PlainEnd Node → ℕ → Type 0
KnowsPair p a d q = (own p a ≡ OfCall q) ⊎ (((b : Bool) × (name : List ℕ) × (own p a ≡ OfNet b name)) × (own p d.node ≡ OfCall q))

pin_in_near : (p : Pair) (side : Side) (kind : Kind) (k : ℕ) (d : PlainEnd Node) (q i : ℕ) → IsListed d (near_at p side kind k) → d.port ≡ Pin q i → KnowsPair p (node side kind k) d q
pin_in_near p side Net k d q i l is =
    let f = in_flat (λ o. ends_on (node side Net k) o (terminals_of p o)) d (owners p side) l in
    let t = turned_port (node side Net k) f.0 (terminals_of p f.0) d f.2 in
    inr (
      (is_pin (circuit_of p side) k, pin_name p.told (circuit_of p side) k, refl),
      ap (own p) (in_turned (node side Net k) f.0 (terminals_of p f.0) d f.2) ∙ terminal_pin p f.0.side f.0.kind f.0.number t.0 q i t.1 (sym t.2 ∙ is),
    )
pin_in_near p side Device k d q i l is = inl (terminal_pin p side Device k d q i l is)
pin_in_near p side Call k d q i l is = inl (terminal_pin p side Call k d q i l is)

pairs_same : (p : Pair) (a b : Node) (d e : PlainEnd Node) (q r : ℕ) → own p a ≡ own p b → own p d.node ≡ own p e.node → KnowsPair p a d q → KnowsPair p b e r → q ≡ r
pairs_same p a b d e q r s t (inl u) (inl v) = let x : OfCall q ≡ OfCall r = sym u ∙ (s ∙ v) in cc
pairs_same p a b d e q r s t (inl u) (inr v) = let x : OfCall q ≡ OfNet v.0.0 v.0.1 = sym u ∙ (s ∙ v.0.2) in absurd cc
pairs_same p a b d e q r s t (inr u) (inl v) = let x : OfNet u.0.0 u.0.1 ≡ OfCall r = sym u.0.2 ∙ (s ∙ v) in absurd cc
pairs_same p a b d e q r s t (inr u) (inr v) = let x : OfCall q ≡ OfCall r = sym u.1 ∙ (t ∙ v.1) in cc

pub ports_same : (p : Pair) (a b : Node) → same_own (own p a) (own p b) ≡ true → (d e : PlainEnd Node) → IsListed d (near_at p a.side a.kind a.number) → IsListed e (near_at p b.side b.kind b.number)
    → same_own (own p d.node) (own p e.node) ≡ true → port_name d.port ≡ port_name e.port → d.port ≡ e.port
ports_same p a b s d e l m t is = by_port d.port e.port refl refl is
  where
    by_port : (u v : PlainPort) → d.port ≡ u → e.port ≡ v → port_name u ≡ port_name v → u ≡ v
    by_port EitherEnd EitherEnd f g h = refl
    by_port (Other i) (Other j) f g h = h
    by_port (Pin q i) (Pin r j) f g h =
        let k : i ≡ j = cc in
        let o : q ≡ r = pairs_same p a b d e q r ((own_decides (own p a) (own p b)).0 s) ((own_decides (own p d.node) (own p e.node)).0 t)
        (pin_in_near p a.side a.kind a.number d q i l f) (pin_in_near p b.side b.kind b.number e r j m g) in
        ap₂ Pin o k
    by_port EitherEnd (Other j) f g h = absurd cc
    by_port EitherEnd (Pin r j) f g h = absurd cc
    by_port (Other i) EitherEnd f g h = absurd cc
    by_port (Other i) (Pin r j) f g h = absurd cc
    by_port (Pin q i) EitherEnd f g h = absurd cc
    by_port (Pin q i) (Other j) f g h = absurd cc
