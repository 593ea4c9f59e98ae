-- The ends of a node in the graph are those of the web.
use Rattle.std.proofs.Common.{◌≡◌, inl, inr, ℕ, ◌+◌, ◌<◌, ◌==◌, Bool, true, false, cond, List, [], ◌∷◌, ◌++◌, map, length, slice_index, slice_get, Option, refl, sym, subst, ◌∙◌, ap, ap₂, arith}
use Rattle.base_laws.proofs.Tests.{same_truth}
use Rattle.std.proofs.lemmas.Bool.{cases_Bool, false_from_ne_true, ne_eqb}
use Rattle.std.specs.List.{count_by, sum_by, flat_map}
use Rattle.std.proofs.lemmas.List.Sums.{sum_by-cons, sum_by-append}
use Rattle.std.proofs.lemmas.Bool.Decides.{Decides-eqb}
use Rattle.plain_netlist.specs.Netlist.{DeviceRow, CallRow}
use Rattle.plain_netlist.specs.Lists.{IsListed}
use Rattle.round_laws.specs.Web.{Port as PlainPort, Pin, End as PlainEnd, IsNode}
use Rattle.round_laws.specs.Nodes.{Node, Side, Layout, Schematic, Kind, Net, Device, Call}
use Rattle.round_laws.proofs.Agree.{in_left, in_right, count_none, count_same}
use Rattle.round_laws.proofs.Stable.{in_either}
use Rattle.round_laws.specs.Renamed.{renamed_end}
use Rattle.match_laws.specs.Circuits.{Pair, circuit_of, numbers_from, node, end_at, right_pin, device_ends, call_ends, terminals, terminals_of, owners, nodes, same_node, ends_on, near_at, web_of, IsFitting}
use Rattle.match_laws.proofs.Sums.{sum_same, sum-map, sum-flat, in_map, number_once}
use Rattle.match_laws.proofs.Images.{size, seen, device_net, node_decides, nodes_there, device_terms, call_terms, terminals_listed, sum-turned}
use Rattle.match_graph.specs.declared.graph.End.{End}
use Rattle.match_graph.specs.declared.edges.Edge.{Edge}
use Rattle.match_graph.specs.Numbering.{nodes_in, index_of}
use Rattle.match_graph.specs.Graph.{plain_end, port_name}
use Rattle.match_graph.specs.Edges.{pair_edges}
use Rattle.match_graph.specs.Filling.{end, one_end, ends_from}
use Rattle.match_graph.proofs.Placed.{index-injective, index-last, side_numbers, numbers_join}
use Rattle.match_graph.proofs.Joined.{port_of, named, edge_of, owner_edges, all_owners, edges_are}

-- sums
sum_none : {X : Type 0} (g : X → ℕ) (xs : List X) → ((x : X) → IsListed x xs → g x ≡ 0) → sum_by g xs ≡ 0
sum_none g [] h = refl
sum_none g (x ∷ xs) h =
    let a = sum_by-cons g x xs in
    let here = h x (inl refl) in
    let rest = sum_none g xs (λ y i. h y (inr i)) in
    omega arith

cond_sum : {X : Type 0} (t : Bool) (g : X → ℕ) (xs : List X) → sum_by (λ x. cond t (g x) 0) xs ≡ cond t (sum_by g xs) 0
cond_sum true g xs = refl
cond_sum false g xs = sum_none (λ x. 0) xs (λ x i. refl)

hit : (t : Bool) (n : ℕ) → t ≡ true → cond t n 0 ≡ n
hit t n e = ap (λ (b : Bool). cond b n 0) e

miss : (t : Bool) (n : ℕ) → t ≡ false → cond t n 0 ≡ 0
miss t n e = ap (λ (b : Bool). cond b n 0) e

-- the one that passes
pick : {X : Type 0} (t : X → Bool) (g : X → ℕ) (n : ℕ) (xs : List X) → ((x : X) → IsListed x xs → t x ≡ true → g x ≡ n) → count_by t xs ≡ 1 → sum_by (λ x. cond (t x) (g x) 0) xs ≡ n
pick t g n [] is one = absurd (omega arith)
pick {X} t g n (x ∷ xs) is one =
    let a = sum_by-cons (λ y. cond {A = ℕ} (t y) 1 0) x xs in
    let b = sum_by-cons (λ y. cond {A = ℕ} (t y) (g y) 0) x xs in
    elim (cases_Bool (t x)) [
      | inl r ↦
          let c = hit (t x) 1 r in
          let d = hit (t x) (g x) r in
          let none : count_by t xs ≡ 0 = omega arith in
          let rest = sum_none (λ y. cond {A = ℕ} (t y) (g y) 0) xs (λ y i. miss (t y) (g y) (false_from_ne_true (t y) (λ u. passes_none t xs none y i u))) in
          let e = is x (inl refl) r in
          omega arith
      | inr r ↦
          let c = miss (t x) 1 r in
          let d = miss (t x) (g x) r in
          let rest = pick t g n xs (λ y i. is y (inr i)) (omega arith) in
          omega arith
    ]
  where
    passes_none : (t : X → Bool) (xs : List X) → count_by t xs ≡ 0 → (y : X) → IsListed y xs → t y ≡ true → ⊥
    passes_none t [] z y i u = i
    passes_none t (x ∷ xs) z y (inl e) u =
        let a = sum_by-cons (λ v. cond {A = ℕ} (t v) 1 0) x xs in
        let h = hit (t x) 1 (ap t (sym e) ∙ u) in
        omega arith
    passes_none t (x ∷ xs) z y (inr i) u =
        let a = sum_by-cons (λ v. cond {A = ℕ} (t v) 1 0) x xs in
        passes_none t xs (omega arith) y i u

cond_list : (t : Bool) (g : End → ℕ) (x : End) → sum_by g (cond t (x ∷ []) []) ≡ cond t (g x) 0
cond_list true g x = let a = sum_by-cons g x [] in let z : sum_by g [] ≡ 0 = refl in omega arith
cond_list false g x = refl

pub one_sum : (g : End → ℕ) (i : ℕ) (e : Edge) → sum_by g (one_end i e) ≡ cond (e.owner == i) (g (end e.port e.net)) 0 + cond (e.net == i) (g (end e.port e.owner)) 0
one_sum g i e =
    let a = sum_by-append g (cond (e.owner == i) (end e.port e.net ∷ []) []) (cond (e.net == i) (end e.port e.owner ∷ []) []) in
    let b = cond_list (e.owner == i) g (end e.port e.net) in
    let c = cond_list (e.net == i) g (end e.port e.owner) in
    omega arith

-- the ends of node number i, as a sum over owners and their terminals
abbrev weight : Pair → (End → ℕ) → ℕ → Node → PlainEnd Node → ℕ
weight p g i o e = cond (index_of p o == i) (g (end (port_of e.port) (index_of p e.node))) 0 + cond (index_of p e.node == i) (g (end (port_of e.port) (index_of p o))) 0

all_sum : (p : Pair) (g : End → ℕ) (i : ℕ) → sum_by g (ends_from i (pair_edges p)) ≡ sum_by (λ o. sum_by (weight p g i o) (terminals_of p o)) (all_owners p)
all_sum p g i =
    ap (λ (es : List Edge). sum_by g (ends_from i es)) (edges_are p)
    ∙ (sum-flat g (one_end i) (flat_map (owner_edges p) (all_owners p))
    ∙ (sum-flat (λ e. sum_by g (one_end i e)) (owner_edges p) (all_owners p)
    ∙ sum_same _ _ (all_owners p) (λ o l.
    sum-map (λ e. sum_by g (one_end i e)) (edge_of p o) (terminals_of p o)
    ∙ sum_same _ _ (terminals_of p o) (λ e m. one_sum g i (edge_of p o e)))))

-- owners are nodes, and no nets
pub owner_node : (p : Pair) (side : Side) (o : Node) → IsListed o (owners p side) → IsListed o (nodes p side)
owner_node p side o i = in_right o (map (node side Net) (numbers_from 0 (size p side Net))) (owners p side) i

owner_kind : (p : Pair) (side : Side) (o : Node) → IsListed o (owners p side) → o.kind ≡ Net → ⊥
owner_kind p side o i e = elim (in_either o (map (node side Device) (numbers_from 0 (size p side Device))) (map (node side Call) (numbers_from 0 (size p side Call))) i) [
  | inl j ↦
      let m = in_map (node side Device) o (numbers_from 0 (size p side Device)) j in
      let k : Device ≡ Net = sym (ap (λ (x : Node). x.kind) m.2) ∙ e in
      cc
  | inr j ↦
      let m = in_map (node side Call) o (numbers_from 0 (size p side Call)) j in
      let k : Call ≡ Net = sym (ap (λ (x : Node). x.kind) m.2) ∙ e in
      cc
]

pub is_node : (p : Pair) (side : Side) (a : Node) → IsListed a (nodes p side) → IsNode (web_of p) a
is_node p Layout a i = inl i
is_node p Schematic a i = inr i

-- terminals stand on nets
pub terminal_net : (p : Pair) (side : Side) (kind : Kind) (k : ℕ) (e : PlainEnd Node) → IsListed e (terminals p side kind k) → e.node.kind ≡ Net
terminal_net p side Net k e i = absurd i
terminal_net p side Device k e i = elim (seen (slice_get (circuit_of p side).devices k)) [
  | inl none ↦ absurd (subst (λ (o : Option DeviceRow). IsListed e (device_terms side o)) none i)
  | inr some ↦
      let j : IsListed e (device_ends side some.0) = subst (λ (o : Option DeviceRow). IsListed e (device_terms side o)) some.1 i in
      ap (λ (x : Node). x.kind) (device_net side some.0 e j).net
]
terminal_net p side Call k e i = elim (seen (slice_get (circuit_of p side).calls k)) [
  | inl none ↦ absurd (subst (λ (o : Option CallRow). IsListed e (call_terms p side o)) none i)
  | inr some ↦
      let j : IsListed e (call_ends p side some.0) = subst (λ (o : Option CallRow). IsListed e (call_terms p side o)) some.1 i in
      let m = in_map (λ x. end_at (Pin some.0.circuit (right_pin p side some.0.circuit x)) (node side Net (slice_index some.0.nets x))) e (numbers_from 0 (length some.0.nets)) j in
      ap (λ (x : PlainEnd Node). x.node.kind) m.2
]

-- the terminals of an owner: its side's nets
pub owner_terminal : (p : Pair) (side : Side) → IsFitting p side → (o : Node) → IsListed o (owners p side) → (e : PlainEnd Node) → IsListed e (terminals_of p o) → IsListed e.node (nodes p side)
owner_terminal p side fit o i e j =
    let t = nodes_there p side o (owner_node p side o i) in
    terminals_listed p side fit o.kind o.number e (subst (λ (s : Side). IsListed e (terminals p s o.kind o.number)) t.stands j)

-- equal numbers of nodes as a test
pub index_test : (p : Pair) (a b : Node) → IsNode (web_of p) a → IsNode (web_of p) b → (index_of p a == index_of p b) ≡ same_node a b
index_test p a b i j = same_truth _ _
    (λ t. (node_decides a b).1 (index-injective p a b i j ((Decides-eqb (index_of p a) (index_of p b)).0 t)))
    (λ t. (Decides-eqb (index_of p a) (index_of p b)).1 (ap (index_of p) ((node_decides a b).0 t)))

unequal_index : (p : Pair) (a b : Node) → IsNode (web_of p) a → IsNode (web_of p) b → (a.kind ≡ b.kind → ⊥) → (index_of p a == index_of p b) ≡ false
unequal_index p a b i j not = ne_eqb (index_of p a) (index_of p b) (λ e. not (ap (λ (x : Node). x.kind) (index-injective p a b i j e)))

-- a node stands once among all
once_all : (p : Pair) (a : Node) → IsNode (web_of p) a → count_by (λ o. index_of p o == index_of p a) (nodes p Layout ++ nodes p Schematic) ≡ 1
once_all p a i =
    let joined : map (index_of p) (nodes p Layout) ++ map (index_of p) (nodes p Schematic) ≡ numbers_from 0 (nodes_in p.left + nodes_in p.right)
    = ap₂ (λ (xs ys : List ℕ). xs ++ ys) (side_numbers p Layout) (side_numbers p Schematic) ∙ (ap (λ (n : ℕ). numbers_from 0 (nodes_in p.left) ++ numbers_from n (nodes_in p.right)) zero_first ∙ numbers_join 0 (nodes_in p.left) (nodes_in p.right)) in
    let both = sum_by-append (λ o. cond {A = ℕ} (index_of p o == index_of p a) 1 0) (nodes p Layout) (nodes p Schematic) in
    let l = sum-map (λ x. cond {A = ℕ} (x == index_of p a) 1 0) (index_of p) (nodes p Layout) in
    let r = sum-map (λ x. cond {A = ℕ} (x == index_of p a) 1 0) (index_of p) (nodes p Schematic) in
    let mapped = sum_by-append (λ x. cond {A = ℕ} (x == index_of p a) 1 0) (map (index_of p) (nodes p Layout)) (map (index_of p) (nodes p Schematic)) in
    let numbers : sum_by (λ x. cond {A = ℕ} (x == index_of p a) 1 0) (map (index_of p) (nodes p Layout) ++ map (index_of p) (nodes p Schematic)) ≡ sum_by (λ x. cond {A = ℕ} (x == index_of p a) 1 0) (numbers_from 0 (nodes_in p.left + nodes_in p.right))
    = ap (sum_by (λ x. cond {A = ℕ} (x == index_of p a) 1 0)) joined in
    let turned : count_by (λ x. x == index_of p a) (numbers_from 0 (nodes_in p.left + nodes_in p.right)) ≡ count_by (λ x. index_of p a == x) (numbers_from 0 (nodes_in p.left + nodes_in p.right))
    = count_same _ _ (numbers_from 0 (nodes_in p.left + nodes_in p.right)) (λ x j. same_truth _ _ (λ t. (Decides-eqb (index_of p a) x).1 (sym ((Decides-eqb x (index_of p a)).0 t))) (λ t. (Decides-eqb x (index_of p a)).1 (sym ((Decides-eqb (index_of p a) x).0 t)))) in
    let below : index_of p a < 0 + (nodes_in p.left + nodes_in p.right)
    = elim i [ inl j ↦ let h = index-last p Layout a j in omega arith | inr j ↦ let h = index-last p Schematic a j in omega arith ] in
    let one = number_once (index_of p a) 0 (nodes_in p.left + nodes_in p.right) (omega arith) below in
    omega arith
  where
    zero_first : nodes_in p.left ≡ 0 + nodes_in p.left
    zero_first = omega arith

net_node : (p : Pair) (side : Side) (o : Node) → IsListed o (map (node side Net) (numbers_from 0 (size p side Net))) → (o.kind ≡ Net) × IsNode (web_of p) o
net_node p side o i =
    let m = in_map (node side Net) o (numbers_from 0 (size p side Net)) i in
    (ap (λ (x : Node). x.kind) m.2, is_node p side o (in_left o (map (node side Net) (numbers_from 0 (size p side Net))) (owners p side) i))

-- an owner stands once among the owners
once_owners : (p : Pair) (a : Node) → IsNode (web_of p) a → (a.kind ≡ Net → ⊥) → count_by (λ o. index_of p o == index_of p a) (all_owners p) ≡ 1
once_owners p a i not =
    let t : Node → Bool = λ (o : Node). index_of p o == index_of p a in
    let all = once_all p a i in
    let both = sum_by-append (λ o. cond {A = ℕ} (index_of p o == index_of p a) 1 0) (nodes p Layout) (nodes p Schematic) in
    let l = sum_by-append (λ o. cond {A = ℕ} (index_of p o == index_of p a) 1 0) (map (node Layout Net) (numbers_from 0 (size p Layout Net))) (owners p Layout) in
    let r = sum_by-append (λ o. cond {A = ℕ} (index_of p o == index_of p a) 1 0) (map (node Schematic Net) (numbers_from 0 (size p Schematic Net))) (owners p Schematic) in
    let own = sum_by-append (λ o. cond {A = ℕ} (index_of p o == index_of p a) 1 0) (owners p Layout) (owners p Schematic) in
    let ln = count_none (λ o. index_of p o == index_of p a) (map (node Layout Net) (numbers_from 0 (size p Layout Net))) (λ o j. let n = net_node p Layout o j in unequal_index p o a n.1 i (λ e. not (sym e ∙ n.0))) in
    let rn = count_none (λ o. index_of p o == index_of p a) (map (node Schematic Net) (numbers_from 0 (size p Schematic Net))) (λ o j. let n = net_node p Schematic o j in unequal_index p o a n.1 i (λ e. not (sym e ∙ n.0))) in
    omega arith

-- an owner is one of the two sides
pub owner_side : (p : Pair) (o : Node) → IsListed o (all_owners p) → (side : Side) × IsListed o (owners p side)
owner_side p o i = elim (in_either o (owners p Layout) (owners p Schematic) i) [ inl j ↦ (Layout, j) | inr j ↦ (Schematic, j) ]

pub fits_both : (p : Pair) → IsFitting p Layout → IsFitting p Schematic → (side : Side) → IsFitting p side
fits_both p l r Layout = l
fits_both p l r Schematic = r

-- the ends of a device or call
owner_sum : (p : Pair) → IsFitting p Layout → IsFitting p Schematic → (a : Node) → IsNode (web_of p) a → (a.kind ≡ Net → ⊥) → (g : End → ℕ)
    → sum_by g (ends_from (index_of p a) (pair_edges p)) ≡ sum_by (λ e. g (end (port_of e.port) (index_of p e.node))) (terminals_of p a)
owner_sum p fl fr a i not g =
    all_sum p g (index_of p a)
    ∙ (sum_same _ _ (all_owners p) (λ o l.
    let s = owner_side p o l in
    sum_same _ _ (terminals_of p o) (λ e m.
    let en = owner_terminal p s.0 (fits_both p fl fr s.0) o s.1 e m in
    let kind = terminal_net p o.side o.kind o.number e m in
    let z = miss (index_of p e.node == index_of p a) (g (end (port_of e.port) (index_of p o))) (unequal_index p e.node a (is_node p s.0 e.node en) i (λ q. not (sym q ∙ kind))) in
    omega arith)
    ∙ cond_sum (index_of p o == index_of p a) (λ e. g (end (port_of e.port) (index_of p e.node))) (terminals_of p o))
    ∙ pick (λ o. index_of p o == index_of p a) (λ o. sum_by (λ e. g (end (port_of e.port) (index_of p e.node))) (terminals_of p o)) _ (all_owners p)
    (λ o l t.
    let s = owner_side p o l in
    let e : o ≡ a = index-injective p o a (is_node p s.0 o (owner_node p s.0 o s.1)) i ((Decides-eqb (index_of p o) (index_of p a)).0 t) in
    ap (λ (x : Node). sum_by (λ y. g (end (port_of y.port) (index_of p y.node))) (terminals_of p x)) e)
    (once_owners p a i not))

-- the ends of a net
abbrev on_net : Pair → (End → ℕ) → Node → Node → ℕ
on_net p g a o = sum_by (λ e. cond (same_node e.node a) (g (end (port_of e.port) (index_of p o))) 0) (terminals_of p o)

net_all : (p : Pair) → IsFitting p Layout → IsFitting p Schematic → (a : Node) → IsNode (web_of p) a → a.kind ≡ Net → (g : End → ℕ)
    → sum_by g (ends_from (index_of p a) (pair_edges p)) ≡ sum_by (on_net p g a) (owners p Layout) + sum_by (on_net p g a) (owners p Schematic)
net_all p fl fr a i is g =
    all_sum p g (index_of p a)
    ∙ (sum_same _ _ (all_owners p) (λ o l.
    let s = owner_side p o l in
    sum_same _ _ (terminals_of p o) (λ e m.
    let en = owner_terminal p s.0 (fits_both p fl fr s.0) o s.1 e m in
    let z = miss (index_of p o == index_of p a) (g (end (port_of e.port) (index_of p e.node))) (unequal_index p o a (is_node p s.0 o (owner_node p s.0 o s.1)) i (λ q. owner_kind p s.0 o s.1 (q ∙ is))) in
    let t = ap (λ (b : Bool). cond b (g (end (port_of e.port) (index_of p o))) 0) (index_test p e.node a (is_node p s.0 e.node en) i) in
    omega arith))
    ∙ sum_by-append (on_net p g a) (owners p Layout) (owners p Schematic))

other_none : (p : Pair) (side other : Side) → IsFitting p other → (a : Node) → a.side ≡ side → (side ≡ other → ⊥) → (g : End → ℕ) → sum_by (on_net p g a) (owners p other) ≡ 0
other_none p side other fit a stands not g = sum_none (on_net p g a) (owners p other) (λ o i.
    sum_none _ (terminals_of p o) (λ e m. miss (same_node e.node a) (g (end (port_of e.port) (index_of p o)))
    (false_from_ne_true (same_node e.node a) (λ t.
    let n : e.node ≡ a = (node_decides e.node a).0 t in
    let s = nodes_there p other e.node (owner_terminal p other fit o i e m) in
    not (sym stands ∙ (sym (ap (λ (x : Node). x.side) n) ∙ s.stands))))))

net_sum : (p : Pair) → IsFitting p Layout → IsFitting p Schematic → (side : Side) (a : Node) → IsListed a (nodes p side) → a.kind ≡ Net → (g : End → ℕ)
    → sum_by g (ends_from (index_of p a) (pair_edges p)) ≡ sum_by (on_net p g a) (owners p side)
net_sum p fl fr Layout a i is g =
    let h = net_all p fl fr a (inl i) is g in
    let z = other_none p Layout Schematic fr a (nodes_there p Layout a i).stands (λ e. cc) g in
    omega arith
net_sum p fl fr Schematic a i is g =
    let h = net_all p fl fr a (inr i) is g in
    let z = other_none p Schematic Layout fl a (nodes_there p Schematic a i).stands (λ e. cc) g in
    omega arith

-- the ends of each node
renamed_same : (p : Pair) (g : PlainEnd ℕ → ℕ) (q : PlainPort) (n : Node) → g (plain_end (end (port_of q) (index_of p n))) ≡ g (renamed_end (index_of p) port_name (end_at q n))
renamed_same p g q n = ap (λ (r : PlainPort). g (record { port = r; node = index_of p n })) (named q)

near_in : (p : Pair) → IsFitting p Layout → IsFitting p Schematic → (side : Side) (kind : Kind) (k : ℕ) → IsListed (node side kind k) (nodes p side) → (g : PlainEnd ℕ → ℕ)
    → sum_by (λ e. g (plain_end e)) (ends_from (index_of p (node side kind k)) (pair_edges p)) ≡ sum_by (λ e. g (renamed_end (index_of p) port_name e)) (near_at p side kind k)
near_in p fl fr side Net k i g =
    net_sum p fl fr side (node side Net k) i refl (λ e. g (plain_end e))
    ∙ (sum_same _ _ (owners p side) (λ o l.
    sum_same _ _ (terminals_of p o) (λ e m. ap (λ (n : ℕ). cond (same_node e.node (node side Net k)) n 0) (renamed_same p g e.port o))
    ∙ sym (sum-turned (λ e. g (renamed_end (index_of p) port_name e)) (node side Net k) o (terminals_of p o)))
    ∙ sym (sum-flat (λ e. g (renamed_end (index_of p) port_name e)) (λ o. ends_on (node side Net k) o (terminals_of p o)) (owners p side)))
near_in p fl fr side Device k i g =
    owner_sum p fl fr (node side Device k) (is_node p side (node side Device k) i) (λ e. cc) (λ e. g (plain_end e))
    ∙ sum_same _ _ (terminals p side Device k) (λ e m. renamed_same p g e.port e.node)
near_in p fl fr side Call k i g =
    owner_sum p fl fr (node side Call k) (is_node p side (node side Call k) i) (λ e. cc) (λ e. g (plain_end e))
    ∙ sum_same _ _ (terminals p side Call k) (λ e m. renamed_same p g e.port e.node)

near_side : (p : Pair) → IsFitting p Layout → IsFitting p Schematic → (side : Side) (a : Node) → IsListed a (nodes p side) → (g : PlainEnd ℕ → ℕ)
    → sum_by g (map plain_end (ends_from (index_of p a) (pair_edges p))) ≡ sum_by (λ e. g (renamed_end (index_of p) port_name e)) (near_at p a.side a.kind a.number)
near_side p fl fr side a i g =
    let t = nodes_there p side a i in
    sum-map g plain_end (ends_from (index_of p a) (pair_edges p))
    ∙ near_in p fl fr a.side a.kind a.number (subst (λ (s : Side). IsListed a (nodes p s)) (sym t.stands) i) g

pub near_same : (p : Pair) → IsFitting p Layout → IsFitting p Schematic → (a : Node) → IsNode (web_of p) a → (g : PlainEnd ℕ → ℕ)
    → sum_by g (map plain_end (ends_from (index_of p a) (pair_edges p))) ≡ sum_by (λ e. g (renamed_end (index_of p) port_name e)) (near_at p a.side a.kind a.number)
near_same p fl fr a (inl i) g = near_side p fl fr Layout a i g
near_same p fl fr a (inr i) g = near_side p fl fr Schematic a i g
