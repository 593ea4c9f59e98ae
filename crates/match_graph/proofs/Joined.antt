-- The edges of a pair are the terminals of its devices and calls, and give each node its ends.
use Rattle.std.proofs.Common.{◌≡◌, ℕ, suc, ◌+◌, List, [], ◌∷◌, ◌++◌, map, length, slice_index, slice_get, Option, Some, None, refl, sym, ◌∙◌, ap, ap₂, arith}
use Rattle.std.specs.List.{flat_map}
use Rattle.std.proofs.lemmas.List.Concat.{flat_map-append}
use Rattle.plain_netlist.specs.Devices.{Ends, NoEnds, Both}
use Rattle.plain_netlist.specs.Netlist.{DeviceRow, CallRow, Circuit}
use Rattle.round_laws.specs.Web.{Port as PlainPort, EitherEnd, Other, Pin, End as PlainEnd}
use Rattle.round_laws.specs.Nodes.{Node, Side, Layout, Schematic, Net, Device, Call}
use Rattle.match_laws.specs.Circuits.{Pair, circuit_of, numbers_from, node, end_at, right_pin, other_ends, terminal_ends, call_ends, terminals_of, owners}
use Rattle.match_laws.proofs.Images.{device_terms, call_terms}
use Rattle.match_graph.specs.declared.graph.Port.{Port}
use Rattle.match_graph.specs.declared.graph.Port.TheVariants as port
use Rattle.match_graph.specs.declared.edges.Edge.{Edge}
use Rattle.match_graph.specs.Numbering.{first_of_side, index_of}
use Rattle.match_graph.specs.Graph.{plain_port, port_name}
use Rattle.match_graph.specs.Edges.{edge, device_edges, other_edges, terminal_edges, call_edges, pin_in, pins_on, edges_from, side_edges, pair_edges}
use Rattle.match_graph.proofs.Placed.{map_map}

-- a kind of terminal as the graph has it
abbrev pub port_of : PlainPort → Port
port_of EitherEnd = port.EitherEnd
port_of (Other k) = port.Other k
port_of (Pin pair i) = port.Pin i

pub named : (q : PlainPort) → plain_port (port_of q) ≡ port_name q
named EitherEnd = refl
named (Other k) = refl
named (Pin pair i) = refl

-- the edge of a terminal of a node
abbrev pub edge_of : Pair → Node → PlainEnd Node → Edge
edge_of p o e = edge (index_of p o) (port_of e.port) (index_of p e.node)

-- the edges of a node's terminals
abbrev pub owner_edges : Pair → Node → List Edge
owner_edges p o = map (edge_of p o) (terminals_of p o)

rows_edges : {X : Type 0} (f : ℕ → X → List Edge) (h : ℕ → List Edge) (start a : ℕ) (rows : List X) → ((k : ℕ) (x : X) → slice_get rows k ≡ Some x → h (a + k) ≡ f (start + k) x)
    → edges_from f start rows ≡ flat_map h (numbers_from a (length rows))
rows_edges f h start a [] is = refl
rows_edges {X} f h start a (x ∷ rows) is =
    let e0 : a + 0 ≡ a = omega arith in
    let s0 : start + 0 ≡ start = omega arith in
    let first : f start x ≡ h a = sym (ap h (sym e0) ∙ (is 0 x refl ∙ ap (λ (n : ℕ). f n x) s0)) in
    ap₂ (λ (us vs : List Edge). us ++ vs) first
    (rows_edges f h (suc start) (suc a) rows (λ k y g.
    let e : suc a + k ≡ a + suc k = omega arith in
    let s : start + suc k ≡ suc start + k = omega arith in
    ap h e ∙ (is (suc k) y g ∙ ap (λ (n : ℕ). f n y) s)))

flat_map_map : {X Y Z : Type 0} (g : Y → List Z) (h : X → Y) (xs : List X) → flat_map g (map h xs) ≡ flat_map (λ x. g (h x)) xs
flat_map_map g h [] = refl
flat_map_map {X} {Y} {Z} g h (x ∷ xs) = ap (λ (zs : List Z). g (h x) ++ zs) (flat_map_map g h xs)

-- the nets of a side
net_index : (p : Pair) (side : Side) (k : ℕ) → first_of_side p side + k ≡ index_of p (node side Net k)
net_index p side k = omega arith

other_same : (p : Pair) (side : Side) (o : Node) (owner place : ℕ) (ns : List ℕ) → index_of p o ≡ owner → map (edge_of p o) (other_ends side place ns) ≡ other_edges (first_of_side p side) owner place ns
other_same p side o owner place [] e = refl
other_same p side o owner place (n ∷ ns) e =
    ap₂ (λ (x : Edge) (xs : List Edge). x ∷ xs) (ap₂ (λ (m k : ℕ). edge m (port.Other place) k) e (sym (net_index p side n))) (other_same p side o owner (suc place) ns e)

end_same : (p : Pair) (side : Side) (o : Node) (owner n : ℕ) → index_of p o ≡ owner → edge (index_of p o) port.EitherEnd (index_of p (node side Net n)) ≡ edge owner port.EitherEnd (first_of_side p side + n)
end_same p side o owner n e = ap₂ (λ (m k : ℕ). edge m port.EitherEnd k) e (sym (net_index p side n))

terminal_same : (p : Pair) (side : Side) (o : Node) (owner : ℕ) (ends : Ends ℕ) (ns : List ℕ) → index_of p o ≡ owner → map (edge_of p o) (terminal_ends side ends ns) ≡ terminal_edges (first_of_side p side) owner ends ns
terminal_same p side o owner NoEnds ns e = other_same p side o owner 0 ns e
terminal_same p side o owner (Both a b) [] e = ap₂ (λ (x y : Edge). x ∷ y ∷ []) (end_same p side o owner b e) (end_same p side o owner a e)
terminal_same p side o owner (Both a b) (n ∷ ns) e =
    ap₂ (λ (x : Edge) (xs : List Edge). x ∷ xs) (end_same p side o owner b e)
    (ap₂ (λ (x : Edge) (xs : List Edge). x ∷ xs) (ap₂ (λ (m k : ℕ). edge m (port.Other 0) k) e (sym (net_index p side n)))
    (ap₂ (λ (x : Edge) (xs : List Edge). x ∷ xs) (end_same p side o owner a e) (other_same p side o owner 1 ns e)))

pin_same : (p : Pair) (side : Side) (pair i : ℕ) → right_pin p side pair i ≡ pin_in (pins_on p.children side pair) i
pin_same p Layout pair i = of_list (p.children pair)
  where
    of_list : (o : Option (List ℕ)) → elim o [ None ↦ i | Some pins ↦ slice_index pins i ] ≡ pin_in o i
    of_list None = refl
    of_list (Some pins) = refl
pin_same p Schematic pair i = refl

map_same : {X Y : Type 0} (f g : X → Y) (xs : List X) → ((x : X) → f x ≡ g x) → map f xs ≡ map g xs
map_same f g [] is = refl
map_same {X} {Y} f g (x ∷ xs) is = ap₂ (λ (y : Y) (ys : List Y). y ∷ ys) (is x) (map_same f g xs is)

pins_edges : (p : Pair) (side : Side) (o : Node) (owner : ℕ) (c : CallRow) → index_of p o ≡ owner → map (edge_of p o) (call_ends p side c) ≡ call_edges p.children side (first_of_side p side) owner c
pins_edges p side o owner c e =
    map_map (edge_of p o) (λ (i : ℕ). end_at (Pin c.circuit (right_pin p side c.circuit i)) (node side Net (slice_index c.nets i))) (numbers_from 0 (length c.nets))
    ∙ map_same _ _ (numbers_from 0 (length c.nets)) (λ i.
    ap (λ (n : ℕ). edge n (port.Pin (right_pin p side c.circuit i)) (index_of p (node side Net (slice_index c.nets i)))) e
    ∙ ap₂ (λ (x y : ℕ). edge owner (port.Pin x) y) (pin_same p side c.circuit i) (sym (net_index p side (slice_index c.nets i))))

-- the edges of a side
pub side_is : (p : Pair) (side : Side) → side_edges p.children side (first_of_side p side) (circuit_of p side) ≡ flat_map (owner_edges p) (owners p side)
side_is p side =
    let c : Circuit = circuit_of p side in
    let first : ℕ = first_of_side p side in
    ap₂ (λ (us vs : List Edge). us ++ vs)
    (rows_edges (device_edges (first_of_side p side)) (λ k. owner_edges p (node side Device k)) (first_of_side p side + length (circuit_of p side).nets) 0 (circuit_of p side).devices
    (λ k d g.
    let z : 0 + k ≡ k = omega arith in
    ap (λ (n : ℕ). owner_edges p (node side Device n)) z
    ∙ (ap (λ (o : Option DeviceRow). map (edge_of p (node side Device k)) (device_terms side o)) g
    ∙ terminal_same p side (node side Device k) (first_of_side p side + length (circuit_of p side).nets + k) d.ends d.others refl))
    ∙ sym (flat_map_map (owner_edges p) (node side Device) (numbers_from 0 (length (circuit_of p side).devices))))
    (rows_edges (call_edges p.children side (first_of_side p side)) (λ k. owner_edges p (node side Call k)) (first_of_side p side + length (circuit_of p side).nets + length (circuit_of p side).devices) 0 (circuit_of p side).calls
    (λ k d g.
    let z : 0 + k ≡ k = omega arith in
    let e : first_of_side p side + (length (circuit_of p side).nets + length (circuit_of p side).devices) + k ≡ first_of_side p side + length (circuit_of p side).nets + length (circuit_of p side).devices + k = omega arith in
    ap (λ (n : ℕ). owner_edges p (node side Call n)) z
    ∙ (ap (λ (o : Option CallRow). map (edge_of p (node side Call k)) (call_terms p side o)) g
    ∙ pins_edges p side (node side Call k) (first_of_side p side + length (circuit_of p side).nets + length (circuit_of p side).devices + k) d e))
    ∙ sym (flat_map_map (owner_edges p) (node side Call) (numbers_from 0 (length (circuit_of p side).calls))))
    ∙ sym (flat_map-append (owner_edges p) (map (node side Device) (numbers_from 0 (length (circuit_of p side).devices))) (map (node side Call) (numbers_from 0 (length (circuit_of p side).calls))))

abbrev pub all_owners : Pair → List Node
all_owners p = owners p Layout ++ owners p Schematic

pub edges_are : (p : Pair) → pair_edges p ≡ flat_map (owner_edges p) (all_owners p)
edges_are p = ap₂ (λ (us vs : List Edge). us ++ vs) (side_is p Layout) (side_is p Schematic) ∙ sym (flat_map-append (owner_edges p) (owners p Layout) (owners p Schematic))
