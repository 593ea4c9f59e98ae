-- The node with a number.
use Rattle.std.proofs.Common.{◌≡◌, ℕ, ◌<◌, arith, subst}
use Rattle.round_laws.specs.Nodes.{Side, Layout, Schematic, Kind, Net, Device, Call}
use Rattle.match_laws.specs.Circuits.{Pair, circuit_of, node}
use Rattle.match_laws.proofs.Images.{size, nodes_has}
use Rattle.match_graph.specs.declared.sizes.Sizes.{Sizes}
use Rattle.match_graph.specs.declared.graph.Graph.{Graph}
use Rattle.match_graph.specs.Numbering.{AreSizesOf, end_of, place_in, count_in, nodes_in, first_of_side, index_of}
use Rattle.match_graph.specs.Graph.{IsGraphOf, IsNumbered}
use Rattle.match_graph.proofs.Near.{is_node}

size_of : (p : Pair) (side : Side) (s : Sizes) (kind : Kind) → AreSizesOf s (first_of_side p side) (circuit_of p side) → count_in s kind ≡ size p side kind
size_of p side s Net h = h.nets
size_of p side s Device h = h.devices
size_of p side s Call h = h.calls

place_is : (p : Pair) (side : Side) (s : Sizes) (kind : Kind) (k : ℕ) → AreSizesOf s (first_of_side p side) (circuit_of p side) → place_in s kind k ≡ index_of p (node side kind k)
place_is p side s Net k h = let f = h.first_is in omega arith
place_is p side s Device k h = let f = h.first_is in let n = h.nets in omega arith
place_is p side s Call k h = let f = h.first_is in let n = h.nets in let d = h.devices in omega arith

on_side : (p : Pair) (side : Side) (s : Sizes) (kind : Kind) (k i : ℕ) → AreSizesOf s (first_of_side p side) (circuit_of p side) → place_in s kind k ≡ i → k < count_in s kind → IsNumbered p i (node side kind k)
on_side p side s kind k i h e l =
    let z = size_of p side s kind h in
    let q = place_is p side s kind k h in
    record { node = is_node p side (node side kind k) (nodes_has p side kind k (omega arith)); index = omega arith }

-- the right sizes begin where the right side does
pub right_first : (p : Pair) (g : Graph) → IsGraphOf p g → AreSizesOf g.right (nodes_in p.left) p.right
right_first p g h =
    let z = h.left.first_is in
    let n = h.left.nets in
    let d = h.left.devices in
    let c = h.left.calls in
    let e : end_of g.left ≡ nodes_in p.left = omega arith in
    subst (λ (x : ℕ). AreSizesOf g.right x p.right) e h.right

pub left_numbered : (p : Pair) (g : Graph) (kind : Kind) (k i : ℕ) → IsGraphOf p g → place_in g.left kind k ≡ i → k < count_in g.left kind → IsNumbered p i (node Layout kind k)
left_numbered p g kind k i h e l = on_side p Layout g.left kind k i h.left e l

pub right_numbered : (p : Pair) (g : Graph) (kind : Kind) (k i : ℕ) → IsGraphOf p g → place_in g.right kind k ≡ i → k < count_in g.right kind → IsNumbered p i (node Schematic kind k)
right_numbered p g kind k i h e l = on_side p Schematic g.right kind k i (right_first p g h) e l
