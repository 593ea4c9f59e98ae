-- The graph that is built is that of the pair.
use Rattle.std.proofs.Common.{◌≡◌, ℕ, ◌+◌, ◌-◌, ◌*◌, ◌<◌, cond, List, map, length, slice_index, sym, subst, ◌∙◌, ap, ap₂, arith, nat_eq}
use Rattle.std.specs.List.{sum_by}
use Rattle.std.specs.Cmp.{nat_eq_equiv}
use Rattle.std.proofs.lemmas.Bool.Decides.{Decides-eqb}
use Rattle.std.proofs.Common.{length-append}
use Rattle.plain_netlist.specs.Lists.{IsListed}
use Rattle.round_laws.specs.Web.{End as PlainEnd, IsWeb}
use Rattle.round_laws.specs.Nodes.{Layout, Schematic}
use Rattle.round_laws.specs.Colours.{ends_of}
use Rattle.round_laws.proofs.Agree.{at_equivalence}
use Rattle.match_laws.specs.Circuits.{Pair, numbers_from, IsFitting}
use Rattle.match_laws.proofs.Sums.{in_map, in_numbers, numbers_has}
use Rattle.match_graph.specs.declared.sizes.Sizes.{Sizes}
use Rattle.match_graph.specs.declared.edges.Edge.{Edge}
use Rattle.match_graph.specs.declared.graph.End.{End}
use Rattle.match_graph.specs.declared.graph.Graph.{Graph}
use Rattle.match_graph.specs.Numbering.{AreSizesOf, end_of, nodes_in, index_of}
use Rattle.match_graph.specs.Graph.{plain_end, left_of, nodes_of, ends_at, graph_web, IsGraphOf}
use Rattle.match_graph.specs.Edges.{pair_edges}
use Rattle.match_graph.specs.Filling.{ends_from, AreBetween, AreBegins, AreEndsOf}
use Rattle.match_graph.specs.Kinds.{circuit_owns, AreKindsOf}
use Rattle.match_graph.proofs.Filled.{begins_rise, begins_most}
use Rattle.match_graph.proofs.Placed.{side_numbers}
use Rattle.match_graph.proofs.Near.{near_same, index_test}
use Rattle.match_graph.proofs.Paired.{between_nodes, near_left, near_right, edges_turned, pair_owns, owns_long, alike_same, ports_same, index_below}

-- what the arrays are made of
pub record IsBuilt (p : Pair) (g : Graph) : Type 0 where
  pub left : AreSizesOf g.left 0 p.left
  pub right : AreSizesOf g.right (end_of g.left) p.right
  pub begins : AreBegins g.begins.items (pair_edges p) (nodes_of g)
  pub count : length g.ends.items ≡ 2 * length (pair_edges p)
  pub ends : AreEndsOf g.begins.items g.ends.items (pair_edges p) (nodes_of g)
  pub kinds : AreKindsOf g.kinds.items (pair_owns p)

left_is : (p : Pair) (g : Graph) → IsBuilt p g → left_of g ≡ nodes_in p.left
left_is p g b =
    let f = b.right.first_is in
    let z = b.left.first_is in
    let n = b.left.nets in
    let d = b.left.devices in
    let c = b.left.calls in
    omega arith

pub nodes_are : (p : Pair) (g : Graph) → IsBuilt p g → nodes_of g ≡ nodes_in p.left + nodes_in p.right
nodes_are p g b =
    let l = left_is p g b in
    let n = b.right.nets in
    let d = b.right.devices in
    let c = b.right.calls in
    omega arith

ends_are : (p : Pair) (g : Graph) → IsBuilt p g → (a : ℕ) → a < nodes_of g → map plain_end (ends_at g a) ≡ map plain_end (ends_from a (pair_edges p))
ends_are p g b a l = ap (map plain_end) (b.ends.each a l)

web_is : (p : Pair) (g : Graph) → IsFitting p Layout → IsFitting p Schematic → IsBuilt p g → IsWeb (graph_web g)
web_is p g fl fr b =
    let left = left_is p g b in
    let all = nodes_are p g b in
    record {
      is = λ i j. Decides-eqb i j;
      alike = at_equivalence nat_eq (λ a. slice_index g.kinds.items a) nat_eq_equiv;
      left_near = λ a i e j.
          let low = (in_numbers a 0 (left_of g) i).1 in
          let m = in_map plain_end e (ends_at g a) j in
          let x = near_left p fl fr a m.0 (omega arith) (subst (λ (xs : List End). IsListed m.0 xs) (b.ends.each a (omega arith)) m.1) in
          let same : e.node ≡ m.0.node = ap (λ (y : PlainEnd ℕ). y.node) m.2 in
          numbers_has e.node 0 (left_of g) (omega arith) (omega arith);
      right_near = λ a i e j.
          let range = in_numbers a (left_of g) (nodes_of g - left_of g) i in
          let low = range.0 in
          let high = range.1 in
          let m = in_map plain_end e (ends_at g a) j in
          let x = near_right p fl fr a m.0 (omega arith) (subst (λ (xs : List End). IsListed m.0 xs) (b.ends.each a (omega arith)) m.1) in
          let x0 = x.0 in
          let x1 = x.1 in
          let same : e.node ≡ m.0.node = ap (λ (y : PlainEnd ℕ). y.node) m.2 in
          numbers_has e.node (left_of g) (nodes_of g - left_of g) (omega arith) (omega arith);
      apart = λ a i j.
          let x = (in_numbers a 0 (left_of g) i).1 in
          let y = (in_numbers a (left_of g) (nodes_of g - left_of g) j).0 in
          omega arith;
    }

pub graph_is : (p : Pair) (g : Graph) → IsFitting p Layout → IsFitting p Schematic → IsBuilt p g → IsGraphOf p g
graph_is p g fl fr b =
    let left = left_is p g b in
    let all = nodes_are p g b in
    let rest : nodes_of g - left_of g ≡ nodes_in p.right = omega arith in
    record {
      left = b.left;
      right = b.right;
      graph = record {
        first = b.left.first_is;
        next = b.right.first_is;
        begins = b.begins.long;
        rises = λ a l. begins_rise (pair_edges p) (nodes_of g) g.begins.items a (a + 1) b.begins (omega arith) (omega arith);
        fits = λ a l.
            let m = begins_most (pair_edges p) (nodes_of g) g.begins.items (a + 1) b.begins (omega arith) in
            let c = b.count in
            omega arith;
        kinds =
            let k = b.kinds.long in
            let l = length-append (circuit_owns p.told p.left) (circuit_owns p.told p.right) in
            let x = owns_long p.told p.left in
            let y = owns_long p.told p.right in
            omega arith;
        web = web_is p g fl fr b;
        turned = λ x y port lx ly.
            ap (λ (es : List (PlainEnd ℕ)). ends_of (λ z. z) port y es) (ends_are p g b x lx)
            ∙ (edges_turned port x y (pair_edges p) ∙ sym (ap (λ (es : List (PlainEnd ℕ)). ends_of (λ z. z) port x es) (ends_are p g b y ly)));
      };
      renamed = record {
        left = ap (numbers_from 0) left ∙ sym (side_numbers p Layout);
        right = ap₂ numbers_from left rest ∙ sym (side_numbers p Schematic);
        is = λ x y i j. index_test p x y i j;
        alike = λ x y i j. alike_same p g.kinds.items b.kinds x y i j;
        near = λ a i q.
            let l = index_below p a i in
            ap (λ (es : List (PlainEnd ℕ)). sum_by (λ e. cond {A = ℕ} (q e) 1 0) es) (ends_are p g b (index_of p a) (omega arith)) ∙ near_same p fl fr a i (λ e. cond {A = ℕ} (q e) 1 0);
        ports = λ x y i j s d e l m t is. ports_same p x y s d e l m t is;
      };
    }

-- the edges join the nodes
pub built_between : (p : Pair) (left right : Sizes) (edges : List Edge) (n : ℕ) → IsFitting p Layout → IsFitting p Schematic → AreSizesOf left 0 p.left → AreSizesOf right (end_of left) p.right
    → edges ≡ pair_edges p → n ≡ end_of right → AreBetween edges n
built_between p left right edges n fl fr l r e m =
    let lz = l.first_is in
    let ln = l.nets in
    let ld = l.devices in
    let lc = l.calls in
    let rf = r.first_is in
    let rn = r.nets in
    let rd = r.devices in
    let rc = r.calls in
    let all : nodes_in p.left + nodes_in p.right ≡ n = omega arith in
    subst (λ (es : List Edge). AreBetween es n) (sym e) (subst (λ (k : ℕ). AreBetween (pair_edges p) k) all (between_nodes p fl fr))

pub right_sizes : (p : Pair) (left right : Sizes) → AreSizesOf left 0 p.left → AreSizesOf right (end_of left) p.right → AreSizesOf right (nodes_in p.left) p.right
right_sizes p left right l r =
    let lz = l.first_is in
    let ln = l.nets in
    let ld = l.devices in
    let lc = l.calls in
    let e : end_of left ≡ nodes_in p.left = omega arith in
    subst (λ (n : ℕ). AreSizesOf right n p.right) e r

-- what was built of these lists
pub built : (p : Pair) (g : Graph) (edges : List Edge) (n : ℕ) → AreSizesOf g.left 0 p.left → AreSizesOf g.right (end_of g.left) p.right → edges ≡ pair_edges p → n ≡ nodes_of g
    → AreBegins g.begins.items edges n → length g.ends.items ≡ 2 * length edges → AreEndsOf g.begins.items g.ends.items edges n → AreKindsOf g.kinds.items (pair_owns p) → IsBuilt p g
built p g edges n l r e m begins count ends kinds = record {
  left = l;
  right = r;
  begins = subst (λ (k : ℕ). AreBegins g.begins.items (pair_edges p) k) m (subst (λ (es : List Edge). AreBegins g.begins.items es n) e begins);
  count = count ∙ ap (λ (es : List Edge). 2 * length es) e;
  ends = subst (λ (k : ℕ). AreEndsOf g.begins.items g.ends.items (pair_edges p) k) m (subst (λ (es : List Edge). AreEndsOf g.begins.items g.ends.items es n) e ends);
  kinds = kinds;
}
