-- The numbers of nodes.
use Rattle.std.proofs.Common.{◌≡◌, inl, inr, ℕ, zero, suc, ◌+◌, ◌<◌, ◌≤◌, List, [], ◌∷◌, ◌++◌, map, refl, sym, subst, ◌∙◌, ap, ap₂, arith}
use Rattle.std.proofs.lemmas.List.{map-append}
use Rattle.plain_netlist.specs.Lists.{IsListed}
use Rattle.round_laws.specs.Web.{IsNode}
use Rattle.round_laws.specs.Nodes.{Node, Side, Layout, Schematic, Kind, Net, Device, Call}
use Rattle.match_laws.specs.Circuits.{Pair, circuit_of, numbers_from, node, nodes, owners, web_of}
use Rattle.match_laws.proofs.Images.{size, IsThere, nodes_there}
use Rattle.match_graph.specs.Numbering.{nodes_in, first_of_side, first_of_kind, index_of}

-- the numbers of a side
pub side_first : (p : Pair) (side : Side) (kind : Kind) (k : ℕ) → first_of_side p side ≤ index_of p (node side kind k)
side_first p side kind k = omega arith

pub side_last : (p : Pair) (side : Side) (kind : Kind) (k : ℕ) → k < size p side kind → index_of p (node side kind k) < first_of_side p side + nodes_in (circuit_of p side)
side_last p side Net k l = omega arith
side_last p side Device k l = omega arith
side_last p side Call k l = omega arith

-- one side's numbers name one node
same_in : (p : Pair) (side : Side) (kind other : Kind) (k j : ℕ) → k < size p side kind → j < size p side other → index_of p (node side kind k) ≡ index_of p (node side other j) → node side kind k ≡ node side other j
same_in p side Net Net k j l m e = let s : k ≡ j = omega arith in ap (node side Net) s
same_in p side Net Device k j l m e = absurd (omega arith)
same_in p side Net Call k j l m e = absurd (omega arith)
same_in p side Device Net k j l m e = absurd (omega arith)
same_in p side Device Device k j l m e = let s : k ≡ j = omega arith in ap (node side Device) s
same_in p side Device Call k j l m e = absurd (omega arith)
same_in p side Call Net k j l m e = absurd (omega arith)
same_in p side Call Device k j l m e = absurd (omega arith)
same_in p side Call Call k j l m e = let s : k ≡ j = omega arith in ap (node side Call) s

same_node_in : (p : Pair) (side other : Side) (kind kind2 : Kind) (k j : ℕ) → k < size p side kind → j < size p other kind2 → index_of p (node side kind k) ≡ index_of p (node other kind2 j) → node side kind k ≡ node other kind2 j
same_node_in p Layout Layout kind other k j l m e = same_in p Layout kind other k j l m e
same_node_in p Schematic Schematic kind other k j l m e = same_in p Schematic kind other k j l m e
same_node_in p Layout Schematic kind other k j l m e = let a = side_last p Layout kind k l in let b = side_first p Schematic other j in absurd (omega arith)
same_node_in p Schematic Layout kind other k j l m e = let a = side_last p Layout other j m in let b = side_first p Schematic kind k in absurd (omega arith)

-- the side of a node
pub there : (p : Pair) (a : Node) → IsNode (web_of p) a → (side : Side) × IsThere p side a
there p a (inl i) = (Layout, nodes_there p Layout a i)
there p a (inr i) = (Schematic, nodes_there p Schematic a i)

-- nodes of one number are one
pub index-injective : (p : Pair) (a b : Node) → IsNode (web_of p) a → IsNode (web_of p) b → index_of p a ≡ index_of p b → a ≡ b
index-injective p a b i j e =
    let s = there p a i in
    let t = there p b j in
    let u : node s.0 a.kind a.number ≡ a = ap (λ (x : Side). node x a.kind a.number) (sym s.1.stands) in
    let v : node t.0 b.kind b.number ≡ b = ap (λ (x : Side). node x b.kind b.number) (sym t.1.stands) in
    sym u ∙ (same_node_in p s.0 t.0 a.kind b.kind a.number b.number s.1.below t.1.below (ap (index_of p) u ∙ (e ∙ sym (ap (index_of p) v))) ∙ v)

pub index-first : (p : Pair) (side : Side) (a : Node) → IsListed a (nodes p side) → first_of_side p side ≤ index_of p a
index-first p side a i =
    let s = nodes_there p side a i in
    subst (λ (x : Side). first_of_side p x ≤ index_of p a) s.stands (side_first p a.side a.kind a.number)

pub index-last : (p : Pair) (side : Side) (a : Node) → IsListed a (nodes p side) → index_of p a < first_of_side p side + nodes_in (circuit_of p side)
index-last p side a i =
    let s = nodes_there p side a i in
    let here : index_of p (node side a.kind a.number) ≡ index_of p a = ap (λ (x : Side). index_of p (node x a.kind a.number)) (sym s.stands) in
    let l = side_last p side a.kind a.number s.below in
    omega arith

-- the numbers of the nodes of a side, in order
shifted : (h : ℕ → ℕ) (b a n : ℕ) → ((k : ℕ) → h k ≡ b + k) → map h (numbers_from a n) ≡ numbers_from (b + a) n
shifted h b a zero is = refl
shifted h b a (suc n) is =
    let e : b + suc a ≡ suc (b + a) = omega arith in
    ap₂ (λ (x : ℕ) (xs : List ℕ). x ∷ xs) (is a) (shifted h b (suc a) n is ∙ ap (λ (x : ℕ). numbers_from x n) e)

pub map_map : {X Y Z : Type 0} (g : Y → Z) (h : X → Y) (xs : List X) → map g (map h xs) ≡ map (λ x. g (h x)) xs
map_map g h [] = refl
map_map g h (x ∷ xs) = ap (λ zs. g (h x) ∷ zs) (map_map g h xs)

pub numbers_join : (a m n : ℕ) → numbers_from a m ++ numbers_from (a + m) n ≡ numbers_from a (m + n)
numbers_join a zero n =
    let e : a + 0 ≡ a = omega arith in
    let f : 0 + n ≡ n = omega arith in
    ap₂ numbers_from e (sym f)
numbers_join a (suc m) n =
    let e : a + suc m ≡ suc a + m = omega arith in
    let f : suc m + n ≡ suc (m + n) = omega arith in
    ap (λ (xs : List ℕ). a ∷ xs) (ap (λ (x : ℕ). numbers_from (suc a) m ++ numbers_from x n) e ∙ numbers_join (suc a) m n) ∙ ap (numbers_from a) (sym f)

of_kind : (p : Pair) (side : Side) (kind : Kind) (n : ℕ) → map (index_of p) (map (node side kind) (numbers_from 0 n)) ≡ numbers_from (first_of_side p side + first_of_kind (circuit_of p side) kind) n
of_kind p side kind n =
    let e : first_of_side p side + first_of_kind (circuit_of p side) kind + 0 ≡ first_of_side p side + first_of_kind (circuit_of p side) kind = omega arith in
    map_map (index_of p) (node side kind) (numbers_from 0 n)
    ∙ (shifted (λ k. index_of p (node side kind k)) (first_of_side p side + first_of_kind (circuit_of p side) kind) 0 n (λ k. refl) ∙ ap (λ (x : ℕ). numbers_from x n) e)

pub side_numbers : (p : Pair) (side : Side) → map (index_of p) (nodes p side) ≡ numbers_from (first_of_side p side) (nodes_in (circuit_of p side))
side_numbers p side =
    let f : ℕ = first_of_side p side in
    let nets : ℕ = size p side Net in
    let devices : ℕ = size p side Device in
    let calls : ℕ = size p side Call in
    let e0 : first_of_side p side + 0 ≡ first_of_side p side = omega arith in
    let e1 : first_of_side p side + size p side Net + size p side Device ≡ first_of_side p side + (size p side Net + size p side Device) = omega arith in
    let e2 : size p side Net + (size p side Device + size p side Call) ≡ nodes_in (circuit_of p side) = omega arith in
    map-append (index_of p) (map (node side Net) (numbers_from 0 (size p side Net))) (owners p side)
    ∙ (ap₂ (λ (xs ys : List ℕ). xs ++ ys) (of_kind p side Net (size p side Net) ∙ ap (λ (x : ℕ). numbers_from x (size p side Net)) e0)
    (map-append (index_of p) (map (node side Device) (numbers_from 0 (size p side Device))) (map (node side Call) (numbers_from 0 (size p side Call)))
    ∙ (ap₂ (λ (xs ys : List ℕ). xs ++ ys) (of_kind p side Device (size p side Device))
    (of_kind p side Call (size p side Call) ∙ ap (λ (x : ℕ). numbers_from x (size p side Call)) (sym e1))
    ∙ numbers_join (first_of_side p side + size p side Net) (size p side Device) (size p side Call)))
    ∙ (numbers_join (first_of_side p side) (size p side Net) (size p side Device + size p side Call) ∙ ap (numbers_from (first_of_side p side)) e2))
