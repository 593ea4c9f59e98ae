-- Edges of rows, one row after another.
use Rattle.std.proofs.Common.{◌≡◌, ℕ, zero, suc, ◌+◌, List, [], ◌∷◌, ◌++◌, length, map, take, slice_get, slice_index, Option, Some, None, refl, sym, ◌∙◌, ap, arith, append_assoc}
use Rattle.std.proofs.lemmas.List.{append-nil, map_push}
use Rattle.plain_netlist.specs.Netlist.{CallRow}
use Rattle.round_laws.specs.Nodes.{Side, Layout, Schematic}
use Rattle.match_laws.specs.Circuits.{numbers_from}
use Rattle.match_parts.specs.Rows.{AreCallPins}
use Rattle.match_graph.specs.declared.edges.Edge.{Edge}
use Rattle.match_graph.specs.declared.graph.Port.TheVariants as port
use Rattle.match_graph.specs.Edges.{edge, edges_from, pin_in, pins_on, pin_edges, HavePins}

more : {X : Type 0} (f : ℕ → X → List Edge) (o i : ℕ) (xs : List X) (x : X) → slice_get xs i ≡ Some x → edges_from f o (take (suc i) xs) ≡ edges_from f o (take i xs) ++ f (o + i) x
more f o i [] x g = absurd cc
more {X} f o zero (y ∷ xs) x g =
    let e : y ≡ x = cc in
    let z : o ≡ o + 0 = omega arith in
    append-nil (f o y) ∙ (ap (f o) e ∙ ap (λ (n : ℕ). f n x) z)
more f o (suc i) (y ∷ xs) x g =
    let s : suc o + i ≡ o + suc i = omega arith in
    ap (λ (es : List Edge). f o y ++ es) (more f (suc o) i xs x g)
    ∙ (sym (append_assoc (f o y) (edges_from f (suc o) (take i xs)) (f (suc o + i) x))
    ∙ ap (λ (n : ℕ). (f o y ++ edges_from f (suc o) (take i xs)) ++ f n x) s)

-- the edges of one row more
pub step : {X : Type 0} (f : ℕ → X → List Edge) (o i owner : ℕ) (xs : List X) (x : X) (old cur new : List Edge) → slice_get xs i ≡ Some x → owner ≡ o + i
    → cur ≡ old ++ edges_from f o (take i xs) → new ≡ cur ++ f owner x → new ≡ old ++ edges_from f o (take (i + 1) xs)
step {X} f o i owner xs x old cur new g w e n =
    let s : suc i ≡ i + 1 = omega arith in
    n ∙ (ap (λ (k : ℕ). cur ++ f k x) w ∙ (ap (λ (es : List Edge). es ++ f (o + i) x) e
    ∙ (append_assoc old (edges_from f o (take i xs)) (f (o + i) x)
    ∙ (ap (λ (es : List Edge). old ++ es) (sym (more f o i xs x g))
    ∙ ap (λ (k : ℕ). old ++ edges_from f o (take k xs)) s))))

-- one number more
pub numbers_more : (a n : ℕ) → numbers_from a (n + 1) ≡ numbers_from a n ++ (a + n) ∷ []
numbers_more a zero = let e : a ≡ a + 0 = omega arith in ap (λ (k : ℕ). k ∷ []) e
numbers_more a (suc n) =
    let s : suc n + 1 ≡ suc (n + 1) = omega arith in
    let t : suc a + n ≡ a + suc n = omega arith in
    ap (numbers_from a) s ∙ ap (λ (xs : List ℕ). a ∷ xs) (numbers_more (suc a) n ∙ ap (λ (k : ℕ). numbers_from (suc a) n ++ k ∷ []) t)

-- the list of a call's pair has a right pin for each of its pins
pub have_pins : (children : ℕ → Option (List ℕ)) (side : Side) (c : CallRow) → AreCallPins children c → HavePins (pins_on children side c.circuit) (length c.nets)
have_pins children Layout c h = of_list (children c.circuit) (λ pins e. (h pins e).count)
  where
    of_list : (o : Option (List ℕ)) → ((pins : List ℕ) → o ≡ Some pins → length pins ≡ length c.nets) → HavePins o (length c.nets)
    of_list None h = tt
    of_list (Some pins) h = h pins refl
have_pins children Schematic c h = tt

-- the edge of one pin more
pub pin_step : (first owner : ℕ) (pins : Option (List ℕ)) (nets : List ℕ) (i pin : ℕ) (old cur new : List Edge) → cur ≡ old ++ pin_edges first owner pins nets i → pin ≡ pin_in pins i
    → new ≡ cur ++ edge owner (port.Pin pin) (first + slice_index nets i) ∷ [] → new ≡ old ++ pin_edges first owner pins nets (i + 1)
pin_step first owner pins nets i pin old cur new e p n =
    let zero_i : 0 + i ≡ i = omega arith in
    n ∙ (ap (λ (k : ℕ). cur ++ edge owner (port.Pin k) (first + slice_index nets i) ∷ []) p
    ∙ (ap (λ (es : List Edge). es ++ edge owner (port.Pin (pin_in pins i)) (first + slice_index nets i) ∷ []) e
    ∙ (append_assoc old (pin_edges first owner pins nets i) (edge owner (port.Pin (pin_in pins i)) (first + slice_index nets i) ∷ [])
    ∙ ap (λ (es : List Edge). old ++ es) (sym (ap (map (λ (j : ℕ). edge owner (port.Pin (pin_in pins j)) (first + slice_index nets j))) (numbers_more 0 i ∙ ap (λ (k : ℕ). numbers_from 0 i ++ k ∷ []) zero_i)
    ∙ map_push (λ (j : ℕ). edge owner (port.Pin (pin_in pins j)) (first + slice_index nets j)) (numbers_from 0 i) i)))))
