-- The next candidate of a node of the circuits.
use Rattle.std.proofs.Common.{◌≡◌, inl, inr, ◌<◌, ◌≤◌, ◌+◌, ◌-◌, ◌^◌, ◌&&◌, ℕ, zero, suc, Bool, true, false, not, Option, Some, None, List, [], ◌∷◌, filter, length, slice_get, slice_index, slice_index_or, nat_lt, bytes_eq, refl, sym, subst, ◌∙◌, ap, ap₂, arith, true≢false}
use Rattle.std.proofs.lemmas.Bool.{not_from_false, not-true, and_from, cases_Bool, false_from_ne_true}
use Rattle.std.proofs.lemmas.Bool.Decides.{Decides-ltb}
use Rattle.plain_netlist.specs.Lists.{IsListed}
use Rattle.plain_netlist.specs.Netlist.{DeviceRow, CallRow}
use Rattle.round_laws.specs.Web.{Guess, agree, alike_under, under}
use Rattle.round_laws.specs.Nodes.{Node, Side, Layout, Schematic, Kind, Net, Device, Call}
use Rattle.round_laws.specs.Guesses.{candidates}
use Rattle.round_laws.proofs.Agree.{first, second}
use Rattle.round_laws.proofs.Guesses.{in_filter, of_filter}
use Rattle.round_laws.proofs.Stable.{agreed_first, in_either}
use Rattle.round_laws.proofs.Agree.{in_left, in_right}
use Rattle.match_laws.specs.Circuits.{Pair, OfNet, OfDevice, OfCall, OfNone, node, nodes, own, same_own, web_of}
use Rattle.match_laws.specs.Answer.{equal_names, same_bytes, setting_of}
use Rattle.match_laws.proofs.Images.{size, nodes_there}
use Rattle.match_graph.specs.declared.graph.Graph.{Graph}
use Rattle.match_graph.specs.Graph.{left_of, nodes_of}
use Rattle.match_graph.specs.Numbering.{first_of_side, index_of, nodes_in}
use Rattle.match_graph.proofs.Named.{right_first}
use Rattle.match_graph.proofs.Placed.{index-first, side_numbers}
use Rattle.net_model.specs.declared.netlist.Circuit.{Circuit}
use Rattle.match_rounds.specs.declared.classes.Classes.{Classes}
use Rattle.match_rounds.specs.Classes.{class_in}
use Rattle.match_rounds.specs.Turned.{AreAllOf}
use Rattle.match_rounds.proofs.Counting.{any_index}
use Rattle.match_rounds.proofs.Started.{node_below, below_node}
use Rattle.refine_match.specs.declared.candidates.Candidate.{Candidate}
use Rattle.refine_match.specs.Classes.{AreStableClasses, class_of_node}
use Rattle.refine_match.specs.Candidates.{IsPairOf, have_one_name, rank_of, candidate_rank, is_behind, rank_at, IsBestBehind, rank_in, IsNextOf}
use Rattle.refine_match.proofs.Chosen.{left_count, right_listed}
use Rattle.refine_match.proofs.Crossed.{came_from, goes_to}
use Rattle.refine_match.proofs.Rising.{IsRising, filter_passes, numbered, filtered, joined, none_pass, head_is}

read_name : (xs : List (List ℕ)) (k : ℕ) → k < length xs → slice_get xs k ≡ Some (slice_index_or xs k [])
read_name [] k l = absurd (omega arith)
read_name (x ∷ xs) zero l = refl
read_name (x ∷ xs) (suc k) l = read_name xs k (omega arith)

no_device : (b : Bool) (n : List ℕ) (o : Option DeviceRow) → same_own (OfNet b n) (elim o [ None ↦ OfNone | Some d ↦ OfDevice d.kind d.class d.sizes ]) ≡ true → ⊥
no_device b n None t = true≢false (sym t)
no_device b n (Some d) t = true≢false (sym t)

no_call : (b : Bool) (n : List ℕ) (o : Option CallRow) → same_own (OfNet b n) (elim o [ None ↦ OfNone | Some c ↦ OfCall c.circuit ]) ≡ true → ⊥
no_call b n None t = true≢false (sym t)
no_call b n (Some c) t = true≢false (sym t)

false_and : (a b : Bool) → a ≡ false → false ≡ (a && b)
false_and true b e = absurd (true≢false e)
false_and false b e = refl

-- names of nodes that look alike are told by their numbers
names_at : (p : Pair) (g : Graph) (left right : Circuit) → IsPairOf p g left right → (kind other : Kind) (k j : ℕ) → k < size p Layout kind → j < size p Schematic other
    → same_own (own p (node Layout kind k)) (own p (node Schematic other j)) ≡ true
    → equal_names p (node Layout kind k) (node Schematic other j) ≡ have_one_name g left right (index_of p (node Layout kind k)) (index_of p (node Schematic other j))
names_at p g left right h Net Net k j lk lj t =
    let f = h.graph.left.first_is in
    let n = h.graph.left.nets in
    let r = right_first p g h.graph in
    let rf = r.first_is in
    let rn = r.nets in
    let ln : p.left.nets ≡ left.nets.items = ap (λ (q : _). q.nets) h.left_is in
    let rr : p.right.nets ≡ right.nets.items = ap (λ (q : _). q.nets) h.right_is in
    let ek : index_of p (node Layout Net k) - g.left.first ≡ k = omega arith in
    let ej : index_of p (node Schematic Net j) - g.right.first ≡ j = omega arith in
    let one : nat_lt (index_of p (node Layout Net k)) (g.left.first + g.left.nets + 0) ≡ true = (Decides-ltb (index_of p (node Layout Net k)) (g.left.first + g.left.nets + 0)).1 (omega arith) in
    let two : nat_lt (index_of p (node Schematic Net j)) (g.right.first + g.right.nets + 0) ≡ true = (Decides-ltb (index_of p (node Schematic Net j)) (g.right.first + g.right.nets + 0)).1 (omega arith) in
    let here : equal_names p (node Layout Net k) (node Schematic Net j) ≡ bytes_eq (slice_index_or p.left.nets k []) (slice_index_or p.right.nets j [])
    = ap₂ same_bytes (read_name p.left.nets k lk) (read_name p.right.nets j lj) in
    let there : bytes_eq (slice_index_or p.left.nets k []) (slice_index_or p.right.nets j []) ≡ bytes_eq (slice_index_or left.nets.items (index_of p (node Layout Net k) - g.left.first) []) (slice_index_or right.nets.items (index_of p (node Schematic Net j) - g.right.first) [])
    = ap₂ bytes_eq (ap₂ (λ (xs : List (List ℕ)) (i : ℕ). slice_index_or xs i []) ln (sym ek)) (ap₂ (λ (xs : List (List ℕ)) (i : ℕ). slice_index_or xs i []) rr (sym ej)) in
    here ∙ (there ∙ sym (ap₂ (λ (u v : Bool). u && (v && bytes_eq (slice_index_or left.nets.items (index_of p (node Layout Net k) - g.left.first) []) (slice_index_or right.nets.items (index_of p (node Schematic Net j) - g.right.first) []))) one two))
names_at p g left right h Net Device k j lk lj t = absurd (no_device _ _ (slice_get p.right.devices j) t)
names_at p g left right h Net Call k j lk lj t = absurd (no_call _ _ (slice_get p.right.calls j) t)
names_at p g left right h Device other k j lk lj t =
    let f = h.graph.left.first_is in
    let n = h.graph.left.nets in
    let not_net : nat_lt (index_of p (node Layout Device k)) (g.left.first + g.left.nets + 0) ≡ false = false_from_ne_true (nat_lt (index_of p (node Layout Device k)) (g.left.first + g.left.nets + 0)) (λ s. let l = (Decides-ltb (index_of p (node Layout Device k)) (g.left.first + g.left.nets + 0)).0 s in omega arith) in
    false_and (nat_lt (index_of p (node Layout Device k)) (g.left.first + g.left.nets + 0)) _ not_net
names_at p g left right h Call other k j lk lj t =
    let f = h.graph.left.first_is in
    let n = h.graph.left.nets in
    let not_net : nat_lt (index_of p (node Layout Call k)) (g.left.first + g.left.nets + 0) ≡ false = false_from_ne_true (nat_lt (index_of p (node Layout Call k)) (g.left.first + g.left.nets + 0)) (λ s. let l = (Decides-ltb (index_of p (node Layout Call k)) (g.left.first + g.left.nets + 0)).0 s in omega arith) in
    false_and (nat_lt (index_of p (node Layout Call k)) (g.left.first + g.left.nets + 0)) _ not_net

ranks_same : (p : Pair) (g : Graph) (left right : Circuit) (a b : Node) (x : ℕ) → IsPairOf p g left right → IsListed a (nodes p Layout) → IsListed b (nodes p Schematic) → same_own (own p a) (own p b) ≡ true → index_of p a ≡ x
    → rank_in p a b ≡ rank_at g left right x (index_of p b)
ranks_same p g left right a b x h i j t e =
    let s = nodes_there p Layout a i in
    let u = nodes_there p Schematic b j in
    let ea : node Layout a.kind a.number ≡ a = ap (λ (v : Side). node v a.kind a.number) (sym s.stands) in
    let eb : node Schematic b.kind b.number ≡ b = ap (λ (v : Side). node v b.kind b.number) (sym u.stands) in
    let names : equal_names p a b ≡ have_one_name g left right (index_of p a) (index_of p b)
    = subst (λ (v : Node). equal_names p v b ≡ have_one_name g left right (index_of p v) (index_of p b)) ea
    (subst (λ (v : Node). equal_names p (node Layout a.kind a.number) v ≡ have_one_name g left right (index_of p (node Layout a.kind a.number)) (index_of p v)) eb
    (names_at p g left right h a.kind b.kind a.number b.number s.below u.below
    (subst (λ (v : Node). same_own (own p v) (own p (node Schematic b.kind b.number)) ≡ true) (sym ea) (subst (λ (v : Node). same_own (own p a) (own p v) ≡ true) (sym eb) t)))) in
    ap (λ (n : Bool). rank_of n (index_of p b)) names ∙ ap (λ (y : ℕ). rank_of (have_one_name g left right y (index_of p b)) (index_of p b)) e

pub behind_up : (last : Option Candidate) (m n : ℕ) → m ≤ n → is_behind last m ≡ true → is_behind last n ≡ true
behind_up None m n l t = refl
behind_up (Some c) m n l t = let k = (Decides-ltb (candidate_rank c) m).0 t in (Decides-ltb (candidate_rank c) n).1 (omega arith)

-- the candidates' list
abbrev list_of : Pair → List (Guess Node) → ℕ → Node → ℕ → List Node
list_of p qs k a limit = candidates (setting_of p (equal_names p) limit) (under (web_of p) qs) k a

is_candidate : (p : Pair) (qs : List (Guess Node)) (k limit : ℕ) (a b : Node) → IsListed b (list_of p qs k a limit) → IsListed b (nodes p Schematic) × (agree (under (web_of p) qs) k a b ≡ true)
is_candidate p qs k limit a b i = elim (in_either b (filter (λ b. agree (under (web_of p) qs) k a b && equal_names p a b) (nodes p Schematic)) (filter (λ b. agree (under (web_of p) qs) k a b && not (equal_names p a b)) (nodes p Schematic)) i) [
  | inl j ↦ (
    of_filter (λ b. agree (under (web_of p) qs) k a b && equal_names p a b) b (nodes p Schematic) j,
    first (agree (under (web_of p) qs) k a b) (equal_names p a b) (filter_passes (λ b. agree (under (web_of p) qs) k a b && equal_names p a b) b (nodes p Schematic) j),
  )
  | inr j ↦ (
    of_filter (λ b. agree (under (web_of p) qs) k a b && not (equal_names p a b)) b (nodes p Schematic) j,
    first (agree (under (web_of p) qs) k a b) (not (equal_names p a b)) (filter_passes (λ b. agree (under (web_of p) qs) k a b && not (equal_names p a b)) b (nodes p Schematic) j),
  )
]

candidate_is : (p : Pair) (qs : List (Guess Node)) (k limit : ℕ) (a b : Node) → IsListed b (nodes p Schematic) → agree (under (web_of p) qs) k a b ≡ true → IsListed b (list_of p qs k a limit)
candidate_is p qs k limit a b i t = elim (cases_Bool (equal_names p a b)) [
  | inl e ↦ in_left b (filter (λ b. agree (under (web_of p) qs) k a b && equal_names p a b) (nodes p Schematic)) (filter (λ b. agree (under (web_of p) qs) k a b && not (equal_names p a b)) (nodes p Schematic))
      (in_filter (λ b. agree (under (web_of p) qs) k a b && equal_names p a b) b (nodes p Schematic) i (and_from (agree (under (web_of p) qs) k a b) (equal_names p a b) t e))
  | inr e ↦ in_right b (filter (λ b. agree (under (web_of p) qs) k a b && equal_names p a b) (nodes p Schematic)) (filter (λ b. agree (under (web_of p) qs) k a b && not (equal_names p a b)) (nodes p Schematic))
      (in_filter (λ b. agree (under (web_of p) qs) k a b && not (equal_names p a b)) b (nodes p Schematic) i (and_from (agree (under (web_of p) qs) k a b) (not (equal_names p a b)) t (not_from_false (equal_names p a b) e)))
]

-- they stand in the order of their ranks
pub rising : (p : Pair) (qs : List (Guess Node)) (k limit : ℕ) (a : Node) → ((b : Node) → IsListed b (nodes p Schematic) → index_of p b < 2 ^ 32) → IsRising (rank_in p a) (list_of p qs k a limit)
rising p qs k limit a small =
    let all = numbered (index_of p) (nodes p Schematic) (first_of_side p Schematic) (nodes_in p.right) (side_numbers p Schematic) in
    joined (rank_in p a) (filter (λ b. agree (under (web_of p) qs) k a b && equal_names p a b) (nodes p Schematic)) (filter (λ b. agree (under (web_of p) qs) k a b && not (equal_names p a b)) (nodes p Schematic))
    (filtered (index_of p) (rank_in p a) (λ b. agree (under (web_of p) qs) k a b && equal_names p a b) (nodes p Schematic) all
    (λ x y i j s t l. let ex = rank_yes x (second (agree (under (web_of p) qs) k a x) (equal_names p a x) s) in let ey = rank_yes y (second (agree (under (web_of p) qs) k a y) (equal_names p a y) t) in omega arith))
    (filtered (index_of p) (rank_in p a) (λ b. agree (under (web_of p) qs) k a b && not (equal_names p a b)) (nodes p Schematic) all
    (λ x y i j s t l. let ex = rank_no x (second (agree (under (web_of p) qs) k a x) (not (equal_names p a x)) s) in let ey = rank_no y (second (agree (under (web_of p) qs) k a y) (not (equal_names p a y)) t) in omega arith))
    (λ x y i j.
    let ex = rank_yes x (second (agree (under (web_of p) qs) k a x) (equal_names p a x) (filter_passes (λ b. agree (under (web_of p) qs) k a b && equal_names p a b) x (nodes p Schematic) i)) in
    let ey = rank_no y (second (agree (under (web_of p) qs) k a y) (not (equal_names p a y)) (filter_passes (λ b. agree (under (web_of p) qs) k a b && not (equal_names p a b)) y (nodes p Schematic) j)) in
    let s = small x (of_filter (λ b. agree (under (web_of p) qs) k a b && equal_names p a b) x (nodes p Schematic) i) in
    omega arith)
  where
    rank_yes : (b : Node) → equal_names p a b ≡ true → rank_in p a b ≡ 0 + index_of p b
    rank_yes b t = ap (λ (n : Bool). rank_of n (index_of p b)) t

    rank_no : (b : Node) → not (equal_names p a b) ≡ true → rank_in p a b ≡ 2 ^ 32 + index_of p b
    rank_no b t = ap (λ (n : Bool). rank_of n (index_of p b)) (not-true (equal_names p a b) t)

-- what was found is the next candidate
pub next_is : (p : Pair) (g : Graph) (left right : Circuit) (qs : List (Guess Node)) (c : Classes) (x limit : ℕ) (a : Node) (last best : Option Candidate) (items : List ℕ) → IsPairOf p g left right → nodes_of g < 2 ^ 32 → IsListed a (nodes p Layout)
    → index_of p a ≡ x → (s : AreStableClasses p qs c) → AreAllOf (class_in c) (class_in c x) items (nodes_of g) → IsBestBehind g (rank_at g left right x) last items (length items) best
    → IsNextOf p a last (list_of p qs s.round a limit) best
next_is p g left right qs c x limit a last best items h small ia ex s all found = on best found
  where
    alike : (b : Node) → agree (under (web_of p) qs) s.round a b ≡ true → same_own (own p a) (own p b) ≡ true
    alike b t = under_first qs (agreed_first (under (web_of p) qs) s.round a b t)
      where
        under_first : (gs : List (Guess Node)) → alike_under (web_of p) gs a b ≡ true → same_own (own p a) (own p b) ≡ true
        under_first [] u = u
        under_first (q ∷ gs) u = under_first gs (second _ (alike_under (web_of p) gs a b) u)

    rank_is : (b : Node) → IsListed b (nodes p Schematic) → agree (under (web_of p) qs) s.round a b ≡ true → rank_in p a b ≡ rank_at g left right x (index_of p b)
    rank_is b i t = ranks_same p g left right a b x h ia i (alike b t) ex

    place : (b : Node) → IsListed b (nodes p Schematic) → agree (under (web_of p) qs) s.round a b ≡ true → (k : ℕ) × (k < length items) × (slice_index items k ≡ index_of p b)
    place b i t =
        let class : class_in c (index_of p b) ≡ class_in c x = sym ((s.colours a b (inl ia) (inr i)).1 t) ∙ ap (class_in c) ex in
        any_index items (index_of p b) (all.found (index_of p b) (node_below g (index_of p b) (goes_to p g b h.graph (inr i))) class)

    low : (b : Node) → IsListed b (nodes p Schematic) → left_of g ≤ index_of p b
    low b i = let f = index-first p Schematic b i in let e = left_count p g h.graph in omega arith

    on : (best : Option Candidate) → IsBestBehind g (rank_at g left right x) last items (length items) best → IsNextOf p a last (list_of p qs s.round a limit) best
    on None f = none_pass (λ b. is_behind last (rank_in p a b)) (list_of p qs s.round a limit) (λ b i t.
        let m = is_candidate p qs s.round limit a b i in
        let k = place b m.0 m.1 in
        f k.0 k.1 (subst (λ (y : ℕ). left_of g ≤ y) (sym k.2) (low b m.0))
        (subst (λ (y : ℕ). is_behind last (rank_at g left right x y) ≡ true) (sym k.2) (subst (λ (r : ℕ). is_behind last r ≡ true) (rank_is b m.0 m.1) t)))
    on (Some d) f =
        let below : d.node < nodes_of g = subst (λ (y : ℕ). y < nodes_of g) f.node (all.below f.place f.below) in
        let from = came_from p g d.node h.graph (below_node g d.node below) in
        let i = right_listed p g from.0 h.graph from.1 (subst (λ (y : ℕ). left_of g ≤ y) from.2 f.right) in
        let class : class_of_node p c a ≡ class_of_node p c from.0 = ap (class_in c) ex ∙ (sym (all.class f.place f.below) ∙ ap (class_in c) (f.node ∙ from.2)) in
        let t = (s.colours a from.0 (inl ia) from.1).0 class in
        let rank : rank_in p a from.0 ≡ candidate_rank d = rank_is from.0 i t ∙ (ap (rank_at g left right x) (sym from.2) ∙ sym f.rank_is) in
        let head = head_is (rank_in p a) (is_behind last) from.0 (list_of p qs s.round a limit)
        (rising p qs s.round limit a (λ y j. let l = node_below g (index_of p y) (goes_to p g y h.graph (inr j)) in omega arith))
        (candidate_is p qs s.round limit a from.0 i t) (ap (is_behind last) rank ∙ f.behind) (behind_up last)
        (λ y j u.
        let m = is_candidate p qs s.round limit a y j in
        let k = place y m.0 m.1 in
        let r = rank_is y m.0 m.1 in
        let low2 = f.first k.0 k.1 (subst (λ (z : ℕ). left_of g ≤ z) (sym k.2) (low y m.0)) (subst (λ (z : ℕ). is_behind last (rank_at g left right x z) ≡ true) (sym k.2) (subst (λ (v : ℕ). is_behind last v ≡ true) r u)) in
        let there = ap (rank_at g left right x) k.2 in
        omega arith) in
        record {
          right = from.0;
          numbered = record { node = from.1; index = sym from.2 };
          is = head ∙ ap (λ (v : ℕ). from.0 ∷ filter (λ y. nat_lt v (rank_in p a y)) (list_of p qs s.round a limit)) rank;
        }
