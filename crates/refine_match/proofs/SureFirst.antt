-- The first right node of a class, where it is the first candidate.
use Rattle.std.proofs.Common.{◌≡◌, inl, inr, ◌<◌, ◌≤◌, ◌+◌, ◌-◌, ◌^◌, ◌&&◌, ℕ, Bool, true, false, Option, Some, None, List, [], length, slice_index, slice_index_or, nat_lt, bytes_eq, refl, sym, subst, ◌∙◌, ap, arith, true≢false}
use Rattle.std.proofs.lemmas.Bool.{and_from, cases_Bool, false_from_ne_true}
use Rattle.std.specs.Option.{is_some}
use Rattle.std.proofs.lemmas.Bool.Decides.{Decides-ltb}
use Rattle.round_laws.specs.Nodes.{Device}
use Rattle.round_laws.proofs.Agree.{first, second}
use Rattle.std.proofs.lemmas.Slice.Eq.{bytes_eq-Decides}
use Rattle.refine_match.specs.Namesakes.{IsFirstNamed, IsFirstNet, IsNameless, name_of}
use Rattle.net_model.specs.declared.netlist.Circuit.{Circuit}
use Rattle.match_graph.specs.declared.graph.Graph.{Graph}
use Rattle.match_graph.specs.Graph.{left_of, nodes_of}
use Rattle.match_graph.specs.Numbering.{place_in}
use Rattle.match_rounds.specs.declared.classes.Classes.{Classes}
use Rattle.match_rounds.specs.Classes.{class_in}
use Rattle.match_rounds.specs.Turned.{AreAllOf}
use Rattle.match_rounds.proofs.Counting.{any_index}
use Rattle.refine_match.specs.declared.candidates.Candidate.{Candidate}
use Rattle.refine_match.specs.Rights.{IsFirstRight}
use Rattle.refine_match.specs.Candidates.{HaveNets, IsBestBehind, IsSureFirst, have_one_name, rank_at, rank_of}

no_less : (b : Bool) (a : ℕ) → a ≤ rank_of b a
no_less true a = omega arith
no_less false a = omega arith

pub not_some : (o : Option Candidate) → is_some o ≡ false → o ≡ None
not_some None e = refl
not_some (Some c) e = absurd (true≢false e)

-- the first right net of the name, where it is of the class
pub sure_namesake : (g : Graph) (c : Classes) (left right : Circuit) (x y d : ℕ) → nodes_of g < 2 ^ 32 → IsFirstNamed g left right x y → class_in c y ≡ d
    → IsSureFirst g c (rank_at g left right x) d (let best : Candidate = record { has_name = true; node = y } in best)
sure_namesake g c left right x y d small is of = record {
  right = is.low;
  below = is.below;
  of = of;
  rank_is = sym (ap (λ (u : Bool). rank_of u y) is.named);
  first = λ a low below other.
      let here : rank_of (have_one_name g left right x y) y ≡ 0 + y = ap (λ (u : Bool). rank_of u y) is.named in
      let under = is.below in
      elim (cases_Bool (have_one_name g left right x a)) [
        | inl e ↦
            let there : rank_of (have_one_name g left right x a) a ≡ 0 + a = ap (λ (u : Bool). rank_of u a) e in
            let least = is.first a low e in
            omega arith
        | inr e ↦
            let there : rank_of (have_one_name g left right x a) a ≡ 2 ^ 32 + a = ap (λ (u : Bool). rank_of u a) e in
            omega arith
      ];
}

-- the first right node of the class, where it has the name
pub sure_named : (g : Graph) (c : Classes) (left right : Circuit) (x y d : ℕ) (b : Bool) → b ≡ have_one_name g left right x y → b ≡ true → IsFirstRight g c d y
    → IsSureFirst g c (rank_at g left right x) d (let best : Candidate = record { has_name = b; node = y } in best)
sure_named g c left right x y d b e t first = record {
  right = first.right;
  below = first.below;
  of = first.of;
  rank_is = ap (λ (u : Bool). rank_of u y) e;
  first = λ a low below other.
      let is : rank_of (have_one_name g left right x y) y ≡ 0 + y = ap (λ (u : Bool). rank_of u y) (sym e ∙ t) in
      let least = first.first a low below other in
      let above = no_less (have_one_name g left right x a) a in
      omega arith;
}

-- or no right net has
pub sure_nameless : (g : Graph) (c : Classes) (left right : Circuit) (x y d : ℕ) (b : Bool) → b ≡ have_one_name g left right x y → IsNameless g left right x → IsFirstRight g c d y
    → IsSureFirst g c (rank_at g left right x) d (let best : Candidate = record { has_name = b; node = y } in best)
sure_nameless g c left right x y d b e none first = record {
  right = first.right;
  below = first.below;
  of = first.of;
  rank_is = ap (λ (u : Bool). rank_of u y) e;
  first = λ a low below other.
      let one : rank_of (have_one_name g left right x y) y ≡ 2 ^ 32 + y = ap (λ (u : Bool). rank_of u y) (none y first.right) in
      let two : rank_of (have_one_name g left right x a) a ≡ 2 ^ 32 + a = ap (λ (u : Bool). rank_of u a) (none a low) in
      let least = first.first a low below other in
      omega arith;
}

-- a device or call has no name
pub no_net : (g : Graph) (left right : Circuit) (x : ℕ) → place_in g.left Device 0 ≤ x → IsNameless g left right x
no_net g left right x past a l =
    ap (λ (u : Bool). u && (nat_lt a (place_in g.right Device 0) && bytes_eq (slice_index_or left.nets.items (x - g.left.first) []) (slice_index_or right.nets.items (a - g.right.first) [])))
    (false_from_ne_true (nat_lt x (place_in g.left Device 0)) (λ s. let m = (Decides-ltb x (place_in g.left Device 0)).0 s in omega arith))

-- a right node of the name of a left one is a net
right_net : (g : Graph) (left right : Circuit) (x a : ℕ) → HaveNets g left right → left_of g ≤ a → have_one_name g left right x a ≡ true
    → (a - g.right.first < length right.nets.items) × (name_of right (a - g.right.first) ≡ name_of left (x - g.left.first))
right_net g left right x a nets low t =
    let lb = nat_lt a (place_in g.right Device 0) in
    let nb = bytes_eq (slice_index_or left.nets.items (x - g.left.first) []) (slice_index_or right.nets.items (a - g.right.first) []) in
    let and_from = second (nat_lt x (place_in g.left Device 0)) (lb && nb) t in
    let below = (Decides-ltb a (place_in g.right Device 0)).0 (first lb nb and_from) in
    let same = (bytes_eq-Decides (slice_index_or left.nets.items (x - g.left.first) []) (slice_index_or right.nets.items (a - g.right.first) [])).0 (second lb nb and_from) in
    let count = nets.right_nets in
    (omega arith, sym same)

-- a net without a namesake
pub no_namesake : (g : Graph) (left right : Circuit) (x : ℕ) → HaveNets g left right → IsFirstNet right 0 (name_of left (x - g.left.first)) None → IsNameless g left right x
no_namesake g left right x nets none a low =
    false_from_ne_true (have_one_name g left right x a) (λ t. let is = right_net g left right x a nets low t in none (a - g.right.first) (omega arith) is.0 is.1)

-- a net with one
pub first_named : (g : Graph) (left right : Circuit) (x v : ℕ) → HaveNets g left right → x < place_in g.left Device 0 → IsFirstNet right 0 (name_of left (x - g.left.first)) (Some v) → IsFirstNamed g left right x (g.right.first + v)
first_named g left right x v nets net is =
    let count = nets.right_nets in
    let low = is.1 in
    let at : g.right.first + v - g.right.first ≡ v = omega arith in
    let lb = nat_lt (g.right.first + v) (place_in g.right Device 0) in
    let ln = slice_index_or left.nets.items (x - g.left.first) [] in
    let rn = slice_index_or right.nets.items (g.right.first + v - g.right.first) [] in
    let same : ln ≡ rn = sym (ap (name_of right) at ∙ is.2) in
    record {
      low = omega arith;
      below = omega arith;
      named = and_from (nat_lt x (place_in g.left Device 0)) (lb && bytes_eq ln rn) ((Decides-ltb x (place_in g.left Device 0)).1 net)
          (and_from lb (bytes_eq ln rn) ((Decides-ltb (g.right.first + v) (place_in g.right Device 0)).1 (omega arith)) ((bytes_eq-Decides ln rn).1 same));
      first = λ a l t.
          let r = right_net g left right x a nets l t in
          let least = is.3 (a - g.right.first) (omega arith) r.0 r.1 in
          omega arith;
    }

-- it is the best of all that are not tried
pub best_first : (g : Graph) (c : Classes) (rank : ℕ → ℕ) (d : ℕ) (items : List ℕ) (best : Candidate) (last : Option Candidate) → last ≡ None → AreAllOf (class_in c) d items (nodes_of g) → IsSureFirst g c rank d best
    → IsBestBehind g rank last items (length items) (Some best)
best_first g c rank d items best last none all sure =
    let r = any_index items best.node (all.found best.node sure.below sure.of) in
    subst (λ (o : Option Candidate). IsBestBehind g rank o items (length items) (Some best)) (sym none) (let h : IsBestBehind g rank None items (length items) (Some best) = record {
      place = r.0;
      below = r.1;
      node = r.2;
      right = sure.right;
      rank_is = sure.rank_is;
      behind = refl;
      first = λ k l right t. subst (λ (v : ℕ). v ≤ rank (slice_index items k)) (sym sure.rank_is) (sure.first (slice_index items k) right (all.below k l) (all.class k l));
    } in h)
