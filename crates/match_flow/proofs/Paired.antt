-- What a pair is compared by, and what its answer is.
use Rattle.std.proofs.Common.{◌≡◌, ◌↔◌, ℕ, ◌<◌, Bool, true, false, cond, List, get_or, length, Option, Some, None, IsSomeAnd, refl, sym, ◌∙◌, ap, ap₂, subst, arith}
use Rattle.std.proofs.Math.Path.{fun_ext}
use Rattle.std.proofs.lemmas.Option.{slice_get_within}
use Rattle.round_laws.specs.Nodes.{Layout, Schematic}
use Rattle.plain_netlist.specs.Netlist.{Circuit, Netlist, IsCircuit}
use Rattle.plain_netlist.specs.Sound.{IsGood}
use Rattle.match_laws.specs.Answer.{Answer, IsAnswer, equal_names}
use Rattle.match_laws.specs.Circuits.{IsFitting, Pair}
use Rattle.align_laws.specs.Partners.{AreSides}
use Rattle.composed_laws.proofs.Fitting.{any_listed}
use Rattle.composed_laws.proofs.OneByOne.{read_answers}
use Rattle.composed_laws.specs.Answered.{Asked, IsAnswerOf, children_in, children_of, is_called, pair_in}
use Rattle.job_graph.specs.Graph.{Waits, has, inputs_of}
use Rattle.match_types.specs.Answered.{IsPairAnswer, asked_of}
use Rattle.match_types.specs.Children as pins
use Rattle.match_types.specs.Plain.{pair_of, plain_answer}
use Rattle.match_types.specs.declared.answer.Answer.{Answer as RowsAnswer}
use Rattle.match_types.specs.declared.child_pins.ChildPins.{ChildPins}
use Rattle.match_types.specs.declared.pair_key.PairKey.{PairKey}
use Rattle.net_model.specs.Rows.{plain_circuit, plain_netlist}
use Rattle.net_model.specs.declared.netlist.Circuit.{Circuit as RowsCircuit}
use Rattle.net_model.specs.declared.netlist.Netlist.{Netlist as RowsNetlist}
use Rattle.pair_jobs.proofs.Called.{circuit_at, count_of}
use Rattle.pair_jobs.specs.Children.{AreChildrenOf, answer_in}
use Rattle.pair_jobs.specs.Jobs.{AreCalledJobs}

both : (a b : Bool) → (a ≡ true) ↔ (b ≡ true) → a ≡ b
both true b f = sym (f.0 refl)
both false true f = f.1 refl
both false false f = refl

-- what a pair waits for stands before it
pub waits_within : (left : Netlist) (graph : List (List ℕ)) (pair input : ℕ) (c : Circuit) → IsGood left (λ k. k) → AreCalledJobs left graph → IsCircuit left pair c → Waits graph pair input → input < length left.circuits
waits_within left graph pair input c good jobs is w =
    let r = any_listed input c.calls ((jobs.waits pair input c is).0 w) in
    let low = good.lower pair r.0 r.1 (c, is, r.2) in
    let same = r.3 in
    let within = slice_get_within left.circuits pair c is in
    omega (arith, low, same, within)

-- a circuit that was read
pub circuit_read : (nl : RowsNetlist) (k : ℕ) (c : RowsCircuit) → k < length nl.circuits.items → c ≡ get_or nl.circuits.items k c → IsCircuit (plain_netlist nl) k (plain_circuit c)
circuit_read nl k c lt is = subst (λ (x : RowsCircuit). IsCircuit (plain_netlist nl) k (plain_circuit x)) (sym is) (circuit_at nl k c lt)

-- there is a right circuit for each left one
pub right_within : (left right : RowsNetlist) (k : ℕ) (c : Circuit) → AreSides (plain_netlist left) (plain_netlist right) → IsCircuit (plain_netlist left) k c → k < length right.circuits.items
right_within left right k c sides is =
    let d = sides.there k c is in
    let within = slice_get_within (plain_netlist right).circuits k d.0 d.1 in
    let count = count_of right in
    omega (arith, within, count)

abbrev pub key_of : RowsNetlist → RowsNetlist → ℕ → Bool → PairKey
key_of left right limit same_pins = record {
  left = record { marker = record {}; value = left };
  right = record { marker = record {}; value = right };
  limit = record { marker = record {}; value = limit };
  same_pins = record { marker = record {}; value = same_pins };
}

-- a pair, the pins that were handed up to it, and the answers that they are from
module _ (left right : RowsNetlist) (limit : ℕ) (same_pins : Bool) (graph : List (List ℕ)) (pair : ℕ) (a b : RowsCircuit) (value : ℕ → Option RowsAnswer) (children : ChildPins)
    (sides : AreSides (plain_netlist left) (plain_netlist right)) (good : IsGood (plain_netlist left) (λ k. k)) (jobs : AreCalledJobs (plain_netlist left) graph)
    (is : IsCircuit (plain_netlist left) pair (plain_circuit a)) (also : IsCircuit (plain_netlist right) pair (plain_circuit b))
    (right_read : (q : ℕ) → Waits graph pair q → IsSomeAnd (value q) (IsPairAnswer (key_of left right limit same_pins) q))
    (handed : AreChildrenOf (plain_netlist left) value (inputs_of graph pair) children) (told : pins.is_told children ≡ (asked_of (plain_netlist left) limit same_pins).told pair) where
  abbrev asked : Asked
  asked = asked_of (plain_netlist left) limit same_pins

  abbrev read : ℕ → Answer
  read q = answer_in q (value q)

  abbrev compared : Pair
  compared = pair_in (asked.told pair) (plain_netlist left) read (plain_circuit a) (plain_circuit b)

  same_children : pins.children_of children ≡ children_in (plain_netlist left) read (plain_circuit a)
  same_children = fun_ext (λ q. handed q ∙ ap (λ t. cond t (children_of (plain_netlist left) read q) None) (both (has q (inputs_of graph pair)) (is_called (plain_circuit a) q) (jobs.waits pair q (plain_circuit a) is)))

  same_pair : pair_of a b children ≡ compared
  same_pair = ap₂ (λ (ch : ℕ → Option (List ℕ)) (t : Bool). let p : Pair = record { left = plain_circuit a; right = plain_circuit b; children = ch; told = t } in p) same_children told

  answer_there : (q : ℕ) (o : Option RowsAnswer) → IsSomeAnd o (IsPairAnswer (key_of left right limit same_pins) q) → IsAnswerOf (plain_netlist left) (plain_netlist right) asked q (answer_in q o)
  answer_there q None h = absurd h
  answer_there q (Some v) h = h

  all_read : IsFitting compared Layout × IsFitting compared Schematic × ((z : Answer) → IsAnswer compared (equal_names compared) limit z → IsAnswerOf (plain_netlist left) (plain_netlist right) asked pair z)
  all_read = read_answers (plain_netlist left) (plain_netlist right) asked pair (plain_circuit a) (plain_circuit b) read sides good is also
      (λ q e. answer_there q (value q) (right_read q ((jobs.waits pair q (plain_circuit a) is).1 e)))

  pub fits_left : IsFitting (pair_of a b children) Layout
  fits_left = subst (λ (p : Pair). IsFitting p Layout) (sym same_pair) all_read.0

  pub fits_right : IsFitting (pair_of a b children) Schematic
  fits_right = subst (λ (p : Pair). IsFitting p Schematic) (sym same_pair) all_read.1

  pub answers : (v : RowsAnswer) → IsAnswer (pair_of a b children) (equal_names (pair_of a b children)) limit (plain_answer v) → IsPairAnswer (key_of left right limit same_pins) pair v
  answers v h = all_read.2 (plain_answer v) (subst (λ (p : Pair). IsAnswer p (equal_names p) limit (plain_answer v)) same_pair h)
