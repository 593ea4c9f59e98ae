-- Sides that can be compared, and all answers of theirs.
use Rattle.std.proofs.Common.{◌≡◌, ℕ, Bool, List, map, Option, Some, None, IsNone, refl, subst}
use Rattle.plain_netlist.specs.Netlist.{Netlist}
use Rattle.plain_netlist.specs.Sound.{IsGood}
use Rattle.job_graph.specs.Table.{AreDefined}
use Rattle.match_flow.proofs.Paired.{key_of}
use Rattle.match_flow.specs.Phase.{PairJobs}
use Rattle.match_types.specs.Answered.{IsPairAnswer, asked_of}
use Rattle.match_types.specs.Plain.{plain_answer}
use Rattle.match_types.specs.declared.answer.Answer.{Answer}
use Rattle.net_align.specs.Compared.{AreComparable}
use Rattle.net_model.specs.Rows.{plain_netlist}
use Rattle.net_model.specs.declared.netlist.Netlist.{Netlist as RowsNetlist}
use Rattle.pair_jobs.proofs.Together.{results}
use Rattle.pair_jobs.specs.Answers.{AreAllAnswers}
use Rattle.pair_jobs.specs.Jobs.{AreCalledJobs}

-- those that are called stand first on the left
pub good_left : (left right : Netlist) → AreComparable left right → IsGood left (λ k. k)
good_left left right h = let g = h.sides.left_good.1 in record {
  within = g.within;
  called = g.called;
  lower = h.order;
  pins = g.pins;
}

-- the results of a phase of such sides
pub all_answers : (left right : RowsNetlist) (limit : ℕ) (same_pins : Bool) (p : PairJobs) (values : List Answer) → AreComparable (plain_netlist left) (plain_netlist right) → p.left ≡ left → p.right ≡ right → p.limit ≡ limit → p.same_pins ≡ same_pins
    → AreCalledJobs (plain_netlist left) p.graph → AreDefined IsPairAnswer (key_of p.left p.right p.limit p.same_pins) p.graph values
    → AreAllAnswers (plain_netlist left) (plain_netlist right) (asked_of (plain_netlist left) limit same_pins) (map plain_answer values)
all_answers left right limit same_pins p values sides l r n t jobs defined =
    let none = subst (λ (b : Bool). AreDefined IsPairAnswer (key_of p.left p.right p.limit b) p.graph values) t defined in
    let one = subst (λ (m : ℕ). AreDefined IsPairAnswer (key_of p.left p.right m same_pins) p.graph values) n none in
    let two = subst (λ (b : RowsNetlist). AreDefined IsPairAnswer (key_of p.left b limit same_pins) p.graph values) r one in
    let three = subst (λ (a : RowsNetlist). AreDefined IsPairAnswer (key_of a right limit same_pins) p.graph values) l two in
    results (key_of left right limit same_pins) p.graph values sides.sides (good_left (plain_netlist left) (plain_netlist right) sides) jobs three

-- what is not some value is none
pub none_is : {A : Type 0} (o : Option A) → ((a : A) → o ≡ Some a → ⊥) → IsNone o
none_is None never = refl
none_is (Some a) never = absurd (never a refl)
