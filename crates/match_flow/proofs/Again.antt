-- Sides whose circuits are merged once more can be compared as before.
use Rattle.std.proofs.Common.{◌≡◌, ◌≢◌, ◌⊎◌, inl, inr, ◌+◌, ◌==◌, ◌&&◌, ◌||◌, ℕ, Bool, true, false, true≢false, ap₂, List, length, map, Some, slice_get, refl, sym, ap, subst, ◌∙◌}
use Rattle.base_laws.proofs.Lists.{map_count}
use Rattle.device_merge.proofs.Alone.{unmerged}
use Rattle.device_merge.specs.Merged.{has_alike}
use Rattle.std.proofs.lemmas.Bool.{or_parts}
use Rattle.std.specs.List.{list_any}
use Rattle.match_flow.specs.Again.{IsAnswered, as_answered}
use Rattle.composed_laws.specs.Answered.{Asked}
use Rattle.match_laws.specs.Answer.{Answer}
use Rattle.match_types.specs.Answered.{asked_of}
use Rattle.merge_laws.proofs.Kept.{good_merged, normal_merged}
use Rattle.merge_laws.proofs.Nets.{call_back, circuit_back, circuit_there}
use Rattle.merge_laws.proofs.Sides.{merged_sides}
use Rattle.merge_laws.specs.Grouped.{merged_circuit, merged_netlist}
use Rattle.net_align.specs.Compared.{AreComparable, HasTwinsAtMost}
use Rattle.pair_jobs.specs.Answers.{AreAllAnswers, is_difference}
use Rattle.plain_netlist.proofs.Heights.{no_fault_in_good}
use Rattle.plain_netlist.specs.Netlist.{Circuit, Netlist}
use Rattle.plain_netlist.specs.Sound.{BadTerminal, CircuitCycle, HasNameBefore, HasNetTwins, IsGood, NameClash, NetlistFault, NoSuchCircuit, PinCount, ShowsFault}

pub as_many : (nl : Netlist) → length (merged_netlist nl).circuits ≡ length nl.circuits
as_many nl = map_count merged_circuit nl.circuits

-- names of circuits and of nets stay
name_back : (nl : Netlist) (c : ℕ) → HasNameBefore (merged_netlist nl) c → HasNameBefore nl c
name_back nl c (b, x, y, low, is, at, same) =
    let o = circuit_back nl b x is in
    let p = circuit_back nl c y at in
    (b, o.0, p.0, low, o.1, p.1, ap (λ (z : Circuit). z.name) o.2 ∙ same ∙ ap (λ (z : Circuit). z.name) (sym p.2))

twins_there : (nl : Netlist) (c : ℕ) → HasNetTwins nl c → HasNetTwins (merged_netlist nl) c
twins_there nl c (x, a, b, name, is, low, one, other) = (merged_circuit x, a, b, name, circuit_there nl c x is, low, one, other)

pub twins_at_most : (nl : Netlist) (height : ℕ → ℕ) → IsGood (merged_netlist nl) height → HasTwinsAtMost nl → HasTwinsAtMost (merged_netlist nl)
twins_at_most nl height good twins fault c shows = go fault shows
  where
    clash : HasNameBefore (merged_netlist nl) c ⊎ HasNetTwins (merged_netlist nl) c → HasNetTwins (merged_netlist nl) c
    clash (inl before) = twins_there nl c (twins NameClash c (inl (name_back nl c before))).1
    clash (inr there) = there

    other : (f : NetlistFault) → f ≢ NameClash → ShowsFault (merged_netlist nl) f c → (f ≡ NameClash) × HasNetTwins (merged_netlist nl) c
    other f differs shown = absurd (no_fault_in_good (merged_netlist nl) height f c good differs shown)

    go : (f : NetlistFault) → ShowsFault (merged_netlist nl) f c → (f ≡ NameClash) × HasNetTwins (merged_netlist nl) c
    go NameClash shown = (refl, clash shown)
    go BadTerminal shown = other BadTerminal (λ e. cc) shown
    go NoSuchCircuit shown = other NoSuchCircuit (λ e. cc) shown
    go PinCount shown = other PinCount (λ e. cc) shown
    go CircuitCycle shown = other CircuitCycle (λ e. cc) shown

pub comparable_again : (left right : Netlist) → AreComparable left right → AreComparable (merged_netlist left) (merged_netlist right)
comparable_again left right h =
    let sides = merged_sides left right h.sides in
    let near = sides.left_good in
    let far = sides.right_good in
    record {
      count = as_many left ∙ h.count ∙ sym (as_many right);
      sides = sides;
      order = λ c k row call. h.order c k row (call_back left c k row call);
      left_normal = normal_merged left h.left_normal;
      right_normal = normal_merged right h.right_normal;
      left_faults = twins_at_most left near.0 near.1 h.left_faults;
      right_faults = twins_at_most right far.0 far.1 h.right_faults;
    }

asked_same : (nl : Netlist) (limit : ℕ) (same_pins : Bool) → asked_of (merged_netlist nl) limit same_pins ≡ asked_of nl limit same_pins
asked_same nl limit same_pins = ap (λ (n : ℕ). let a : Asked = record { limit = limit; told = λ k. same_pins && (k + 1 == n) } in a) (as_many nl)

-- the answers of netlists that are the merged ones
pub answered_again : (left right near far : Netlist) (limit : ℕ) (same_pins : Bool) (answers : List Answer) → near ≡ merged_netlist left → far ≡ merged_netlist right
    → AreAllAnswers near far (asked_of near limit same_pins) answers → AreAllAnswers (merged_netlist left) (merged_netlist right) (asked_of left limit same_pins) answers
answered_again left right near far limit same_pins answers l r h =
    let one = subst (λ (n : Netlist). AreAllAnswers n far (asked_of n limit same_pins) answers) l h in
    let two = subst (λ (n : Netlist). AreAllAnswers (merged_netlist left) n (asked_of (merged_netlist left) limit same_pins) answers) r one in
    subst (λ (a : Asked). AreAllAnswers (merged_netlist left) (merged_netlist right) a answers) (asked_same left limit same_pins) two

pub comparable_as : (left right near far : Netlist) → near ≡ merged_netlist left → far ≡ merged_netlist right → AreComparable left right → AreComparable near far
comparable_as left right near far l r h =
    subst (λ (n : Netlist). AreComparable n far) (sym l) (subst (λ (n : Netlist). AreComparable (merged_netlist left) n) (sym r) (comparable_again left right h))

-- where some pair differs the answers are those of the merged netlists, whether they were merged or
-- are the same
pub answered_merged : (merges : Bool) (limit : ℕ) (same_pins : Bool) (left right : Netlist) (again : Bool) (answers : List Answer) → merges ≡ true
    → (h : IsAnswered merges limit same_pins left right again answers) → list_any is_difference h.first ≡ true
    → AreAllAnswers (merged_netlist left) (merged_netlist right) (asked_of left limit same_pins) answers
answered_merged merges limit same_pins left right again answers set h some = go again (has_alike left || has_alike right) refl (h.again_is ∙ ap₂ (λ (a b : Bool). a && b && (has_alike left || has_alike right)) set some) h.at_last
  where
    go : (a b : Bool) → (has_alike left || has_alike right) ≡ b → a ≡ (has_alike left || has_alike right) → AreAllAnswers (as_answered a left) (as_answered a right) (asked_of left limit same_pins) answers
        → AreAllAnswers (merged_netlist left) (merged_netlist right) (asked_of left limit same_pins) answers
    go true b is e last = last
    go false true is e last = absurd (true≢false (sym is ∙ sym e))
    go false false is e last =
        let none = or_parts (has_alike left) (has_alike right) is in
        let one = subst (λ (n : Netlist). AreAllAnswers n right (asked_of left limit same_pins) answers) (sym (unmerged left none.0)) last in
        subst (λ (n : Netlist). AreAllAnswers (merged_netlist left) n (asked_of left limit same_pins) answers) (sym (unmerged right none.1)) one

-- whether circuits are merged once more, as it is found out one step after the other
pub not_asked : (m l h : Bool) → (m && l) ≡ false → (m && l && h) ≡ false
not_asked true l h e = ap (λ (b : Bool). b && h) e
not_asked false l h e = refl

pub asked : (m l h again : Bool) → (m && l) ≡ true → h ≡ again → (m && l && h) ≡ again
asked true l h again e f = ap (λ (b : Bool). b && h) e ∙ f
asked false l h again e f = absurd (true≢false (sym e))
