-- What is shown of a comparison, as its circuits were answered, is as what was compared.
use Rattle.std.proofs.Common.{◌≡◌, ◌∙◌, ◌&&◌, ◌||◌, ℕ, true, List, ◌∷◌, [], Option, Some, None, IfSome, length, map, refl, sym, ap, subst}
use Rattle.std.proofs.lemmas.Bool.{and_parts}
use Rattle.std.specs.List.{list_any}
use Rattle.device_merge.specs.Merged.{IsNarrow, has_alike}
use Rattle.match_flow.proofs.Again.{as_many}
use Rattle.match_flow.proofs.Narrow.{both_narrow}
use Rattle.match_report.specs.Report.{answers_of}
use Rattle.match_report.specs.declared.report.Compared.{Compared}
use Rattle.match_laws.specs.Answer.{Answer as Plain}
use Rattle.match_types.specs.Plain.{plain_answer}
use Rattle.match_types.specs.declared.answer.Answer.{Answer}
use Rattle.merge_laws.specs.Grouped.{merged_circuit}
use Rattle.net_model.specs.Faults.{called_by}
use Rattle.net_model.specs.Rows.{plain_netlist}
use Rattle.pair_jobs.specs.Answers.{is_difference}
use Rattle.plain_netlist.specs.Netlist.{Circuit, Netlist}
use Rattle.report_file.specs.Combined.{AreNarrow, merges_again}
use Rattle.report_file.specs.Compared.{IsComparison}
use Rattle.report_file.specs.File.{all_answers, pair_count}
use Rattle.rule_text.specs.Rules.{Rules}
use Rattle.view_file.specs.declared.layout.Picture.{Picture}
use Rattle.view_run.specs.Answered.{IsShownAgain}
use Rattle.view_run.specs.Views.{Again, AreAllPaired, ArePaired, AsAligned, CanBeOrdered, IsMergedAgain, IsShown, shown_rights}

pub shown_again : (o : Option Compared) (c : Compared) (s : Option Compared) (p q : Picture) → o ≡ Some c → c.merged_again ≡ true → IsShownAgain c s p q → IsShown o s p q
shown_again o c s p q is again h = Again c h.again is again h.is h.merged h.picture

-- ---- the answers are the same

same_answers : (c a : Compared) → IsMergedAgain c a → answers_of a ≡ answers_of c
same_answers c a h = ap (λ (xs : List Answer). map plain_answer xs) h.answers

pub shown_answers : (o s : Option Compared) (p q : Picture) → IsShown o s p q → all_answers s ≡ all_answers o
shown_answers o s p q (AsAligned off same picture) = ap all_answers same
shown_answers o s p q (Again c a is on shown h picture) = ap all_answers shown ∙ ap Some (same_answers c a h) ∙ ap all_answers (sym is)

pub shown_count : (o s : Option Compared) (p q : Picture) → IsShown o s p q → pair_count s ≡ pair_count o
shown_count o s p q (AsAligned off same picture) = ap pair_count same
shown_count o s p q (Again c a is on shown h picture) = ap pair_count shown ∙ ap (λ (xs : List Plain). length xs) (same_answers c a h) ∙ ap pair_count (sym is)

-- ---- so are pairs and calls

paired_again : (c a : Compared) → IsMergedAgain c a → ArePaired c → ArePaired a
paired_again c a h paired =
    let left : length (plain_netlist a.left).circuits ≡ length (plain_netlist c.left).circuits = ap (λ (n : Netlist). length n.circuits) h.left ∙ as_many (plain_netlist c.left) in
    let right : length (plain_netlist a.right).circuits ≡ length (plain_netlist c.right).circuits = ap (λ (n : Netlist). length n.circuits) h.right ∙ as_many (plain_netlist c.right) in
    record {
      rights = right ∙ paired.rights ∙ sym left;
      answers = ap (λ (xs : List Plain). length xs) (same_answers c a h) ∙ paired.answers ∙ sym left;
    }

pub shown_paired : (o s : Option Compared) (p q : Picture) → IsShown o s p q → AreAllPaired o → AreAllPaired s
shown_paired o s p q (AsAligned off same picture) h = subst (λ (x : Option Compared). AreAllPaired x) (sym same) h
shown_paired o s p q (Again c a is on shown h picture) paired = subst (λ (x : Option Compared). AreAllPaired x) (sym shown) (paired_again c a h (subst (λ (x : Option Compared). AreAllPaired x) is paired))

same_calls : (cs : List Circuit) → map called_by (map merged_circuit cs) ≡ map called_by cs
same_calls [] = refl
same_calls (c ∷ cs) = ap (λ (xs : List (List ℕ)). called_by c ∷ xs) (same_calls cs)

ordered_by : (cs ds : List Circuit) → map called_by cs ≡ map called_by ds → CanBeOrdered ds → CanBeOrdered cs
ordered_by cs ds e h = record { range = rw e h.range; no_cycle = rw e h.no_cycle }

ordered_again : (c a : Compared) → IsMergedAgain c a → CanBeOrdered (plain_netlist c.right).circuits → CanBeOrdered (plain_netlist a.right).circuits
ordered_again c a h ordered =
    let cs = (plain_netlist c.right).circuits in
    ordered_by _ cs (ap (λ (n : Netlist). map called_by n.circuits) h.right ∙ same_calls cs) ordered

pub ordered_shown : (nl : Netlist) (o s : Option Compared) (p q : Picture) → IsShown o s p q → CanBeOrdered (shown_rights nl o) → CanBeOrdered (shown_rights nl s)
ordered_shown nl o s p q (AsAligned off same picture) h = subst (λ (x : Option Compared). CanBeOrdered (shown_rights nl x)) (sym same) h
ordered_shown nl o s p q (Again c a is on shown h picture) ordered =
    subst (λ (x : Option Compared). CanBeOrdered (shown_rights nl x)) (sym shown) (ordered_again c a h (subst (λ (x : Option Compared). CanBeOrdered (shown_rights nl x)) is ordered))

-- ---- what is merged once more may be

pub narrow_compared : (r : Rules) (layout : Netlist) (top : ℕ) (schematic : Netlist) (same : List (List ℕ × List ℕ)) (o : Option Compared) → AreNarrow r layout schematic → IsComparison r layout top schematic same o
    → IfSome o (λ c. c.merged_again ≡ true → IsNarrow (plain_netlist c.left) × IsNarrow (plain_netlist c.right))
narrow_compared r layout top schematic same None narrow h = tt
narrow_compared r layout top schematic same (Some c) narrow h = λ on.
    let left = plain_netlist c.left in
    let right = plain_netlist c.right in
    let differs = list_any is_difference h.1.first in
    let set = and_parts (merges_again r && differs) (has_alike left || has_alike right) (sym h.1.again_is ∙ on) in
    both_narrow layout schematic top same left right h.0 (narrow (and_parts (merges_again r) differs set.0).0)
