-- A comparison, and what follows it.
use Rattle.std.proofs.Common.{◌≡◌, ℕ, ◌<◌, Bool, true, List, [], ◌++◌, length, Option, Some, None, refl, sym, ap, subst, ◌∙◌, arith}
use Rattle.base_laws.proofs.Items.{item_at}
use Rattle.base_laws.proofs.Lists.{map_count}
use Rattle.std.proofs.lemmas.Option.{slice_get_within}
use Rattle.align_laws.specs.Partners.{AreSides}
use Rattle.align_laws.proofs.Sides.{aligned_sides}
use Rattle.match_report.specs.Report.{answers_of}
use Rattle.match_report.specs.declared.report.Compared.{Compared}
use Rattle.net_align.specs.Compared.{IsAlignable}
use Rattle.match_types.specs.Plain.{plain_answer}
use Rattle.net_model.specs.Rows.{plain_circuit, plain_netlist}
use Rattle.pair_turns.specs.Alone.{Names, all_names, longest, same_alone, with_gone}
use Rattle.pair_turns.specs.Laws.{AloneLaw, LongestLaw}
use Rattle.plain_netlist.specs.Netlist.{Netlist}
use Rattle.report_file.specs.Compared.{IsComparison}
use Rattle.report_file.specs.Taken.{AddsTurn}
use Rattle.report_file.specs.Turns.{AreInTurns, AreTurns, EndsAfter, IsAloneByRules}
use Rattle.report_file.specs.Combined.{merges_again}
use Rattle.report_file.proofs.AsAnswered.{answer_count}
use Rattle.report_file.proofs.Gone.{some_goes}
use Rattle.report_file.proofs.SoFar.{AreTaken, all_taken, fit_by_rules, none_taken, one_taken}
use Rattle.report_file.proofs.Turned.{fewer_after, fit_after, left_over}
use Rattle.rule_text.specs.Rules.{Rules}
use Rattle.rule_text.specs.Sound.{IsSound}

-- lines of lists that are equal
pub told_so : (most : ℕ) (alone : Names) (rules first second same : List (List ℕ × List ℕ)) → first ≡ rules → second ≡ same_alone most alone first → same ≡ second → same ≡ same_alone most alone rules
told_so most alone rules first second same e f h = h ∙ f ∙ ap (λ (ls : List (List ℕ × List ℕ)). same_alone most alone ls) e

pub none_of : {A : Type 0} (o : Option A) → ((a : A) → o ≡ Some a → ⊥) → o ≡ None
none_of None never = refl
none_of (Some a) never = absurd (never a refl)

-- before the first comparison
pub begins : LongestLaw → (r : Rules) (layout : Netlist) (top : ℕ) (schematic : Netlist) (begun : Names) → IsSound r → IsAloneByRules r layout top schematic begun → (most : ℕ) → most ≡ longest (all_names layout schematic r.same begun)
    → (lines : List ℕ) → lines ≡ [] → AreTaken r layout top schematic most begun begun lines
begins law r layout top schematic begun sound by most longest_is lines e =
    subst (λ (m : ℕ). AreTaken r layout top schematic m begun begun lines) (sym longest_is)
    (subst (λ (ls : List ℕ). AreTaken r layout top schematic (longest (all_names layout schematic r.same begun)) begun begun ls) (sym e)
    (none_taken r layout top schematic (longest (all_names layout schematic r.same begun)) begun (fit_by_rules law r layout top schematic begun sound by)))

-- the two sides of a comparison
pub compared_sides : (r : Rules) (layout : Netlist) (top : ℕ) (schematic : Netlist) (same : List (List ℕ × List ℕ)) (f : Compared) → IsComparison r layout top schematic same (Some f) → AreSides (plain_netlist f.left) (plain_netlist f.right)
compared_sides r layout top schematic same f h =
    let a = h.0 in aligned_sides layout schematic top a.right_top same (plain_netlist f.left) (plain_netlist f.right) a.left_by a.right_by a.are

-- as many answers as circuits
pub compared_count : (r : Rules) (layout : Netlist) (top : ℕ) (schematic : Netlist) (same : List (List ℕ × List ℕ)) (f : Compared) → IsComparison r layout top schematic same (Some f) → length f.answers ≡ length f.left.circuits.items
compared_count r layout top schematic same f h =
    sym (map_count plain_answer f.answers)
    ∙ (answer_count (merges_again r) r.max_guesses r.tells_pins (plain_netlist f.left) (plain_netlist f.right) f.merged_again (answers_of f) h.1 ∙ map_count plain_circuit f.left.circuits.items)

module _ (r : Rules) (layout : Netlist) (top : ℕ) (schematic : Netlist) (most : ℕ) (begun alone : Names) (lines : List ℕ) (taken : AreTaken r layout top schematic most begun alone lines) (same : List (List ℕ × List ℕ)) (told : same ≡ same_alone most alone r.same) where
  -- the last one
  pub ended : most ≡ longest (all_names layout schematic r.same begun) → IsAloneByRules r layout top schematic begun → (o : Option Compared) (here new : List ℕ) → IsComparison r layout top schematic same o → EndsAfter r o here → new ≡ lines ++ here
      → AreInTurns r layout top schematic same o new
  ended longest_is by o here new compared ends e =
      let all = all_taken r layout top schematic most begun alone lines here same o taken (record { told = told; comparison = compared }) ends in
      record {
        alone = begun;
        by_rules = by;
        past = all.0;
        turns = subst (λ (ls : List ℕ). AreTurns r layout top schematic (longest (all_names layout schematic r.same begun)) begun all.0 same o ls) (sym e)
            (subst (λ (m : ℕ). AreTurns r layout top schematic m begun all.0 same o (lines ++ here)) longest_is all.1);
      }

  module _ (law : AloneLaw) (fine : IsAlignable layout) (also : IsAlignable schematic) (f : Compared) (compared : IsComparison r layout top schematic same (Some f)) (goes : List Bool) (new : List ℕ) (adds : AddsTurn r f goes lines new)
      (later : Names) (next : later ≡ with_gone alone (plain_netlist f.left) (plain_netlist f.right) goes) where
    by_alone : IsComparison r layout top schematic (same_alone most alone r.same) (Some f)
    by_alone = subst (λ (s : List (List ℕ × List ℕ)). IsComparison r layout top schematic s (Some f)) told compared

    -- one that is followed by another
    pub went_on : AreTaken r layout top schematic most begun later new
    went_on =
        let fit = fit_after law layout schematic top r.same most alone taken.fit fine.names also.names (plain_netlist f.left) (plain_netlist f.right) by_alone.0 goes in
        let more = one_taken r layout top schematic most begun alone lines adds.0 f goes taken (record { told = refl; comparison = by_alone }) adds.2 fit in
        subst (λ (n : Names). AreTaken r layout top schematic most begun n new) (sym next)
        (subst (λ (ls : List ℕ). AreTaken r layout top schematic most begun (with_gone alone (plain_netlist f.left) (plain_netlist f.right) goes) ls) (sym adds.1) more)

    -- fewer circuits have a partner
    pub fewer : left_over layout later < left_over layout alone
    fewer =
        let some = some_goes goes adds.2.apart.some in
        let low = slice_get_within goes some.0 true some.1 in
        let long = adds.2.apart.going.long in
        let count = answer_count (merges_again r) r.max_guesses r.tells_pins (plain_netlist f.left) (plain_netlist f.right) f.merged_again (answers_of f) by_alone.1 in
        let c = item_at (plain_netlist f.left).circuits some.0 (omega (arith, low, long, count)) in
        subst (λ (n : Names). left_over layout n < left_over layout alone) (sym next)
        (fewer_after law layout schematic top r.same most alone taken.fit fine.names also.names (plain_netlist f.left) (plain_netlist f.right) by_alone.0 goes some.0 c.0 some.1 c.1)
