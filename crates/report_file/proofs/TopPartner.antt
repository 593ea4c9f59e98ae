-- The top's partner in the last comparison is the one that it has by the lines of the rules.
use Rattle.std.proofs.Common.{◌≡◌, ℕ, true, false, List, [], ◌∷◌, map, Option, Some, None, slice_get, refl, sym, ap, subst, ◌∙◌, true≢false}
use Rattle.std.proofs.lemmas.Bool.{false_from_ne_true, not-true}
use Rattle.std.specs.Prelude.{not}
use Rattle.std.specs.Str.{bytes_eq}
use Rattle.std.proofs.lemmas.Slice.Eq.{bytes_eq-Decides}
use Rattle.net_names.specs.Folding.{folded_bytes}
use Rattle.align_laws.specs.Partners.{AlignedSidesLaw, AreLinesApart, IsPartner, LeftOrderLaw, OnePartnerLaw}
use Rattle.match_report.specs.Pairs.{name_of}
use Rattle.match_report.specs.Report.{answers_of}
use Rattle.match_report.specs.declared.report.Compared.{Compared}
use Rattle.net_align.proofs.PairKept.{lines_apart}
use Rattle.net_align.specs.Compared.{AreCalleesFirst, IsAlignable, IsTopPartner}
use Rattle.net_model.specs.Rows.{plain_netlist}
use Rattle.pair_turns.specs.Alone.{Names, all_names, has_name, longest, same_alone, with_gone}
use Rattle.pair_turns.specs.Laws.{AloneLaw, LinesApartLaw, LongestLaw}
use Rattle.pair_turns.proofs.Lists.{found, listed_found, of_map, on_map, picked}
use Rattle.plain_netlist.specs.Lists.{IsListed}
use Rattle.plain_netlist.specs.Netlist.{Circuit, Netlist}
use Rattle.report_file.proofs.AsAnswered.{answer_count}
use Rattle.report_file.specs.Combined.{merges_again}
use Rattle.report_file.proofs.Compared.{ordered}
use Rattle.report_file.proofs.SameTop.{IsFree, same_top}
use Rattle.report_file.proofs.SoFar.{fit_by_rules}
use Rattle.report_file.proofs.TopKept.{IsKept, kept_after}
use Rattle.report_file.proofs.Turned.{AreFit, fit_after, lefts_once, rights_once}
use Rattle.report_file.specs.Partner.{AreRulesApart}
use Rattle.report_file.specs.Turns.{AreInTurns, AreTurns, IsAloneByRules, others, others_at}
use Rattle.rule_text.specs.Rules.{Rules}
use Rattle.rule_text.specs.Sound.{IsSound}

-- among fewer names it isn't either
fewer_none : (name q : List ℕ) (names : List (List ℕ)) → has_name names q ≡ false → has_name (others name names) q ≡ false
fewer_none name q names none = false_from_ne_true (has_name (others name names) q) (λ t.
    let r = of_map folded_bytes (others name names) (folded_bytes q) (listed_found (folded_bytes q) (map folded_bytes (others name names)) t) in
    let was = picked (λ (n : List ℕ). not (bytes_eq (folded_bytes n) (folded_bytes name))) names r.item r.there in
    let there = found (folded_bytes q) (map folded_bytes names) (subst (λ (x : List ℕ). IsListed x (map folded_bytes names)) (sym r.is) (on_map folded_bytes names r.item was.0)) in
    true≢false (sym there ∙ none))

-- the name itself isn't among the others
others_free : (name q : List ℕ) (names : List (List ℕ)) → folded_bytes q ≡ folded_bytes name → has_name (others name names) q ≡ false
others_free name q names e = false_from_ne_true (has_name (others name names) q) (λ t.
    let r = of_map folded_bytes (others name names) (folded_bytes q) (listed_found (folded_bytes q) (map folded_bytes (others name names)) t) in
    let was = picked (λ (n : List ℕ). not (bytes_eq (folded_bytes n) (folded_bytes name))) names r.item r.there in
    let same = (bytes_eq-Decides (folded_bytes r.item) (folded_bytes name)).1 (sym r.is ∙ e) in
    true≢false (sym same ∙ not-true (bytes_eq (folded_bytes r.item) (folded_bytes name)) was.1))

circuit_free : (nl : Netlist) (a : ℕ) (names : List (List ℕ)) → IsFree nl (others (name_of (slice_get nl.circuits a)) names) a
circuit_free nl a names q (x, is, e) = others_free (name_of (slice_get nl.circuits a)) q names (sym e ∙ ap (λ (o : Option Circuit). folded_bytes (name_of o)) (sym is))

none_at : (schematic : Netlist) (o : Option ℕ) (q : List ℕ) (names : List (List ℕ)) → has_name names q ≡ false → has_name (others_at schematic o names) q ≡ false
none_at schematic None q names none = refl
none_at schematic (Some b) q names none = fewer_none (name_of (slice_get schematic.circuits b)) q names none

module _ (one : OnePartnerLaw) (sides : AlignedSidesLaw) (order : LeftOrderLaw) (alone_law : AloneLaw) (lines_law : LinesApartLaw) (longest_law : LongestLaw) (r : Rules) (layout : Netlist) (top : ℕ) (schematic : Netlist) (sound : IsSound r) (fine : IsAlignable layout) (also : IsAlignable schematic)
    (first : AreCalleesFirst layout) (b : ℕ) (partner : IsPartner layout schematic top r.same top b) where
  free_at : (o : Option ℕ) → IsTopPartner layout schematic top r.same o → IsFree schematic (others_at schematic o r.flat_schematics) b
  free_at None h = absurd (h b partner)
  free_at (Some c) h =
      let e = (one layout schematic top r.same fine.names also.names (lines_apart r.same sound.formed.layouts sound.formed.schematics)).0 top c b h partner in
      subst (λ (n : ℕ). IsFree schematic (others (name_of (slice_get schematic.circuits n)) r.flat_schematics) b) (sym e) (circuit_free schematic b r.flat_schematics)

  kept_first : AreRulesApart r → (alone : Names) → IsAloneByRules r layout top schematic alone → IsKept layout schematic top b r.same alone
  kept_first apart alone by = record {
    whole = λ line l.
        let left = subst (λ (ns : List (List ℕ)). has_name ns line.0 ≡ false) (sym by.lefts) (fewer_none (name_of (slice_get layout.circuits top)) line.0 r.flat_layouts (apart.lefts line l)) in
        let right = subst (λ (ns : List (List ℕ)). has_name ns line.1 ≡ false) (sym by.rights) (none_at schematic by.partner line.1 r.flat_schematics (apart.rights line l)) in
        left ∙ sym right;
    free = subst (λ (ns : List (List ℕ)). IsFree layout ns top) (sym by.lefts) (circuit_free layout top r.flat_layouts);
    also = subst (λ (ns : List (List ℕ)). IsFree schematic ns b) (sym by.rights) (free_at by.partner by.is);
  }

  kept_on : (most : ℕ) (past : List Compared) (alone : Names) → AreFit layout schematic r.same most alone → IsKept layout schematic top b r.same alone → (same : List (List ℕ × List ℕ)) (o : Option Compared) (lines : List ℕ)
      → AreTurns r layout top schematic most alone past same o lines → IsPartner layout schematic top same top b
  kept_on most [] alone fit kept same o lines h =
      subst (λ (s : List (List ℕ × List ℕ)). IsPartner layout schematic top s top b) (sym h.0.told) (same_top most alone layout schematic r.same fit.low top kept.whole kept.free b kept.also partner)
  kept_on most (f ∷ more) alone fit kept same o lines h =
      let left = plain_netlist f.left in
      let right = plain_netlist f.right in
      let a = h.3.comparison.0 in
      let said = same_alone most alone r.same in
      let apart : AreLinesApart said = lines_apart said (lefts_once lines_law layout schematic r.same most alone fit sound.formed.layouts) (rights_once lines_law layout schematic r.same most alone fit sound.formed.schematics) in
      let now = same_top most alone layout schematic r.same fit.low top kept.whole kept.free b kept.also partner in
      let is = (one layout schematic top said fine.names also.names apart).0 top a.right_top b a.are.partner now in
      let o_left = (ordered sides order layout schematic top said left right fine first a).good.lower in
      let next = kept_after layout schematic top r.same most alone fit fine.names also.names apart left right a first o_left (answers_of f) (answer_count (merges_again r) r.max_guesses r.tells_pins left right f.merged_again (answers_of f) h.3.comparison.1) h.0 h.4.apart.going b is kept in
      let next_fit = fit_after alone_law layout schematic top r.same most alone fit fine.names also.names left right a h.0 in
      kept_on most more (with_gone alone left right h.0) next_fit next same o h.2 h.6

  pub last_partner : AreRulesApart r → (same : List (List ℕ × List ℕ)) (o : Option Compared) (lines : List ℕ) → AreInTurns r layout top schematic same o lines → IsPartner layout schematic top same top b
  last_partner apart same o lines t =
      kept_on (longest (all_names layout schematic r.same t.alone)) t.past t.alone (fit_by_rules longest_law r layout top schematic t.alone sound t.by_rules) (kept_first apart t.alone t.by_rules) same o lines t.turns
