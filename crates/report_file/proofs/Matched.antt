-- A reported match of the flat layout with the flattened schematic.
use Rattle.std.proofs.Common.{◌≡◌, ℕ, ◌+◌, ◌==◌, ◌&&◌, ◌||◌, Bool, true, false, List, [], Option, Some, None, length, refl, subst, ap, ap₂, ◌∙◌, true≢false}
use Rattle.std.specs.List.{All, list_any}
use Rattle.std.proofs.lemmas.Bool.Decides.{Decides-eqb}
use Rattle.std.proofs.lemmas.List.{nil_from_length}
use Rattle.align_laws.proofs.Joined.{net_on}
use Rattle.align_laws.specs.Aligned.{IsDeviceAligned, IsNetAligned}
use Rattle.align_laws.specs.Cut.{Alignment}
use Rattle.align_laws.specs.Partners.{IsAlignedPair, LeftOrderLaw}
use Rattle.device_merge.specs.Merged.{has_alike}
use Rattle.cell_graph.specs.Linked.{Linked, plain}
use Rattle.composed_laws.specs.Answered.{Asked}
use Rattle.composed_laws.specs.Composed.{AreNetsPaired}
use Rattle.deep_tables.specs.declared.gates.BadGate.{BadGate}
use Rattle.flat_layout.specs.Circuits.{IsCircuitCell}
use Rattle.flat_layout.specs.Expanded.{AreTablesRight, CircuitTables}
use Rattle.flat_layout.specs.Nets.{Tables}
use Rattle.flat_layout.specs.GateTables.{GateSquare}
use Rattle.flat_layout.specs.Regions.{Node}
use Rattle.headline_laws.proofs.Again.{again_tops}
use Rattle.headline_laws.proofs.Merged.{merged_by}
use Rattle.headline_laws.specs.FlatNetlist.{flat_netlist, FlatCorrespondsLaw, IsFlatGateOf, IsFlatRegionOf}
use Rattle.match_flow.specs.Again.{as_answered}
use Rattle.match_laws.specs.Answer.{Answer}
use Rattle.match_report.specs.Report.{answers_of}
use Rattle.match_report.specs.declared.report.Compared.{Compared}
use Rattle.merge_laws.proofs.Flats.{merged_same}
use Rattle.merge_laws.specs.Grouped.{merged_netlist}
use Rattle.merge_laws.specs.Merge.{merged}
use Rattle.net_align.specs.Compared.{AreCalleesFirst, IsAlignable}
use Rattle.net_model.specs.Rows.{plain_netlist}
use Rattle.pair_jobs.proofs.Together.{are_matches}
use Rattle.pair_jobs.specs.Answers.{AreAllAnswers, IsMatch, MatchedTopsLaw, answer_at, is_difference, pairings_of}
use Rattle.pair_jobs.specs.Verdict.{IsRunVerdict}
use Rattle.pair_jobs.specs.declared.verdict.Verdict.TheVariants as verdict
use Rattle.plain_netlist.proofs.Alike.{reversed, through}
use Rattle.plain_netlist.proofs.Heights.{good as good_law}
use Rattle.plain_netlist.specs.Flats.{Corresponds, Flat, expanded, Reversed, Through}
use Rattle.plain_netlist.specs.Netlist.{Netlist, Slot, slot}
use Rattle.report_file.proofs.Combined.{as_it_is, as_merged, compared_alignable, compared_order, never_again, one_net_compared}
use Rattle.report_file.proofs.Compared.{found, good_first}
use Rattle.report_file.proofs.LastPair.{top_last}
use Rattle.report_file.proofs.NamedTops.{named_tops}
use Rattle.report_file.specs.Combined.{CombinedAlignableLaw, compared_of}
use Rattle.report_file.specs.Compared.{IsComparison, asked_by}
use Rattle.report_file.specs.File.{all_answers}
use Rattle.report_file.specs.Matched.{AreDevicesAnswered, MatchedReportLaw, MatchesFlat, MatchingLaw}
use Rattle.rule_layers.specs.Meaning.{device_rules, wiring_of}
use Rattle.rule_text.specs.Rules.{Rules}
use Rattle.table_laws.specs.NameLaws.{ExtractedGoodLaw}
use Rattle.merge_laws.proofs.NoneLost.{merged_whole, whole_on}
use Rattle.merge_laws.specs.Whole.{IsWhole}

-- ---- what the pairings pair, below the tops

-- devices, and nets, that the pairings pair below the tops
module _ (layout schematic : Netlist) (top right_top : ℕ) (same : List (List ℕ × List ℕ)) (left right : Netlist) (v w : Alignment) (p : IsAlignedPair layout schematic top right_top same left right v w) (answers : List Answer) (again : Bool) where
  abbrev devices_by : Slot → Slot → Type 0
  devices_by = Through (IsDeviceAligned layout left v p.left_aligned top) (Through (AreDevicesAnswered again left right (pairings_of answers) (v.number top)) (Reversed (IsDeviceAligned schematic right w p.right_aligned right_top)))

  abbrev nets_by : Slot → Slot → Type 0
  nets_by = Through (IsNetAligned layout left v p.left_aligned top) (Through (AreNetsPaired (as_answered again left) (pairings_of answers) (v.number top)) (Reversed (IsNetAligned schematic right w p.right_aligned right_top)))

module _ (tops : MatchedTopsLaw) (layout schematic : Netlist) (top right_top : ℕ) (same : List (List ℕ × List ℕ)) (left right : Netlist) (v w : Alignment) (p : IsAlignedPair layout schematic top right_top same left right v w) (asked : Asked) (answers : List Answer) where
  abbrev D_by : Bool → Slot → Slot → Type 0
  D_by = devices_by layout schematic top right_top same left right v w p answers

  abbrev N_by : Bool → Slot → Slot → Type 0
  N_by = nets_by layout schematic top right_top same left right v w p answers

  unmerged : AreAllAnswers left right asked answers → All IsMatch answers → Corresponds (expanded layout top) (expanded schematic right_top) (D_by false) (N_by false)
  unmerged are all = tops layout schematic top right_top same left right v w p asked answers are all

  -- where devices weren't made one once more
  pairs_once : (again : Bool) → again ≡ false → AreAllAnswers (as_answered again left) (as_answered again right) asked answers → All IsMatch answers → Corresponds (expanded layout top) (expanded schematic right_top) (D_by again) (N_by again)
  pairs_once true e are all = absurd (true≢false e)
  pairs_once false e are all = unmerged are all

  -- whether they were or not
  pairs_merged : (again : Bool) → AreAllAnswers (as_answered again left) (as_answered again right) asked answers → All IsMatch answers → Corresponds (merged (expanded layout top)) (merged (expanded schematic right_top)) (D_by again) (N_by again)
  pairs_merged true are all =
      again_tops layout schematic top right_top same left right v w p asked (answer_at answers) (pairings_of answers) are.each (are_matches (merged_netlist left) (merged_netlist right) asked answers are all)
  pairs_merged false are all = merged_same (expanded layout top) (expanded schematic right_top) (D_by false) (N_by false) (unmerged are all)

module _ (alignable : CombinedAlignableLaw) (good : ExtractedGoodLaw) (order : LeftOrderLaw) (flat : FlatCorrespondsLaw) (tops : MatchedTopsLaw) (d : Linked) (r : Rules) (unit : ℕ) (t : Tables) (g : CircuitTables) (level : ℕ → ℕ) (layout : Netlist) (top : ℕ) (bad : List BadGate) (schematic : Netlist)
    (right : AreTablesRight (plain d) (wiring_of r) t g layout (device_rules r) unit level) (top_is : IsCircuitCell g.cells top (plain d).top) (layout_fine : IsAlignable layout) (first : AreCalleesFirst layout) (fine : IsAlignable schematic) where
  abbrev F : Flat GateSquare Node
  F = flat_netlist (plain d) (wiring_of r) (device_rules r) unit

  abbrev gates_of : Slot → GateSquare → Type 0
  gates_of = IsFlatGateOf (plain d) (wiring_of r) g layout top (device_rules r)

  abbrev regions_of : Slot → Node → Type 0
  regions_of = IsFlatRegionOf (plain d) (wiring_of r) t g layout top

  -- two netlists as they are compared, where what they are is known
  compared_as : (near far : Netlist) → compared_of r layout ≡ near → compared_of r schematic ≡ far → (P : Netlist → Netlist → Type 0) → P (compared_of r layout) (compared_of r schematic) → P near far
  compared_as near far e f P h = subst (λ (x : Netlist). P near x) f (subst (λ (x : Netlist). P x (compared_of r schematic)) e h)

  gates_expanded : Corresponds (expanded layout top) F gates_of regions_of
  gates_expanded = flat (plain d) (wiring_of r) t g layout (device_rules r) unit level right top top_is

  flat_whole : IsWhole F
  flat_whole =
      let both = good (plain d) (wiring_of r) t g layout (device_rules r) unit level right in
      whole_on (expanded layout top) F gates_of regions_of gates_expanded (merged_whole layout _ both.0 top)

  schematic_whole : (partner : ℕ) → IsWhole (expanded schematic partner)
  schematic_whole partner = let h = good_law schematic fine.sound fine.normal in merged_whole schematic h.0 h.1 partner

  -- of what was compared
  matched : (same : List (List ℕ × List ℕ)) (o : Option Compared) → IsComparison r (compared_of r layout) top (compared_of r schematic) same o → IsRunVerdict (length bad) (all_answers o) verdict.Match
      → MatchesFlat d r unit layout top bad schematic o
  matched same None c h = absurd h.1
  matched same (Some f) c h =
      let left = plain_netlist f.left in
      let near = compared_of r layout in
      let far = compared_of r schematic in
      let near_first = compared_order r layout first in
      let a = c.0 in
      let p = a.are in
      let right_side = plain_netlist f.right in
      let D = devices_by near far top a.right_top same left right_side a.left_by a.right_by p (answers_of f) f.merged_again in
      let N = nets_by near far top a.right_top same left right_side a.left_by a.right_by p (answers_of f) f.merged_again in
      record {
        good = nil_from_length bad h.0;
        found = f;
        is = refl;
        matching = record {
          tables = t;
          circuits = g;
          level = level;
          are_right = right;
          top_is = top_is;
          same = same;
          partner = a.right_top;
          left_by = a.left_by;
          right_by = a.right_by;
          aligned = p;
        };
        corresponds = λ e.
            through F (expanded layout top) (expanded schematic a.right_top) (Reversed gates_of) (Reversed regions_of) D N
            (reversed (expanded layout top) F gates_of regions_of gates_expanded)
            (compared_as layout schematic (as_it_is r layout e) (as_it_is r schematic e) (λ x y. Corresponds (expanded x top) (expanded y a.right_top) D N)
            (pairs_once tops near far top a.right_top same left right_side a.left_by a.right_by p (asked_by r f) (answers_of f) f.merged_again (c.1.again_is ∙ ap (λ (b : Bool). b && list_any is_difference c.1.first && (has_alike left || has_alike right_side)) (never_again r e)) c.1.at_last h.1));
        combined = λ e.
            merged_by (plain d) (wiring_of r) t g layout (device_rules r) unit level right top top_is schematic a.right_top D N
            (compared_as (merged_netlist layout) (merged_netlist schematic) (as_merged r layout e) (as_merged r schematic e) (λ x y. Corresponds (merged (expanded x top)) (merged (expanded y a.right_top)) D N)
            (pairs_merged tops near far top a.right_top same left right_side a.left_by a.right_by p (asked_by r f) (answers_of f) f.merged_again c.1.at_last h.1));
        names = λ on a2 b x name other region (s, of_region, goes) named also.
            let on_one = one_net_compared r layout top s a2 ((gates_expanded.nets s a2 x x of_region region).1 (record { via = []; chain = refl })) in
            named_tops near far top a.right_top same left (plain_netlist f.right) a.left_by a.right_by p f.merged_again (asked_by r f) (answers_of f)
            (order near far top a.right_top same left (plain_netlist f.right) a.left_by a.right_by (good_first near (compared_alignable r layout alignable layout_fine) near_first) p) c.1.at_last h.1
            (ap₂ (λ (t : Bool) (n : ℕ). t && (n == length left.circuits)) on refl ∙ (Decides-eqb (a.left_by.number top + 1) (length left.circuits)).1 (top_last near far top a.right_top same left (plain_netlist f.right) a.left_by a.right_by p near_first))
            s b name other goes (record { circuit = named.circuit; is = named.is; pin = named.pin; listed = named.listed; on = net_on near top s a2 (slot [] named.pin) on_one named.on; named = named.named }) also;
        whole = λ e. (flat_whole, schematic_whole a.right_top);
      }

pub matched_report : CombinedAlignableLaw → ExtractedGoodLaw → LeftOrderLaw → FlatCorrespondsLaw → MatchedTopsLaw → MatchedReportLaw
matched_report alignable good order flat tops d r unit t g level layout top bad schematic text pairs right top_is layout_fine first fine x =
    matched alignable good order flat tops d r unit t g level layout top bad schematic right top_is layout_fine first fine x.same x.compared x.comparison x.outcome

pub matching : MatchingLaw
matching d r unit t g level layout top bad schematic text pairs v right top_is x f e =
    let a = (found r (compared_of r layout) top (compared_of r schematic) x.same x.compared f e x.comparison).0 in (
      record {
        tables = t;
        circuits = g;
        level = level;
        are_right = right;
        top_is = top_is;
        same = x.same;
        partner = a.right_top;
        left_by = a.left_by;
        right_by = a.right_by;
        aligned = a.are;
      },
      refl,
    )
