-- What is shown of a comparison: its circuits stand in pairs, those of the layout behind the ones
-- that they call.
use Rattle.std.proofs.Common.{◌≡◌, ℕ, List, Option, Some, None, length, map, arith, ap, sym, subst}
use Rattle.std.proofs.lemmas.Option.{slice_get_within}
use Rattle.align_laws.proofs.Sides.{aligned_sides, ordered}
use Rattle.match_report.specs.Report.{answers_of}
use Rattle.match_report.specs.declared.report.Compared.{Compared}
use Rattle.net_model.specs.Rows.{plain_circuit, plain_netlist}
use Rattle.net_model.specs.declared.netlist.Circuit.{Circuit as CodeCircuit}
use Rattle.net_model.specs.declared.netlist.Netlist.{Netlist as Code}
use Rattle.pair_turns.proofs.Sides.{same_count}
use Rattle.plain_netlist.specs.Netlist.{Netlist}
use Rattle.plain_netlist.specs.Sound.{IsGood}
use Rattle.report_file.proofs.AsAnswered.{answer_count}
use Rattle.report_file.specs.Combined.{merges_again}
use Rattle.report_file.specs.Compared.{IsComparison}
use Rattle.rule_text.specs.Rules.{Rules}
use Rattle.view_cross.specs.Whole.{AreWhole}
use Rattle.view_cross.specs.declared.rows.Row.{Row}
use Rattle.view_run.specs.Views.{AreAllPaired, AreWholeRows, ArePaired, shown_left, shown_lefts, shown_rights}

pub all_paired : (r : Rules) (layout : Netlist) (top : ℕ) (schematic : Netlist) (same : List (List ℕ × List ℕ)) (o : Option Compared) → IsComparison r layout top schematic same o → AreAllPaired o
all_paired r layout top schematic same None h = tt
all_paired r layout top schematic same (Some f) h =
    let a = h.0 in
    let sides = aligned_sides layout schematic top a.right_top same (plain_netlist f.left) (plain_netlist f.right) a.left_by a.right_by a.are in
    record { rights = sym (same_count (plain_netlist f.left) (plain_netlist f.right) sides); answers = answer_count (merges_again r) r.max_guesses r.tells_pins (plain_netlist f.left) (plain_netlist f.right) f.merged_again (answers_of f) h.1 }

pub left_good : (r : Rules) (layout : Netlist) (top : ℕ) (schematic : Netlist) (same : List (List ℕ × List ℕ)) (o : Option Compared) → IsGood layout (λ k. k) → IsComparison r layout top schematic same o
    → IsGood (shown_left layout o) (λ k. k)
left_good r layout top schematic same None good h = good
left_good r layout top schematic same (Some f) good h =
    let a = h.0 in ordered layout schematic top a.right_top same (plain_netlist f.left) (plain_netlist f.right) a.left_by a.right_by good a.are

-- the rows of what was compared have each node once, whatever is shown where nothing was
pub whole_lists : (nl other : Netlist) (o : Option Compared) (rows : List (List Row)) → AreWholeRows o rows → AreWhole (shown_lefts nl o) (shown_rights other o) rows
whole_lists nl other None rows h = λ k a b list x y is.
    (let lt = slice_get_within rows k list is in let e : length rows ≡ 0 = ap (λ (rs : List (List Row)). length rs) h in absurd (omega (arith, lt, e)))
whole_lists nl other (Some f) rows h = h

-- of pairs that there are
pub some_paired : (o : Option Compared) (f : Compared) → o ≡ Some f → AreAllPaired o → ArePaired f
some_paired o f e h = subst (λ (x : Option Compared). AreAllPaired x) e h

-- ---- the lists of circuits that the code hands on

pub whole_some : (nl other : Netlist) (o : Option Compared) (f : Compared) (rows : List (List Row)) (xs ys : List CodeCircuit) → o ≡ Some f → xs ≡ f.left.circuits.items → ys ≡ f.right.circuits.items → AreWhole (shown_lefts nl o) (shown_rights other o) rows
    → AreWhole (map plain_circuit xs) (map plain_circuit ys) rows
whole_some nl other o f rows xs ys e left right h = rw (left, right) (subst (λ (x : Option Compared). AreWhole (shown_lefts nl x) (shown_rights other x) rows) e h)

pub whole_none : (a b : Code) (o : Option Compared) (rows : List (List Row)) (xs ys : List CodeCircuit) → o ≡ None → xs ≡ a.circuits.items → ys ≡ b.circuits.items → AreWhole (shown_lefts (plain_netlist a) o) (shown_rights (plain_netlist b) o) rows
    → AreWhole (map plain_circuit xs) (map plain_circuit ys) rows
whole_none a b o rows xs ys e left right h = rw (left, right) (subst (λ (x : Option Compared). AreWhole (shown_lefts (plain_netlist a) x) (shown_rights (plain_netlist b) x) rows) e h)

-- so do the rows that are proposed for what was compared
pub rows_whole : (o : Option Compared) (f : Compared) (rows : List (List Row)) (xs ys : List CodeCircuit) → o ≡ Some f → xs ≡ f.left.circuits.items → ys ≡ f.right.circuits.items → AreWhole (map plain_circuit xs) (map plain_circuit ys) rows → AreWholeRows o rows
rows_whole o f rows xs ys e left right h =
    let one = subst (λ (cs : List CodeCircuit). AreWhole (map plain_circuit cs) (map plain_circuit ys) rows) left h in
    subst (λ (x : Option Compared). AreWholeRows x rows) (sym e) (subst (λ (cs : List CodeCircuit). AreWhole (map plain_circuit f.left.circuits.items) (map plain_circuit cs) rows) right one)
