-- A report reads only the names of the layout's cells.
use Rattle.std.proofs.Common.{◌≡◌, ℕ, zero, suc, List, [], ◌∷◌, ◌++◌, map, Option, codes, length, slice_get, refl, sym, ap, subst, ◌∙◌}
use Rattle.cell_graph.specs.Linked.{Linked}
use Rattle.cell_graph.specs.declared.cells.CellPart.{CellPart}
use Rattle.cell_graph.specs.declared.cells.Place.{Place}
use Rattle.deep_tables.specs.declared.gates.BadGate.{BadGate}
use Rattle.flat_layout.specs.Layout as flat
use Rattle.gds_layout.specs.Once.{contents}
use Rattle.gds_layout.specs.declared.layout.Layout.{Layout}
use Rattle.match_report.specs.Gates.{cause_word, gate_line, gate_lines, name_of, square_words}
use Rattle.match_report.specs.Pairs as pairs
use Rattle.match_report.specs.Report.{blocks, partner_word, report}
use Rattle.match_report.specs.Words.{name_word, number_word}
use Rattle.match_report.specs.declared.report.Compared.{Compared}
use Rattle.pair_jobs.specs.declared.verdict.Verdict.{Verdict}
use Rattle.plain_netlist.specs.Netlist.{Netlist}
use Rattle.report_file.specs.File.{IsReportFile}
use Rattle.rule_text.specs.Rules.{Rules}

abbrev name_in : flat.Cell × List Place → List ℕ
name_in c = let f = c.0 in f.name

same_name : (xs ys : List CellPart) (i : ℕ) → map contents xs ≡ map contents ys → name_of (slice_get xs i) ≡ name_of (slice_get ys i)
same_name [] [] i e = refl
same_name [] (y ∷ ys) i e = cc
same_name (x ∷ xs) [] i e = cc
same_name (x ∷ xs) (y ∷ ys) zero e = let h : contents x ≡ contents y = cc in ap name_in h
same_name (x ∷ xs) (y ∷ ys) (suc i) e = let t : map contents xs ≡ map contents ys = cc in same_name xs ys i t

same_lines : (d e : Linked) (bad : List BadGate) → map contents d.cells ≡ map contents e.cells → gate_lines d bad ≡ gate_lines e bad
same_lines d e [] same = refl
same_lines d e (x ∷ xs) same =
    ap (λ (w : List ℕ). (codes "gate" ++ (name_word w ++ (name_word x.class ++ (square_words x.least ++ (cause_word x.cause ++ 10 ∷ []))))) ++ gate_lines d xs)
    (same_name d.cells e.cells x.cell same)
    ∙ ap (λ (ls : List ℕ). gate_line e x ++ ls) (same_lines d e xs same)

same_report : (d e : Linked) (top : List ℕ) (bad : List BadGate) (lines : List ℕ) (c : Option Compared) → map contents d.cells ≡ map contents e.cells → report d top bad lines c ≡ report e top bad lines c
same_report d e top bad lines c same =
    ap (λ (g : List ℕ). codes "lvs report 1\ntop" ++ (name_word top ++ (partner_word top c ++ (codes "\nbad" ++ (number_word (length bad) ++ (10 ∷ (g ++ (lines ++ (blocks c ++ codes "end\n")))))))))
    (same_lines d e bad same)

of_design : (d e : Linked) (r : Rules) (nl : Netlist) (top : ℕ) (bad : List BadGate) (schematic : Netlist) (text : List ℕ) (count : ℕ) (v : Verdict)
    → map contents d.cells ≡ map contents e.cells → IsReportFile e r nl top bad schematic text count v → IsReportFile d r nl top bad schematic text count v
of_design d e r nl top bad schematic text count v same h = record {
  same = h.same;
  compared = h.compared;
  lines = h.lines;
  turns = h.turns;
  comparison = h.comparison;
  written = h.written ∙ sym (same_report d e (pairs.name_of (slice_get nl.circuits top)) bad h.lines h.compared same);
  pair_total = h.pair_total;
  outcome = h.outcome;
}

pub same_report_file : (l m : Layout) (r : Rules) (one other : Netlist) (top its_top : ℕ) (bad its_bad : List BadGate) (schematic : Netlist) (text : List ℕ) (count : ℕ) (v : Verdict)
    → map contents l.design.cells ≡ map contents m.design.cells → one ≡ other → top ≡ its_top → bad ≡ its_bad
    → IsReportFile m.design r other its_top its_bad schematic text count v → IsReportFile l.design r one top bad schematic text count v
same_report_file l m r one other top its_top bad its_bad schematic text count v cells nl_same top_same bad_same h =
    let a = subst (λ (n : Netlist). IsReportFile m.design r n its_top its_bad schematic text count v) (sym nl_same) h in
    let b = subst (λ (t : ℕ). IsReportFile m.design r one t its_bad schematic text count v) (sym top_same) a in
    let c = subst (λ (bs : List BadGate). IsReportFile m.design r one top bs schematic text count v) (sym bad_same) b in
    of_design l.design m.design r one top bad schematic text count v cells c
