-- Two reports of the same are one.
use Rattle.std.proofs.Common.{◌≡◌, ℕ, Bool, List, [], ◌∷◌, ◌++◌, Option, Some, None, length, slice_get, codes, refl, sym, ap, subst, ◌∙◌}
use Rattle.align_laws.specs.Partners.{AlignedSidesLaw, AreLinesApart, AreSides, IsAlignedPair, LeftOrderLaw, OnePairLaw, OnePartnerLaw}
use Rattle.cell_graph.specs.Linked.{Linked}
use Rattle.composed_laws.specs.Answered.{OneAnswerOfLaw, TogetherAnswersLaw}
use Rattle.deep_tables.specs.declared.gates.BadGate.{BadGate}
use Rattle.match_flow.specs.Again.{IsAnswered}
use Rattle.match_laws.specs.Answer.{Answer}
use Rattle.match_report.specs.Gates.{gate_lines}
use Rattle.match_report.specs.Pairs.{name_of, pair_texts}
use Rattle.match_report.specs.Report.{again_line, answers_of, blocks, lefts_of, partner_of, partner_word, report, rights_of}
use Rattle.match_report.specs.Words.{name_word, number_word}
use Rattle.match_report.specs.declared.report.Compared.{Compared}
use Rattle.net_align.proofs.PairKept.{lines_apart}
use Rattle.net_align.specs.Compared.{AreAligned, AreCalleesFirst, IsAlignable, IsTopPartner}
use Rattle.net_model.specs.Rows.{plain_netlist}
use Rattle.pair_jobs.specs.Verdict.{IsRunVerdict, OneRunVerdictLaw}
use Rattle.pair_turns.specs.Alone.{Names, all_names, longest, same_alone, with_gone}
use Rattle.pair_turns.specs.Laws.{AloneLaw, LinesApartLaw, LongestLaw}
use Rattle.plain_netlist.specs.Netlist.{Circuit, Netlist}
use Rattle.report_file.proofs.Compared.{ordered}
use Rattle.report_file.proofs.OneAnswer.{one_answered}
use Rattle.report_file.proofs.OneTurn.{AreSame, end_or_turn, one_end, one_goes, one_here, turn_or_end}
use Rattle.report_file.proofs.SoFar.{fit_by_rules}
use Rattle.report_file.proofs.Turned.{AreFit, fit_after, lefts_once, rights_once}
use Rattle.report_file.specs.Combined.{merges_again}
use Rattle.report_file.specs.Compared.{IsComparison}
use Rattle.report_file.specs.File.{all_answers, pair_count}
use Rattle.report_file.specs.One.{OneReportLaw}
use Rattle.report_file.specs.Turns.{AreTurns, EndsAfter, IsAloneByRules, IsComparedSo, IsTurn, others_at}
use Rattle.rule_text.specs.Rules.{Rules}
use Rattle.rule_text.specs.Sound.{IsSound}

abbrev answer_count : Option (List Answer) → ℕ
answer_count None = 0
answer_count (Some all) = length all

-- what a report shows of a comparison
record IsSameShown (one other : Option Compared) : Type 0 where
  pub text : (d : Linked) (top : List ℕ) (bad : List BadGate) (lines : List ℕ) → report d top bad lines one ≡ report d top bad lines other
  pub answers : all_answers one ≡ all_answers other

-- equal sides and answers are shown by one text
same_shown : (f g : Compared) → AreSame f g → IsSameShown (Some f) (Some g)
same_shown f g same = record {
  text = λ d top bad lines.
      ap (λ (word : List ℕ). framed d top bad lines word (blocks (Some f))) (word top) ∙ ap (λ (text : List ℕ). framed d top bad lines (partner_word top (Some g)) text) text;
  answers = ap Some same.answers;
}
  where
    framed : Linked → List ℕ → List BadGate → List ℕ → List ℕ → List ℕ → List ℕ
    framed d top bad lines word text = codes "lvs report 1\ntop" ++ (name_word top ++ (word ++ (codes "\nbad" ++ (number_word (length bad) ++ (10 ∷ (gate_lines d bad ++ (lines ++ (text ++ codes "end\n"))))))))

    lefts : lefts_of f ≡ lefts_of g
    lefts = ap (λ (n : Netlist). n.circuits) same.left

    rights : rights_of f ≡ rights_of g
    rights = ap (λ (n : Netlist). n.circuits) same.right

    word : (top : List ℕ) → partner_word top (Some f) ≡ partner_word top (Some g)
    word top = ap (λ (cs : List Circuit). name_word (name_of (partner_of cs (rights_of f) top))) lefts ∙ ap (λ (cs : List Circuit). name_word (name_of (partner_of (lefts_of g) cs top))) rights

    text : blocks (Some f) ≡ blocks (Some g)
    text =
        ap (λ (b : Bool). again_line b ++ pair_texts (lefts_of f) (rights_of f) 0 (answers_of f)) same.again
        ∙ ap (λ (cs : List Circuit). again_line g.merged_again ++ pair_texts cs (rights_of f) 0 (answers_of f)) lefts
        ∙ (ap (λ (cs : List Circuit). again_line g.merged_again ++ pair_texts (lefts_of g) cs 0 (answers_of f)) rights
        ∙ ap (λ (all : List Answer). again_line g.merged_again ++ pair_texts (lefts_of g) (rights_of g) 0 all) same.answers)

-- the laws by which there is one comparison
pub record Laws : Type 0 where
  pub one_partner : OnePartnerLaw
  pub one_pair : OnePairLaw
  pub sides : AlignedSidesLaw
  pub order : LeftOrderLaw
  pub together : TogetherAnswersLaw
  pub one_answer : OneAnswerOfLaw
  pub longest : LongestLaw
  pub lines : LinesApartLaw
  pub alone : AloneLaw

module _ (laws : Laws) (layout : Netlist) (top : ℕ) (schematic : Netlist) (r : Rules) (same : List (List ℕ × List ℕ)) (lines : AreLinesApart same) (fine : IsAlignable layout) (also : IsAlignable schematic)
    (first : AreCalleesFirst layout) where
  -- there is one aligned pair
  one_aligned : (l r m s : Netlist) → AreAligned layout schematic top same l r → AreAligned layout schematic top same m s → (l ≡ m) × (r ≡ s)
  one_aligned l r m s a b =
      let partner = (laws.one_partner layout schematic top same fine.names also.names lines).0 top b.right_top a.right_top b.are.partner a.are.partner in
      laws.one_pair layout schematic top a.right_top same l r m s a.left_by a.right_by b.left_by b.right_by a.are
      (subst (λ (n : ℕ). IsAlignedPair layout schematic top n same m s b.left_by b.right_by) partner b.are)

  -- and one comparison
  one_compared : (f g : Compared) → IsComparison r layout top schematic same (Some f) → IsComparison r layout top schematic same (Some g) → AreSame f g
  one_compared f g h k =
      let left = plain_netlist f.left in
      let right = plain_netlist f.right in
      let both = one_aligned left right (plain_netlist g.left) (plain_netlist g.right) h.0 k.0 in
      let moved = subst (λ (n : Netlist). IsAnswered (merges_again r) r.max_guesses r.tells_pins left n g.merged_again (answers_of g)) (sym both.1)
      (subst (λ (n : Netlist). IsAnswered (merges_again r) r.max_guesses r.tells_pins n (plain_netlist g.right) g.merged_again (answers_of g)) (sym both.0) k.1) in
      let order = ordered laws.sides laws.order layout schematic top same left right fine first h.0 in
      let one = one_answered laws.together laws.one_answer (merges_again r) r.max_guesses r.tells_pins left right order f.merged_again (answers_of f) h.1 g.merged_again (answers_of g) moved in
      record {
        left = both.0;
        right = both.1;
        again = one.0;
        answers = one.1;
      }

-- the comparison and the lines are shown by one text
record IsOneEnd (one other : Option Compared) (lines others : List ℕ) : Type 0 where
  pub shown : IsSameShown one other
  pub lines_same : lines ≡ others

module _ (laws : Laws) (r : Rules) (layout : Netlist) (top : ℕ) (schematic : Netlist) (sound : IsSound r) (fine : IsAlignable layout) (also : IsAlignable schematic) (first : AreCalleesFirst layout) (most : ℕ) where
  apart_at : (alone : Names) → AreFit layout schematic r.same most alone → AreLinesApart (same_alone most alone r.same)
  apart_at alone fit =
      lines_apart (same_alone most alone r.same) (lefts_once laws.lines layout schematic r.same most alone fit sound.formed.layouts) (rights_once laws.lines layout schematic r.same most alone fit sound.formed.schematics)

  module _ (alone : Names) (fit : AreFit layout schematic r.same most alone) where
    same_compared : (f g : Compared) → IsComparison r layout top schematic (same_alone most alone r.same) (Some f) → IsComparison r layout top schematic (same_alone most alone r.same) (Some g) → AreSame f g
    same_compared f g h k = one_compared laws layout top schematic r (same_alone most alone r.same) (apart_at alone fit) fine also first f g h k

    sides_of : (f : Compared) → IsComparison r layout top schematic (same_alone most alone r.same) (Some f) → AreSides (plain_netlist f.left) (plain_netlist f.right)
    sides_of f h = (ordered laws.sides laws.order layout schematic top (same_alone most alone r.same) (plain_netlist f.left) (plain_netlist f.right) fine first h.0).sides

    -- a comparison by the lines of these circuits
    by_alone : (same : List (List ℕ × List ℕ)) (o : Option Compared) → IsComparedSo r layout top schematic most alone same o → IsComparison r layout top schematic (same_alone most alone r.same) o
    by_alone same o so = subst (λ (s : List (List ℕ × List ℕ)). IsComparison r layout top schematic s o) so.told so.comparison

    one_last : (one other : Option Compared) (lines others : List ℕ) → IsComparison r layout top schematic (same_alone most alone r.same) one → IsComparison r layout top schematic (same_alone most alone r.same) other
        → EndsAfter r one lines → EndsAfter r other others → IsOneEnd one other lines others
    one_last None None lines others h k e f = record { shown = record { text = λ d name bad ls. refl; answers = refl }; lines_same = e ∙ sym f }
    one_last None (Some g) lines others h k e f = absurd (h k.0.right_top k.0.are.partner)
    one_last (Some f) None lines others h k e g = absurd (k h.0.right_top h.0.are.partner)
    one_last (Some f) (Some g) lines others h k d e =
        let same = same_compared f g h k in record { shown = same_shown f g same; lines_same = one_end r f g same (sides_of f h) lines others d e }

    last_or_turn : (one : Option Compared) (g : Compared) (lines here : List ℕ) (goes : List Bool) → IsComparison r layout top schematic (same_alone most alone r.same) one
        → IsComparison r layout top schematic (same_alone most alone r.same) (Some g) → EndsAfter r one lines → IsTurn r g goes here → ⊥
    last_or_turn None g lines here goes h k e t = h k.0.right_top k.0.are.partner
    last_or_turn (Some f) g lines here goes h k e t = end_or_turn r f g (same_compared f g h k) (sides_of f h) lines here goes e t

    turn_or_last : (f : Compared) (other : Option Compared) (here others : List ℕ) (goes : List Bool) → IsComparison r layout top schematic (same_alone most alone r.same) (Some f)
        → IsComparison r layout top schematic (same_alone most alone r.same) other → IsTurn r f goes here → EndsAfter r other others → ⊥
    turn_or_last f None here others goes h k t e = k h.0.right_top h.0.are.partner
    turn_or_last f (Some g) here others goes h k t e = turn_or_end r f g (same_compared f g h k) (sides_of f h) here others goes t e

    -- after equal comparisons the same circuits have no partner
    next_same : (f g : Compared) (a b : List Bool) → AreSame f g → a ≡ b → with_gone alone (plain_netlist g.left) (plain_netlist g.right) b ≡ with_gone alone (plain_netlist f.left) (plain_netlist f.right) a
    next_same f g a b same e =
        ap (λ (n : Netlist). with_gone alone n (plain_netlist g.right) b) (sym same.left)
        ∙ ap (λ (n : Netlist). with_gone alone (plain_netlist f.left) n b) (sym same.right)
        ∙ ap (λ (x : List Bool). with_gone alone (plain_netlist f.left) (plain_netlist f.right) x) (sym e)

    next_fit : (f : Compared) (goes : List Bool) → IsComparison r layout top schematic (same_alone most alone r.same) (Some f) → AreFit layout schematic r.same most (with_gone alone (plain_netlist f.left) (plain_netlist f.right) goes)
    next_fit f goes h = fit_after laws.alone layout schematic top r.same most alone fit fine.names also.names (plain_netlist f.left) (plain_netlist f.right) h.0 goes

  one_turns : (past others_past : List Compared) (alone : Names) → AreFit layout schematic r.same most alone → (same other_same : List (List ℕ × List ℕ)) (one other : Option Compared) (lines others : List ℕ)
      → AreTurns r layout top schematic most alone past same one lines → AreTurns r layout top schematic most alone others_past other_same other others → IsOneEnd one other lines others
  one_turns [] [] alone fit same other_same one other lines others h k =
      one_last alone fit one other lines others (by_alone alone fit same one h.0) (by_alone alone fit other_same other k.0) h.1 k.1
  one_turns [] (g ∷ more) alone fit same other_same one other lines others h k =
      absurd (last_or_turn alone fit one g lines k.1 k.0 (by_alone alone fit same one h.0) k.3.comparison h.1 k.4)
  one_turns (f ∷ more) [] alone fit same other_same one other lines others h k =
      absurd (turn_or_last alone fit f other h.1 others h.0 h.3.comparison (by_alone alone fit other_same other k.0) h.4 k.1)
  one_turns (f ∷ more) (g ∷ rest) alone fit same other_same one other lines others h k =
      let eq = same_compared alone fit f g h.3.comparison k.3.comparison in
      let sides = sides_of alone fit f h.3.comparison in
      let goes = one_goes r f g eq sides h.1 k.1 h.0 k.0 h.4 k.4 in
      let here = one_here r f g eq sides h.1 k.1 h.0 k.0 h.4 k.4 in
      let next = with_gone alone (plain_netlist f.left) (plain_netlist f.right) h.0 in
      let moved : AreTurns r layout top schematic most next rest other_same other k.2 =
      subst (λ (a : Names). AreTurns r layout top schematic most a rest other_same other k.2) (next_same alone fit f g h.0 k.0 eq goes) k.6 in
      let end = one_turns more rest next (next_fit alone fit f h.0 h.3.comparison) same other_same one other h.2 k.2 h.6 moved in
      record { shown = end.shown; lines_same = h.5 ∙ ap (λ (x : List ℕ). x ++ h.2) here ∙ ap (λ (x : List ℕ). k.1 ++ x) end.lines_same ∙ sym k.5 }

-- the top has one partner
one_top : OnePartnerLaw → (layout schematic : Netlist) (top : ℕ) (same : List (List ℕ × List ℕ)) → IsAlignable layout → IsAlignable schematic → AreLinesApart same → (a b : Option ℕ)
    → IsTopPartner layout schematic top same a → IsTopPartner layout schematic top same b → a ≡ b
one_top law layout schematic top same fine also lines None None h k = refl
one_top law layout schematic top same fine also lines None (Some b) h k = absurd (h b k)
one_top law layout schematic top same fine also lines (Some a) None h k = absurd (k a h)
one_top law layout schematic top same fine also lines (Some a) (Some b) h k = ap Some ((law layout schematic top same fine.names also.names lines).0 top a b h k)

-- the rules give the same circuits no partner
one_alone : OnePartnerLaw → (r : Rules) (layout : Netlist) (top : ℕ) (schematic : Netlist) → IsAlignable layout → IsAlignable schematic → AreLinesApart r.same → (a b : Names)
    → IsAloneByRules r layout top schematic a → IsAloneByRules r layout top schematic b → a ≡ b
one_alone law r layout top schematic fine also lines a b h k =
    let partner = one_top law layout schematic top r.same fine also lines h.partner k.partner h.is k.is in
    let lefts : a.lefts ≡ b.lefts = h.lefts ∙ sym k.lefts in
    let rights : a.rights ≡ b.rights = h.rights ∙ ap (λ (o : Option ℕ). others_at schematic o r.flat_schematics) partner ∙ sym k.rights in
    ap (λ (ns : List (List ℕ)). let z : Names = record { lefts = ns; rights = a.rights } in z) lefts ∙ ap (λ (ns : List (List ℕ)). let z : Names = record { lefts = b.lefts; rights = ns } in z) rights

-- as many pairs as answers
counted : (o : Option Compared) → pair_count o ≡ answer_count (all_answers o)
counted None = refl
counted (Some f) = refl

pub one_report : Laws → OneRunVerdictLaw → OneReportLaw
one_report laws one_verdict d r layout top bad schematic text other pairs others a b sound fine first also x y =
    let lines = lines_apart r.same sound.formed.layouts sound.formed.schematics in
    let p = x.turns in
    let q = y.turns in
    let alone = one_alone laws.one_partner r layout top schematic fine also lines q.alone p.alone q.by_rules p.by_rules in
    let moved : AreTurns r layout top schematic (longest (all_names layout schematic r.same p.alone)) p.alone q.past y.same y.compared y.lines =
    subst (λ (n : Names). AreTurns r layout top schematic (longest (all_names layout schematic r.same n)) n q.past y.same y.compared y.lines) alone q.turns in
    let fit = fit_by_rules laws.longest r layout top schematic p.alone sound p.by_rules in
    let end = one_turns laws r layout top schematic sound fine also first (longest (all_names layout schematic r.same p.alone)) p.past q.past p.alone fit x.same y.same x.compared y.compared x.lines y.lines p.turns moved in
    let shown = end.shown in
    let name = name_of (slice_get layout.circuits top) in
    record {
      text = x.written ∙ (ap (λ (ls : List ℕ). report d name bad ls x.compared) end.lines_same ∙ (shown.text d name bad y.lines ∙ sym y.written));
      pair_count = x.pair_total ∙ (counted x.compared ∙ (ap answer_count shown.answers ∙ (sym (counted y.compared) ∙ sym y.pair_total)));
      verdict = one_verdict (length bad) (all_answers x.compared) a b x.outcome (subst (λ (all : Option (List Answer)). IsRunVerdict (length bad) all b) (sym shown.answers) y.outcome);
    }
