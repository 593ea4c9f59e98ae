-- A match stays as it is where what differs is taken apart.
use Rattle.std.proofs.Common.{◌≡◌, inl, inr, ℕ, zero, suc, ◌+◌, Bool, true, false, List, [], ◌∷◌, length, Option, Some, None, slice_get, refl, sym, ap, subst, ◌∙◌, true≢false}
use Rattle.std.specs.Prelude.{◌&&◌, ◌||◌, slice_index_or}
use Rattle.std.specs.List.{All, list_any}
use Rattle.std.proofs.lemmas.Bool.{and_parts}
use Rattle.std.proofs.lemmas.List.Folds.{list_any_none}
use Rattle.std.proofs.lemmas.Option.{slice_get_within, get_or_from_slice_get}
use Rattle.device_merge.specs.Merged.{has_alike}
use Rattle.match_flow.specs.Again.{IsAnswered}
use Rattle.match_laws.specs.Answer.{Answer, DiffersByTree, DiffersInRound, Match, Skipped, Undecided}
use Rattle.match_report.specs.Report.{answers_of}
use Rattle.match_report.specs.declared.report.Compared.{Compared}
use Rattle.net_model.specs.Rows.{plain_netlist}
use Rattle.pair_jobs.specs.Answers.{IsMatch, is_difference}
use Rattle.pair_jobs.specs.Verdict.{IsRunVerdict}
use Rattle.pair_jobs.specs.declared.verdict.Verdict.TheVariants as verdict
use Rattle.pair_turns.specs.Alone.{Names}
use Rattle.pair_turns.specs.Going.{goes_from, takes_apart}
use Rattle.plain_netlist.specs.Netlist.{Circuit, Netlist}
use Rattle.report_file.specs.Combined.{flattens, merges_again}
use Rattle.report_file.specs.Compared.{IsComparison}
use Rattle.report_file.specs.File.{all_answers}
use Rattle.report_file.specs.Helps.{SameMatchLaw, flattening}
use Rattle.report_file.specs.Turns.{AreTurns, EndsAfter, NoneGoes}
use Rattle.rule_text.specs.Rules.{Rules}

-- no answer is a difference
abbrev AreMatches : List Answer → Type 0
AreMatches vs = (q : ℕ) (a : Answer) → slice_get vs q ≡ Some a → is_difference a ≡ false

none_from : (n j : ℕ) (cs ds : List Circuit) (vs : List Answer) → AreMatches vs → (k : ℕ) → goes_from n j cs ds vs k ≡ false
none_from n j [] ds vs h k = refl
none_from n j (c ∷ cs) [] vs h k = refl
none_from n j (c ∷ cs) (d ∷ ds) [] h k = refl
none_from n j (c ∷ cs) (d ∷ ds) (v ∷ vs) h k =
    ap (λ (b : Bool). (b && takes_apart n j c d k) || goes_from n (j + 1) cs ds vs k) (h 0 v refl) ∙ none_from n (j + 1) cs ds vs (λ q a e. h (suc q) a e) k

unmarked : ℕ → List Bool
unmarked zero = []
unmarked (suc n) = false ∷ unmarked n

unmarked_long : (n : ℕ) → length (unmarked n) ≡ n
unfolding unmarked
unmarked_long zero = refl
unmarked_long (suc n) = ap suc (unmarked_long n)

unmarked_at : (n k : ℕ) → slice_index_or (unmarked n) k false ≡ false
unfolding unmarked
unmarked_at zero k = refl
unmarked_at (suc n) zero = refl
unmarked_at (suc n) (suc k) = unmarked_at n k

unmarked_none : (n : ℕ) → list_any (λ (g : Bool). g) (unmarked n) ≡ false
unfolding unmarked
unmarked_none zero = refl
unmarked_none (suc n) = unmarked_none n

no_difference : (a : Answer) → IsMatch a → is_difference a ≡ false
no_difference (Match f) h = refl
no_difference (DiffersInRound r a m n) h = absurd h
no_difference (DiffersByTree gs) h = absurd h
no_difference (Undecided gs) h = refl
no_difference (Skipped q) h = refl

none_goes : (f : Compared) → All IsMatch (answers_of f) → NoneGoes f
none_goes f h =
    let vs = answers_of f in
    let matches : AreMatches vs = λ q a e. no_difference a (matched vs h q a e) in
    record {
      goes = unmarked (length vs);
      going = record {
        long = unmarked_long (length vs);
        each = λ k. unmarked_at (length vs) k ∙ sym (none_from (length vs) 0 (plain_netlist f.left).circuits (plain_netlist f.right).circuits vs matches k);
      };
      none = unmarked_none (length vs);
    }
  where
    matched : (vs : List Answer) → All IsMatch vs → (q : ℕ) (a : Answer) → slice_get vs q ≡ Some a → IsMatch a
    matched vs h q a e = subst IsMatch (get_or_from_slice_get vs q a a e) (h q a (slice_get_within vs q a e))

-- where all pairs match, no device is made one once more, whatever the rules say
none_again : (answers : List Answer) → All IsMatch answers → list_any is_difference answers ≡ false
none_again answers h = list_any_none is_difference answers (λ k a low. no_difference (slice_index_or answers k a) (h k a low))

answered_so : (r : Rules) (left right : Netlist) (again : Bool) (answers : List Answer) → All IsMatch answers → IsAnswered (merges_again r) r.max_guesses r.tells_pins left right again answers
    → IsAnswered (merges_again (flattening r)) r.max_guesses r.tells_pins left right again answers
answered_so r left right false answers all h = record {
  first = answers;
  at_first = h.at_last;
  again_is = sym (ap (λ (b : Bool). merges_again (flattening r) && b && (has_alike left || has_alike right)) (none_again answers all) ∙ ap (λ (b : Bool). b && (has_alike left || has_alike right)) (and_false (merges_again (flattening r))));
  at_last = h.at_last;
}
  where
    and_false : (b : Bool) → (b && false) ≡ false
    and_false true = refl
    and_false false = refl
answered_so r left right true answers all h =
    let parts = and_parts (merges_again r && list_any is_difference h.first) (has_alike left || has_alike right) (sym h.again_is) in
    let both = and_parts (merges_again r) (list_any is_difference h.first) parts.0 in
    let combines = (and_parts r.combine (flattens r) both.0).0 in
    record {
      first = h.first;
      at_first = h.at_first;
      again_is = sym (ap (λ (b : Bool). b && true && list_any is_difference h.first && (has_alike left || has_alike right)) combines ∙ (ap (λ (b : Bool). b && (has_alike left || has_alike right)) both.1 ∙ parts.1));
      at_last = h.at_last;
    }

compared_so : (r : Rules) (layout : Netlist) (top : ℕ) (schematic : Netlist) (same : List (List ℕ × List ℕ)) (bad : ℕ) (o : Option Compared) → IsRunVerdict bad (all_answers o) verdict.Match → IsComparison r layout top schematic same o → IsComparison (flattening r) layout top schematic same o
compared_so r layout top schematic same bad None v c = absurd v.1
compared_so r layout top schematic same bad (Some f) v c = (c.0, answered_so r (plain_netlist f.left) (plain_netlist f.right) f.merged_again (answers_of f) v.1 c.1)

ends_so : (r : Rules) (bad : ℕ) (o : Option Compared) (lines : List ℕ) → r.flattens_unmatched ≡ false → IsRunVerdict bad (all_answers o) verdict.Match → EndsAfter r o lines → EndsAfter (flattening r) o lines
ends_so r bad None lines off h e = e
ends_so r bad (Some f) lines off h (inl (inl same, e)) = inl (inr (none_goes f h.1), e)
ends_so r bad (Some f) lines off h (inl (inr n, e)) = inl (inr n, e)
ends_so r bad (Some f) lines off h (inr t) = absurd (true≢false (sym t.apart.flattens ∙ off))

turns_so : (r : Rules) (layout : Netlist) (top : ℕ) (schematic : Netlist) (most bad : ℕ) (past : List Compared) (alone : Names) (same : List (List ℕ × List ℕ)) (o : Option Compared) (lines : List ℕ) → r.flattens_unmatched ≡ false
    → IsRunVerdict bad (all_answers o) verdict.Match → AreTurns r layout top schematic most alone past same o lines → AreTurns (flattening r) layout top schematic most alone past same o lines
turns_so r layout top schematic most bad [] alone same o lines off v h = (record { told = h.0.told; comparison = compared_so r layout top schematic same bad o v h.0.comparison }, ends_so r bad o lines off v h.1)
turns_so r layout top schematic most bad (f ∷ more) alone same o lines off v h = absurd (true≢false (sym h.4.apart.flattens ∙ off))

pub same_match : SameMatchLaw
same_match d r layout top bad schematic text pairs off x =
    let p = x.turns in
    let b = p.by_rules in
    record {
      same = x.same;
      compared = x.compared;
      lines = x.lines;
      turns = record {
        alone = p.alone;
        by_rules = record { partner = b.partner; is = b.is; lefts = b.lefts; rights = b.rights };
        past = p.past;
        turns = turns_so r layout top schematic _ (length bad) p.past p.alone x.same x.compared x.lines off x.outcome p.turns;
      };
      comparison = compared_so r layout top schematic x.same (length bad) x.compared x.outcome x.comparison;
      written = x.written;
      pair_total = x.pair_total;
      outcome = x.outcome;
    }
