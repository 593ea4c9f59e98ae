-- The answers of all pairs, where alike devices may be made one once more.
use Rattle.std.specs.Prelude.{◌≡◌, ℕ, Bool, ◌&&◌, ◌||◌, List, cond}
use Rattle.std.specs.List.{list_any}
use Rattle.device_merge.specs.Merged.{has_alike}
use Rattle.match_laws.specs.Answer.{Answer}
use Rattle.match_types.specs.Answered.{asked_of}
use Rattle.merge_laws.specs.Grouped.{merged_netlist}
use Rattle.pair_jobs.specs.Answers.{AreAllAnswers, is_difference}
use Rattle.plain_netlist.specs.Netlist.{Netlist}

-- a netlist of a comparison as its pairs are answered: where they are answered again, each group of
-- alike transistors of a circuit is one once more
abbrev pub as_answered : Bool → Netlist → Netlist
as_answered again nl = cond again (merged_netlist nl) nl

-- the answers of all pairs of two aligned netlists: of their circuits as they are; where devices
-- are combined so, some pair differs and some transistors of a circuit are alike, of those in
-- which alike transistors are one once more
pub record IsAnswered (combine : Bool) (limit : ℕ) (same_pins : Bool) (left right : Netlist)
    (again : Bool) (answers : List Answer) : Type 0 where
  pub first : List Answer
  pub at_first : AreAllAnswers left right (asked_of left limit same_pins) first
  pub again_is : again ≡ (combine && list_any is_difference first
      && (has_alike left || has_alike right))
  pub at_last : AreAllAnswers (as_answered again left) (as_answered again right)
      (asked_of left limit same_pins) answers
