use Rattle.std.proofs.Common.{◌≡◌, ◌∙◌, ℕ, List, Option, ap, length, subst, sym}
use Rattle.std.specs.Option.{option_map}
use Rattle.match_laws.specs.Answer.{Answer}
use Rattle.net_model.specs.Rows.{plain_netlist}
use Rattle.pair_jobs.specs.Verdict.{IsRunVerdict}
use Rattle.report_file.specs.File.{all_answers, pair_count}
use Rattle.view_run.specs.Lines.{view_line}
use Rattle.view_run.proofs.Again.{ordered_shown, shown_answers, shown_count, shown_paired}
use Rattle.view_run.proofs.making.view_answered.Goals as goal

pub view_compared-requires-clause-paired : goal.view_compared-requires-clause-paired
view_compared-requires-clause-paired c =
    shown_paired c.args.compared c.in_ok-answered.answered.compared c.args.picture c.in_ok-answered.answered.picture c.in_ok-answered.ensures.shown c.requires.paired

pub view_compared-requires-clause-ordered : goal.view_compared-requires-clause-ordered
view_compared-requires-clause-ordered c =
    ordered_shown (plain_netlist c.args.both.now.schematic) c.args.compared c.in_ok-answered.answered.compared c.args.picture c.in_ok-answered.answered.picture c.in_ok-answered.ensures.shown c.requires.ordered

pub returns-clause-verdict : goal.returns-clause-verdict
returns-clause-verdict c =
    subst (λ (all : Option (List Answer)). IsRunVerdict (length c.args.told.bad.now) all c.in_ok-made.made.verdict)
    (shown_answers c.args.compared c.in_ok-answered.answered.compared c.args.picture c.in_ok-answered.answered.picture c.in_ok-answered.ensures.shown) c.in_ok-made.ensures.verdict

pub returns-clause-shown : goal.returns-clause-shown
returns-clause-shown c = record {
  shown = c.in_ok-answered.answered.compared;
  picture = c.in_ok-answered.answered.picture;
  is = c.in_ok-answered.ensures.shown;
  written = c.in_ok-made.ensures.written;
}

pub returns-clause-line : goal.returns-clause-line
returns-clause-line c =
    c.in_ok-made.ensures.line ∙ ap (λ (n : ℕ). view_line c.in_ok-made.made.verdict c.args.told.circuits n (length c.args.told.bad.now))
    (shown_count c.args.compared c.in_ok-answered.answered.compared c.args.picture c.in_ok-answered.answered.picture c.in_ok-answered.ensures.shown)
