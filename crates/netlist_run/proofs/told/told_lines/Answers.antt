use Rattle.std.proofs.Common.{◌++◌, map, ap, ◌∙◌, List, ℕ}
use Rattle.std.specs.Prelude.{codes}
use Rattle.std.specs.Fmt.{decimal}
use Rattle.netlist_turn.specs.Seen.{told_seen}
use Rattle.netlist_run.specs.SumsSeen.{seen}
use Rattle.netlist_run.specs.Sums.{no_sums, scale_text, sums_from, title_text}
use Rattle.netlist_run.proofs.ToldLemmas.{told_is}
use Rattle.netlist_run.proofs.told.told_lines.Goals as goal

pub returns : goal.returns
returns c =
    told_is c.args.comments (title_text c.args.has_title c.args.files.now) (scale_text c.args.scale) (codes "written " ++ (decimal c.args.cards ++ codes " cards\n")) (seen c.in_ok-sums.sums)
    (sums_from c.args.files.now c.args.origins.now no_sums (map told_seen c.args.told.now)) c.push_title.new.out.items c.extend_from_slice.new.self.items c.push_scale.new.out.items c.push_sums.new.out.items c.as_slice.result.now
    c.in_ok-sums.ensures (c.in_ok-push_title.ensures ∙ ap (λ (x : List ℕ). x ++ title_text c.args.has_title c.args.files.now) c.new-out.ensures.items) c.as_slice.ensures.value
    c.in_ok-extend_from_slice.ensures.items c.in_ok-push_scale.ensures c.in_ok-push_sums.ensures
