use Rattle.std.proofs.Common.{◌+◌, refl}
use Rattle.rule_stages.specs.Stages.{at_depth}
use Rattle.depth_designs.proofs.Turning.{names_stay, next_depth, none_staged, stage_fault, still_unused, turned_staged}
use Rattle.depth_designs.proofs.depth_after_depth.Goals as goal

pub returns : goal.returns
returns c = record {
  none = none_staged;
  next = λ r d m e count one other. next_depth c.stagings.ensures.on r d m e count (at_depth r (count + 1)) refl one other;
  unused = λ r d m count drawn staged. still_unused r d m count (at_depth r (count + 1)) refl drawn staged;
  names = names_stay;
  way = turned_staged;
  fault = λ r d m count f staged h. stage_fault r d m count (at_depth r (count + 1)) f refl staged h;
}
