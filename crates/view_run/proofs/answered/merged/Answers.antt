use Rattle.std.proofs.Common.{List, map, refl, subst}
use Rattle.match_report.specs.Report.{lefts_of}
use Rattle.match_report.specs.declared.report.Compared.{Compared}
use Rattle.net_model.specs.Rows.{plain_circuit}
use Rattle.net_model.specs.declared.netlist.Circuit.{Circuit as Held}
use Rattle.view_picture.specs.Picture.{IsAnsweredPicture}
use Rattle.view_run.proofs.answered.merged.Goals as goal

pub returns-clause-shown : goal.returns-clause-shown
returns-clause-shown c =
    let near = c.in_ok-near.near.netlist in
    let found = c.args.found in
    let again : Compared = record { left = near; right = c.in_ok-far.far.netlist; merged_again = found.merged_again; answers = found.answers } in
    let p = c.args.picture in
    let q = c.in_ok-picture.picture in
    record {
      again = again;
      is = refl;
      merged = record { left = c.in_ok-near.ensures.merged; right = c.in_ok-far.ensures.merged; answers = refl };
      picture = subst (λ (l : List Held). IsAnsweredPicture (map plain_circuit l) (lefts_of found) p q) c.as_slice-circuits.ensures.value
          (subst (λ (l : List Held). IsAnsweredPicture (map plain_circuit c.as_slice-circuits.result.now) (map plain_circuit l) p q) c.as_slice-lefts.ensures.value c.in_ok-picture.ensures.picture);
    }
