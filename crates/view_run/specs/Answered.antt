-- What is shown of a comparison whose circuits were merged once more.
use Rattle.std.specs.Prelude.{◌≡◌, Option, Some}
use Rattle.match_report.specs.Report.{lefts_of}
use Rattle.match_report.specs.declared.report.Compared.{Compared}
use Rattle.view_file.specs.declared.layout.Picture.{Picture}
use Rattle.view_picture.specs.Picture.{IsAnsweredPicture}
use Rattle.view_run.specs.Views.{IsMergedAgain}

-- its circuits merged once more, and the picture of those
pub record IsShownAgain (c : Compared) (s : Option Compared) (p q : Picture) : Type 0 where
  pub again : Compared
  pub is : s ≡ Some again
  pub merged : IsMergedAgain c again
  pub picture : IsAnsweredPicture (lefts_of again) (lefts_of c) p q
