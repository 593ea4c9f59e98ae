use Rattle.std.proofs.Common.{◌≡◌, ◌++◌}
use Rattle.view_drawing.specs.Devices.{areas_of}
use Rattle.view_picture.specs.Picture.{shown_areas}
use Rattle.view_picture.proofs.pictures.regions_of.Given as goal

abbrev pub invariant-regions : goal.invariant-regions
invariant-regions l = shown_areas l.out.items ++ areas_of l.region-iterator.rest.items ≡ areas_of l.fn.found.items
