-- What the grammar leaves of a library at each place.
use Rattle.std.specs.Prelude.{List, [], ◌∷◌, Option, Some, None}
use Rattle.gds_grammar.specs.Pattern.{Pattern, Done, Many}
use Rattle.gds_grammar.specs.Grammar.{maybe, ◌·◌, BGNLIB, LIBNAME, UNITS, ENDLIB, STRNAME, ENDSTR}
use Rattle.gds_grammar.specs.Grammar.{LAYER, DATATYPE, WIDTH, XY, ENDEL, SNAME, COLROW, TEXTTYPE}
use Rattle.gds_grammar.specs.Grammar.{PRESENTATION, STRING, MAG, ANGLE, PATHTYPE, NODETYPE}
use Rattle.gds_grammar.specs.Grammar.{PROPATTR, PROPVALUE, BOXTYPE, PLEX, BGNEXTN, ENDEXTN, option}
use Rattle.gds_grammar.specs.Grammar.{turn, points, boundary_parts, path_parts, sref_parts}
use Rattle.gds_grammar.specs.Grammar.{aref_parts}
use Rattle.gds_grammar.specs.Grammar.{text_parts, node_parts, box_parts, element, structure}
use Rattle.gds_grammar.specs.Grammar.{library}
use Rattle.gds_grammar.specs.declared.place.BoundaryPlace.{BoundaryPlace}
use Rattle.gds_grammar.specs.declared.place.BoundaryPlace.TheVariants as boundary
use Rattle.gds_grammar.specs.declared.place.PathPlace.{PathPlace}
use Rattle.gds_grammar.specs.declared.place.PathPlace.TheVariants as path
use Rattle.gds_grammar.specs.declared.place.SrefPlace.{SrefPlace}
use Rattle.gds_grammar.specs.declared.place.SrefPlace.TheVariants as sref
use Rattle.gds_grammar.specs.declared.place.ArefPlace.{ArefPlace}
use Rattle.gds_grammar.specs.declared.place.ArefPlace.TheVariants as aref
use Rattle.gds_grammar.specs.declared.place.TextPlace.{TextPlace}
use Rattle.gds_grammar.specs.declared.place.TextPlace.TheVariants as text
use Rattle.gds_grammar.specs.declared.place.NodePlace.{NodePlace}
use Rattle.gds_grammar.specs.declared.place.NodePlace.TheVariants as node
use Rattle.gds_grammar.specs.declared.place.BoxPlace.{BoxPlace}
use Rattle.gds_grammar.specs.declared.place.BoxPlace.TheVariants as box
use Rattle.gds_grammar.specs.declared.place.Place.{Place}
use Rattle.gds_grammar.specs.declared.place.Place.TheVariants as at

-- behind an element's last part
abbrev pub tail : Pattern
tail = Many (PROPATTR · PROPVALUE) · ENDEL

-- and then what follows a structure
abbrev pub in_structure : Pattern → Pattern
in_structure p = (p · Many structure) · ENDLIB

-- and then what follows an element
abbrev pub in_element : Pattern → Pattern
in_element p = in_structure ((p · Many element) · ENDSTR)

-- and then what follows an element's parts
abbrev pub in_body : Pattern → Pattern
in_body p = in_element (p · tail)

-- of each element's parts
abbrev pub boundary_left : BoundaryPlace → Pattern
boundary_left boundary.Start = boundary_parts
boundary_left boundary.Flags = maybe PLEX · LAYER · DATATYPE · points
boundary_left boundary.Plex = LAYER · DATATYPE · points
boundary_left boundary.Layer = DATATYPE · points
boundary_left boundary.Datatype = points
boundary_left boundary.Points = Many XY

abbrev pub path_left : PathPlace → Pattern
path_left path.Start = path_parts
path_left path.Flags = maybe PLEX · LAYER · DATATYPE · maybe PATHTYPE · maybe WIDTH
    · maybe BGNEXTN · maybe ENDEXTN · points
path_left path.Plex = LAYER · DATATYPE · maybe PATHTYPE · maybe WIDTH · maybe BGNEXTN
    · maybe ENDEXTN · points
path_left path.Layer = DATATYPE · maybe PATHTYPE · maybe WIDTH · maybe BGNEXTN · maybe ENDEXTN · points
path_left path.Datatype = maybe PATHTYPE · maybe WIDTH · maybe BGNEXTN · maybe ENDEXTN · points
path_left path.Pathtype = maybe WIDTH · maybe BGNEXTN · maybe ENDEXTN · points
path_left path.Width = maybe BGNEXTN · maybe ENDEXTN · points
path_left path.Begin = maybe ENDEXTN · points
path_left path.End = points
path_left path.Points = Many XY

abbrev pub sref_left : SrefPlace → Pattern
sref_left sref.Start = sref_parts
sref_left sref.Flags = maybe PLEX · SNAME · turn · XY
sref_left sref.Plex = SNAME · turn · XY
sref_left sref.Name = turn · XY
sref_left sref.Strans = (maybe MAG · maybe ANGLE) · XY
sref_left sref.Mag = maybe ANGLE · XY
sref_left sref.Angle = XY

abbrev pub aref_left : ArefPlace → Pattern
aref_left aref.Start = aref_parts
aref_left aref.Flags = maybe PLEX · SNAME · turn · COLROW · XY
aref_left aref.Plex = SNAME · turn · COLROW · XY
aref_left aref.Name = turn · COLROW · XY
aref_left aref.Strans = (maybe MAG · maybe ANGLE) · COLROW · XY
aref_left aref.Mag = maybe ANGLE · COLROW · XY
aref_left aref.Angle = COLROW · XY
aref_left aref.Colrow = XY

abbrev pub text_left : TextPlace → Pattern
text_left text.Start = text_parts
text_left text.Flags = maybe PLEX · LAYER · TEXTTYPE · maybe PRESENTATION · maybe PATHTYPE
    · maybe WIDTH · turn · XY · STRING
text_left text.Plex = LAYER · TEXTTYPE · maybe PRESENTATION · maybe PATHTYPE · maybe WIDTH
    · turn · XY · STRING
text_left text.Layer = TEXTTYPE · maybe PRESENTATION · maybe PATHTYPE · maybe WIDTH · turn · XY
    · STRING
text_left text.Texttype = maybe PRESENTATION · maybe PATHTYPE · maybe WIDTH · turn · XY · STRING
text_left text.Presentation = maybe PATHTYPE · maybe WIDTH · turn · XY · STRING
text_left text.Pathtype = maybe WIDTH · turn · XY · STRING
text_left text.Width = turn · XY · STRING
text_left text.Strans = (maybe MAG · maybe ANGLE) · XY · STRING
text_left text.Mag = maybe ANGLE · XY · STRING
text_left text.Angle = XY · STRING
text_left text.Xy = STRING

abbrev pub node_left : NodePlace → Pattern
node_left node.Start = node_parts
node_left node.Flags = maybe PLEX · LAYER · NODETYPE · XY
node_left node.Plex = LAYER · NODETYPE · XY
node_left node.Layer = NODETYPE · XY
node_left node.Nodetype = XY

abbrev pub box_left : BoxPlace → Pattern
box_left box.Start = box_parts
box_left box.Flags = maybe PLEX · LAYER · BOXTYPE · XY
box_left box.Plex = LAYER · BOXTYPE · XY
box_left box.Layer = BOXTYPE · XY
box_left box.Boxtype = XY

-- of a library
abbrev pub left_of : Place → Pattern
left_of at.Start = library
left_of at.Header = BGNLIB · Many option · LIBNAME · Many option · UNITS · Many structure · ENDLIB
left_of at.Begun = Many option · LIBNAME · Many option · UNITS · Many structure · ENDLIB
left_of at.Named = Many option · UNITS · Many structure · ENDLIB
left_of at.Cells = Many structure · ENDLIB
left_of at.CellBegun = in_structure (STRNAME · Many element · ENDSTR)
left_of at.InCell = in_structure (Many element · ENDSTR)
left_of at.Tail = in_element tail
left_of at.Property = in_element ((PROPVALUE · Many (PROPATTR · PROPVALUE)) · ENDEL)
left_of at.End = Done
left_of (at.Boundary place) = in_body (boundary_left place)
left_of (at.Path place) = in_body (path_left place)
left_of (at.Sref place) = in_body (sref_left place)
left_of (at.Aref place) = in_body (aref_left place)
left_of (at.Text place) = in_body (text_left place)
left_of (at.Node place) = in_body (node_left place)
left_of (at.Box place) = in_body (box_left place)

-- none where there is no place
abbrev pub lefts_of : Option Place → List Pattern
lefts_of None = []
lefts_of (Some place) = left_of place ∷ []
