-- The grammar of a library in the kinds of its records (GDSII Stream Format, Release 6, stream
-- syntax).
use Rattle.gds_grammar.specs.Pattern.{Pattern, Done, One, Then, Or, Many}

-- at most once
abbrev pub maybe : Pattern → Pattern
maybe p = Or p Done

-- one behind the other
infixr 5 ◌·◌
abbrev pub ◌·◌ : Pattern → Pattern → Pattern
a · b = Then a b

-- one or the other
infixr 4 ◌∣◌
abbrev pub ◌∣◌ : Pattern → Pattern → Pattern
a ∣ b = Or a b

-- the kinds, by name
abbrev pub HEADER : Pattern
HEADER = One 0x00

abbrev pub BGNLIB : Pattern
BGNLIB = One 0x01

abbrev pub LIBNAME : Pattern
LIBNAME = One 0x02

abbrev pub UNITS : Pattern
UNITS = One 0x03

abbrev pub ENDLIB : Pattern
ENDLIB = One 0x04

abbrev pub BGNSTR : Pattern
BGNSTR = One 0x05

abbrev pub STRNAME : Pattern
STRNAME = One 0x06

abbrev pub ENDSTR : Pattern
ENDSTR = One 0x07

abbrev pub BOUNDARY : Pattern
BOUNDARY = One 0x08

abbrev pub PATH : Pattern
PATH = One 0x09

abbrev pub SREF : Pattern
SREF = One 0x0A

abbrev pub AREF : Pattern
AREF = One 0x0B

abbrev pub TEXT : Pattern
TEXT = One 0x0C

abbrev pub LAYER : Pattern
LAYER = One 0x0D

abbrev pub DATATYPE : Pattern
DATATYPE = One 0x0E

abbrev pub WIDTH : Pattern
WIDTH = One 0x0F

abbrev pub XY : Pattern
XY = One 0x10

abbrev pub ENDEL : Pattern
ENDEL = One 0x11

abbrev pub SNAME : Pattern
SNAME = One 0x12

abbrev pub COLROW : Pattern
COLROW = One 0x13

abbrev pub NODE : Pattern
NODE = One 0x15

abbrev pub TEXTTYPE : Pattern
TEXTTYPE = One 0x16

abbrev pub PRESENTATION : Pattern
PRESENTATION = One 0x17

abbrev pub STRING : Pattern
STRING = One 0x19

abbrev pub STRANS : Pattern
STRANS = One 0x1A

abbrev pub MAG : Pattern
MAG = One 0x1B

abbrev pub ANGLE : Pattern
ANGLE = One 0x1C

abbrev pub PATHTYPE : Pattern
PATHTYPE = One 0x21

abbrev pub ELFLAGS : Pattern
ELFLAGS = One 0x26

abbrev pub NODETYPE : Pattern
NODETYPE = One 0x2A

abbrev pub PROPATTR : Pattern
PROPATTR = One 0x2B

abbrev pub PROPVALUE : Pattern
PROPVALUE = One 0x2C

abbrev pub BOX : Pattern
BOX = One 0x2D

abbrev pub BOXTYPE : Pattern
BOXTYPE = One 0x2E

abbrev pub PLEX : Pattern
PLEX = One 0x2F

abbrev pub BGNEXTN : Pattern
BGNEXTN = One 0x30

abbrev pub ENDEXTN : Pattern
ENDEXTN = One 0x31

-- REFLIBS, FONTS, GENERATIONS, ATTRTABLE, FORMAT, MASK, ENDMASKS
abbrev pub option : Pattern
option = One 0x1F ∣ One 0x20 ∣ One 0x22 ∣ One 0x23
    ∣ One 0x36 ∣ One 0x37 ∣ One 0x38

-- the mirror, the magnification and the angle of a text or a reference
abbrev pub turn : Pattern
turn = maybe (STRANS · maybe MAG · maybe ANGLE)

-- the points of a boundary or a path: any number of records of them, one at least
abbrev pub points : Pattern
points = XY · Many XY

-- the parts of each element behind its start
abbrev pub boundary_parts : Pattern
boundary_parts = maybe ELFLAGS · maybe PLEX · LAYER · DATATYPE · points

abbrev pub path_parts : Pattern
path_parts = maybe ELFLAGS · maybe PLEX · LAYER · DATATYPE
    · maybe PATHTYPE · maybe WIDTH · maybe BGNEXTN · maybe ENDEXTN · points

abbrev pub sref_parts : Pattern
sref_parts = maybe ELFLAGS · maybe PLEX · SNAME · turn · XY

abbrev pub aref_parts : Pattern
aref_parts = maybe ELFLAGS · maybe PLEX · SNAME · turn · COLROW · XY

abbrev pub text_parts : Pattern
text_parts = maybe ELFLAGS · maybe PLEX · LAYER · TEXTTYPE
    · maybe PRESENTATION · maybe PATHTYPE · maybe WIDTH · turn · XY · STRING

abbrev pub node_parts : Pattern
node_parts = maybe ELFLAGS · maybe PLEX · LAYER · NODETYPE · XY

abbrev pub box_parts : Pattern
box_parts = maybe ELFLAGS · maybe PLEX · LAYER · BOXTYPE · XY

-- an element without its properties
abbrev pub body : Pattern
body = (BOUNDARY · boundary_parts)
    ∣ (PATH · path_parts)
    ∣ (SREF · sref_parts)
    ∣ (AREF · aref_parts)
    ∣ (TEXT · text_parts)
    ∣ (NODE · node_parts)
    ∣ (BOX · box_parts)

-- an element, its properties and its end
abbrev pub element : Pattern
element = body · Many (PROPATTR · PROPVALUE) · ENDEL

-- a structure: a cell
abbrev pub structure : Pattern
structure = BGNSTR · STRNAME · Many element · ENDSTR

-- a library
abbrev pub library : Pattern
library = HEADER · BGNLIB · Many option · LIBNAME · Many option · UNITS · Many structure · ENDLIB
