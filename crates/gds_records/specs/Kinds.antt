-- The kinds of records by name (GDSII Stream Format, Release 6, record types).
use Rattle.std.specs.Prelude.{ℕ, List, [], ◌∷◌}

abbrev pub HEADER : ℕ
HEADER = 0x00

abbrev pub BGNLIB : ℕ
BGNLIB = 0x01

abbrev pub LIBNAME : ℕ
LIBNAME = 0x02

abbrev pub UNITS : ℕ
UNITS = 0x03

abbrev pub ENDLIB : ℕ
ENDLIB = 0x04

abbrev pub BGNSTR : ℕ
BGNSTR = 0x05

abbrev pub STRNAME : ℕ
STRNAME = 0x06

abbrev pub ENDSTR : ℕ
ENDSTR = 0x07

abbrev pub BOUNDARY : ℕ
BOUNDARY = 0x08

abbrev pub PATH : ℕ
PATH = 0x09

abbrev pub SREF : ℕ
SREF = 0x0A

abbrev pub AREF : ℕ
AREF = 0x0B

abbrev pub TEXT : ℕ
TEXT = 0x0C

abbrev pub LAYER : ℕ
LAYER = 0x0D

abbrev pub DATATYPE : ℕ
DATATYPE = 0x0E

abbrev pub WIDTH : ℕ
WIDTH = 0x0F

abbrev pub XY : ℕ
XY = 0x10

abbrev pub ENDEL : ℕ
ENDEL = 0x11

abbrev pub SNAME : ℕ
SNAME = 0x12

abbrev pub COLROW : ℕ
COLROW = 0x13

abbrev pub NODE : ℕ
NODE = 0x15

abbrev pub TEXTTYPE : ℕ
TEXTTYPE = 0x16

abbrev pub PRESENTATION : ℕ
PRESENTATION = 0x17

abbrev pub STRING : ℕ
STRING = 0x19

abbrev pub STRANS : ℕ
STRANS = 0x1A

abbrev pub MAG : ℕ
MAG = 0x1B

abbrev pub ANGLE : ℕ
ANGLE = 0x1C

abbrev pub REFLIBS : ℕ
REFLIBS = 0x1F

abbrev pub FONTS : ℕ
FONTS = 0x20

abbrev pub PATHTYPE : ℕ
PATHTYPE = 0x21

abbrev pub GENERATIONS : ℕ
GENERATIONS = 0x22

abbrev pub ATTRTABLE : ℕ
ATTRTABLE = 0x23

abbrev pub ELFLAGS : ℕ
ELFLAGS = 0x26

abbrev pub NODETYPE : ℕ
NODETYPE = 0x2A

abbrev pub PROPATTR : ℕ
PROPATTR = 0x2B

abbrev pub PROPVALUE : ℕ
PROPVALUE = 0x2C

abbrev pub BOX : ℕ
BOX = 0x2D

abbrev pub BOXTYPE : ℕ
BOXTYPE = 0x2E

abbrev pub PLEX : ℕ
PLEX = 0x2F

abbrev pub BGNEXTN : ℕ
BGNEXTN = 0x30

abbrev pub ENDEXTN : ℕ
ENDEXTN = 0x31

abbrev pub FORMAT : ℕ
FORMAT = 0x36

abbrev pub MASK : ℕ
MASK = 0x37

abbrev pub ENDMASKS : ℕ
ENDMASKS = 0x38

-- the kinds that the format has
abbrev pub kinds : List ℕ
kinds =
    HEADER ∷ BGNLIB ∷ LIBNAME ∷ UNITS ∷ ENDLIB ∷ BGNSTR ∷ STRNAME ∷ ENDSTR ∷ BOUNDARY ∷ PATH ∷
    SREF ∷ AREF ∷ TEXT ∷ LAYER ∷ DATATYPE ∷ WIDTH ∷ XY ∷ ENDEL ∷ SNAME ∷ COLROW ∷ NODE ∷
    TEXTTYPE ∷ PRESENTATION ∷ STRING ∷ STRANS ∷ MAG ∷ ANGLE ∷ REFLIBS ∷ FONTS ∷ PATHTYPE ∷
    GENERATIONS ∷ ATTRTABLE ∷ ELFLAGS ∷ NODETYPE ∷ PROPATTR ∷ PROPVALUE ∷ BOX ∷ BOXTYPE ∷ PLEX ∷
    BGNEXTN ∷ ENDEXTN ∷ FORMAT ∷ MASK ∷ ENDMASKS ∷ []
