-- A netlist with a transistor and a call, carried through what the laws of written texts ask.
use Rattle.std.specs.Prelude.{◌^◌, ◌*◌, ℕ, List, [], ◌∷◌, ◌++◌, None, codes}
use Rattle.plain_netlist.specs.declared.kinds.DeviceKind.TheVariants.{Mos4}
use Rattle.plain_netlist.specs.Devices.{Both}
use Rattle.plain_netlist.specs.Netlist.{DeviceRow, CallRow, Circuit, Netlist}
use Rattle.plain_netlist.specs.Normal.{IsNormalNetlist}
use Rattle.plain_netlist.specs.Sound.{IsSoundNetlist}
use Rattle.spice_rows.specs.Sizes.{Limits}
use Rattle.spice_text.specs.Laws.{IsWritable, IsWithin}
use Rattle.spice_text.specs.Means.{Means}
use Rattle.spice_text.specs.Written.{IsWritten}

-- those of a text which is read
abbrev pub limits : Limits
limits = record { length = 10 ^ 18; area = 10 ^ 30 }

-- one micrometre long, two wide
abbrev pub transistor : DeviceRow
transistor = record {
  kind = Mos4;
  class = codes "NMOS";
  sizes = 10 ^ 9 ∷ 2 * 10 ^ 9 ∷ [];
  ends = Both 2 0;
  others = 1 ∷ 3 ∷ [];
}

abbrev pub cell : Circuit
cell = record {
  name = codes "CELL";
  nets = codes "D" ∷ codes "G$2" ∷ codes "S" ∷ codes "B" ∷ [];
  pins = 0 ∷ 1 ∷ [];
  devices = transistor ∷ [];
  calls = [];
}

abbrev pub call : CallRow
call = record { circuit = 0; nets = 0 ∷ 0 ∷ [] }

abbrev pub caller : Circuit
caller = record {
  name = codes "TOP";
  nets = codes "N" ∷ [];
  pins = [];
  devices = [];
  calls = call ∷ [];
}

abbrev pub sample : Netlist
sample = record { circuits = cell ∷ caller ∷ [] }

-- in codes, where 92 is the backslash before `$`
abbrev pub sample_text : List ℕ
sample_text =
    codes "* lvs netlist\n.SUBCKT CELL D G" ++ (92 ∷ codes "$2\nM1 D G")
    ++ (92 ∷ codes "$2 S B NMOS L=1U W=2U\n.ENDS CELL\n")
    ++ codes ".SUBCKT TOP\nX1 N N CELL\n.ENDS TOP\n.END\n"

pub record SampleLaw : Type 0 where
  pub sound : IsSoundNetlist sample
  pub normal : IsNormalNetlist sample
  pub writable : IsWritable sample
  pub within : IsWithin limits sample
  pub written : IsWritten sample sample_text
  pub means : Means None sample_text sample
