-- A chip's netlist in SPICE.
use Rattle.std.specs.Prelude.{ℕ, ◌+◌, ◌==◌, List, ◌++◌, length, codes, decimal}
use Rattle.std.specs.Prelude.{if◌then◌else◌}
use Rattle.chip_maker.specs.Inverters.{by_number, kind_name, row_name, rows}
use Rattle.chip_maker.specs.declared.inverters.Kind.{Kind}
use Rattle.chip_maker.specs.declared.inverters.Kind.TheVariants.{Plain, Wide}

-- an inverter's circuit; the widths are in micrometres
abbrev pub inverter_text : Kind → List ℕ
inverter_text Plain =
    codes ".SUBCKT INV A Y VDD VSS\n" ++ (codes "M1 Y A VDD VDD PMOS L=0.1U W=1U\n"
    ++ (codes "M2 Y A VSS VSS NMOS L=0.1U W=0.5U\n" ++ codes ".ENDS INV\n"))
inverter_text Wide =
    codes ".SUBCKT INV2 A Y VDD VSS\n" ++ (codes "M1 Y A VDD VDD PMOS L=0.1U W=1U\n"
    ++ (codes "M2 Y A VSS VSS NMOS L=0.1U W=1U\n" ++ codes ".ENDS INV2\n"))

-- the net before place j, from 0, of a row
abbrev pub net_before : ℕ → List ℕ
net_before j = if j == 0 then codes "IN" else codes "N" ++ decimal j

-- the net behind place j of a row of m
abbrev pub net_behind : ℕ → ℕ → List ℕ
net_behind m j = if j + 1 == m then codes "OUT" else codes "N" ++ decimal (j + 1)

-- `Xk IN N1 VDD VSS INV` of place j of a row of m: the calls are numbered from 1
unfoldable pub inverter_line : ℕ → ℕ → Kind → List ℕ
inverter_line m j kind =
    (codes "X" ++ decimal (j + 1)) ++ (codes " " ++ (net_before j ++ (codes " "
    ++ (net_behind m j ++ (codes " VDD VSS " ++ (kind_name kind ++ codes "\n"))))))

-- the circuit of row i
unfoldable pub row_text : ℕ → List Kind → List ℕ
row_text i row =
    codes ".SUBCKT " ++ (row_name i ++ (codes " IN OUT VDD VSS\n"
    ++ (by_number (inverter_line (length row)) 0 row
    ++ (codes ".ENDS " ++ (row_name i ++ codes "\n")))))

-- `Ii Oi ` of row i
abbrev pub pin_words : ℕ → List ℕ
pin_words i = (codes "I" ++ decimal i) ++ (codes " " ++ ((codes "O" ++ decimal i) ++ codes " "))

-- `Xk Ii Oi VDD VSS ROWi` of row i: the calls are numbered from 1
unfoldable pub row_line : ℕ → List ℕ
row_line i =
    (codes "X" ++ decimal (i + 1)) ++ (codes " " ++ (pin_words i
    ++ (codes "VDD VSS " ++ (row_name i ++ codes "\n"))))

-- the circuit of the top
unfoldable pub top_text : List (List Kind) → List ℕ
top_text rows =
    codes ".SUBCKT TOP " ++ (by_number (λ i row. pin_words i) 0 rows ++ (codes "VDD VSS\n"
    ++ (by_number (λ i row. row_line i) 0 rows ++ codes ".ENDS TOP\n")))

-- the circuits of both inverters, of the rows and of the top
abbrev pub netlist_of : List (List Kind) → List ℕ
netlist_of rows =
    inverter_text Plain ++ (inverter_text Wide ++ (by_number row_text 0 rows ++ (top_text rows
    ++ codes ".END\n")))

abbrev pub chip_netlist : ℕ → ℕ → List ℕ
chip_netlist n seed = netlist_of (rows n seed)
