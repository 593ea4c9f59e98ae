-- The rules that extract a chip's transistors and nets, and how these are compared.
use Rattle.std.specs.Prelude.{ℕ, List, ◌++◌, codes}

-- the layers that are drawn
abbrev pub input_rules : List ℕ
input_rules =
    codes "nwell = input(1, 0)\n" ++ (codes "active = input(2, 0)\n"
    ++ (codes "poly = input(3, 0)\n" ++ (codes "contact = input(4, 0)\n"
    ++ (codes "metal = input(5, 0)\n" ++ (codes "tie = input(6, 0)\n"
    ++ (codes "txt = labels(5, 1)\n" ++ codes "bulk = polygon_layer\n"))))))

-- those made of them
abbrev pub derived_rules : List ℕ
derived_rules =
    codes "pactive = active & nwell\n" ++ (codes "nactive = active - nwell\n"
    ++ (codes "pgate = pactive & poly\n" ++ (codes "ngate = nactive & poly\n"
    ++ (codes "psd = pactive - poly\n" ++ (codes "nsd = nactive - poly\n"
    ++ (codes "ptie = tie - nwell\n" ++ codes "ntie = tie & nwell\n"))))))

-- both kinds of transistors
abbrev pub device_rules : List ℕ
device_rules =
    codes "extract_devices(mos4(\"PMOS\"), { \"SD\" => psd, \"G\" => pgate, \"W\" => nwell, "
    ++ (codes "\"tG\" => poly })\n"
    ++ (codes "extract_devices(mos4(\"NMOS\"), { \"SD\" => nsd, \"G\" => ngate, \"W\" => bulk, "
    ++ codes "\"tG\" => poly })\n"))

-- what joins nets
abbrev pub connect_rules : List ℕ
connect_rules =
    codes "connect(psd, contact)\n" ++ (codes "connect(nsd, contact)\n"
    ++ (codes "connect(poly, contact)\n" ++ (codes "connect(ptie, contact)\n"
    ++ (codes "connect(ntie, contact)\n" ++ (codes "connect(ntie, nwell)\n"
    ++ (codes "connect(contact, metal)\n" ++ (codes "connect(metal, txt)\n"
    ++ (codes "connect_global(bulk, \"VSS\")\n" ++ codes "connect_global(ptie, \"VSS\")\n"))))))))

-- what is written
abbrev pub output_rules : List ℕ
output_rules = codes "psd.output(10, 0)\n" ++ codes "nsd.output(11, 0)\n"

-- cells keep what they draw themselves, and what still differs is compared flatter
abbrev pub way_rules : List ℕ
way_rules = codes "keep_covered\n" ++ codes "flatten_unmatched\n"

abbrev pub chip_rules : List ℕ
chip_rules =
    input_rules ++ (derived_rules ++ (device_rules ++ (connect_rules
    ++ (output_rules ++ way_rules))))
