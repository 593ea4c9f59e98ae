use Rattle.netlist_file.proofs.file.extracted.Goals as goal

pub returns : goal.returns
returns g c =
    let found = c.in_ok-found.found in
    let is = c.in_ok-found.ensures in
    record {
      layers = is.layers;
      file = λ text written. record {
        layers = found.layers;
        nets = found.nets;
        gates = found.gates;
        pins = found.pins;
        design = c.sound.ensures;
        are_layers = is.layers;
        are_nets = is.nets;
        are_gates = is.gates;
        are_pins = is.pins;
        of_cells = is.netlist;
        sound = is.sound;
        spelled = c.spelled.ensures;
        told = is.bad;
        written = written;
      };
      sound = is.sound;
      normal = is.normal;
    }
