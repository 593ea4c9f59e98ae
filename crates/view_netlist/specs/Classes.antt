-- The classes that devices have, each once.
use Rattle.std.specs.Prelude.{ℕ, List, [], ◌∷◌, ◌++◌, codes, flat_map, map, if◌then◌else◌}
use Rattle.std.specs.List.{list_any}
use Rattle.plain_netlist.specs.Netlist.{Circuit}
use Rattle.view_words.specs.Words.{word}
use Rattle.view_netlist.specs.Kinds.{Class, class_name, class_of, same_class, template}

abbrev pub classes_of : Circuit → List Class
classes_of c = map class_of c.devices

-- a class stands last where it isn't there yet
abbrev pub with_class : List Class → Class → List Class
with_class seen c = if list_any (same_class c) seen then seen else seen ++ c ∷ []

-- these and those of the others that are new, in order of first sight
abbrev pub first_classes : List Class → List Class → List Class
first_classes seen [] = seen
first_classes seen (c ∷ cs) = first_classes (with_class seen c) cs

-- the classes of these circuits' devices, in order of first sight
abbrev pub used_classes : List Circuit → List Class
used_classes cs = first_classes [] (flat_map classes_of cs)

-- `K(CLASS MOS4)`, of resistors with a bulk `K(CLASS RES3)`, of diodes `K(CLASS DIODE)`
abbrev pub class_text : Class → List ℕ
class_text c = codes "\n K(" ++ (word (class_name c) ++ (0x20 ∷ (template c.kind ++ codes ")")))

abbrev pub class_texts : List Class → List ℕ
class_texts [] = []
class_texts (c ∷ rest) = class_text c ++ class_texts rest
