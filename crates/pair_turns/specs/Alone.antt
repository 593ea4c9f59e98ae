-- Lines by which circuits have no partner.
use Rattle.std.specs.Prelude.{ℕ, ◌+◌, Bool, ◌&&◌, not, nat_lt, List, [], ◌∷◌, ◌++◌, length}
use Rattle.std.specs.Prelude.{map, replicate, if◌then◌else◌}
use Rattle.std.specs.List.{filter, list_any}
use Rattle.std.specs.Str.{bytes_eq}
use Rattle.net_names.specs.Folding.{folded_bytes}
use Rattle.plain_netlist.specs.Netlist.{Circuit, Netlist}

-- the names of circuits without a partner, of the layout and of the schematic
pub record Names : Type 0 where
  pub lefts : List (List ℕ)
  pub rights : List (List ℕ)

-- the greater number
abbrev pub greater : ℕ → ℕ → ℕ
greater a b = if nat_lt a b then b else a

-- the length of the longest name
abbrev pub longest : List (List ℕ) → ℕ
longest [] = 0
longest (name ∷ names) = greater (length name) (longest names)

abbrev pub circuit_names : Netlist → List (List ℕ)
circuit_names nl = map (λ (c : Circuit). c.name) nl.circuits

abbrev pub first_names : List (List ℕ × List ℕ) → List (List ℕ)
first_names same = map (λ (line : List ℕ × List ℕ). line.0) same

abbrev pub second_names : List (List ℕ × List ℕ) → List (List ℕ)
second_names same = map (λ (line : List ℕ × List ℕ). line.1) same

-- all names that circuits and lines have
abbrev pub all_names : Netlist → Netlist → List (List ℕ × List ℕ) → Names → List (List ℕ)
all_names layout schematic same alone =
    circuit_names layout ++ (circuit_names schematic ++ (first_names same
    ++ (second_names same ++ (alone.lefts ++ alone.rights))))

-- a name longer than any of so many bytes, and other than that of any other
abbrev pub stranger : ℕ → List ℕ → List ℕ
stranger most name = replicate (most + 1) 0x2D ++ name

-- a name is among those, small letters being large ones
abbrev pub has_name : List (List ℕ) → List ℕ → Bool
has_name names name = list_any (bytes_eq (folded_bytes name)) (map folded_bytes names)

abbrev pub is_untouched : Names → List ℕ × List ℕ → Bool
is_untouched alone line = not (has_name alone.lefts line.0) && not (has_name alone.rights line.1)

-- the lines that name none of these circuits, and for each of these a line with a name that no
-- circuit has
abbrev pub same_alone : ℕ → Names → List (List ℕ × List ℕ) → List (List ℕ × List ℕ)
same_alone most alone same = filter (is_untouched alone) same
    ++ (map (λ (name : List ℕ). (name, stranger most name)) alone.lefts
    ++ map (λ (name : List ℕ). (stranger most name, name)) alone.rights)

-- the names of the circuits that go
abbrev pub gone_names : List Bool → List Circuit → List (List ℕ)
gone_names (g ∷ gs) (c ∷ cs) = if g then c.name ∷ gone_names gs cs else gone_names gs cs
gone_names _ _ = []

-- with the circuits of the pairs that go
abbrev pub with_gone : Names → Netlist → Netlist → List Bool → Names
with_gone alone left right goes = record {
  lefts = alone.lefts ++ gone_names goes left.circuits;
  rights = alone.rights ++ gone_names goes right.circuits;
}
