-- A layout's netlist compared with a schematic in turns.
use Rattle.std.specs.Prelude.{◌≡◌, ◌⊎◌, ℕ, Bool, true, false, not, List, [], ◌∷◌, ◌++◌, Option, Some}
use Rattle.std.specs.Prelude.{None, slice_get}
use Rattle.std.specs.List.{filter, list_any}
use Rattle.std.specs.Str.{bytes_eq}
use Rattle.match_report.specs.Apart.{apart_texts, limit_text}
use Rattle.match_report.specs.Pairs.{name_of}
use Rattle.match_report.specs.Report.{again_line, answers_of, lefts_of, rights_of}
use Rattle.match_report.specs.declared.report.Compared.{Compared}
use Rattle.net_align.specs.Compared.{IsTopPartner}
use Rattle.net_model.specs.Rows.{plain_netlist}
use Rattle.net_names.specs.Folding.{folded_bytes}
use Rattle.pair_turns.specs.Alone.{Names, all_names, longest, same_alone, with_gone}
use Rattle.pair_turns.specs.Going.{AreGoing}
use Rattle.pair_turns.specs.Limit.{IsLimit}
use Rattle.plain_netlist.specs.Netlist.{Netlist}
use Rattle.report_file.specs.Compared.{IsComparison}
use Rattle.rule_text.specs.Rules.{Rules}

-- the names but this one, small letters being large ones
abbrev pub others : List ℕ → List (List ℕ) → List (List ℕ)
others name names =
    filter (λ (n : List ℕ). not (bytes_eq (folded_bytes n) (folded_bytes name))) names

-- the names but that of the top's partner; none where it has none
abbrev pub others_at : Netlist → Option ℕ → List (List ℕ) → List (List ℕ)
others_at schematic None names = []
others_at schematic (Some b) names = others (name_of (slice_get schematic.circuits b)) names

-- the circuits that have no partner by lines `flatten_circuit`: a line that names a top says
-- nothing
pub record IsAloneByRules (r : Rules) (layout : Netlist) (top : ℕ) (schematic : Netlist)
    (alone : Names) : Type 0 where
  pub partner : Option ℕ
  pub is : IsTopPartner layout schematic top r.same partner
  pub lefts : alone.lefts ≡ others (name_of (slice_get layout.circuits top)) r.flat_layouts
  pub rights : alone.rights ≡ others_at schematic partner r.flat_schematics

-- pairs are taken apart after a comparison, since the rules say so: of each pair that differs those
-- that it calls, or itself
pub record AreTakenApart (r : Rules) (f : Compared) (goes : List Bool) : Type 0 where
  pub flattens : r.flattens_unmatched ≡ true
  pub going : AreGoing (plain_netlist f.left) (plain_netlist f.right) (answers_of f) goes
  pub some : list_any (λ (g : Bool). g) goes ≡ true

-- no pair goes: none differs, or that of the tops alone does, and calls nothing
pub record NoneGoes (f : Compared) : Type 0 where
  pub goes : List Bool
  pub going : AreGoing (plain_netlist f.left) (plain_netlist f.right) (answers_of f) goes
  pub none : list_any (λ (g : Bool). g) goes ≡ false

-- without the pairs that go a circuit would be too large; the lines say which
pub record IsTooLarge (r : Rules) (f : Compared) (lines : List ℕ) : Type 0 where
  pub goes : List Bool
  pub apart : AreTakenApart r f goes
  pub pair : ℕ
  pub limit : IsLimit (plain_netlist f.left) (plain_netlist f.right) goes (Some pair)
  pub told : lines ≡ limit_text (lefts_of f) pair

-- the last comparison: the rules say that no pair goes, or none does, and there are no lines; or
-- what a turn would make is too large
abbrev pub EndsWith : Rules → Compared → List ℕ → Type 0
EndsWith r f lines =
    (((r.flattens_unmatched ≡ false) ⊎ NoneGoes f) × (lines ≡ [])) ⊎ IsTooLarge r f lines

-- a turn: these pairs go, and each has its lines, behind one that says where devices were made one
-- once more
pub record IsTurn (r : Rules) (f : Compared) (goes : List Bool) (lines : List ℕ) : Type 0 where
  pub apart : AreTakenApart r f goes
  pub limit : IsLimit (plain_netlist f.left) (plain_netlist f.right) goes None
  pub told : lines ≡ again_line f.merged_again
      ++ apart_texts (lefts_of f) (rights_of f) 0 goes (answers_of f)

-- so where there is a comparison; else there are no lines
abbrev pub EndsAfter : Rules → Option Compared → List ℕ → Type 0
EndsAfter r None lines = lines ≡ []
EndsAfter r (Some f) lines = EndsWith r f lines

module _ (r : Rules) (layout : Netlist) (top : ℕ) (schematic : Netlist) (most : ℕ) where
  -- what there is to compare where these circuits have no partner, told by these lines `same`
  pub record IsComparedSo (alone : Names) (same : List (List ℕ × List ℕ)) (o : Option Compared)
      : Type 0 where
    pub told : same ≡ same_alone most alone r.same
    pub comparison : IsComparison r layout top schematic same o

  -- the comparisons before the last one, where at first these circuits have no partner, and after
  -- each turn those of the pairs that went haven't either; and the lines of all turns
  abbrev pub AreTurns : Names → List Compared → List (List ℕ × List ℕ) → Option Compared → List ℕ
      → Type 0
  AreTurns alone [] same compared lines = IsComparedSo alone same compared
      × EndsAfter r compared lines
  AreTurns alone (f ∷ more) same compared lines = (goes : List Bool) × (here : List ℕ)
      × (rest : List ℕ) × IsComparedSo alone (same_alone most alone r.same) (Some f)
      × IsTurn r f goes here × (lines ≡ here ++ rest)
      × AreTurns (with_gone alone (plain_netlist f.left) (plain_netlist f.right) goes) more same
      compared rest

-- A layout's netlist, below its top, is compared with a schematic in turns, the last by these lines
-- `same` and with this outcome; and the lines of the pairs that were taken apart
pub record AreInTurns (r : Rules) (layout : Netlist) (top : ℕ) (schematic : Netlist)
    (same : List (List ℕ × List ℕ)) (compared : Option Compared) (lines : List ℕ) : Type 0 where
  pub alone : Names
  pub by_rules : IsAloneByRules r layout top schematic alone
  pub past : List Compared
  pub turns : AreTurns r layout top schematic (longest (all_names layout schematic r.same alone))
      alone past same compared lines
