-- The turns that were taken, and those to come.
use Rattle.std.proofs.Common.{ℕ, Bool, List, [], ◌∷◌, ◌++◌, Option, Some, None, map, refl, sym, subst}
use Rattle.std.specs.Prelude.{not, slice_get}
use Rattle.std.specs.Str.{bytes_eq}
use Rattle.std.proofs.lemmas.List.{append_assoc}
use Rattle.net_model.specs.Rows.{plain_netlist}
use Rattle.match_report.specs.Pairs.{name_of}
use Rattle.match_report.specs.declared.report.Compared.{Compared}
use Rattle.net_names.specs.Folding.{folded_bytes}
use Rattle.pair_turns.specs.Alone.{Names, all_names, longest, same_alone, with_gone}
use Rattle.pair_turns.specs.Laws.{LongestLaw}
use Rattle.pair_turns.proofs.Lists.{picked_apart}
use Rattle.plain_netlist.specs.Lists.{AreApart}
use Rattle.plain_netlist.specs.Netlist.{Netlist}
use Rattle.report_file.specs.Turns.{AreTurns, EndsAfter, IsAloneByRules, IsComparedSo, IsTurn, others, others_at}
use Rattle.report_file.proofs.Turned.{AreFit}
use Rattle.rule_text.specs.Rules.{Rules}
use Rattle.rule_text.specs.Sound.{IsSound}

others_apart : (name : List ℕ) (names : List (List ℕ)) → AreApart (map folded_bytes names) → AreApart (map folded_bytes (others name names))
others_apart name names apart = picked_apart (λ (n : List ℕ). not (bytes_eq (folded_bytes n) (folded_bytes name))) folded_bytes names apart

at_apart : (schematic : Netlist) (partner : Option ℕ) (names : List (List ℕ)) → AreApart (map folded_bytes names) → AreApart (map folded_bytes (others_at schematic partner names))
at_apart schematic None names apart = tt
at_apart schematic (Some b) names apart = others_apart (name_of (slice_get schematic.circuits b)) names apart

-- the circuits that the rules give no partner are fit
pub fit_by_rules : LongestLaw → (r : Rules) (layout : Netlist) (top : ℕ) (schematic : Netlist) (alone : Names) → IsSound r → IsAloneByRules r layout top schematic alone
    → AreFit layout schematic r.same (longest (all_names layout schematic r.same alone)) alone
fit_by_rules law r layout top schematic alone sound by = record {
  once = record {
    lefts = subst (λ (ns : List (List ℕ)). AreApart (map folded_bytes ns)) (sym by.lefts) (others_apart (name_of (slice_get layout.circuits top)) r.flat_layouts sound.formed.flat_layouts);
    rights = subst (λ (ns : List (List ℕ)). AreApart (map folded_bytes ns)) (sym by.rights) (at_apart schematic by.partner r.flat_schematics sound.formed.flat_schematics);
  };
  low = law (all_names layout schematic r.same alone);
}

module _ (r : Rules) (layout : Netlist) (top : ℕ) (schematic : Netlist) (most : ℕ) (begun : Names) where
  -- turns that go on from here, where these lines stand already, are turns from the beginning
  pub record AreTaken (alone : Names) (lines : List ℕ) : Type 0 where
    pub fit : AreFit layout schematic r.same most alone
    pub goes_on : (past : List Compared) (same : List (List ℕ × List ℕ)) (o : Option Compared) (rest : List ℕ) → AreTurns r layout top schematic most alone past same o rest
        → (all : List Compared) × AreTurns r layout top schematic most begun all same o (lines ++ rest)

  pub none_taken : AreFit layout schematic r.same most begun → AreTaken begun []
  none_taken fit = record { fit = fit; goes_on = λ past same o rest h. (past, h) }

  pub one_taken : (alone : Names) (lines here : List ℕ) (f : Compared) (goes : List Bool) → AreTaken alone lines → IsComparedSo r layout top schematic most alone (same_alone most alone r.same) (Some f) → IsTurn r f goes here
      → AreFit layout schematic r.same most (with_gone alone (plain_netlist f.left) (plain_netlist f.right) goes) → AreTaken (with_gone alone (plain_netlist f.left) (plain_netlist f.right) goes) (lines ++ here)
  one_taken alone lines here f goes h so turn fit = record {
    fit = fit;
    goes_on = λ past same o rest more.
        let all = h.goes_on (f ∷ past) same o (here ++ rest) (goes, here, rest, so, turn, refl, more) in
        (all.0, subst (λ (ls : List ℕ). AreTurns r layout top schematic most begun all.0 same o ls) (sym (append_assoc lines here rest)) all.1);
  }

  pub all_taken : (alone : Names) (lines here : List ℕ) (same : List (List ℕ × List ℕ)) (o : Option Compared) → AreTaken alone lines → IsComparedSo r layout top schematic most alone same o → EndsAfter r o here
      → (all : List Compared) × AreTurns r layout top schematic most begun all same o (lines ++ here)
  all_taken alone lines here same o h so ends = h.goes_on [] same o here (so, ends)
