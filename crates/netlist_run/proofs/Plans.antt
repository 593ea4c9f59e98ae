-- A plan by its parts.
use Rattle.std.proofs.Common.{◌≡◌, Bool, List, ℕ, Option, Ok, sym, subst, ◌∙◌, ap}
use Rattle.netlist_turn.specs.declared.settings.Settings.{Settings}
use Rattle.netlist_run.specs.Circuits.{Circuits, circuits_of}
use Rattle.netlist_run.specs.Defined.{Defined, defined, settings_seen}
use Rattle.netlist_run.specs.Marks.{AreKept, IsPlan}
use Rattle.netlist_run.specs.declared.plan.Choices.{Choices}

pub plan : (bytes : List ℕ) (top : Option (List ℕ)) (choices : Choices) (s : Settings) (found : Bool) (d : Defined) (c : Circuits)
    → defined choices.scale bytes ≡ Ok d → circuits_of bytes ≡ c → settings_seen s ≡ d → s.circuits ≡ c.names → AreKept c top s.all s.marks.items found
    → s.capacitors ≡ choices.capacitors → s.resistors ≡ choices.resistors → IsPlan bytes top choices s found
plan bytes top choices s found d c names circuits e f kept capacitors resistors = record {
  names = names ∙ ap Ok (sym e);
  circuits = f ∙ ap (λ (x : Circuits). x.names) (sym circuits);
  kept = subst (λ (x : Circuits). AreKept x top s.all s.marks.items found) (sym circuits) kept;
  capacitors = capacitors;
  resistors = resistors;
}
