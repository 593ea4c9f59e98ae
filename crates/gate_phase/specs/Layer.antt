-- What a cell keeps of a name, as one value.
use Rattle.std.specs.Prelude.{ℕ, ◌<◌, length, get_or}
use Rattle.geo_base.specs.declared.shapes.Square.{Square}
use Rattle.rect_sets.specs.Near.{HasNearCorners}
use Rattle.flat_layout.specs.Layers.{Formula, Empty, IsKept}
use Rattle.flat_layout.specs.Layout.{IsReached}
use Rattle.cell_graph.specs.Linked.{Linked, plain}
use Rattle.rule_text.specs.Seen.{rules_seen}
use Rattle.rule_text.specs.Sound.{IsSound}
use Rattle.rule_text.specs.declared.rules.RuleSet.{RuleSet}
use Rattle.rule_layers.specs.Formulas.{formulas}
use Rattle.gate_phase.specs.Indexes.{AreLayersOf}
use Rattle.gate_phase.specs.declared.layer.KeptLayer.TheInside.{Inside}

pub record KeptOf : Type 0 where
  pub design : Linked
  pub rules : RuleSet
  pub cell : ℕ
  pub name : ℕ

abbrev pub kept_of : Inside → KeptOf
kept_of a = record { design = a.design.now; rules = a.rules.now; cell = a.cell; name = a.name }

-- the name as a tree
abbrev pub formula_of : RuleSet → ℕ → Formula
formula_of r name = get_or (formulas r.names.items) name Empty

-- the table has what the cells at and below this one hold themselves
pub record IsKeptLayer (a : Inside) : Type 0 where
  pub rules : IsSound (rules_seen a.rules.now)
  pub name : a.name < length a.rules.now.names.items
  pub layers : AreLayersOf (plain a.design.now) (rules_seen a.rules.now) a.layers.now
  pub reached : IsReached (plain a.design.now) a.cell

-- the cell keeps the square, which lies where motions are worked
pub record IsKeptNear (x : KeptOf) (q : Square) : Type 0 where
  pub kept : IsKept (plain x.design) x.cell (formula_of x.rules x.name) q
  pub near : HasNearCorners q
