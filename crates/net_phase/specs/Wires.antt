-- What the rules join, by numbers.
use Rattle.std.specs.Prelude.{◌≡◌, ◌↔◌, ◌||◌, ℕ, List, [], ◌∷◌, if◌then◌else◌, length}
use Rattle.flat_layout.specs.Regions.{Line, Wiring, IsGrounded, IsJoined}
use Rattle.rule_text.specs.Rules.{Rules, has_texts}
use Rattle.rule_layers.specs.Meaning.{line}
use Rattle.touching_pieces.specs.Pairs.{AreJoined}
use Rattle.touching_pieces.specs.declared.conductors.Joined.{Joined}
use Rattle.net_walk.specs.Globals.{IsGroundedBy}
use Rattle.net_walk.specs.declared.globals.Grounded.{Grounded}
use Rattle.net_phase.specs.declared.wires.Wires.{Wires}

abbrev pub join_line : Joined → Line
join_line l = line l.first l.second

abbrev pub ground_line : Grounded → Line
ground_line g = line g.conductor g.global

-- what a connect line joins
abbrev pub joined_by : Rules → ℕ × ℕ → List Line
joined_by r c = if has_texts c.0 r.names || has_texts c.1 r.names then [] else line c.0 c.1 ∷ []

-- the number of conductors and of globals, and exactly what lines join
pub record AreWires (w : Wiring) (v : Wires) : Type 0 where
  pub conductors : v.conductors ≡ length w.conductors
  pub joins : (c e : ℕ) → AreJoined v.joins.items c e ↔ IsJoined w c e
  pub grounds : (c g : ℕ) → IsGroundedBy v.grounds.items c g ↔ IsGrounded w c g
  pub globals : v.globals ≡ length w.globals
