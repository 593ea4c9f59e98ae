-- Derived names by how far they reach, the names as those of one reach see them, and what a cell
-- holds of those done.
use Rattle.std.specs.Prelude.{◌≡◌, ◌⊎◌, ◌↔◌, ◌≤◌, ◌<◌, ℕ, Bool, true, false, List, [], Some}
use Rattle.std.specs.Prelude.{get_or, length, slice_get}
use Rattle.std.specs.List.{All}
use Rattle.geo_base.specs.declared.shapes.Rect.{Rect}
use Rattle.geo_base.specs.declared.shapes.Square.{Square}
use Rattle.rect_sets.specs.Rects.{covers}
use Rattle.flat_layout.specs.Layers.{Formula, reach}
use Rattle.flat_layout.specs.Values.{IsLocalLayer}
use Rattle.cell_graph.specs.Linked.{Linked, plain}
use Rattle.deep_laws.specs.Layers.{IsDerived}
use Rattle.rule_text.specs.declared.rules.LayerForm.{LayerForm}
use Rattle.rule_text.specs.declared.rules.LayerForm.TheVariants as form
use Rattle.rule_text.specs.declared.rules.LayerRule.{LayerRule}
use Rattle.rule_layers.specs.Formulas.{formulas}
use Rattle.rule_layers.specs.Reads.{AreMarked, Reads}
use Rattle.layer_phase.specs.Around.{around}
use Rattle.layer_phase.specs.Names.{IsFlatIn}
use Rattle.layer_phase.specs.declared.groups.Group.{Group}

-- whether a form is made of others
abbrev pub is_derived : LayerForm → Bool
is_derived (form.Input key) = false
is_derived (form.Labels key) = false
is_derived form.Empty = false
is_derived (form.Binary op a b) = true
is_derived (form.Sized a by) = true

-- the name of this number is derived and reaches so far
pub record IsMember (names : List LayerRule) (far k : ℕ) : Type 0 where
  pub tree : Formula
  pub at : slice_get (formulas names) k ≡ Some tree
  pub derived : IsDerived tree
  pub far_is : reach tree ≡ far

-- names are made of names before them
abbrev pub AreBefore : List LayerRule → Type 0
AreBefore names = (k : ℕ) (rule : LayerRule) → slice_get names k ≡ Some rule → (a : ℕ)
    → Reads rule.form a → a < k

-- a marked name is made of it
pub record IsByMarked (names : List LayerRule) (marks : List Bool) (k : ℕ) : Type 0 where
  pub at : ℕ
  pub rule : LayerRule
  pub there : slice_get names at ≡ Some rule
  pub marked : get_or marks at false ≡ true
  pub reads : Reads rule.form k

-- exactly these members are marked, and the names that marked ones are made of
pub record AreNeeded (members : List Bool) (names : List LayerRule) (marks : List Bool) :
    Type 0 where
  pub count : length marks ≡ length names
  pub each : (k : ℕ) → k < length names → (get_or marks k false ≡ true)
      ↔ ((get_or members k false ≡ true) ⊎ IsByMarked names marks k)

-- a form; that of a name that isn't marked has no squares
abbrev pub seen_form : Bool → LayerForm → LayerForm
seen_form true f = f
seen_form false f = form.Empty

-- the names as they are seen where only the marked ones are
pub record AreSeen (names : List LayerRule) (marks : List Bool) (seen : List LayerRule) :
    Type 0 where
  pub count : length seen ≡ length names
  pub each : (k : ℕ) (rule : LayerRule) → slice_get names k ≡ Some rule → (other : LayerRule)
      × (slice_get seen k ≡ Some other)
      × (other.form ≡ seen_form (get_or marks k false) rule.form)

-- the derived names that reach so far, of which there are some, and the names as these see them:
-- each that none of them is made of without squares
pub record IsGroup (names : List LayerRule) (g : Group) : Type 0 where
  pub some : (k : ℕ) × IsMember names g.reach k
  pub count : length g.members.items ≡ length names
  pub members : AreMarked (IsMember names g.reach) g.members.items
  pub marks : List Bool
  pub needed : AreNeeded g.members.items names marks
  pub seen : AreSeen names marks g.names.items

-- one of the first groups is that of a reach
pub record HasReach (groups : List Group) (bound far : ℕ) : Type 0 where
  pub at : ℕ
  pub group : Group
  pub at_in : at < bound
  pub there : slice_get groups at ≡ Some group
  pub far_is : group.reach ≡ far

-- groups, among them those of the first names that are derived
pub record AreGroupsTo (names : List LayerRule) (bound : ℕ) (groups : List Group) : Type 0 where
  pub each : All (IsGroup names) groups
  pub found : (k : ℕ) (x : Formula) → k < bound → slice_get (formulas names) k ≡ Some x
      → IsDerived x → HasReach groups (length groups) (reach x)

-- and of all
abbrev pub AreGroups : List LayerRule → List Group → Type 0
AreGroups names groups = AreGroupsTo names (length names) groups

-- the squares that the cell holds itself of each tree that isn't derived
abbrev pub ArePlain : Linked → ℕ → List Formula → List (List Rect) → Type 0
ArePlain d cell trees sets = (k : ℕ) (x : Formula) → slice_get trees k ≡ Some x
    → (IsDerived x → ⊥) → IsLocalLayer (plain d) x cell (get_or sets k [])

-- a tree's flat squares, from what was gathered in the squares round those looked at
abbrev pub IsFlatAround : ℕ → Linked → ℕ → List Rect → Formula → List Rect → Type 0
IsFlatAround far d cell looks x set = (wide : List Rect)
    × ((q : Square) → covers wide q ≡ covers (around far looks) q) × IsFlatIn d cell wide x set

-- the same of each derived tree that reaches so far
abbrev pub AreFlatsAround : ℕ → Linked → ℕ → List Rect → List Formula → List (List Rect) → Type 0
AreFlatsAround far d cell looks trees sets = (k : ℕ) (x : Formula) → IsDerived x → reach x ≡ far
    → slice_get trees k ≡ Some x → IsFlatAround far d cell looks x (get_or sets k [])

-- of the first trees those that are derived and reach so far have the squares that the cell holds
-- itself, and all else is as it was
pub record Finds (far : ℕ) (d : Linked) (cell bound : ℕ) (trees : List Formula)
    (old new : List (List Rect)) : Type 0 where
  pub count : length new ≡ length old
  pub found : (k : ℕ) (x : Formula) → k < bound → slice_get trees k ≡ Some x → IsDerived x
      → reach x ≡ far → IsLocalLayer (plain d) x cell (get_or new k [])
  pub other : (k : ℕ) (x : Formula) → slice_get trees k ≡ Some x
      → (IsDerived x → reach x ≡ far → ⊥) → get_or new k [] ≡ get_or old k []
  pub behind : (k : ℕ) → bound ≤ k → get_or new k [] ≡ get_or old k []

-- the trees that aren't derived, and of the derived ones those of the first groups' reaches, have
-- the squares that the cell holds itself
pub record AreDone (d : Linked) (cell : ℕ) (trees : List Formula) (groups : List Group) (bound : ℕ)
    (sets : List (List Rect)) : Type 0 where
  pub count : length sets ≡ length trees
  pub rest : ArePlain d cell trees sets
  pub found : (k : ℕ) (x : Formula) → slice_get trees k ≡ Some x → IsDerived x
      → HasReach groups bound (reach x) → IsLocalLayer (plain d) x cell (get_or sets k [])
