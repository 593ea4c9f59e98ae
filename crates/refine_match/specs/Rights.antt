-- The right nodes of each class.
use Rattle.std.specs.Prelude.{◌≡◌, ◌<◌, ◌≤◌, ◌++◌, ◌∷◌, [], ℕ, List, length}
use Rattle.std.specs.Prelude.{slice_index_or}
use Rattle.match_graph.specs.declared.graph.Graph.{Graph}
use Rattle.match_graph.specs.Graph.{left_of, nodes_of}
use Rattle.match_rounds.specs.declared.classes.Classes.{Classes}
use Rattle.match_rounds.specs.Classes.{class_count, class_in}
use Rattle.refine_match.specs.declared.ties.Span.{Span}
use Rattle.refine_match.specs.declared.rights.Rights.{Rights}
use Rattle.refine_match.specs.declared.lists.Lists.{Lists}
use Rattle.refine_match.specs.Ties.{AreFormer, AreTiesOf, IsSpanOf}

abbrev pub right_span : Rights → ℕ → Span
right_span r d = slice_index_or r.spans.items d record { next = 0; end = 0 }

-- each class that is listed has its span
abbrev pub AreRightSpans : Rights → Graph → Classes → Type 0
AreRightSpans r g c = (d : ℕ) → d < length r.spans.items
    → IsSpanOf r.nodes.items (right_span r d) (class_in c) (left_of g) (nodes_of g) d

-- the right nodes of these classes
pub record AreRightsOf (r : Rights) (g : Graph) (c : Classes) : Type 0 where
  pub count : length r.spans.items ≡ class_count c
  pub spans : AreRightSpans r g c

-- these nodes and the place of them were added
pub record IsRightAdded (old new : Rights) (nodes : List ℕ) : Type 0 where
  pub nodes_are : new.nodes.items ≡ old.nodes.items ++ nodes
  pub spans_are : new.spans.items ≡ old.spans.items
      ++ record { next = length old.nodes.items; end = length new.nodes.items } ∷ []

-- the least right node of class d
pub record IsFirstRight (g : Graph) (c : Classes) (d y : ℕ) : Type 0 where
  pub right : left_of g ≤ y
  pub below : y < nodes_of g
  pub of : class_in c y ≡ d
  pub first : (a : ℕ) → left_of g ≤ a → a < nodes_of g → class_in c a ≡ d → y ≤ a

-- the ties of these classes, and their right nodes
pub record AreListsOf (l : Lists) (g : Graph) (c : Classes) : Type 0 where
  pub ties : AreTiesOf l.ties g c
  pub rights : AreRightsOf l.rights g c

-- those of classes of which these are parts
pub record AreFormerLists (l : Lists) (g : Graph) (c : Classes) : Type 0 where
  pub ties : AreFormer l.ties g c
  pub fewer : length l.rights.spans.items ≤ class_count c
  pub rights : AreRightSpans l.rights g c
