-- The layers of the database and what they join.
use Rattle.std.specs.Prelude.{ℕ, List, [], ◌∷◌, ◌++◌, codes, decimal, get_or, nat_le}
use Rattle.std.specs.Prelude.{if◌then◌else◌}
use Rattle.geo_base.specs.declared.layer.LayerKey.{LayerKey}
use Rattle.rule_text.specs.declared.rules.LayerForm.{LayerForm}
use Rattle.rule_text.specs.declared.rules.LayerForm.TheVariants.{Input, Labels, Empty, Binary}
use Rattle.rule_text.specs.declared.rules.LayerForm.TheVariants.{Sized}
use Rattle.rule_text.specs.declared.rules.LayerRule.{LayerRule}
use Rattle.view_words.specs.Words.{word}

-- `LAYER/DATATYPE`
abbrev pub key_text : LayerKey → List ℕ
key_text key = decimal key.layer ++ (0x2F ∷ decimal key.datatype)

-- two words, and the end of a row
abbrev pub two_words : List ℕ → List ℕ → List ℕ
two_words a b = word a ++ (0x20 ∷ (word b ++ codes ")"))

-- where an input layer comes from, unless it is a selection, which no stream has
abbrev pub source_text : LayerForm → List ℕ
source_text (Input key) = if nat_le 65536 key.layer then [] else 0x20 ∷ word (key_text key)
source_text (Labels key) = []
source_text Empty = []
source_text (Binary op a b) = []
source_text (Sized a by) = []

-- `L(NAME)` for each name of the rules
abbrev pub layer_row : LayerRule → List ℕ
layer_row r = codes "\n L(" ++ (word r.name ++ (source_text r.form ++ codes ")"))

abbrev pub layer_rows : List LayerRule → List ℕ
layer_rows [] = []
layer_rows (r ∷ rs) = layer_row r ++ layer_rows rs

-- `L(NAME)`
abbrev pub name_row : List ℕ → List ℕ
name_row name = codes "\n L(" ++ (word name ++ codes ")")

-- `C(A A B)`: shapes of a layer join each other and those of another
abbrev pub join_row : List ℕ → List ℕ → List ℕ
join_row a b = codes "\n C(" ++ (word a ++ (0x20 ∷ two_words a b))

-- both ways, for each two that the rules connect
abbrev pub connect_rows : List (List ℕ) → List (ℕ × ℕ) → List ℕ
connect_rows names [] = []
connect_rows names (c ∷ cs) = join_row (get_or names c.0 []) (get_or names c.1 [])
    ++ (join_row (get_or names c.1 []) (get_or names c.0 []) ++ connect_rows names cs)

-- `G(NAME GLOBAL)`, a layer that is joined to a global, and to itself
abbrev pub global_row : List ℕ → List ℕ → List ℕ
global_row a global = codes "\n G(" ++ two_words a global

abbrev pub global_rows : List (List ℕ) → List (ℕ × List ℕ) → List ℕ
global_rows names [] = []
global_rows names (g ∷ gs) = join_row (get_or names g.0 []) (get_or names g.0 [])
    ++ (global_row (get_or names g.0 []) g.1 ++ global_rows names gs)

-- the layer of devices' regions, which no rule file can name
abbrev pub region_layer : List ℕ
region_layer = codes "device regions"
