-- What a list of words asks for.
use Rattle.std.specs.Prelude.{ℕ, List, [], ◌∷◌, Option, Some, None}
use Rattle.std.specs.Prelude.{if◌then◌else◌, string_bytes}
use Rattle.std.specs.Option.{option_and_then, option_map}
use Rattle.lvs_words.specs.declared.flag.Flag.{Flag}
use Rattle.lvs_words.specs.declared.flag.Flag.TheVariants.{Layout, Rules, Schematic, Database}
use Rattle.lvs_words.specs.declared.flag.Flag.TheVariants.{Page, Top, Workers}
use Rattle.lvs_words.specs.Fitting.{fits, workers_of}
use Rattle.lvs_words.specs.Items.{Item, items, path, shared, value_of}
use Rattle.view_run.specs.declared.stated.Task.{Task}

-- the paths, of which the page's may be left out, and the name of the top as bytes, the number of
-- workers, and the path of a file that is written and named twice
pub record Asked : Type 0 where
  pub layout : List ℕ
  pub rules : List ℕ
  pub schematic : List ℕ
  pub database : List ℕ
  pub page : Option (List ℕ)
  pub top : Option (List ℕ)
  pub workers : ℕ
  pub shared : Option (List ℕ)

abbrev pub asked_of : Task → Asked
asked_of t = record {
  layout = string_bytes t.layout;
  rules = string_bytes t.rules;
  schematic = string_bytes t.schematic;
  database = string_bytes t.database;
  page = option_map string_bytes t.page;
  top = t.top;
  workers = t.workers;
  shared = option_map string_bytes t.shared;
}

-- the options that can't be left out
abbrev pub needed_flags : List Flag
needed_flags = Layout ∷ Rules ∷ Schematic ∷ Database ∷ []

-- the options that may be left out
abbrev pub free_flags : List Flag
free_flags = Page ∷ Top ∷ Workers ∷ []

-- what these options ask for
abbrev pub asked_by : List Item → Option Asked
asked_by is = if fits needed_flags free_flags is then option_and_then (λ k. Some (record {
  layout = path Layout is;
  rules = path Rules is;
  schematic = path Schematic is;
  database = path Database is;
  page = value_of Page is;
  top = value_of Top is;
  workers = k;
  shared = shared is;
})) (workers_of is) else None

-- what the words ask for
abbrev pub asked : List (List ℕ) → Option Asked
asked words = option_and_then asked_by (items words)
