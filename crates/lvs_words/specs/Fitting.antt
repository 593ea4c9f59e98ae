-- Whether options are those that are asked for, and the workers that they ask for.
use Rattle.std.specs.Prelude.{ℕ, ◌&&◌, ◌||◌, Bool, List, Option, Some, None, is_some}
use Rattle.std.specs.List.{list_any, list_all}
use Rattle.lvs_words.specs.declared.flag.Flag.{Flag}
use Rattle.lvs_words.specs.declared.flag.Flag.TheVariants.{Workers}
use Rattle.lvs_words.specs.Flags.{is_same}
use Rattle.lvs_words.specs.Items.{Item, are_once, value_of}
use Rattle.lvs_words.specs.Numbers.{number_in}

-- the flag is one of these
abbrev pub is_among : List Flag → Flag → Bool
is_among flags f = list_any (λ g. is_same g f) flags

-- each option is a needed one, or a free one: one that may be left out
abbrev pub has_known : (needed free : List Flag) → List Item → Bool
has_known needed free is = list_all (λ i. is_among free i.flag || is_among needed i.flag) is

-- all needed options are there
abbrev pub has_needed : List Flag → List Item → Bool
has_needed needed is = list_all (λ f. is_some (value_of f is)) needed

-- no option twice, none but the needed ones and the free ones, and all that are needed
abbrev pub fits : (needed free : List Flag) → List Item → Bool
fits needed free is = are_once is && has_known needed free is && has_needed needed is

-- the workers: 1 to 64, and 1 where nothing is said
abbrev pub workers_in : Option (List ℕ) → Option ℕ
workers_in None = Some 1
workers_in (Some word) = number_in 1 64 word

abbrev pub workers_of : List Item → Option ℕ
workers_of is = workers_in (value_of Workers is)
