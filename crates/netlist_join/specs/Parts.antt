-- Which lines of a file are taken: those of one section, or those outside all sections.
use Rattle.std.specs.Prelude.{ℕ, Bool, false, ◌||◌, List, Option, Some, None, is_none}
use Rattle.std.specs.Str.{bytes_eq}
use Rattle.net_names.specs.Folding.{folded_bytes}
use Rattle.netlist_join.specs.Directives.{Directive, Begins, Ends}

-- the section that is asked for, whether lines are taken now, and whether one was
pub record Taking : Type 0 where
  pub section : Option (List ℕ)
  pub is_taken : Bool
  pub is_met : Bool

-- before a file's first line
abbrev pub taking_of : Option (List ℕ) → Taking
taking_of section =
    record { section = section; is_taken = is_none section; is_met = is_none section }

abbrev pub is_asked : Option (List ℕ) → List ℕ → Bool
is_asked None name = false
is_asked (Some section) name = bytes_eq (folded_bytes section) (folded_bytes name)

-- the lines of `.LIB section` and `.ENDL` that bound what is taken are taken too
abbrev pub takes : Taking → Directive → Bool
takes t (Begins name) = t.is_taken || is_asked t.section name
takes t Ends = t.is_taken || is_none t.section
takes t d = t.is_taken

-- behind a line
abbrev pub behind : Taking → Directive → Taking
behind t (Begins name) = record t {
  is_taken = is_asked t.section name;
  is_met = t.is_met || is_asked t.section name;
}
behind t Ends = record t { is_taken = is_none t.section }
behind t d = t
