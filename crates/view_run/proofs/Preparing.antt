-- What the inputs, read one after the other, come to.
use Rattle.std.proofs.Common.{◌≡◌, ℕ, Bool, List, ◌∷◌, Option, Some, None, is_some, refl, ◌∙◌}
use Rattle.std.specs.Option.{option_map}
use Rattle.run_layout.specs.RunLayout.{IsRunLayout}
use Rattle.gds_layout.specs.declared.layout.Layout.{Layout}
use Rattle.lvs_outside.specs.Files.{File}
use Rattle.lvs_outside.specs.Store.{Store}
use Rattle.lvs_run.specs.Answers.{Answer}
use Rattle.lvs_run.specs.Answers as run
use Rattle.lvs_run.specs.Inputs.{ReadAs, RefusesLayout, RefusesRules, RefusesSchematic}
use Rattle.lvs_run.specs.Words.{file_at}
use Rattle.pair_jobs.specs.declared.verdict.Verdict.{Verdict}
use Rattle.plain_netlist.specs.Netlist.{Netlist}
use Rattle.rule_text.specs.Reading.{Means}
use Rattle.rule_text.specs.Rules.{Rules}
use Rattle.spice_rows.specs.Sizes.{read_limit}
use Rattle.spice_text.specs.Means.{Means as SpiceMeans}
use Rattle.view_run.specs.Stated.{Asked}
use Rattle.view_run.specs.Ends.{AsRun, End}
use Rattle.view_run.specs.Runs.{BadLayout, BadRules, BadSchematic, IsReady, NoMemory, NothingMade, ReadsAll, ReadsLayout, ReadsRules, Stops, page_files}
use Rattle.view_run.specs.Far.{NotMade}
use Rattle.view_run.specs.Views.{IsView}

pub rules_stop : (q : Asked) (old new : Store) (a : Answer) (e : End) → q.shared ≡ None → e ≡ AsRun a → RefusesRules old new q.rules a → Stops (Some q) old new e
rules_stop q old new a e apart same h = BadRules q a (record { stated = refl; apart = apart }) h same

module _ (q : Asked) (old mid : Store) (r : Rules) (apart : q.shared ≡ None) (rules : ReadAs old mid q.rules (λ bytes. Means bytes r)) where
  reads_rules : ReadsRules (Some q) old mid q r
  reads_rules = record { asks = record { stated = refl; apart = apart }; rules = rules }

  pub layout_stop : (new : Store) (a : Answer) (e : End) → e ≡ AsRun a → RefusesLayout mid new q.layout q.top r a → Stops (Some q) old new e
  layout_stop new a e same h = BadLayout q r mid a reads_rules rules.got.faults h same

  module _ (late : Store) (l : Layout) (layout : ReadAs mid late q.layout (λ bytes. IsRunLayout bytes q.top r l)) where
    reads_layout : ReadsLayout (Some q) old late q r l
    reads_layout = record { mid = mid; rules = reads_rules; layout = layout }

    pub schematic_stop : (new : Store) (a : Answer) (e : End) → e ≡ AsRun a → RefusesSchematic late new q.schematic a → Stops (Some q) old new e
    schematic_stop new a e same h = BadSchematic q r l late a reads_layout (layout.got.faults ∙ rules.got.faults) h same

    module _ (new : Store) (nl : Netlist) (schematic : ReadAs late new q.schematic (λ bytes. SpiceMeans read_limit bytes nl)) where
      reads_all : ReadsAll (Some q) old new q r l nl
      reads_all = record { mid = late; layout = reads_layout; schematic = schematic }

      stood : new.faults ≡ old.faults
      stood = schematic.got.faults ∙ (layout.got.faults ∙ rules.got.faults)

      pub made_stop : (e : End) → NotMade l r nl e → Stops (Some q) old new e
      made_stop e h = NothingMade q r l nl reads_all h stood

      pub memory_stop : Stops (Some q) old new (AsRun run.NoMemory)
      memory_stop = NoMemory refl stood

      pub is_ready : (v w : Verdict) (paged : Bool) (files : List File) (text line put : List ℕ) (page : Option (List ℕ)) → is_some q.page ≡ paged → IsView l r nl paged v text page line
          → files ≡ file_at q.database text ∷ page_files q.page page → put ≡ line → w ≡ v → IsReady (Some q) old new w files put
      is_ready v w paged files text line put page told view files_are is same = record {
        asked = q;
        rules = r;
        layout = l;
        netlist = nl;
        reads = reads_all;
        text = text;
        page = page;
        view = rw (told, is, same) view;
        files_are = files_are;
        faults = stood;
      }

pub is_some_map : {A B : Type 0} (f : A → B) (o : Option A) → is_some (option_map f o) ≡ is_some o
is_some_map f None = refl
is_some_map f (Some x) = refl
