use Rattle.std.proofs.Common.{◌≡◌, ◌∙◌, ◌+◌, ◌<◌, ℕ, List, IfErr, [], false, true, length, map, refl, sym, ap, subst, get_or, arith, rules}
use Rattle.std.specs.Prelude.{string_bytes}
use Rattle.std.specs.List.{list_all}
use Rattle.netlist_join.specs.Failing.{NotRead}
use Rattle.netlist_join.specs.Loaded.{has_path, has_twins, paths_of, with_paths}
use Rattle.netlist_join.specs.Named.{are_reached, named}
use Rattle.netlist_join.specs.declared.files.File.{File}
use Rattle.netlist_join.specs.declared.files.Failed.{Failed}
use Rattle.netlist_join.proofs.LoadedLemmas.{apart_at_first, as_many, reads_on, starts_more, starts_same, stay_apart}
use Rattle.netlist_join.proofs.NamedLemmas.{all_put, all_stay, asked_by, asked_input, named_on, not_named, reached_more, there_on}
use Rattle.netlist_join.proofs.files.load_files.Goals as goal

pub loop-k-init : goal.loop-k-init
loop-k-init g c =
    let e = c.in_ok-add_all.ensures in
    let ins = map string_bytes c.args.inputs.now in
    let none : c.new-files.result.items ≡ [] = c.new-files.ensures.items in
    let new = c.add_all.new.files.items in
    let all : paths_of c.add_all.new.files.items ≡ with_paths [] (map string_bytes c.args.inputs.now) =
    e.paths ∙ ap (λ (fs : List File). with_paths (paths_of fs) (map string_bytes c.args.inputs.now)) none in (
      e.room,
      e.reads,
      e.faults,
      e.absent,
      e.told,
      starts_same (paths_of new) (with_paths [] ins) all,
      apart_at_first c.new-files.result.items new ins none e.paths,
      (omega arith),
      reached_more ins (λ p. has_path (map string_bytes c.args.inputs.now) p ≡ true) c.new-files.result.items new (λ p h. asked_input (map string_bytes c.args.inputs.now) c.new-files.result.items p h) e.more
          (subst (λ (fs : List File). are_reached (map string_bytes c.args.inputs.now) [] fs ≡ true) (sym none) refl),
      subst (λ (ps : List (List ℕ)). list_all (λ p. has_path ps p) (map string_bytes c.args.inputs.now) ≡ true) (sym all) (all_put [] ins),
      refl,
    )

pub returns-in_err-add_all-2-clause-failed : goal.returns-in_err-add_all-2-clause-failed
returns-in_err-add_all-2-clause-failed g c =
    let i = c.loop-k.invariant in
    let files = c.loop-k.files.items in
    let lt : c.loop-k.k < length c.loop-k.files.items = omega (arith, c.if-k-len.false) in
    let names : map string_bytes c.deref.result.now ≡ named c.index.result.now = search rules in
    let why : IfErr c.from_residual-in_err-add_all-2.result (NotRead (λ p. has_path (map string_bytes c.deref.result.now) p ≡ true) (g.D.Depot.state c.loop-k.depot) (g.D.Depot.state c.add_all-in-loop-k.new.depot)) =
    search rules in
    not_named _ c.from_residual-in_err-add_all-2.result (map string_bytes c.args.inputs.now) (map string_bytes c.deref.result.now) files c.loop-k.k c.index.result.now (g.D.Depot.state c.args.depot.now)
    (g.D.Depot.state c.loop-k.depot) (g.D.Depot.state c.add_all-in-loop-k.new.depot) i.1 i.3 i.4 i.6 i.8 lt (names ∙ ap (λ (f : File). named f) c.index.ensures) why

pub loop-k-preserved : goal.loop-k-preserved
loop-k-preserved g c =
    let i = c.loop-k.invariant in
    let e = c.in_ok-add_all-2.ensures in
    let ins = map string_bytes c.args.inputs.now in
    let old = c.loop-k.files.items in
    let new = c.add_all-in-loop-k.new.files.items in
    let ps = map string_bytes c.deref.result.now in
    let lt : c.loop-k.k < length c.loop-k.files.items = omega (arith, c.if-k-len.false) in
    let names : map string_bytes c.deref.result.now ≡ named c.index.result.now = search rules in
    let is : map string_bytes c.deref.result.now ≡ named (get_or c.loop-k.files.items c.loop-k.k c.index.result.now) = names ∙ ap (λ (f : File). named f) c.index.ensures in (
      e.room,
      reads_on (g.D.Depot.state c.args.depot.now) (g.D.Depot.state c.loop-k.depot) (g.D.Depot.state c.add_all-in-loop-k.new.depot) i.1 e.reads,
      e.faults ∙ i.2,
      e.absent ∙ i.3,
      e.told,
      starts_more (with_paths [] ins) (paths_of old) (paths_of new) ps i.5 e.paths,
      subst (λ (qs : List (List ℕ)). has_twins qs ≡ false) (sym e.paths) (stay_apart (paths_of old) ps i.6),
      as_many old new ps (c.loop-k.k + 1) e.paths (omega (arith, c.if-k-len.false)),
      reached_more ins (λ p. has_path (map string_bytes c.deref.result.now) p ≡ true) old new
          (λ p h. asked_by (map string_bytes c.args.inputs.now) c.loop-k.files.items c.loop-k.k c.index.result.now p lt (subst (λ (qs : List (List ℕ)). has_path qs p ≡ true) is h)) e.more i.8,
      subst (λ (qs : List (List ℕ)). list_all (λ p. has_path qs p) (map string_bytes c.args.inputs.now) ≡ true) (sym e.paths) (all_stay (paths_of old) ps ins i.9),
      there_on (λ p. has_path (map string_bytes c.deref.result.now) p ≡ true) old new c.loop-k.k c.index.result.now lt e.more
          (e.paths ∙ ap (λ (qs : List (List ℕ)). with_paths (paths_of c.loop-k.files.items) qs) is) i.10,
    )
