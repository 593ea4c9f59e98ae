use Rattle.std.proofs.Common.{◌∙◌, string_bytes}
use Rattle.std.proofs.lemmas.Result.{err_from_is_err_and}
use Rattle.net_model.specs.Rows.{plain_netlist}
use Rattle.rule_text.specs.Seen.{rules_seen}
use Rattle.lvs_run.proofs.MadeChips.{chip_of, chip_ready, files_so, no_layout_of, no_memory, no_rules_of, no_schematic_of, not_merged}
use Rattle.lvs_run.proofs.chips.chip_output.Goals as goal

pub returns-in_err-texts-clause-stops : goal.returns-in_err-texts-clause-stops
returns-in_err-texts-clause-stops g c = let e = err_from_is_err_and c.from_residual.result c.from_residual.ensures.1 in rw (e.1, e.2) (λ s. no_memory _ s)

pub returns-in_err-rules-clause-stops : goal.returns-in_err-rules-clause-stops
returns-in_err-rules-clause-stops g c =
    let e = err_from_is_err_and c.from_residual-in_err-rules.result c.from_residual-in_err-rules.ensures.1 in
    let task = c.args.task in
    rw (e.1, e.2) (λ s. no_rules_of task.n task.seed (string_bytes task.prefix) s _ _ (c.as_slice.ensures.value ∙ c.in_ok-texts.ensures.rules) c.in_err-rules.ensures.refused)

pub returns-in_err-top-clause-stops : goal.returns-in_err-top-clause-stops
returns-in_err-top-clause-stops g c = let e = err_from_is_err_and c.from_residual-in_err-top.result c.from_residual-in_err-top.ensures.1 in rw (e.1, e.2) (λ s. no_memory _ s)

pub returns-in_err-layout-clause-stops : goal.returns-in_err-layout-clause-stops
returns-in_err-layout-clause-stops g c =
    let e = err_from_is_err_and c.from_residual-in_err-layout.result c.from_residual-in_err-layout.ensures.1 in
    let task = c.args.task in
    let rules = c.in_ok-rules.ensures in
    rw (e.1, e.2) (λ s. no_layout_of task.n task.seed (string_bytes task.prefix) s _ _ _ (rules_seen c.in_ok-rules.rules) _ (c.as_slice.ensures.value ∙ c.in_ok-texts.ensures.rules)
    (c.as_slice-2.ensures.value ∙ c.in_ok-texts.ensures.layout) c.in_ok-top.ensures rules.short rules.found c.in_err-layout.ensures.refused)

pub returns-in_err-schematic-clause-stops : goal.returns-in_err-schematic-clause-stops
returns-in_err-schematic-clause-stops g c =
    let e = err_from_is_err_and c.from_residual-in_err-schematic.result c.from_residual-in_err-schematic.ensures.1 in
    let task = c.args.task in
    let rules = c.in_ok-rules.ensures in
    let layout = c.in_ok-layout.ensures in
    rw (e.1, e.2) (λ s. no_schematic_of task.n task.seed (string_bytes task.prefix) s _ _ _ _ (rules_seen c.in_ok-rules.rules) c.in_ok-layout.layout _ (c.as_slice.ensures.value ∙ c.in_ok-texts.ensures.rules)
    (c.as_slice-2.ensures.value ∙ c.in_ok-texts.ensures.layout) (c.as_slice-3.ensures.value ∙ c.in_ok-texts.ensures.schematic) c.in_ok-top.ensures rules.short rules.found layout.short layout.found
    c.in_err-schematic.ensures.refused)

pub returns-in_err-files-clause-stops : goal.returns-in_err-files-clause-stops
returns-in_err-files-clause-stops g c = let e = err_from_is_err_and c.from_residual-in_err-files.result c.from_residual-in_err-files.ensures.1 in rw (e.1, e.2) (λ s. no_memory _ s)

pub returns-in_err-output-clause-stops : goal.returns-in_err-output-clause-stops
returns-in_err-output-clause-stops g c =
    let e = err_from_is_err_and c.from_residual-in_err-output.result c.from_residual-in_err-output.ensures.1 in
    let task = c.args.task in
    let texts = c.in_ok-texts.ensures in
    let rules = c.in_ok-rules.ensures in
    let layout = c.in_ok-layout.ensures in
    let read = c.in_ok-schematic.ensures in
    let nl = plain_netlist c.in_ok-schematic.schematic in
    let chip = chip_of task.n task.seed _ _ _ _ (rules_seen c.in_ok-rules.rules) c.in_ok-layout.layout nl (c.as_slice.ensures.value ∙ texts.rules) (c.as_slice-2.ensures.value ∙ texts.layout)
    (c.as_slice-3.ensures.value ∙ texts.schematic) c.in_ok-top.ensures rules.short rules.found layout.short layout.found read.short read.found in
    rw (e.1, e.2) (λ s. not_merged task.n task.seed (string_bytes task.prefix) s (rules_seen c.in_ok-rules.rules) c.in_ok-layout.layout nl chip _ c.in_err-output.ensures.refused)

pub made_output-requires-clause-schematic : goal.made_output-requires-clause-schematic
made_output-requires-clause-schematic g c κs within =
    let read = c.in_ok-schematic.ensures in
    c.read_alignable.ensures _ _ (plain_netlist c.in_ok-schematic.schematic) read.found read.sound read.normal

pub returns-clause-ready : goal.returns-clause-ready
returns-clause-ready g c =
    let task = c.args.task in
    let prefix = string_bytes task.prefix in
    let texts = c.in_ok-texts.ensures in
    let rules = c.in_ok-rules.ensures in
    let layout = c.in_ok-layout.ensures in
    let read = c.in_ok-schematic.ensures in
    let nl = plain_netlist c.in_ok-schematic.schematic in
    let chip = chip_of task.n task.seed _ _ _ _ (rules_seen c.in_ok-rules.rules) c.in_ok-layout.layout nl (c.as_slice.ensures.value ∙ texts.rules) (c.as_slice-2.ensures.value ∙ texts.layout)
    (c.as_slice-3.ensures.value ∙ texts.schematic) c.in_ok-top.ensures rules.short rules.found layout.short layout.found read.short read.found in
    let made = c.in_ok-output.ensures.made task.n task.seed prefix (c.in_ok-files.ensures ∙ files_so task.n task.seed prefix _ _ _ texts.rules texts.layout texts.schematic) in
    λ s. chip_ready task.n task.seed prefix s (rules_seen c.in_ok-rules.rules) c.in_ok-layout.layout nl c.in_ok-output.output chip c.compared_laws.ensures.verdicts c.compared_laws.ensures.matched made
