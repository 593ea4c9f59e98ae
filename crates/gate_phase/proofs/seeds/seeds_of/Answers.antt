use Rattle.std.proofs.Common.{◌∙◌, List, Bool, subst, length, arith}
use Rattle.rule_text.specs.Seen.{rules_seen}
use Rattle.rule_text.specs.declared.rules.LayerRule.{LayerRule}
use Rattle.gate_phase.specs.Reads.{AreRead}
use Rattle.gate_phase.specs.Seeding.{BringsOwn}
use Rattle.gate_phase.proofs.Bringing.{within_set}
use Rattle.gate_phase.proofs.Numbering.{device_is, known_device}
use Rattle.gate_phase.proofs.Seeding.{seeds_held}
use Rattle.gate_phase.proofs.seeds.seeds_of.Goals as goal

pub overflow_add-by : goal.overflow_add-by
overflow_add-by c = let most = c.requires.ready.most in omega (arith, most)

pub overflow_add-by-2 : goal.overflow_add-by-2
overflow_add-by-2 c = let most = c.requires.ready.most in omega (arith, most)

pub push_references-requires-clause-by : goal.push_references-requires-clause-by
push_references-requires-clause-by c = let most = c.requires.ready.most in omega (arith, most)

pub within_reach-requires-clause-within : goal.within_reach-requires-clause-within
within_reach-requires-clause-within c = within_set c.plane-plane.result c.push_all_own.new.out.items c.in_ok-set.set c.plane-plane.ensures.near c.in_ok-push_all_own.ensures.pieces c.in_ok-set.ensures

pub returns-clause-all : goal.returns-clause-all
returns-clause-all c = λ u at.
    let d = c.args.at.now.site.design.now in let r = rules_seen c.args.at.now.site.rules.now in let n = c.args.at.now.number in
    let x = c.args.at.now.device in
    let names = c.as_slice-names.ensures.value in
    seeds_held d r c.args.at.now.site.zones.now c.args.at.now.site.cell n x u c.sound.ensures c.requires.ready.site.rules (known_device r n x c.requires.ready.site.rules c.requires.ready.device) (device_is r n x u c.requires.ready.device at) c.requires.ready.site.zones c.requires.ready.site.reached at c.plane-plane.result c.plane-plane.ensures.all c.in_ok-marks.marks.items
    (subst (λ (l : List LayerRule). AreRead l x c.in_ok-marks.marks.items) names c.in_ok-marks.ensures.read)
    c.push_references.new.out.items c.push_all_own.new.out.items c.args.at.now.reach (c.requires.ready.reach u at) c.in_ok-push_references.ensures.brings c.in_ok-push_all_own.ensures.grows
    (subst (λ (l : List LayerRule). BringsOwn d c.args.at.now.site.cell l c.in_ok-marks.marks.items (length l) c.push_all_own.new.out.items) names (subst (λ (b : List Bool). BringsOwn d c.args.at.now.site.cell c.as_slice-names.result.now b (length c.as_slice-names.result.now) c.push_all_own.new.out.items) c.deref.ensures.value c.in_ok-push_all_own.ensures.brings))
    c.in_ok-starts.starts (λ q near. (c.in_ok-starts.ensures.squares q).1 (record { square = near.square; within = near.within; has = c.in_ok-set.ensures near.square ∙ near.has }))
