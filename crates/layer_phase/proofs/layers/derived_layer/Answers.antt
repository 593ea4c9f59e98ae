use Rattle.std.proofs.Common.{◌≡◌, ◌↔◌, ◌∙◌, ◌&&◌, ◌||◌, ◌==◌, ◌^◌, not, true, false, ℕ, List, Some, IsSome, Option, arith, refl, sym, subst, ap}
use Rattle.std.proofs.lemmas.Bool.{and_parts, and_from, not_from_false}
use Rattle.geo_base.specs.declared.shapes.Rect.{Rect}
use Rattle.rect_sets.specs.Rects.{covers}
use Rattle.cell_graph.specs.Linked.{Linked, plain}
use Rattle.flat_layout.specs.Layers.{Formula, InFlat, reach}
use Rattle.geo_base.specs.declared.shapes.Square.{Square}
use Rattle.rule_text.specs.Seen.{rules_seen}
use Rattle.deep_tables.proofs.Reading.{zone_entry}
use Rattle.layer_phase.specs.Around.{around}
use Rattle.layer_phase.specs.Groups.{IsFlatAround}
use Rattle.layer_phase.specs.Keeps.{IsKeptBy}
use Rattle.layer_phase.specs.Looks.{AreReadLooks}
use Rattle.layer_phase.proofs.Around.{wider_set}
use Rattle.layer_phase.proofs.Deriving.{derived, seen_flats}
use Rattle.layer_phase.proofs.Telling.{entries}
use Rattle.layer_phase.proofs.layers.derived_layer.Goals as goal

some_is : {A : Type 0} (o : Option A) (x : A) → o ≡ Some x → IsSome o
some_is o x e = subst IsSome (sym e) refl

pub left-zone-requires : goal.left-zone-requires
left-zone-requires c =
    let r = rules_seen c.args.work.now.rules.now in
    let m = c.requires.member in
    let h = zone_entry (plain c.args.work.now.design.now) r c.args.work.now.zones.now c.args.work.now.cell c.args.name m.tree c.requires.work.ready.zones c.requires.work.ready.reached m.at in
    some_is _ h.0 h.1

pub undisturbed-requires-clause-zone : goal.undisturbed-requires-clause-zone
undisturbed-requires-clause-zone c = c.requires.zone c.left-zone.result.now c.left-zone.ensures

pub kept_among-requires-clause-entries : goal.kept_among-requires-clause-entries
kept_among-requires-clause-entries c =
    let r = rules_seen c.args.work.now.rules.now in
    let m = c.requires.member in
    entries c.args.work.now.design.now r c.args.work.now.zones.now m.tree c.args.work.now.cell c.args.name c.requires.work.ready.zones c.requires.work.ready.reached m.at

pub kept_among-requires-clause-within : goal.kept_among-requires-clause-within
kept_among-requires-clause-within c = wider_set (2 ^ 37) (2 ^ 39) c.args.looks.now (omega arith) c.requires.looks.all.within

-- the squares that are seen, for the far that is the tree's reach
seen_at : (far : ℕ) (d : Linked) (cell : ℕ) (x : Formula) (looks flats squares : List Rect) → far ≡ reach x → IsFlatAround far d cell looks x flats → ((q : Square) → covers squares q ≡ (covers flats q && ((far == 0) || covers looks q)))
    → (q : Square) → (covers squares q ≡ true) ↔ ((covers looks q ≡ true) × InFlat (plain d) cell x q)
seen_at far d cell x looks flats squares is around_flats made =
    seen_flats d cell x looks around_flats.0 flats squares (subst (λ (n : ℕ). (q : Square) → covers around_flats.0 q ≡ covers (around n looks) q) is around_flats.1) around_flats.2
    (subst (λ (n : ℕ). (q : Square) → covers squares q ≡ (covers flats q && ((n == 0) || covers looks q))) is made)

pub kept_among-requires-clause-inside : goal.kept_among-requires-clause-inside
kept_among-requires-clause-inside c = λ q e.
    let m = c.requires.member in
    let squares = c.in_ok-squares.squares in
    let held = (and_parts (covers squares q) (not (covers (around c.args.far c.left-zone.result.now) q)) (sym (c.in_ok-still.ensures q) ∙ e)).0 in
    ((seen_at c.args.far c.args.work.now.design.now c.args.work.now.cell m.tree c.args.looks.now c.args.flat squares (sym m.far_is) (c.requires.flat m.tree m.derived m.far_is m.at) c.in_ok-squares.ensures q).0 held).0

pub returns : goal.returns
returns c = λ x is far at.
    let d = c.args.work.now.design.now in let r = rules_seen c.args.work.now.rules.now in let z = c.args.work.now.zones.now in let looks = c.args.looks.now in
    let cell = c.args.work.now.cell in let name = c.args.name in
    let zone = c.left-zone.result.now in let squares = c.in_ok-squares.squares in let still = c.in_ok-still.still in let kept = c.in_ok-kept.kept in let local = c.in_ok-local.local in
    let back : c.args.far ≡ reach x = sym far in
    let seen : AreReadLooks (reach x) d z r.names name cell looks = subst (λ n. AreReadLooks n d z r.names name cell looks) back c.requires.looks in
    let flats = seen_at c.args.far d cell x looks c.args.flat squares back (c.requires.flat x is far at) c.in_ok-squares.ensures in
    let apart : (q : Square) → covers still q ≡ (covers squares q && not (covers (around (reach x) zone) q)) =
    subst (λ (n : ℕ). (q : Square) → covers still q ≡ (covers squares q && not (covers (around n zone) q))) back c.in_ok-still.ensures in
    let keeps : (q : Square) → covers squares q ≡ true → covers (around (reach x) zone) q ≡ false → (covers kept q ≡ true) ↔ IsKeptBy (reach x) d z cell name q =
    λ q f e. subst (λ (n : ℕ). (covers kept q ≡ true) ↔ IsKeptBy n d z cell name q) back
    (c.in_ok-kept.ensures q (apart q ∙ and_from (covers squares q) (not (covers (around (reach x) zone) q)) f (not_from_false (covers (around (reach x) zone) q) e))) in
    derived d r z cell name x looks squares zone kept c.sound.ensures c.requires.work.ready is at seen flats c.left-zone.ensures keeps local c.rects-canonical.ensures.canonical
    (λ q. c.in_ok-local.ensures q ∙ ap (λ b. b && not (covers kept q)) (apart q))
