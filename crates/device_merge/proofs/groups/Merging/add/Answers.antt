use Rattle.std.proofs.Common.{◌≡◌, ◌<◌, ◌≤◌, ◌+◌, ◌++◌, ◌∷◌, [], ℕ, Bool, List, length, map, arith, ap, sym, ◌∙◌, subst, refl, false, ◌&&◌, nat_lt}
use Rattle.base_laws.proofs.Lists.{map_last}
use Rattle.merge_laws.specs.Merge.{may_merge, may_merge_row, width_of}
use Rattle.net_model.specs.declared.netlist.DeviceRow.{DeviceRow as Held}
use Rattle.net_model.specs.Rows.{plain_device}
use Rattle.plain_netlist.specs.Netlist.{DeviceRow}
use Rattle.std.specs.Vec.{with_items}
use Rattle.std.proofs.lemmas.List.{with_items_is}
use Rattle.device_merge.specs.declared.groups.Merging.{Merging}
use Rattle.device_merge.specs.Merging.{placed, width_at, widened}
use Rattle.device_merge.proofs.Going.{begun_merging, begun_too_wide, joined_merging, joined_wide, last_place}
use Rattle.device_merge.proofs.Joined.{past, within}
use Rattle.device_merge.proofs.groups.Merging.add.Goals.{else-may_merge-via-then-may_merge+else-width-self, else-may_merge-via-else-may_merge}
use Rattle.device_merge.proofs.groups.Merging.add.Goals as goal

pub returns-then-place-len-clause-added : goal.returns-then-place-len-clause-added
returns-then-place-len-clause-added c fits gs place h =
    let row = plain_device c.args.row.now in
    let count = c.len.ensures in
    let inside = c.if-place-len.true in
    let long = c.args.self.now.rows.ok.0 in
    let low : c.place-place.result < length c.args.self.now.rows.items = omega arith in
    let new : Merging = record { rows = with_items c.args.self.now.rows c.widen.new.rows; keys = c.args.self.now.keys; most = c.args.self.now.most } in
    let kept = c.widen.ensures.long in
    let lent = c.deref_mut.ensures.len in
    joined_merging c.args.self.now new gs (placed place row) c.place-place.result c.width_of-width.ensures.sizes h (c.place-place.ensures gs h.keys) low
    (ap (λ (rs : List Held). map plain_device rs) (with_items_is c.args.self.now.rows c.widen.new.rows (omega arith)) ∙ c.widen.ensures.done fits ∙ ap (λ (rs : List Held). widened c.place-place.result c.width_of-width.result.0 (map plain_device rs)) c.deref_mut.ensures.value ∙ ap (λ (w : ℕ). widened c.place-place.result w (map plain_device c.args.self.now.rows.items)) c.width_of-width.ensures.width)
    refl
    refl
    (subst (λ (w : ℕ). width_at c.place-place.result (map plain_device c.args.self.now.rows.items) + w ≤ c.args.self.now.most) c.width_of-width.ensures.width
    (subst (λ (rs : List Held). width_at c.place-place.result (map plain_device rs) + c.width_of-width.result.0 ≤ c.args.self.now.most) c.deref_mut.ensures.value (c.widen.ensures.narrow fits)))

pub returns-then-place-len-clause-wide : goal.returns-then-place-len-clause-wide
returns-then-place-len-clause-wide c fits gs place h =
    let row = plain_device c.args.row.now in
    let count = c.len.ensures in
    let inside = c.if-place-len.true in
    let long = c.args.self.now.rows.ok.0 in
    let low : c.place-place.result < length c.args.self.now.rows.items = omega arith in
    joined_wide c.args.self.now gs (placed place row) c.place-place.result c.width_of-width.ensures.sizes h (c.place-place.ensures gs h.keys) low
    (subst (λ (w : ℕ). c.args.self.now.most < width_at c.place-place.result (map plain_device c.args.self.now.rows.items) + w) c.width_of-width.ensures.width
    (subst (λ (rs : List Held). c.args.self.now.most < width_at c.place-place.result (map plain_device rs) + c.width_of-width.result.0) c.deref_mut.ensures.value (c.widen.ensures.wide fits)))

pub returns-then-width-self-clause-wide : goal.returns-then-width-self-clause-wide
returns-then-width-self-clause-wide c fits gs place h =
    let row = plain_device c.args.row.now in
    let count = c.len.ensures in
    let long = c.args.self.now.rows.ok.0 in
    let out = c.if-place-len.false in
    begun_too_wide c.args.self.now gs (placed place row) h
    (last_place c.args.self.now gs row c.place-place.result h (c.place-place.ensures gs h.keys) (λ low. let z : ⊥ = omega (arith, out) in z))
    (past c.args.self.now.most (may_merge_row row) (width_of row) (ap (may_merge row.kind) (sym c.bytes.ensures.same) ∙ sym c.if-may_merge.ensures) (subst (λ (w : ℕ). c.args.self.now.most < w) c.width_of-width.ensures.width c.if-width-self.true))

pub returns-clause-added : goal.returns-clause-added
returns-clause-added c fits gs place h =
    let row = plain_device c.args.row.now in
    let count = c.len.ensures in
    let long = c.args.self.now.rows.ok.0 in
    let out = c.if-place-len.false in
    let last = last_place c.args.self.now gs row c.place-place.result h (c.place-place.ensures gs h.keys) (λ low. let z : ⊥ = omega (arith, out) in z) in
    let new : Merging = record { rows = c.push.new.self; keys = c.add.new.self; most = c.args.self.now.most } in
    begun_merging c.args.self.now new gs (placed place row) h last
    (ap (λ (rs : List Held). map plain_device rs) c.in_ok-push.ensures.items ∙ map_last plain_device c.args.self.now.rows.items c.in_ok-try_clone.field-0 ∙ ap (λ (r : DeviceRow). map plain_device c.args.self.now.rows.items ++ r ∷ []) c.in_ok-try_clone.ensures)
    (c.in_ok-add.ensures gs h.keys last place)
    refl
    (elim c.else-may_merge.branch [
      | else-may_merge-via-then-may_merge+else-width-self w ↦ within c.args.self.now.most (may_merge_row row) (width_of row) (let off = w.if-width-self.false in let own = c.width_of-width.ensures.width in omega (arith, off, own))
      | else-may_merge-via-else-may_merge w ↦ let off : may_merge_row row ≡ false = ap (may_merge row.kind) (sym c.bytes.ensures.same) ∙ sym w.if-may_merge.ensures in ap (λ (m : Bool). m && nat_lt c.args.self.now.most (width_of row)) off
    ])
