use Rattle.std.proofs.Common.{◌≡◌, ◌<◌, ◌++◌, ◌∷◌, [], ℕ, Bool, true, false, cond, List, take, replicate, length, sym, ap, ◌∙◌, rules, append-nil}
use Rattle.std.specs.Prelude.{slice_index_or, filter}
use Rattle.std.proofs.lemmas.List.{take_more}
use Rattle.net_align.specs.Marks.{marked}
use Rattle.net_align.specs.Sights.{has_number}
use Rattle.net_align.proofs.Seeing.{marks_tell, filter_more}
use Rattle.net_align.proofs.sights.pins_among.Goals.{then-is_marked+in_ok-push, else-is_marked}
use Rattle.net_align.proofs.sights.pins_among.Goals as goal

pub loop-pin-preserved : goal.loop-pin-preserved
loop-pin-preserved c =
    let pins = c.args.pins.now in
    let nets = c.args.nets.now in
    let count = c.args.count in
    let i = c.loop-pin.pin-index in
    let p = slice_index_or pins i 0 in
    let own = c.loop-pin.own.items in
    let below : i < length pins = search rules in
    let none : c.in_ok-marks.marks.items ≡ replicate count false = search rules in
    let marks : c.deref.result.now ≡ marked nets (replicate count false) = c.deref.ensures.value ∙ (c.mark_nets.ensures ∙ ap (marked nets) none) in
    let tells : c.is_marked.result ≡ has_number nets p = c.is_marked.ensures ∙ (ap (λ (t : List Bool). slice_index_or t p false) marks ∙ marks_tell nets count p c.requires) in
    let step : c.if-is_marked.own.items ≡ own ++ cond (has_number nets p) (p ∷ []) []
    = elim c.if-is_marked.branch [
      | then-is_marked+in_ok-push w ↦
          let on : has_number nets p ≡ true = sym tells ∙ w.if-is_marked.true in
          ap (λ (v : _). v.items) w.own-is ∙ (w.in_ok-push.ensures.items ∙ ap (λ (b : Bool). own ++ cond b (p ∷ []) []) (sym on))
      | else-is_marked w ↦
          let off : has_number nets p ≡ false = sym tells ∙ w.if-is_marked.false in
          ap (λ (v : _). v.items) w.own-is ∙ (sym (append-nil own) ∙ ap (λ (b : Bool). own ++ cond b (p ∷ []) []) (sym off))
    ] in
    step
    ∙ (ap (λ (t : List ℕ). t ++ cond (has_number nets p) (p ∷ []) []) c.loop-pin.invariant
    ∙ (sym (filter_more (has_number nets) (take i pins) p)
    ∙ ap (λ (t : List ℕ). filter (has_number nets) t) (sym (take_more pins i 0 below))))
