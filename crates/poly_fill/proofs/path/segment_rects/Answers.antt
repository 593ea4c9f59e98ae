use Rattle.std.proofs.Common.{◌≡◌, ◌+◌, ◌<◌, ◌≤◌, ◌-◌, ℕ, ℤ, List, length, take, drop, pos, arith, w64, sym, ap, ◌∙◌, subst, Vec, Global}
use mir.Val.{to_z, of_z}
use Rattle.std.proofs.lemmas.List.Elements.{All-get_or, All-take, All-drop}
use Rattle.geo_base.specs.declared.shapes.Point.{Point}
use Rattle.geo_base.specs.declared.shapes.Rect.{Rect}
use Rattle.geo_base.specs.Near.{IsLong, IsLongPoint}
use Rattle.rect_sets.specs.Rects.{covers}
use Rattle.poly_fill.specs.Fills.{segments}
use Rattle.poly_fill.proofs.Widened.{near_value, covers_more, covers_all, no_segments, along_three}
use Rattle.poly_fill.proofs.path.segment_rects.Goals as goal
use Rattle.poly_fill.proofs.path.segment_rects.Goals.{then-i-rest, else-i-rest, in_default, in-len1-up+else-loop-i-test}

pub loop-i-preserved : goal.loop-i-preserved
loop-i-preserved c =
    let points = c.args.points.now in
    let zero : Point = record { x = pos 0; y = pos 0 } in
    let rest : List Point = take (length points - 1) (drop 1 points) in
    let i : ℕ = c.loop-i.i in
    let lt : i < length rest = omega arith in
    let half : ℤ = to_z w64 (of_z w64 c.args.half) in
    let end : ℤ = to_z w64 (of_z w64 c.args.end) in
    let before : ℤ = to_z w64 c.loop-i.before-bits in
    let after : ℤ = to_z w64 c.if-i-rest.after-bits in
    let last : i + 1 ≡ length rest → after ≡ end = elim c.if-i-rest.branch [
      | then-i-rest w ↦ λ e. w.after-is
      | else-i-rest w ↦ λ e. absurd (w.if-i-rest.false e)
    ] in
    let inner : i + 1 < length rest → after ≡ half = elim c.if-i-rest.branch [
      | then-i-rest w ↦ λ e. let t = w.if-i-rest.true in absurd (omega arith)
      | else-i-rest w ↦ λ e. w.after-is
    ] in
    record {
      sound = c.in_ok-push_rect.ensures.sound;
      from = All-get_or IsLongPoint rest i zero lt (All-take IsLongPoint (length points - 1) (drop 1 points) (All-drop IsLongPoint 1 points c.requires.points));
      before = subst (λ (z : ℤ). IsLong z) (sym (near_value c.args.half c.requires.half)) c.requires.half;
      covers = λ s. covers_more half before after end c.loop-i.from rest i zero (covers c.loop-i.rects.items s) (covers c.push_rect.new.rects.items s)
          (covers (segments half (to_z w64 (of_z w64 c.args.begin)) end points) s) c.segment.result s lt last inner c.segment.ensures
          (c.in_ok-push_rect.ensures.covers s) (c.loop-i.invariant.covers s);
    }

pub returns-clause-covers : goal.returns-clause-covers
returns-clause-covers c = λ s.
    let points = c.args.points.now in
    let rest : List Point = take (length points - 1) (drop 1 points) in
    let half = near_value c.args.half c.requires.half in
    let begin = near_value c.args.begin c.requires.begin in
    let end = near_value c.args.end c.requires.end in
    elim c.if-points-lt1.branch [
      | in_default w ↦
          let none : length points ≡ 0 = let q = w.in_default in omega (arith, q) in
          ap (λ (v : Vec Rect Global). covers v.items s) w.rects-is ∙ ap (λ (q : List Rect). covers q s) c.new-rects.ensures.items ∙ no_segments c.args.half c.args.begin c.args.end points s none
      | in-len1-up+else-loop-i-test w ↦
          let le : length rest ≤ w.loop-i.i = let t = w.loop-i-test.false in omega (arith, t) in
          ap (λ (v : Vec Rect Global). covers v.items s) w.rects-is
          ∙ covers_all (to_z w64 (of_z w64 c.args.half)) (to_z w64 w.loop-i.before-bits) (to_z w64 (of_z w64 c.args.end)) w.loop-i.from rest w.loop-i.i
          (covers w.loop-i.rects.items s) (covers (segments (to_z w64 (of_z w64 c.args.half)) (to_z w64 (of_z w64 c.args.begin)) (to_z w64 (of_z w64 c.args.end)) points) s)
          s le (w.loop-i.invariant.covers s)
          ∙ along_three (λ h b e. covers (segments h b e points) s) _ _ _ _ _ _ half begin end
    ]
