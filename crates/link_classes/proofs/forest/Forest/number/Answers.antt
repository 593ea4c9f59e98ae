use Rattle.std.proofs.Common.{◌≡◌, ◌<◌, ℕ, [], ◌∷◌, ◌++◌, List, Option, Some, None, get_or, length, refl, sym, ◌∙◌, ap, subst, arith, Vec, Global}
use Rattle.std.proofs.lemmas.List.{get_or_default}
use Rattle.link_classes.proofs.Numbers.{moved_on, push_old, push_new, numbered}
use Rattle.link_classes.proofs.Pushes.{defaults_push, length_more}
use Rattle.link_classes.proofs.forest.Forest.number.Goals.{in-Some+in_ok-push-in-Some, in-None+in_ok-push-in-None}
use Rattle.link_classes.proofs.forest.Forest.number.Goals as goal
use Rattle.link_classes.specs.Forest.{SoFar}

pub loop-i-preserved : goal.loop-i-preserved
loop-i-preserved c =
    let p = c.args.self.parent.items in
    let q = c.top-top.new.self.parent.items in
    let at = c.loop-i.class_at.items in
    let i = c.loop-i.i in
    let known = c.loop-i.class_of.items in
    let top = c.top-top.result in
    let so = moved_on p c.loop-i.self.parent.items q at i known c.loop-i.count c.top-top.ensures.same c.loop-i.invariant.1 in
    let inside : top < length at = let a = c.top-top.ensures.top.0 in let b = so.wide in let d = so.same.long in omega arith in
    let is : c.index.result.now ≡ get_or at top None = c.index.ensures ∙ get_or_default at top c.index.result.now None inside in (
      c.top-top.ensures.forest,
      elim c.match-index.branch [
        | in-Some+in_ok-push-in-Some w ↦
            let v = w.in-Some.class in
            let told : get_or at top None ≡ Some v = sym is ∙ w.in-Some.is in
            let next = push_old p q at i known c.loop-i.count v top so c.top-top.ensures.top c.top-top.ensures.joined told in
            let items : c.match-index.class_of.items ≡ known ++ v ∷ [] = ap (λ (k : Vec ℕ Global). k.items) w.class_of-is ∙ w.in_ok-push-in-Some.ensures.items in
            rw (w.class_at-is, items, w.count-is) next
        | in-None+in_ok-push-in-None w ↦
            let n = c.loop-i.count in
            let none : get_or at top None ≡ None = sym is ∙ w.in-None.is in
            let next = push_new p q at i known n n top so c.top-top.ensures.top c.top-top.ensures.joined none refl in
            let items : c.match-index.class_of.items ≡ known ++ n ∷ [] = ap (λ (k : Vec ℕ Global). k.items) w.class_of-is ∙ w.in_ok-push-in-None.ensures.items in
            rw (w.class_at-is, items, w.count-is) next
      ],
    )

pub returns : goal.returns
returns c =
    let so = c.loop-i.invariant.1 in
    let n : c.len-n.result ≡ length c.args.self.parent.items = c.len-n.ensures ∙ c.args.self.parent.ok.0 in
    let end : c.loop-i.i ≡ length c.args.self.parent.items = omega arith in
    numbered c.args.self.parent.items c.loop-i.self.parent.items c.loop-i.self.rank.items c.loop-i.class_at.items c.loop-i.class_of.items c.loop-i.count c.loop-i.invariant.0
    (subst (λ k. SoFar c.args.self.parent.items c.loop-i.self.parent.items c.loop-i.class_at.items k c.loop-i.class_of.items c.loop-i.count) end so)

pub overflow_add-count : goal.overflow_add-count
overflow_add-count c = let few = c.loop-i.invariant.1.few in let short = c.requires.short in let wide = c.loop-i.invariant.1.wide in omega arith

pub loop-preserved : goal.loop-preserved
loop-preserved c =
    let r = c.in_ok-push.ensures.items in
    let h = c.loop.invariant in
    (ap (λ (l : List (Option ℕ)). length l) r ∙ length_more c.loop.class_at.items None c.loop.counter h.0, λ k. ap (λ (l : List (Option ℕ)). get_or l k None) r ∙ defaults_push c.loop.class_at.items None h.1 k)
