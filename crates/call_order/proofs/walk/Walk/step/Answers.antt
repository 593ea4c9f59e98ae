use Rattle.std.proofs.Common.{◌≡◌, ◌∙◌, ◌<◌, sym, ap, subst, arith, length, Result, Ok, Err}
use Rattle.std.proofs.lemmas.List.{length-map}
use Rattle.std.specs.Prelude.{OnOk}
use Rattle.call_order.specs.Order.{lists}
use Rattle.call_order.specs.Walk.{State, seen, AreThere, IsFurther, left, rested, arrived}
use Rattle.call_order.proofs.Calls.{call_further, last_there, next_there, path_there}
use Rattle.call_order.proofs.Leave.{left_further}
use Rattle.call_order.proofs.walk.Walk.step.Goals as goal

pub next_call-requires-clause-there : goal.next_call-requires-clause-there
next_call-requires-clause-there c =
    let low = last_there _ _ c.args.v c.requires.walk c.requires.last in
    let long = length-map c.args.self.now.calls.now (λ row. row.items) in omega arith

pub next_call-requires-clause-counted : goal.next_call-requires-clause-counted
next_call-requires-clause-counted c =
    let low = last_there _ _ c.args.v c.requires.walk c.requires.last in
    let long = c.requires.walk.base.followed_len in omega arith

pub leave-requires-clause-there : goal.leave-requires-clause-there
leave-requires-clause-there c =
    subst AreThere (sym c.in-None.ensures.taken.1) (path_there _ _ c.requires.walk.base)

pub arrive-requires : goal.arrive-requires
arrive-requires c =
    let low = next_there _ _ c.args.v c.in-Some.b c.requires.walk.base c.in-Some.ensures.taken.0 in
    subst (λ (s : State). c.in-Some.b < length s.places) (sym c.in-Some.ensures.taken.1) low

on_ok : {T E : Type 0} (r : Result T E) (P Q : Type 0) → (P → Q) → OnOk r P → OnOk r Q
on_ok (Ok x) P Q f h = f h
on_ok (Err e) P Q f h = tt

pub returns-in-None-clause-further : goal.returns-in-None-clause-further
returns-in-None-clause-further c =
    let calls = lists c.args.self.now.calls.now in
    let s = seen c.args.self.now in
    let same : seen c.next_call.new.self ≡ s = c.in-None.ensures.taken.1 in
    let done = left_further calls s c.args.v c.requires.walk c.requires.last c.in-None.ensures.taken.0 in
    on_ok c.leave.result (seen c.leave.new.self ≡ left (rested (seen c.next_call.new.self))) (IsFurther calls s (seen c.leave.new.self))
    (λ e. subst (λ (t : State). IsFurther calls s t) (sym (e ∙ ap (λ (t : State). left (rested t)) same)) done) c.leave.ensures.done

pub returns-in-Some-clause-further : goal.returns-in-Some-clause-further
returns-in-Some-clause-further c =
    let calls = lists c.args.self.now.calls.now in
    let s = seen c.args.self.now in
    let same = c.in-Some.ensures.taken.1 in
    let done = call_further calls s c.args.v c.in-Some.b c.requires.walk c.requires.last c.in-Some.ensures.taken.0 in
    on_ok c.arrive.result (seen c.arrive.new.self ≡ arrived (seen c.next_call.new.self) c.in-Some.b) (IsFurther calls s (seen c.arrive.new.self))
    (λ e. subst (λ (t : State). IsFurther calls s t) (sym (e ∙ ap (λ (t : State). arrived t c.in-Some.b) same)) done) c.arrive.ensures.done
