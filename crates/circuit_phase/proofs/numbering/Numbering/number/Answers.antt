use Rattle.std.proofs.Common.{◌≡◌, inl, ◌<◌, ◌∙◌, ℕ, List, Some, None, slice_get, length, refl, ap, subst, rules}
use Rattle.std.proofs.lemmas.Option.{slice_get_within}
use Rattle.circuit_phase.specs.Numbering.{Numbered, with_net}
use Rattle.circuit_phase.proofs.Counting.{at_last, number_at, numbered_more, with_new, with_old}
use Rattle.circuit_phase.proofs.numbering.Numbering.number.Goals as goal

pub returns-in-Some-clause-nets : goal.returns-in-Some-clause-nets
returns-in-Some-clause-nets c =
    let a = c.self.inside in
    let at = number_at a c.args.self.now c.args.net c.index.result.now (Some c.in-Some.number) c.self.view_is c.requires c.index.ensures c.in-Some.is in
    subst (λ (l : List ℕ). l ≡ with_net l c.args.net) (ap (λ (v : Numbered). v.nets) c.self.view_is) (with_old a.numbers.items a.nets.items c.args.net c.in-Some.number c.self.invariant at)

pub returns-in-Some-clause-number : goal.returns-in-Some-clause-number
returns-in-Some-clause-number c =
    let a = c.self.inside in
    let at = number_at a c.args.self.now c.args.net c.index.result.now (Some c.in-Some.number) c.self.view_is c.requires c.index.ensures c.in-Some.is in
    subst (λ (l : List ℕ). slice_get l c.in-Some.number ≡ Some c.args.net) (ap (λ (v : Numbered). v.nets) c.self.view_is) (c.self.invariant.stands c.args.net c.in-Some.number at)

pub returns-in-Some-clause-next : goal.returns-in-Some-clause-next
returns-in-Some-clause-next c =
    let a = c.self.inside in
    let at = number_at a c.args.self.now c.args.net c.index.result.now (Some c.in-Some.number) c.self.view_is c.requires c.index.ensures c.in-Some.is in
    let lt = slice_get_within a.nets.items c.in-Some.number c.args.net (c.self.invariant.stands c.args.net c.in-Some.number at) in
    inl (subst (λ (l : List ℕ). c.in-Some.number < length l) (ap (λ (v : Numbered). v.nets) c.self.view_is) lt, refl)

pub invariant_of-self-2 : goal.invariant_of-self-2
invariant_of-self-2 c =
    let a = c.self.inside in
    let at = number_at a c.args.self.now c.args.net c.index.result.now None c.self.view_is c.requires c.index.ensures c.in_default.is in
    let kept : c.in_ok-number.number ≡ c.len.result = search rules in
    rw c.in_ok-push.ensures.items (numbered_more a.numbers.items a.nets.items c.args.net c.in_ok-number.number c.self.invariant at (kept ∙ c.len.ensures ∙ a.nets.ok.0))

pub returns-clause-nets : goal.returns-clause-nets
returns-clause-nets c =
    let a = c.self.inside in
    let at = number_at a c.args.self.now c.args.net c.index.result.now None c.self.view_is c.requires c.index.ensures c.in_default.is in
    c.in_ok-push.ensures.items ∙ with_new a.numbers.items a.nets.items c.args.net c.self.invariant at ∙ ap (λ (v : Numbered). with_net v.nets c.args.net) c.self.view_is

pub returns-clause-number : goal.returns-clause-number
returns-clause-number c =
    let a = c.self.inside in
    let kept : c.in_ok-number.number ≡ c.len.result = search rules in
    rw c.in_ok-push.ensures.items (at_last a.nets.items c.args.net c.in_ok-number.number (kept ∙ c.len.ensures ∙ a.nets.ok.0))
