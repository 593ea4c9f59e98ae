use Rattle.std.proofs.Common.{ℕ, List, refl, subst}
use Rattle.match_rounds.specs.Classes.{class_in}
use Rattle.refine_match.specs.Ties.{IsFirstIn}
use Rattle.refine_match.proofs.RightOnes.{passed}
use Rattle.refine_match.proofs.rights.Rights.pass.Goals as goal

pub returns : goal.returns
returns c =
    let s = c.index-span.result.now in
    passed c.args.self.now c.args.graph.now c.args.classes.now c.args.class c.first_in-next.result s (_) c.requires.rights c.requires.class c.index-span.ensures
    (subst (λ (xs : List ℕ). IsFirstIn xs (class_in c.args.classes.now) c.args.class s.next s.end c.first_in-next.result) c.deref.ensures.value c.first_in-next.ensures) refl
