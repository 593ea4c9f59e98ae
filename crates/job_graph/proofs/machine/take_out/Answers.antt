use Rattle.std.proofs.Common.{◌≡◌, ◌+◌, ℕ, true, false, List, ◌++◌, take, drop, nat_cmp, Result, Ok, Err, sym, ap, ◌∙◌, subst, arith, add-one}
use Rattle.std.specs.List.Sorted.{IsBinarySearchResult}
use Rattle.std.proofs.lemmas.List.Sorted.{searched}
use Rattle.std.proofs.Math.Decide.{dec_lt}
use mathlib.Core.Logic.{dite}
use Rattle.job_graph.specs.Graph.{AreAscending, has}
use Rattle.job_graph.specs.Machine.{less}
use Rattle.job_graph.proofs.Taken.{taken_out, none_before, ascending_at, not_item, less_none}
use Rattle.job_graph.proofs.machine.take_out.Goals as goal

-- the place that was found is the number's
taken : (xs ys zs : List ℕ) (x place high : ℕ) (r : Result ℕ ℕ) → AreAscending 0 xs high → ys ≡ xs → IsBinarySearchResult (λ y. nat_cmp y x) ys r → r ≡ Ok place
    → zs ≡ take place xs ++ drop (place + 1) xs → (true ≡ has x xs) × (zs ≡ less x xs)
taken xs ys zs x place high r a e b is rest =
    let all = searched xs x r (subst (λ l. IsBinarySearchResult (λ y. nat_cmp y x) l r) e b) (λ i j le l. ascending_at 0 xs high i j a le l) in
    let at = rw is at all in
    let none : has x (take place xs) ≡ false = subst (λ n. has n (take place xs) ≡ false) at.1 (none_before 0 xs high place a at.0) in
    let t = taken_out x xs place at.0 at.1 none in (sym t.0, rest ∙ ap (λ n. take place xs ++ drop n xs) (add-one place) ∙ t.1)

missing : (xs ys : List ℕ) (x place high : ℕ) (r : Result ℕ ℕ) → AreAscending 0 xs high → ys ≡ xs → IsBinarySearchResult (λ y. nat_cmp y x) ys r → r ≡ Err place → has x xs ≡ false
missing xs ys x place high r a e b is =
    let all = searched xs x r (subst (λ l. IsBinarySearchResult (λ y. nat_cmp y x) l r) e b) (λ i j le l. ascending_at 0 xs high i j a le l) in
    let at = rw is at all in
    not_item x xs (λ k l s. dite (dec_lt k place) (λ m. let q = at.1 k m in absurd (omega arith)) (λ m. let q = at.2 k (omega arith) l in absurd (omega arith)))

pub returns-in-Ok-clause-found : goal.returns-in-Ok-clause-found
returns-in-Ok-clause-found c = (taken c.args.list.now.items c.deref.result.now c.remove.new.self.items c.args.number c.in-Ok.place c.requires.0 c.binary_search.result c.requires.1 c.deref.ensures.value c.binary_search.ensures.position c.in-Ok.is c.remove.ensures.by_index.2).0

pub returns-in-Ok-clause-rest : goal.returns-in-Ok-clause-rest
returns-in-Ok-clause-rest c = (taken c.args.list.now.items c.deref.result.now c.remove.new.self.items c.args.number c.in-Ok.place c.requires.0 c.binary_search.result c.requires.1 c.deref.ensures.value c.binary_search.ensures.position c.in-Ok.is c.remove.ensures.by_index.2).1

pub returns-in-Err-clause-found : goal.returns-in-Err-clause-found
returns-in-Err-clause-found c = sym (missing c.args.list.now.items c.deref.result.now c.args.number c.in-Err.field-0 c.requires.0 c.binary_search.result c.requires.1 c.deref.ensures.value c.binary_search.ensures.position c.in-Err.is)

pub returns-in-Err-clause-rest : goal.returns-in-Err-clause-rest
returns-in-Err-clause-rest c = sym (less_none c.args.number c.args.list.now.items (missing c.args.list.now.items c.deref.result.now c.args.number c.in-Err.field-0 c.requires.0 c.binary_search.result c.requires.1 c.deref.ensures.value c.binary_search.ensures.position c.in-Err.is))
