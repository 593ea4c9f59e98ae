use Rattle.std.proofs.Common.{◌≡◌, ◌+◌, ◌<◌, ℕ, zero, suc, List, [], ◌∷◌, ◌++◌, All, length, sym, subst, ap, ◌∙◌, arith, length-append}
use Rattle.job_board.specs.Board.{BoardState, SeatState, KeepsSeat, GivesOne, with_parts, parts_of}
use Rattle.job_board.specs.Work.{MayGoOn, IsLessBy}
use Rattle.job_board.proofs.run.split_seats.Goals as goal

all_more : {A : Type 0} (P : A → Type 0) (xs : List A) (x : A) → All P xs → P x → All P (xs ++ x ∷ [])
all_more P [] x a p zero d l = p
all_more P [] x a p (suc k) d l = absurd (omega arith)
all_more P (y ∷ ys) x a p zero d l = a 0 d (omega arith)
all_more P (y ∷ ys) x a p (suc k) d l = all_more P ys x (λ i e m. a (suc i) e (omega arith)) p k d (omega arith)

-- one seat more is away
module _ {T K : Type 0} (n : ℕ) (b : BoardState T K) (old new further : SeatState T K) (less : IsLessBy n b old) (few : n < 64) (gives : GivesOne old new further) where
  given : (parts_of new + 1 ≡ parts_of old) × (parts_of further ≡ 1)
  given = let p = less.parts in gives (omega arith)

  away : KeepsSeat b old new → new ≡ with_parts old (parts_of new) → IsLessBy (n + 1) b new
  away keeps same = let p = less.parts in let q = given.0 in record { seat = keeps.seen.board; parts = omega arith; calm = λ s. less.calm (sym (ap (λ (z : SeatState T K). z.me.0.stopped) same) ∙ s) }

pub loop-worker-preserved : goal.loop-worker-preserved
loop-worker-preserved g c = let v = c.loop-worker.invariant in let b = c.args.board.now in let e = c.in_ok-further.ensures in
    let few : c.loop-worker.worker < 64 = let l = c.requires.few in omega arith in
    let pushed = (c.in_ok-push.ensures {u = tt}).items in let k = length-append c.loop-worker.seats.items ((c.loop-worker.worker, c.in_ok-further.further) ∷ []) in let n = ap length pushed in (
      away c.loop-worker.worker b c.loop-worker.seat c.split.new.seat c.in_ok-further.further v.0 few e.parts e.seat e.same,
      omega arith,
      subst (All (λ w. MayGoOn b w.1)) (sym pushed)
          (all_more (λ w. MayGoOn b w.1) c.loop-worker.seats.items (c.loop-worker.worker, c.in_ok-further.further) v.2
          record { own = record { seat = e.further; part = (given c.loop-worker.worker b c.loop-worker.seat c.split.new.seat c.in_ok-further.further v.0 few e.parts).1; calm = e.calm }; free = e.free }),
    )
