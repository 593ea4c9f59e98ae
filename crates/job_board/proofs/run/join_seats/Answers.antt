use Rattle.std.proofs.Common.{◌≡◌, ◌⊎◌, ◌+◌, ℕ, zero, suc, List, [], ◌∷◌, ◌++◌, All, IfOk, length, subst, ap, arith, inl, inr, ⊎_elim, length-append}
use Rattle.job_board.specs.Board.{BoardState, SeatState, KeepsSeen, Stopped, parts_of}
use Rattle.job_board.specs.Work.{HasEnded, IsLessBy}
use Rattle.job_board.proofs.run.join_seats.Goals as goal

all_cons : {A : Type 0} (P : A → Type 0) (y : A) (ys : List A) → P y → All P ys → All P (y ∷ ys)
all_cons P y ys p a zero d l = p
all_cons P y ys p a (suc i) d l = a i d (omega arith)

all_last : {A : Type 0} (P : A → Type 0) (xs : List A) (x : A) → All P (xs ++ x ∷ []) → All P xs × P x
all_last P [] x a = ((λ i d l. absurd (omega arith)), a 0 x (omega arith))
all_last P (y ∷ ys) x a = let r = all_last P ys x (λ i d l. a (suc i) d (omega arith)) in (all_cons P y ys (a 0 y (omega arith)) r.0, r.1)

-- one seat more is back
back : {T K : Type 0} (n m : ℕ) (b : BoardState T K) (old other new : SeatState T K) → IsLessBy n b old → HasEnded b other → KeepsSeen b old new → ((Stopped new → Stopped old ⊎ Stopped other)) → parts_of new ≡ parts_of old + parts_of other
    → n ≡ m + 1 → IsLessBy m b new
back n m b old other new less ended seen stop parts count = let p = less.parts in let o = ended.still.own.part in record {
  seat = seen.board;
  parts = omega arith;
  calm = λ s. ⊎_elim less.calm ended.still.own.calm (stop s);
}

pub loop-end-preserved : goal.loop-end-preserved
loop-end-preserved g c =
    let v = c.loop-end.invariant in let b = c.args.board.now in
    let popped : c.loop-end.ended.items ≡ c.pop.new.self.items ++ c.in-Some.end ∷ [] = (c.in-Some.ensures {u = tt}).items in
    let l = ap length popped in let k = length-append c.pop.new.self.items (c.in-Some.end ∷ []) in
    let all = all_last (λ r. IfOk r (HasEnded b)) c.pop.new.self.items c.in-Some.end (subst (All (λ r. IfOk r (HasEnded b))) popped v.1) in
    let ended : HasEnded b c.in-Ok.other = subst (λ r. IfOk r (HasEnded b)) c.in-Ok.is all.1 in
    let e = c.join.ensures in (
      back (length c.loop-end.ended.items) (length c.pop.new.self.items) b c.loop-end.seat c.in-Ok.other c.join.new.seat v.0 ended e.seat (λ s. e.stop.0 s) e.parts (omega arith),
      all.0,
      inr (⊎_elim (λ a. inl (e.all a)) (λ s. inr (e.told s)) ended.cause),
    )

pub loop-end-smaller : goal.loop-end-smaller
loop-end-smaller g c =
    let popped : c.loop-end.ended.items ≡ c.pop.new.self.items ++ c.in-Some.end ∷ [] = (c.in-Some.ensures {u = tt}).items in
    let l = ap length popped in let k = length-append c.pop.new.self.items (c.in-Some.end ∷ []) in omega arith
