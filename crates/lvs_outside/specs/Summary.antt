-- What a taker of summary bytes means to its callers, and what a write does to that.
use Rattle.std.specs.Prelude.{◌≡◌, ℕ, ◌+◌, ◌-◌, ◌<◌, ◌≤◌, ◌^◌, List, take, length, Result, OnErr}
use Rattle.std.specs.Prelude.{IfOk}
use Rattle.lvs_outside.specs.Store.{Told, HasCause, appended, empty_take}

-- all that a sink means
pub record SinkState : Type 0 where
  -- what it tells of the bytes taken so far: nothing, or all of them
  pub told : Told
  -- calls of `write`
  pub write_calls : ℕ
  -- calls that failed
  pub faults : ℕ
  -- writes that took nothing of a piece that isn't empty
  pub empty_takes : ℕ

-- each call's condition: no count stands at its type's end
abbrev pub SinkHasRoom : SinkState → Type 0
SinkHasRoom s = s.faults + s.empty_takes < 2 ^ 64 - 1

-- a sink that was just made: every count is 0
pub record SinkIsFresh (s : SinkState) : Type 0 where
  pub write_calls : s.write_calls ≡ 0
  pub faults : s.faults ≡ 0
  pub empty_takes : s.empty_takes ≡ 0

pub record Took (old new : SinkState) (piece : List ℕ) (n : ℕ) : Type 0 where
  pub fits : n ≤ length piece
  pub told : new.told ≡ appended old.told (take n piece)
  pub empty_takes : new.empty_takes ≡ old.empty_takes + empty_take piece n

pub record NotTaken (old new : SinkState) : Type 0 where
  pub told : new.told ≡ old.told
  pub empty_takes : new.empty_takes ≡ old.empty_takes

-- `write`: takes a prefix of the piece and answers its length
pub record Takes {E : Type 0} (old new : SinkState) (piece : List ℕ) (result : Result ℕ E) : Type 0
  where
    pub ok : IfOk result (Took old new piece)
    pub err : OnErr result (NotTaken old new)
    pub write_calls : new.write_calls ≡ old.write_calls + 1
    pub cause : HasCause old.faults new.faults result

-- a sink whose empty takes are counted as faults
abbrev pub counted_sink : SinkState → SinkState
counted_sink s = record {
  told = s.told;
  write_calls = s.write_calls;
  faults =
      s.faults + s.empty_takes;
  empty_takes = 0;
}
