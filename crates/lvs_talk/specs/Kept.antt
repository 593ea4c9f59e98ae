-- What stands behind a sink that is heard, and behind a depot that is watched or shown: the sink,
-- the depot.
use Rattle.lvs_outside.specs.Store.{Store}
use Rattle.lvs_outside.specs.Summary.{SinkState}
use Rattle.lvs_talk.specs.declared.heard.Heard.{Heard}
use Rattle.lvs_talk.specs.declared.shown.Shown.{Shown}
use Rattle.lvs_talk.specs.declared.watched.Watched.{Watched}

-- the state of the sink behind
abbrev pub heard_state : {S : Type 0} → (S → SinkState) → Heard S → SinkState
heard_state state h = state h.inner

-- the state of the depot behind
abbrev pub watched_state : {D : Type 0} → (D → Store) → Watched D → Store
watched_state state w = state w.inner

-- the state of the depot behind
abbrev pub shown_state : {D P : Type 0} → (D → Store) → Shown D P → Store
shown_state state s = state s.inner
