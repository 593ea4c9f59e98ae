-- A walk along calls, deep first, that finds rings: numbers that reach each other.
use Rattle.std.specs.Prelude.{◌≡◌, ◌⊎◌, ℕ, ◌+◌, ◌-◌, ◌*◌, ◌<◌, ◌≤◌, Bool, true, false, ◌==◌, nat_lt}
use Rattle.std.specs.Prelude.{List, [], ◌∷◌, ◌++◌, length, take, drop, reverse, slice_index}
use Rattle.std.specs.Prelude.{slice_index_or, slice_set, Option, Some, None, if◌then◌else◌}
use Rattle.plain_netlist.specs.Chains.{Reaches}
use Rattle.plain_netlist.specs.Lists.{IsListed, AreApart}
use Rattle.call_order.specs.Order.{Calls, AreInRange, ReachesItself}
use Rattle.call_order.specs.declared.walk.Place.{Place}
use Rattle.call_order.specs.declared.walk.Place.TheVariants.{Unseen, Open, Closed}
use Rattle.call_order.specs.declared.walk.Ring.{Ring}
use Rattle.call_order.specs.declared.walk.Walk.{Walk}

-- how many calls of each number were followed, where each number stands, the path, the numbers of
-- the path that may have calls left, the rings of the path, the last first, the closed numbers, and
-- the least one found that reaches itself
pub record State : Type 0 where
  pub followed : List ℕ
  pub places : List Place
  pub path : List ℕ
  pub work : List ℕ
  pub rings : List Ring
  pub order : List ℕ
  pub first : Option ℕ

abbrev pub seen : Walk → State
seen w = record {
  followed = w.followed.items;
  places = w.places.items;
  path = w.path.items;
  work = w.work.items;
  rings = reverse w.rings.items;
  order = w.order.items;
  first = w.first;
}

-- ---- what the steps do

-- a number more on the path, a ring by itself
abbrev pub opened : State → ℕ → State
opened s k = record s {
  places = slice_set s.places k (Open (length s.path));
  path = s.path ++ k ∷ [];
  work = s.work ++ k ∷ [];
  rings = record { path = length s.path; work = length s.work; is_cycle = false } ∷ s.rings;
}

abbrev pub begun_at : State → ℕ → Place → State
begun_at s k Unseen = opened s k
begun_at s k (Open place) = s
begun_at s k Closed = s

-- a number is opened that was not met
abbrev pub begun : State → ℕ → State
begun s k = begun_at s k (slice_index_or s.places k Unseen)

-- a call more of this number
abbrev pub followed_on : State → ℕ → State
followed_on s v = record s { followed = slice_set s.followed v (slice_index s.followed v + 1) }

-- the rings behind a place of the path and the one that it is in are one ring, and a cycle
abbrev pub joined_rings : ℕ → List Ring → List Ring
joined_rings place [] = []
joined_rings place (r ∷ rs) =
    if nat_lt place r.path then joined_rings place rs else record r { is_cycle = true } ∷ rs

abbrev pub joined : State → ℕ → State
joined s place = record s { rings = joined_rings place s.rings }

abbrev pub arrived_at : State → ℕ → Place → State
arrived_at s b Unseen = opened s b
arrived_at s b (Open place) = joined s place
arrived_at s b Closed = s

-- a call leads to this number
abbrev pub arrived : State → ℕ → State
arrived s b = arrived_at s b (slice_index_or s.places b Unseen)

-- the last of the work is done
abbrev pub rested : State → State
rested s = record s { work = take (length s.work - 1) s.work }

abbrev pub lesser : Option ℕ → ℕ → Option ℕ
lesser None k = Some k
lesser (Some f) k = if nat_lt k f then Some k else Some f

-- these numbers are closed, and in a cycle or in none
abbrev pub closing : Bool → List ℕ → State → State
closing is_cycle [] s = s
closing is_cycle (k ∷ ks) s = closing is_cycle ks (record s {
  places = slice_set s.places k Closed;
  order = s.order ++ k ∷ [];
  first = (if is_cycle then lesser s.first k else s.first);
})

-- a ring, which is the last no more, leaves the path
abbrev pub without : State → Ring → State
without s r =
    let c = closing r.is_cycle (drop r.path s.path) s in record c { path = take r.path c.path }

abbrev pub left_from : State → List Ring → State
left_from s [] = s
left_from s (r ∷ rs) = if r.work == length s.work then without (record s { rings = rs }) r else s

-- where the last ring has no work, it leaves the path
abbrev pub left : State → State
left s = left_from s s.rings

-- calls that are still to be followed
abbrev pub calls_left : List (List ℕ) → List ℕ → ℕ
calls_left [] ns = 0
calls_left (row ∷ rows) [] = 0
calls_left (row ∷ rows) (n ∷ ns) = (length row - n) + calls_left rows ns

abbrev pub weight : List (List ℕ) → State → ℕ
weight calls s = 2 * calls_left calls s.followed + length s.work

-- ---- what holds all along

abbrev pub place_of : State → ℕ → Place
place_of s k = slice_index_or s.places k Unseen

-- the number at a place of the path
abbrev pub at : State → ℕ → ℕ
at s i = slice_index s.path i

abbrev pub worked : State → ℕ → ℕ
worked s m = slice_index s.work m

pub record IsLast (v : ℕ) (work : List ℕ) : Type 0 where
  pub some : 0 < length work
  pub last : slice_index work (length work - 1) ≡ v

abbrev pub IsUnmet : State → ℕ → Type 0
IsUnmet s k = place_of s k ≡ Unseen

-- the numbers of the path have places
abbrev pub AreThere : State → Type 0
AreThere s = (i : ℕ) → i < length s.path → at s i < length s.places

-- what was met stays so, and this number was
pub record HasMet (s t : State) (k : ℕ) : Type 0 where
  pub others : (j : ℕ) → IsUnmet t j → IsUnmet s j
  pub this : IsUnmet t k → ⊥

-- a call that was followed
abbrev pub Followed : List (List ℕ) → State → ℕ → ℕ → Type 0
Followed calls s a b = IsListed b (take (slice_index s.followed a) (slice_index_or calls a []))

abbrev pub AreFollowed : List (List ℕ) → State → ℕ → Type 0
AreFollowed calls s a = length (slice_index_or calls a []) ≤ slice_index s.followed a

-- the nth call of v, of b, comes next
pub record IsNext (calls : List (List ℕ)) (s : State) (v b : ℕ) : Type 0 where
  pub low : slice_index s.followed v < length (slice_index_or calls v [])
  pub called : slice_index (slice_index_or calls v []) (slice_index s.followed v) ≡ b

-- a call is taken, or there is none left
abbrev pub TakesCall : List (List ℕ) → State → State → ℕ → Option ℕ → Type 0
TakesCall calls s t v None = AreFollowed calls s v × (t ≡ s)
TakesCall calls s t v (Some b) = IsNext calls s v b × (t ≡ followed_on s v)

-- closed, or on the path at this place or behind
abbrev pub IsBehind : State → ℕ → ℕ → Type 0
IsBehind s place b = (place_of s b ≡ Closed) ⊎ ((j : ℕ) × (place ≤ j) × (place_of s b ≡ Open j))

-- a ring up to the place e of the path and f of the work: its members reach each other, what was
-- followed doesn't lead before it, and what may have calls left is worked on
pub record IsRing (calls : List (List ℕ)) (s : State) (r : Ring) (e f : ℕ) : Type 0 where
  pub some : r.path < e
  pub some_work : r.work < f
  pub out : (i : ℕ) → r.path ≤ i → i < e → Reaches (Calls calls) (at s r.path) (at s i)
  pub back : (i : ℕ) → r.path ≤ i → i < e → Reaches (Calls calls) (at s i) (at s r.path)
  pub calls_in : (i b : ℕ) → r.path ≤ i → i < e → Followed calls s (at s i) b → IsBehind s r.path b
  pub turns : r.is_cycle ≡ true → ReachesItself calls (at s r.path)
  pub alone : r.is_cycle ≡ false → e ≡ r.path + 1
  pub straight : r.is_cycle ≡ false → Followed calls s (at s r.path) (at s r.path) → ⊥
  pub works : (m : ℕ) → r.work ≤ m → m < f
      → (i : ℕ) × (r.path ≤ i) × (i < e) × (at s i ≡ worked s m)
  pub waits : (i : ℕ) → r.path ≤ i → i < e
      → AreFollowed calls s (at s i) ⊎ ((m : ℕ) × (r.work ≤ m) × (m < f) × (at s i ≡ worked s m))

-- the ring before reaches this one
abbrev pub IsLinked : List (List ℕ) → State → Ring → List Ring → Type 0
IsLinked calls s r [] = Unit {0}
IsLinked calls s r (q ∷ qs) = Reaches (Calls calls) (at s q.path) (at s r.path)

-- rings, the last first, that make up the path up to the place e and the work up to f
abbrev pub AreRings : List (List ℕ) → State → ℕ → ℕ → List Ring → Type 0
AreRings calls s e f [] = (e ≡ 0) × (f ≡ 0)
AreRings calls s e f (r ∷ rs) =
    IsRing calls s r e f × IsLinked calls s r rs × AreRings calls s r.path r.work rs

-- the least number with C that has R, or that none has
abbrev pub LeastOf : (C R : ℕ → Type 0) → Option ℕ → Type 0
LeastOf C R None = (k : ℕ) → C k → R k → ⊥
LeastOf C R (Some f) = R f × ((k : ℕ) → C k → R k → f ≤ k)

abbrev pub IsClosed : State → ℕ → Type 0
IsClosed s k = place_of s k ≡ Closed

-- each number behind those that it calls, as long as none was found that reaches itself
abbrev pub AreBehind : List (List ℕ) → List ℕ → Option ℕ → Type 0
AreBehind calls order None = (i b : ℕ) → i < length order → Calls calls (slice_index order i) b
    → IsListed b (take i order)
AreBehind calls order (Some f) = Unit {0}

-- all but the rings
pub record IsBase (calls : List (List ℕ)) (s : State) : Type 0 where
  pub range : AreInRange calls
  pub followed_len : length s.followed ≡ length calls
  pub places_len : length s.places ≡ length calls
  pub on_path : (i : ℕ) → i < length s.path → place_of s (at s i) ≡ Open i
  pub open_place : (k i : ℕ) → place_of s k ≡ Open i → (i < length s.path) × (at s i ≡ k)
  pub fresh : (k : ℕ) → IsUnmet s k → slice_index s.followed k ≡ 0
  pub closed_calls : (a b : ℕ) → IsClosed s a → Calls calls a b → IsClosed s b
  pub closed_listed : (k : ℕ) → IsClosed s k → IsListed k s.order
  pub listed_closed : (k : ℕ) → IsListed k s.order → IsClosed s k
  pub apart : AreApart s.order
  pub least : LeastOf (IsClosed s) (ReachesItself calls) s.first
  pub behind : AreBehind calls s.order s.first

pub record IsWalk (calls : List (List ℕ)) (s : State) : Type 0 where
  pub base : IsBase calls s
  pub rings : AreRings calls s (length s.path) (length s.work) s.rings

-- one step further: less is left, and what was seen stays so
pub record IsFurther (calls : List (List ℕ)) (s t : State) : Type 0 where
  pub walk : IsWalk calls t
  pub less : weight calls t < weight calls s
  pub met : (k : ℕ) → IsUnmet t k → IsUnmet s k
