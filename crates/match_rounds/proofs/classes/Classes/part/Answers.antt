use Rattle.std.proofs.Common.{◌≡◌, ◌≤◌, ◌<◌, ◌+◌, ℕ, List, length, slice_index, sym, subst, arith, ◌∙◌}
use Rattle.std.specs.Vec.{with_items}
use Rattle.std.proofs.lemmas.List.{with_items_is}
use Rattle.match_parts.proofs.Read.{read}
use Rattle.match_rounds.specs.Order.{AreToPull, whole_of}
use Rattle.match_rounds.specs.Classes.{class_count, node_count}
use Rattle.match_rounds.specs.declared.classes.Classes.{Classes}
use Rattle.match_rounds.proofs.Apart.{few_classes}
use Rattle.match_rounds.proofs.Parted.{to_pull, few_left, HasParted, finish}
use Rattle.match_rounds.proofs.classes.Classes.part.Goals as goal
use Rattle.match_rounds.proofs.classes.Classes.part.Goals.{After-len-fresh, In_ok-split_off-2}

-- what was read
record WasRead (old : Classes) (nodes : List ℕ) (w begin size : ℕ) : Type 0 where
  whole : w ≡ whole_of old.class_of.items nodes
  low : w < class_count old
  size_is : size ≡ slice_index old.counts.size.items w
  begin_is : begin ≡ slice_index old.begin.items w
  few : class_count old ≤ node_count old
  fits : slice_index old.begin.items w + slice_index old.counts.size.items w ≤ node_count old

was_read : (c : After-len-fresh) → WasRead c.args.self.now c.args.nodes.now c.index-whole.result.now c.index-begin.result.now c.index-size.result.now
was_read c =
    let h = c.requires.partition.classes in
    let wl = c.requires.nodes.below 0 c.requires.nodes.some in
    let ew = read c.args.self.now.class_of.items (slice_index c.args.nodes.now 0) c.index-whole.result.now (omega arith) c.index-whole.ensures in
    let low : c.index-whole.result.now < class_count c.args.self.now = subst (λ (x : ℕ). x < class_count c.args.self.now) (sym ew) (h.below (slice_index c.args.nodes.now 0) wl) in
    let begins = h.begins in
    record {
      whole = ew;
      low = low;
      size_is = read c.args.self.now.counts.size.items c.index-whole.result.now c.index-size.result.now (omega arith) c.index-size.ensures;
      begin_is = read c.args.self.now.begin.items c.index-whole.result.now c.index-begin.result.now (omega arith) c.index-begin.ensures;
      few = few_classes c.args.self.now (node_count c.args.self.now) h;
      fits = h.fits c.index-whole.result.now low;
    }

pub overflow_cast-fresh : goal.overflow_cast-fresh
overflow_cast-fresh c = let r = was_read c in let few = r.few in let small = c.requires.partition.classes.small in let b = c.requires.partition.classes.begins in omega arith

pub pull_out-requires : goal.pull_out-requires
pull_out-requires c =
    let r = was_read (goal.at.pull_out-requires c).After-len-fresh in
    let few = c.if-nodes-size.false in
    let size = r.size_is in
    let ask = to_pull c.args.self.now c.args.nodes.now (node_count c.args.self.now) c.index-whole.result.now c.requires.partition.classes c.requires.nodes r.whole (omega arith) in
    let a = subst (λ (x : ℕ). AreToPull c.args.self.now.order c.args.self.now.class_of.items c.args.nodes.now (node_count c.args.self.now) x (slice_index c.args.self.now.counts.size.items c.index-whole.result.now) (class_count c.args.self.now)) (sym r.begin_is) ask in
    let b = subst (λ (x : ℕ). AreToPull c.args.self.now.order c.args.self.now.class_of.items c.args.nodes.now (node_count c.args.self.now) c.index-begin.result.now x (class_count c.args.self.now)) (sym r.size_is) a in
    let d = subst (λ (x : ℕ). AreToPull c.args.self.now.order c.args.self.now.class_of.items c.args.nodes.now (node_count c.args.self.now) c.index-begin.result.now c.index-size.result.now x) (let e = c.len-fresh.ensures in let g = c.requires.partition.classes.begins in omega arith) b in
    record { pull = subst (λ (x : List ℕ). AreToPull c.args.self.now.order x c.args.nodes.now (length x) c.index-begin.result.now c.index-size.result.now c.len-fresh.result) (sym c.deref_mut.ensures.value) d }

pub overflow_add-begin : goal.overflow_add-begin
overflow_add-begin c =
    let r = was_read (goal.at.overflow_add-begin c).After-len-fresh in
    let size = r.size_is in let begin = r.begin_is in let fits = r.fits in let small = c.requires.partition.classes.small in
    omega arith

pub split_off-requires-clause-left : goal.split_off-requires-clause-left
split_off-requires-clause-left c =
    let r = was_read (goal.at.split_off-requires-clause-left c).After-len-fresh in
    let few = few_left c.args.self.now c.args.nodes.now c.args.left_count (node_count c.args.self.now) c.index-whole.result.now c.requires.partition.classes c.requires.nodes c.requires.partition.counted c.requires.partition.inside r.whole in
    let is = c.count_below.ensures in
    omega arith

pub split_off-requires-2-clause-small : goal.split_off-requires-2-clause-small
split_off-requires-2-clause-small c =
    let r = was_read (goal.at.split_off-requires-2-clause-small c).After-len-fresh in
    let few = r.few in let small = c.requires.partition.classes.small in let b = c.requires.partition.classes.marks in
    omega arith

-- the classes at the end
abbrev after : In_ok-split_off-2 → Classes
after c = record { class_of = with_items c.args.self.now.class_of c.pull_out.new.class_of; order = c.pull_out.new.self; begin = c.push.new.self; counts = c.split_off.new.self; marks = c.split_off-2.new.self }

finished : (c : In_ok-split_off-2) → WasRead c.args.self.now c.args.nodes.now c.index-whole.result.now c.index-begin.result.now c.index-size.result.now → HasParted c.args.self.now (after c) c.args.nodes.now c.args.left_count (node_count c.args.self.now)
finished c r =
    let few = c.if-nodes-size.false in
    finish c.args.self.now (after c) c.args.nodes.now c.deref_mut.result.now c.pull_out.new.class_of c.args.left_count c.index-whole.result.now c.index-begin.result.now c.index-size.result.now c.len-fresh.result c.count_below.result
    c.requires.partition c.requires.nodes c.deref_mut.ensures.value (sym (with_items_is c.args.self.now.class_of c.pull_out.new.class_of (c.pull_out.auto.class_of ∙ c.deref_mut.ensures.len)))
    r.whole r.begin_is r.size_is (let e = c.len-fresh.ensures in let g = c.requires.partition.classes.begins in omega arith) (omega arith) c.pull_out.ensures c.in_ok-push.ensures.items
    c.in_ok-split_off.ensures.flagged c.in_ok-split_off.ensures.split c.count_below.ensures c.in_ok-split_off-2.ensures.listed c.in_ok-split_off-2.ensures.halved

pub returns-clause-partition : goal.returns-clause-partition
returns-clause-partition c = (finished c (was_read (goal.at.returns-clause-partition c).After-len-fresh)).partition

pub returns-clause-parted : goal.returns-clause-parted
returns-clause-parted c = (finished c (was_read (goal.at.returns-clause-parted c).After-len-fresh)).parted

pub returns-clause-fresh : goal.returns-clause-fresh
returns-clause-fresh c = (finished c (was_read (goal.at.returns-clause-fresh c).After-len-fresh)).fresh

pub returns-clause-grown : goal.returns-clause-grown
returns-clause-grown c = (finished c (was_read (goal.at.returns-clause-grown c).After-len-fresh)).grown
